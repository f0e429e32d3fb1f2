-- Weighing two fillings: where a weight rises by at most e along each link, the weighted loads rise by at most e for each unit that changes hands.
use Rattle.std.proofs.Common.{◌≡◌, ℕ, zero, suc, ◌+◌, ◌-◌, ◌*◌, ◌<◌, ◌≤◌, ◌⊎◌, sym, ap, ◌∙◌, subst, inl, inr, ⊎_elim, mul-le-mul_right, add-mul, mul-le-mul_left, mul-zero, mul-one, mul-add, arith}
use Rattle.std.proofs.lemmas.Bool.{cases_eq, cases_lt}
use Rattle.bases.specs.Sums.{sum_to, unit}
use Rattle.bases.proofs.Sums.{unit_other, sum_same, sum_le, sum_add, sum_none, sum_times, sum_unit, sum_swap, term_le}
use Rattle.items.specs.Fillings.{Shape, Fills, load_of, Link, changed}

-- of the seats that have more in f than in g, one has the least weight; or there is none
lightest : (n : ℕ) (f g d : ℕ → ℕ) → ((u : ℕ) × (u < n) × (g u < f u) × ((s : ℕ) → s < n → g s < f s → d u ≤ d s)) ⊎ ((s : ℕ) → s < n → f s ≤ g s)
lightest zero f g d = inr (λ s h. absurd (omega arith))
lightest (suc n) f g d = ⊎_elim some none (lightest n f g d)
  where
    upto : (P : ℕ → Type 0) → ((s : ℕ) → s < n → P s) → P n → (s : ℕ) → s < suc n → P s
    upto P below last s h = ⊎_elim (λ (e : s ≡ n). subst P (sym e) last) (λ ne. below s (omega arith)) (cases_eq s n)

    some : (u : ℕ) × (u < n) × (g u < f u) × ((s : ℕ) → s < n → g s < f s → d u ≤ d s)
        → ((u : ℕ) × (u < suc n) × (g u < f u) × ((s : ℕ) → s < suc n → g s < f s → d u ≤ d s)) ⊎ ((s : ℕ) → s < suc n → f s ≤ g s)
    some (u, hu, up, least) =
        ⊎_elim
        (λ here. ⊎_elim
        (λ lighter. inl (n, omega arith, here, upto (λ s. g s < f s → d n ≤ d s) (λ s h l. let m = least s h l in omega arith) (λ l. omega arith)))
        (λ no-lighter. inl (u, omega arith, up, upto (λ s. g s < f s → d u ≤ d s) least (λ l. no-lighter))) (cases_lt (d n) (d u)))
        (λ not-here. inl (u, omega arith, up, upto (λ s. g s < f s → d u ≤ d s) least (λ l. absurd (omega arith)))) (cases_lt (g n) (f n))

    none : ((s : ℕ) → s < n → f s ≤ g s) → ((u : ℕ) × (u < suc n) × (g u < f u) × ((s : ℕ) → s < suc n → g s < f s → d u ≤ d s)) ⊎ ((s : ℕ) → s < suc n → f s ≤ g s)
    none below =
        ⊎_elim
        (λ here. inl (n, omega arith, here, upto (λ s. g s < f s → d n ≤ d s) (λ s h l. absurd (let m = below s h in omega arith)) (λ l. omega arith)))
        (λ not-here. inr (upto (λ s. f s ≤ g s) below not-here)) (cases_lt (g n) (f n))

-- one seat: what it gains weighs at most D + e a unit, what it loses at least D
weigh_seat : (d D e x y : ℕ) → (y < x → D ≤ d) → (x < y → d ≤ D + e) → d * y + D * (x - y) ≤ d * x + (D + e) * (y - x)
weigh_seat d D e x y loses gains = ⊎_elim gain (λ le. ⊎_elim lose (λ ge. equal (omega arith)) (cases_lt y x)) (cases_lt x y)
  where
    gain : x < y → d * y + D * (x - y) ≤ d * x + (D + e) * (y - x)
    gain lt =
        let z : x - y ≡ 0 = omega arith in
        let w = ap (λ (k : ℕ). D * k) z ∙ mul-zero D in
        let split : y ≡ x + (y - x) = omega arith in
        let p = ap (λ (k : ℕ). d * k) split ∙ mul-add d x (y - x) in
        let q = mul-le-mul_right (y - x) (gains lt) in
        omega arith

    lose : y < x → d * y + D * (x - y) ≤ d * x + (D + e) * (y - x)
    lose lt =
        let split : x ≡ y + (x - y) = omega arith in
        let p = ap (λ (k : ℕ). d * k) split ∙ mul-add d y (x - y) in
        let q = mul-le-mul_right (x - y) (loses lt) in
        omega arith

    equal : x ≡ y → d * y + D * (x - y) ≤ d * x + (D + e) * (y - x)
    equal same =
        let z : x - y ≡ 0 = omega arith in
        let w = ap (λ (k : ℕ). D * k) z ∙ mul-zero D in
        let p = ap (λ (k : ℕ). d * k) same in
        omega arith

-- one item, given whole to its seats in two ways
module _ (n : ℕ) (f g d : ℕ → ℕ) (e : ℕ) (whole : sum_to n f ≡ sum_to n g)
    (rises : (u v : ℕ) → u < n → v < n → g u < f u → f v < g v → d v ≤ d u + e) where
  -- as much is gained as is lost
  gained_lost : sum_to n (λ s. f s - g s) ≡ sum_to n (λ s. g s - f s)
  gained_lost =
      let same = sum_same n (λ s. f s + (g s - f s)) (λ s. g s + (f s - g s)) (λ s h. omega arith) in
      let a = sum_add n f (λ s. g s - f s) in
      let b = sum_add n g (λ s. f s - g s) in
      omega arith

  weigh_item : sum_to n (λ s. d s * g s) ≤ sum_to n (λ s. d s * f s) + e * sum_to n (λ s. g s - f s)
  weigh_item = ⊎_elim some none (lightest n f g d)
    where
      some : (u : ℕ) × (u < n) × (g u < f u) × ((s : ℕ) → s < n → g s < f s → d u ≤ d s) → sum_to n (λ s. d s * g s) ≤ sum_to n (λ s. d s * f s) + e * sum_to n (λ s. g s - f s)
      some (u, hu, up, least) =
          let D = d u in
          let c = sum_to n (λ s. g s - f s) in
          let le = sum_le n (λ s. d s * g s + D * (f s - g s)) (λ s. d s * f s + (D + e) * (g s - f s)) (λ s h. weigh_seat (d s) D e (f s) (g s) (least s h) (rises u s hu h up)) in
          let a = sum_add n (λ s. d s * g s) (λ s. D * (f s - g s)) in
          let b = sum_add n (λ s. d s * f s) (λ s. (D + e) * (g s - f s)) in
          let x = sum_times n D (λ s. f s - g s) ∙ ap (λ (k : ℕ). D * k) gained_lost in
          let y = sum_times n (D + e) (λ s. g s - f s) ∙ add-mul D e c in
          omega arith

      none : ((s : ℕ) → s < n → f s ≤ g s) → sum_to n (λ s. d s * g s) ≤ sum_to n (λ s. d s * f s) + e * sum_to n (λ s. g s - f s)
      none below =
          let z = sum_none n (λ s. f s - g s) (λ s h. let b = below s h in omega arith) in
          let l = gained_lost in
          let le = sum_le n (λ s. d s * g s) (λ s. d s * f s) (λ s h. mul-le-mul_left (d s) (let t = term_le n (λ k. g k - f k) s h in omega arith)) in
          omega arith

module _ (shape : Shape) where
  -- the weighted sum of the loads, item by item
  weigh_loads : (f : ℕ → ℕ → ℕ) (d : ℕ → ℕ) → sum_to shape.seats (λ s. d s * load_of shape f s) ≡ sum_to shape.items (λ t. sum_to shape.seats (λ s. d s * f t s))
  weigh_loads f d =
      sum_same shape.seats (λ s. d s * load_of shape f s) (λ s. sum_to shape.items (λ t. d s * f t s)) (λ s h. sym (sum_times shape.items (d s) (λ t. f t s)))
      ∙ sym (sum_swap shape.items shape.seats (λ t s. d s * f t s))

  -- a weight that rises by at most e along each link of f
  pub weighed : (f g : ℕ → ℕ → ℕ) → Fills shape f → Fills shape g → (d : ℕ → ℕ) (e : ℕ) → ((u v : ℕ) → Link shape f u v → d v ≤ d u + e)
      → sum_to shape.seats (λ s. d s * load_of shape g s) ≤ sum_to shape.seats (λ s. d s * load_of shape f s) + e * changed shape f g
  weighed f g ff fg d e rises =
      let m = shape.items in
      let n = shape.seats in
      let each = sum_le m (λ t. sum_to n (λ s. d s * g t s)) (λ t. sum_to n (λ s. d s * f t s) + e * sum_to n (λ s. g t s - f t s)) (λ t ht. weigh_item n (f t) (g t) d e (ff.whole t ht ∙ sym (fg.whole t ht))
      (λ u v hu hv up down. rises u v (record {
        item = t;
        among = ht;
        donor = hu;
        receiver = hv;
        other = λ q. (let a = ap (f t) q in let b = ap (g t) q in omega arith);
        has = omega arith;
        takes = let w = fg.within t v ht hv in omega arith;
      }))) in
      let a = sum_add m (λ t. sum_to n (λ s. d s * f t s)) (λ t. e * sum_to n (λ s. g t s - f t s)) in
      let b = sum_times m e (λ t. sum_to n (λ s. g t s - f t s)) in
      let x = weigh_loads f d in
      let y = weigh_loads g d in
      omega arith

  -- where g has one unit more than f at j and one less at i, the weight of j is at most that of i and e for each unit that changed hands
  pub weighed_move : (f g : ℕ → ℕ → ℕ) → Fills shape f → Fills shape g → (d : ℕ → ℕ) (e : ℕ) → ((u v : ℕ) → Link shape f u v → d v ≤ d u + e)
      → (i j : ℕ) → i < shape.seats → j < shape.seats → ((s : ℕ) → s < shape.seats → load_of shape g s + unit i s ≡ load_of shape f s + unit j s) → d j ≤ d i + e * changed shape f g
  weighed_move f g ff fg d e rises i j hi hj moves =
      let n = shape.seats in
      let le = weighed f g ff fg d e rises in
      let eq = sum_same n (λ s. d s * load_of shape g s + d s * unit i s) (λ s. d s * load_of shape f s + d s * unit j s)
      (λ s h. sym (mul-add (d s) (load_of shape g s) (unit i s)) ∙ ap (λ (k : ℕ). d s * k) (moves s h) ∙ mul-add (d s) (load_of shape f s) (unit j s)) in
      let a = sum_add n (λ s. d s * load_of shape g s) (λ s. d s * unit i s) in
      let b = sum_add n (λ s. d s * load_of shape f s) (λ s. d s * unit j s) in
      let x = picks n i hi in
      let y = picks n j hj in
      omega arith
    where
      picks : (n k : ℕ) → k < n → sum_to n (λ s. d s * unit k s) ≡ d k
      picks n k h =
          sum_same n (λ s. d s * unit k s) (λ s. d k * unit k s) (λ s l. ⊎_elim
          (λ (q : k ≡ s). ap (λ (w : ℕ). w * unit k s) (ap d (sym q)))
          (λ nq. ap (λ (w : ℕ). d s * w) (unit_other k s nq) ∙ mul-zero (d s) ∙ sym (ap (λ (w : ℕ). d k * w) (unit_other k s nq) ∙ mul-zero (d k))) (cases_eq k s))
          ∙ sum_times n (d k) (unit k) ∙ ap (λ (w : ℕ). d k * w) (sum_unit n k h) ∙ mul-one (d k)
