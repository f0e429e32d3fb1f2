-- A base that no single move makes cheaper is the cheapest of all, where no seat's units grow cheaper.
use Rattle.std.proofs.Common.{◌≡◌, ℕ, zero, suc, ◌+◌, ◌-◌, ◌<◌, ◌≤◌, List, length, get_or, set, sym, refl, ap, subst, ⊎_elim, arith, length-set, get_or-set_other, get_or-set_same}
use Rattle.std.proofs.lemmas.Bool.{cases_eq}
use Rattle.bases.specs.Sums.{sum_to}
use Rattle.bases.specs.Exchange.{Exchange, Reaches, moved}
use Rattle.bases.proofs.Sums.{sum_same}
use Rattle.bases.proofs.Moves.{seat_of}
use Rattle.bases.proofs.Toward.{toward}
use Rattle.optima.specs.Costs.{cost}

-- sums whose terms agree but at one place differ by what they have there
sum_but_one : (n : ℕ) (f g : ℕ → ℕ) (i : ℕ) → i < n → ((k : ℕ) → k < n → (k ≡ i → ⊥) → f k ≡ g k) → sum_to n f + g i ≡ sum_to n g + f i
sum_but_one zero f g i h same = absurd (omega arith)
sum_but_one (suc n) f g i h same =
    ⊎_elim
    (λ (e : i ≡ n). let a = ap f e in let b = ap g e in let s = sum_same n f g (λ k l. same k (omega arith) (λ q. omega arith)) in omega arith)
    (λ ne. let s = sum_but_one n f g i (omega arith) (λ k l. same k (omega arith)) in let t = same n (omega arith) (λ q. ne (sym q)) in omega arith)
    (cases_eq i n)

-- the sum of a function of seat and load
abbrev pub sum_over : (ℕ → ℕ → ℕ) → List ℕ → ℕ
sum_over F x = sum_to (length x) (λ k. F k (get_or x k 0))

module _ (F : ℕ → ℕ → ℕ) where
  -- one load set anew
  sum_over_set : (x : List ℕ) (i v : ℕ) → i < length x → sum_over F (set x i v) + F i (get_or x i 0) ≡ sum_over F x + F i v
  sum_over_set x i v h =
      let l = length-set x i v in
      let at = ap (F i) (get_or-set_same x i v 0 h) in
      let len = ap (λ (m : ℕ). sum_to m (λ k. F k (get_or (set x i v) k 0))) l in
      let s = sum_but_one (length x) (λ k. F k (get_or (set x i v) k 0)) (λ k. F k (get_or x k 0)) i h (λ k hk ne. ap (F k) (get_or-set_other x i k v 0 ne)) in
      omega arith

  -- one unit moved
  pub sum_over_moved : (x : List ℕ) (i j : ℕ) → 0 < get_or x i 0 → j < length x → (i ≡ j → ⊥)
      → sum_over F (moved x i j) + F i (get_or x i 0) + F j (get_or x j 0) ≡ sum_over F x + F i (get_or x i 0 - 1) + F j (get_or x j 0 + 1)
  sum_over_moved x i j gives takes other =
      let without = set x i (get_or x i 0 - 1) in
      let l = length-set x i (get_or x i 0 - 1) in
      let at = ap (F j) (get_or-set_other x i j (get_or x i 0 - 1) 0 (λ q. other (sym q))) in
      let out = sum_over_set x i (get_or x i 0 - 1) (seat_of x i gives) in
      let into = sum_over_set without j (get_or x j 0 + 1) (omega arith) in
      omega arith

-- the costs of the units of a seat, with one unit more
costs_more : (f : ℕ → ℕ) (m k : ℕ) → k ≡ suc m → sum_to k (λ u. f (suc u)) ≡ sum_to m (λ u. f (suc u)) + f k
costs_more f m k e = subst (λ (a : ℕ). sum_to a (λ u. f (suc u)) ≡ sum_to m (λ u. f (suc u)) + f a) (sym e) refl

-- a move takes off the cost of the unit that goes, and adds that of the unit that comes
pub cost_moved : (φ : ℕ → ℕ → ℕ) (y : List ℕ) (j i : ℕ) → 0 < get_or y j 0 → i < length y → (j ≡ i → ⊥)
    → cost φ (moved y j i) + φ j (get_or y j 0) ≡ cost φ y + φ i (get_or y i 0 + 1)
cost_moved φ y j i gives takes other =
    let m = sum_over_moved (λ k load. sum_to load (λ u. φ k (suc u))) y j i gives takes other in
    let goes = costs_more (φ j) (get_or y j 0 - 1) (get_or y j 0) (omega arith) in
    let comes = costs_more (φ i) (get_or y i 0) (get_or y i 0 + 1) (omega arith) in
    omega arith

module _ (B : List ℕ → Type 0) (ex : Exchange B) (n : ℕ) (width : (x : List ℕ) → B x → length x ≡ n)
    (top : ℕ) (high : (x : List ℕ) → B x → (i : ℕ) → get_or x i 0 ≤ top) where
  -- where no seat's units grow cheaper, a base that no single move makes cheaper costs at most what any base costs
  pub least_cost : (φ : ℕ → ℕ → ℕ) → ((i u v : ℕ) → i < n → 1 ≤ u → u ≤ v → v ≤ top → φ i u ≤ φ i v)
      → (x : List ℕ) → B x → ((i j : ℕ) → Reaches B x i j → φ i (get_or x i 0) ≤ φ j (get_or x j 0 + 1))
      → (y : List ℕ) → B y → cost φ x ≤ cost φ y
  least_cost φ rises x hx no-cheaper =
      toward B ex n width x hx (λ z. cost φ x ≤ cost φ z) (omega arith) nearer
    where
      nearer : (y : List ℕ) → B y → (i j : ℕ) → get_or y i 0 < get_or x i 0 → get_or x j 0 < get_or y j 0 → B (moved x i j) → B (moved y j i)
          → cost φ x ≤ cost φ (moved y j i) → cost φ x ≤ cost φ y
      nearer y hy i j up down bx bz le =
          let lx = width x hx in
          let ly = width y hy in
          let seat-i = seat_of x i (omega arith) in
          let seat-j = seat_of y j (omega arith) in
          let tx = high x hx i in
          let ty = high y hy j in
          let other : i ≡ j → ⊥ = λ e. let a = ap (λ (m : ℕ). get_or x m 0) e in let b = ap (λ (m : ℕ). get_or y m 0) e in omega arith in
          let moves = cost_moved φ y j i (omega arith) (omega arith) (λ q. other (sym q)) in
          let a = rises i (get_or y i 0 + 1) (get_or x i 0) (omega arith) (omega arith) (omega arith) tx in
          let b = no-cheaper i j (record { gives = omega arith; takes = omega arith; other = other; base = bx }) in
          let c = rises j (get_or x j 0 + 1) (get_or y j 0) (omega arith) (omega arith) (omega arith) ty in
          omega arith
