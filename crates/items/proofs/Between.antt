-- The exchange law of divisions: two fillings exchange a unit through fillings that lie between them.
use Rattle.std.proofs.Common.{◌≡◌, ℕ, zero, suc, ◌+◌, ◌-◌, ◌<◌, ◌≤◌, min, max, List, get_or, sym, refl, ap, ◌∙◌, subst, ap₂, ⊎_elim, arith}
use Rattle.std.proofs.lemmas.Bool.{cases_eq, cases_lt}
use Rattle.bases.specs.Sums.{unit}
use Rattle.bases.specs.Exchange.{Exchange, moved}
use Rattle.bases.proofs.Sums.{unit_here, unit_other, sum_add, sum_unit, some_larger}
use Rattle.items.specs.Fillings.{Shape, Fills, load_of, loads_of, Divisions, unit_at, Relayed, changed}
use Rattle.items.proofs.Units.{unit_at_here, unit_at_item, unit_at_seat, whole_unit, grid_same, grid_add, loads_at, loaded, relayed_load, given, given_relays, given_fills, moved_loads}

-- h lies between f and g
pub record Amid (shape : Shape) (f g h : ℕ → ℕ → ℕ) : Type 0 where
  pub low : (t s : ℕ) → t < shape.items → s < shape.seats → min (f t s) (g t s) ≤ h t s
  pub high : (t s : ℕ) → t < shape.items → s < shape.seats → h t s ≤ max (f t s) (g t s)

-- a unit of seat i in f is exchanged for one of seat j in g
pub record Exchanged (shape : Shape) (f g : ℕ → ℕ → ℕ) (i : ℕ) : Type 0 where
  pub j : ℕ
  pub seat : j < shape.seats
  pub less : load_of shape f j < load_of shape g j
  pub new_f : ℕ → ℕ → ℕ
  pub new_g : ℕ → ℕ → ℕ
  pub fills_f : Fills shape new_f
  pub fills_g : Fills shape new_g
  pub amid_f : Amid shape f g new_f
  pub amid_g : Amid shape f g new_g
  pub loads_f : (s : ℕ) → s < shape.seats → load_of shape new_f s + unit i s ≡ load_of shape f s + unit j s
  pub loads_g : (s : ℕ) → s < shape.seats → load_of shape new_g s + unit j s ≡ load_of shape g s + unit i s

-- the units of one item and one seat, at every place: one here, none elsewhere
data Spot (item seat t s : ℕ) : Type 0 where
  here : item ≡ t → seat ≡ s → unit_at item seat t s ≡ 1 → Spot item seat t s
  away : ((item ≡ t) × (seat ≡ s) → ⊥) → unit_at item seat t s ≡ 0 → Spot item seat t s

spot : (item seat t s : ℕ) → Spot item seat t s
spot item seat t s =
    ⊎_elim
    (λ (p : item ≡ t). ⊎_elim (λ (q : seat ≡ s). here p q (unit_at_here item seat t s p q)) (λ nq. away (λ r. nq r.1) (unit_at_seat item seat t s nq)) (cases_eq seat s))
    (λ np. away (λ r. np r.0) (unit_at_item item seat t s np)) (cases_eq item t)

module _ (shape : Shape) where
  -- an item of which seat i has more in f than in g is one of which some seat has more in g
  receiver : (f g : ℕ → ℕ → ℕ) → Fills shape f → Fills shape g → (t i : ℕ) → t < shape.items → i < shape.seats → g t i < f t i
      → (b : ℕ) × (b < shape.seats) × (f t b < g t b)
  receiver f g ff fg t i ht hi lt =
      let n = shape.seats in
      let wf = ff.whole t ht in
      let wg = fg.whole t ht in
      let a = sum_add n (g t) (unit i) in
      let u = sum_unit n i hi in
      let r = some_larger n (λ s. g t s + unit i s) (f t) (omega arith) in
      let b = r.0 in
      ⊎_elim
      (λ (e : i ≡ b). absurd (let o = unit_here i b e in let x = ap (f t) e in let y = ap (g t) e in let l = r.2 in omega arith))
      (λ ne. (b, r.1, (let z = unit_other i b ne in let l = r.2 in omega arith))) (cases_eq i b)

  -- an item t, with a seat i that has more of it in f and a seat b that has more of it in g
  module _ (f g : ℕ → ℕ → ℕ) (ff : Fills shape f) (fg : Fills shape g) (t i b : ℕ) (ht : t < shape.items) (hi : i < shape.seats) (hb : b < shape.seats)
      (up : g t i < f t i) (down : f t b < g t b) where
    apart : i ≡ b → ⊥
    apart e = let x = ap (f t) e in let y = ap (g t) e in omega arith

    -- every place is the one where f has more, the one where g has more, or neither
    places : (t' s : ℕ) (Q : Type 0)
        → (t ≡ t' → i ≡ s → unit_at t i t' s ≡ 1 → unit_at t b t' s ≡ 0 → Q)
        → (t ≡ t' → b ≡ s → unit_at t i t' s ≡ 0 → unit_at t b t' s ≡ 1 → Q)
        → (unit_at t i t' s ≡ 0 → unit_at t b t' s ≡ 0 → Q) → Q
    places t' s Q more fewer neither = first (spot t i t' s)
      where
        second : unit_at t i t' s ≡ 0 → Spot t b t' s → Q
        second z (here p q o) = fewer p q z o
        second z (away np o) = neither z o

        first : Spot t i t' s → Q
        first (here p q o) = more p q o (unit_at_seat t b t' s (λ r. apart (q ∙ sym r)))
        first (away np z) = second z (spot t b t' s)

    -- f with one unit of the item moved from i to b
    abbrev f1 : ℕ → ℕ → ℕ
    f1 = given shape f t i b

    relays1 : Relayed shape f f1 i b
    relays1 = given_relays shape f t i b ht (omega arith)

    fills1 : Fills shape f1
    fills1 = given_fills shape f t i b ff ht hi hb (omega arith) (let w = fg.within t b ht hb in omega arith) apart

    -- it is nearer to g by one unit
    nearer : changed shape g f1 + 1 ≡ changed shape g f
    nearer =
        let m = shape.items in
        let n = shape.seats in
        let each : (t' s : ℕ) → t' < m → s < n → f1 t' s - g t' s + unit_at t i t' s ≡ f t' s - g t' s = λ t' s l k.
        let c = relays1.change t' s l k in
        places t' s (f1 t' s - g t' s + unit_at t i t' s ≡ f t' s - g t' s)
        (λ p q o z. let x = ap₂ f p q in let y = ap₂ g p q in omega arith)
        (λ p q z o. let x = ap₂ f p q in let y = ap₂ g p q in omega arith)
        (λ z o. omega arith) in
        let e = grid_same m n (λ t' s. f1 t' s - g t' s + unit_at t i t' s) (λ t' s. f t' s - g t' s) each in
        let a = grid_add m n (λ t' s. f1 t' s - g t' s) (unit_at t i) in
        let o = whole_unit m n t i ht hi in
        omega arith

    -- what lies between it and g lies between f and g
    wider : (h : ℕ → ℕ → ℕ) → Amid shape f1 g h → Amid shape f g h
    wider h amid = record {
      low = λ t' s l k.
          let c = relays1.change t' s l k in
          let w = amid.low t' s l k in
          places t' s (min (f t' s) (g t' s) ≤ h t' s)
          (λ p q o z. let x = ap₂ f p q in let y = ap₂ g p q in omega arith)
          (λ p q z o. let x = ap₂ f p q in let y = ap₂ g p q in omega arith)
          (λ z o. omega arith);
      high = λ t' s l k.
          let c = relays1.change t' s l k in
          let w = amid.high t' s l k in
          places t' s (h t' s ≤ max (f t' s) (g t' s))
          (λ p q o z. let x = ap₂ f p q in let y = ap₂ g p q in omega arith)
          (λ p q z o. let x = ap₂ f p q in let y = ap₂ g p q in omega arith)
          (λ z o. omega arith);
    }

    -- in a filling between it and g the same unit can be moved back
    module _ (h : ℕ → ℕ → ℕ) (fh : Fills shape h) (amid : Amid shape f1 g h) where
      abbrev back : ℕ → ℕ → ℕ
      back = given shape h t b i

      at_i : f1 t i + 1 ≡ f t i
      at_i = let c = relays1.change t i ht hi in let o = unit_at_here t i t i refl refl in let z = unit_at_seat t b t i (λ e. apart (sym e)) in omega arith

      at_b : f1 t b ≡ f t b + 1
      at_b = let c = relays1.change t b ht hb in let z = unit_at_seat t i t b apart in let o = unit_at_here t b t b refl refl in omega arith

      has_b : f t b < h t b
      has_b = let w = amid.low t b ht hb in let e = at_b in omega arith

      room_i : h t i < f t i
      room_i = let w = amid.high t i ht hi in let e = at_i in omega arith

      relays_back : Relayed shape h back b i
      relays_back = given_relays shape h t b i ht (let p = has_b in omega arith)

      fills_back : Fills shape back
      fills_back = given_fills shape h t b i fh ht hb hi (let p = has_b in omega arith) (let p = room_i in let w = ff.within t i ht hi in omega arith) (λ e. apart (sym e))

      amid_back : Amid shape f g back
      amid_back = record {
        low = λ t' s l k.
            let c = relays_back.change t' s l k in
            let w = (wider h amid).low t' s l k in
            places t' s (min (f t' s) (g t' s) ≤ back t' s)
            (λ p q o z. omega arith)
            (λ p q z o. let x = ap₂ f p q in let y = ap₂ h p q in let e = has_b in omega arith)
            (λ z o. omega arith);
        high = λ t' s l k.
            let c = relays_back.change t' s l k in
            let w = (wider h amid).high t' s l k in
            places t' s (back t' s ≤ max (f t' s) (g t' s))
            (λ p q o z. let x = ap₂ f p q in let y = ap₂ h p q in let e = room_i in omega arith)
            (λ p q z o. omega arith)
            (λ z o. omega arith);
      }

    -- where b has less in f, the one unit is the exchange
    at_once : load_of shape f b < load_of shape g b → Exchanged shape f g i
    at_once less =
        let amid : Amid shape f1 g g = record { low = λ t' s l k. omega arith; high = λ t' s l k. omega arith } in
        let amid1 : Amid shape f1 g f1 = record { low = λ t' s l k. omega arith; high = λ t' s l k. omega arith } in
        record {
          j = b;
          seat = hb;
          less = less;
          new_f = f1;
          new_g = back g fg amid;
          fills_f = fills1;
          fills_g = fills_back g fg amid;
          amid_f = wider f1 amid1;
          amid_g = amid_back g fg amid;
          loads_f = relayed_load shape f f1 i b relays1;
          loads_g = relayed_load shape g (back g fg amid) b i (relays_back g fg amid);
        }

    -- else b, which now has more, exchanges a unit in turn
    in_turn : load_of shape g i < load_of shape f i → load_of shape g b ≤ load_of shape f b → Exchanged shape f1 g b → Exchanged shape f g i
    in_turn more full ex =
        let one = relayed_load shape f f1 i b relays1 in
        let j = ex.j in
        let h = ex.new_g in
        let fh = ex.fills_g in
        let amid = ex.amid_g in
        let again = relayed_load shape h (back h fh amid) b i (relays_back h fh amid) in
        record {
          j = ex.j;
          seat = ex.seat;
          less =
              (let at_j = one j ex.seat in let l = ex.less in
              ⊎_elim
              (λ (e : b ≡ j). absurd (let x = ap (load_of shape f) e in let y = ap (load_of shape g) e in let o = unit_here b j e in let z = unit_other i j (λ q. apart (q ∙ sym e)) in omega arith))
              (λ nb. ⊎_elim
              (λ (e : i ≡ j). absurd (let x = ap (load_of shape f) e in let y = ap (load_of shape g) e in let o = unit_here i j e in let z = unit_other b j nb in omega arith))
              (λ ni. let o = unit_other i j ni in let z = unit_other b j nb in omega arith) (cases_eq i j)) (cases_eq b j));
          new_f = ex.new_f;
          new_g = back h fh amid;
          fills_f = ex.fills_f;
          fills_g = fills_back h fh amid;
          amid_f = wider ex.new_f ex.amid_f;
          amid_g = amid_back h fh amid;
          loads_f = λ s k. let a = ex.loads_f s k in let c = one s k in omega arith;
          loads_g = λ s k. let a = ex.loads_g s k in let c = again s k in omega arith;
        }

  -- two fillings exchange a unit, if those that are nearer do
  exchange_by : (f g : ℕ → ℕ → ℕ) → Fills shape f → Fills shape g → (i : ℕ) → i < shape.seats → load_of shape g i < load_of shape f i
      → ((f' : ℕ → ℕ → ℕ) → Fills shape f' → (b : ℕ) → b < shape.seats → load_of shape g b < load_of shape f' b → changed shape g f' + 1 ≡ changed shape g f → Exchanged shape f' g b)
      → Exchanged shape f g i
  exchange_by f g ff fg i hi more again =
      let r = some_larger shape.items (λ t. f t i) (λ t. g t i) more in
      let t = r.0 in
      let ht = r.1 in
      let up = r.2 in
      let q = receiver f g ff fg t i ht hi up in
      let b = q.0 in
      let hb = q.1 in
      let down = q.2 in
      ⊎_elim
      (λ less. at_once f g ff fg t i b ht hi hb up down less)
      (λ full. in_turn f g ff fg t i b ht hi hb up down more full
      (again (f1 f g ff fg t i b ht hi hb up down) (fills1 f g ff fg t i b ht hi hb up down) b hb
      (let l = relayed_load shape f (f1 f g ff fg t i b ht hi hb up down) i b (relays1 f g ff fg t i b ht hi hb up down) b hb in
      let o = unit_here b b refl in let z = unit_other i b (apart f g ff fg t i b ht hi hb up down) in omega arith)
      (nearer f g ff fg t i b ht hi hb up down)))
      (cases_lt (load_of shape f b) (load_of shape g b))

  -- two fillings exchange a unit, by induction on how far they are apart
  exchanges : (fuel : ℕ) (f g : ℕ → ℕ → ℕ) → Fills shape f → Fills shape g → (i : ℕ) → i < shape.seats → load_of shape g i < load_of shape f i
      → changed shape g f ≤ fuel → Exchanged shape f g i
  exchanges zero f g ff fg i hi more le = exchange_by f g ff fg i hi more (λ f' ff' b hb m e. absurd (omega arith))
  exchanges (suc fuel) f g ff fg i hi more le =
      exchange_by f g ff fg i hi more (λ f' ff' b hb m e. exchanges fuel f' g ff' fg b hb m (omega arith))

  -- the same, of the loads as lists
  exchange_loads : (f g : ℕ → ℕ → ℕ) → Fills shape f → Fills shape g → (i : ℕ) → get_or (loads_of shape g) i 0 < get_or (loads_of shape f) i 0
      → (j : ℕ) × (get_or (loads_of shape f) j 0 < get_or (loads_of shape g) j 0) × Divisions shape (moved (loads_of shape f) i j) × Divisions shape (moved (loads_of shape g) j i)
  exchange_loads f g ff fg i lt =
      let hi = loaded shape f i (omega arith) in
      let fi = loads_at shape f i hi in
      let gi = loads_at shape g i hi in
      let r = exchanges (changed shape g f) f g ff fg i hi (omega arith) (omega arith) in
      let hj = r.seat in
      let fj = loads_at shape f r.j hj in
      let gj = loads_at shape g r.j hj in
      let less : get_or (loads_of shape f) r.j 0 < get_or (loads_of shape g) r.j 0 = let l = r.less in omega arith in
      let other : i ≡ r.j → ⊥ = λ e. let x = ap (λ (k : ℕ). get_or (loads_of shape f) k 0) e in let y = ap (λ (k : ℕ). get_or (loads_of shape g) k 0) e in omega arith in (
        r.j,
        less,
        (r.new_f, r.fills_f, sym (moved_loads shape f r.new_f i r.j (omega arith) hj other r.loads_f)),
        (r.new_g, r.fills_g, sym (moved_loads shape g r.new_g r.j i (omega arith) hi (λ e. other (sym e)) r.loads_g)),
      )

  -- the loads of all fillings obey the exchange law
  pub divisions_exchange : Exchange (Divisions shape)
  divisions_exchange x y (f, ff, ex) (g, fg, ey) i =
      subst (λ (z : List ℕ). get_or y i 0 < get_or z i 0 → (j : ℕ) × (get_or z j 0 < get_or y j 0) × Divisions shape (moved z i j) × Divisions shape (moved y j i)) (sym ex)
      (subst (λ (z : List ℕ). get_or z i 0 < get_or (loads_of shape f) i 0 → (j : ℕ) × (get_or (loads_of shape f) j 0 < get_or z j 0) × Divisions shape (moved (loads_of shape f) i j) × Divisions shape (moved z j i)) (sym ey)
      (exchange_loads f g ff fg i))
