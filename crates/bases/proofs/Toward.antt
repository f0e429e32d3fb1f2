-- What follows from the exchange law of any set of load lists.
use Rattle.std.proofs.Common.{◌≡◌, ℕ, zero, suc, ◌+◌, ◌-◌, ◌<◌, ◌≤◌, ◌⊎◌, List, length, get_or, sum, sym, refl, ap, ◌∙◌, subst, inl, inr, ⊎_elim, arith}
use Rattle.std.proofs.lemmas.List.{ext_get_or}
use Rattle.std.proofs.lemmas.Bool.{cases_lt, cases_eq}
use Rattle.bases.specs.Sums.{sum_to, unit}
use Rattle.bases.specs.Exchange.{Exchange, Reaches, moved}
use Rattle.bases.proofs.Sums.{unit_here, unit_other, sum_none, sum_same, sum_add, sum_unit, some_larger, term_le}
use Rattle.bases.proofs.Moves.{length_moved, moved_at, moved_to, moved_from, moved_is, sum_moved, seat_of}

-- how much of x lies above y
abbrev pub excess : List ℕ → List ℕ → ℕ
excess x y = sum_to (length x) (λ k. get_or x k 0 - get_or y k 0)

-- lists of one length differ only where one is above the other
same_or_above : (x y : List ℕ) → length x ≡ length y → excess x y ≡ 0 → (x ≡ y) ⊎ ((k : ℕ) × (get_or x k 0 < get_or y k 0))
same_or_above x y len none = ⊎_elim (λ more. inr (let r = some_larger (length y) (λ k. get_or y k 0 - get_or x k 0) (λ k. 0) (omega (arith, zeros)) in (r.0, (let d = r.2 in omega arith))))
    (λ (less : excess y x ≤ 0). inl (ext_get_or 0 x y len (λ k h. both k h less))) (cases_lt 0 (excess y x))
  where
    zeros : sum_to (length y) (λ k. 0) ≡ 0
    zeros = sum_none (length y) (λ k. 0) (λ k h. refl)

    both : (k : ℕ) → k < length x → excess y x ≤ 0 → get_or x k 0 ≡ get_or y k 0
    both k h less =
        let a = term_le (length x) (λ m. get_or x m 0 - get_or y m 0) k h in
        let b = term_le (length y) (λ m. get_or y m 0 - get_or x m 0) k (omega arith) in
        omega arith

module _ (B : List ℕ → Type 0) (ex : Exchange B) (n : ℕ) (width : (x : List ℕ) → B x → length x ≡ n) where
  -- two seats of which one is above and one below are different
  apart : (x y : List ℕ) (i j : ℕ) → get_or y i 0 < get_or x i 0 → get_or x j 0 < get_or y j 0 → i ≡ j → ⊥
  apart x y i j up down e = let a = ap (λ (m : ℕ). get_or x m 0) e in let b = ap (λ (m : ℕ). get_or y m 0) e in omega arith

  -- a unit of y moved toward x lowers the excess of x by one
  pub excess_falls : (x y : List ℕ) → B x → B y → (i j : ℕ) → get_or y i 0 < get_or x i 0 → get_or x j 0 < get_or y j 0 → excess x (moved y j i) + 1 ≡ excess x y
  excess_falls x y hx hy i j up down =
      let lx = width x hx in
      let ly = width y hy in
      let seat-i = seat_of x i (omega arith) in
      let other : j ≡ i → ⊥ = λ e. apart x y i j up down (sym e) in
      let at = moved_at y j i (omega arith) (omega arith) other in
      let each : (k : ℕ) → k < length x → get_or x k 0 - get_or (moved y j i) k 0 + unit i k ≡ get_or x k 0 - get_or y k 0 = λ k h.
      ⊎_elim
      (λ (e : i ≡ k). let a = ap (λ (m : ℕ). get_or x m 0) e in let b = ap (λ (m : ℕ). get_or y m 0) e in let u = unit_here i k e in
      let v = unit_other j k (λ q. other (q ∙ sym e)) in let w = at k in omega arith)
      (λ ni. ⊎_elim
      (λ (e : j ≡ k). let a = ap (λ (m : ℕ). get_or x m 0) e in let b = ap (λ (m : ℕ). get_or y m 0) e in let u = unit_other i k ni in let v = unit_here j k e in let w = at k in omega arith)
      (λ nj. let u = unit_other i k ni in let v = unit_other j k nj in let w = at k in omega arith) (cases_eq j k))
      (cases_eq i k) in
      let s = sum_same (length x) (λ k. get_or x k 0 - get_or (moved y j i) k 0 + unit i k) (λ k. get_or x k 0 - get_or y k 0) each in
      let a = sum_add (length x) (λ k. get_or x k 0 - get_or (moved y j i) k 0) (unit i) in
      let u = sum_unit (length x) i seat-i in
      omega arith

  -- Induction toward a base x: what holds of x, and of y wherever it holds of y with one unit moved toward x
  -- (and that unit can be moved the other way in x), holds of every base.
  module _ (x : List ℕ) (hx : B x) (P : List ℕ → Type 0) (here : P x)
      (step : (y : List ℕ) → B y → (i j : ℕ) → get_or y i 0 < get_or x i 0 → get_or x j 0 < get_or y j 0 → B (moved x i j) → B (moved y j i) → P (moved y j i) → P y) where
    -- a base that x does not pass is x
    at_none : (y : List ℕ) → B y → excess x y ≡ 0 → P y
    at_none y hy none = ⊎_elim (λ e. subst P e here) (λ r. absurd (below r)) (same_or_above x y (width x hx ∙ sym (width y hy)) none)
      where
        below : (k : ℕ) × (get_or x k 0 < get_or y k 0) → ⊥
        below r =
            let e = ex y x hy hx r.0 r.1 in
            let seat = seat_of x e.0 (let l = e.1 in omega arith) in
            let t = term_le (length x) (λ m. get_or x m 0 - get_or y m 0) e.0 seat in
            let l = e.1 in
            omega arith

    fuelled : (fuel : ℕ) (y : List ℕ) → B y → excess x y ≤ fuel → P y
    fuelled zero y hy le = at_none y hy (omega arith)
    fuelled (suc fuel) y hy le = ⊎_elim (λ more. nearer (fuelled fuel) more) (λ none. at_none y hy (omega arith)) (cases_lt 0 (excess x y))
      where
        nearer : ((z : List ℕ) → B z → excess x z ≤ fuel → P z) → 0 < excess x y → P y
        nearer again more =
            let r = some_larger (length x) (λ m. get_or x m 0 - get_or y m 0) (λ m. 0) (let z = sum_none (length x) (λ m. 0) (λ k h. refl) in omega arith) in
            let i = r.0 in
            let up : get_or y i 0 < get_or x i 0 = let d = r.2 in omega arith in
            let e = ex x y hx hy i up in
            let f = excess_falls x y hx hy i e.0 up e.1 in
            step y hy i e.0 up e.1 e.2 e.3 (again (moved y e.0 i) e.3 (omega arith))

    pub toward : (y : List ℕ) → B y → P y
    toward y hy = fuelled (excess x y) y hy (omega arith)

  -- all bases have one sum
  pub one_total : (x y : List ℕ) → B x → B y → sum y ≡ sum x
  one_total x y hx hy =
      toward x hx (λ z. sum z ≡ sum x) refl
      (λ z hz i j up down bx bz same.
      let lx = width x hx in let lz = width z hz in
      sym (sum_moved z j i (omega arith) (let s = seat_of x i (omega arith) in omega arith) (λ e. apart x z i j up down (sym e))) ∙ same)
      y hy

  -- reach is transitive
  module _ (x : List ℕ) (hx : B x) (i j k : ℕ) (ik : i ≡ k → ⊥) (ij : Reaches B x i j) (jk : Reaches B x j k) where
    to_j : (m : ℕ) → get_or (moved x i j) m 0 + unit i m ≡ get_or x m 0 + unit j m
    to_j = moved_at x i j ij.gives ij.takes ij.other

    from_j : (m : ℕ) → get_or (moved x j k) m 0 + unit j m ≡ get_or x m 0 + unit k m
    from_j = moved_at x j k jk.gives jk.takes jk.other

    -- both ways round, by j first or by k first, lead to the same list
    by_j : moved (moved x i j) j k ≡ moved x i k
    by_j =
        let l = length_moved x i j in
        let l2 = length_moved (moved x i j) j k in
        let t = moved_to x i j ij.takes in
        let at = moved_at (moved x i j) j k (omega arith) (let h = jk.takes in omega arith) jk.other in
        moved_is x i k ij.gives jk.takes ik (moved (moved x i j) j k) (l2 ∙ l) (λ m h. let a = at m in let b = to_j m in omega arith)

    by_k : moved (moved x j k) i j ≡ moved x i k
    by_k =
        let l = length_moved x j k in
        let l2 = length_moved (moved x j k) i j in
        let at_i = from_j i in
        let uj = unit_other j i (λ e. ij.other (sym e)) in
        let uk = unit_other k i (λ e. ik (sym e)) in
        let gives = ij.gives in
        let at = moved_at (moved x j k) i j (omega arith) (let h = ij.takes in omega arith) ij.other in
        moved_is x i k ij.gives jk.takes ik (moved (moved x j k) i j) (l2 ∙ l) (λ m h. let a = at m in let b = from_j m in omega arith)

    joined : (l : ℕ) → get_or (moved x i j) l 0 < get_or (moved x j k) l 0 → B (moved (moved x i j) j l) → B (moved (moved x j k) l j) → B (moved x i k)
    joined l less one two =
        ⊎_elim
        (λ (e : k ≡ l). subst B by_j (subst (λ (m : ℕ). B (moved (moved x i j) j m)) (sym e) one))
        (λ nk. ⊎_elim
        (λ (e : i ≡ l). subst B by_k (subst (λ (m : ℕ). B (moved (moved x j k) m j)) (sym e) two))
        (λ ni. absurd (let a = to_j l in let b = from_j l in let u = unit_other i l ni in let v = unit_other k l nk in omega arith)) (cases_eq i l))
        (cases_eq k l)

    pub reach_joins : Reaches B x i k
    reach_joins =
        let a = moved_to x i j ij.takes in
        let b = moved_from x j k ij.takes jk.other in
        let r = ex (moved x i j) (moved x j k) ij.base jk.base j (omega arith) in
        record { gives = ij.gives; takes = jk.takes; other = ik; base = joined r.0 r.1 r.2 r.3 }
