-- The loads after one unit is moved.
use Rattle.std.proofs.Common.{◌≡◌, ℕ, ◌+◌, ◌-◌, ◌<◌, List, length, get_or, set, sum, sym, ap, ◌∙◌, ⊎_elim, arith, length-set, get_or-set_other, get_or-set_same}
use Rattle.std.proofs.lemmas.List.{get_or_past, ext_get_or}
use Rattle.std.proofs.lemmas.Bool.{cases_lt, cases_eq}
use Rattle.bases.specs.Sums.{sum_to, unit}
use Rattle.bases.specs.Exchange.{moved}
use Rattle.bases.proofs.Sums.{unit_here, unit_other, sum_unit, sum_same, sum_add, sum_list}

module _ (x : List ℕ) (i j : ℕ) where
  -- a move changes no list's length
  pub length_moved : length (moved x i j) ≡ length x
  length_moved = length-set (set x i (get_or x i 0 - 1)) j (get_or x j 0 + 1) ∙ length-set x i (get_or x i 0 - 1)

  -- the receiver has one more
  pub moved_to : j < length x → get_or (moved x i j) j 0 ≡ get_or x j 0 + 1
  moved_to h =
      let l = length-set x i (get_or x i 0 - 1) in
      get_or-set_same (set x i (get_or x i 0 - 1)) j (get_or x j 0 + 1) 0 (omega arith)

  -- the donor has one less
  pub moved_from : i < length x → (i ≡ j → ⊥) → get_or (moved x i j) i 0 ≡ get_or x i 0 - 1
  moved_from h ne = get_or-set_other (set x i (get_or x i 0 - 1)) j i (get_or x j 0 + 1) 0 ne ∙ get_or-set_same x i (get_or x i 0 - 1) 0 h

  -- every other seat has what it had
  pub moved_other : (k : ℕ) → (k ≡ i → ⊥) → (k ≡ j → ⊥) → get_or (moved x i j) k 0 ≡ get_or x k 0
  moved_other k ni nj = get_or-set_other (set x i (get_or x i 0 - 1)) j k (get_or x j 0 + 1) 0 nj ∙ get_or-set_other x i k (get_or x i 0 - 1) 0 ni

-- a seat that has a load is a seat
pub seat_of : (x : List ℕ) (k : ℕ) → 0 < get_or x k 0 → k < length x
seat_of x k h = ⊎_elim (λ p. p) (λ past. absurd (omega (arith, get_or_past x k 0 past))) (cases_lt k (length x))

module _ (x : List ℕ) (i j : ℕ) (gives : 0 < get_or x i 0) (takes : j < length x) (other : i ≡ j → ⊥) where
  -- a move in one equation: what is left and the unit that went are what was there and the unit that came
  pub moved_at : (k : ℕ) → get_or (moved x i j) k 0 + unit i k ≡ get_or x k 0 + unit j k
  moved_at k =
      ⊎_elim
      (λ (e : i ≡ k). let at = ap (λ (m : ℕ). get_or (moved x i j) m 0) e in let was = ap (λ (m : ℕ). get_or x m 0) e in
      let l = moved_from x i j (seat_of x i gives) other in let u = unit_here i k e in let v = unit_other j k (λ q. other (e ∙ sym q)) in omega arith)
      (λ ni. ⊎_elim
      (λ (e : j ≡ k). let at = ap (λ (m : ℕ). get_or (moved x i j) m 0) e in let was = ap (λ (m : ℕ). get_or x m 0) e in
      let m = moved_to x i j takes in let u = unit_other i k ni in let v = unit_here j k e in omega arith)
      (λ nj. let s = moved_other x i j k (λ q. ni (sym q)) (λ q. nj (sym q)) in let u = unit_other i k ni in let v = unit_other j k nj in omega arith)
      (cases_eq j k))
      (cases_eq i k)

  -- and that equation tells the list
  pub moved_is : (y : List ℕ) → length y ≡ length x → ((k : ℕ) → k < length x → get_or y k 0 + unit i k ≡ get_or x k 0 + unit j k) → y ≡ moved x i j
  moved_is y len at =
      let l = length_moved x i j in
      ext_get_or 0 y (moved x i j) (len ∙ sym l) (λ k h. let a = at k (omega arith) in let b = moved_at k in omega arith)

  -- a move keeps the sum
  pub sum_moved : sum (moved x i j) ≡ sum x
  sum_moved =
      let n = length x in
      let l = length_moved x i j in
      let seat = seat_of x i gives in
      let new : sum (moved x i j) ≡ sum_to (length x) (λ k. get_or (moved x i j) k 0) =
      sum_list (moved x i j) ∙ ap (λ (m : ℕ). sum_to m (λ k. get_or (moved x i j) k 0)) l in
      let old = sum_list x in
      let eq = sum_same n (λ k. get_or (moved x i j) k 0 + unit i k) (λ k. get_or x k 0 + unit j k) (λ k h. moved_at k) in
      let a = sum_add n (λ k. get_or (moved x i j) k 0) (unit i) in
      let b = sum_add n (λ k. get_or x k 0) (unit j) in
      let ui = sum_unit n i seat in
      let uj = sum_unit n j takes in
      omega arith
