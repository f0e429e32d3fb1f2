-- The largest of some numbers, and loads with numbers added.
use Rattle.std.specs.Prelude.{◌≡◌, ℕ, zero, suc, ◌+◌, ◌<◌, ◌≤◌, max, List, [], ◌∷◌, length, slice_index, slice_set}
use Rattle.std.proofs.Common.{sym, ap, subst, ◌∙◌, ⊎_elim, arith}
use Rattle.std.proofs.lemmas.List.{ext_get_or}
use Rattle.std.proofs.lemmas.List.FromFn.{length-map-range_with_len, get_or-map-range_with_len}
use Rattle.std.proofs.lemmas.Bool.{cases_eq}
use Rattle.bases.specs.Exchange.{moved}
use Rattle.bases.proofs.Moves.{length_moved, moved_to, moved_from, moved_other}
use Rattle.carry.specs.Carried.{added, largest}

-- no number is larger than the largest
pub largest_high : (c : List ℕ) (k : ℕ) → slice_index c k ≤ largest c
largest_high [] k = omega arith
largest_high (n ∷ c) zero = omega arith
largest_high (n ∷ c) (suc k) = let h = largest_high c k in omega arith

-- one number replaced: the largest is the new one at most, or what it was
pub largest_set : (c : List ℕ) (i n : ℕ) → largest (slice_set c i n) ≤ max n (largest c)
largest_set [] i n = omega arith
largest_set (m ∷ c) zero n = omega arith
largest_set (m ∷ c) (suc i) n = let h = largest_set c i n in omega arith

module _ (c x : List ℕ) where
  -- there are as many loads as before
  pub length_added : length (added c x) ≡ length x
  length_added = length-map-range_with_len (λ k. slice_index c k + slice_index x k) 0 (length x)

  -- each seat has its number more
  pub added_at : (k : ℕ) → k < length x → slice_index (added c x) k ≡ slice_index c k + slice_index x k
  added_at k h = get_or-map-range_with_len (λ k. slice_index c k + slice_index x k) 0 (length x) k k 0 h (omega arith)

-- what the numbers were added to can be told
pub added_cancels : (c x y : List ℕ) → added c x ≡ added c y → x ≡ y
added_cancels c x y e =
    let lx = length_added c x in
    let ly = length_added c y in
    let len : length x ≡ length y = sym lx ∙ ap length e ∙ ly in
    ext_get_or 0 x y len
    (λ k h. let ax = added_at c x k h in let ay = added_at c y k (omega arith) in let same = ap (λ (z : List ℕ). slice_index z k) e in omega arith)

-- a unit that is there may be moved before the numbers are added or after
pub added_moved : (c x : List ℕ) (i j : ℕ) → 0 < slice_index x i → added c (moved x i j) ≡ moved (added c x) i j
added_moved c x i j gives =
    let la = length_added c x in
    let lm = length_moved x i j in
    let lam = length_added c (moved x i j) in
    let lma = length_moved (added c x) i j in
    ext_get_or 0 (added c (moved x i j)) (moved (added c x) i j) (lam ∙ lm ∙ sym (lma ∙ la)) (λ k h. at k (omega arith))
  where
    at : (k : ℕ) → k < length x → slice_index (added c (moved x i j)) k ≡ slice_index (moved (added c x) i j) k
    at k h =
        let la = length_added c x in
        let lm = length_moved x i j in
        let new = added_at c (moved x i j) k (omega arith) in
        let old = added_at c x k h in
        ⊎_elim
        (λ (e : k ≡ j). let hj : j < length x = omega arith in
        let p = moved_to x i j hj in let q = moved_to (added c x) i j (omega arith) in
        let o = added_at c x j hj in let n = added_at c (moved x i j) j (omega arith) in
        subst (λ (m : ℕ). slice_index (added c (moved x i j)) m ≡ slice_index (moved (added c x) i j) m) (sym e) (omega arith))
        (λ nj. ⊎_elim
        (λ (e : k ≡ i). let hi : i < length x = omega arith in let ne : i ≡ j → ⊥ = λ q. nj (e ∙ q) in
        let p = moved_from x i j hi ne in let q = moved_from (added c x) i j (omega arith) ne in
        let o = added_at c x i hi in let n = added_at c (moved x i j) i (omega arith) in
        subst (λ (m : ℕ). slice_index (added c (moved x i j)) m ≡ slice_index (moved (added c x) i j) m) (sym e) (omega arith))
        (λ ni. let p = moved_other x i j k ni nj in let q = moved_other (added c x) i j k ni nj in omega arith)
        (cases_eq k i))
        (cases_eq k j)
