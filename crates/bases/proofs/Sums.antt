-- Laws of sums over the numbers below a bound.
use Rattle.std.proofs.Common.{◌≡◌, ℕ, zero, suc, ◌+◌, ◌*◌, ◌<◌, ◌≤◌, eqb, List, length, get_or, map, take, sum, sym, refl, ap, ◌∙◌, ap₂, ⊎_elim, mul-add, add-one, arith}
use Rattle.std.proofs.lemmas.List.{take_all}
use Rattle.std.proofs.lemmas.List.Sums.{sum_by_more}
use Rattle.std.proofs.lemmas.List.FromFn.{length-map-range_with_len, get_or-map-range_with_len}
use Rattle.std.specs.List.{range_with_len}
use Rattle.std.proofs.lemmas.Bool.{cases_eq, cases_lt, cond-true, cond-false, eq-eqb, ne_eqb}
use Rattle.bases.specs.Sums.{sum_to, unit}

-- one at its own place
pub unit_here : (i k : ℕ) → i ≡ k → unit i k ≡ 1
unit_here i k e = cond-true (eqb i k) 1 0 (eq-eqb i k e)

-- nothing at any other
pub unit_other : (i k : ℕ) → (i ≡ k → ⊥) → unit i k ≡ 0
unit_other i k ne = cond-false (eqb i k) 1 0 (ne_eqb i k ne)

-- equal terms have equal sums
pub sum_same : (n : ℕ) (f g : ℕ → ℕ) → ((k : ℕ) → k < n → f k ≡ g k) → sum_to n f ≡ sum_to n g
sum_same zero f g h = refl
sum_same (suc n) f g h = ap₂ (λ (a b : ℕ). a + b) (sum_same n f g (λ k l. h k (omega arith))) (h n (omega arith))

-- smaller terms have a smaller sum
pub sum_le : (n : ℕ) (f g : ℕ → ℕ) → ((k : ℕ) → k < n → f k ≤ g k) → sum_to n f ≤ sum_to n g
sum_le zero f g h = omega arith
sum_le (suc n) f g h = let l = sum_le n f g (λ k l. h k (omega arith)) in let m = h n (omega arith) in omega arith

-- a sum of sums
pub sum_add : (n : ℕ) (f g : ℕ → ℕ) → sum_to n (λ k. f k + g k) ≡ sum_to n f + sum_to n g
sum_add zero f g = refl
sum_add (suc n) f g = let e = sum_add n f g in omega arith

-- a sum of nothing
pub sum_none : (n : ℕ) (f : ℕ → ℕ) → ((k : ℕ) → k < n → f k ≡ 0) → sum_to n f ≡ 0
sum_none zero f h = refl
sum_none (suc n) f h = let e = sum_none n f (λ k l. h k (omega arith)) in let z = h n (omega arith) in omega arith

-- the sum of one unit below the bound is one
pub sum_unit : (n i : ℕ) → i < n → sum_to n (unit i) ≡ 1
sum_unit zero i h = absurd (omega arith)
sum_unit (suc n) i h =
    ⊎_elim
    (λ (e : i ≡ n). let z = sum_none n (unit i) (λ k l. unit_other i k (λ q. omega arith)) in let o = unit_here i n e in omega arith)
    (λ ne. let s = sum_unit n i (omega arith) in let z = unit_other i n ne in omega arith) (cases_eq i n)

-- each term is at most the sum
pub term_le : (n : ℕ) (f : ℕ → ℕ) (k : ℕ) → k < n → f k ≤ sum_to n f
term_le zero f k h = absurd (omega arith)
term_le (suc n) f k h =
    ⊎_elim (λ (e : k ≡ n). let s = ap f e in omega arith) (λ ne. let l = term_le n f k (omega arith) in omega arith) (cases_eq k n)

-- where one sum is larger than another, some term is
pub some_larger : (n : ℕ) (f g : ℕ → ℕ) → sum_to n g < sum_to n f → (k : ℕ) × (k < n) × (g k < f k)
some_larger zero f g h = absurd (omega arith)
some_larger (suc n) f g h = ⊎_elim (λ here. (n, omega arith, here)) (λ no_more. lower (some_larger n f g (omega arith))) (cases_lt (g n) (f n))
  where
    lower : (k : ℕ) × (k < n) × (g k < f k) → (k : ℕ) × (k < suc n) × (g k < f k)
    lower r = (r.0, (let l = r.1 in omega arith), r.2)

-- a double sum may be taken in either order
pub sum_swap : (m n : ℕ) (f : ℕ → ℕ → ℕ) → sum_to m (λ t. sum_to n (λ s. f t s)) ≡ sum_to n (λ s. sum_to m (λ t. f t s))
sum_swap zero n f = sym (sum_none n (λ s. 0) (λ k l. refl))
sum_swap (suc m) n f =
    ap (λ (a : ℕ). a + sum_to n (λ s. f m s)) (sum_swap m n f) ∙ sym (sum_add n (λ s. sum_to m (λ t. f t s)) (λ s. f m s))

-- a factor may be drawn out
pub sum_times : (n c : ℕ) (f : ℕ → ℕ) → sum_to n (λ k. c * f k) ≡ c * sum_to n f
sum_times zero c f = omega arith
sum_times (suc n) c f = ap (λ (a : ℕ). a + c * f n) (sum_times n c f) ∙ sym (mul-add c (sum_to n f) (f n))

-- the sum of a list is the sum of what stands at its places
pub sum_list : (x : List ℕ) → sum x ≡ sum_to (length x) (λ k. get_or x k 0)
sum_list x = sym (ap sum (take_all (length x) x (omega arith))) ∙ upto (length x) (omega arith)
  where
    upto : (n : ℕ) → n ≤ length x → sum (take n x) ≡ sum_to n (λ k. get_or x k 0)
    upto zero h = refl
    upto (suc n) h =
        ap (λ (m : ℕ). sum (take m x)) (sym (add-one n)) ∙ sum_by_more (λ y. y) x n 0 (omega arith)
        ∙ ap (λ (a : ℕ). a + get_or x n 0) (upto n (omega arith))

-- the sum over the numbers below a bound, as a list
pub sum_range : (n : ℕ) (f : ℕ → ℕ) → sum (map f (range_with_len 0 n)) ≡ sum_to n f
sum_range n f =
    let xs = map f (range_with_len 0 n) in
    sum_list xs ∙ ap (λ (m : ℕ). sum_to m (λ k. get_or xs k 0)) (length-map-range_with_len f 0 n)
    ∙ sum_same n (λ k. get_or xs k 0) f (λ k h. get_or-map-range_with_len f 0 n k k 0 h (omega arith))

-- a sum of n terms, none above a bound
pub sum_few : (n bound : ℕ) (f : ℕ → ℕ) → ((k : ℕ) → k < n → f k ≤ bound) → sum_to n f ≤ n * bound
sum_few zero bound f h = omega arith
sum_few (suc n) bound f h = let l = sum_few n bound f (λ k i. h k (omega arith)) in let m = h n (omega arith) in omega arith
