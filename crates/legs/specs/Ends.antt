-- Amounts at the two ends of a leg.
use Rattle.std.specs.Prelude.{◌≡◌, ℕ, ◌+◌, ◌*◌, ◌<◌, ◌≤◌, cond, ◌==◌, ◌≢◌}
use Rattle.std.proofs.Common.{sym, ap, ◌∙◌, ⊎_elim, mul-one, mul-zero, arith}
use Rattle.std.proofs.lemmas.Bool.{cases_eq, cond-true, cond-false, eq-eqb, ne_eqb}
use Rattle.bases.specs.Sums.{sum_to, unit}
use Rattle.bases.proofs.Sums.{unit_here, unit_other, sum_same, sum_add, sum_times, sum_unit}
use Rattle.legs.specs.Shares.{at_ends}

module _ (a b x y s : ℕ) where
  pub ends_a : s ≡ a → at_ends a b x y s ≡ x
  ends_a e = cond-true (s == a) x (cond (s == b) y 0) (eq-eqb s a e)

  pub ends_b : (s ≢ a) → s ≡ b → at_ends a b x y s ≡ y
  ends_b na e = cond-false (s == a) x (cond (s == b) y 0) (ne_eqb s a na) ∙ cond-true (s == b) y 0 (eq-eqb s b e)

  pub ends_else : (s ≢ a) → (s ≢ b) → at_ends a b x y s ≡ 0
  ends_else na nb = cond-false (s == a) x (cond (s == b) y 0) (ne_eqb s a na) ∙ cond-false (s == b) y 0 (ne_eqb s b nb)

-- a seat is end a, or else end b, or neither
pub at_end : (a b s : ℕ) (Q : Type 0) → (s ≡ a → Q) → ((s ≢ a) → s ≡ b → Q) → ((s ≢ a) → (s ≢ b) → Q) → Q
at_end a b s Q first second neither = ⊎_elim first (λ na. ⊎_elim (second na) (neither na) (cases_eq s b)) (cases_eq s a)

-- more at each end is more at each seat
pub ends_le : (a b x y z w s : ℕ) → x ≤ z → y ≤ w → at_ends a b x y s ≤ at_ends a b z w s
ends_le a b x y z w s le le2 =
    at_end a b s (at_ends a b x y s ≤ at_ends a b z w s)
    (λ e. let p = ends_a a b x y s e in let q = ends_a a b z w s e in omega arith)
    (λ na e. let p = ends_b a b x y s na e in let q = ends_b a b z w s na e in omega arith)
    (λ na nb. let p = ends_else a b x y s na nb in let q = ends_else a b z w s na nb in omega arith)

-- one unit that goes from end a to end b
pub ends_moved : (a b x y z w s : ℕ) → (a ≢ b) → z + 1 ≡ x → w ≡ y + 1 → at_ends a b z w s + unit a s ≡ at_ends a b x y s + unit b s
ends_moved a b x y z w s ne less more =
    at_end a b s (at_ends a b z w s + unit a s ≡ at_ends a b x y s + unit b s)
    (λ e. let p = ends_a a b x y s e in let q = ends_a a b z w s e in let o = unit_here a s (sym e) in let n = unit_other b s (λ r. ne (sym (r ∙ e))) in omega arith)
    (λ na e. let p = ends_b a b x y s na e in let q = ends_b a b z w s na e in let o = unit_here b s (sym e) in let n = unit_other a s (λ r. na (sym r)) in omega arith)
    (λ na nb. let p = ends_else a b x y s na nb in let q = ends_else a b z w s na nb in let o = unit_other a s (λ r. na (sym r)) in let n = unit_other b s (λ r. nb (sym r)) in omega arith)

-- over all seats the two ends add up
pub ends_sum : (n a b x y : ℕ) → a < n → b < n → (a ≢ b) → sum_to n (at_ends a b x y) ≡ x + y
ends_sum n a b x y ha hb ne =
    let same = sum_same n (at_ends a b x y) (λ s. x * unit a s + y * unit b s) (λ s h. each s) in
    let adds = sum_add n (λ s. x * unit a s) (λ s. y * unit b s) in
    let first = sum_times n x (unit a) ∙ ap (λ (k : ℕ). x * k) (sum_unit n a ha) ∙ mul-one x in
    let second = sum_times n y (unit b) ∙ ap (λ (k : ℕ). y * k) (sum_unit n b hb) ∙ mul-one y in
    omega arith
  where
    once : (z i s : ℕ) → i ≡ s → z * unit i s ≡ z
    once z i s e = ap (λ (k : ℕ). z * k) (unit_here i s e) ∙ mul-one z

    none : (z i s : ℕ) → (i ≢ s) → z * unit i s ≡ 0
    none z i s n = ap (λ (k : ℕ). z * k) (unit_other i s n) ∙ mul-zero z

    each : (s : ℕ) → at_ends a b x y s ≡ x * unit a s + y * unit b s
    each s =
        at_end a b s (at_ends a b x y s ≡ x * unit a s + y * unit b s)
        (λ e. let p = ends_a a b x y s e in let o = once x a s (sym e) in let z = none y b s (λ r. ne (sym (r ∙ e))) in omega arith)
        (λ na e. let p = ends_b a b x y s na e in let o = once y b s (sym e) in let z = none x a s (λ r. na (sym r)) in omega arith)
        (λ na nb. let p = ends_else a b x y s na nb in let o = none x a s (λ r. na (sym r)) in let z = none y b s (λ r. nb (sym r)) in omega arith)
