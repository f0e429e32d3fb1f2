-- What is written for a number reads as it, and what reads as a number is what is written for it. Assumes nothing.
use Rattle.std.proofs.Common.{◌≡◌, ℕ, zero, suc, ◌+◌, ◌/◌, ◌%◌, ◌^◌, ◌<◌, ◌≤◌, Bool, true, false, cond, ltb, leb, List, [], ◌∷◌, ◌++◌, length, replicate, Some, None, Option, unwrap_or, sym, refl, ap, ◌∙◌, subst, inl, inr, append_assoc, append-nil, add-zero, pow-suc, zero-add, add-one, arith}
use Rattle.std.proofs.lemmas.List.{replicate_more, length_push, length-replicate}
use Rattle.std.proofs.lemmas.Bool.{lt-ltb, le-ltb, le-leb, leb-true, cases_lt, cond_both}
use Rattle.std.proofs.lemmas.Bool.Decides.{nat_tests}
use Rattle.std.proofs.lemmas.Option.{option_and_then_some}
use Rattle.std.specs.Option.{option_and_then}
use Rattle.columns.specs.Numbers.{grown, number_after, number_of, number_text, Fits, Holds, NumberSays}

-- a byte more is at most a digit more
pub grown_bound : (before after : Option ℕ) (c k : ℕ) → Some after ≡ grown before c → unwrap_or before 0 < 10 ^ k → unwrap_or after 0 < 10 ^ (k + 1)
grown_bound None after c k e h = let p = pow-suc 10 k in rw (add-one, pow-suc) (grind (arith, nat_tests))
grown_bound (Some n) after c k e h = rw (add-one, pow-suc) (grind (arith, nat_tests))

-- leading spaces say nothing
blank_read : (k : ℕ) (cs : List ℕ) → number_after None (replicate k 32 ++ cs) ≡ number_after None cs
blank_read zero cs = refl
blank_read (suc k) cs = blank_read k cs

-- the first digit
digit_first : (v : ℕ) → v < 10 → grown None (48 + v % 10) ≡ Some (Some v)
digit_first v l = grind (arith, nat_tests)

-- a further digit
digit_next : (v : ℕ) → 10 ≤ v → grown (Some (v / 10)) (48 + v % 10) ≡ Some (Some v)
digit_next v l = grind (arith, nat_tests)

-- a number of two digits or more has room for its front
front_fits : (w v : ℕ) → 10 ≤ v → v < 10 ^ suc w → (0 < w) × (v / 10 < 10 ^ w)
front_fits zero v l h = absurd (omega arith)
front_fits (suc w) v l h = (omega arith, omega (arith, pow-suc 10 (suc w)))

-- what is written for v is read as v, whatever stands behind it
text_read : (w v : ℕ) (cs : List ℕ) → 0 < w → v < 10 ^ w → number_after None (number_text w v ++ cs) ≡ number_after (Some v) cs
text_read zero v cs some small = absurd (omega arith)
text_read (suc w) v cs some small = elim (cases_lt v 10) [
  | inl l ↦ rw (lt-ltb v 10 l, append_assoc, blank_read, digit_first v l)
  | inr l ↦
      let room = front_fits w v l small in
      rw (le-ltb v 10 l, append_assoc, text_read w (v / 10) ((48 + v % 10) ∷ cs) room.0 room.1, digit_next v l)
]

-- a column has the width that it is written with
pub length_text : (w v : ℕ) → length (number_text w v) ≡ w
length_text zero v = refl
length_text (suc w) v = length_push _ (48 + v % 10) ∙ ap (λ n. n + 1) (cond_both (ltb v 10) (replicate w 32) (number_text w (v / 10)) (λ l. length l ≡ w) (λ _. length-replicate w 32) (λ _. length_text w (v / 10))) ∙ add-one w

-- what is written for v reads as v
pub number_written : (w v : ℕ) → Fits w v → number_of (number_text w v) ≡ Some v
number_written w v h =
    let wide : leb (length (number_text w v)) 18 ≡ true = le-leb _ 18 (rw (length_text w v) h.1) in
    rw wide (ap (number_after None) (sym (append-nil (number_text w v))) ∙ text_read w v [] h.0 h.2)

-- only a space goes before the first digit
grown_blank : (c : ℕ) → grown None c ≡ Some None → c ≡ 32
grown_blank c e = grind (arith, nat_tests)

-- a first digit behind spaces is a column of one digit
grown_first : (c n k : ℕ) → grown None c ≡ Some (Some n) → replicate k 32 ++ c ∷ [] ≡ number_text (suc k) n
grown_first c n k e =
    let low : n < 10 = grind (arith, nat_tests) in
    let same : c ≡ 48 + n % 10 = grind (arith, nat_tests) in
    rw (lt-ltb n 10 low, same)

-- a further digit behind a column is a column of one digit more
grown_next : (c m n k : ℕ) → grown (Some m) c ≡ Some (Some n) → number_text k m ++ c ∷ [] ≡ number_text (suc k) n
grown_next c m n k e =
    let high : 10 ≤ n = grind (arith, nat_tests) in
    let front : m ≡ n / 10 = grind (arith, nat_tests) in
    let same : c ≡ 48 + n % 10 = grind (arith, nat_tests) in
    rw (le-ltb n 10 high, front, same)

-- no space comes after a digit
grown_stays : (c m : ℕ) → grown (Some m) c ≡ Some None → ⊥
grown_stays c m e = grind (arith, nat_tests)

-- one byte from the back of the front to the front of the back
add_front : (xs ys zs : List ℕ) (c : ℕ) → xs ++ c ∷ [] ≡ ys → ys ++ zs ≡ xs ++ c ∷ zs
add_front xs ys zs c e = rw (← e, append_assoc)

suc_over : (k n v : ℕ) → number_text (suc k + n) v ≡ number_text (k + suc n) v
suc_over k n v = ap (λ w. number_text w v) (omega arith)

-- what was found first, and what it went on with
then_some : {A B : Type 0} (o : Option A) (f : A → Option B) (v : B) → option_and_then f o ≡ Some v → (x : A) × (o ≡ Some x) × (f x ≡ Some v)
then_some o f v e = option_and_then_some f o v e (λ x p q. (x, p, q))

-- bytes that read as v after the digits of m are, behind those, what is written for v
digits_text : (cs : List ℕ) (k m v : ℕ) → number_after (Some m) cs ≡ Some v → number_text k m ++ cs ≡ number_text (k + length cs) v
digits_text [] k m v h =
    let e : m ≡ v = cc in
    rw (append-nil, add-zero, e)
digits_text (c ∷ cs) k m v h =
    let g = then_some (grown (Some m) c) (λ after. number_after after cs) v h in
    elim g.0 as (λ a. grown (Some m) c ≡ Some a → number_after a cs ≡ Some v → number_text k m ++ c ∷ cs ≡ number_text (k + suc (length cs)) v) [
      | None ↦ λ e i. absurd (grown_stays c m e)
      | Some n ↦ λ e i. sym (add_front (number_text k m) (number_text (suc k) n) cs c (grown_next c m n k e)) ∙ digits_text cs (suc k) n v i ∙ suc_over k (length cs) v
    ] g.1 g.2

-- bytes that read as v after k spaces are, behind those, what is written for v
column_text : (cs : List ℕ) (k v : ℕ) → number_after None cs ≡ Some v → replicate k 32 ++ cs ≡ number_text (k + length cs) v
column_text [] k v h = absurd cc
column_text (c ∷ cs) k v h =
    let g = then_some (grown None c) (λ after. number_after after cs) v h in
    elim g.0 as (λ a. grown None c ≡ Some a → number_after a cs ≡ Some v → replicate k 32 ++ c ∷ cs ≡ number_text (k + suc (length cs)) v) [
      | None ↦ λ e i. sym (add_front (replicate k 32) (replicate (suc k) 32) cs c (rw (grown_blank c e, replicate_more, add-one))) ∙ column_text cs (suc k) v i ∙ suc_over k (length cs) v
      | Some n ↦ λ e i. sym (add_front (replicate k 32) (number_text (suc k) n) cs c (grown_first c n k e)) ∙ digits_text cs (suc k) n v i ∙ suc_over k (length cs) v
    ] g.1 g.2

-- the number read has at most as many digits as there are bytes
number_below : (cs : List ℕ) (before : Option ℕ) (k v : ℕ) → unwrap_or before 0 < 10 ^ k → number_after before cs ≡ Some v → v < 10 ^ (k + length cs)
number_below [] before k v l h = rw (add-zero) (let e : unwrap_or before 0 ≡ v = rw h in omega arith)
number_below (c ∷ cs) before k v l h =
    let g = then_some (grown before c) (λ after. number_after after cs) v h in
    let i = number_below cs g.0 (k + 1) v (grown_bound before g.0 c k (sym g.1) l) g.2 in
    subst (λ e. v < 10 ^ e) (omega arith) i

-- no bytes say no number
some_bytes : (cs : List ℕ) (v : ℕ) → number_after None cs ≡ Some v → 0 < length cs
some_bytes [] v h = absurd cc
some_bytes (c ∷ cs) v h = omega arith

-- a column of more than 18 bytes says no number
not_wide : (cs : List ℕ) (v : ℕ) (b : Bool) → cond b (number_after None cs) None ≡ Some v → (b ≡ true) × (number_after None cs ≡ Some v)
not_wide cs v true e = (refl, e)
not_wide cs v false e = absurd cc

-- what reads as v is what is written for v
pub number_read : (cs : List ℕ) (v : ℕ) → number_of cs ≡ Some v → Holds cs v
number_read cs v h =
    let n = not_wide cs v (leb (length cs) 18) h in (
      (some_bytes cs v n.1, leb-true (length cs) 18 n.0, rw zero-add at (number_below cs None 0 v (omega arith) n.1)),
      column_text cs 0 v n.1 ∙ ap (λ w. number_text w v) (zero-add (length cs)),
    )

-- the number that a column says is the one that it holds, and where it says none, it holds none
pub number_says : (cs : List ℕ) (o : Option ℕ) → o ≡ number_of cs → NumberSays cs o
number_says cs (Some v) e = number_read cs v (sym e)
number_says cs None e = λ v h. absurd (let same : None ≡ Some v = e ∙ ap number_of h.1 ∙ number_written (length cs) v h.0 in cc)
