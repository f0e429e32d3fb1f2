-- Steps that follow one another: the loop that takes them, and their text. Assumes nothing.
use Rattle.std.proofs.Common.{◌≡◌, ℕ, zero, suc, ◌+◌, ◌-◌, ◌<◌, ◌≤◌, List, [], ◌∷◌, ◌++◌, length, sym, refl, ap, ◌∙◌, subst, append_assoc, append-nil, arith}
use native.Mathlib.Nat.{sub-zero}
use Rattle.faults.specs.declared.Fault.{Fault}
use Rattle.cursors.specs.Lists.{chain}
use Rattle.cursors.specs.Steps.{Spot, Outcome, got, refused, Step, go_on, ◌▸◌, done}
use Rattle.cursors.proofs.Read.{Reads, Anything, go_on_got, got_parts}

-- a loop of n turns has one turn more to go before turn i than after it
pub turn : (n i : ℕ) → i < n → n - i ≡ suc (n - (i + 1))
turn n i h = omega arith

-- an outcome with nothing put in front
pub front_none : {A : Type 0} (o : Outcome (List A)) → go_on o (λ ys. done ([] ++ ys)) ≡ o
front_none (got xs q) = refl
front_none (refused e) = refl

-- one element, and what was found before it, put in front
pub front_one : {A : Type 0} (xs : List A) (x : A) (o : Outcome (List A)) → go_on (go_on o (λ ys. done (x ∷ ys))) (λ ys. done (xs ++ ys)) ≡ go_on o (λ ys. done ((xs ++ x ∷ []) ++ ys))
front_one xs x (got ys r) = ap (λ zs. got zs r) (sym (append_assoc xs (x ∷ []) ys))
front_one xs x (refused e) = refl

module _ {S A : Type 0} (step : S → Step A) (next : S → A → S) where
  -- xs, and then what comes in k turns more from the state s
  abbrev pub onward : List A → ℕ → S → Step (List A)
  onward xs k s p = go_on (chain step next k s p) (λ ys. done (xs ++ ys))

  -- before the first turn
  pub onward_none : (xs : List A) (n : ℕ) (s : S) (p : Spot) → xs ≡ [] → onward xs (n - 0) s p ≡ chain step next n s p
  onward_none xs n s p e = rw (e, sub-zero) (front_none (chain step next n s p))

  -- after a turn that found x
  pub onward_turn : (xs ys : List A) (x : A) (n i : ℕ) (s : S) (p q : Spot) → i < n → got x q ≡ step s p → ys ≡ xs ++ x ∷ [] → onward ys (n - (i + 1)) (next s x) q ≡ onward xs (n - i) s p
  onward_turn xs ys x n i s p q h e f = rw (f, turn n i h, chain, ← e) (sym (front_one xs x (chain step next (n - (i + 1)) (next s x) q)))

  -- at a turn that is refused
  pub onward_refused : (xs : List A) (n i : ℕ) (s : S) (p : Spot) (e : Fault) → i < n → refused e ≡ step s p → onward xs (n - i) s p ≡ refused e
  onward_refused xs n i s p e h r = rw (turn n i h, chain, ← r)

  -- after the last turn
  pub onward_all : (xs : List A) (n i : ℕ) (s : S) (p : Spot) → n ≤ i → onward xs (n - i) s p ≡ got xs p
  onward_all xs n i s p h = let z : n - i ≡ 0 = omega arith in rw (z, append-nil)

module _ {S A : Type 0} (next : S → A → S) where
  -- the texts of a chain
  abbrev pub texts : (S → A → List ℕ) → S → List A → List ℕ
  texts t s [] = []
  texts t s (x ∷ xs) = t s x ++ texts t (next s x) xs

  -- what holds along a chain
  abbrev pub Along : (S → A → Type 0) → S → List A → Type 0
  Along P s [] = Unit {0}
  Along P s (x ∷ xs) = P s x × Along P (next s x) xs

  -- a chain reads the texts of its steps
  pub reads_chain : {step : S → Step A} {t : S → A → List ℕ} {P : S → A → Type 0} → ((s : S) → Reads (step s) (t s) (P s) Anything) → (n : ℕ) (s : S) → Reads (chain step next n s) (texts t s) (λ xs. Along P s xs × (length xs ≡ n)) Anything
  reads_chain {step = step} {t = t} {P = P} a zero s = record {
    back = λ p q xs e. let g = got_parts [] xs p q e in subst (λ ys. (p.rest ≡ texts t s ys ++ q.rest) × (Along P s ys × (length ys ≡ 0))) g.0 (ap (λ r. r.rest) g.1, (tt, refl));
    forth = λ p xs rest ok _ e. elim xs as (λ ys. Along P s ys × (length ys ≡ 0) → p.rest ≡ texts t s ys ++ rest → (q : Spot) × (chain step next 0 s p ≡ got ys q) × (q.rest ≡ rest)) [
      | [] ↦ λ ok f. (p, refl, f)
      | y ∷ ys ↦ λ ok f. absurd (omega (arith, ok.1))
    ] ok e;
  }
  reads_chain {step = step} {t = t} {P = P} a (suc n) s = record {
    back = λ p q xs e.
        let g = go_on_got (step s p) (λ x. chain step next n (next s x) ▸ λ ys. done (x ∷ ys)) xs q e in
        let h = go_on_got (chain step next n (next s g.0) g.1) (λ ys. done (g.0 ∷ ys)) xs q g.3 in
        let one = (a s).back p g.1 g.0 g.2 in
        let two = (reads_chain a n (next s g.0)).back g.1 h.1 h.0 h.2 in
        let is = got_parts (g.0 ∷ h.0) xs h.1 q h.3 in
        subst (λ ys. (p.rest ≡ texts t s ys ++ q.rest) × (Along P s ys × (length ys ≡ suc n))) is.0 (
          one.0 ∙ ap (λ l. t s g.0 ++ l) (two.0 ∙ ap (λ r. texts t (next s g.0) h.0 ++ r.rest) is.1) ∙ sym (append_assoc (t s g.0) (texts t (next s g.0) h.0) q.rest),
          ((one.1, two.1.0), ap suc two.1.1),
        );
    forth = λ p xs rest ok _ e. elim xs as (λ ys. Along P s ys × (length ys ≡ suc n) → p.rest ≡ texts t s ys ++ rest → (q : Spot) × (chain step next (suc n) s p ≡ got ys q) × (q.rest ≡ rest)) [
      | [] ↦ λ ok f. absurd (omega (arith, ok.1))
      | y ∷ ys ↦ λ ok f.
          let one = (a s).forth p y (texts t (next s y) ys ++ rest) ok.0.0 tt (f ∙ append_assoc (t s y) (texts t (next s y) ys) rest) in
          let two = (reads_chain a n (next s y)).forth one.0 ys rest (ok.0.1, omega (arith, ok.1)) tt one.2 in
          (two.0, ap (λ o. go_on o (λ x. chain step next n (next s x) ▸ λ zs. done (x ∷ zs))) one.1 ∙ ap (λ o. go_on o (λ zs. done (y ∷ zs))) two.1, two.2)
    ] ok e;
  }
