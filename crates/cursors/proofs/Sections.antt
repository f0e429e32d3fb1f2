-- Lines that go on as long as a test is met: the loop that takes them, and their text. Assumes nothing.
use Rattle.std.proofs.Common.{◌≡◌, ℕ, zero, suc, ◌+◌, ◌-◌, ◌<◌, ◌≤◌, Bool, true, false, List, [], ◌∷◌, ◌++◌, length, sym, refl, ap, ◌∙◌, subst, inl, inr, append_assoc, append-nil, arith}
use native.Mathlib.Nat.{sub-zero}
use Rattle.std.specs.List.{flat_map, AllByRecursion as All}
use Rattle.std.proofs.lemmas.Bool.{cases_Bool}
use Rattle.faults.specs.declared.Fault.{Fault}
use Rattle.cursors.specs.Lists.{section}
use Rattle.cursors.specs.Steps.{Spot, got, refused, Step, go_on, ◌▸◌, done}
use Rattle.cursors.proofs.Chained.{turn, front_none, front_one}
use Rattle.cursors.proofs.Read.{Reads, Anything, Begins, go_on_got, got_parts}

module _ {A : Type 0} (test : Spot → Bool) (step : Step A) where
  -- xs, and then what comes in at most k turns more
  abbrev pub further : List A → ℕ → Step (List A)
  further xs k p = go_on (section test step k p) (λ ys. done (xs ++ ys))

  -- before the first turn
  pub further_none : (xs : List A) (n : ℕ) (p : Spot) → xs ≡ [] → further xs (n - 0) p ≡ section test step n p
  further_none xs n p e = rw (e, sub-zero) (front_none (section test step n p))

  -- after a turn that found x
  pub further_turn : (xs ys : List A) (x : A) (n i : ℕ) (p q : Spot) → i < n → test p ≡ true → got x q ≡ step p → ys ≡ xs ++ x ∷ [] → further ys (n - (i + 1)) q ≡ further xs (n - i) p
  further_turn xs ys x n i p q h t e f = rw (f, turn n i h, section, t, ← e) (sym (front_one xs x (section test step (n - (i + 1)) q)))

  -- at a turn that is refused
  pub further_refused : (xs : List A) (n i : ℕ) (p : Spot) (e : Fault) → i < n → test p ≡ true → refused e ≡ step p → further xs (n - i) p ≡ refused e
  further_refused xs n i p e h t r = rw (turn n i h, section, t, ← r)

  -- where the test is not met
  pub further_stops : (xs : List A) (n i : ℕ) (p : Spot) → i < n → test p ≡ false → further xs (n - i) p ≡ got xs p
  further_stops xs n i p h t = rw (turn n i h, section, t, append-nil)

  -- after the last turn
  pub further_all : (xs : List A) (n i : ℕ) (p : Spot) → n ≤ i → further xs (n - i) p ≡ got xs p
  further_all xs n i p h = let z : n - i ≡ 0 = omega arith in rw (z, append-nil)

-- what comes next does not meet the test
abbrev pub Stops : (Spot → Bool) → List ℕ → Type 0
Stops test rest = (p : Spot) → p.rest ≡ rest → test p ≡ false

module _ {A : Type 0} {test : Spot → Bool} {step : Step A} {t : A → List ℕ} {P : A → Type 0} (a : Reads step t P Anything) (meets : Begins test true t P) where
  section_back : (n : ℕ) (p q : Spot) (xs : List A) → section test step n p ≡ got xs q → (p.rest ≡ flat_map t xs ++ q.rest) × (All P xs × (length xs ≤ n))
  section_back zero p q xs e = let g = got_parts [] xs p q e in subst (λ ys. (p.rest ≡ flat_map t ys ++ q.rest) × (All P ys × (length ys ≤ 0))) g.0 (ap (λ r. r.rest) g.1, (tt, omega arith))
  section_back (suc n) p q xs e = elim (cases_Bool (test p)) [
    | inl here ↦
        let e2 = rw here at e in
        let g = go_on_got (step p) (λ x. section test step n ▸ λ ys. done (x ∷ ys)) xs q e2 in
        let h = go_on_got (section test step n g.1) (λ ys. done (g.0 ∷ ys)) xs q g.3 in
        let one = a.back p g.1 g.0 g.2 in
        let two = section_back n g.1 h.1 h.0 h.2 in
        let is = got_parts (g.0 ∷ h.0) xs h.1 q h.3 in
        subst (λ ys. (p.rest ≡ flat_map t ys ++ q.rest) × (All P ys × (length ys ≤ suc n))) is.0 (
          one.0 ∙ ap (λ l. t g.0 ++ l) (two.0 ∙ ap (λ r. flat_map t h.0 ++ r.rest) is.1) ∙ sym (append_assoc (t g.0) (flat_map t h.0) q.rest),
          ((one.1, two.1.0), omega (arith, two.1.1)),
        )
    | inr past ↦
        let g = got_parts [] xs p q (rw past at e) in
        subst (λ ys. (p.rest ≡ flat_map t ys ++ q.rest) × (All P ys × (length ys ≤ suc n))) g.0 (ap (λ r. r.rest) g.1, (tt, omega arith))
  ]

  -- nothing more is read where the test is not met
  section_none : (n : ℕ) (p : Spot) → test p ≡ false → section test step n p ≡ got [] p
  section_none zero p f = refl
  section_none (suc n) p f = rw f

  section_forth : (xs : List A) (n : ℕ) (p : Spot) (rest : List ℕ) → All P xs → length xs ≤ n → Stops test rest → p.rest ≡ flat_map t xs ++ rest → (q : Spot) × (section test step n p ≡ got xs q) × (q.rest ≡ rest)
  section_forth [] n p rest ok few stops e = (p, section_none n p (stops p e), e)
  section_forth (x ∷ xs) zero p rest ok few stops e = absurd (omega arith)
  section_forth (x ∷ xs) (suc n) p rest ok few stops e =
      let at = e ∙ append_assoc (t x) (flat_map t xs) rest in
      let here = meets p x (flat_map t xs ++ rest) ok.0 at in
      let one = a.forth p x (flat_map t xs ++ rest) ok.0 tt at in
      let two = section_forth xs n one.0 rest ok.1 (omega arith) stops one.2 in
      (two.0, rw here (ap (λ o. go_on o (λ x. section test step n ▸ λ zs. done (x ∷ zs))) one.1 ∙ ap (λ o. go_on o (λ zs. done (x ∷ zs))) two.1), two.2)

  -- a section reads the texts of its lines, where what comes next does not go on with one
  pub reads_section : (n : ℕ) → Reads (section test step n) (flat_map t) (λ xs. All P xs × (length xs ≤ n)) (Stops test)
  reads_section n = record {
    back = λ p q xs e. section_back n p q xs e;
    forth = λ p xs rest ok stops e. section_forth xs n p rest ok.0 ok.1 stops e;
  }
