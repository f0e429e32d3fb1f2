-- A step and the text that it reads, both ways. Assumes nothing.
use Rattle.std.proofs.Common.{◌≡◌, ℕ, Bool, true, false, cond, eqb, ◌⊎◌, List, [], ◌++◌, length, sym, refl, ap, ◌∙◌, subst, inl, inr, append_assoc, append-nil}
use Rattle.faults.specs.declared.Fault.{Fault}
use Rattle.faults.specs.declared.Reason.TheVariants.{Layout}
use Rattle.std.proofs.lemmas.List.{nil_from_length}
use Rattle.std.proofs.lemmas.Bool.{cases_Bool, eqb-true}
use Rattle.cursors.specs.Steps.{Spot, Outcome, got, refused, Step, go_on, ◌▸◌, done, either, page_end, here, start}

-- whatever comes next
abbrev pub Anything : List ℕ → Type 0
Anything rest = Unit {0}

-- s reads just the texts of sound values. What it finds is sound, and its text is what was read;
-- and where what comes next allows it, s finds x in the text of a sound x, and goes on behind it.
pub record Reads {A : Type 0} (s : Step A) (text : A → List ℕ) (Sound : A → Type 0) (Next : List ℕ → Type 0) : Type 0 where
  pub back : (p q : Spot) (x : A) → s p ≡ got x q → (p.rest ≡ text x ++ q.rest) × Sound x
  pub forth : (p : Spot) (x : A) (rest : List ℕ) → Sound x → Next rest → p.rest ≡ text x ++ rest → (q : Spot) × (s p ≡ got x q) × (q.rest ≡ rest)

-- a refusal finds nothing
pub never : {A : Type 0} {x : A} {p : Spot} (f : Fault) → refused f ≡ got x p → ⊥
never f e = cc

-- what two outcomes that are the same found
pub got_parts : {A : Type 0} (x y : A) (p q : Spot) → got x p ≡ got y q → (x ≡ y) × (p ≡ q)
got_parts x y p q e = ((cc), (cc))

-- what came first, where two steps went well
pub go_on_got : {A B : Type 0} (o : Outcome A) (f : A → Step B) (y : B) (q : Spot) → go_on o f ≡ got y q → (x : A) × (r : Spot) × (o ≡ got x r) × (f x r ≡ got y q)
go_on_got (got x r) f y q e = (x, r, refl, e)
go_on_got (refused e) f y q h = absurd (never e h)

-- nothing is read
pub reads_done : {A : Type 0} (x : A) → Reads (done x) (λ _. []) (λ y. y ≡ x) Anything
reads_done x = record {
  back = λ p q y e. (let f : p ≡ q = cc in ap (λ r. r.rest) f, (cc));
  forth = λ p y rest e _ f. (p, ap (λ z. got z p) (sym e), f);
}

-- One step and then another: `first` finds in the whole what the first step found.
-- What the second reads has to be something that may come next after the first.
pub reads_next : {A B : Type 0} {s : Step A} {f : A → Step B} {t : A → List ℕ} {u : A → B → List ℕ} {P : A → Type 0} {Q : A → B → Type 0} {M N : List ℕ → Type 0} (first : B → A) → Reads s t P M → ((x : A) → P x → Reads (f x) (u x) (Q x) N) → ((x : A) (y : B) → Q x y → first y ≡ x) → ((x : A) (y : B) (rest : List ℕ) → P x → Q x y → N rest → M (u x y ++ rest)) → Reads (s ▸ f) (λ y. t (first y) ++ u (first y) y) (λ y. P (first y) × Q (first y) y) N
reads_next {s = s} {f = f} {t = t} {u = u} {P = P} {Q = Q} first a b same next = record {
  back = λ p q y e.
      let g = go_on_got (s p) f y q e in
      let x = g.0 in
      let one = a.back p g.1 x g.2 in
      let two = (b x one.1).back g.1 q y g.3 in
      let is : first y ≡ x = same x y two.1 in
      subst (λ z. (p.rest ≡ (t z ++ u z y) ++ q.rest) × (P z × Q z y)) (sym is) (one.0 ∙ ap (λ l. t x ++ l) two.0 ∙ sym (append_assoc (t x) (u x y) q.rest), (one.1, two.1));
  forth = λ p y rest ok after e.
      let x = first y in
      let one = a.forth p x (u x y ++ rest) ok.0 (next x y rest ok.0 ok.1 after) (e ∙ append_assoc (t x) (u x y) rest) in
      let two = (b x ok.0).forth one.0 y rest ok.1 after one.2 in
      (two.0, ap (λ o. go_on o f) one.1 ∙ two.1, two.2);
}

-- the same where anything may come after the first step
pub reads_then : {A B : Type 0} {s : Step A} {f : A → Step B} {t : A → List ℕ} {u : A → B → List ℕ} {P : A → Type 0} {Q : A → B → Type 0} {N : List ℕ → Type 0} (first : B → A) → Reads s t P Anything → ((x : A) → P x → Reads (f x) (u x) (Q x) N) → ((x : A) (y : B) → Q x y → first y ≡ x) → Reads (s ▸ f) (λ y. t (first y) ++ u (first y) y) (λ y. P (first y) × Q (first y) y) N
reads_then first a b same = reads_next first a b same (λ _ _ _ _ _ _. tt)

-- the same in other words
pub reads_as : {A : Type 0} {s : Step A} {t : A → List ℕ} {P : A → Type 0} {N : List ℕ → Type 0} (u : A → List ℕ) (Q : A → Type 0) → Reads s t P N → ((x : A) → P x → Q x) → ((x : A) → Q x → P x) → ((x : A) → Q x → t x ≡ u x) → Reads s u Q N
reads_as u Q a to from same = record {
  back = λ p q x e. let h = a.back p q x e in let good = to x h.1 in (h.0 ∙ ap (λ l. l ++ q.rest) (same x good), good);
  forth = λ p x rest ok after e. a.forth p x rest (from x ok) after (e ∙ ap (λ l. l ++ rest) (sym (same x ok)));
}

-- what a step finds, held in another form: f and g lead there and back
pub reads_map : {A B : Type 0} {s : Step A} {t : A → List ℕ} {P : A → Type 0} {N : List ℕ → Type 0} (f : A → B) (g : B → A) (Q : B → Type 0) → Reads s t P N → ((x : A) → P x → (g (f x) ≡ x) × Q (f x)) → ((y : B) → Q y → (f (g y) ≡ y) × P (g y)) → Reads (s ▸ λ x. done (f x)) (λ y. t (g y)) Q N
reads_map {s = s} {t = t} f g Q a to from = record {
  back = λ p q y e.
      let h = go_on_got (s p) (λ x. done (f x)) y q e in
      let one = a.back p h.1 h.0 h.2 in
      let is = got_parts (f h.0) y h.1 q h.3 in
      let there = to h.0 one.1 in
      subst (λ z. (p.rest ≡ t (g z) ++ q.rest) × Q z) is.0 (one.0 ∙ ap (λ r. t h.0 ++ r.rest) is.1 ∙ ap (λ x. t x ++ q.rest) (sym there.0), there.1);
  forth = λ p y rest ok after e.
      let there = from y ok in
      let one = a.forth p (g y) rest there.1 after e in
      (one.0, ap (λ o. go_on o (λ x. done (f x))) one.1 ∙ ap (λ z. got z one.0) there.0, one.2);
}

-- a test answers b wherever the text of a sound value begins
abbrev pub Begins : {A : Type 0} → (Spot → Bool) → Bool → (A → List ℕ) → (A → Type 0) → Type 0
Begins {A} test b text Sound = (p : Spot) (x : A) (rest : List ℕ) → Sound x → p.rest ≡ text x ++ rest → test p ≡ b

-- one of two steps, which the test tells apart
pub reads_either : {A : Type 0} {test : Spot → Bool} {s t : Step A} {u : A → List ℕ} {P Q : A → Type 0} {N : List ℕ → Type 0} → Reads s u P N → Reads t u Q N → Begins test true u P → Begins test false u Q → Reads (either test s t) u (λ x. P x ⊎ Q x) N
reads_either {A} {test} {s} {t} {u} {P} {Q} a b meets other = record {
  back = λ p q x e. one p q x (test p) e;
  forth = λ p x rest ok after e. elim ok [
    | inl good ↦ let r = a.forth p x rest good after e in (r.0, rw (meets p x rest good e) r.1, r.2)
    | inr good ↦ let r = b.forth p x rest good after e in (r.0, rw (other p x rest good e) r.1, r.2)
  ];
}
  where
    one : (p q : Spot) (x : A) (c : Bool) → cond c (s p) (t p) ≡ got x q → (p.rest ≡ u x ++ q.rest) × (P x ⊎ Q x)
    one p q x true e = let h = a.back p q x e in (h.0, inl h.1)
    one p q x false e = let h = b.back p q x e in (h.0, inr h.1)

-- at the end of the page nothing is left
ended : (q r : Spot) (u : Unit {0}) → page_end q ≡ got u r → q.rest ≡ []
ended q r u e = elim (cases_Bool (eqb (length q.rest) 0)) [
  | inl t ↦ nil_from_length q.rest (eqb-true _ 0 t)
  | inr f ↦ absurd (never _ (rw f at e))
]

module _ {A : Type 0} {s : Step A} {t : A → List ℕ} {P : A → Type 0} (law : Reads s t P Anything) where
  -- a page that is read to its end is the text of what was read
  pub whole_back : (page : List ℕ) (x : A) (q : Spot) → (s ▸ λ y. page_end ▸ λ _. done y) (start page) ≡ got x q → (page ≡ t x) × P x
  whole_back page x q e =
      let g = go_on_got (s (start page)) (λ y. page_end ▸ λ _. done y) x q e in
      let h = go_on_got (page_end g.1) (λ _. done g.0) x q g.3 in
      let one = law.back (start page) g.1 g.0 g.2 in
      let last = ended g.1 h.1 h.0 h.2 in
      subst (λ y. (page ≡ t y) × P y) (got_parts g.0 x h.1 q h.3).0
      (one.0 ∙ ap (λ l. t g.0 ++ l) last ∙ append-nil (t g.0), one.1)

  -- and the text of anything sound is read as that
  pub whole_forth : (x : A) → P x → (q : Spot) × ((s ▸ λ y. page_end ▸ λ _. done y) (start (t x)) ≡ got x q)
  whole_forth x ok =
      let one = law.forth (start (t x)) x [] ok tt (sym (append-nil (t x))) in
      (one.0, ap (λ o. go_on o (λ y. page_end ▸ λ _. done y)) one.1 ∙ ap (λ l. go_on (cond (eqb (length l) 0) (got tt one.0) (refused (here Layout one.0))) (λ _. done x)) one.2)
