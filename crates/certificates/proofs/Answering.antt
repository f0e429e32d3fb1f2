-- Tests of each seat, and of each member of a set.
use Rattle.std.proofs.Common.{◌≡◌, ℕ, ◌<◌, ◌∙◌, zero-add, get_or, Bool, true, false, Option, None, Some, MatchBool, MatchOption, List, [], ◌∷◌, length, refl, sym, subst, ⊎_elim, arith}
use Rattle.std.proofs.iter.Yields.{nat_range_steps}
use Rattle.std.proofs.lemmas.Bool.{cases_eq}
use Rattle.std.proofs.lemmas.Iterator.{cases_from_all, YieldsList-from_range}
use Rattle.std.proofs.lemmas.List.FromFn.{length-range_with_len, get_or-range_with_len}
use Rattle.std.specs.Fn.{Called}
use Rattle.std.specs.Iterator.{Yields, YieldsThen}
use Rattle.std.specs.List.{range_with_len, FoldsTo, AllWithin, HoldsAt}
use Rattle.std.specs.declared.ops.Range.{Range}
use denote.Param.Members.{Mut}
use Rattle.seats.specs.declared.InOrder.{InOrder}
use Rattle.seats.specs.Lists.{TakesLowest}
use Rattle.seats.specs.Sets.{In, Taken}
use Rattle.seats.proofs.Members.{in_none}

-- P is decided where one answer shows it, and the other one refutes it
pub decided : (r : Bool) (A B P : Type 0) → (A → P) → (B → P → ⊥) → MatchBool r A B → MatchBool r P (P → ⊥)
decided true A B P shows refutes h = shows h
decided false A B P shows refutes h = refutes h

at : (n i : ℕ) → i < n → get_or (range_with_len 0 n) i 0 ≡ i
at n i lt = get_or-range_with_len 0 n i 0 lt ∙ zero-add i

below : (n : ℕ) (r : Bool) (Yes No : ℕ → Type 0)
    → MatchBool r (AllWithin Yes (range_with_len 0 n) 0 (length (range_with_len 0 n))) ((k : ℕ) × (k < length (range_with_len 0 n)) × HoldsAt No (range_with_len 0 n) k)
    → MatchBool r ((i : ℕ) → i < n → Yes i) ((i : ℕ) × (i < n) × No i)
below n true Yes No h = λ i lt. let l = length-range_with_len 0 n in subst Yes (at n i lt) (h i 0 (omega arith) (omega arith))
below n false Yes No h = let l = length-range_with_len 0 n in let p = h.1 in let lt : h.0 < n = omega arith in (h.0, lt, subst No (at n h.0 lt) (h.2 0))

-- a test f that says Yes or No of a seat
module _ {F : Type 0} {g : Mut F (ℕ × Unit {0}) Bool} (f : F) (Yes No : ℕ → Type 0)
    (passes : (i : ℕ) (q : F) → Called g f (i, tt) true q → (q ≡ f) × Yes i) (fails : (i : ℕ) (q : F) → Called g f (i, tt) false q → No i) where
  -- what the last call of the test says
  abbrev pub Told : Option ℕ → Bool → F → Type 0
  Told o r j = MatchOption o (r ≡ true) (λ x. (r ≡ false) × ((h : F) × Called g j (x, tt) false h))

  -- each seat below n passes, or one fails
  pub each_seat : {s : Range ℕ} (u : Range ℕ) (n : ℕ) (r : Bool)
      → (xs : List ℕ) × (o : Option ℕ) × (j : F) × YieldsThen nat_range_steps s xs o u × FoldsTo (λ a x b. Called g a (x, tt) true b) f xs j × Told o r j
      → s ≡ record { start = 0; end = n } → MatchBool r ((i : ℕ) → i < n → Yes i) ((i : ℕ) × (i < n) × No i)
  each_seat u n r ran is = below n r Yes No (cases_from_all u f r Yes No ran (YieldsList-from_range 0 n n is (omega arith)) passes fails)

  -- each member passes, or one fails
  abbrev Tested : Bool → ℕ → Type 0
  Tested r set = MatchBool r ((i : ℕ) → In i set → Yes i) ((i : ℕ) × In i set × No i)

  last : (s u : InOrder) (o : Option ℕ) (r : Bool) (j : F) → j ≡ f → TakesLowest s o u → Told o r j → Tested r s.left
  last s u None r j e l k = subst (λ b. Tested b s.left) (sym k) (λ i m. absurd (in_none i (subst (λ set. In i set) l.0 m)))
  last s u (Some x) r j e l k = subst (λ b. Tested b s.left) (sym k.0) (x, l.lowest.member, fails x k.1.0 (subst (λ q. Called g q (x, tt) false k.1.0) e k.1.1))

  one : (r : Bool) (old new x : ℕ) → Taken old new x → Yes x → Tested r new → Tested r old
  one true old new x took y h = λ i m. ⊎_elim (λ e. subst Yes (sym e) y) (λ ne. h i ((took.others i).1 (m, ne))) (cases_eq i x)
  one false old new x took y h = (h.0, ((took.others h.0).0 h.1).0, h.2)

  tested : (xs : List ℕ) (s t u : InOrder) (o : Option ℕ) (r : Bool) (p j : F) → p ≡ f → Yields TakesLowest s xs t → TakesLowest t o u
      → FoldsTo (λ a x b. Called g a (x, tt) true b) p xs j → Told o r j → Tested r s.left
  tested [] s t u o r p j e y l c k = last s u o r j (sym c ∙ e) (subst (λ z. TakesLowest z o u) (sym y) l) k
  tested (x ∷ xs) s t u o r p j e y l c k =
      let h = passes x c.0 (subst (λ q. Called g q (x, tt) true c.0) e c.1) in
      one r s.left y.0.left x y.1 h.1 (tested xs y.0 t u o r c.0 j h.0 y.2 l c.2 k)

  pub each_member : {s : InOrder} (u : InOrder) (set : ℕ) (r : Bool)
      → (xs : List ℕ) × (o : Option ℕ) × (j : F) × YieldsThen TakesLowest s xs o u × FoldsTo (λ a x b. Called g a (x, tt) true b) f xs j × Told o r j
      → s.left ≡ set → MatchBool r ((i : ℕ) → In i set → Yes i) ((i : ℕ) × In i set × No i)
  each_member {s} u set r ran is = subst (λ l. Tested r l) is (tested ran.0 s ran.3.0 u ran.1 r f ran.2 refl ran.3.1 ran.3.2 ran.4 ran.5)
