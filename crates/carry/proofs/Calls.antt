-- What the calls of the layer answer, from what the system below answered.
use Rattle.std.proofs.Common.{◌≡◌, ℕ, ◌+◌, ◌<◌, ◌≤◌, ltb, leb, List, length, get_or, set, Ok, Err, Result, sym, ap, ◌∙◌, subst, arith}
use Rattle.std.proofs.lemmas.Bool.{cond-true, lt-ltb, le-leb}
use Rattle.faults.specs.declared.Fault.{Fault}
use Rattle.faults.specs.declared.Kind.{Kind}
use Rattle.faults.specs.declared.Kind.TheVariants.{Carry as CarryKind}
use Rattle.faults.specs.Depth.{raised, passed_up}
use Rattle.bases.specs.Says.{ReachSays, ShiftSays, refusal}
use Rattle.bases.proofs.Refusals.{refusal_why}
use Rattle.carry.specs.Carried.{added, largest, Carried, carry_answer}
use Rattle.carry.specs.Added.{length_added}
use Rattle.carry.specs.Layer.{reach_below, reach_above}
use Rattle.carry.specs.declared.Carry.{Carry}
use Rattle.std.proofs.Math.Bridge.{le_prop}

module _ (x : List ℕ) (kind : Kind) (i : ℕ) where
  -- at a seat the reach is the reach below
  pub reach_says : (c : List ℕ) (B : List ℕ → Type 0) → i < length x → (r s : Result ℕ Fault) → ReachSays B x kind i r → s ≡ passed_up r
      → ReachSays (Carried c B) (added c x) CarryKind i s
  reach_says c B seat r s says up = subst (ReachSays (Carried c B) (added c x) CarryKind i) (sym up) (at r says)
    where
      at : (t : Result ℕ Fault) → ReachSays B x kind i t → ReachSays (Carried c B) (added c x) CarryKind i (passed_up t)
      at (Ok u) h =
          let l = length_added c x in
          (omega arith, λ j. (λ m. reach_above B c x i j ((h.1 j).0 m), λ q. (h.1 j).1 (reach_below B c x i j q)))
      at (Err f) h = absurd (let past = h.0 in omega arith)

-- between two different seats the layer's refusal is the one below, raised
pub refusal_raised : (n : ℕ) (kind : Kind) (why : ℕ → ℕ → Fault) (i j : ℕ) → i < n → j < n → (i ≡ j → ⊥)
    → raised (refusal n kind why i j) ≡ refusal n CarryKind (λ k l. raised (why k l)) i j
refusal_raised n kind why i j hi hj ne =
    ap raised (refusal_why n kind why i j hi hj ne) ∙ sym (refusal_why n CarryKind (λ k l. raised (why k l)) i j hi hj ne)

-- a layer is known by the system below and by its table
pub same_layer : {S : _} {b : _} (a : Carry S b) (t : S) (low : b.top t + largest a.table.carried ≤ 999999) → t ≡ a.below → ◌≡◌ {A = Carry S b} (record { below = t; table = a.table; low = low }) a
same_layer {S} {b} a t low same = subst (λ (t : S). (l : b.top t + largest a.table.carried ≤ 999999) → ◌≡◌ {A = Carry S b} (record { below = t; table = a.table; low = l }) a) (sym same) (λ l. ap (λ l. record { below = a.below; table = a.table; low = l }) (le_prop l a.low)) low

-- a shift of the layer is the shift below: where that one answers r, the layer answers r passed up
pub shift_says : {S T : Type 0} (before after : S) (before' after' : T) (B : List ℕ → Type 0) (c x : List ℕ) (due due' : Fault) (Shifted Shifted' : ℕ → Type 0) (i j : ℕ) (r s : Result ℕ Fault)
    → ShiftSays before after B x due Shifted i j r → s ≡ passed_up r → raised due ≡ due' → (after ≡ before → after' ≡ before')
    → ((count : ℕ) → 0 < get_or x i 0 → Shifted count → Shifted' count)
    → ShiftSays before' after' (Carried c B) (added c x) due' Shifted' i j s
shift_says before after before' after' B c x due due' Shifted Shifted' i j r s says up fault same shifts =
    subst (ShiftSays before' after' (Carried c B) (added c x) due' Shifted' i j) (sym up) (at r says)
  where
    at : (t : Result ℕ Fault) → ShiftSays before after B x due Shifted i j t → ShiftSays before' after' (Carried c B) (added c x) due' Shifted' i j (passed_up t)
    at (Ok count) h =
        let l = length_added c x in
        let few = h.2 in
        (reach_above B c x i j h.0, h.1, omega arith, shifts count h.0.gives h.3)
    at (Err f) h = (λ reach. h.0 (reach_below B c x i j reach), ap raised h.1 ∙ fault, same h.2)

-- what may be carried is carried
pub carry_allowed : (seats top : ℕ) (c : List ℕ) (i n : ℕ) → i < seats → n ≤ 900000 → top + largest (set c i n) ≤ 999999 → carry_answer seats top c i n ≡ Ok tt
carry_allowed seats top c i n seat few low =
    cond-true (ltb i seats) _ _ (lt-ltb i seats seat) ∙ cond-true (leb n 900000) _ _ (le-leb n 900000 few)
    ∙ cond-true (leb (top + largest (set c i n)) 999999) _ _ (le-leb (top + largest (set c i n)) 999999 low)
