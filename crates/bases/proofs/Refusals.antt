-- The fault of a refused shift, case by case, and what is never refused.
use Rattle.std.proofs.Common.{◌≡◌, ℕ, ◌<◌, ◌≤◌, eqb, ltb, List, length, get_or, Ok, Err, Result, sym, ap, ◌∙◌, arith}
use Rattle.std.proofs.lemmas.Bool.{cond-true, cond-false, lt-ltb, le-ltb, eq-eqb, ne_eqb}
use Rattle.faults.specs.declared.Fault.{Fault}
use Rattle.faults.specs.declared.Kind.{Kind}
use Rattle.faults.specs.declared.Reason.TheVariants.{NoSuchSeat, SeatsEqual}
use Rattle.faults.specs.Depth.{passed_up}
use Rattle.faults.specs.Places.{fault_at}
use Rattle.bases.specs.Exchange.{Reaches}
use Rattle.bases.specs.Says.{Two, LoadSays, ShiftSays, refusal}
use Rattle.bases.proofs.Moves.{seat_of}

module _ (n : ℕ) (kind : Kind) (why : ℕ → ℕ → Fault) (i j : ℕ) where
  -- what is no seat is refused, the first given first
  pub refusal_first : n ≤ i → refusal n kind why i j ≡ fault_at NoSuchSeat i kind
  refusal_first past = cond-false (ltb i n) _ _ (le-ltb i n past)

  -- and then the second
  pub refusal_second : i < n → n ≤ j → refusal n kind why i j ≡ fault_at NoSuchSeat j kind
  refusal_second hi past = cond-true (ltb i n) _ _ (lt-ltb i n hi) ∙ cond-false (ltb j n) _ _ (le-ltb j n past)

  -- then equal seats
  pub refusal_equal : i < n → j < n → i ≡ j → refusal n kind why i j ≡ fault_at SeatsEqual i kind
  refusal_equal hi hj e = cond-true (ltb i n) _ _ (lt-ltb i n hi) ∙ cond-true (ltb j n) _ _ (lt-ltb j n hj) ∙ cond-true (eqb i j) _ _ (eq-eqb i j e)

  -- and between two different seats the refusal says why
  pub refusal_why : i < n → j < n → (i ≡ j → ⊥) → refusal n kind why i j ≡ why i j
  refusal_why hi hj ne = cond-true (ltb i n) _ _ (lt-ltb i n hi) ∙ cond-true (ltb j n) _ _ (lt-ltb j n hj) ∙ cond-false (eqb i j) _ _ (ne_eqb i j ne)

module _ (B : List ℕ → Type 0) (x : List ℕ) (i j : ℕ) where
  -- a unit moves between two different seats
  pub reach_two : (n : ℕ) → length x ≡ n → Reaches B x i j → Two n i j
  reach_two n width r = let seat = seat_of x i r.gives in let to = r.takes in (omega arith, omega arith, r.other)

module _ (x : List ℕ) (kind : Kind) (i : ℕ) where
  -- the load below, read off an answer that was passed up
  pub load_passed : (load : ℕ) (r : Result ℕ Fault) → LoadSays x kind i r → passed_up r ≡ Ok load → load ≡ get_or x i 0
  load_passed load (Ok u) h e = let same : u ≡ load = cc in sym same ∙ h.1
  load_passed load (Err f) h e = absurd (let z : ◌≡◌ {A = ℕ} 0 1 = cc in omega arith)

  -- at a seat no fault is passed up
  pub load_no_fault : i < length x → (f : Fault) (r : Result ℕ Fault) → LoadSays x kind i r → passed_up r ≡ Err f → ⊥
  load_no_fault seat f (Ok u) h e = let z : ◌≡◌ {A = ℕ} 0 1 = cc in omega arith
  load_no_fault seat f (Err g) h e = let past = h.0 in omega arith

-- what every shift keeps is kept by a call of shift, refused or not
pub shift_keeps : {S X : Type 0} (part : S → X) (before after : S) (B : List ℕ → Type 0) (x : List ℕ) (due : Fault) (Shifted : ℕ → Type 0) (i j : ℕ) (r : Result ℕ Fault)
    → ShiftSays before after B x due Shifted i j r → ((count : ℕ) → Shifted count → part after ≡ part before) → part after ≡ part before
shift_keeps part before after B x due Shifted i j (Ok count) h keeps = keeps count h.3
shift_keeps part before after B x due Shifted i j (Err fault) h keeps = ap part h.2
