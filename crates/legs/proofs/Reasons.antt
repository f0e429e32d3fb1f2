-- A table for which no fault is due is lawful.
use Rattle.std.proofs.Common.{◌≡◌, ℕ, zero, suc, Bool, true, false, eqb, ltb, leb, List, [], ◌∷◌, length, Some, None, Option, refl, sym, ap, ◌∙◌, ◌<◌, ◌≤◌, ⊎_elim, arith}
use Rattle.std.proofs.lemmas.Bool.{leb-false, eqb-false, ltb-false, lt-leb, le-leb, eq-eqb, cases_eq, cases_lt}
use Rattle.bases.specs.Says.{Two, refusal}
use Rattle.bases.proofs.Refusals.{refusal_first, refusal_second, refusal_equal}
use Rattle.faults.specs.declared.Fault.{Fault}
use Rattle.faults.specs.declared.Kind.TheVariants.{Legs}
use Rattle.faults.specs.declared.Reason.TheVariants.{NoSuchSeat, SeatsEqual}
use Rattle.faults.specs.Places.{fault_at}
use Rattle.legs.specs.declared.leg.Leg.{Leg}
use Rattle.legs.specs.Lawful.{LawfulLeg, LawfulLegs, FewLegs}
use Rattle.legs.specs.Refusals.{refuse, first_due, beyond, leg_fault, first_fault, legs_fault}

-- where no fault is due, a test is not met, and none is due after it
passed : (test : Bool) (fault : Fault) (after : Option Fault) → refuse test fault after ≡ None → (test ≡ false) × (after ≡ None)
passed true fault after e = absurd cc
passed false fault after e = (refl, e)

first_passed : (fault after : Option Fault) → first_due fault after ≡ None → (fault ≡ None) × (after ≡ None)
first_passed None after e = (refl, e)
first_passed (Some fault) after e = absurd cc

leg_passed : (seats : ℕ) (leg : Leg) → leg_fault seats leg ≡ None → LawfulLeg seats leg
leg_passed seats leg e =
    let p = passed (leb seats leg.a) (fault_at NoSuchSeat leg.a Legs) _ e in
    let q = passed (leb seats leg.b) (fault_at NoSuchSeat leg.b Legs) _ p.1 in
    let r = passed (eqb leg.a leg.b) (fault_at SeatsEqual leg.a Legs) _ q.1 in
    let s = passed (eqb leg.passages 0) beyond _ r.1 in
    let t = passed (ltb 1000 leg.passages) beyond None s.1 in
    let some = eqb-false leg.passages 0 s.0 in (
      leb-false seats leg.a p.0,
      leb-false seats leg.b q.0,
      eqb-false leg.a leg.b r.0,
      omega arith,
      ltb-false 1000 leg.passages t.0,
    )

legs_passed : (seats : ℕ) (legs : List Leg) → first_fault seats legs ≡ None → LawfulLegs seats legs
legs_passed seats [] e t h = absurd (omega arith)
legs_passed seats (leg ∷ legs) e zero h = leg_passed seats leg (first_passed (leg_fault seats leg) (first_fault seats legs) e).0
legs_passed seats (leg ∷ legs) e (suc t) h = legs_passed seats legs (first_passed (leg_fault seats leg) (first_fault seats legs) e).1 t (omega arith)

pub no_fault : (seats : ℕ) (legs : List Leg) → legs_fault seats legs ≡ None → FewLegs seats legs × LawfulLegs seats legs
no_fault seats legs e =
    let p = passed (eqb seats 0) beyond _ e in
    let q = passed (ltb 64 seats) beyond _ p.1 in
    let r = passed (ltb 256 (length legs)) beyond (first_fault seats legs) q.1 in
    let some = eqb-false seats 0 p.0 in (
      (omega arith, ltb-false 64 seats q.0, ltb-false 256 (length legs) r.0),
      legs_passed seats legs r.1,
    )

-- what is due where the ends are not two different seats is the fault of the leg
pub seats_fault : (seats : ℕ) (leg : Leg) (fault : Fault) → (Two seats leg.a leg.b → ⊥) → ((why : ℕ → ℕ → Fault) → fault ≡ refusal seats Legs why leg.a leg.b) → leg_fault seats leg ≡ Some fault
seats_fault seats leg fault not_two due =
    let why = λ (i j : ℕ). fault in
    ⊎_elim
    (λ (ha : leg.a < seats). ⊎_elim
    (λ (hb : leg.b < seats). ⊎_elim
    (λ (e : leg.a ≡ leg.b). rw (lt-leb seats leg.a ha, lt-leb seats leg.b hb, eq-eqb leg.a leg.b e) (ap (λ f. Some f) (sym (due why ∙ refusal_equal seats Legs why leg.a leg.b ha hb e))))
    (λ ne. absurd (not_two (ha, hb, ne))) (cases_eq leg.a leg.b))
    (λ (past : seats ≤ leg.b). rw (lt-leb seats leg.a ha, le-leb seats leg.b past) (ap (λ f. Some f) (sym (due why ∙ refusal_second seats Legs why leg.a leg.b ha past)))) (cases_lt leg.b seats))
    (λ (past : seats ≤ leg.a). rw (le-leb seats leg.a past) (ap (λ f. Some f) (sym (due why ∙ refusal_first seats Legs why leg.a leg.b past)))) (cases_lt leg.a seats)
