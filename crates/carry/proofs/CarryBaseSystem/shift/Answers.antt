-- The layer refuses what is no seat, and else shifts below.
use Rattle.std.proofs.Common.{◌≡◌, ℕ, ◌<◌, get_or, sym, refl, ap, ◌∙◌, arith}
use Rattle.faults.specs.declared.Kind.TheVariants.{Carry as CarryKind}
use Rattle.faults.specs.Depth.{raised}
use Rattle.bases.specs.Says.{refusal}
use Rattle.carry.specs.Carried.{added, Carried}
use Rattle.carry.specs.Added.{length_added}
use Rattle.std.proofs.lemmas.Result.{err_from_is_err_and}
use Rattle.bases.proofs.Refusals.{reach_two}
use Rattle.carry.proofs.Calls.{shift_says, refusal_raised, same_layer}
use Rattle.carry.proofs.CarryBaseSystem.shift.Goals as goal

pub returns-in_err-pair_given : goal.returns-in_err-pair_given
returns-in_err-pair_given g c =
    let b = g.S.BaseSystem in
    let s = c.args.self.now.below in
    let carried = c.args.self.now.table.carried in
    let width = g.met.S.BaseSystem.width s (b.loads s) (g.met.S.BaseSystem.stands s).0 in
    let len = length_added carried (b.loads s) in
    let p = err_from_is_err_and c.from_residual.result c.from_residual.ensures.1 in
    let due = c.in_err-pair_given.ensures in
    rw (p.1, p.2) (
      λ r. due.0 (reach_two (Carried carried (b.bases s)) (added carried (b.loads s)) c.args.i c.args.j c.count.result (len ∙ width ∙ sym c.count.ensures) r),
      due.1 (λ k l. raised (b.why s k l)) ∙ ap (λ (n : ℕ). refusal n CarryKind (λ k l. raised (b.why s k l)) c.args.i c.args.j) c.count.ensures,
      refl {a = c.args.self.now},
    )

pub returns : goal.returns
returns g c =
    let b = g.S.BaseSystem in
    let a = c.args.self.now in
    let s = a.below in
    let t = c.shift.new.self in
    let i = c.args.i in
    let j = c.args.j in
    let given = c.in_ok-pair_given.ensures in
    let hi : i < b.seats s = omega (arith, c.count.ensures, given.0) in
    let hj : j < b.seats s = omega (arith, c.count.ensures, given.1) in
    let due = refusal (b.seats s) (b.layer s) (b.why s) i j in
    let fault = refusal_raised (b.seats s) (b.layer s) (b.why s) i j hi hj given.2 in
    shift_says s t a _ (b.bases s) a.table.carried (b.loads s)
    due (refusal (b.seats s) CarryKind (λ k l. raised (b.why s k l)) i j)
    (λ count. b.shifted s i j count t)
    (λ count. (a.table.carried ≡ a.table.carried) × b.shifted s i j count t × (0 < get_or (b.loads s) i 0))
    i j c.shift.result _ c.shift.ensures (cc) fault
    (λ same. same_layer a t _ same) (λ count gives shifted. (refl, shifted, gives))
