-- The reach is the reach below.
use Rattle.std.proofs.Common.{◌<◌, length, arith, rules}
use Rattle.std.proofs.lemmas.Result.{err_from_is_err_and}
use Rattle.carry.specs.Added.{length_added}
use Rattle.carry.proofs.Calls.{reach_says}
use Rattle.carry.proofs.CarryBaseSystem.reach.Goals as goal

pub returns-in_err-seat_given : goal.returns-in_err-seat_given
returns-in_err-seat_given g c =
    let b = g.S.BaseSystem in
    let s = c.args.self.now.below in
    let carried = c.args.self.now.table.carried in
    let width = g.met.S.BaseSystem.width s (b.loads s) (g.met.S.BaseSystem.stands s).0 in
    let len = length_added carried (b.loads s) in
    let p = err_from_is_err_and c.from_residual.result c.from_residual.ensures.1 in
    let past = c.in_err-seat_given.ensures in
    rw (p.1, p.2) (omega (arith, past.0, c.count.ensures), past.1)

pub returns : goal.returns
returns g c =
    let b = g.S.BaseSystem in
    let s = c.args.self.now.below in
    let carried = c.args.self.now.table.carried in
    let stands = g.met.S.BaseSystem.stands s in
    let width = g.met.S.BaseSystem.width s (b.loads s) stands.0 in
    let seat : c.args.i < length (b.loads s) = omega (arith, c.count.ensures, c.in_ok-seat_given.ensures) in
    reach_says (b.loads s) (b.layer s) c.args.i carried (b.bases s) seat c.reach.result _ c.reach.ensures (search rules)
