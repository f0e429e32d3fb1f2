-- The load below and the number carried; at a seat the system below does not refuse.
use Rattle.std.proofs.Common.{◌<◌, length, sym, ◌∙◌, arith}
use Rattle.std.proofs.lemmas.Result.{err_from_is_err_and}
use Rattle.carry.specs.Added.{length_added, added_at, largest_high}
use Rattle.bases.proofs.Refusals.{load_passed, load_no_fault}
use Rattle.carry.proofs.CarryBaseSystem.load.Goals as goal

pub returns-in_err-seat_given : goal.returns-in_err-seat_given
returns-in_err-seat_given g c =
    let b = g.S.BaseSystem in
    let s = c.args.self.now.below in
    let carried = c.args.self.now.table.carried in
    let width = g.met.S.BaseSystem.width s (b.loads s) (g.met.S.BaseSystem.stands s).0 in
    let len = length_added carried (b.loads s) in
    let p = err_from_is_err_and c.from_residual.result c.from_residual.ensures.1 in
    let past = c.in_err-seat_given.ensures in
    rw (p.1, p.2) (omega (arith, past.0, c.count.ensures), past.1)

pub returns-in_err-load : goal.returns-in_err-load
returns-in_err-load g c =
    let b = g.S.BaseSystem in
    let s = c.args.self.now.below in
    let stands = g.met.S.BaseSystem.stands s in
    let width = g.met.S.BaseSystem.width s (b.loads s) stands.0 in
    let seat : c.args.i < length (b.loads s) = omega (arith, c.count.ensures, c.in_ok-seat_given.ensures) in
    let fault = sym c.passed_up.ensures ∙ c.in_err-load.was in
    absurd (load_no_fault (b.loads s) (b.layer s) c.args.i seat c.in_err-load.field-0.0 c.load.result c.load.ensures fault)

pub overflow_add-result : goal.overflow_add-result
overflow_add-result g c =
    let b = g.S.BaseSystem in
    let s = c.args.self.now.below in
    let carried = c.args.self.now.table.carried in
    let i = c.args.i in
    let stands = g.met.S.BaseSystem.stands s in
    let answer = sym c.passed_up.ensures ∙ c.in_ok-load.was in
    let load = load_passed (b.loads s) (b.layer s) i c.in_ok-load.load c.load.result c.load.ensures answer in
    let high = g.met.S.BaseSystem.high s (b.loads s) stands.0 i in
    let most = largest_high carried i in
    omega (arith, c.args.self.now.low)

pub returns : goal.returns
returns g c =
    let b = g.S.BaseSystem in
    let s = c.args.self.now.below in
    let carried = c.args.self.now.table.carried in
    let i = c.args.i in
    let width = g.met.S.BaseSystem.width s (b.loads s) (g.met.S.BaseSystem.stands s).0 in
    let len = length_added carried (b.loads s) in
    let at = added_at carried (b.loads s) i (omega (arith, c.count.ensures, c.in_ok-seat_given.ensures)) in
    let answer = sym c.passed_up.ensures ∙ c.in_ok-load.was in
    let load = load_passed (b.loads s) (b.layer s) i c.in_ok-load.load c.load.result c.load.ensures answer in
    (omega (arith, c.count.ensures, c.in_ok-seat_given.ensures), omega arith)
