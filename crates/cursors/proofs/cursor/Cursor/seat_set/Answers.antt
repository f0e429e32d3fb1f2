use Rattle.std.proofs.Common.{◌+◌, ◌≤◌, sym, ◌∙◌, rules, arith}
use Rattle.seats.specs.Lists.{seats_of}
use Rattle.seats.proofs.Members.{in_none}
use Rattle.cursors.specs.Steps.{seat}
use Rattle.cursors.proofs.Cells.{seat_bounds}
use Rattle.cursors.proofs.Chained.{onward_all}
use Rattle.cursors.proofs.Rises.{rises_none, rises_turn, still_below, set_found}
use Rattle.cursors.proofs.cursor.Cursor.seat_set.Goals as goal

pub loop-init : goal.loop-init
loop-init c = search (rules, rises_none, in_none)

pub loop-preserved : goal.loop-preserved
loop-preserved c =
    let few : c.min-count.result ≤ 64 = omega (arith, c.min-count.ensures) in
    let at = c.in_ok-seat.ensures in
    let bounds = seat_bounds c.loop.low c.min-count.result c.in_ok-seat.seat _ _ at in (
      rises_turn c.min-count.result c.loop.low c.loop.set c.with-set.result c.in_ok-seat.seat _ _ few c.loop.invariant.2 c.with-set.type_inv c.loop.invariant.1 at c.with-set.ensures c.args.size c.loop.counter c.loop-test.true ∙ c.loop.invariant.0,
      still_below c.min-count.result c.loop.low c.loop.set c.with-set.result c.in_ok-seat.seat _ _ few c.loop.invariant.2 c.with-set.type_inv c.loop.invariant.1 at c.with-set.ensures,
      c.with-set.type_inv,
      omega (arith, bounds.1),
    )

pub returns : goal.returns
returns c =
    rw (← c.min-count.ensures) (set_found c.loop.set _ _ c.loop.invariant.2 (sym (onward_all (λ l. seat l c.min-count.result) (λ _ v. v + 1) (seats_of c.loop.set) _ _ c.loop.low _ c.loop-test.false) ∙ c.loop.invariant.0))
