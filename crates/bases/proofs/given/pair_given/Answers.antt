-- The order of the tests is the order of the refusals.
use Rattle.std.proofs.Common.{sym, ◌∙◌, arith}
use Rattle.std.proofs.lemmas.Result.{err_from_is_err_and}
use Rattle.bases.proofs.Refusals.{refusal_first, refusal_second, refusal_equal}
use Rattle.bases.proofs.given.pair_given.Goals as goal

pub returns-in_err-seat_given : goal.returns-in_err-seat_given
returns-in_err-seat_given c =
    let p = err_from_is_err_and c.from_residual.result c.from_residual.ensures.1 in
    let past = c.in_err-seat_given.ensures in
    rw (p.1, p.2) (λ two. omega (arith, past.0, two.0), λ why. past.1 ∙ sym (refusal_first c.args.n c.args.kind why c.args.i c.args.j past.0))

pub returns-in_err-seat_given-2 : goal.returns-in_err-seat_given-2
returns-in_err-seat_given-2 c =
    let p = err_from_is_err_and c.from_residual-in_err-seat_given-2.result c.from_residual-in_err-seat_given-2.ensures.1 in
    let past = c.in_err-seat_given-2.ensures in
    rw (p.1, p.2) (
      λ two. omega (arith, past.0, two.1),
      λ why. past.1 ∙ sym (refusal_second c.args.n c.args.kind why c.args.i c.args.j c.in_ok-seat_given.ensures past.0),
    )

pub returns-then-i-j : goal.returns-then-i-j
returns-then-i-j c = (
  λ two. two.2 c.if-i-j.true,
  λ why. c.at_seat.ensures ∙ sym (refusal_equal c.args.n c.args.kind why c.args.i c.args.j c.in_ok-seat_given.ensures c.in_ok-seat_given-2.ensures c.if-i-j.true),
)
