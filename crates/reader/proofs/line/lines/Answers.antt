use Rattle.std.proofs.Common.{◌+◌, ◌∙◌, vec_items, rules, arith}
use Rattle.cursors.proofs.Chained.{onward_turn, onward_refused}
use Rattle.reader.proofs.line.lines.Goals as goal

-- a line that is refused ends the reading with its fault
pub returns-in_err-row : goal.returns-in_err-row
returns-in_err-row g c =
    let stop = onward_refused (g.L.Line.line c.args.bound) (λ k _. k + 1) (vec_items c.loop-index.rows) _ _ c.loop-index.index _ _ c.loop-index-test.true c.in_err-row.ensures in
    search (rules, stop)

-- one line more is read, into room that is there
pub loop-index-preserved : goal.loop-index-preserved
loop-index-preserved g c = (
  onward_turn (g.L.Line.line c.args.bound) (λ k _. k + 1) (vec_items c.loop-index.rows) _ _ c.args.count c.loop-index.index c.loop-index.index _ _ c.loop-index-test.true c.in_ok-row.ensures c.push_reserved.ensures.items ∙ c.loop-index.invariant.0,
  omega arith,
)
