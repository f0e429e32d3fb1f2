use Rattle.std.proofs.Common.{◌≡◌, ◌+◌, ◌-◌, ◌≤◌, length, vec_items, vec_capacity}
use Rattle.cursors.specs.Lists.{numbered}
use Rattle.cursors.proofs.Chained.{onward}
use Rattle.reader.proofs.line.lines.Given as goal

-- the lines that were read, and then those that are left, are what so many lines say from the first one on; and there is room for those left
abbrev pub invariant-loop-index : goal.invariant-loop-index
invariant-loop-index g l =
    (onward (g.L.Line.line l.bound) (λ k _. k + 1) (vec_items l.rows) (l.count - l.index) l.index l.cursor ≡ numbered (g.L.Line.line l.bound) l.count 0 l.initial.cursor)
    × (length (vec_items l.rows) + (l.count - l.index) ≤ vec_capacity l.rows)
