-- The passages of each leg are written to its place.
use Rattle.std.proofs.Common.{◌∙◌, arith, length-set}
use Rattle.std.proofs.lemmas.List.Edits.{fill_by_more}
use Rattle.legs.specs.Lawful.{leg_at}
use Rattle.legs.proofs.making.all_passages.Goals as goal

pub loop-t-preserved : goal.loop-t-preserved
loop-t-preserved c =
    let legs = c.args.legs.now in
    let t = c.loop-t.t in
    let first = c.loop-t.first in
    let inv = c.loop-t.invariant in
    (length-set first t (leg_at legs t).passages ∙ inv.0, fill_by_more (λ k. (leg_at legs k).passages) first t 0 (omega (arith, inv.0)) inv.1)
