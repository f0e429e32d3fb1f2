-- The certificate of a level base is accepted.
use Rattle.std.proofs.Common.{rules, sym, subst, take}
use Rattle.grades.specs.Grades.{whole}
use Rattle.optima.specs.Steps.{LevelBy}
use Rattle.certificates.specs.Tables.{Filled}
use Rattle.certificates.proofs.Certified.{certifies_accepted}
use Rattle.certificates.proofs.making.certify.Goals as goal

pub returns : goal.returns
returns g c =
    let b = g.S.BaseSystem in
    let laws = g.met.S.BaseSystem in
    let s = c.args.s.now in
    let after = c.fill.new.table in
    let level : LevelBy (b.bases s) whole (b.loads s) = search rules in
    let filled = subst (Filled (b.bases s) (b.loads s) c.args.table.now after) (sym c.count_values-count.ensures) c.fill.ensures in (
      filled,
      level,
      certifies_accepted (laws.family s) (b.loads s) (laws.stands s).0 level
          (take c.count_values-count.result after) filled.made,
    )
