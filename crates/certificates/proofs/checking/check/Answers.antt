use Rattle.std.proofs.Common.{rules}
use Rattle.certificates.proofs.Certified.{accepts_level, accepts_heaviest}
use Rattle.certificates.proofs.checking.check.Goals as goal

pub returns-then-all_covered : goal.returns-then-all_covered
returns-then-all_covered g c =
    let b = g.S.BaseSystem in
    let laws = g.met.S.BaseSystem in
    let s = c.args.s.now in
    let x = b.loads s in
    let base = (laws.stands s).0 in
    record { answers = search rules; levels = accepts_level (laws.family s) x base c.args.rows.now; heaviest_least = accepts_heaviest (laws.family s) x base c.args.rows.now }
