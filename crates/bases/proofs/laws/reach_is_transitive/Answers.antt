-- The standing base is a base, so the law for any set of load lists applies.
use Rattle.bases.proofs.Toward.{reach_joins}
use Rattle.bases.proofs.laws.reach_is_transitive.Goals as goal

pub returns : goal.returns
returns g c i j k ik ij jk =
    let b = g.S.BaseSystem in
    let laws = g.met.S.BaseSystem in
    let s = c.args.s.now in
    reach_joins (b.bases s) (laws.exchange s) (b.seats s) (laws.width s) (b.loads s) (laws.stands s).0 i j k ik ij jk
