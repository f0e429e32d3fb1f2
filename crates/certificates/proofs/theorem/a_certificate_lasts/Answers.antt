use Rattle.certificates.proofs.Lasting.{accepts_same}
use Rattle.certificates.proofs.theorem.a_certificate_lasts.Goals as goal

pub returns : goal.returns
returns g c same loads rows accepted =
    let s = c.args.s.now in
    let later = c.args.later.now in
    accepts_same (g.S.BaseSystem.bases s) (g.R.BaseSystem.bases later) same (g.S.BaseSystem.loads s) (g.R.BaseSystem.loads later) loads rows accepted
