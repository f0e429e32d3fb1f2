use Rattle.std.proofs.Common.{rules, arith}
use Rattle.std.proofs.lemmas.Iterator.{cases_from_all, YieldsList-from_slice}
use borrow.Author.Tests.{tests}
use Rattle.certificates.specs.declared.row.CertRow.{CertRow}
use Rattle.certificates.specs.Tables.{AllPass, Passes}
use Rattle.certificates.proofs.Answering.{decided}
use Rattle.certificates.proofs.Filling.{zeros}
use Rattle.certificates.proofs.checking.all_pass.Goals as goal

pub returns : goal.returns
returns g c =
    let b = g.S.BaseSystem in
    let s = c.args.s.now in
    let rows = c.args.rows.now in
    let Fine = λ (row : CertRow). Passes (b.bases s) (b.loads s) row.value row.set in
    let each = cases_from_all _ _ c.all.result Fine (λ row. Fine row → ⊥) c.all.ensures.ran (YieldsList-from_slice rows cc) (λ row q k. search (rules, tests)) (λ row q k. search (rules, tests)) in
    decided c.all.result _ _ (AllPass (b.bases s) (b.loads s) rows) (λ all k lt. all k zeros (omega arith) lt) (λ one all. one.2 zeros (all one.0 one.1)) each
