use Rattle.std.proofs.Common.{rules, ◌<◌, get_or, refl, arith}
use borrow.Author.Tests.{tests}
use Rattle.certificates.specs.Tables.{Covered, HasValue}
use Rattle.certificates.proofs.Answering.{decided, each_seat}
use Rattle.certificates.proofs.checking.all_covered.Goals as goal

pub returns : goal.returns
returns g c =
    let s = c.args.s.now in
    let x = g.S.BaseSystem.loads s in
    let rows = c.args.rows.now in
    let w = g.met.S.BaseSystem.width s x (g.met.S.BaseSystem.stands s).0 in
    let each = each_seat _ (λ i. 0 < get_or x i 0 → HasValue rows (get_or x i 0)) (λ i. (0 < get_or x i 0) × (HasValue rows (get_or x i 0) → ⊥))
    (λ i q k. search (rules, tests)) (λ i q k. search (rules, tests)) _ c.count.result c.all.result c.all.ensures.ran refl in
    decided c.all.result _ _ (Covered x rows) (λ all i seat. all i (omega (arith, c.count.ensures))) (λ one covered. let seat = one.1 in one.2.1 (covered one.0 (omega (arith, c.count.ensures)) one.2.0)) each
