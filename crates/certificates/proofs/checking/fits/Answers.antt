use Rattle.std.proofs.Common.{rules, ◌+◌, ◌<◌, ◌≤◌, ◌⊎◌, get_or, ⊎_elim, refl, arith}
use borrow.Author.Tests.{tests}
use Rattle.seats.specs.Sets.{In}
use Rattle.certificates.specs.Tables.{Fits}
use Rattle.certificates.proofs.Answering.{decided, each_seat}
use Rattle.certificates.proofs.checking.fits.Goals as goal

pub returns : goal.returns
returns g c =
    let s = c.args.s.now in
    let x = g.S.BaseSystem.loads s in
    let v = c.args.row.value in
    let set = c.args.row.set in
    let w = g.met.S.BaseSystem.width s x (g.met.S.BaseSystem.stands s).0 in
    let each = each_seat _ (λ i. (v ≤ get_or x i 0 → In i set) × (In i set → v ≤ get_or x i 0 + 1)) (λ i. (In i set × (get_or x i 0 + 1 < v)) ⊎ ((In i set → ⊥) × (v ≤ get_or x i 0)))
    (λ i q k. search (rules, tests)) (λ i q k. search (rules, tests)) _ c.count.result c.all.result c.all.ensures.ran refl in
    decided c.all.result _ _ (Fits x v set)
    (λ all. record { holds = λ i seat. (all i (omega (arith, c.count.ensures))).0; only = λ i seat. (all i (omega (arith, c.count.ensures))).1 })
    (λ one fits. let lt = one.1 in
    ⊎_elim (λ p. let above = p.1 in let near = fits.only one.0 (omega (arith, c.count.ensures)) p.0 in omega arith) (λ p. p.0 (fits.holds one.0 (omega (arith, c.count.ensures)) p.1)) one.2) each
