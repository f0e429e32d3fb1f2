use Rattle.std.proofs.Common.{rules, ℕ}
use borrow.Author.Tests.{tests}
use Rattle.seats.specs.Sets.{In, Exactly, Within}
use Rattle.bases.specs.Exchange.{Reaches}
use Rattle.certificates.specs.Tables.{Closed}
use Rattle.certificates.proofs.Answering.{decided, each_member}
use Rattle.certificates.proofs.checking.closed.Goals as goal

pub returns : goal.returns
returns g c =
    let b = g.S.BaseSystem in
    let s = c.args.s.now in
    let set = c.args.set in
    let Reach = λ (reach i : ℕ). (j : ℕ) → Exactly (In j reach) (Reaches (b.bases s) (b.loads s) i j) in
    let each = each_member _ (λ i. (reach : ℕ) × Reach reach i × Within reach set) (λ i. (reach : ℕ) × Reach reach i × (Within reach set → ⊥))
    (λ i q k. search (rules, tests)) (λ i q k. search (rules, tests)) _ set c.all.result c.all.ensures.ran c.members_of.ensures.set in
    decided c.all.result _ _ (Closed (b.bases s) (b.loads s) set) (λ all i j member r. let h = all i member in h.2 j ((h.1 j).1 r))
    (λ one closed. one.2.2 (λ j m. closed one.0 j one.1 ((one.2.1 j).0 m))) each
