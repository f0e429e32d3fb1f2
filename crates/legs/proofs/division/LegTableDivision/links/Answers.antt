-- The chain adds the seats that each leg links u to.
use Rattle.std.proofs.Common.{rules, arith}
use Rattle.std.specs.Iterator.{YieldsFirstBy}
use Rattle.std.proofs.lemmas.Fn.{fold_over}
use Rattle.std.proofs.lemmas.Iterator.Consumers.{YieldsList-from_first}
use Rattle.legs.specs.SharedLegs.{pairs_of, pair_of, pairs_left}
use Rattle.legs.proofs.Linking.{link_of, of_link}
use Rattle.legs.proofs.SharedLegs.{HoldsLinked, links_none, links_more, some_pair}
use Rattle.legs.proofs.division.LegTableDivision.links.Goals as goal

pub returns : goal.returns
returns c v =
    let d = c.args.self.now in
    let u = c.args.u in
    let legs = d.legs.items in
    let pairs = pairs_of legs d.first in
    let linked : HoldsLinked u pairs c.fold.result =
    fold_over (YieldsFirstBy pair_of pairs_left) pair_of _ (HoldsLinked u) _
    (λ before set x all f holds k. (links_more before (pair_of x) u set all holds (search rules), search rules)) c.shared.result pairs 0 c.fold.result
    (YieldsList-from_first pair_of pairs_left pairs c.shared.ensures).runs (links_none u) c.fold.ensures.ran in
    let some = some_pair legs d.first u v in (
      λ m. link_of d.seats legs d.first d.lawful d.within u v (some.0 ((linked v).0 m).1),
      λ link. (linked v).1 (omega (arith, link.receiver, d.few.1), some.1 (of_link d.seats legs d.first d.lawful d.within u v link)),
    )
