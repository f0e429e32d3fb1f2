-- The two slices are the legs of the table and their shares.
use Rattle.std.proofs.Common.{◌≡◌, ◌≤◌, List, length, take, ap, ◌∙◌, rules}
use Rattle.std.specs.List.{zip}
use Rattle.legs.specs.declared.leg.Leg.{Leg}
use Rattle.legs.proofs.SharedLegs.{zip_pairs, zip_short}
use Rattle.legs.proofs.table.LegTable.shared.Goals as goal

pub returns : goal.returns
returns c =
    let d = c.args.self.now in
    let few = d.few.2 in
    let enough : length d.legs.items ≤ length d.first = search rules in
    let count : c.len.result ≡ length d.legs.items = search rules in
    ap (λ (legs : List Leg). zip legs (take c.len.result d.first)) c.deref.ensures.value
    ∙ ap (λ n. zip d.legs.items (take n d.first)) count
    ∙ zip_short d.legs.items d.first
    ∙ zip_pairs d.legs.items d.first enough
