-- The walk, turn by turn: a seat that may not be chosen is passed over, one that goes before the best so far takes its place.
use Rattle.std.proofs.Common.{ℕ, sym, ◌∙◌, subst}
use Rattle.std.proofs.lemmas.Bool.{true≢false}
use Rattle.steps.specs.Choices.{Among}
use Rattle.steps.proofs.Walks.{Walk, passed_over, walk_taken, walk_kept, chosen_among}
use Rattle.steps.proofs.foremost.foremost.Goals as goal
use Rattle.steps.proofs.foremost.foremost.Goals.{else-may-via-then-may+else-beats, else-may-via-else-may}

pub loop-i-preserved-then-beats : goal.loop-i-preserved-then-beats
loop-i-preserved-then-beats g c =
    let inv = c.loop-i.invariant in
    let taken = c.in-Some.ensures.steps in
    let i = c.in-Some.i in
    let seat = taken.lowest.seated in (
      inv.0,
      inv.1,
      seat,
      λ test before decides compares orders.
          let w = inv.3 test before decides compares orders in
          let may = sym (decides i c.may.result seat c.may.ensures) ∙ c.if-may.true in
          walk_taken before (Among c.args.seats test) c.args.seats orders.one_way orders.between c.loop-i.i-iterator.left c.next.new.self.left i taken
          (w.inside i taken.lowest.member, may) c.loop-i.best (sym (c.beats.ensures before compares seat inv.2) ∙ c.if-beats.true) w,
    )

pub loop-i-preserved : goal.loop-i-preserved
loop-i-preserved g c =
    let inv = c.loop-i.invariant in
    let taken = c.in-Some.ensures.steps in
    let i = c.in-Some.i in
    let seat = taken.lowest.seated in (
      inv.0,
      inv.1,
      inv.2,
      λ test before decides compares orders.
          let w = inv.3 test before decides compares orders in
          elim c.else-may.branch [
            | else-may-via-then-may+else-beats v ↦
                (let may = sym (decides i c.may.result seat c.may.ensures) ∙ v.if-may.true in
                walk_kept before (Among c.args.seats test) c.args.seats orders.one_way orders.between c.loop-i.i-iterator.left c.next.new.self.left i taken
                (w.inside i taken.lowest.member, may) c.loop-i.best (sym (v.beats.ensures before compares seat inv.2) ∙ v.if-beats.false) w)
            | else-may-via-else-may v ↦
                passed_over before (Among c.args.seats test) c.args.seats c.loop-i.i-iterator.left c.next.new.self.left i c.loop-i.best w taken
                (λ among. true≢false (sym among.1 ∙ sym (decides i c.may.result seat c.may.ensures) ∙ v.if-may.false))
          ],
    )

-- where none is left, the best so far is the foremost of all
pub returns : goal.returns
returns g c test before decides compares orders =
    chosen_among before c.args.seats test c.loop-i.best
    (subst (λ (left : ℕ). Walk before (Among c.args.seats test) c.args.seats left c.loop-i.best) c.in-None.ensures.steps.0 (c.loop-i.invariant.3 test before decides compares orders))
