-- Donors are taken from the highest graded down, and what is left out gives no step.
use Rattle.std.proofs.Common.{◌<◌, arith}
use Rattle.bases.proofs.Moves.{seat_of}
use Rattle.steps.proofs.Graded.{chosen_step, left_out, fewer_left}
use Rattle.steps.proofs.choice.find_step.Goals as goal

-- at first only what is no seat is left out
pub loop-i-init : goal.loop-i-init
loop-i-init g c =
    let b = g.S.BaseSystem in
    let laws = g.met.S.BaseSystem in
    let s = c.args.s.now in (
      omega arith,
      λ k j out step. (
          let seat = seat_of (b.loads s) k step.reach.gives in
          let w = laws.width s (b.loads s) (laws.stands s).0 in
          let few = (laws.few s).1 in
          let known : k < c.count.result = omega (arith, c.count.ensures) in
          out (grind arith)),
    )

pub best_receiver-requires : goal.best_receiver-requires
best_receiver-requires g c = c.standing_reach-reach.ensures

pub returns-in-Some-best_receiver : goal.returns-in-Some-best_receiver
returns-in-Some-best_receiver g c =
    let b = g.S.BaseSystem in
    let laws = g.met.S.BaseSystem in
    let s = c.args.s.now in
    let x = b.loads s in
    let above = g.G.Grading.above c.args.grading.now in
    let grades = g.met.G.Grading.order c.args.grading.now in
    chosen_step (laws.family s) above grades x (laws.stands s).0 c.loop-i.left c.in-Some.i c.loop-i.invariant.1 c.in-Some.ensures c.in-Some-best_receiver.j c.in-Some-best_receiver.ensures

pub loop-i-smaller : goal.loop-i-smaller
loop-i-smaller g c =
    let b = g.S.BaseSystem in
    let laws = g.met.S.BaseSystem in
    let s = c.args.s.now in
    let x = b.loads s in
    let above = g.G.Grading.above c.args.grading.now in
    let grades = g.met.G.Grading.order c.args.grading.now in
    let i = c.in-Some.i in
    let donor = c.in-Some.ensures in
    let low : c.in-Some.i < 64 = (let seat = seat_of x i donor.has.1 in let w = laws.width s x (laws.stands s).0 in let few = (laws.few s).1 in omega arith) in
    fewer_left (laws.family s) above grades x (laws.stands s).0 c.loop-i.left i c.loop-i.invariant.1 donor c.without-left.result c.standing_reach-reach.result c.with.result low c.loop-i.invariant.0 c.without-left.type_inv c.with.ensures c.without-left.ensures

pub loop-i-preserved : goal.loop-i-preserved
loop-i-preserved g c =
    let b = g.S.BaseSystem in
    let laws = g.met.S.BaseSystem in
    let s = c.args.s.now in
    let x = b.loads s in
    let above = g.G.Grading.above c.args.grading.now in
    let grades = g.met.G.Grading.order c.args.grading.now in
    let i = c.in-Some.i in
    let donor = c.in-Some.ensures in
    let low : c.in-Some.i < 64 = (let seat = seat_of x i donor.has.1 in let w = laws.width s x (laws.stands s).0 in let few = (laws.few s).1 in omega arith) in (
      c.without-left.type_inv,
      left_out (laws.family s) above grades x (laws.stands s).0 c.loop-i.left i c.loop-i.invariant.1 donor c.without-left.result c.standing_reach-reach.result c.with.result low c.standing_reach-reach.ensures c.with.ensures c.without-left.ensures c.in_default-best_receiver.ensures,
    )

-- where no seat that is left has a unit, there is no step
pub returns : goal.returns
returns g c i j step = c.loop-i.invariant.1 i j (λ h. c.in_default.ensures i h step.reach.gives) step
