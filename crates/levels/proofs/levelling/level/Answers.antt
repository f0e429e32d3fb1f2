-- The levelling is under way from turn to turn. (The lemmas take the parts of a family and not one of them, since they speak of
-- every state, and of a state that does not stand the ceiling may be no load.)
use Rattle.std.proofs.Common.{arith}
use Rattle.levels.proofs.Under.{not_begun, one_more, promised_level}
use Rattle.levels.proofs.levelling.level.Goals as goal

pub loop-i-init : goal.loop-i-init
loop-i-init g c =
    let b = g.S.BaseSystem in
    let laws = g.met.S.BaseSystem in (
      omega arith,
      not_begun b.seats b.bases b.loads b.top b.shifted (λ s. (laws.few s).1) laws.width laws.high laws.exchange laws.moves (λ p q i j count h. (laws.keeps p q i j count h).0)
          (g.G.Grading.above c.args.grading.now) (g.met.G.Grading.order c.args.grading.now) c.args.s.now (laws.stands c.args.s.now),
    )

pub loop-i-preserved : goal.loop-i-preserved
loop-i-preserved g c =
    let b = g.S.BaseSystem in
    let laws = g.met.S.BaseSystem in
    let says = c.in_ok-shift.ensures in (
      omega (arith, c.loop-i.invariant.0),
      one_more b.seats b.bases b.loads b.top b.shifted (λ s. (laws.few s).1) laws.width laws.high laws.exchange laws.moves (λ p q i j count h. (laws.keeps p q i j count h).0)
          (g.G.Grading.above c.args.grading.now) (g.met.G.Grading.order c.args.grading.now) c.args.s.now c.loop-i.s c.shift.new.self c.loop-i.made
          c.in-Some.i c.in-Some.j c.in_ok-shift.field-0 c.loop-i.invariant.1 c.in-Some.ensures says.3 (laws.stands c.shift.new.self),
    )

pub returns : goal.returns
returns g c =
    let b = g.S.BaseSystem in
    let laws = g.met.S.BaseSystem in
    let level = c.in_default.ensures in
    let promised = promised_level b.seats b.bases b.loads b.top b.shifted (λ s. (laws.few s).1) laws.width laws.high laws.exchange laws.moves (λ p q i j count h. (laws.keeps p q i j count h).0)
    (g.G.Grading.above c.args.grading.now) (g.met.G.Grading.order c.args.grading.now) c.args.s.now c.loop-i.s c.loop-i.made c.loop-i.invariant.1 c.args.budget level in
    record {
      says = (omega arith, c.loop-i.invariant.0, c.loop-i.invariant.1.steps, level);
      promised = promised;
    }
