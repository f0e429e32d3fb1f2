use Rattle.std.proofs.Common.{ℕ, ap, subst}
use Rattle.seats.specs.Sets.{In, Joined}
use Rattle.seats.proofs.Members.{in_none}
use Rattle.chains.specs.declared.spread.Mark.{Mark}
use Rattle.chains.proofs.spread.Spread.mark.Goals as goal

-- where none is left, every new seat is marked
pub returns : goal.returns
returns c =
    let inv = c.loop-v.invariant in
    let none : (v : ℕ) → In v c.loop-v.v-iterator.left → ⊥ = λ v h. in_none v (subst (λ (k : ℕ). In v k) c.in-None.ensures.steps.0 h) in
    record {
      members = subst (λ (k : ℕ). Joined k c.args.new c.union-self.result) inv.2 c.union-self.ensures;
      small = c.union-self.type_inv;
      from_new = λ v h. ap (λ (m : Mark). m.from) (inv.1.those v h (none v));
      far_new = λ v h. ap (λ (m : Mark). m.far) (inv.1.those v h (none v));
      from_old = λ v h. ap (λ (m : Mark). m.from) (inv.1.others v h);
      far_old = λ v h. ap (λ (m : Mark). m.far) (inv.1.others v h);
    }
