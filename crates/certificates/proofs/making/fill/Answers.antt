-- The rows are made from the highest load down.
use Rattle.std.proofs.Common.{◌≡◌, ℕ, Option, None, Some, List, ap, ◌∙◌, subst, arith}
use Rattle.std.specs.Iterator.Adapters.{enumerate_count, enumerate_source}
use Rattle.certificates.specs.declared.values.Values.{Values}
use Rattle.certificates.specs.Loads.{Descends, WalksDown}
use Rattle.certificates.proofs.Filling.{walk_start, walk_room, walk_next, walk_end}
use Rattle.certificates.proofs.making.fill.Goals as goal

-- a step of the values of s is a step down the loads of s
down : {S : Type 0} (loads : S → List ℕ) (s : S) (v t : Values S) (r : Option ℕ) → v.system.now ≡ s → WalksDown loads v r t → (t.system.now ≡ s) × Descends (loads s) v.bound r t.bound
down loads s v t r is step = (step.0 ∙ is, subst (λ z. Descends (loads z) v.bound r t.bound) is step.1)

pub loop-k-init : goal.loop-k-init
loop-k-init g c =
    let b = g.S.BaseSystem in
    let laws = g.met.S.BaseSystem in
    let s = c.args.s.now in
    let from : enumerate_source c.into_iter-k-iterator.result ≡ c.values_of.result = cc in
    let bound = ap (λ v. v.bound) from in
    record {
      system = ap (λ v. v.system.now) from ∙ c.values_of.ensures.system;
      walk = walk_start (b.bases s) (b.loads s) c.args.table.now _ _ (λ i. let high = laws.high s (b.loads s) (laws.stands s).0 i in omega (arith, (laws.stands s).1, c.values_of.ensures.all)) (cc);
    }

pub bounds-table-k : goal.bounds-table-k
bounds-table-k g c =
    let b = g.S.BaseSystem in
    let s = c.args.s.now in
    let v = enumerate_source c.loop-k.k-iterator in
    let t = enumerate_source c.next.new.self in
    let inv = c.loop-k.invariant in
    let steps = c.in-Some.ensures.steps in
    let d = down b.loads s v t (Some c.in-Some.value) inv.system steps.0 in
    let room = walk_room (b.bases s) (b.loads s) c.args.table.now v.bound (enumerate_count c.loop-k.k-iterator) c.in-Some.value t.bound c.loop-k.table inv.walk d.1 in
    let at = steps.1 in
    omega (arith, c.loop-k.auto.table, c.requires)

pub loop-k-preserved : goal.loop-k-preserved
loop-k-preserved g c =
    let b = g.S.BaseSystem in
    let s = c.args.s.now in
    let v = enumerate_source c.loop-k.k-iterator in
    let t = enumerate_source c.next.new.self in
    let count = enumerate_count c.loop-k.k-iterator in
    let inv = c.loop-k.invariant in
    let steps = c.in-Some.ensures.steps in
    let d = down b.loads s v t (Some c.in-Some.value) inv.system steps.0 in
    let room = walk_room (b.bases s) (b.loads s) c.args.table.now v.bound count c.in-Some.value t.bound c.loop-k.table inv.walk d.1 in
    record {
      system = d.0;
      walk = walk_next (b.bases s) (b.loads s) c.args.table.now v.bound count c.in-Some.k (enumerate_count c.next.new.self) c.in-Some.value t.bound c.row_set.result c.loop-k.table inv.walk
          (omega (arith, c.loop-k.auto.table, c.requires)) steps.1 steps.2 d.1 c.row_set.ensures;
    }

pub returns : goal.returns
returns g c =
    let b = g.S.BaseSystem in
    let s = c.args.s.now in
    let v = enumerate_source c.loop-k.k-iterator in
    let t = enumerate_source c.next.new.self in
    let inv = c.loop-k.invariant in
    let d = down b.loads s v t None inv.system c.in-None.ensures.steps.0 in
    walk_end (b.bases s) (b.loads s) c.args.table.now v.bound (enumerate_count c.loop-k.k-iterator) t.bound c.loop-k.table inv.walk (omega (arith, c.loop-k.auto.table, c.requires)) d.1
