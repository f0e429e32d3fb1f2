use Rattle.std.proofs.Common.{◌≡◌}
use Rattle.std.specs.Iterator.Adapters.{enumerate_count, enumerate_source}
use Rattle.certificates.proofs.Filling.{Walk}
use Rattle.certificates.proofs.making.fill.Given as goal

-- the values are the system's, and the rows so far are made for those passed
abbrev pub invariant-loop-k : goal.invariant-loop-k
invariant-loop-k g l =
    let b = g.S.BaseSystem in
    let v = enumerate_source l.k-iterator in
    record { system : v.system.now ≡ l.s; walk : Walk (b.bases l.s) (b.loads l.s) l.initial.table v.bound (enumerate_count l.k-iterator) l.table }
