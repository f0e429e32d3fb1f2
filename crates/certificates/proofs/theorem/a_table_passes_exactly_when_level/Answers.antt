-- The certificate of a level base has room in 64 rows.
use Rattle.std.proofs.Common.{ℕ, ◌≤◌, List, length, take, replicate, Ok, Err, Result, ⊎_elim, arith}
use Rattle.std.proofs.lemmas.List.{length-replicate}
use Rattle.faults.specs.declared.Fault.{Fault}
use Rattle.faults.specs.declared.Kind.{Kind}
use Rattle.grades.specs.Grades.{whole}
use Rattle.optima.specs.Steps.{LevelBy}
use Rattle.certificates.specs.declared.row.CertRow.{CertRow}
use Rattle.certificates.specs.Loads.{different_loads}
use Rattle.certificates.specs.Tables.{Accepts, CertifySays}
use Rattle.certificates.proofs.Certified.{accepts_level}
use Rattle.certificates.proofs.Counting.{different_few}
use Rattle.certificates.proofs.theorem.a_table_passes_exactly_when_level.Goals as goal

abbrev blank : CertRow
blank = record { value = 0; set = 0 }

-- with room for the different loads, only a base that is not level is refused
made : (B : List ℕ → Type 0) (x : List ℕ) (kind : Kind) (before after : List CertRow) (r : Result ℕ Fault) → different_loads x ≤ length before
    → CertifySays B x kind before after r → LevelBy B whole x → (rows : List CertRow) × Accepts B x rows
made B x kind before after (Ok count) room says level = (take count after, says.2)
made B x kind before after (Err fault) room says level = absurd (⊎_elim (λ p. p.0 level) (λ p. let l = p.1 in omega arith) says.1)

pub returns : goal.returns
returns g c =
    let b = g.S.BaseSystem in
    let laws = g.met.S.BaseSystem in
    let s = c.args.s.now in
    let x = b.loads s in
    let few = different_few x in
    let w = laws.width s x (laws.stands s).0 in
    let n = (laws.few s).1 in
    record {
      shows = accepts_level (laws.family s) x (laws.stands s).0;
      exists = made (b.bases s) x (b.layer s) (replicate 64 blank) c.certify.new.table c.certify.result
          (let l = length-replicate 64 blank in omega arith) c.certify.ensures;
    }
