-- A table that is accepted for some bases and loads is accepted for the same bases and loads under any other name.
use Rattle.std.proofs.Common.{◌≡◌, ℕ, List, subst}
use Rattle.bases.specs.Exchange.{Same, Reaches, moved}
use Rattle.certificates.specs.declared.row.CertRow.{CertRow}
use Rattle.certificates.specs.Tables.{Passes, Accepts, row_at}

-- the reach is the same
reach_same : (B C : List ℕ → Type 0) → Same B C → (x : List ℕ) (i j : ℕ) → Reaches C x i j → Reaches B x i j
reach_same B C same x i j r = record { gives = r.gives; takes = r.takes; other = r.other; base = (same (moved x i j)).1 r.base }

-- so a row that passes passes
passes_same : (B C : List ℕ → Type 0) → Same B C → (x : List ℕ) (v set : ℕ) → Passes B x v set → Passes C x v set
passes_same B C same x v set p = record {
  low = p.low;
  high = p.high;
  seated = p.seated;
  fits = p.fits;
  closed = λ i j h r. p.closed i j h (reach_same B C same x i j r);
}

pub accepts_same : (B C : List ℕ → Type 0) → Same B C → (x y : List ℕ) → x ≡ y → (rows : List CertRow) → Accepts B x rows → Accepts C y rows
accepts_same B C same x y e rows a =
    subst (λ (z : List ℕ). Accepts C z rows) e (record { covers = a.covers; passes = λ k h. passes_same B C same x (row_at rows k).value (row_at rows k).set (a.passes k h) })
