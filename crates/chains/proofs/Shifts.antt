-- What a shift of divided items answers.
use Rattle.std.proofs.Common.{◌≡◌, ℕ, sym, ap, ◌∙◌, arith}
use Rattle.faults.specs.declared.Fault.{Fault}
use Rattle.faults.specs.declared.Kind.{Kind}
use Rattle.faults.specs.declared.Reason.TheVariants.{NoSuchBase}
use Rattle.faults.specs.Places.{fault_at}
use Rattle.bases.specs.Exchange.{Reaches}
use Rattle.bases.specs.Says.{Two, refusal}
use Rattle.bases.proofs.Refusals.{refusal_why, reach_two}
use Rattle.items.specs.Fillings.{Shape, Divisions, loads_of}
use Rattle.items.proofs.Units.{length_loads, moved_loads}
use Rattle.chains.specs.Chains.{Passed, Shifted}

module _ (shape : Shape) (f : ℕ → ℕ → ℕ) (i j : ℕ) where
  -- the top's refusal, which no seat or equal seats bring about
  pub refused_pair : (n : ℕ) (kind sort : Kind) (why : ℕ → ℕ → Fault) (fault : Fault) → n ≡ shape.seats → kind ≡ sort → (Two n i j → ⊥) × ((w : ℕ → ℕ → Fault) → fault ≡ refusal n kind w i j)
      → (Reaches (Divisions shape) (loads_of shape f) i j → ⊥) × (fault ≡ refusal shape.seats sort why i j)
  refused_pair n kind sort why fault en ek (none, due) = (
    λ r. none (reach_two (Divisions shape) (loads_of shape f) i j n (length_loads shape f ∙ sym en) r),
    due why ∙ ap (λ (m : ℕ). refusal m kind why i j) en ∙ ap (λ (k : Kind). refusal shape.seats k why i j) ek,
  )

  -- the bottom's refusal
  pub refused_base : (n : ℕ) (kind sort : Kind) → n ≡ shape.seats → kind ≡ sort → Two n i j
      → fault_at NoSuchBase j kind ≡ refusal shape.seats sort (λ _ receiver. fault_at NoSuchBase receiver sort) i j
  refused_base n kind sort en ek (hi, hj, ne) =
      ap (fault_at NoSuchBase j) ek ∙ sym (refusal_why shape.seats sort (λ _ receiver. fault_at NoSuchBase receiver sort) i j (omega arith) (omega arith) ne)

  -- a unit that has passed from i to j is a shift
  pub shifted_by : (g : ℕ → ℕ → ℕ) (count : ℕ) → Reaches (Divisions shape) (loads_of shape f) i j → Passed shape f g i j count → Shifted shape f g i j count
  shifted_by g count r passed = record {
    moves = moved_loads shape f g i j r.gives (let l = length_loads shape f in let t = r.takes in omega arith) r.other passed.loads;
    counts = passed.counts;
  }
