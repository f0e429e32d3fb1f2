-- The different loads of a load list.
use Rattle.std.specs.Prelude.{◌≡◌, ℕ, ◌+◌, ◌<◌, ◌≤◌, Option, None, Some, Bool, false, cond, not, ◌&&◌, ◌||◌, List, [], ◌∷◌, ◌==◌, nat_lt, slice_index}
use Rattle.certificates.specs.declared.values.Values.{Values}

-- whether one of the loads is v
abbrev pub occurs : ℕ → List ℕ → Bool
occurs v [] = false
occurs v (load ∷ rest) = load == v || occurs v rest

-- how many different positive loads there are: each is counted where it stands last
abbrev pub different_loads : List ℕ → ℕ
different_loads [] = 0
different_loads (load ∷ rest) = cond (nat_lt 0 load && not (occurs load rest)) 1 0 + different_loads rest

-- r is the largest load below the bound, or 0 where no positive load is below it
pub record NextLoad (x : List ℕ) (bound r : ℕ) : Type 0 where
  pub lower : 0 < r → r < bound
  pub is : 0 < r → (i : ℕ) × (slice_index x i ≡ r)
  pub most : (i : ℕ) → slice_index x i < bound → slice_index x i ≤ r

-- One step down the loads from a bound. It comes to the largest positive load below the bound, which is the bound then;
-- or no positive load is below it, and it stays.
abbrev pub Descends : List ℕ → ℕ → Option ℕ → ℕ → Type 0
Descends x bound None after = NextLoad x bound 0 × (after ≡ bound)
Descends x bound (Some load) after = (0 < load) × NextLoad x bound load × (after ≡ load)

-- One step of the values of a system, whose loads `loads` gives, from v to t: one step down the loads.
abbrev pub WalksDown : {S : Type 0} → (S → List ℕ) → Values S → Option ℕ → Values S → Type 0
WalksDown loads v r t = (t.system.now ≡ v.system.now) × Descends (loads v.system.now) v.bound r t.bound
