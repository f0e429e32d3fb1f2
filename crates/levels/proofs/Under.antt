-- A levelling under way.
use Rattle.std.proofs.Common.{◌≡◌, ℕ, ◌+◌, ◌*◌, ◌≤◌, Bool, List, length, get_or, Some, Ok, sym, ap, subst, add-one, arith}
use Rattle.bases.specs.Exchange.{Exchange, Same, moved}
use Rattle.bases.specs.Family.{Family}
use Rattle.bases.specs.Says.{Stands}
use Rattle.grades.specs.Grades.{Grades, ByWhole}
use Rattle.optima.specs.Steps.{LevelBy}
use Rattle.optima.specs.Costs.{squares}
use Rattle.optima.proofs.Graded.{level_units}
use Rattle.optima.proofs.Heaviest.{level_heaviest}
use Rattle.optima.proofs.Squares.{squares_fall}
use Rattle.steps.specs.Chosen.{Chosen}
use Rattle.levels.specs.Levelling.{Levelled, Promised}
use Rattle.levels.specs.Levelling.Levelled.{start, further}

-- After so many steps from a, at b: the bases, the seats and the ceiling are the same, b stands, and by whole loads the squares have fallen.
pub record Under {S : Type 0} (seats : S → ℕ) (bases : S → List ℕ → Type 0) (loads : S → List ℕ) (top : S → ℕ) (shifted : S → ℕ → ℕ → ℕ → S → Type 0)
    (above : ℕ → ℕ → ℕ → ℕ → Bool) (a b : S) (made : ℕ) : Type 0 where
  pub steps : Levelled bases loads shifted above a made b
  pub same : Same (bases a) (bases b)
  pub stands : Stands (bases b) (loads b) (top b)
  pub squared : ByWhole above → squares (loads b) + 2 * made ≤ squares (loads a)

module _ {S : Type 0} (seats : S → ℕ) (bases : S → List ℕ → Type 0) (loads : S → List ℕ) (top : S → ℕ) (shifted : S → ℕ → ℕ → ℕ → S → Type 0)
    (few : (s : S) → seats s ≤ 64) (width : (s : S) (x : List ℕ) → bases s x → length x ≡ seats s) (high : (s : S) (x : List ℕ) → bases s x → (i : ℕ) → get_or x i 0 ≤ top s)
    (exchange : (s : S) → Exchange (bases s)) (moves : (a b : S) (i j count : ℕ) → shifted a i j count b → loads b ≡ moved (loads a) i j)
    (keeps : (a b : S) (i j count : ℕ) → shifted a i j count b → Same (bases a) (bases b))
    (above : ℕ → ℕ → ℕ → ℕ → Bool) (grades : Grades above) (a : S) where
  -- the bases of a system whose ceiling is a load are a family
  family : (b : S) → top b ≤ 999999 → Family (bases b) (seats b) (top b)
  family b low = record { exchange = exchange b; width = width b; few = few b; high = high b; low = low }

  -- at first nothing is done
  pub not_begun : Stands (bases a) (loads a) (top a) → Under seats bases loads top shifted above a a 0
  not_begun stands = record { steps = start; same = λ x. (λ h. h, λ h. h); stands = stands; squared = λ whole. omega arith }

  -- one step more
  pub one_more : (b c : S) (made i j count : ℕ) → Under seats bases loads top shifted above a b made → Chosen (bases b) above (loads b) i j → shifted b i j count c
      → Stands (bases c) (loads c) (top c) → Under seats bases loads top shifted above a c (made + 1)
  one_more b c made i j count under chosen shift stands = record {
    steps = subst (λ (m : ℕ). Levelled bases loads shifted above a m c) (sym (add-one made)) (further i j count under.steps chosen shift);
    same = λ x. (λ h. (keeps b c i j count shift x).0 ((under.same x).0 h), λ h. (under.same x).1 ((keeps b c i j count shift x).1 h));
    stands = stands;
    squared = λ whole.
        (let fall = squares_fall (family b under.stands.1) above grades whole (loads b) under.stands.0 i j chosen.receiver.has in
        let e = ap squares (moves b c i j count shift) in
        let so_far = under.squared whole in
        omega arith);
  }

  module _ (b : S) (made : ℕ) (under : Under seats bases loads top shifted above a b made) where
    -- what is promised where no step is left
    pub promised_level : (budget : ℕ) → LevelBy (bases b) above (loads b) → Promised (bases a) above budget (loads a) (loads b) (Ok (Some made))
    promised_level budget level = record {
      kindest = λ _ j v unit y open-to. level_units (family b under.stands.1) above grades (loads b) under.stands.0 level j v unit y ((under.same y).0 open-to);
      heaviest_least = λ _ whole k y open-to. level_heaviest (family b under.stands.1) above grades whole (loads b) under.stands.0 level k y ((under.same y).0 open-to);
      squares_fall = under.squared;
    }
