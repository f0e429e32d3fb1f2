-- A base that is level by whole loads has the least heaviest loads of all bases.
use Rattle.std.proofs.Common.{◌≡◌, ℕ, zero, suc, ◌+◌, ◌-◌, ◌*◌, ◌<◌, ◌≤◌, Bool, cond, ltb, leb, List, [], ◌∷◌, length, get_or, take, sum_by, sum, sym, refl, ap, ◌∙◌, ⊎_elim, suc-mul, zero-mul, add-one, arith}
use Rattle.std.specs.List.{AllByRecursion as All}
use Rattle.std.proofs.ByRecursion.{All-weaker, All-from_get_or}
use Rattle.std.proofs.lemmas.List.{take_all}
use Rattle.std.proofs.lemmas.List.Sums.{sum_by-cons, sum_by_more}
use Rattle.std.proofs.lemmas.Bool.{cases_lt, cond_both, cond-true, cond-false, leb-true, leb-false, lt-ltb, le-ltb}
use Rattle.bases.specs.Sums.{sum_to}
use Rattle.bases.specs.Family.{Family}
use Rattle.bases.proofs.Sums.{sum_same}
use Rattle.bases.proofs.Toward.{one_total}
use Rattle.grades.specs.Grades.{UnitOf, Grades, ByWhole}
use Rattle.optima.specs.Steps.{LevelBy}
use Rattle.optima.specs.Costs.{units_above, placed, falling, heaviest}
use Rattle.optima.proofs.Graded.{level_units}

-- ---- the falling list has the loads, and falls
-- a load put at its place adds what it adds
sum_placed : (f : ℕ → ℕ) (load : ℕ) (l : List ℕ) → sum_by f (placed load l) ≡ f load + sum_by f l
sum_placed f load [] = sum_by-cons f load []
sum_placed f load (next ∷ rest) =
    cond_both (leb next load) (load ∷ (next ∷ rest)) (next ∷ placed load rest) (λ z. sum_by f z ≡ f load + sum_by f (next ∷ rest))
    (λ e. sum_by-cons f load (next ∷ rest))
    (λ e. let a = sum_by-cons f next (placed load rest) in let b = sum_by-cons f next rest in let again = sum_placed f load rest in omega arith)

-- so any sum over the loads is the sum over them as they fall
sum_falling : (f : ℕ → ℕ) (x : List ℕ) → sum_by f (falling x) ≡ sum_by f x
sum_falling f [] = refl
sum_falling f (load ∷ rest) =
    let a = sum_placed f load (falling rest) in let b = sum_by-cons f load rest in let again = sum_falling f rest in omega arith

-- one load more
length_placed : (load : ℕ) (l : List ℕ) → length (placed load l) ≡ suc (length l)
length_placed load [] = refl
length_placed load (next ∷ rest) =
    cond_both (leb next load) (load ∷ (next ∷ rest)) (next ∷ placed load rest) (λ z. length z ≡ suc (length (next ∷ rest)))
    (λ e. refl) (λ e. ap suc (length_placed load rest))

-- as many loads
length_falling : (x : List ℕ) → length (falling x) ≡ length x
length_falling [] = refl
length_falling (load ∷ rest) = length_placed load (falling rest) ∙ ap suc (length_falling rest)

-- what holds of a load and of each of a list holds of each where the load is put
all_placed : (P : ℕ → Type 0) (load : ℕ) (l : List ℕ) → P load → All P l → All P (placed load l)
all_placed P load [] p all = (p, tt)
all_placed P load (next ∷ rest) p all =
    cond_both (leb next load) (load ∷ (next ∷ rest)) (next ∷ placed load rest) (λ z. All P z)
    (λ e. (p, all)) (λ e. (all.0, all_placed P load rest p all.1))

-- what holds of each load holds of each as they fall
all_falling : (P : ℕ → Type 0) (x : List ℕ) → All P x → All P (falling x)
all_falling P [] all = tt
all_falling P (load ∷ rest) all = all_placed P load (falling rest) all.0 (all_falling P rest all.1)

-- each load is at least each later one
abbrev Falls : List ℕ → Type 0
Falls [] = Unit {0}
Falls (load ∷ rest) = All (λ later. later ≤ load) rest × Falls rest

-- a load is put at its place
falls_placed : (load : ℕ) (l : List ℕ) → Falls l → Falls (placed load l)
falls_placed load [] falls = (tt, tt)
falls_placed load (next ∷ rest) falls =
    cond_both (leb next load) (load ∷ (next ∷ rest)) (next ∷ placed load rest) Falls
    (λ e. let le = leb-true next load e in (((le, All-weaker (λ later. later ≤ next) (λ later. later ≤ load) (λ later h. omega arith) rest falls.0), falls)))
    (λ e. let lt = leb-false next load e in (all_placed (λ later. later ≤ next) load rest (omega arith) falls.0, falls_placed load rest falls.1))

-- the falling list falls
falls_falling : (x : List ℕ) → Falls (falling x)
falls_falling [] = tt
falls_falling (load ∷ rest) = falls_placed load (falling rest) (falls_falling rest)

-- ---- the k heaviest loads, by the units above a load w
-- the units above w
abbrev over : ℕ → ℕ → ℕ
over w load = load - w

-- any k loads are at most k times w and all that lies above w
front_le : (w k : ℕ) (l : List ℕ) → sum (take k l) ≤ k * w + sum_by (over w) l
front_le w zero l = omega arith
front_le w (suc k) [] = omega arith
front_le w (suc k) (load ∷ rest) =
    let a = sum_by-cons (λ z. z) load (take k rest) in
    let b = sum_by-cons (over w) load rest in
    let m = suc-mul k w in
    let again = front_le w k rest in
    omega arith

-- where no load is above w, nothing lies above w
none_over : (w : ℕ) (l : List ℕ) → All (λ load. load ≤ w) l → sum_by (over w) l ≡ 0
none_over w [] all = refl
none_over w (load ∷ rest) all =
    let a = sum_by-cons (over w) load rest in let le = all.0 in let again = none_over w rest all.1 in omega arith

-- in a falling list the first k loads are just that, at the k-th load w
front_is : (t k : ℕ) (l : List ℕ) → Falls l → All (λ load. load ≤ t) l → k < length l
    → (w : ℕ) × (w ≤ t) × (sum (take (suc k) l) ≡ suc k * w + sum_by (over w) l)
front_is t k [] falls all h = absurd (omega arith)
front_is t zero (load ∷ rest) falls all h =
    (load, all.0, let a = sum_by-cons (over load) load rest in let z = none_over load rest falls.0 in let m = suc-mul 0 load in let o = zero-mul load in omega arith)
front_is t (suc k) (load ∷ rest) falls all h = back (front_is load k rest falls.1 falls.0 (omega arith))
  where
    back : (w : ℕ) × (w ≤ load) × (sum (take (suc k) rest) ≡ suc k * w + sum_by (over w) rest)
        → (w : ℕ) × (w ≤ t) × (sum (take (suc (suc k)) (load ∷ rest)) ≡ suc (suc k) * w + sum_by (over w) (load ∷ rest))
    back (w, le, is) =
        let low = all.0 in
        let a = sum_by-cons (λ z. z) load (take (suc k) rest) in
        let b = sum_by-cons (over w) load rest in
        let m = suc-mul (suc k) w in
        (w, omega arith, omega arith)

-- the units of x above load w
abbrev pub units_over : ℕ → List ℕ → ℕ
units_over w x = sum_to (length x) (λ i. get_or x i 0 - w)

-- a sum over places is a sum over the list
sum_places : (f : ℕ → ℕ) (x : List ℕ) → sum_to (length x) (λ k. f (get_or x k 0)) ≡ sum_by f x
sum_places f x = upto (length x) (omega arith) ∙ ap (sum_by f) (take_all (length x) x (omega arith))
  where
    upto : (n : ℕ) → n ≤ length x → sum_to n (λ k. f (get_or x k 0)) ≡ sum_by f (take n x)
    upto zero h = refl
    upto (suc n) h =
        ap (λ (a : ℕ). a + f (get_or x n 0)) (upto n (omega arith)) ∙ sym (sum_by_more f x n 0 (omega arith))
        ∙ ap (λ (m : ℕ). sum_by f (take m x)) (add-one n)

-- the units above w are those of the falling list
over_falling : (w : ℕ) (x : List ℕ) → units_over w x ≡ sum_by (over w) (falling x)
over_falling w x = sum_places (over w) x ∙ sym (sum_falling (over w) x)

-- the k heaviest are at most k times w and all that lies above w
pub heaviest_le : (k w : ℕ) (x : List ℕ) → heaviest k x ≤ k * w + units_over w x
heaviest_le k w x = let e = over_falling w x in let l = front_le w k (falling x) in omega arith

-- and just that at some w
pub heaviest_is : (k top : ℕ) (y : List ℕ) → ((i : ℕ) → get_or y i 0 ≤ top) → 1 ≤ k → k ≤ length y
    → (w : ℕ) × (w ≤ top) × (heaviest k y ≡ k * w + units_over w y)
heaviest_is zero top y low first last = absurd (omega arith)
heaviest_is (suc k) top y low first last =
    let l = length_falling y in
    let r = front_is top k (falling y) (falls_falling y) (all_falling (λ load. load ≤ top) y (All-from_get_or (λ load. load ≤ top) y 0 (λ i h. low i))) (omega arith) in
    (r.0, r.1, let e = over_falling r.0 y in let s = r.2 in omega arith)

-- all loads and more
heaviest_all : (k : ℕ) (x : List ℕ) → length x ≤ k → heaviest k x ≡ sum x
heaviest_all k x h = let l = length_falling x in ap sum (take_all k (falling x) (omega arith)) ∙ sum_falling (λ load. load) x

-- above load 0 lie all units
over_none : (x : List ℕ) → units_over 0 x ≡ sum x
over_none x = sum_same (length x) (λ i. get_or x i 0 - 0) (λ i. get_or x i 0) (λ i h. omega arith) ∙ sum_places (λ load. load) x

-- of the units 1 to m, those above w are m - w
count_over : (w m : ℕ) (p : ℕ → Bool) → ((u : ℕ) → 1 ≤ u → u ≤ m → p u ≡ ltb w u) → sum_to m (λ u. cond (p (suc u)) 1 0) ≡ m - w
count_over w zero p by_number = omega arith
count_over w (suc m) p by_number =
    let again = count_over w m p (λ u first last. by_number u first (omega arith)) in
    let last = by_number (suc m) (omega arith) (omega arith) in
    ⊎_elim
    (λ over. let one = cond-true {A = ℕ} (p (suc m)) 1 0 (last ∙ lt-ltb w (suc m) over) in omega arith)
    (λ under. let none = cond-false {A = ℕ} (p (suc m)) 1 0 (last ∙ le-ltb w (suc m) under) in omega arith)
    (cases_lt w (suc m))

module _ {B : List ℕ → Type 0} {n top : ℕ} (family : Family B n top)
    (above : ℕ → ℕ → ℕ → ℕ → Bool) (grades : Grades above) (by_whole : ByWhole above) where
  -- by whole loads, the units of a base above unit w of seat 0 are those above load w
  above_over : (w : ℕ) → UnitOf 0 w → (x : List ℕ) → B x → units_above above x 0 w ≡ units_over w x
  above_over w t x hx =
      let l = family.width x hx in
      sum_same (length x) (λ i. sum_to (get_or x i 0) (λ u. cond (above i (suc u) 0 w) 1 0)) (λ i. get_or x i 0 - w)
      (λ i h. count_over w (get_or x i 0) (λ u. above i u 0 w)
      (λ u first last. by_whole i u 0 w (let b = family.high x hx i in record { seat = omega arith; first = first; last = omega arith }) t))

  module _ (x : List ℕ) (hx : B x) (level : LevelBy B above x) (y : List ℕ) (hy : B y) where
    -- a level base has at most as many units above each load as any base
    over_le : (w : ℕ) → w ≤ top → units_over w x ≤ units_over w y
    over_le zero h = let a = over_none x in let b = over_none y in let s = one_total B family.exchange n family.width x y hx hy in omega arith
    over_le (suc w) h =
        let t : UnitOf 0 (suc w) = record { seat = omega arith; first = omega arith; last = omega arith } in
        let a = above_over (suc w) t x hx in
        let b = above_over (suc w) t y hy in
        let le = level_units family above grades x hx level 0 (suc w) t y hy in
        omega arith

    -- so its k heaviest loads are at most those of any base
    at_most : (k : ℕ) → heaviest k x ≤ heaviest k y
    at_most zero = omega arith
    at_most (suc k) =
        let lx = family.width x hx in
        let ly = family.width y hy in
        ⊎_elim
        (λ inside. let r = heaviest_is (suc k) top y (family.high y hy) (omega arith) (omega arith) in
        let le = heaviest_le (suc k) r.0 x in let fewer = over_le r.0 r.1 in let is = r.2 in omega arith)
        (λ past. let a = heaviest_all (suc k) x (omega arith) in let b = heaviest_all (suc k) y (omega arith) in
        let s = one_total B family.exchange n family.width x y hx hy in omega arith)
        (cases_lt k n)

module _ {B : List ℕ → Type 0} {n top : ℕ} (family : Family B n top)
    (above : ℕ → ℕ → ℕ → ℕ → Bool) (grades : Grades above) where
  -- of a base that is level by whole loads and any base, the level one's k heaviest loads are at most the other's
  pub level_heaviest : ByWhole above → (x : List ℕ) → B x → LevelBy B above x → (k : ℕ) (y : List ℕ) → B y → heaviest k x ≤ heaviest k y
  level_heaviest by_whole x hx level k y hy = at_most family above grades by_whole x hx level y hy k
