-- Counting the different loads from the highest down.
use Rattle.std.proofs.Common.{◌≡◌, ℕ, zero, suc, ◌+◌, ◌<◌, ◌≤◌, Option, None, Some, MatchOption, Bool, true, false, cond, not, ◌&&◌, eqb, ltb, List, [], ◌∷◌, length, get_or, sym, refl, ap, ◌∙◌, subst, ⊎_elim, arith}
use Rattle.std.proofs.lemmas.Bool.{cases_eq, cases_Bool, eqb-true, or_cases}
use Rattle.std.proofs.lemmas.Bool.Decides.{nat_tests}
use Rattle.std.specs.Iterator.{Drains, Yields}
use Rattle.certificates.specs.Loads.{occurs, different_loads, Descends, WalksDown}
use Rattle.certificates.specs.declared.values.Values.{Values}

-- ---- loads that occur
pub occurs_at : (v : ℕ) (x : List ℕ) → occurs v x ≡ true → (i : ℕ) × (get_or x i 0 ≡ v)
occurs_at v [] e = cc
occurs_at v (load ∷ rest) e =
    ⊎_elim (λ here. (0, eqb-true load v here)) (λ there. let r = occurs_at v rest there in (suc r.0, r.1)) (or_cases (eqb load v) (occurs v rest) e)

pub occurs_never : (v : ℕ) (x : List ℕ) → 0 < v → occurs v x ≡ false → (i : ℕ) → get_or x i 0 ≡ v → ⊥
occurs_never v [] pos e i h = omega arith
occurs_never v (load ∷ rest) pos e zero h = grind (arith, nat_tests)
occurs_never v (load ∷ rest) pos e (suc i) h = occurs_never v rest pos (grind (arith, nat_tests)) i h

-- ---- the different positive loads below a bound
abbrev pub one : ℕ → ℕ → Bool → ℕ
one b load later = cond (ltb load b && (ltb 0 load && not later)) 1 0

abbrev pub different_below : ℕ → List ℕ → ℕ
different_below b [] = 0
different_below b (load ∷ rest) = one b load (occurs load rest) + different_below b rest

-- a bound may fall as long as it passes no load
same_test : (load a b : ℕ) → a ≤ b → (a ≤ load → load < b → ⊥) → ltb load b ≡ ltb load a
same_test load a b le none = grind (arith, nat_tests)

pub below_gap : (x : List ℕ) (a b : ℕ) → a ≤ b → ((i : ℕ) → a ≤ get_or x i 0 → get_or x i 0 < b → ⊥) → different_below b x ≡ different_below a x
below_gap [] a b le none = refl
below_gap (load ∷ rest) a b le none = let e = same_test load a b le (none 0) in let r = below_gap rest a b le (λ i. none (suc i)) in grind arith

-- a load counts once
pub below_load : (x : List ℕ) (v i : ℕ) → 0 < v → get_or x i 0 ≡ v → different_below (v + 1) x ≡ different_below v x + 1
below_load [] v i pos h = absurd (omega arith)
below_load (load ∷ rest) v i pos h =
    ⊎_elim (λ t. let r = occurs_at v rest t in again t (below_load rest v r.0 pos r.1)) (λ f. last f i h) (cases_Bool (occurs v rest))
  where
    heads : occurs v rest ≡ true → one (v + 1) load (occurs load rest) ≡ one v load (occurs load rest)
    heads t = ⊎_elim (λ (e : load ≡ v). let o : occurs load rest ≡ true = ap (λ (k : ℕ). occurs k rest) e ∙ t in grind (arith, nat_tests)) (λ ne. grind (arith, nat_tests)) (cases_eq load v)

    again : occurs v rest ≡ true → different_below (v + 1) rest ≡ different_below v rest + 1 → different_below (v + 1) (load ∷ rest) ≡ different_below v (load ∷ rest) + 1
    again t b = let a = heads t in omega arith

    counted : load ≡ v → occurs v rest ≡ false → different_below (v + 1) (load ∷ rest) ≡ different_below v (load ∷ rest) + 1
    counted e f =
        let o : occurs load rest ≡ false = ap (λ (k : ℕ). occurs k rest) e ∙ f in
        let g = below_gap rest v (v + 1) (omega arith) (λ k low high. occurs_never v rest pos f k (omega arith)) in
        grind (arith, nat_tests)

    last : occurs v rest ≡ false → (i : ℕ) → get_or (load ∷ rest) i 0 ≡ v → different_below (v + 1) (load ∷ rest) ≡ different_below v (load ∷ rest) + 1
    last f zero h = counted h f
    last f (suc i) h = absurd (occurs_never v rest pos f i h)

-- no positive load is below 1
pub below_one : (x : List ℕ) → different_below 1 x ≡ 0
below_one [] = refl
below_one (load ∷ rest) = let b = below_one rest in grind (arith, nat_tests)

-- where all loads are below the bound, all are counted
pub below_all : (x : List ℕ) (b : ℕ) → ((i : ℕ) → get_or x i 0 < b) → different_below b x ≡ different_loads x
below_all [] b low = refl
below_all (load ∷ rest) b low = let lt = low 0 in let r = below_all rest b (λ i. low (suc i)) in grind (arith, nat_tests)

-- there are no more different loads than seats
pub different_few : (x : List ℕ) → different_loads x ≤ length x
different_few [] = omega arith
different_few (load ∷ rest) = let b = different_few rest in grind (arith, nat_tests)

-- ---- the walk down the loads
-- each step passes one load, and where no load is left none is below
pub below_step : (x : List ℕ) (bound : ℕ) (r : Option ℕ) (after : ℕ) → 0 < bound → Descends x bound r after
    → MatchOption r (different_below bound x ≡ 0) (λ _. (different_below bound x ≡ different_below after x + 1) × (0 < after))
below_step x bound None after pos d =
    below_gap x 1 bound pos (λ i a lt. let m = d.0.most i lt in omega arith) ∙ below_one x
below_step x bound (Some load) after pos d =
    let i = d.1.is d.0 in
    let lt = d.1.lower d.0 in
    let passed = below_gap x (load + 1) bound (omega arith) (λ i a lt. let m = d.1.most i lt in omega arith) in
    let once = below_load x load i.0 d.0 i.1 in
    let last = ap (λ b. different_below b x) d.2 in
    (omega arith, (let e = d.2 in let p = d.0 in omega arith))

-- a walk down the loads below a bound passes as many as there are
module _ {S : Type 0} (loads : S → List ℕ) where
  walked : (xs : List ℕ) (v t u : Values S) → 0 < v.bound → Yields (WalksDown loads) v xs t → WalksDown loads t None u → length xs ≡ different_below v.bound (loads v.system.now)
  walked [] v t u pos y l =
      sym (below_step (loads v.system.now) v.bound None u.bound pos (subst (λ z. WalksDown loads z None u) (sym y) l).1)
  walked (value ∷ xs) v t u pos y l =
      let step = below_step (loads v.system.now) v.bound (Some value) y.0.bound pos y.1.1 in
      let rest = walked xs y.0 t u step.1 y.2 l in
      let same = ap (λ s. different_below y.0.bound (loads s)) y.1.0 in
      let e = step.0 in
      omega arith

  -- from above all loads it passes all of them
  pub walked_all : (v : Values S) (n : ℕ) → ((i : ℕ) → get_or (loads v.system.now) i 0 < v.bound) → (xs : List ℕ) × Drains (WalksDown loads) v xs × (n ≡ length xs)
      → n ≡ different_loads (loads v.system.now)
  walked_all v n high ran =
      ran.2 ∙ walked ran.0 v ran.1.1.0 ran.1.0 (let h = high 0 in omega arith) ran.1.1.1 ran.1.1.2 ∙ below_all (loads v.system.now) v.bound high
