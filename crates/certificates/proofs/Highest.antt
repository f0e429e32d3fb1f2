-- The largest positive load below a bound.
use Rattle.std.proofs.Common.{◌≡◌, ℕ, zero, suc, ◌<◌, ◌≤◌, max, Bool, true, false, ltb, ◌&&◌, Option, None, Some, MatchOption, ◌⊎◌, List, [], ◌∷◌, get_or, length, map, filter, refl, sym, ap, ◌∙◌, subst, inl, inr, ⊎_elim, arith}
use Rattle.std.proofs.lemmas.Bool.{cases_lt, cond_both}
use Rattle.std.proofs.lemmas.Bool.Decides.{nat_tests}
use Rattle.std.proofs.lemmas.Iterator.Adapters.{option_map_id}
use Rattle.std.proofs.lemmas.List.FromFn.{fill_by_all}
use Rattle.std.specs.List.{fold, reduce, range_with_len}
use Rattle.std.specs.Option.{option_map}
use Rattle.certificates.specs.Loads.{NextLoad}

module _ (bound : ℕ) where
  -- the load is positive and below the bound
  abbrev pub low : ℕ → Bool
  low load = ltb 0 load && ltb load bound

  is_low : (load : ℕ) → low load ≡ true → (0 < load) × (load < bound)
  is_low load e = (grind (arith, nat_tests), grind (arith, nat_tests))

  not_low : (load : ℕ) → low load ≡ false → load < bound → load ≤ 0
  not_low load e lt = grind (arith, nat_tests)

  -- no load below the bound exceeds m
  abbrev Most : List ℕ → ℕ → Type 0
  Most x m = (i : ℕ) → get_or x i 0 < bound → get_or x i 0 ≤ m

  most_more : (load : ℕ) (x : List ℕ) (m : ℕ) → (load < bound → load ≤ m) → Most x m → Most (load ∷ x) m
  most_more load x m first rest zero lt = first lt
  most_more load x m first rest (suc i) lt = rest i lt

  -- m is the largest of a and the low loads
  record Largest (a : ℕ) (x : List ℕ) (m : ℕ) : Type 0 where
    pub above : a ≤ m
    pub below : m < bound
    pub is : (a ≡ m) ⊎ ((i : ℕ) × (get_or x i 0 ≡ m))
    pub most : Most x m

  one_of : (a load : ℕ) (x : List ℕ) (m : ℕ) → max a load ≡ m → (a ≡ m) ⊎ ((i : ℕ) × (get_or (load ∷ x) i 0 ≡ m))
  one_of a load x m e = ⊎_elim (λ (lt : a < load). inr (0, omega arith)) (λ (le : load ≤ a). inl (omega arith)) (cases_lt a load)

  taken : (a load : ℕ) (x : List ℕ) (m : ℕ) → Largest (max a load) x m → Largest a (load ∷ x) m
  taken a load x m l =
      let up = l.above in
      record { above = omega arith; below = l.below; is = ⊎_elim (one_of a load x m) (λ p. inr (suc p.0, p.1)) l.is; most = most_more load x m (λ lt. omega arith) l.most }

  passed : (a load : ℕ) (x : List ℕ) (m : ℕ) → low load ≡ false → Largest a x m → Largest a (load ∷ x) m
  passed a load x m e l = record { above = l.above; below = l.below; is = ⊎_elim inl (λ p. inr (suc p.0, p.1)) l.is; most = most_more load x m (λ lt. let z = not_low load e lt in omega arith) l.most }

  largest : (a : ℕ) (x : List ℕ) → a < bound → Largest a x (fold max a (filter low x))
  largest a [] h = record { above = omega arith; below = h; is = inl refl; most = λ i lt. omega arith }
  largest a (load ∷ x) h =
      cond_both (low load) (load ∷ filter low x) (filter low x) (λ ys. Largest a (load ∷ x) (fold max a ys))
      (λ e. taken a load x _ (largest (max a load) x (let p = is_low load e in let q = p.1 in omega arith)))
      (λ e. passed a load x _ e (largest a x h))

  -- what the choice of the next load answers
  abbrev pub Answers : List ℕ → Option ℕ → Type 0
  Answers x r = MatchOption r (NextLoad x bound 0) (λ load. (0 < load) × NextLoad x bound load)

  found : (load : ℕ) (x : List ℕ) (m : ℕ) → 0 < load → Largest load x m → Answers (load ∷ x) (Some m)
  found load x m pos l =
      let up = l.above in
      (omega arith, record { lower = λ _. l.below; is = λ _. ⊎_elim (λ e. (0, e)) (λ p. (suc p.0, p.1)) l.is; most = most_more load x m (λ lt. up) l.most })

  later : (load : ℕ) (x : List ℕ) (r : Option ℕ) → low load ≡ false → Answers x r → Answers (load ∷ x) r
  later load x None e n = record { lower = n.lower; is = λ pos. absurd (omega arith); most = most_more load x 0 (not_low load e) n.most }
  later load x (Some m) e n =
      (n.0, record { lower = n.1.lower; is = λ pos. let p = n.1.is pos in (suc p.0, p.1); most = most_more load x m (λ lt. let z = not_low load e lt in omega arith) n.1.most })

  pub next_load : (x : List ℕ) → Answers x (reduce max (filter low x))
  next_load [] = record { lower = λ pos. omega arith; is = λ pos. absurd (omega arith); most = λ i lt. omega arith }
  next_load (load ∷ x) =
      cond_both (low load) (load ∷ filter low x) (filter low x) (λ ys. Answers (load ∷ x) (reduce max ys))
      (λ e. let p = is_low load e in found load x _ p.0 (largest load x p.1)) (λ e. later load x _ e (next_load x))

  -- the largest of the low loads of the n seats is what the choice of the next load answers
  pub next_of_seats : (x : List ℕ) (n : ℕ) (r : Option ℕ) → length x ≡ n
      → option_map (λ l. l) r ≡ reduce max (filter low (map (λ i. get_or x i 0) (range_with_len 0 n))) → Answers x r
  next_of_seats x n r wide e =
      let loads = fill_by_all (λ i. get_or x i 0) x n 0 wide (λ i lt. refl) in
      subst (Answers x) (ap (λ l. reduce max (filter low l)) loads ∙ sym e ∙ option_map_id r) (next_load x)
