-- Breadth-first spreading, turn by turn.
use Rattle.std.proofs.Common.{◌≡◌, ℕ, ◌+◌, ◌^◌, ◌<◌, ◌≤◌, ◌⊎◌, sym, refl, ap, ◌∙◌, subst, inl, inr, ⊎_elim, arith}
use lib.Count.{ones}
use Rattle.std.proofs.lemmas.Bool.{cases_eq}
use Rattle.seats.specs.Sets.{In, Exactly, Joined, Removed, Taken}
use Rattle.seats.proofs.Members.{in_none, in_or_not}
use Rattle.seats.proofs.Counts.{ones_within, ones_inserted, ones_below, ones_one}
use Rattle.items.specs.Fillings.{Shape, Link}
use Rattle.chains.specs.declared.spread.Spread.{Spread}
use Rattle.chains.specs.Chains.{Distances, from_of, far_of}
use Rattle.chains.specs.Spreads.{Marked, Spreading}

module _ (shape : Shape) (f : ℕ → ℕ → ℕ) (i : ℕ) where
  -- at first the seat i alone is seen
  pub starting : (spread : Spread) → spread.seen < 2 ^ 64 → i < shape.seats → ((j : ℕ) → Exactly (In j spread.seen) (j ≡ i)) → far_of spread i ≡ 0
      → Spreading shape f i spread spread.seen 0 0
  starting spread small seat alone zero = record {
    small = small;
    starts = ((alone i).1 refl, zero);
    inside = λ v h. let e = (alone v).0 h in omega arith;
    came = λ v h ne. absurd (ne ((alone v).0 h));
    short = λ v h. let o = ones_one 64 spread.seen v small h in let z = at v h in omega arith;
    to_go = λ v h. (h, at v h);
    found = λ v h. absurd (in_none v h);
    layered = λ v h. inl (let z = at v h in omega arith);
    followed = λ u v h left. absurd (left h);
  }
    where
      at : (v : ℕ) → In v spread.seen → far_of spread v ≡ 0
      at v h = ap (λ (k : ℕ). far_of spread k) ((alone v).0 h) ∙ zero

  -- where all of one distance are done, those found are the next
  pub next_layer : (spread : Spread) (next depth : ℕ) → Spreading shape f i spread 0 next depth → Spreading shape f i spread next 0 (depth + 1)
  next_layer spread next depth s = record {
    small = s.small;
    starts = s.starts;
    inside = s.inside;
    came = s.came;
    short = s.short;
    to_go = s.found;
    found = λ v h. absurd (in_none v h);
    layered = λ v h. inl (⊎_elim (λ low. omega arith) (λ n. let e = (s.found v n).1 in omega arith) (s.layered v h));
    followed = λ u v h left none. s.followed u v h (in_none u) left;
  }

  -- a seat still to be gone from is fewer links away than there are seats
  pub depth_small : (spread : Spread) (left next depth : ℕ) → Spreading shape f i spread left next depth → (v : ℕ) → In v left → depth < shape.seats
  depth_small spread left next depth s v h =
      let g = s.to_go v h in
      let o = s.short v g.0 in
      let b = ones_below 64 shape.seats spread.seen s.small s.inside in
      let e = g.1 in
      omega arith

  -- where nothing is left to go from, the distances are known
  pub all_followed : (spread : Spread) (depth : ℕ) → Spreading shape f i spread 0 0 depth → Distances shape f i spread
  all_followed spread depth s = record {
    starts = s.starts;
    inside = s.inside;
    came = s.came;
    near = λ u v h. s.followed u v h (in_none u) (in_none u);
    short = λ v h. let o = s.short v h in let b = ones_below 64 shape.seats spread.seen s.small s.inside in omega arith;
  }

  -- ---- one turn: from a seat u of `left` every link is followed
  module _ (spread spread' : Spread) (left left' next next' depth u links new : ℕ)
      (s : Spreading shape f i spread left next depth)
      (taken : Taken left left' u) (linked : (v : ℕ) → Exactly (In v links) (Link shape f u v)) (fresh : Removed links spread.seen new)
      (marked : Marked new u (depth + 1) spread spread') (joined : Joined next new next') where
    at_u : In u spread.seen × (far_of spread u ≡ depth)
    at_u = s.to_go u taken.lowest.member

    -- a seat that was seen is not new, so what is known of it stays
    old : (v : ℕ) → In v spread.seen → In v new → ⊥
    old v h n = ((fresh v).0 n).1 h

    stays : (v : ℕ) → In v spread.seen → In v spread'.seen
    stays v h = (marked.members v).1 (inl h)

    far_stays : (v : ℕ) → In v spread.seen → far_of spread' v ≡ far_of spread v
    far_stays v h = marked.far_old v (old v h)

    link_new : (v : ℕ) → In v new → Link shape f u v
    link_new v n = (linked v).0 ((fresh v).0 n).0

    enters : (v : ℕ) → In v new → In v spread'.seen
    enters v n = (marked.members v).1 (inr n)

    -- what holds of the seats seen before and of the new ones holds of all seen now
    either : (P : ℕ → Type 0) → ((v : ℕ) → In v spread.seen → P v) → ((v : ℕ) → In v new → P v) → (v : ℕ) → In v spread'.seen → P v
    either P before after v h = ⊎_elim (before v) (after v) ((marked.members v).0 h)

    came_now : (v : ℕ) → In v spread'.seen → (v ≡ i → ⊥) → In (from_of spread' v) spread'.seen × Link shape f (from_of spread' v) v × (far_of spread' v ≡ far_of spread' (from_of spread' v) + 1)
    came_now = either (λ v. (v ≡ i → ⊥) → In (from_of spread' v) spread'.seen × Link shape f (from_of spread' v) v × (far_of spread' v ≡ far_of spread' (from_of spread' v) + 1))
        (λ v h ne.
        let c = s.came v h ne in
        let w = from_of spread v in
        subst (λ (p : ℕ). In p spread'.seen × Link shape f p v × (far_of spread' v ≡ far_of spread' p + 1)) (sym (marked.from_old v (old v h)))
        (stays w c.0, c.1, far_stays v h ∙ c.2 ∙ ap (λ (k : ℕ). k + 1) (sym (far_stays w c.0))))
        (λ v n ne.
        subst (λ (p : ℕ). In p spread'.seen × Link shape f p v × (far_of spread' v ≡ far_of spread' p + 1)) (sym (marked.from_new v n))
        (stays u at_u.0, link_new v n, marked.far_new v n ∙ ap (λ (k : ℕ). k + 1) (sym (far_stays u at_u.0 ∙ at_u.1))))

    short_now : (v : ℕ) → In v spread'.seen → far_of spread' v + 1 ≤ ones spread'.seen
    short_now = either (λ v. far_of spread' v + 1 ≤ ones spread'.seen)
        (λ v h. let e = far_stays v h in let o = s.short v h in let w = ones_within 64 spread.seen spread'.seen s.small marked.small stays in omega arith)
        (λ v n. let e = marked.far_new v n in let o = s.short u at_u.0 in let d = at_u.1 in
        let w = ones_inserted 64 spread.seen spread'.seen v s.small marked.small (λ h. old v h n) (enters v n) stays in omega arith)

    -- a link from a seat seen before leads to a seat seen now, at most one link further
    followed_now : (w v : ℕ) → In w spread'.seen → (In w left' → ⊥) → (In w next' → ⊥) → Link shape f w v → In v spread'.seen × (far_of spread' v ≤ far_of spread' w + 1)
    followed_now w v h no-left no-next link = ⊎_elim was (λ n. absurd (no-next ((joined w).1 (inr n)))) ((marked.members w).0 h)
      where
        from_u : Link shape f u v → In v spread'.seen × (far_of spread' v ≤ depth + 1)
        from_u l =
            ⊎_elim
            (λ seen-v. (stays v seen-v, let e = far_stays v seen-v in ⊎_elim (λ low. omega arith) (λ n. let d = (s.found v n).1 in omega arith) (s.layered v seen-v)))
            (λ unseen. let n = (fresh v).1 ((linked v).1 l, unseen) in (enters v n, let e = marked.far_new v n in omega arith)) (in_or_not v spread.seen)

        was : In w spread.seen → In v spread'.seen × (far_of spread' v ≤ far_of spread' w + 1)
        was hw =
            ⊎_elim
            (λ (e : w ≡ u). let r = from_u (subst (λ (k : ℕ). Link shape f k v) e link) in
            (r.0, let le = r.1 in let a = far_stays w hw in let b = ap (λ (k : ℕ). far_of spread k) e in let d = at_u.1 in omega arith))
            (λ ne. let r = s.followed w v hw (λ l. no-left ((taken.others w).1 (l, ne))) (λ n. no-next ((joined w).1 (inl n))) link in
            (stays v r.0, let le = r.1 in let a = far_stays w hw in let b = far_stays v r.0 in omega arith)) (cases_eq w u)

    pub one_turn : Spreading shape f i spread' left' next' depth
    one_turn = record {
      small = marked.small;
      starts = (stays i s.starts.0, far_stays i s.starts.0 ∙ s.starts.1);
      inside = either (λ v. v < shape.seats) s.inside (λ v n. (link_new v n).receiver);
      came = came_now;
      short = short_now;
      to_go = λ v l. let g = s.to_go v ((taken.others v).0 l).0 in (stays v g.0, far_stays v g.0 ∙ g.1);
      found = λ v n. ⊎_elim (λ o. let g = s.found v o in (stays v g.0, far_stays v g.0 ∙ g.1)) (λ m. (enters v m, marked.far_new v m)) ((joined v).0 n);
      layered = either (λ v. (far_of spread' v ≤ depth) ⊎ In v next')
          (λ v h. ⊎_elim (λ low. inl (let e = far_stays v h in omega arith)) (λ n. inr ((joined v).1 (inl n))) (s.layered v h))
          (λ v n. inr ((joined v).1 (inr n)));
      followed = followed_now;
    }
