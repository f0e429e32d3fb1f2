-- The foremost of the seats of a set, by a walk in seat order.
use Rattle.std.proofs.Common.{◌≡◌, ℕ, ◌<◌, Bool, true, false, T, ◌⊎◌, Some, None, Option, sym, refl, subst, inl, inr, ⊎_elim, arith, MatchOption}
use Rattle.std.proofs.lemmas.Bool.{cases_eq, cases_lt}
use Rattle.seats.specs.Sets.{In, Within, Taken}
use Rattle.seats.proofs.Members.{in_none}
use Rattle.steps.specs.Chosen.{Before, Foremost, beats_best}
use Rattle.steps.specs.Choices.{Among}

-- the seats that have been walked: those of the set that are no longer left
abbrev pub Gone : ℕ → ℕ → ℕ → Type 0
Gone set left a = In a set × (In a left → ⊥)

-- of what has been walked, each seat is lower than each that is left, and the best so far is the foremost of those with P
pub record Walk (better : ℕ → ℕ → Bool) (P : ℕ → Type 0) (set left : ℕ) (best : Option ℕ) : Type 0 where
  pub inside : Within left set
  pub ordered : (a b : ℕ) → Gone set left a → In b left → a < b
  pub so_far : MatchOption best ((a : ℕ) → Gone set left a → P a → ⊥) (λ a. Foremost better (λ b. Gone set left b × P b) a)

module _ (better : ℕ → ℕ → Bool) (P : ℕ → Type 0) (set : ℕ) where
  -- at first nothing has been walked
  pub not_walked : Walk better P set set None
  not_walked = record { inside = λ a h. h; ordered = λ a b g h. absurd (g.1 g.0); so_far = λ a g p. g.1 g.0 }

  -- where none is left, all have been walked
  pub all_walked : (best : Option ℕ) → Walk better P set 0 best → MatchOption best ((a : ℕ) → In a set → P a → ⊥) (λ a. Foremost better (λ b. In b set × P b) a)
  all_walked None w = λ a h p. w.so_far a (h, in_none a) p
  all_walked (Some a) w = record {
    has = (w.so_far.has.0.0, w.so_far.has.1);
    none_before = λ b p. w.so_far.none_before b ((p.0, in_none b), p.1);
  }

  -- ---- one seat more
  module _ (left left' c : ℕ) (best : Option ℕ) (w : Walk better P set left best) (taken : Taken left left' c) where
    -- what has been walked now is what was walked before, and c
    gone_now : (a : ℕ) → Gone set left' a → Gone set left a ⊎ (a ≡ c)
    gone_now a g = ⊎_elim inr (λ ne. inl (g.0, λ l. g.1 ((taken.others a).1 (l, ne)))) (cases_eq a c)

    gone_still : (a : ℕ) → Gone set left a → Gone set left' a
    gone_still a g = (g.0, λ l. g.1 ((taken.others a).0 l).0)

    gone_c : Gone set left' c
    gone_c = (w.inside c taken.lowest.member, λ l. ((taken.others c).0 l).1 refl)

    inside_now : Within left' set
    inside_now a l = w.inside a ((taken.others a).0 l).0

    ordered_now : (a b : ℕ) → Gone set left' a → In b left' → a < b
    ordered_now a b g l =
        let m = (taken.others b).0 l in
        ⊎_elim (λ old. w.ordered a b old m.0) (λ (e : a ≡ c). above_c e m) (gone_now a g)
      where
        above_c : a ≡ c → In b left × (b ≡ c → ⊥) → a < b
        above_c e m = ⊎_elim (λ lt. lt) (λ le. absurd (⊎_elim (λ (q : b ≡ c). m.1 q) (λ ne. taken.lowest.least b (omega arith) m.0) (cases_eq b c))) (cases_lt a b)

    -- a seat without P changes nothing
    pub passed_over : (P c → ⊥) → Walk better P set left' best
    passed_over none = record { inside = inside_now; ordered = ordered_now; so_far = still best w.so_far }
      where
        still : (best : Option ℕ) → MatchOption best ((a : ℕ) → Gone set left a → P a → ⊥) (λ a. Foremost better (λ b. Gone set left b × P b) a)
            → MatchOption best ((a : ℕ) → Gone set left' a → P a → ⊥) (λ a. Foremost better (λ b. Gone set left' b × P b) a)
        still None so = λ a g p. ⊎_elim (λ old. so a old p) (λ e. none (subst P e p)) (gone_now a g)
        still (Some a) so = record {
          has = (gone_still a so.has.0, so.has.1);
          none_before = λ b g. ⊎_elim (λ old. so.none_before b (old, g.1)) (λ e. absurd (none (subst P e g.1))) (gone_now b g.0);
        }

  -- the order of the seats with P: of two at most one is better, and where a is better than b, each c is behind a or better than b
  module _ (one_way : (a b : ℕ) → P a → P b → T (better a b) → T (better b a) → ⊥)
      (between : (a b c : ℕ) → P a → P b → P c → T (better a b) → T (better a c) ⊎ T (better c b))
      (left left' c : ℕ) (taken : Taken left left' c) (here : P c) where
    -- no seat goes before itself
    itself : (b : ℕ) → b ≡ c → Before better b c → ⊥
    itself b e (inl up) = let u = subst (λ (k : ℕ). T (better k c)) e up in one_way c c here here u u
    itself b e (inr tie) = let lt = tie.1 in omega arith

    -- the first seat with P
    pub first_found : Walk better P set left None → Walk better P set left' (Some c)
    first_found w = record {
      inside = inside_now left left' c None w taken;
      ordered = ordered_now left left' c None w taken;
      so_far = record {
        has = (gone_c left left' c None w taken, here);
        none_before = λ b g. ⊎_elim (λ old. absurd (w.so_far b old g.1)) (λ e. itself b e) (gone_now left left' c None w taken b g.0);
      };
    }

    module _ (a : ℕ) (w : Walk better P set left (Some a)) where
      -- a better one takes its place
      pub better_found : T (better c a) → Walk better P set left' (Some c)
      better_found up = record {
        inside = inside_now left left' c (Some a) w taken;
        ordered = ordered_now left left' c (Some a) w taken;
        so_far = record {
          has = (gone_c left left' c (Some a) w taken, here);
          none_before = λ b g. ⊎_elim (λ old. behind b old g.1) (λ e. itself b e) (gone_now left left' c (Some a) w taken b g.0);
        };
      }
        where
          pa : P a
          pa = w.so_far.has.1

          behind : (b : ℕ) → Gone set left b → P b → Before better b c → ⊥
          behind b old pb (inl over) = ⊎_elim (λ ba. w.so_far.none_before b (old, pb) (inl ba)) (λ ac. one_way a c pa here ac up) (between b c a pb here pa over)
          behind b old pb (inr tie) = ⊎_elim (λ cb. tie.0 cb) (λ ba. w.so_far.none_before b (old, pb) (inl ba)) (between c a b here pa pb up)

      -- one that is not better does not
      pub kept : (T (better c a) → ⊥) → Walk better P set left' (Some a)
      kept no-better = record {
        inside = inside_now left left' c (Some a) w taken;
        ordered = ordered_now left left' c (Some a) w taken;
        so_far = record {
          has = (gone_still left left' c (Some a) w taken a w.so_far.has.0, w.so_far.has.1);
          none_before = λ b g. ⊎_elim (λ old. w.so_far.none_before b (old, g.1)) (λ e. behind b e) (gone_now left left' c (Some a) w taken b g.0);
        };
      }
        where
          behind : (b : ℕ) → b ≡ c → Before better b a → ⊥
          behind b e (inl up) = no-better (subst (λ (k : ℕ). T (better k a)) e up)
          behind b e (inr tie) = let lt = tie.1 in let before = w.ordered a c w.so_far.has.0 taken.lowest.member in omega arith

    -- one that is better than the best so far, if there is any, takes its place
    pub walk_taken : (best : Option ℕ) → beats_best (better c) best ≡ true → Walk better P set left best → Walk better P set left' (Some c)
    walk_taken None e w = first_found w
    walk_taken (Some a) e w = better_found a w (subst T (sym e) tt)

    -- and one that is not does not
    pub walk_kept : (best : Option ℕ) → beats_best (better c) best ≡ false → Walk better P set left best → Walk better P set left' best
    walk_kept None e w = absurd (let z : ◌≡◌ {A = ℕ} 0 1 = cc in omega arith)
    walk_kept (Some a) e w = kept a w (λ t. subst T e t)

-- where none is left, the best is the foremost of the seats of the set that pass the test
pub chosen_among : (before : ℕ → ℕ → Bool) (set : ℕ) (test : ℕ → Bool) (best : Option ℕ) → Walk before (Among set test) set 0 best
    → MatchOption best ((i : ℕ) → In i set → test i ≡ true → ⊥) (λ i. Foremost before (Among set test) i)
chosen_among before set test None w = λ i h t. all_walked before (Among set test) set None w i h (h, t)
chosen_among before set test (Some a) w =
    let f = all_walked before (Among set test) set (Some a) w in
    record { has = f.has.1; none_before = λ b p. f.none_before b (p.0, p) }
