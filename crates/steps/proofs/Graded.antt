-- Donors and receivers by their grades, and which donors need not be asked.
use Rattle.std.proofs.Common.{◌≡◌, ℕ, ◌+◌, ◌^◌, ◌<◌, Bool, true, false, ltb, T, ◌⊎◌, List, get_or, Some, None, Option, sym, refl, subst, inl, inr, ⊎_elim, arith, MatchOption}
use lib.Count.{ones}
use Rattle.std.proofs.lemmas.Bool.{cases_eq, lt-ltb, ltb-true}
use Rattle.bases.specs.Exchange.{Reaches}
use Rattle.bases.specs.Family.{Family}
use Rattle.bases.proofs.Toward.{reach_joins}
use Rattle.grades.specs.Grades.{UnitOf, Grades}
use Rattle.optima.specs.Steps.{Step}
use Rattle.optima.proofs.Graded.{last_unit, next_unit}
use Rattle.seats.specs.Sets.{In, Exactly, Inserted, Removed}
use Rattle.seats.proofs.Members.{in_or_not}
use Rattle.seats.proofs.Counts.{ones_inserted}
use Rattle.steps.specs.Chosen.{Foremost, better_donor, better_receiver, Chosen}
use Rattle.steps.specs.Choices.{Among, Orders}

-- whether a seat has a unit to give
abbrev pub gives : List ℕ → ℕ → Bool
gives x k = ltb 0 (get_or x k 0)

-- whether the last unit of i is graded above the next of j
abbrev pub betters : (ℕ → ℕ → ℕ → ℕ → Bool) → List ℕ → ℕ → ℕ → Bool
betters above x i j = above i (get_or x i 0) j (get_or x j 0 + 1)

-- a truth value that holds is true
is_true : (b : Bool) → T b → b ≡ true
is_true true t = refl
is_true false t = absurd t

-- a seat of the reach whose next unit is graded lower is the receiver of a step
step_to : (B : List ℕ → Type 0) (above : ℕ → ℕ → ℕ → ℕ → Bool) (x : List ℕ) (i reach : ℕ) → ((j : ℕ) → Exactly (In j reach) (Reaches B x i j)) → (j : ℕ) → Among reach (betters above x i) j → Step B above x i j
step_to B above x i reach exact j among = record { reach = (exact j).0 among.0; graded = subst T (sym among.1) tt }

-- the foremost of those that pass the test of giving is the foremost of those with a unit
pub donors : (above : ℕ → ℕ → ℕ → ℕ → Bool) (x : List ℕ) (set : ℕ) (best : Option ℕ)
    → MatchOption best ((i : ℕ) → In i set → gives x i ≡ true → ⊥) (λ i. Foremost (better_donor above x) (Among set (gives x)) i)
    → MatchOption best ((i : ℕ) → In i set → 0 < get_or x i 0 → ⊥) (λ i. Foremost (better_donor above x) (λ k. In k set × (0 < get_or x k 0)) i)
donors above x set None none = λ i h has. none i h (lt-ltb 0 (get_or x i 0) has)
donors above x set (Some a) first = record {
  has = (first.has.0, ltb-true 0 (get_or x a 0) first.has.1);
  none_before = λ b p. first.none_before b (p.0, lt-ltb 0 (get_or x b 0) p.1);
}

-- the foremost of the reach whose next unit is graded lower is the foremost of all receivers, for every receiver of a step is in reach
pub receivers : (B : List ℕ → Type 0) (above : ℕ → ℕ → ℕ → ℕ → Bool) (x : List ℕ) (i reach : ℕ) → ((j : ℕ) → Exactly (In j reach) (Reaches B x i j)) → (best : Option ℕ)
    → MatchOption best ((j : ℕ) → In j reach → betters above x i j ≡ true → ⊥) (λ j. Foremost (better_receiver above x) (Among reach (betters above x i)) j)
    → MatchOption best ((j : ℕ) → Step B above x i j → ⊥) (λ j. Foremost (better_receiver above x) (λ l. Step B above x i l) j)
receivers B above x i reach exact None none = λ j step. none j ((exact j).1 step.reach) (is_true _ step.graded)
receivers B above x i reach exact (Some j) first = record {
  has = step_to B above x i reach exact j first.has;
  none_before = λ l step. first.none_before l ((exact l).1 step.reach, is_true _ step.graded);
}

module _ {B : List ℕ → Type 0} {n top : ℕ} (family : Family B n top)
    (above : ℕ → ℕ → ℕ → ℕ → Bool) (grades : Grades above) (x : List ℕ) (hx : B x) where
  -- the last unit of a seat that has one
  last : (i : ℕ) → 0 < get_or x i 0 → UnitOf i (get_or x i 0)
  last = last_unit B n family.width family.few top family.low family.high x hx

  -- the next unit of a seat that can take one
  next : (i j : ℕ) → Reaches B x i j → UnitOf j (get_or x j 0 + 1)
  next = next_unit B n family.width family.few top family.low family.high x hx

  -- the order of donors
  pub donors_one_way : (a b : ℕ) → 0 < get_or x a 0 → 0 < get_or x b 0 → T (better_donor above x a b) → T (better_donor above x b a) → ⊥
  donors_one_way a b ha hb = grades.one_way a (get_or x a 0) b (get_or x b 0) (last a ha) (last b hb)

  pub donors_between : (a b c : ℕ) → 0 < get_or x a 0 → 0 < get_or x b 0 → 0 < get_or x c 0 → T (better_donor above x a b) → T (better_donor above x a c) ⊎ T (better_donor above x c b)
  donors_between a b c ha hb hc = grades.between a (get_or x a 0) b (get_or x b 0) c (get_or x c 0) (last a ha) (last b hb) (last c hc)

  pub donors_order : (set : ℕ) → Orders (better_donor above x) (Among set (gives x))
  donors_order set = record {
    one_way = λ a b pa pb. donors_one_way a b (ltb-true 0 (get_or x a 0) pa.1) (ltb-true 0 (get_or x b 0) pb.1);
    between = λ a b c pa pb pc. donors_between a b c (ltb-true 0 (get_or x a 0) pa.1) (ltb-true 0 (get_or x b 0) pb.1) (ltb-true 0 (get_or x c 0) pc.1);
  }

  module _ (i : ℕ) where
    -- the order of the receivers of i
    pub receivers_one_way : (a b : ℕ) → Step B above x i a → Step B above x i b → T (better_receiver above x a b) → T (better_receiver above x b a) → ⊥
    receivers_one_way a b sa sb = grades.one_way b (get_or x b 0 + 1) a (get_or x a 0 + 1) (next i b sb.reach) (next i a sa.reach)

    pub receivers_between : (a b c : ℕ) → Step B above x i a → Step B above x i b → Step B above x i c → T (better_receiver above x a b) → T (better_receiver above x a c) ⊎ T (better_receiver above x c b)
    receivers_between a b c sa sb sc h =
        ⊎_elim inr inl (grades.between b (get_or x b 0 + 1) a (get_or x a 0 + 1) c (get_or x c 0 + 1) (next i b sb.reach) (next i a sa.reach) (next i c sc.reach) h)

    pub receivers_order : (reach : ℕ) → ((j : ℕ) → Exactly (In j reach) (Reaches B x i j)) → Orders (better_receiver above x) (Among reach (betters above x i))
    receivers_order reach exact = record {
      one_way = λ a b pa pb. receivers_one_way a b (step_to B above x i reach exact a pa) (step_to B above x i reach exact b pb);
      between = λ a b c pa pb pc. receivers_between a b c (step_to B above x i reach exact a pa) (step_to B above x i reach exact b pb) (step_to B above x i reach exact c pc);
    }

    -- where i gives no step, no seat in its reach does that is not graded above it
    pub none_further : 0 < get_or x i 0 → ((j : ℕ) → Step B above x i j → ⊥) → (k : ℕ) → Reaches B x i k → (T (better_donor above x k i) → ⊥) → (j : ℕ) → Step B above x k j → ⊥
    none_further has none k ik not-above j s = ⊎_elim (λ (e : i ≡ j). back e) (λ ne. on ne) (cases_eq i j)
      where
        units : UnitOf k (get_or x k 0)
        units = last k s.reach.gives

        coming : UnitOf j (get_or x j 0 + 1)
        coming = next k j s.reach

        back : i ≡ j → ⊥
        back e =
            ⊎_elim not-above
            (λ up. grades.rises i (get_or x i 0) (get_or x i 0 + 1) (last i has) (subst (λ (m : ℕ). UnitOf m (get_or x m 0 + 1)) (sym e) coming) (omega arith)
            (subst (λ (m : ℕ). T (above i (get_or x i 0) m (get_or x m 0 + 1))) (sym e) up))
            (grades.between k (get_or x k 0) j (get_or x j 0 + 1) i (get_or x i 0) units coming (last i has) s.graded)

        on : (i ≡ j → ⊥) → ⊥
        on ne =
            ⊎_elim not-above
            (λ up. none j (record { reach = reach_joins B family.exchange n family.width x hx i k j ne ik s.reach; graded = up }))
            (grades.between k (get_or x k 0) j (get_or x j 0 + 1) i (get_or x i 0) units coming (last i has) s.graded)

  -- of the seats `left`, outside of which no seat gives a step, i is the foremost donor
  module _ (left i : ℕ) (out : (k j : ℕ) → (In k left → ⊥) → Step B above x k j → ⊥) (first : Foremost (better_donor above x) (λ k. In k left × (0 < get_or x k 0)) i) where
    -- with the foremost of its receivers, it makes the step to take
    pub chosen_step : (j : ℕ) → Foremost (better_receiver above x) (λ l. Step B above x i l) j → Chosen B above x i j
    chosen_step j to = record {
      donor = record {
        has = (j, to.has);
        none_before = λ k s. ⊎_elim (λ h. first.none_before k (h, s.1.reach.gives)) (λ no_more. absurd (out k s.0 no_more s.1)) (in_or_not k left);
      };
      receiver = to;
    }

    -- where it gives no step, nor does any seat of its reach, so all of them may be left out
    pub left_out : (left' reach dropped : ℕ) → i < 64 → ((j : ℕ) → Exactly (In j reach) (Reaches B x i j)) → Inserted reach i dropped → Removed left dropped left'
        → ((j : ℕ) → Step B above x i j → ⊥) → (k j : ℕ) → (In k left' → ⊥) → Step B above x k j → ⊥
    left_out left' reach dropped small exact inserted removed none k j gone s =
        ⊎_elim
        (λ h. ⊎_elim
        (λ d. ⊎_elim
        (λ r. none_further i first.has.1 none k ((exact k).0 r) (λ up. first.none_before k (h, s.reach.gives) (inl up)) j s)
        (λ (e : k ≡ i). none j (subst (λ (m : ℕ). Step B above x m j) e s)) ((inserted.members small k).0 d))
        (λ no_drop. gone ((removed k).1 (h, no_drop))) (in_or_not k dropped))
        (λ no_more. out k j no_more s) (in_or_not k left)

    -- and so fewer are left
    pub fewer_left : (left' reach dropped : ℕ) → i < 64 → left < 2 ^ 64 → left' < 2 ^ 64 → Inserted reach i dropped → Removed left dropped left' → ones left' < ones left
    fewer_left left' reach dropped small fits fits' inserted removed =
        let o = ones_inserted 64 left' left i fits' fits (λ h. ((removed i).0 h).1 ((inserted.members small i).1 (inr refl))) first.has.0 (λ k h. ((removed k).0 h).0) in
        omega arith
