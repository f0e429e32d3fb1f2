-- Gathering the set of a row, seat by seat.
use Rattle.std.proofs.Common.{◌≡◌, ℕ, zero, suc, ◌+◌, ◌<◌, ◌≤◌, leb, ◌⊎◌, Option, List, [], ◌∷◌, ◌++◌, filter, length, get_or, refl, sym, subst, inl, inr, ⊎_elim, arith}
use Rattle.std.proofs.lemmas.Bool.{cases_eq, cases_lt, cond_both, leb-true, leb-false}
use Rattle.std.proofs.lemmas.Fn.{fold_over}
use Rattle.std.proofs.lemmas.Iterator.{YieldsList}
use Rattle.std.specs.Fn.{Called}
use Rattle.std.specs.Iterator.{Drains}
use Rattle.std.specs.List.{range_with_len, FoldsTo}
use denote.Param.Members.{Mut}
use Rattle.seats.specs.Sets.{In, Exactly, Inserted, Joined}
use Rattle.seats.proofs.Members.{in_none}
use Rattle.bases.specs.Exchange.{Reaches}
use Rattle.bases.proofs.Moves.{seat_of}
use Rattle.certificates.specs.Tables.{RowFor}

module _ (B : List ℕ → Type 0) (x : List ℕ) (v : ℕ) where
  -- seat i brings itself, and the seats in its reach
  abbrev pub Brings : ℕ → ℕ → Type 0
  Brings i j = ((j ≡ i) × (j < 64)) ⊎ Reaches B x i j

  -- r is the set with what seat i brings
  abbrev pub Step : ℕ → ℕ → ℕ → Type 0
  Step set i r = (w : ℕ) × (reach : ℕ) × Joined w reach r × Inserted set i w × ((j : ℕ) → Exactly (In j reach) (Reaches B x i j))

  inserted : (set i w : ℕ) → Inserted set i w → (j : ℕ) → Exactly (In j w) (In j set ⊎ ((j ≡ i) × (j < 64)))
  inserted set i w ins j =
      ⊎_elim
      (λ (lt : i < 64). (
        λ m. ⊎_elim inl (λ (e : j ≡ i). inr (e, omega arith)) ((ins.members lt j).0 m),
        λ p. (ins.members lt j).1 (⊎_elim inl (λ q. inr q.0) p),
      ))
      (λ (ge : 64 ≤ i). (
        λ m. inl (subst (In j) (ins.beyond ge) m),
        λ p. ⊎_elim (λ m. subst (In j) (sym (ins.beyond ge)) m) (λ q. absurd (let e = q.0 in let lt = q.1 in omega arith)) p,
      )) (cases_lt i 64)

  brought : (set i r : ℕ) → Step set i r → (j : ℕ) → Exactly (In j r) (In j set ⊎ Brings i j)
  brought set i r st j = (
    λ m. ⊎_elim (λ a. ⊎_elim inl (λ p. inr (inl p)) ((inserted set i st.0 st.3 j).0 a)) (λ b. inr (inr ((st.4 j).0 b))) ((st.2 j).0 m),
    λ p. (st.2 j).1 (⊎_elim (λ m. inl ((inserted set i st.0 st.3 j).1 (inl m))) (λ q. ⊎_elim (λ e. inl ((inserted set i st.0 st.3 j).1 (inr e))) (λ r. inr ((st.4 j).1 r)) q) p),
  )

  -- one of the seats brings j
  abbrev Some_brings : List ℕ → ℕ → Type 0
  Some_brings [] j = ⊥
  Some_brings (i ∷ seats) j = Brings i j ⊎ Some_brings seats j

  with_last : (seats : List ℕ) (i j : ℕ) → Exactly (Some_brings (seats ++ i ∷ []) j) (Some_brings seats j ⊎ Brings i j)
  with_last [] i j = (λ s. ⊎_elim inr (λ no. absurd no) s, λ s. ⊎_elim (λ no. absurd no) inl s)
  with_last (k ∷ seats) i j =
      let rest = with_last seats i j in (
        λ s. ⊎_elim (λ b. inl (inl b)) (λ t. ⊎_elim (λ u. inl (inr u)) inr (rest.0 t)) s,
        λ s. ⊎_elim (λ t. ⊎_elim inl (λ u. inr (rest.1 (inl u))) t) (λ b. inr (rest.1 (inr b))) s,
      )

  -- the set holds what the seats bring
  abbrev Holds : List ℕ → ℕ → Type 0
  Holds seats set = (j : ℕ) → Exactly (In j set) (Some_brings seats j)

  holds_more : (seats : List ℕ) (set i r : ℕ) → Holds seats set → Step set i r → Holds (seats ++ i ∷ []) r
  holds_more seats set i r h st j =
      let here = brought set i r st j in
      let last = with_last seats i j in
      (λ m. last.1 (⊎_elim (λ a. inl ((h j).0 a)) inr (here.0 m)), λ s. here.1 (⊎_elim (λ t. inl ((h j).1 t)) inr (last.0 s)))

  -- the seats from a on, m in number, that have load v or more
  abbrev pub high : ℕ → ℕ → List ℕ
  high a m = filter (λ i. leb v (get_or x i 0)) (range_with_len a m)

  abbrev High_brings : ℕ → ℕ → ℕ → Type 0
  High_brings a m j = (i : ℕ) × (a ≤ i) × (i < a + m) × (v ≤ get_or x i 0) × Brings i j

  high_brings : (m a j : ℕ) → Exactly (Some_brings (high a m) j) (High_brings a m j)
  high_brings zero a j = (λ no. absurd no, λ h. absurd (let l = h.1 in let u = h.2 in omega arith))
  high_brings (suc m) a j =
      let rest = high_brings m (a + 1) j in
      let up : High_brings (a + 1) m j → High_brings a (suc m) j = λ h. (h.0, (let l = h.1 in omega arith), (let u = h.2 in omega arith), h.3, h.4) in
      let down : (h : High_brings a (suc m) j) → (h.0 ≡ a) ⊎ High_brings (a + 1) m j = λ h. ⊎_elim inl (λ ne. inr (h.0, (let l = h.1 in omega arith), (let u = h.2 in omega arith), h.3, h.4)) (cases_eq h.0 a) in
      cond_both (leb v (get_or x a 0)) (a ∷ high (a + 1) m) (high (a + 1) m) (λ seats. Exactly (Some_brings seats j) (High_brings a (suc m) j))
      (λ e. (
        λ s. ⊎_elim (λ b. (a, omega arith, omega arith, leb-true v (get_or x a 0) e, b)) (λ t. up (rest.0 t)) s,
        λ h. ⊎_elim (λ same. inl (subst (λ i. Brings i j) same h.4)) (λ t. inr (rest.1 t)) (down h),
      ))
      (λ e. (
        λ s. up (rest.0 s),
        λ h. ⊎_elim (λ same. absurd (let low = leb-false v (get_or x a 0) e in let at_least = subst (λ i. v ≤ get_or x i 0) same h.3 in omega arith)) (λ t. rest.1 t) (down h),
      ))

  -- the seats with load v or more, and what they bring
  all_brought : (n set : ℕ) → n ≡ length x → n ≤ 64 → Holds (high 0 n) set → RowFor B x v set
  all_brought n set wide few h j = (λ m. into ((high_brings n 0 j).0 ((h j).0 m)), λ p. (h j).1 ((high_brings n 0 j).1 (back p)))
    where
      into : High_brings 0 n j → ((j < length x) × (v ≤ get_or x j 0)) ⊎ ((i : ℕ) × (v ≤ get_or x i 0) × Reaches B x i j)
      into q = ⊎_elim (λ e. inl (let u = q.2 in let is = e.0 in (omega arith, subst (λ k. v ≤ get_or x k 0) (sym is) q.3))) (λ r. inr (q.0, q.3, r)) q.4

      back : ((j < length x) × (v ≤ get_or x j 0)) ⊎ ((i : ℕ) × (v ≤ get_or x i 0) × Reaches B x i j) → High_brings 0 n j
      back p =
          ⊎_elim (λ s. let lt = s.0 in (j, omega arith, omega arith, s.1, inl (refl, omega arith)))
          (λ r. let lt = seat_of x r.0 r.2.gives in (r.0, omega arith, omega arith, r.1, inr r.2)) p

  pub gathered : {S F : Type 0} {steps : S → Option ℕ → S → Type 0} {g : Mut F (ℕ × (ℕ × Unit {0})) ℕ} {s : S} {f : F} (n r : ℕ)
      → ((set i w : ℕ) (q : F) → Called g f (set, (i, tt)) w q → (q ≡ f) × Step set i w) → n ≡ length x → n ≤ 64 → YieldsList steps (λ i. i) s (high 0 n)
      → (xs : List ℕ) × (q : F) × Drains steps s xs × FoldsTo {P = F × ℕ} (λ a i b. Called g a.0 (a.1, (i, tt)) b.1 b.0) (f, 0) xs (q, r) → RowFor B x v r
  gathered {steps} {g} {s} {f} n r told wide few road ran =
      all_brought n r wide few
      (fold_over steps (λ i. i) g Holds f (λ seats set i w q h k. let t = told set i w q k in (holds_more seats set i w h t.1, t.0)) s (high 0 n) 0 r road.runs
      (λ j. (λ m. absurd (in_none j m), λ no. absurd no)) ran)
