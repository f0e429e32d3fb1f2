-- Filling a table row by row, from the highest load down.
use Rattle.std.proofs.Common.{◌≡◌, ℕ, ◌+◌, ◌<◌, ◌≤◌, None, Some, List, [], ◌∷◌, ◌++◌, length, get_or, drop, set, take, refl, sym, ap, ◌∙◌, subst, ⊎_elim, arith, length-append}
use Rattle.std.proofs.Math.ListN.{get_or-append}
use Rattle.std.proofs.Math.Seq.{get_or-append_seam}
use Rattle.std.proofs.lemmas.Bool.{cases_lt}
use Rattle.std.proofs.lemmas.List.{drop-drop, drop-set-lt, take_more_set}
use Rattle.certificates.specs.declared.row.CertRow.{CertRow}
use Rattle.certificates.specs.Loads.{Descends, NextLoad, different_loads}
use Rattle.certificates.specs.Tables.{row_at, HasValue, RowFor, Certifies, Filled}
use Rattle.certificates.proofs.Counting.{below_all, below_step, different_below}

abbrev pub zeros : CertRow
zeros = record { value = 0; set = 0 }

-- what holds of each old row, and of the new one in its place
each : (P : ℕ → CertRow → Type 0) (rows : List CertRow) (row : CertRow) → ((k : ℕ) → k < length rows → P k (row_at rows k)) → P (length rows) row
    → (k : ℕ) → k < length (rows ++ row ∷ []) → P k (row_at (rows ++ row ∷ []) k)
each P rows row olds new k h =
    ⊎_elim (λ lt. subst (P k) (sym (get_or-append rows (row ∷ []) zeros k lt)) (olds k lt))
    (λ (ge : length rows ≤ k).
    let e : length rows ≡ k = omega (arith, length-append rows (row ∷ [])) in
    subst (λ l. P l (row_at (rows ++ row ∷ []) l)) e (subst (P (length rows)) (sym (get_or-append_seam rows row [] zeros)) new)) (cases_lt k (length rows))

-- the rows are the certificate's for all loads from the bound up
pub record Made (B : List ℕ → Type 0) (x : List ℕ) (bound : ℕ) (rows : List CertRow) : Type 0 where
  pub falls : (k l : ℕ) → k < l → l < length rows → (row_at rows l).value < (row_at rows k).value
  pub above : (k : ℕ) → k < length rows → bound ≤ (row_at rows k).value
  pub covers : (i : ℕ) → bound ≤ get_or x i 0 → HasValue rows (get_or x i 0)
  pub loads : (k : ℕ) → k < length rows → (0 < (row_at rows k).value) × ((i : ℕ) × (get_or x i 0 ≡ (row_at rows k).value))
  pub sets : (k : ℕ) → k < length rows → RowFor B x (row_at rows k).value (row_at rows k).set

module _ (B : List ℕ → Type 0) (x : List ℕ) where
  -- above all loads no row is due
  pub made_start : (bound : ℕ) → ((i : ℕ) → get_or x i 0 < bound) → Made B x bound []
  made_start bound low = record {
    falls = λ k l a b. absurd (omega arith);
    above = λ k a. absurd (omega arith);
    covers = λ i a. absurd (let h = low i in omega arith);
    loads = λ k a. absurd (omega arith);
    sets = λ k a. absurd (omega arith);
  }

  -- the row for the next load comes last
  pub made_next : (bound : ℕ) (rows : List CertRow) (row : CertRow) → Made B x bound rows → 0 < row.value → NextLoad x bound row.value → RowFor B x row.value row.set
      → Made B x row.value (rows ++ row ∷ [])
  made_next bound rows row m pos next exact = record {
    falls = λ k l lt h.
        let old : k < length rows = omega (arith, length-append rows (row ∷ [])) in
        subst (λ (y : CertRow). (row_at (rows ++ row ∷ []) l).value < y.value) (sym (get_or-append rows (row ∷ []) zeros k old))
        (each (λ j y. k < j → y.value < (row_at rows k).value) rows row (λ j hj lt. m.falls k j lt hj) (λ _. let a = m.above k old in let low = next.lower pos in omega arith) l h lt);
    above = each (λ _ y. row.value ≤ y.value) rows row (λ k h. let a = m.above k h in let low = next.lower pos in omega arith) (omega arith);
    covers = λ i h.
        ⊎_elim
        (λ (lt : get_or x i 0 < bound).
        let most = next.most i lt in
        (length rows, omega (arith, length-append rows (row ∷ [])), ap (λ (y : CertRow). y.value) (get_or-append_seam rows row [] zeros) ∙ (let e : row.value ≡ get_or x i 0 = omega arith in e)))
        (λ le. let q = m.covers i le in
        let old = q.1 in
        (q.0, omega (arith, length-append rows (row ∷ [])), ap (λ (y : CertRow). y.value) (get_or-append rows (row ∷ []) zeros q.0 old) ∙ q.2)) (cases_lt (get_or x i 0) bound);
    loads = each (λ _ y. (0 < y.value) × ((i : ℕ) × (get_or x i 0 ≡ y.value))) rows row m.loads (pos, next.is pos);
    sets = each (λ _ y. RowFor B x y.value y.set) rows row m.sets exact;
  }

  -- where no load is left, the certificate is complete
  pub made_end : (bound : ℕ) (rows : List CertRow) → Made B x bound rows → NextLoad x bound 0 → Certifies B x rows
  made_end bound rows m next = record {
    falls = m.falls;
    covers = λ i seat pos. m.covers i (⊎_elim (λ (lt : get_or x i 0 < bound). absurd (let h = next.most i lt in omega arith)) (λ (le : bound ≤ get_or x i 0). le) (cases_lt (get_or x i 0) bound));
    loads = m.loads;
    sets = m.sets;
  }

  -- the first `count` rows of the table are made for all loads from the bound up, and those beyond are as before
  pub record Walk (before : List CertRow) (bound count : ℕ) (table : List CertRow) : Type 0 where
    pub positive : 0 < bound
    pub passed : count + different_below bound x ≡ different_loads x
    pub made : Made B x bound (take count table)
    pub beyond : drop count table ≡ drop count before

  pub walk_start : (before : List CertRow) (bound count : ℕ) → ((i : ℕ) → get_or x i 0 < bound) → count ≡ 0 → Walk before bound count before
  walk_start before bound count low none = record {
    positive = let h = low 0 in omega arith;
    passed = let all = below_all x bound low in omega arith;
    made = rw none (made_start bound low);
    beyond = refl;
  }

  -- there are more different loads than were passed where one is left
  pub walk_room : (before : List CertRow) (bound count value after : ℕ) (table : List CertRow) → Walk before bound count table → Descends x bound (Some value) after → count < different_loads x
  walk_room before bound count value after table w d = let step = below_step x bound (Some value) after w.positive d in let e = step.0 in let p = w.passed in omega arith

  -- the row for the next load goes into the table at the place `at`
  pub walk_next : (before : List CertRow) (bound count at next value after members : ℕ) (table : List CertRow) → Walk before bound count table → count < length table
      → at ≡ count → next ≡ count + 1 → Descends x bound (Some value) after → RowFor B x value members → Walk before after next (set table at (record { value = value; set = members }))
  walk_next before bound count at next value after members table w room here there d exact =
      let step = below_step x bound (Some value) after w.positive d in
      let e = step.0 in
      let p = w.passed in
      let row : CertRow = record { value = value; set = members } in
      rw (here, there) (record {
        positive = step.1;
        passed = omega arith;
        made = subst (Made B x after) (sym (take_more_set table count row room))
            (subst (λ b. Made B x b (take count table ++ row ∷ [])) (sym d.2) (made_next bound (take count table) row w.made d.0 d.1 exact));
        beyond = drop-set-lt (count + 1) table count row (omega arith) ∙ sym (drop-drop 1 count table) ∙ ap (λ (l : List CertRow). drop 1 l) w.beyond ∙ drop-drop 1 count before;
      })

  pub walk_end : (before : List CertRow) (bound count after : ℕ) (table : List CertRow) → Walk before bound count table → different_loads x ≤ length table → Descends x bound None after
      → Filled B x before table (different_loads x)
  walk_end before bound count after table w room d =
      let none = below_step x bound None after w.positive d in
      let p = w.passed in
      let all : count ≡ different_loads x = omega arith in
      subst (Filled B x before table) all (record { many = all; room = omega arith; made = made_end bound (take count table) w.made d.0; beyond = w.beyond })
