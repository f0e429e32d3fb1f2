-- The single steps of a page, each with the text that it reads. Assumes nothing.
use Rattle.std.proofs.Common.{◌≡◌, ℕ, ◌^◌, ◌<◌, ◌≤◌, Bool, true, false, cond, ◌&&◌, eqb, ltb, leb, List, [], ◌∷◌, ◌++◌, length, get_or, take, drop, Some, None, Option, unwrap_or, sym, refl, ap, ◌∙◌, subst, inl, inr, arith}
use Rattle.std.specs.Option.{option_map, option_and_then, ok_or}
use Rattle.std.specs.Str.{bytes_eq}
use Rattle.std.proofs.lemmas.Slice.Eq.{bytes_eq-Decides}
use Rattle.std.proofs.lemmas.List.{take-append-drop, length-take-le, length-append, take_at, drop_at}
use Rattle.std.proofs.lemmas.Option.{cond_some}
use Rattle.std.proofs.lemmas.Bool.{cases_Bool, leb-true, le-leb, eqb-true}
use Rattle.std.proofs.lemmas.Bool.Decides.{nat_tests}
use Rattle.limits.specs.Limits.{column_bytes}
use Rattle.faults.specs.declared.Fault.{Fault}
use Rattle.faults.specs.declared.Reason.{Reason}
use Rattle.faults.specs.declared.Reason.TheVariants.{Layout, ListNotRising}
use Rattle.faults.specs.Places.{fault_on_page}
use Rattle.columns.specs.declared.words.Word.{Word}
use Rattle.columns.specs.declared.words.Word.TheVariants.{Turns, Legs, Nests, Carry, Cap, Most, Least, Share, End}
use Rattle.columns.specs.Numbers.{number_of, number_text}
use Rattle.columns.specs.Rows.{number_column, word_column}
use Rattle.columns.proofs.Numbered.{number_read, number_written, length_text}
use Rattle.cursors.specs.Steps.{Spot, got, refused, go_on, block, past, below, here, tested, field, seat, at_word, word, line_end, closed}
use Rattle.cursors.proofs.Read.{Reads, Anything, never, go_on_got, got_parts}

-- a column is what it has, and then what lies behind it
block_some : (w : ℕ) (p : Spot) (bs : List ℕ) → block w p ≡ Some bs → (p.rest ≡ bs ++ (past w p).rest) × (length bs ≡ w)
unfolding block past
block_some w p bs e =
    let g = cond_some (leb w (length p.rest)) (take w p.rest) bs e in
    (rw (← g.1) (sym (take-append-drop w p.rest)), rw (← g.1) (length-take-le w p.rest (leb-true w _ g.0)))

-- bytes of the width of a column are that column
block_text : (w : ℕ) (p : Spot) (bs rest : List ℕ) → length bs ≡ w → p.rest ≡ bs ++ rest → (block w p ≡ Some bs) × ((past w p).rest ≡ rest)
unfolding block past
block_text w p bs rest wide e =
    let room : leb w (length p.rest) ≡ true = le-leb w _ (omega (arith, ap length e ∙ length-append bs rest)) in
    (rw room (ap Some (ap (take w) e ∙ take_at bs rest w wide)), ap (drop w) e ∙ drop_at bs rest w wide)

-- a number's column has six bytes
pub length_number : (v : ℕ) → length (number_column v) ≡ 6
unfolding number_column
length_number v = length_text 6 v

-- and so has a word's
pub length_word : (w : Word) → length (word_column w) ≡ 6
unfolding word_column
length_word Turns = refl
length_word Legs = refl
length_word Nests = refl
length_word Carry = refl
length_word Cap = refl
length_word Most = refl
length_word Least = refl
length_word Share = refl
length_word End = refl

module _ (good : ℕ → Bool) (otherwise : Reason) where
  value_back : (p q : Spot) (v : ℕ) (bs : List ℕ) → block column_bytes p ≡ Some bs → (o : Option ℕ) → number_of bs ≡ o → tested good otherwise p (ok_or o (here Layout p)) ≡ got v q → (p.rest ≡ number_text 6 v ++ q.rest) × ((good v ≡ true) × (v < 10 ^ 6))
  value_back p q v bs b None n e = absurd (never _ e)
  value_back p q v bs b (Some w) n e = elim (cases_Bool (good w)) [
    | inl t ↦
        let g = got_parts w v (past column_bytes p) q (rw t at e) in
        let six = block_some column_bytes p bs b in
        let held = number_read bs w n in
        let text : bs ≡ number_text 6 w = held.1 ∙ ap (λ l. number_text l w) six.1 in
        let small : w < 10 ^ 6 = subst (λ l. w < 10 ^ l) six.1 held.0.2 in
        subst (λ x. (p.rest ≡ number_text 6 x ++ q.rest) × ((good x ≡ true) × (x < 10 ^ 6))) g.0 (six.0 ∙ ap (λ l. l ++ (past column_bytes p).rest) text ∙ ap (λ r. number_text 6 w ++ r.rest) g.1, (t, small))
    | inr f ↦ absurd (never _ (rw f at e))
  ]

  column_back : (p q : Spot) (v : ℕ) (o : Option (List ℕ)) → block column_bytes p ≡ o → tested good otherwise p (ok_or (option_and_then number_of o) (here Layout p)) ≡ got v q → (p.rest ≡ number_text 6 v ++ q.rest) × ((good v ≡ true) × (v < 10 ^ 6))
  column_back p q v None b e = absurd (never _ e)
  column_back p q v (Some bs) b e = value_back p q v bs b (number_of bs) refl e

  -- a number that passes a test
  pub reads_field : Reads (field good otherwise) number_column (λ v. (good v ≡ true) × (v < 10 ^ 6)) Anything
  unfolding number_column
  reads_field = record {
    back = λ p q v e. column_back p q v (block column_bytes p) refl e;
    forth = λ p v rest ok _ e.
        let b = block_text column_bytes p (number_text 6 v) rest (length_text 6 v) e in (
          past column_bytes p,
          ap (λ o. tested good otherwise p (ok_or (option_and_then number_of o) (here Layout p))) b.0
              ∙ ap (λ o. tested good otherwise p (ok_or o (here Layout p))) (number_written 6 v (omega arith, omega arith, ok.1))
              ∙ ap (λ t. cond t (got v (past column_bytes p)) (refused (here otherwise p))) ok.0,
          b.1,
        );
  }

-- what a test of a word answers where a word stands
pub at_word_there : (w v : Word) (p : Spot) (rest : List ℕ) → p.rest ≡ word_column w ++ rest → at_word v p ≡ bytes_eq (word_column w) (word_column v)
at_word_there w v p rest e = ap (λ o. unwrap_or (option_map (λ bs. bytes_eq bs (word_column v)) o) false) (block_text column_bytes p (word_column w) rest (length_word w) e).0

-- it is met where that word stands
pub at_word_same : (w : Word) (p : Spot) (rest : List ℕ) → p.rest ≡ word_column w ++ rest → at_word w p ≡ true
at_word_same w p rest e = at_word_there w w p rest e ∙ (bytes_eq-Decides (word_column w) (word_column w)).1 refl

module _ (w : Word) where
  word_back : (p q : Spot) (u : Unit {0}) (o : Option (List ℕ)) → block column_bytes p ≡ o → cond (unwrap_or (option_map (λ bs. bytes_eq bs (word_column w)) o) false) (got tt (past column_bytes p)) (refused (here Layout p)) ≡ got u q → p.rest ≡ word_column w ++ q.rest
  word_back p q u None b e = absurd (never _ e)
  word_back p q u (Some bs) b e = elim (cases_Bool (bytes_eq bs (word_column w))) [
    | inl t ↦
        let g = got_parts tt u (past column_bytes p) q (rw t at e) in
        (block_some column_bytes p bs b).0 ∙ ap (λ l. l ++ (past column_bytes p).rest) ((bytes_eq-Decides bs (word_column w)).0 t) ∙ ap (λ r. word_column w ++ r.rest) g.1
    | inr f ↦ absurd (never _ (rw f at e))
  ]

  -- a word that has to stand there
  pub reads_word : Reads (word w) (λ _. word_column w) (λ _. Unit {0}) Anything
  reads_word = record {
    back = λ p q u e. (word_back p q u (block column_bytes p) refl e, tt);
    forth = λ p u rest ok _ e.
        let b = block_text column_bytes p (word_column w) rest (length_word w) e in
        (past column_bytes p, ap (λ t. cond t (got tt (past column_bytes p)) (refused (here Layout p))) (at_word_same w p rest e), b.1);
  }

below_rest : (p : Spot) → (below p).rest ≡ drop 1 p.rest
unfolding below
below_rest p = refl

first_byte : (xs : List ℕ) → get_or xs 0 0 ≡ 10 → xs ≡ 10 ∷ drop 1 xs
first_byte [] e = absurd (omega arith)
first_byte (x ∷ xs) e = ap (λ c. c ∷ xs) e

-- the end of a line
pub reads_line_end : Reads line_end (λ _. 10 ∷ []) (λ _. Unit {0}) Anything
reads_line_end = record {
  back = λ p q u e. (
    elim (cases_Bool (eqb (get_or p.rest 0 0) 10)) [
      | inl t ↦
          let g = got_parts tt u (below p) q (rw t at e) in
          first_byte p.rest (eqb-true _ 10 t) ∙ ap (λ l. 10 ∷ l) (sym (below_rest p) ∙ ap (λ r. r.rest) g.1)
      | inr f ↦ absurd (never _ (rw f at e))
    ],
    tt,
  );
  forth = λ p u rest ok _ e.
      (below p, ap (λ l. cond (eqb (get_or l 0 0) 10) (got tt (below p)) (refused (here Layout p))) e, below_rest p ∙ ap (drop 1) e);
}

closed_back : (sound : Bool) (r q : Spot) (u : Unit {0}) (f : Fault) → cond sound (got tt r) (refused f) ≡ got u q → (sound ≡ true) × (r.rest ≡ q.rest)
closed_back true r q u f e = (refl, ap (λ p. p.rest) (got_parts tt u r q e).1)
closed_back false r q u f e = absurd (never f e)

-- the end of a line whose columns fit together
pub reads_closed : (sound : Bool) (otherwise : Reason) → Reads (closed sound otherwise) (λ _. 10 ∷ []) (λ _. sound ≡ true) Anything
reads_closed sound otherwise = record {
  back = λ p q u e.
      let g = go_on_got (line_end p) (λ _ r. cond sound (got tt r) (refused (fault_on_page otherwise p.line 0))) u q e in
      let one = reads_line_end.back p g.1 tt g.2 in
      let two = closed_back sound g.1 q u _ g.3 in
      (one.0 ∙ ap (λ l. 10 ∷ l) two.1, two.0);
  forth = λ p u rest ok _ e.
      let one = reads_line_end.forth p tt rest tt tt e in
      (one.0, ap (λ o. go_on o (λ _ r. cond sound (got tt r) (refused (fault_on_page otherwise p.line 0)))) one.1 ∙ ap (λ t. cond t (got tt one.0) (refused (fault_on_page otherwise p.line 0))) ok, one.2);
}

-- a seat that is read lies between its bounds
pub seat_bounds : (low n v : ℕ) (p q : Spot) → got v q ≡ seat low n p → (low ≤ v) × (v < n)
seat_bounds low n v p q e = let h = ((reads_field (λ v. leb low v && ltb v n) ListNotRising).back p q v (sym e)).1.0 in (grind (arith, nat_tests), grind (arith, nat_tests))
