-- Bases with numbers added, over any set of bases.
use Rattle.std.specs.Prelude.{◌≡◌, ℕ, ◌+◌, ◌<◌, ◌≤◌, List, length, slice_index, slice_index_or, refl}
use Rattle.std.proofs.Common.{sym, ap, subst, ◌∙◌, ⊎_elim, arith}
use Rattle.std.proofs.lemmas.List.{get_or_past}
use Rattle.std.proofs.lemmas.Bool.{cases_lt}
use Rattle.bases.specs.Exchange.{moved, Exchange, Same, Reaches}
use Rattle.bases.specs.Says.{Stands}
use Rattle.bases.proofs.Moves.{length_moved, moved_from, seat_of}
use Rattle.carry.specs.Carried.{added, largest, Carried, StandsOver}
use Rattle.carry.specs.Added.{largest_high, length_added, added_at, added_cancels, added_moved}

module _ (B : List ℕ → Type 0) (c : List ℕ) where
  -- loads with the numbers added are a base only if the loads below are one
  pub base_below : (x : List ℕ) → Carried c B (added c x) → B x
  base_below x h = subst B (sym (added_cancels c x h.0 h.2)) h.1

  -- and then they are
  pub base_above : (x : List ℕ) → B x → Carried c B (added c x)
  base_above x h = (x, h, refl)

  -- where the layer stands, the system below stands
  pub stands_below : (x : List ℕ) (top : ℕ) → StandsOver c B x top → Stands B x top
  stands_below x top h = (base_below x h.0, omega (arith, h.1))

  -- and where that one does, and the ceiling with the largest number is still a load, the layer stands
  pub stands_over : (x : List ℕ) (top : ℕ) → Stands B x top → top + largest c ≤ 999999 → StandsOver c B x top
  stands_over x top h low = (base_above x h.0, low)

  -- every base has one load for each seat
  pub carried_width : (n : ℕ) → ((y : List ℕ) → B y → length y ≡ n) → (x : List ℕ) → Carried c B x → length x ≡ n
  carried_width n width x h = ap length h.2 ∙ length_added c h.0 ∙ width h.0 h.1

  -- no load passes the ceiling below with the largest number added
  pub carried_high : (top : ℕ) → ((y : List ℕ) → B y → (i : ℕ) → slice_index y i ≤ top) → (x : List ℕ) → Carried c B x → (i : ℕ) → slice_index x i ≤ top + largest c
  carried_high top high x h i =
      let y = h.0 in
      let e = ap (λ (z : List ℕ). slice_index z i) h.2 in
      let l = length_added c y in
      ⊎_elim
      (λ (s : i < length y). let a = added_at c y i s in let m = largest_high c i in let t = high y h.1 i in omega arith)
      (λ (past : length y ≤ i). let z = get_or_past (added c y) i 0 (omega arith) in omega arith)
      (cases_lt i (length y))

  -- moving a unit that is there leads from base to base as it does below
  pub carried_moved : (x : List ℕ) (i j : ℕ) → 0 < slice_index x i → B (moved x i j) → Carried c B (moved (added c x) i j)
  carried_moved x i j gives base = (moved x i j, base, sym (added_moved c x i j gives))

  -- the exchange law, for two bases that are written with the numbers added
  exchange_added : (n : ℕ) → ((y : List ℕ) → B y → length y ≡ n) → Exchange B → (x y : List ℕ) → B x → B y → (i : ℕ) → slice_index (added c y) i < slice_index (added c x) i
      → (j : ℕ) × (slice_index (added c x) j < slice_index (added c y) j) × Carried c B (moved (added c x) i j) × Carried c B (moved (added c y) j i)
  exchange_added n width ex x y hx hy i up =
      let lx = width x hx in
      let ly = width y hy in
      let lax = length_added c x in
      let si = seat_of (added c x) i (omega arith) in
      let ai = added_at c x i (omega arith) in
      let bi = added_at c y i (omega arith) in
      let r = ex x y hx hy i (omega arith) in
      let j = r.0 in
      let down : slice_index_or x j 0 < slice_index_or y j 0 = r.1 in
      let sj = seat_of y j (omega arith) in
      let aj = added_at c x j (omega arith) in
      let bj = added_at c y j sj in
      (j, omega arith, carried_moved x i j (omega arith) r.2, carried_moved y j i (omega arith) r.3)

  -- and so for any two
  pub carried_exchange : (n : ℕ) → ((y : List ℕ) → B y → length y ≡ n) → Exchange B → Exchange (Carried c B)
  carried_exchange n width ex x y hx hy i up =
      let ex-at = ap (λ (z : List ℕ). slice_index z i) hx.2 in
      let ey-at = ap (λ (z : List ℕ). slice_index z i) hy.2 in
      let core = exchange_added n width ex hx.0 hy.0 hx.1 hy.1 i (omega arith) in
      subst (λ (z : List ℕ). (j : ℕ) × (slice_index z j < slice_index y j) × Carried c B (moved z i j) × Carried c B (moved y j i)) (sym hx.2)
      (subst (λ (w : List ℕ). (j : ℕ) × (slice_index (added c hx.0) j < slice_index w j) × Carried c B (moved (added c hx.0) i j) × Carried c B (moved w j i)) (sym hy.2) core)

  -- the donor of a move that leads to a base has a unit below, for the number that it carries stays
  pub gives_below : (x : List ℕ) (i j : ℕ) → Reaches (Carried c B) (added c x) i j → 0 < slice_index x i
  gives_below x i j r =
      let y = r.base.0 in
      let la = length_added c x in
      let seat = seat_of (added c x) i r.gives in
      let here = added_at c x i (omega arith) in
      let left = moved_from (added c x) i j seat r.other in
      let lm = length_moved (added c x) i j in
      let ly = length_added c y in
      let len = ap length r.base.2 in
      let there = added_at c y i (omega arith) in
      let same = ap (λ (z : List ℕ). slice_index z i) r.base.2 in
      let gives = r.gives in
      omega arith

  -- a seat that is in reach in the layer is so below
  pub reach_below : (x : List ℕ) (i j : ℕ) → Reaches (Carried c B) (added c x) i j → Reaches B x i j
  reach_below x i j r =
      let gives = gives_below x i j r in
      record {
        gives = gives;
        takes = (let l = length_added c x in let t = r.takes in omega arith);
        other = r.other;
        base = base_below (moved x i j) (subst (Carried c B) (sym (added_moved c x i j gives)) r.base);
      }

  -- and the other way
  pub reach_above : (x : List ℕ) (i j : ℕ) → Reaches B x i j → Reaches (Carried c B) (added c x) i j
  reach_above x i j r =
      let l = length_added c x in
      let gives = r.gives in
      let a = added_at c x i (seat_of x i gives) in
      record {
        gives = omega arith;
        takes = (let t = r.takes in omega arith);
        other = r.other;
        base = carried_moved x i j gives r.base;
      }

-- the same numbers over the same bases give the same bases
pub carried_same : (B C : List ℕ → Type 0) (c d : List ℕ) → c ≡ d → Same B C → Same (Carried c B) (Carried d C)
carried_same B C c d e same x = (
  λ h. (h.0, (same h.0).0 h.1, h.2 ∙ ap (λ (m : List ℕ). added m h.0) e),
  λ h. (h.0, (same h.0).1 h.1, h.2 ∙ ap (λ (m : List ℕ). added m h.0) (sym e)),
)
