-- The rows of a table add up to its loads.
use Rattle.std.specs.Prelude.{◌≡◌, ℕ, zero, suc, ◌+◌, ◌<◌, ◌≤◌, List, map, length, take, vec_items, sum_by, slice_index, slice_index_or, refl}
use Rattle.std.proofs.Common.{sym, ap, ◌∙◌, add-one, arith}
use Rattle.std.specs.List.{range_with_len}
use Rattle.std.proofs.lemmas.List.FromFn.{length-map-range_with_len, sum_by-map-range_with_len_more, fill_by_all}
use Rattle.std.proofs.lemmas.List.{length-take-le, get_or-take}
use Rattle.bases.specs.Sums.{sum_to}
use Rattle.items.specs.Fillings.{loads_of}
use Rattle.items.proofs.Units.{loads_at}
use Rattle.legs.specs.declared.leg.Leg.{Leg}
use Rattle.legs.specs.declared.leg.LegRow.{LegRow}
use Rattle.legs.specs.declared.table.LegTable.{LegTable}
use Rattle.legs.specs.Lawful.{leg_at}
use Rattle.legs.specs.Shares.{shape_of, amount_of, most_of}
use Rattle.legs.specs.Written.{row_of, leg_rows, row_share}

-- there is one row for each leg
pub length_rows : (legs : List Leg) (first : List ℕ) → length (leg_rows legs first) ≡ length legs
length_rows legs first = length-map-range_with_len (λ t. row_of (leg_at legs t) (slice_index first t)) 0 (length legs)

-- the sum of g over f 0, .., f (n - 1), place by place
pub sum_by_range : {X : Type 0} (g : X → ℕ) (f : ℕ → X) (n : ℕ) → sum_by g (map f (range_with_len 0 n)) ≡ sum_to n (λ t. g (f t))
sum_by_range g f zero = refl
sum_by_range g f (suc n) =
    ap (λ (k : ℕ). sum_by g (map f (range_with_len 0 k))) (sym (add-one n))
    ∙ sum_by-map-range_with_len_more g f 0 n n (omega arith)
    ∙ ap (λ (k : ℕ). k + g (f n)) (sum_by_range g f n)

-- the sum of the passages of a list of legs
pub sum_passages : (legs : List Leg) → sum_by (λ leg. leg.passages) legs ≡ most_of legs
sum_passages legs =
    let no_leg : Leg = record { a = 0; b = 0; passages = 0 } in
    ap (sum_by (λ (leg : Leg). leg.passages)) (fill_by_all (leg_at legs) legs (length legs) no_leg refl (λ k h. refl))
    ∙ sum_by_range (λ leg. leg.passages) (leg_at legs) (length legs)

-- the sum over the first n rows is the sum over the first n legs
rows_sum : (legs : List Leg) (first : List ℕ) (s n : ℕ)
    → sum_by (λ row. row_share row s) (map (λ t. row_of (leg_at legs t) (slice_index first t)) (range_with_len 0 n)) ≡ sum_to n (λ t. amount_of legs first t s)
rows_sum legs first s n = sum_by_range (λ row. row_share row s) (λ t. row_of (leg_at legs t) (slice_index first t)) n

-- the load of a seat is what the rows give to it
pub load_rows : (seats : ℕ) (legs : List Leg) (first : List ℕ) (s : ℕ) → s < seats
    → slice_index (loads_of (shape_of seats legs) (amount_of legs first)) s ≡ sum_by (λ row. row_share row s) (leg_rows legs first)
load_rows seats legs first s h = loads_at (shape_of seats legs) (amount_of legs first) s h ∙ sym (rows_sum legs first s (length legs))

-- the same, of a table
pub table_load_rows : (table : LegTable) (s : ℕ) → s < table.seats
    → slice_index (loads_of (shape_of table.seats (vec_items table.legs)) (amount_of (vec_items table.legs) table.first)) s
    ≡ sum_by (λ row. row_share row s) (leg_rows (vec_items table.legs) table.first)
table_load_rows table s h = load_rows table.seats (vec_items table.legs) table.first s h

-- where each of the first rows is that of its leg, they are the rows of all legs
pub rows_written : (legs : List Leg) (first : List ℕ) (out : List LegRow) → length legs ≤ length out
    → ((k : ℕ) → k < length legs → slice_index_or out k (record { a = 0; b = 0; share_a = 0; share_b = 0 }) ≡ row_of (leg_at legs k) (slice_index first k))
    → take (length legs) out ≡ leg_rows legs first
rows_written legs first out room each =
    let zeros : LegRow = record { a = 0; b = 0; share_a = 0; share_b = 0 } in
    fill_by_all (λ t. row_of (leg_at legs t) (slice_index first t)) (take (length legs) out) (length legs) zeros (length-take-le (length legs) out room)
    (λ k h. get_or-take (length legs) out k zeros h ∙ each k h)
