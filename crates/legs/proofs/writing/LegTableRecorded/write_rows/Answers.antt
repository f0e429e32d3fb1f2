-- The legs come in turn, and the row of each is written to its place.
use Rattle.std.proofs.Common.{◌≡◌, ℕ, ◌+◌, ◌<◌, ◌≤◌, length, List, get_or, take, drop, set, inl, sym, refl, ap, ◌∙◌, length-drop, arith}
use Rattle.std.proofs.lemmas.List.{drop-set-lt}
use Rattle.std.proofs.lemmas.List.Edits.{fill_by_more}
use Rattle.legs.specs.declared.leg.Leg.{Leg}
use Rattle.legs.specs.declared.leg.LegRow.{LegRow}
use Rattle.legs.specs.Lawful.{leg_at}
use Rattle.legs.specs.SharedLegs.{pairs_of, pair_of, pairs_left}
use Rattle.legs.specs.Written.{row_of}
use Rattle.legs.specs.RowSums.{length_rows, rows_written}
use Rattle.legs.proofs.SharedLegs.{length_pairs, pair_next}
use Rattle.legs.proofs.writing.LegTableRecorded.write_rows.Goals as goal

abbrev zeros : LegRow
zeros = record { a = 0; b = 0; share_a = 0; share_b = 0 }

pub returns-then-out-rows : goal.returns-then-out-rows
returns-then-out-rows c =
    let rows = length_rows c.args.self.now.legs.items c.args.self.now.first in
    (omega arith, c.nowhere.ensures, refl {a = c.args.out.now})

pub loop-t-init : goal.loop-t-init
loop-t-init c =
    let d = c.args.self.now in
    let legs = d.legs.items in
    let start : c.into_iter-t-iterator.result.count ≡ 0 = cc in
    let left : pairs_left c.into_iter-t-iterator.result.iter ≡ pairs_of legs d.first = cc in
    record {
      can = (tt, tt, inl (omega (arith, ap length left, length_pairs legs d.first, d.few.2)));
      finite = tt;
      left = left ∙ ap (λ (k : ℕ). drop k (pairs_of legs d.first)) (sym start);
      among = omega arith;
      written = λ k h. absurd (omega arith);
      beyond = refl;
    }

-- one row more
written_more : (f : ℕ → LegRow) (out : List LegRow) (n t m : ℕ) (row : LegRow) → t ≡ n → m ≡ n + 1 → row ≡ f n → n < length out
    → ((k : ℕ) → k < n → get_or out k zeros ≡ f k) → (k : ℕ) → k < m → get_or (set out t row) k zeros ≡ f k
written_more f out n t m row here next is inside before k h =
    let same : set out t row ≡ set out n (f n) = cc in
    ap (λ (xs : List LegRow). get_or xs k zeros) same ∙ fill_by_more f out n zeros inside before k (omega arith)

pub bounds-out-t : goal.bounds-out-t
bounds-out-t c =
    let d = c.args.self.now in
    let legs = d.legs.items in
    let steps = c.in-Some.ensures.steps in
    let turn = pair_next legs d.first c.loop-t.t-iterator.count (pair_of c.in-Some.leg) (pairs_left c.next.new.self.iter) (sym c.loop-t.invariant.left ∙ steps.0) in
    omega (arith, turn.0, steps.1, c.loop-t.auto.out)

pub loop-t-preserved : goal.loop-t-preserved
loop-t-preserved c =
    let d = c.args.self.now in
    let legs = d.legs.items in
    let inv = c.loop-t.invariant in
    let n = c.loop-t.t-iterator.count in
    let steps = c.in-Some.ensures.steps in
    let turn = pair_next legs d.first n (pair_of c.in-Some.leg) (pairs_left c.next.new.self.iter) (sym inv.left ∙ steps.0) in
    let left : pairs_left c.next.new.self.iter ≡ drop c.next.new.self.count (pairs_of legs d.first) = sym (ap (λ (k : ℕ). drop k (pairs_of legs d.first)) steps.2 ∙ turn.2) in
    let row : c.from.result ≡ row_of (leg_at legs n) (get_or d.first n 0) = c.from.ensures ∙ sym (ap (λ (p : Leg × ℕ). row_of p.0 p.1) turn.1) in
    record {
      can = (tt, tt, inl (omega (arith, ap length left, length-drop c.next.new.self.count (pairs_of legs d.first), length_pairs legs d.first, turn.0, steps.2, d.few.2)));
      finite = tt;
      left = left;
      among = omega (arith, turn.0, steps.2);
      written =
          written_more (λ k. row_of (leg_at legs k) (get_or d.first k 0)) c.loop-t.out n c.in-Some.t c.next.new.self.count c.from.result steps.1 steps.2 row
          (omega (arith, turn.0, c.loop-t.auto.out)) inv.written;
      beyond = drop-set-lt (length legs) c.loop-t.out c.in-Some.t c.from.result (omega (arith, turn.0, steps.1)) ∙ inv.beyond;
    }

pub returns : goal.returns
returns c =
    let d = c.args.self.now in
    let legs = d.legs.items in
    let inv = c.loop-t.invariant in
    let n = c.loop-t.t-iterator.count in
    let out = c.loop-t.out in
    let rows = length_rows legs d.first in
    let all : length legs ≤ n = omega (arith, ap length (sym inv.left ∙ c.in-None.ensures.steps.0.0), length-drop n (pairs_of legs d.first), length_pairs legs d.first) in
    let room : length legs ≤ length out = omega (arith, c.loop-t.auto.out) in (
      c.rows-rows.ensures ∙ sym rows,
      ap (λ (k : ℕ). take k out) c.rows-rows.ensures ∙ rows_written legs d.first out room (λ k h. inv.written k (omega arith)),
      rw c.rows-rows.ensures inv.beyond,
    )
