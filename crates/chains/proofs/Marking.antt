-- Marking new seats one by one.
use Rattle.std.proofs.Common.{◌≡◌, ℕ, List, length, set, sym, refl, ◌∙◌, subst, ⊎_elim, arith, length-set, get_or-set_other, get_or-set_same}
use Rattle.std.proofs.lemmas.Bool.{cases_eq}
use Rattle.seats.specs.Sets.{In, Within, Taken}
use Rattle.chains.specs.declared.spread.Mark.{Mark}
use Rattle.chains.specs.Chains.{mark_of}

-- of the seats `new`, those not in `left` have been given the mark; all others are as they were
pub record Written (new left : ℕ) (mark : Mark) (before after : List Mark) : Type 0 where
  pub long : length after ≡ 64
  pub those : (v : ℕ) → In v new → (In v left → ⊥) → mark_of after v ≡ mark
  pub others : (v : ℕ) → (In v new → ⊥) → mark_of after v ≡ mark_of before v

-- nothing is written yet
pub none_written : (new : ℕ) (mark : Mark) (before : List Mark) → length before ≡ 64 → Written new new mark before before
none_written new mark before long = record { long = long; those = λ v h n. absurd (n h); others = λ v h. refl }

-- one seat more is written
pub one_written : (new left left' seat : ℕ) (mark : Mark) (before after : List Mark) → Within left new → Taken left left' seat → Written new left mark before after
    → Written new left' mark before (set after seat mark)
one_written new left left' seat mark before after inside taken w = record {
  long = length-set after seat mark ∙ w.long;
  those = λ v h n. ⊎_elim
      (λ (e : v ≡ seat). subst (λ (k : ℕ). mark_of (set after seat mark) k ≡ mark) (sym e)
      (get_or-set_same after seat mark (record { from = 0; far = 0 }) (let s = taken.lowest.seated in let l = w.long in omega arith)))
      (λ ne. get_or-set_other after seat v mark (record { from = 0; far = 0 }) ne ∙ w.those v h (λ l. n ((taken.others v).1 (l, ne)))) (cases_eq v seat);
  others = λ v h. get_or-set_other after seat v mark (record { from = 0; far = 0 }) (λ e. h (subst (λ (k : ℕ). In k new) (sym e) (inside seat taken.lowest.member))) ∙ w.others v h;
}
