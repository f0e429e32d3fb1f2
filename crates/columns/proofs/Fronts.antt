-- A column by its letters and the spaces behind them. Assumes nothing.
use Rattle.std.proofs.Common.{◌≡◌, ℕ, ◌-◌, ◌&&◌, eqb, List, [], ◌∷◌, ◌++◌, length, take, drop, replicate, refl, ap}
use Rattle.std.proofs.Math.Bool.{and_assoc}
use Rattle.std.proofs.Math.Nat.{sub-zero, suc-sub-suc}
use Rattle.std.specs.List.{list_all}
use Rattle.std.specs.Str.{bytes_eq}

-- bytes are spaces where each is one
spaces : (bs : List ℕ) → bytes_eq bs (replicate (length bs) 32) ≡ list_all (λ b. eqb b 32) bs
spaces [] = refl
spaces (b ∷ bs) = ap (λ r. eqb b 32 && r) (spaces bs)

-- a column is some letters and then spaces where it begins with those letters and the rest is spaces
pub letters_spaces : (col name : List ℕ) → bytes_eq col (name ++ replicate (length col - length name) 32) ≡ (bytes_eq (take (length name) col) name && list_all (λ b. eqb b 32) (drop (length name) col))
letters_spaces col [] = rw sub-zero (spaces col)
letters_spaces [] (n ∷ name) = refl
letters_spaces (c ∷ col) (n ∷ name) = rw (suc-sub-suc, letters_spaces col name, and_assoc)
