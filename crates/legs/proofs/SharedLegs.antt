-- The legs of a table with the shares of their ends a, as one list of pairs.
use Rattle.std.proofs.Common.{◌≡◌, ℕ, ◌+◌, ◌<◌, ◌≤◌, List, [], ◌∷◌, ◌++◌, ◌⊎◌, length, get_or, take, drop, Option, None, Some, MatchOption, refl, sym, ap, subst, inl, inr, ⊎_elim, ◌∙◌, length-append, length-drop, arith}
use Rattle.std.specs.List.{zip, sum_by, AllWithin, HoldsAt}
use Rattle.std.proofs.Math.Seq.{get_or-append_seam}
use Rattle.std.proofs.lemmas.Bool.{cases_eq}
use Rattle.std.proofs.lemmas.List.{get_or_append_left, drop_more}
use Rattle.std.proofs.lemmas.List.FromFn.{length-map-range_with_len, get_or-map-range_with_len, fill_by_all}
use Rattle.std.proofs.lemmas.Slice.Zip.{length-zip, get_or-zip}
use Rattle.bases.specs.Sums.{sum_to}
use Rattle.seats.specs.Sets.{In, Exactly}
use Rattle.seats.proofs.Members.{in_none}
use Rattle.legs.specs.declared.leg.Leg.{Leg}
use Rattle.legs.specs.Lawful.{leg_at}
use Rattle.legs.specs.RowSums.{sum_by_range}
use Rattle.legs.specs.Shares.{share_of, amount_of, LegLinks, SomeLinks, FirstLinks}
use Rattle.legs.specs.SharedLegs.{pairs_of}

-- what is read past the last pair
abbrev pub no_pair : Leg × ℕ
no_pair = (record { a = 0; b = 0; passages = 0 }, 0)

-- some pair links u to v
abbrev pub SomePair : List (Leg × ℕ) → ℕ → ℕ → Type 0
SomePair pairs u v = (t : ℕ) × (t < length pairs) × LegLinks (get_or pairs t no_pair).0 (get_or pairs t no_pair).1 u v

-- the set holds the seats that some pair links u to
abbrev pub HoldsLinked : ℕ → List (Leg × ℕ) → ℕ → Type 0
HoldsLinked u pairs set = (v : ℕ) → Exactly (In v set) ((v < 64) × SomePair pairs u v)

-- no pair links any
pub links_none : (u : ℕ) → HoldsLinked u [] 0
links_none u v = (λ m. absurd (in_none v m), λ r. absurd (let l = r.1.1 in omega arith))

-- one pair more
pub links_more : (pairs : List (Leg × ℕ)) (pair : Leg × ℕ) (u set all : ℕ) → HoldsLinked u pairs set
    → ((v : ℕ) → Exactly (In v all) (In v set ⊎ ((v < 64) × LegLinks pair.0 pair.1 u v))) → HoldsLinked u (pairs ++ pair ∷ []) all
links_more pairs pair u set all before here v = (into, back)
  where
    into : In v all → (v < 64) × SomePair (pairs ++ pair ∷ []) u v
    into m =
        ⊎_elim
        (λ (old : In v set). let r = (before v).0 old in
        (r.0, (r.1.0, simp length-append (omega (arith, r.1.1)), subst (λ (p : Leg × ℕ). LegLinks p.0 p.1 u v) (sym (get_or_append_left pairs (pair ∷ []) no_pair r.1.0 r.1.1)) r.1.2)))
        (λ (new : (v < 64) × LegLinks pair.0 pair.1 u v). (new.0, (length pairs, simp length-append (omega arith), subst (λ (p : Leg × ℕ). LegLinks p.0 p.1 u v) (sym (get_or-append_seam pairs pair [] no_pair)) new.1)))
        ((here v).0 m)

    back : (v < 64) × SomePair (pairs ++ pair ∷ []) u v → In v all
    back (seat, (t, h, links)) =
        let long = length-append pairs (pair ∷ []) in
        (here v).1 (⊎_elim
        (λ (e : t ≡ length pairs). inr (seat, subst (λ (p : Leg × ℕ). LegLinks p.0 p.1 u v) (ap (λ (k : ℕ). get_or (pairs ++ pair ∷ []) k no_pair) e ∙ get_or-append_seam pairs pair [] no_pair) links))
        (λ ne. let old : t < length pairs = omega arith in inl ((before v).1 (seat, (t, old, subst (λ (p : Leg × ℕ). LegLinks p.0 p.1 u v) (get_or_append_left pairs (pair ∷ []) no_pair t old) links))))
        (cases_eq t (length pairs)))

-- shares beyond the last leg are in no pair
pub zip_short : (legs : List Leg) (first : List ℕ) → zip legs (take (length legs) first) ≡ zip legs first
zip_short [] first = refl
zip_short (leg ∷ legs) [] = refl
zip_short (leg ∷ legs) (share ∷ first) = ap (λ (pairs : List (Leg × ℕ)). (leg, share) ∷ pairs) (zip_short legs first)

module _ (legs : List Leg) (first : List ℕ) where
  -- one pair for each leg
  pub length_pairs : length (pairs_of legs first) ≡ length legs
  length_pairs = length-map-range_with_len (λ t. (leg_at legs t, get_or first t 0)) 0 (length legs)

  -- pair t is leg t with the share of its end a
  pub pair_at : (t : ℕ) → t < length legs → get_or (pairs_of legs first) t no_pair ≡ (leg_at legs t, get_or first t 0)
  pair_at t h = get_or-map-range_with_len (λ k. (leg_at legs k, get_or first k 0)) 0 (length legs) t t no_pair h (omega arith)

  -- legs and shares side by side are the pairs
  pub zip_pairs : length legs ≤ length first → zip legs first ≡ pairs_of legs first
  zip_pairs enough =
      let long = length-zip legs first in
      fill_by_all (λ t. (leg_at legs t, get_or first t 0)) (zip legs first) (length legs) no_pair (omega arith) (λ k h. get_or-zip legs first k no_pair h (omega arith))

  -- what the pairs give to a seat, as a sum over the legs
  pub sum_shares : (seat : ℕ) → sum_by (λ p. share_of p.0 p.1 seat) (pairs_of legs first) ≡ sum_to (length legs) (λ t. amount_of legs first t seat)
  sum_shares seat = sum_by_range (λ p. share_of p.0 p.1 seat) (λ t. (leg_at legs t, get_or first t 0)) (length legs)

  -- where a pair comes first after the first t, it is pair t
  pub pair_next : (t : ℕ) (pair : Leg × ℕ) (rest : List (Leg × ℕ)) → drop t (pairs_of legs first) ≡ pair ∷ rest
      → (t < length legs) × ((leg_at legs t, get_or first t 0) ≡ pair) × (drop (t + 1) (pairs_of legs first) ≡ rest)
  pair_next t pair rest e =
      let long = ap length e in
      let inside : t < length legs = omega (arith, length-drop t (pairs_of legs first), length_pairs) in
      let here = drop_more (pairs_of legs first) t no_pair (omega (arith, length_pairs)) in
      let at = pair_at t inside in
      (inside, cc, cc)

  -- where none of the first n pairs links u to v, none of the first n legs does
  unlinked : (u v n : ℕ) → n ≤ length legs → AllWithin (λ p. LegLinks p.0 p.1 u v → ⊥) (pairs_of legs first) 0 n → SomeLinks legs first n u v → ⊥
  unlinked u v n le none (t, h, links) =
      none t no_pair (omega arith) h (subst (λ (p : Leg × ℕ). LegLinks p.0 p.1 u v) (sym (pair_at t (omega arith))) links)

  -- the first pair that links u to v is the first leg that does
  pub first_linking : (u v : ℕ) (found : Option ℕ)
      → MatchOption found (AllWithin (λ p. LegLinks p.0 p.1 u v → ⊥) (pairs_of legs first) 0 (length (pairs_of legs first)))
      (λ t. (t < length (pairs_of legs first)) × HoldsAt (λ p. LegLinks p.0 p.1 u v) (pairs_of legs first) t × AllWithin (λ p. LegLinks p.0 p.1 u v → ⊥) (pairs_of legs first) 0 t)
      → MatchOption found (SomeLinks legs first (length legs) u v → ⊥) (λ t. FirstLinks legs first u v t)
  first_linking u v None none = let long = length_pairs in unlinked u v (length legs) (omega arith) (λ k d low h. none k d low (omega arith))
  first_linking u v (Some t) (among, links, none) =
      let long = length_pairs in
      let inside : t < length legs = omega arith in
      (inside, subst (λ (p : Leg × ℕ). LegLinks p.0 p.1 u v) (pair_at t inside) (links no_pair), unlinked u v t (omega arith) none)

  -- some pair links u to v just where some leg does
  pub some_pair : (u v : ℕ) → Exactly (SomePair (pairs_of legs first) u v) (SomeLinks legs first (length legs) u v)
  some_pair u v =
      let long = length_pairs in (
        λ r. let inside : r.0 < length legs = omega (arith, r.1) in (r.0, inside, subst (λ (p : Leg × ℕ). LegLinks p.0 p.1 u v) (pair_at r.0 inside) r.2),
        λ r. (r.0, omega (arith, r.1), subst (λ (p : Leg × ℕ). LegLinks p.0 p.1 u v) (sym (pair_at r.0 r.1)) r.2),
      )
