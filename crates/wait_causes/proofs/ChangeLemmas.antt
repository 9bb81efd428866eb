-- what changed most, row by row
use Rattle.std.proofs.Common.{◌≡◌, ◌<◌, ◌≤◌, Bool, true, false, List, [], ◌∷◌, ◌++◌, refl, sym, subst, arith, nat_lt, None, Some}
use Rattle.std.specs.Prelude.{All, Option}
use Rattle.std.proofs.lemmas.Bool.Decides.{nat_tests}
use Rattle.std.proofs.lemmas.List.Elements.{All-push, All-weaker, Contains-push, Contains-append_left}
use Rattle.wait_causes.specs.Pairs.{PairedRow}
use Rattle.wait_causes.specs.Changes.{change, change_of, more_changed, IsMostChanged}

-- none changed more than the one that changed most so far
bounded : (rows : List PairedRow) (m : Option PairedRow) → IsMostChanged rows m → All (λ (r : PairedRow). change r ≤ change_of m) rows
bounded rows None h = All-weaker (λ (r : PairedRow). change r ≡ 0) (λ (r : PairedRow). change r ≤ 0) (λ r is. omega (arith, is)) rows h
bounded rows (Some m) h = h.2

kept : (rows : List PairedRow) (r : PairedRow) (m : Option PairedRow) → IsMostChanged rows m → change r ≤ change_of m → IsMostChanged (rows ++ r ∷ []) m
kept rows r None h le = All-push (λ (r : PairedRow). change r ≡ 0) rows r h (omega (arith, le))
kept rows r (Some m) h le = (Contains-append_left rows (r ∷ []) m h.0, h.1, All-push (λ (r : PairedRow). change r ≤ change m) rows r h.2 le)

taken : (rows : List PairedRow) (r : PairedRow) (m : Option PairedRow) → IsMostChanged rows m → change_of m < change r → IsMostChanged (rows ++ r ∷ []) (Some r)
taken rows r m h lt = (
  Contains-push rows r,
  omega (arith, lt),
  All-push (λ (s : PairedRow). change s ≤ change r) rows r
      (All-weaker (λ (s : PairedRow). change s ≤ change_of m) (λ (s : PairedRow). change s ≤ change r) (λ s le. omega (arith, le, lt)) rows (bounded rows m h)) (omega arith),
)

chosen : (rows : List PairedRow) (r : PairedRow) (m : Option PairedRow) (b : Bool) → nat_lt (change_of m) (change r) ≡ b → IsMostChanged rows m → IsMostChanged (rows ++ r ∷ []) (more_changed m r)
chosen rows r m true is h =
    let lt : change_of m < change r = grind (arith, nat_tests) in
    let new : more_changed m r ≡ Some r = rw is refl in
    subst (IsMostChanged (rows ++ r ∷ [])) (sym new) (taken rows r m h lt)
chosen rows r m false is h =
    let le : change r ≤ change_of m = grind (arith, nat_tests) in
    let same : more_changed m r ≡ m = rw is refl in
    subst (IsMostChanged (rows ++ r ∷ [])) (sym same) (kept rows r m h le)

-- with one row more
pub most_more : (rows : List PairedRow) (r : PairedRow) (m : Option PairedRow) → IsMostChanged rows m → IsMostChanged (rows ++ r ∷ []) (more_changed m r)
most_more rows r m h = chosen rows r m (nat_lt (change_of m) (change r)) refl h

-- one row
abbrev pub blank : PairedRow
blank = record { before = None; after = None }
