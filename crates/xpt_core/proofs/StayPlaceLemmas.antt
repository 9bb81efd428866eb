-- lists by their places
use Rattle.std.proofs.Common.{◌≡◌, ◌≢◌, ℕ, zero, suc, Bool, true, false, List, [], ◌∷◌, ◌++◌, length, map, set, subst, refl, ap, ◌∙◌, arith, Some, None, inl, inr, length-append, ◌⊎◌, slice_get, find, All}
use Rattle.std.specs.List.{list_any}
use Rattle.std.proofs.lemmas.Bool.{or_left, or_right}
use Rattle.std.proofs.lemmas.Option.{slice_get_within, slice_get-get_or, get_or_from_slice_get, slice_get-map}
use Rattle.std.proofs.Math.Seq.{get_or-append_seam}
use Rattle.xpt_core.specs.Places.{at_place}

module _ {X : Type 0} where
  -- what holds of each holds of the one at a place
  pub all_at : (P : X → Type 0) (xs : List X) (j : ℕ) (x : X) → All P xs → slice_get xs j ≡ Some x → P x
  all_at P xs j x h is = subst P (get_or_from_slice_get xs j x x is) (h j x (slice_get_within xs j x is))

  -- an element of a list that is one longer
  pub front_at : (xs ys : List X) (j : ℕ) (x : X) → slice_get xs j ≡ Some x → slice_get (xs ++ ys) j ≡ Some x
  front_at [] ys j x h = absurd (cc)
  front_at (z ∷ zs) ys zero x h = h
  front_at (z ∷ zs) ys (suc j) x h = front_at zs ys j x h

  pub seam_at : (xs : List X) (x : X) → slice_get (xs ++ x ∷ []) (length xs) ≡ Some x
  seam_at xs x = slice_get-get_or (xs ++ x ∷ []) (length xs) x (omega (arith, length-append xs (x ∷ []))) ∙ ap Some (get_or-append_seam xs x [] x)

  pub pushed_at : (xs : List X) (x : X) (j : ℕ) (y : X) → slice_get (xs ++ x ∷ []) j ≡ Some y → (slice_get xs j ≡ Some y) ⊎ ((j ≡ length xs) × (x ≡ y))
  pushed_at [] x zero y h = inr (refl, cc)
  pushed_at [] x (suc j) y h = absurd (cc)
  pushed_at (z ∷ zs) x zero y h = inl h
  pushed_at (z ∷ zs) x (suc j) y h = elim (pushed_at zs x j y h) [ inl e ↦ inl e | inr e ↦ inr (omega (arith, e.0), e.1) ]

  -- a test, by the elements at all places
  pub find_none_at : (t : X → Bool) (xs : List X) → ((j : ℕ) (x : X) → slice_get xs j ≡ Some x → t x ≡ false) → find t xs ≡ None
  find_none_at t [] h = refl
  find_none_at t (x ∷ xs) h = rw (h 0 x refl, find_none_at t xs (λ j y is. h (suc j) y is)) refl

  pub any_at : (t : X → Bool) (xs : List X) (j : ℕ) (x : X) → slice_get xs j ≡ Some x → t x ≡ true → list_any t xs ≡ true
  any_at t [] j x is h = absurd (cc)
  any_at t (y ∷ ys) zero x is h = let same : y ≡ x = cc in or_left (t y) (list_any t ys) (ap t same ∙ h)
  any_at t (y ∷ ys) (suc j) x is h = or_right (t y) (list_any t ys) (any_at t ys j x is h)

  pub any_none_at : (t : X → Bool) (xs : List X) → ((j : ℕ) (x : X) → slice_get xs j ≡ Some x → t x ≡ false) → list_any t xs ≡ false
  any_none_at t [] h = refl
  any_none_at t (x ∷ xs) h = rw (h 0 x refl, any_none_at t xs (λ j y is. h (suc j) y is)) refl

-- functions of a list that agree on it, or but at one place
pub map-same : {X Y : Type 0} → (f g : X → Y) (xs : List X) → ((j : ℕ) (x : X) → slice_get xs j ≡ Some x → g x ≡ f x) → map g xs ≡ map f xs
map-same f g [] h = refl
map-same f g (x ∷ xs) h = rw (h 0 x refl, map-same f g xs (λ j y is. h (suc j) y is)) refl

map-set_at : {X Y : Type 0} → (f g : X → Y) (xs : List X) (i : ℕ) (x : X) → slice_get xs i ≡ Some x → ((j : ℕ) (y : X) → j ≢ i → slice_get xs j ≡ Some y → g y ≡ f y) → map g xs ≡ set (map f xs) i (g x)
map-set_at f g [] i x is h = refl
map-set_at f g (y ∷ ys) zero x is h =
    let same : y ≡ x = cc in
    rw (same, map-same f g ys (λ j z at. h (suc j) z (λ e. omega arith) at)) refl
map-set_at f g (y ∷ ys) (suc i) x is h =
    rw (h 0 y (λ e. omega arith) refl, map-set_at f g ys i x is (λ j z ne at. h (suc j) z (λ e. ne (omega arith)) at)) refl

pub map-at : {X Y : Type 0} → (f g : X → Y) (change : Y → Y) (xs : List X) (i : ℕ) (x : X) → slice_get xs i ≡ Some x → g x ≡ change (f x) → ((j : ℕ) (y : X) → j ≢ i → slice_get xs j ≡ Some y → g y ≡ f y) →
    map g xs ≡ at_place i change (map f xs)
map-at f g change xs i x is made h = rw (slice_get-map f xs i, is) (map-set_at f g xs i x is h ∙ ap (set (map f xs) i) made)
