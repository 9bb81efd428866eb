-- lists by their places
use Rattle.std.proofs.Common.{◌≡◌, ◌≢◌, ℕ, zero, suc, ◌+◌, ◌<◌, Bool, true, false, cond, List, length, get_or, refl, sym, ap, subst, ◌∙◌, arith, Some, inl, inr, map, zero-add, ◌==◌, slice_get, slice_set, All}
use Rattle.std.specs.List.{range_with_len}
use Rattle.std.specs.Option.{option_map_or}
use Rattle.std.proofs.lemmas.Bool.{cases_lt}
use Rattle.std.proofs.lemmas.Bool.Decides.{nat_tests}
use Rattle.std.proofs.lemmas.List.{length-map}
use Rattle.std.proofs.lemmas.List.Elements.{All-nil, All-cons}
use Rattle.std.proofs.lemmas.List.FromFn.{length-range_with_len}
use Rattle.std.proofs.lemmas.Option.{slice_get_read}
use Rattle.event_rules.proofs.ShareLaws.{same_number}
use Rattle.event_rules.proofs.StateLaws.{map-range_same, map-range_but, slice_get-range, slice_get-range_past}
use Rattle.xpt_core.specs.Places.{at_place, HasAt}

-- a function over a range that changes at one place
hit_cases : {X : Type 0} → (change : X → X) (q q' : X) (b : Bool) → b ≡ true → q' ≡ cond b (change q) q → q' ≡ change q
hit_cases change q q' true e h = h
hit_cases change q q' false e h = absurd (cc)

miss_cases : {X : Type 0} → (change : X → X) (q q' : X) (b : Bool) → b ≡ false → q' ≡ cond b (change q) q → q' ≡ q
miss_cases change q q' true e h = absurd (cc)
miss_cases change q q' false e h = h

other_number : (a b : ℕ) → b ≢ a → (a == b) ≡ false
other_number a b ne = grind (arith, nat_tests)

module _ {X : Type 0} (f g : ℕ → X) (n : ℕ) where
  pub at_range : (target : ℕ) (change : X → X) → ((d : ℕ) → g d ≡ cond (target == d) (change (f d)) (f d)) → map g (range_with_len 0 n) ≡ at_place target change (map f (range_with_len 0 n))
  at_range target change h = elim (cases_lt target n) [
    | inl lt ↦
        let at : 0 + target ≡ target = zero-add target in
        let whole : map g (range_with_len 0 n) ≡ slice_set (map f (range_with_len 0 n)) target (g (0 + target)) =
        map-range_but f g 0 n target (λ k ne. miss_cases change (f k) (g k) (target == k) (other_number target k (λ i. ne (i ∙ sym at))) (h k)) in
        let made : g (0 + target) ≡ change (f (0 + target)) = rw at (hit_cases change (f target) (g target) (target == target) (same_number target) (h target)) in
        whole ∙ ap (slice_set (map f (range_with_len 0 n)) target) made
        ∙ sym (ap (λ o. option_map_or (λ q. slice_set (map f (range_with_len 0 n)) target (change q)) o (map f (range_with_len 0 n))) (slice_get-range f 0 n target lt))
    | inr le ↦
        map-range_same f g 0 n (λ k low lt. miss_cases change (f k) (g k) (target == k) (other_number target k (λ i. omega arith)) (h k))
        ∙ sym (ap (λ o. option_map_or (λ q. slice_set (map f (range_with_len 0 n)) target (change q)) o (map f (range_with_len 0 n))) (slice_get-range_past f 0 n target le))
  ]

  pub all_range : (change : X → X) → ((d : ℕ) → g d ≡ change (f d)) → (a m : ℕ) → map g (range_with_len a m) ≡ map change (map f (range_with_len a m))
  all_range change h a zero = refl
  all_range change h a (suc m) = rw (h a, all_range change h (a + 1) m) refl

module _ {X : Type 0} (P : X → Type 0) (f : ℕ → X) where
  pub has_range : (n d : ℕ) → d < n → P (f d) → HasAt P (map f (range_with_len 0 n)) d
  has_range n d lt h = record {
    there = omega (arith, length-map (range_with_len 0 n) f, length-range_with_len 0 n);
    so = λ q e.
        let at : Some (f (0 + d)) ≡ Some q = sym (slice_get-range f 0 n d lt) ∙ e in
        let same : f (0 + d) ≡ q = cc in
        subst P (ap f (sym (zero-add d)) ∙ same) h;
  }

  pub All-range : ((d : ℕ) → P (f d)) → (a m : ℕ) → All P (map f (range_with_len a m))
  All-range h a zero = All-nil P
  All-range h a (suc m) = All-cons P (f a) (map f (range_with_len (a + 1) m)) (h a) (All-range h (a + 1) m)

-- what is read of an element
pub read_at : {X : Type 0} → (qs : List X) (d : ℕ) (q : X) → d < length qs → q ≡ get_or qs d q → slice_get qs d ≡ Some q
read_at qs d q lt is = slice_get_read qs (length qs) d q refl lt is

pub has_at : {X : Type 0} → (P : X → Type 0) (qs : List X) (d : ℕ) (q : X) → HasAt P qs d → q ≡ get_or qs d q → P q
has_at P qs d q has is = has.so q (read_at qs d q has.there is)

-- and what is written
pub written_at : {X : Type 0} → (change : X → X) (qs : List X) (d : ℕ) (q q' : X) → d < length qs → q ≡ get_or qs d q → q' ≡ change q → slice_set qs d q' ≡ at_place d change qs
written_at change qs d q q' lt is made =
    ap (slice_set qs d) made ∙ sym (ap (λ o. option_map_or (λ x. slice_set qs d (change x)) o qs) (read_at qs d q lt is))

-- what is read of a function's values
pub value_at : {X : Type 0} → (f : ℕ → X) (n d : ℕ) (q : X) → d < n → q ≡ get_or (map f (range_with_len 0 n)) d q → q ≡ f d
value_at f n d q lt is =
    let has = has_range (λ t. t ≡ f d) f n d lt refl in
    has.so q (read_at (map f (range_with_len 0 n)) d q has.there is)
