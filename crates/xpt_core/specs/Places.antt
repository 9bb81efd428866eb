-- elements of lists by their places
use Rattle.std.specs.Prelude.{◌≡◌, ℕ, ◌<◌, List, length, Some, slice_get, slice_set}
use Rattle.std.specs.Option.{option_map_or}

-- the list, of which the element of this number changes
abbrev pub at_place : {X : Type 0} → ℕ → (X → X) → List X → List X
at_place n change xs = option_map_or (λ x. slice_set xs n (change x)) (slice_get xs n) xs

-- the element of this number is there, and is so
pub record HasAt {X : Type 0} (P : X → Type 0) (xs : List X) (n : ℕ) : Type 0 where
  pub there : n < length xs
  pub so : (x : X) → slice_get xs n ≡ Some x → P x
