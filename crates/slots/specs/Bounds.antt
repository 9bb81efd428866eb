-- the times at which spans begin and end
use Rattle.std.specs.Prelude.{◌≡◌, ℕ, ◌+◌, ◌<◌, ◌≤◌, ◌^◌, nat_le, max, if◌then◌else◌, List, map, count_by, Option, Some, None}
use Rattle.std.specs.List.{filter_map}
use Rattle.std.specs.List.Sorted.{IsPermutation, IsNonDecreasing}
use Rattle.slots.specs.Spans.{Span, covering}
use Rattle.slots.specs.declared.bounds.Passed.{Passed}

-- where a span ends, and that is where it begins if it is empty
abbrev pub end_of : Span → ℕ
end_of s = max s.until s.from

-- the same if it is below 2^64
unfoldable pub end_in_time : Span → Option ℕ
end_in_time s = if nat_le (end_of s) 18446744073709551615 then Some (end_of s) else None

-- how many times are up to one
abbrev pub up_to : List ℕ → ℕ → ℕ
up_to times last = count_by (λ t. nat_le t last) times

-- how many beginnings and ends are
abbrev pub passed_by : List ℕ → List ℕ → ℕ → Passed
passed_by begins ends last = record { begins = up_to begins last; ends = up_to ends last }

-- both are in their order, and no more have ended than begun
pub record AreInOrder (begins ends : List ℕ) : Type 0 where
  pub begins_order : IsNonDecreasing begins
  pub ends_order : IsNonDecreasing ends
  pub begun : (t : ℕ) → t < 2 ^ 64 → up_to ends t ≤ up_to begins t

-- the beginnings of spans, and their ends
pub record AreBounds (spans : List Span) (begins ends : List ℕ) : Type 0 where
  pub order : AreInOrder begins ends
  pub begins_all : IsPermutation (map (λ (s : Span). s.from) spans) begins
  pub ends_all : IsPermutation (filter_map end_in_time spans) ends
  pub cover : (t : ℕ) → t < 2 ^ 64 → covering spans t + up_to ends t ≡ up_to begins t
