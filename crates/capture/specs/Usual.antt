-- what a device usually starts
use Rattle.std.specs.Prelude.{ℕ, ◌*◌, Bool, nat_le, List, length, map, filter, find, count_by}
use Rattle.std.specs.List.{range_with_len}
use Rattle.std.specs.Option.{option_map_or}
use Rattle.cam_types.specs.declared.limits.TheConstants.{MAX_OPENINGS}
use Rattle.capture.specs.Rounds.{Rounded}
use Rattle.capture.specs.Loads.{sends_in, is_pressed}

-- what a device started in each of its pressed rounds
abbrev pub pressed_sends : Rounded → ℕ → List ℕ
pressed_sends r device = map (sends_in r.requests device) (filter (is_pressed r.requests device) (range_with_len 1 r.rounds))

-- at least half of the numbers are at most that one
abbrev pub reaches_half : List ℕ → ℕ → Bool
reaches_half numbers m = nat_le (length numbers) (2 * count_by (λ n. nat_le n m) numbers)

-- the lower median as openings: the least number from 1 on that at least half of the numbers don't exceed, and 255 where it is
-- above
unfoldable pub middle : List ℕ → ℕ
middle numbers = option_map_or (λ m. m) (find (reaches_half numbers) (range_with_len 1 MAX_OPENINGS)) MAX_OPENINGS

-- what a device usually starts in a pressed round
abbrev pub usual_taken : Rounded → ℕ → ℕ
usual_taken r device = middle (pressed_sends r device)
