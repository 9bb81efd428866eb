-- longest runs of rounds with one number that isn't the usual one
use Rattle.std.specs.Prelude.{ℕ, ◌+◌, ◌-◌, ◌==◌, Bool, not, ◌&&◌, ◌||◌, List, find, filter}
use Rattle.std.specs.List.{range_with_len}
use Rattle.std.specs.Option.{option_map_or}

-- a run begins in a round whose number isn't the usual one, nor that of the round before
unfoldable pub begins_run : (ℕ → ℕ) → ℕ → ℕ → Bool
begins_run number usual r = not (number r == usual) && ((r == 1) || not (number (r - 1) == number r))

-- the rounds in which runs begin, of that many rounds
unfoldable pub run_starts : (ℕ → ℕ) → ℕ → ℕ → List ℕ
run_starts number usual rounds = filter (begins_run number usual) (range_with_len 1 rounds)

-- the last round of a run: the one before the first later round with another number, or else the last of all
unfoldable pub run_last : (ℕ → ℕ) → ℕ → ℕ → ℕ
run_last number rounds first =
    option_map_or (λ r. r - 1) (find (λ r. not (number r == number first)) (range_with_len (first + 1) (rounds - first))) rounds
