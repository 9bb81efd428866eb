-- what a recording and its windows have to do with each other
use Rattle.std.specs.Prelude.{◌≡◌, ℕ, ◌+◌, nat_le, nat_lt, if◌then◌else◌, List, [], ◌∷◌}
use Rattle.recording_file.specs.Recorded.{Recorded}
use Rattle.round_net.specs.Sums.{count_below}
use Rattle.round_net.specs.Schedules.{cost}
use Rattle.round_net.specs.Value.{Pricing, ProvesBest}
use Rattle.round_net.specs.RecordedNets.{instance_of_recording, live_of_recording}

-- the number of a stay in the window that it was sent in: how many before it were sent in that window too
abbrev pub first_number : (ℕ → ℕ) → ℕ → ℕ → ℕ
first_number live c s = count_below s (λ before. nat_le (live before) c)

abbrev pub second_number : (ℕ → ℕ) → ℕ → ℕ → ℕ
second_number live c s = count_below s (λ before. nat_lt c (live before))

-- a schedule of the first window, and after its last round one of the second
abbrev pub one_after_other : (ℕ → ℕ) → ℕ → (ℕ → ℕ) → (ℕ → ℕ) → ℕ → ℕ
one_after_other live c f g s = if nat_le (live s) c then f (first_number live c s) else c + g (second_number live c s)

-- what the waiting cost as recorded
abbrev pub recorded_cost : Recorded → ℕ
recorded_cost r = cost (instance_of_recording r) (live_of_recording r)

-- it cost so much more than in a best schedule, which prices prove
pub record IsExcess (r : Recorded) (excess : ℕ) : Type 0 where
  pub best : ℕ → ℕ
  pub prices : Pricing
  pub proved : ProvesBest (instance_of_recording r) best prices
  pub above : recorded_cost r ≡ cost (instance_of_recording r) best + excess

-- so it did in each of these recordings
abbrev pub AreExcesses : List Recorded → List ℕ → Type 0
AreExcesses [] [] = Unit {0}
AreExcesses (r ∷ rs) (excess ∷ excesses) = IsExcess r excess × AreExcesses rs excesses
AreExcesses [] (excess ∷ excesses) = ⊥
AreExcesses (r ∷ rs) [] = ⊥
