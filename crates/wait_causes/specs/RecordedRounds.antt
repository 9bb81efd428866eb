-- what is kept of the rounds of a recording
use Rattle.std.specs.Prelude.{◌≡◌, ℕ, ◌+◌, ◌*◌, ◌/◌, ◌%◌, List, map}
use Rattle.std.specs.List.{range_with_len}
use Rattle.recording_file.specs.Recorded.{Recorded}
use Rattle.round_net.specs.RecordedNets.{instance_of_recording, live_of_recording}
use Rattle.wait_causes.specs.Words.{WaitCause}
use Rattle.wait_causes.specs.RecordedCauses.{recorded_cause}

-- the causes of all devices in each round: those of the first device's rounds, then those of the second one's, and so on
unfoldable pub causes_by : ℕ → ℕ → (ℕ → ℕ → WaitCause) → List WaitCause
causes_by devices rounds cause = map (λ at. cause (at / rounds) (at % rounds + 1)) (range_with_len 0 (devices * rounds))

-- they are those of the recording
abbrev pub AreRecordedCauses : Recorded → List WaitCause → Type 0
AreRecordedCauses r causes = causes ≡ causes_by (instance_of_recording r).devices (instance_of_recording r).rounds (recorded_cause (instance_of_recording r) (live_of_recording r))
