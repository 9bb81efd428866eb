-- what the rounds of stays are counted by
use Rattle.std.specs.Prelude.{◌≡◌, ℕ, ◌+◌, ◌*◌, ◌<◌, ◌≤◌, ◌⊎◌, List, [], length, map, All, get_or, Vec}
use Rattle.std.specs.Global.{Global}
use Rattle.std.specs.List.{range_with_len}
pub use Rattle.cam_types.specs.declared.limits.TheConstants.{MAX_WEIGHT}
use Rattle.round_net.specs.Instance.{Instance}
use Rattle.wait_causes.specs.Behind.{behind_in, behind_by, FullBehind}
use Rattle.wait_causes.specs.Origins.{Origin, instance_in, live_in, cause_of}
use Rattle.wait_causes.specs.Stays.{rounds_by, ExplainedStay}
use Rattle.wait_causes.specs.Totals.{totals_by}
use Rattle.wait_causes.specs.declared.explained_stay.CauseRounds.{CauseRounds}

-- the stay is one of the net: its device, its weight, its arrival and its send
pub record IsWithin (net : Instance) (s : ExplainedStay) : Type 0 where
  pub device : s.device < net.devices
  pub weight : s.weight ≤ MAX_WEIGHT
  pub first : 1 ≤ s.arrival
  pub last : s.live ≤ net.rounds

abbrev pub AreWithin : Instance → List ExplainedStay → Type 0
AreWithin net stays = All (IsWithin net) stays

-- the rounds of a device before each one, by cause, and those in which a stay of a weight there waits behind others
abbrev pub causes_before : Origin → ℕ → List CauseRounds
causes_before o d = totals_by rounds_by (cause_of o d) (instance_in o).rounds

abbrev pub behind_before : Origin → ℕ → ℕ → List FullBehind
behind_before o d w = totals_by behind_by (behind_in (instance_in o) (live_in o) (cause_of o) d w) (instance_in o).rounds

-- each device has its list
abbrev pub AreCauseTotals : Origin → List (Vec CauseRounds Global) → Type 0
AreCauseTotals o totals = map (λ (v : Vec CauseRounds Global). v.items) totals ≡ map (causes_before o) (range_with_len 0 (instance_in o).devices)

-- where the list of a weight on a device stands, and the list
abbrev pub key_of : ℕ → ℕ → ℕ
key_of device weight = device * (MAX_WEIGHT + 1) + weight

abbrev pub list_of : List (Vec FullBehind Global) → ℕ → List FullBehind
list_of totals key = get_or (map (λ (v : Vec FullBehind Global). v.items) totals) key []

-- each weight on each device has its list, or an empty one
pub record AreBehindTotals (o : Origin) (totals : List (Vec FullBehind Global)) : Type 0 where
  pub all : length totals ≡ key_of (instance_in o).devices 0
  pub each : (d w : ℕ) → w ≤ MAX_WEIGHT → (list_of totals (key_of d w) ≡ []) ⊎ (list_of totals (key_of d w) ≡ behind_before o d w)

-- a weight on a device has its list
abbrev pub IsFilled : Origin → ℕ → ℕ → List (Vec FullBehind Global) → Type 0
IsFilled o d w totals = list_of totals (key_of d w) ≡ behind_before o d w
