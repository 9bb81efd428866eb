-- who was in the way of the stays that waited for a device in a round
use Rattle.std.specs.Prelude.{◌≡◌, ℕ, ◌+◌, ◌<◌, ◌≤◌, ◌==◌, ◌&&◌, ◌||◌, Bool, true, false, nat_lt, nat_le, min, max, if◌then◌else◌, List, filter, fold, Option, Some, None, unwrap_or, slice_get, get_or, length, option_and_then}
use Rattle.std.specs.Option.{option_map}
use Rattle.cam_types.specs.Questions.{adapter_link, is_on}
use Rattle.cam_types.specs.Topology.{Topology}
use Rattle.cam_types.specs.declared.device.Device.{Device}
use Rattle.round_net.specs.declared.cause.WaitCause.{WaitCause}
use Rattle.round_net.specs.declared.cause.WaitCause.TheVariants.{DeviceStopped, AdapterStopped, LinkStopped, DeviceFull, AdapterFull, LinkFull}
use Rattle.wait_causes.specs.Origins.{cause_of, config_in, instance_in, known_of}
use Rattle.wait_causes.specs.declared.origin.Origin.{Origin}
use Rattle.wait_causes.specs.declared.explained_stay.ExplainedStay.{ExplainedStay}

-- the link that a device is on, if it is on one
abbrev pub device_link : Topology → ℕ → Option ℕ
device_link c d = option_and_then (adapter_link c) (option_map (λ (device : Device). device.bus) (slice_get c.devices d))

-- an adapter and a device are on one link
abbrev pub is_same_link : Option ℕ → Option ℕ → Bool
is_same_link (Some l) (Some m) = l == m
is_same_link _ _ = false

abbrev pub shares_link : Topology → ℕ → ℕ → Bool
shares_link c a d = is_same_link (adapter_link c a) (device_link c d)

-- a stay is at the device, adapter or link for which the stays of a device waited
abbrev pub is_there : Topology → ℕ → WaitCause → ExplainedStay → Bool
is_there c d DeviceFull s = s.device == d
is_there c d DeviceStopped s = s.device == d
is_there c d AdapterFull s = is_on c s.adapter d
is_there c d AdapterStopped s = is_on c s.adapter d
is_there c d LinkFull s = shares_link c s.adapter d
is_there c d LinkStopped s = shares_link c s.adapter d
is_there c d _ s = false

-- stays waited for what is above the device: for its adapter, or for the adapter's link
abbrev pub is_above : WaitCause → Bool
is_above AdapterFull = true
is_above AdapterStopped = true
is_above LinkFull = true
is_above LinkStopped = true
is_above _ = false

-- those of a device never did, up to a round
abbrev pub NeverAbove : Origin → ℕ → ℕ → Type 0
NeverAbove o d n = (r : ℕ) → 1 ≤ r → r ≤ n → is_above (cause_of o d r) ≡ false

-- the last round in which a stay is in service, of that many rounds: that of its completion; without one, its last round
abbrev pub served_to : ℕ → ExplainedStay → ℕ
served_to rounds s = unwrap_or s.done (unwrap_or s.last rounds)

-- it is in service in a round: it was sent before, and is completed in this round or later
abbrev pub is_served : ℕ → ℕ → ExplainedStay → Bool
is_served rounds r s = nat_lt s.live r && nat_le r (served_to rounds s)

-- what was full sent it in the round, or what took nothing had it in service, where it is known when stays were completed
abbrev pub is_then : Bool → ℕ → WaitCause → ℕ → ExplainedStay → Bool
is_then known rounds DeviceFull r s = s.live == r
is_then known rounds AdapterFull r s = s.live == r
is_then known rounds LinkFull r s = s.live == r
is_then known rounds DeviceStopped r s = known && is_served rounds r s
is_then known rounds AdapterStopped r s = known && is_served rounds r s
is_then known rounds LinkStopped r s = known && is_served rounds r s
is_then known rounds _ r s = false

-- one of those that may have been in the way
abbrev pub is_candidate : Origin → ℕ → ℕ → ExplainedStay → Bool
is_candidate o d r s = is_there (config_in o) d (cause_of o d r) s && is_then (known_of o).completions (instance_in o).rounds (cause_of o d r) r s

-- of two the one that is rather in the way: that of the smaller weight, of equals the one that arrived last, then the later one
abbrev pub rather : Option ExplainedStay → ExplainedStay → ExplainedStay
rather None s = s
rather (Some t) s = if nat_lt t.weight s.weight || ((t.weight == s.weight) && nat_lt s.arrival t.arrival) then t else s

-- who was in the way of a device's stays in a round, if anybody was
abbrev pub first_of : List ExplainedStay → Option ExplainedStay
first_of stays = fold (λ t s. Some (rather t s)) None stays

unfoldable pub in_way : Origin → List ExplainedStay → ℕ → ℕ → Option ExplainedStay
in_way o stays d r = first_of (filter (is_candidate o d r) stays)

-- a list has all of those that may have been in the way of a device's stays, in their order
abbrev pub HasCandidates : Origin → ℕ → List ExplainedStay → List ExplainedStay → Type 0
HasCandidates o d stays list = (r : ℕ) → 1 ≤ r → r ≤ (instance_in o).rounds → filter (is_candidate o d r) list ≡ filter (is_candidate o d r) stays

-- the last round in which it may be in the way
abbrev pub last_for : Bool → ℕ → ExplainedStay → ℕ
last_for known rounds s = min (if known then max (served_to rounds s) s.live else s.live) rounds

-- what stands in a round of a device, with one more stay, if that may have been in the way
abbrev pub with_candidate : Origin → ℕ → ℕ → ExplainedStay → Option ExplainedStay → Option ExplainedStay
with_candidate o d r s w = if is_candidate o d r s then Some (rather w s) else w

-- it stands so in each round
pub record ArePut (o : Origin) (d : ℕ) (s : ExplainedStay) (old new : List (Option ExplainedStay)) : Type 0 where
  pub all : length new ≡ length old
  pub each : (k : ℕ) (x : Option ExplainedStay) → k < length old → get_or new k x ≡ with_candidate o d (k + 1) s (get_or old k x)
