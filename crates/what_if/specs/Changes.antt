-- changes of a net: more openings for a device, an adapter or a link
use Rattle.std.specs.Prelude.{ℕ, ◌+◌, ◌*◌, ◌==◌, ◌<◌, ◌≤◌, Bool, true, nat_lt, nat_le, ◌&&◌, min, max, if◌then◌else◌, List, filter}
use Rattle.cam_types.specs.Topology.{Topology}
use Rattle.cam_types.specs.Questions.{device_openings, adapter_openings, link_openings}
use Rattle.round_net.specs.Instance.{Instance, adapter_resource, link_resource}
use Rattle.round_net.specs.declared.limits.TheConstants.{MAX_CAP}
pub use Rattle.what_if.specs.declared.change.Change.{Change}
pub use Rattle.what_if.specs.declared.change.Resource.{Resource}
pub use Rattle.what_if.specs.declared.change.Resource.TheVariants.{Device, Adapter, Link}
pub use Rattle.what_if.specs.declared.change.Widening.{Widening}
pub use Rattle.what_if.specs.declared.change.Widening.TheVariants.{More, Times, AtLeast, NeverStopped}

-- what a resource takes in a round by a widening, where it took `most` and has these openings by the configuration
abbrev pub widened : Widening → ℕ → ℕ → ℕ
widened (More n) openings most = if most == 0 then 0 else min (most + n) MAX_CAP
widened (Times n) openings most = min (most * n) MAX_CAP
widened (AtLeast n) openings most = if most == 0 then 0 else max most n
widened NeverStopped openings most = if most == 0 then openings else most

-- its number is from 1 to the most that a row takes in a round
abbrev pub HasNumber : Widening → Type 0
HasNumber (More n) = (1 ≤ n) × (n ≤ MAX_CAP)
HasNumber (Times n) = (1 ≤ n) × (n ≤ MAX_CAP)
HasNumber (AtLeast n) = (1 ≤ n) × (n ≤ MAX_CAP)
HasNumber NeverStopped = Unit {0}

-- it is a device, an adapter or a link of the net
abbrev pub IsResourceOf : Instance → Resource → Type 0
IsResourceOf net (Device d) = d < net.devices
IsResourceOf net (Adapter a) = a < net.adapters
IsResourceOf net (Link l) = l < net.links

-- its row
abbrev pub row_of : Instance → Resource → ℕ
row_of net (Device d) = d
row_of net (Adapter a) = adapter_resource net a
row_of net (Link l) = link_resource net l

-- its openings by the configuration
abbrev pub openings_of : Topology → Resource → ℕ
openings_of c (Device d) = device_openings c d
openings_of c (Adapter a) = adapter_openings c a
openings_of c (Link l) = link_openings c l

-- a change of a resource of the net, by a number that may be
pub record IsChangeOf (net : Instance) (change : Change) : Type 0 where
  pub resource : IsResourceOf net change.resource
  pub number : HasNumber change.widening

-- whether it is a device, an adapter or a link of the net
abbrev pub is_resource_of : Instance → Resource → Bool
is_resource_of net (Device d) = nat_lt d net.devices
is_resource_of net (Adapter a) = nat_lt a net.adapters
is_resource_of net (Link l) = nat_lt l net.links

-- whether a number is from 1 to the most that a row takes in a round
abbrev pub may_be : ℕ → Bool
may_be n = nat_le 1 n && nat_le n MAX_CAP

-- whether a widening has such a number, or needs none
abbrev pub has_number : Widening → Bool
has_number (More n) = may_be n
has_number (Times n) = may_be n
has_number (AtLeast n) = may_be n
has_number NeverStopped = true

-- whether it is a change of the net: a resource of the net, and a number that may be
abbrev pub is_change : Instance → Change → Bool
is_change net change = is_resource_of net change.resource && has_number change.widening

-- those of a list that are changes of the net, in order
abbrev pub changes_in : Instance → List Change → List Change
changes_in net changes = filter (is_change net) changes
