-- what has to be the same before and after if costs are to compare
use Rattle.std.specs.Prelude.{◌≡◌, ◌≢◌, ℕ, ◌==◌, ◌&&◌, ◌||◌, Bool, true, false, not, List, length, Option, Some, None, is_some, slice_get}
use Rattle.std.specs.List.{list_all, list_any, range_with_len}
use Rattle.std.specs.Option.{option_map_or}
use Rattle.cam_types.specs.Topology.{Topology}
use Rattle.cam_types.specs.declared.device.Device.{Device}
use Rattle.recording_file.specs.Names.{NameValue}
use Rattle.recording_file.specs.declared.name.NameKind.{NameKind}
use Rattle.recording_file.specs.declared.span.Span.{Span}
use Rattle.wait_causes.specs.declared.table.Grouping.TheVariants as grouping
use Rattle.wait_causes.specs.Keys.{name_of, is_pair, names_for}
use Rattle.wait_causes.specs.declared.differences.Differences.{Differences}
use Rattle.wait_causes.specs.declared.keys.PairBy.{PairBy}

-- the answer is whether the two differ
abbrev pub Tells : {X : Type 0} → Bool → X → X → Type 0
Tells stated x y = (stated ≡ true → x ≢ y) × (stated ≡ false → x ≡ y)

-- A device is as another: on the same adapter, with as many openings; without a name also at the same place there. Where a
-- device with a name stands on its adapter may be just its number.
abbrev pub is_like : Bool → Device → Device → Bool
is_like named a b = (a.bus == b.bus) && ((a.openings == b.openings) && (named || ((a.target == b.target) && (a.lun == b.lun))))

-- the device that is a pair with the one of this number is like it
abbrev pub has_like : NameKind → List NameValue → List NameValue → List Device → ℕ → Device → Bool
has_like k was now after n d =
    list_any (λ m. is_pair (Some k) was now n m && option_map_or (is_like (is_some (name_of was k n)) d) (slice_get after m) false) (range_with_len 0 (length after))

-- each of these devices has one like it among the others
abbrev pub all_like : NameKind → List NameValue → List NameValue → List Device → List Device → Bool
all_like k was now before after =
    list_all (λ n. option_map_or (has_like k was now after n) (slice_get before n) true) (range_with_len 0 (length before))

-- the answer is whether the devices differ: one by one, or by their names
abbrev pub TellsDevices : Option NameKind → List NameValue → List NameValue → List Device → List Device → Bool → Type 0
TellsDevices None was now before after stated = Tells stated before after
TellsDevices (Some k) was now before after stated = stated ≡ not (all_like k was now before after && all_like k now was after before)

-- weights, links, adapters, devices and the length of a round
pub record AreDifferences (by : PairBy) (before after : Topology) (was now : List NameValue) (round_before round_after : Option Span) (d : Differences) : Type 0 where
  pub weights : Tells d.weights before.weights after.weights
  pub links : Tells d.links before.links after.links
  pub adapters : Tells d.adapters before.adapters after.adapters
  pub devices : TellsDevices (names_for by grouping.Device was now) was now before.devices after.devices d.devices
  pub round : Tells d.round round_before round_after
