-- how many commands the rows of a history take in each round
use Rattle.std.specs.Prelude.{◌≡◌, ℕ, ◌+◌, ◌-◌, ◌<◌, ◌==◌, Bool, ◌&&◌, if◌then◌else◌, nat_lt, List, [], ◌∷◌, ◌++◌, length, map, filter, count_by, slice_get}
use Rattle.std.specs.List.{list_all}
use Rattle.std.specs.Option.{option_map_or}
use Rattle.round_net.specs.Words.{prefixed, Topology, round, sendings, freeze_count, adapter_freezes, is_on, is_under, adapter_openings, link_openings, openings, Event, Sending}
use Rattle.round_net.specs.declared.resource_state.Resource.{Resource}
use Rattle.round_net.specs.declared.resource_state.Resource.TheVariants.{Device, Adapter, Link}

-- the places of a history, from the first to the last, each by the events before it
abbrev pub fronts : List Event → List (List Event)
fronts events = map (λ (m : List Event × Event). m.0) (prefixed events) ++ events ∷ []

-- the places of a round
abbrev pub places : List Event → ℕ → List (List Event)
places events r = filter (λ before. round before == r) (fronts events)

-- how many rows there are: one for each device, after these one for each adapter, and after these one for each link
abbrev pub resource_count : Topology → ℕ
resource_count c = length c.devices + length c.adapters + length c.links

-- it is the row of this device, of this adapter, or of this link
abbrev pub IsResourceOf : Topology → ℕ → Resource → Type 0
IsResourceOf c row (Device d) = (row ≡ d) × (d < length c.devices)
IsResourceOf c row (Adapter a) = (row ≡ length c.devices + a) × (a < length c.adapters)
IsResourceOf c row (Link l) = (row ≡ length c.devices + length c.adapters + l) × (l < length c.links)

-- what a row's device has, or its adapter, or its link
abbrev pub by_row : {A : Type 0} → Topology → (ℕ → A) → (ℕ → A) → (ℕ → A) → ℕ → A
by_row c of_device of_adapter of_link row =
    if nat_lt row (length c.devices) then of_device row
    else (if nat_lt row (length c.devices + length c.adapters) then of_adapter (row - length c.devices)
    else of_link (row - (length c.devices + length c.adapters)))

-- its freezes, which a link has none of, and its openings at a place
unfoldable pub resource_freezes : Topology → List Event → ℕ → ℕ
resource_freezes c before row = by_row c (freeze_count before) (adapter_freezes before) (λ l. 0) row

unfoldable pub resource_openings : Topology → List Event → ℕ → ℕ
resource_openings c before row = by_row c (openings c before) (adapter_openings c) (link_openings c) row

-- whether a command to a device uses an opening of the row: that of the device itself, of its adapter, or of the adapter's
-- link
abbrev pub carries : Topology → ℕ → ℕ → Bool
carries c row device = by_row c (λ d. device == d) (λ a. is_on c a device) (λ l. is_under c l device) row

-- no freeze of the row stands at any place of the round
unfoldable pub is_free : Topology → List Event → ℕ → ℕ → Bool
is_free c events row r = list_all (λ before. resource_freezes c before row == 0) (places events r)

-- the row's openings in the round, which are the same at each of its places
unfoldable pub openings_in : Topology → List Event → ℕ → ℕ → ℕ
openings_in c events row r = option_map_or (λ before. resource_openings c before row) (slice_get (places events r) 0) 0

-- how many sends of the round used an opening of the row
unfoldable pub sends_in : Topology → List Event → ℕ → ℕ → ℕ
sends_in c events row r = count_by (λ (s : Sending). carries c row s.device && (s.round == r)) (sendings events)

-- A row takes as many commands in a round as it has openings, and where a freeze stood anywhere in the round as many as were
-- sent.
unfoldable pub cap : Topology → List Event → ℕ → ℕ → ℕ
cap c events row r = if is_free c events row r then openings_in c events row r else sends_in c events row r
