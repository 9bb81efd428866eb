-- what held where the rounds of a history ended
use Rattle.std.specs.Prelude.{◌≡◌, ℕ, ◌+◌, ◌-◌, ◌*◌, ◌==◌, Bool, true, false, not, if◌then◌else◌, nat_lt, List, length, map, filter, flat_map, slice_get, unwrap_or}
use Rattle.std.specs.List.{range_with_len}
use Rattle.round_net.specs.Words.{prefixed, Topology, device_adapter, is_tick, error_count, caller_count, adapter_freezes, has_opening, adapter_has_opening, link_has_opening, Event}
use Rattle.round_net.specs.declared.cause.WaitCause as waiting
use Rattle.round_net.specs.declared.cause.WaitCause.TheVariants as why
use Rattle.round_net.specs.declared.freeze_kind.FreezeKind.{FreezeKind}
pub use Rattle.round_net.specs.declared.freeze_kind.FreezeKind.TheVariants.{Error, Caller, Adapter}
use Rattle.round_net.specs.declared.round_ends.RoundEnds.{RoundEnds}

-- the places where a round ended, in order: each by the events before its tick
unfoldable pub round_ends : List Event → List (List Event)
round_ends events =
    map (λ (m : List Event × Event). m.0) (filter (λ (m : List Event × Event). is_tick m.1) (prefixed events))

-- what holds of that many devices or adapters at each of them, one round after the other
unfoldable pub at_ends : {X : Type 0} → (List Event → ℕ → X) → ℕ → List Event → List X
at_ends held n events = flat_map (λ before. map (held before) (range_with_len 0 n)) (round_ends events)

-- two causes are the same
abbrev pub is_cause : waiting.WaitCause → waiting.WaitCause → Bool
is_cause why.Error why.Error = true
is_cause why.Caller why.Caller = true
is_cause why.AdapterFrozen why.AdapterFrozen = true
is_cause why.DeviceStopped why.DeviceStopped = true
is_cause why.AdapterStopped why.AdapterStopped = true
is_cause why.LinkStopped why.LinkStopped = true
is_cause why.DeviceFull why.DeviceFull = true
is_cause why.AdapterFull why.AdapterFull = true
is_cause why.LinkFull why.LinkFull = true
is_cause why.NotAsked why.NotAsked = true
is_cause _ _ = false

-- whether a configuration lets a cause hold: links are stopped or full only where there are links
abbrev pub can_hold : waiting.WaitCause → Topology → Bool
can_hold why.LinkStopped c = nat_lt 0 (length c.links)
can_hold why.LinkFull c = nat_lt 0 (length c.links)
can_hold _ c = true

-- what holds up the stays of a device at a place: the first that holds
unfoldable pub cause_at : Topology → List Event → ℕ → waiting.WaitCause
cause_at c events d =
    if not (error_count events d == 0) then why.Error
    else if not (caller_count events d == 0) then why.Caller
    else if not (adapter_freezes events (device_adapter c d) == 0) then why.AdapterFrozen
    else if not (has_opening c events d) then why.DeviceFull
    else if not (adapter_has_opening c events (device_adapter c d)) then why.AdapterFull
    else if not (link_has_opening c events (device_adapter c d)) then why.LinkFull
    else why.NotAsked

-- how many devices there are, or adapters
abbrev pub numbers : FreezeKind → Topology → ℕ
numbers Error c = length c.devices
numbers Caller c = length c.devices
numbers Adapter c = length c.adapters

-- whether a device or an adapter is frozen at a place
abbrev pub is_frozen_at : FreezeKind → List Event → ℕ → Bool
is_frozen_at Error events d = not (error_count events d == 0)
is_frozen_at Caller events d = not (caller_count events d == 0)
is_frozen_at Adapter events a = not (adapter_freezes events a == 0)

-- the causes of all devices in each round that ended, and what was frozen at its end
abbrev pub cause_table : Topology → List Event → List waiting.WaitCause
cause_table c events = at_ends (cause_at c) (length c.devices) events

abbrev pub flag_table : FreezeKind → Topology → List Event → List Bool
flag_table kind c events = at_ends (is_frozen_at kind) (numbers kind c) events

-- what stands there for a device in a round, and for a device or an adapter
abbrev pub cause_in : Topology → List Event → ℕ → ℕ → waiting.WaitCause
cause_in c events d r = unwrap_or (slice_get (cause_table c events) ((r - 1) * length c.devices + d)) why.NotAsked

abbrev pub flag_in : FreezeKind → Topology → List Event → ℕ → ℕ → Bool
flag_in kind c events n r = unwrap_or (slice_get (flag_table kind c events) ((r - 1) * numbers kind c + n)) false

-- the flags of a kind
abbrev pub flags_of : FreezeKind → RoundEnds → List Bool
flags_of Error e = e.errors.items
flags_of Caller e = e.callers.items
flags_of Adapter e = e.adapters.items

-- the tables are those of a history
pub record AreEnds (c : Topology) (events : List Event) (e : RoundEnds) : Type 0 where
  pub causes : e.causes.items ≡ cause_table c events
  pub errors : e.errors.items ≡ flag_table Error c events
  pub callers : e.callers.items ≡ flag_table Caller c events
  pub adapters : e.adapters.items ≡ flag_table Adapter c events
