-- the freezes of a history: rounds in a row at whose ends a device or an adapter was frozen
use Rattle.std.specs.Prelude.{ℕ, ◌-◌, ◌*◌, Bool, true, false, not, ◌&&◌, ◌||◌, List, [], ◌++◌, map, filter, flat_map, slice_get, unwrap_or, find, count_by, sum_by, nat_le, nat_lt}
use Rattle.std.specs.List.{range_with_len}
use Rattle.std.specs.Option.{option_map_or}
use Rattle.wait_causes.specs.Words.{Topology, round, Event, round_ends, is_cause, numbers, is_frozen_at, flag_in, cause_in, FreezeKind}
use Rattle.wait_causes.specs.Origins.{Origin}
use Rattle.wait_causes.specs.declared.origin.Origin.TheVariants as origin
use Rattle.wait_causes.specs.Causes.{round_cause}
use Rattle.wait_causes.specs.Tables.{stays_of, Grouping}
use Rattle.round_net.specs.declared.cause.WaitCause as waiting
use Rattle.round_net.specs.declared.cause.WaitCause.TheVariants as why
use Rattle.wait_causes.specs.Stays.{ExplainedStay}
pub use Rattle.wait_causes.specs.declared.freeze.Freeze.{Freeze}
use Rattle.round_net.specs.declared.freeze_kind.FreezeKind.TheVariants.{Error, Caller, Adapter}
use Rattle.wait_causes.specs.declared.table.Grouping.TheVariants as by

-- whether a device or an adapter was frozen at the end of a round that ended
unfoldable pub is_frozen_in : FreezeKind → List Event → ℕ → ℕ → Bool
is_frozen_in kind events n r = option_map_or (λ before. is_frozen_at kind before n) (slice_get (round_ends events) (r - 1)) false

-- a freeze begins in a round at whose end it held, if it didn't hold at the end of the round before
abbrev pub begins : (ℕ → Bool) → ℕ → Bool
begins frozen r = frozen r && (nat_le r 1 || not (frozen (r - 1)))

-- the round after a freeze: the first from there on at whose end it didn't hold, or the one that didn't end
unfoldable pub behind : (ℕ → Bool) → ℕ → ℕ → ℕ
behind frozen last first = unwrap_or (find (λ r. not (frozen r)) (range_with_len first (last - first))) last

-- the rounds from one on, before another
abbrev pub rounds_between : ℕ → ℕ → List ℕ
rounds_between first end = range_with_len first (end - first)

-- why stays wait for a freeze
abbrev pub cause_of : FreezeKind → waiting.WaitCause
cause_of Error = why.Error
cause_of Caller = why.Caller
cause_of Adapter = why.AdapterFrozen

-- whose stays wait for it
abbrev pub grouping_of : FreezeKind → Grouping
grouping_of Error = by.Device
grouping_of Caller = by.Device
grouping_of Adapter = by.Adapter

-- whether a stay waited in a round for a cause, by the causes of each device in each round
abbrev pub waits_for : (ℕ → ℕ → waiting.WaitCause) → waiting.WaitCause → ExplainedStay → ℕ → Bool
waits_for causes cause s r = nat_le s.arrival r && (nat_lt r s.live && is_cause cause (causes s.device r))

-- what a stay waited in some rounds for a cause, by weight
abbrev pub stay_cost : (ℕ → ℕ → waiting.WaitCause) → waiting.WaitCause → List ℕ → ExplainedStay → ℕ
stay_cost causes cause rounds s = s.weight * count_by (waits_for causes cause s) rounds

-- what some stays waited in some rounds for a cause, by weight
unfoldable pub cost_in : (ℕ → ℕ → waiting.WaitCause) → waiting.WaitCause → List ℕ → List ExplainedStay → ℕ
cost_in causes cause rounds stays = sum_by (stay_cost causes cause rounds) stays

-- the freeze of a number that begins in a round, by the stays there
unfoldable pub freeze_from : FreezeKind → ℕ → (ℕ → Bool) → ℕ → (ℕ → ℕ → waiting.WaitCause) → List ExplainedStay → ℕ → Freeze
freeze_from kind n frozen last causes there r = record {
  kind = kind;
  number = n;
  first = r;
  last = behind frozen last r - 1;
  cost = cost_in causes (cause_of kind) (rounds_between r (behind frozen last r)) there;
}

-- the freezes of a number: one from each round in which one begins, of those before the round that didn't end
unfoldable pub freezes_at : FreezeKind → ℕ → (ℕ → Bool) → ℕ → (ℕ → ℕ → waiting.WaitCause) → List ExplainedStay → List Freeze
freezes_at kind n frozen last causes there = map (freeze_from kind n frozen last causes there) (filter (begins frozen) (rounds_between 1 last))

-- the freezes of a kind, by that many numbers and their rounds
unfoldable pub freezes_by : FreezeKind → (ℕ → ℕ → Bool) → ℕ → ℕ → (ℕ → ℕ → waiting.WaitCause) → List ExplainedStay → List Freeze
freezes_by kind frozen count last causes stays = flat_map (λ n. freezes_at kind n (frozen n) last causes (stays_of (grouping_of kind) stays n)) (range_with_len 0 count)

-- the freezes of a kind in a history, whose stays these are
abbrev pub freezes_of : FreezeKind → Topology → List Event → List ExplainedStay → List Freeze
freezes_of kind c events stays = freezes_by kind (is_frozen_in kind events) (numbers kind c) (round events) (round_cause c events) stays

-- all of them: by errors, by callers, then of adapters
unfoldable pub freezes : Topology → List Event → List ExplainedStay → List Freeze
freezes c events stays = freezes_of Error c events stays ++ freezes_of Caller c events stays ++ freezes_of Adapter c events stays

-- the same by what was found of a history, and those of either kind of input: a recording has none
abbrev pub found_of : FreezeKind → Topology → List Event → List ExplainedStay → List Freeze
found_of kind c events stays = freezes_by kind (flag_in kind c events) (numbers kind c) (round events) (cause_in c events) stays

abbrev pub freezes_found : Topology → List Event → List ExplainedStay → List Freeze
freezes_found c events stays = found_of Error c events stays ++ found_of Caller c events stays ++ found_of Adapter c events stays

abbrev pub freezes_in : Origin → List ExplainedStay → List Freeze
freezes_in (origin.Trace past) stays = freezes past.config past.events stays
freezes_in (origin.Recording r) stays = []

-- two kinds are the same
abbrev pub is_kind : FreezeKind → FreezeKind → Bool
is_kind Error Error = true
is_kind Caller Caller = true
is_kind Adapter Adapter = true
is_kind _ _ = false

-- what the freezes of a kind cost, all together
unfoldable pub cost_of : FreezeKind → List Freeze → ℕ
cost_of kind rows = sum_by (λ (f : Freeze). f.cost) (filter (λ (f : Freeze). is_kind kind f.kind) rows)
