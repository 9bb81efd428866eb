-- the causes of a device's rounds, by the table of rounds
use Rattle.std.proofs.Common.{◌≡◌, ℕ, ◌+◌, ◌-◌, ◌*◌, ◌<◌, List, length, ◌∙◌, false}
use Rattle.std.proofs.lemmas.Option.{unwrap_or-slice_get}
use Rattle.wait_causes.specs.Words.{Topology, Event, cause_at, cause_table, cause_in, numbers, is_frozen_at, flag_table, flag_in, NotAsked, FreezeKind}
use Rattle.round_net.proofs.EndLemmas.{at_ends-at}
use Rattle.wait_causes.specs.Causes.{round_cause}
use Rattle.wait_causes.specs.Freezes.{is_frozen_in}

-- what stands for a device in a round is what held it up there
pub cause_in-table : (c : Topology) (es : List Event) (d r : ℕ) → d < length c.devices → cause_in c es d r ≡ round_cause c es d r
unfolding round_cause
cause_in-table c es d r lt =
    unwrap_or-slice_get (cause_table c es) ((r - 1) * length c.devices + d) NotAsked
    ∙ at_ends-at (cause_at c) (length c.devices) es (r - 1) d NotAsked lt

-- what stands for a number in a round is whether it was frozen there
pub flag_in-table : (kind : FreezeKind) (c : Topology) (es : List Event) (n r : ℕ) → n < numbers kind c → flag_in kind c es n r ≡ is_frozen_in kind es n r
unfolding is_frozen_in
flag_in-table kind c es n r lt =
    unwrap_or-slice_get (flag_table kind c es) ((r - 1) * numbers kind c + n) false
    ∙ at_ends-at (is_frozen_at kind) (numbers kind c) es (r - 1) n false lt
