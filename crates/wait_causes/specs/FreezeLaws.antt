-- the freezes and what stays waited for their causes
use Rattle.std.specs.Prelude.{◌≡◌, ℕ, List, IsTrue, sum_by}
use Rattle.wait_causes.specs.Words.{Topology, IsConfig, history_rules, is_legal, Event, FreezeKind}
use Rattle.wait_causes.specs.Freezes.{freezes, cause_of, cost_of}
use Rattle.wait_causes.specs.Parts.{measure, Cost}
use Rattle.wait_causes.specs.Stays.{explained_stays}

-- in every legal history the freezes of a kind cost what its stays waited for the kind's cause, by weight
abbrev pub FreezesAddUp : Type 0
FreezesAddUp = (kind : FreezeKind) (c : Topology) (events : List Event) (best : List ℕ) → IsConfig c → IsTrue (is_legal history_rules c events) →
    cost_of kind (freezes c events (explained_stays c events best)) ≡ sum_by (measure (Cost (cause_of kind))) (explained_stays c events best)
