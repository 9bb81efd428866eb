-- the rows of a table and the whole
use Rattle.std.specs.Prelude.{◌≡◌, ℕ, List, sum_by, unwrap_or}
use Rattle.wait_causes.specs.Behind.{LessUrgent, Equal, MoreUrgent}
use Rattle.wait_causes.specs.Origins.{Known}
use Rattle.wait_causes.specs.Parts.{part_of, Measure, Waited, Live, Pace, Best, Cost, Full, Part}
use Rattle.wait_causes.specs.Tables.{table_of, Grouping}
use Rattle.round_net.specs.declared.cause.WaitCause.TheVariants.{Error, Caller, AdapterFrozen, DeviceStopped, AdapterStopped, LinkStopped, DeviceFull, AdapterFull, LinkFull, NotAsked}
use Rattle.wait_causes.specs.Stays.{ExplainedStay}
use Rattle.wait_causes.specs.declared.table.Row as table

-- what a part has of a measure; of a pace that isn't known it has 0
abbrev pub amount : Measure → Part → ℕ
amount Waited p = p.waited
amount Live p = p.live
amount Pace p = unwrap_or p.pace 0
amount Best p = p.best
amount (Cost Error) p = p.costs.error
amount (Cost Caller) p = p.costs.caller
amount (Cost AdapterFrozen) p = p.costs.adapter_frozen
amount (Cost DeviceStopped) p = p.costs.device_stopped
amount (Cost AdapterStopped) p = p.costs.adapter_stopped
amount (Cost LinkStopped) p = p.costs.link_stopped
amount (Cost DeviceFull) p = p.costs.device_full
amount (Cost AdapterFull) p = p.costs.adapter_full
amount (Cost LinkFull) p = p.costs.link_full
amount (Cost NotAsked) p = p.costs.not_asked
amount (Full LessUrgent) p = p.behind.less_urgent
amount (Full Equal) p = p.behind.equal
amount (Full MoreUrgent) p = p.behind.more_urgent

-- in every table the rows have all stays, and of each measure they have together what the whole has
abbrev pub RowsAddUp : Type 0
RowsAddUp = (known : Known) (by : Grouping) (stays : List ExplainedStay) →
    (sum_by (λ (row : table.Row). row.part.stays) (table_of known by stays) ≡ (part_of known stays).stays)
    × ((of : Measure) → sum_by (λ (row : table.Row). amount of row.part) (table_of known by stays) ≡ amount of (part_of known stays))
