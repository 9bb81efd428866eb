use Rattle.recording_file.specs.Caps.{part_of}
use Rattle.recording_file.specs.declared.part.PartKind.TheVariants as kind
use Rattle.capture.specs.Captured.{own_cap}
use Rattle.capture.proofs.CapRowLemmas.{IsSumRow}
use Rattle.capture.proofs.cap_rows.devices_row.Given as goal

-- what the devices so far take together
abbrev pub invariant-loop-number : goal.invariant-loop-number
invariant-loop-number l = IsSumRow l.config l.adapter (λ n r. own_cap l.config l.rated l.spare l.requests (part_of kind.Device n) r) l.number l.last l.sums.items
