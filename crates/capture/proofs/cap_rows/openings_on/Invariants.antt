use Rattle.std.proofs.Common.{◌≡◌, ◌≤◌, ◌*◌}
use Rattle.recording_file.specs.Caps.{openings, part_of}
use Rattle.recording_file.specs.declared.part.PartKind.TheVariants as kind
use Rattle.capture.proofs.CapRowLemmas.{sum_below}
use Rattle.capture.proofs.cap_rows.openings_on.Given as goal

-- the sum over the devices so far
abbrev pub invariant-loop-number : goal.invariant-loop-number
invariant-loop-number l = record {
  sum : l.sum ≡ sum_below l.config l.adapter (λ n. openings l.config (part_of kind.Device n)) l.number;
  small : l.sum ≤ l.number * 4294967295;
}
