use Rattle.std.proofs.Common.{◌≡◌, ◌∙◌, ap, sym, length, arith}
use Rattle.std.proofs.lemmas.List.{with_items_is}
use Rattle.recording_file.specs.Caps.{part_of}
use Rattle.recording_file.specs.declared.part.PartKind.TheVariants as kind
use Rattle.capture.specs.Captured.{own_cap}
use Rattle.capture.proofs.CapRowLemmas.{sum_row_taken, sum_row_passed}
use Rattle.capture.proofs.cap_rows.devices_row.Goals as goal
use Rattle.capture.proofs.cap_rows.devices_row.Goals.{then-is_on+in_ok-own, else-is_on}

pub loop-number-preserved : goal.loop-number-preserved
loop-number-preserved c =
    let a = c.args in
    let n = c.loop-number.number in
    elim c.if-is_on.branch [
      | then-is_on+in_ok-own w ↦
          let size = w.add_row.auto.sums in
          let many : length w.add_row.new.sums ≡ length c.loop-number.sums.items = size ∙ ap length w.deref_mut.ensures.value in
          rw (w.sums-is, with_items_is c.loop-number.sums w.add_row.new.sums (omega (arith, many))) (sum_row_taken a.config.now a.adapter (λ n r. own_cap a.config.now a.rated.now a.spare.now a.requests.now (part_of kind.Device n) r) n a.last c.loop-number.sums.items w.in_ok-own.own.items w.add_row.new.sums (sym c.is_on.ensures ∙ w.if-is_on.true) c.loop-number.invariant w.in_ok-own.ensures many (rw (w.deref_mut.ensures.value, w.deref.ensures.value) at w.add_row.ensures))
      | else-is_on w ↦ rw w.sums-is (sum_row_passed a.config.now a.adapter (λ n r. own_cap a.config.now a.rated.now a.spare.now a.requests.now (part_of kind.Device n) r) n a.last c.loop-number.sums.items (sym c.is_on.ensures ∙ w.if-is_on.false) c.loop-number.invariant)
    ]
