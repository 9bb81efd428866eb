use Rattle.std.proofs.Common.{◌∙◌, sym, arith}
use Rattle.recording_file.specs.Caps.{openings, part_of}
use Rattle.recording_file.specs.declared.part.PartKind.TheVariants as kind
use Rattle.capture.proofs.CapRowLemmas.{sum_taken, sum_passed}
use Rattle.capture.proofs.cap_rows.openings_on.Goals as goal
use Rattle.capture.proofs.cap_rows.openings_on.Goals.{then-is_on, else-is_on}

pub loop-number-preserved : goal.loop-number-preserved
loop-number-preserved c =
    let config = c.args.config.now in
    let n = c.loop-number.number in
    elim c.if-is_on.branch [
      | then-is_on w ↦
          let most = w.openings.type_inv in
          record {
            sum = w.sum-is ∙ rw (w.from-sum.ensures, w.openings.ensures, c.loop-number.invariant.sum) (sym (sum_taken config c.args.adapter n (λ n. openings config (part_of kind.Device n)) (sym c.is_on.ensures ∙ w.if-is_on.true)));
            small = omega (arith, w.sum-is, w.from-sum.ensures, c.loop-number.invariant.small);
          }
      | else-is_on w ↦ record {
        sum = w.sum-is ∙ c.loop-number.invariant.sum ∙ sym (sum_passed config c.args.adapter n (λ n. openings config (part_of kind.Device n)) (sym c.is_on.ensures ∙ w.if-is_on.false));
        small = omega (arith, w.sum-is, c.loop-number.invariant.small);
      }
    ]
