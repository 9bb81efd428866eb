use Rattle.std.proofs.Common.{arith, ◌∙◌, sym}
use Rattle.record_text.proofs.CutLemmas.{count_field, count_nothing, count_record, cuts, read_more}
use Rattle.record_text.proofs.text_front.ninth_field.Goals.{in-Nothing, in-Field-2, in-Record}
use Rattle.record_text.proofs.text_front.ninth_field.Goals as goal

pub returns-in-Field : goal.returns-in-Field
returns-in-Field c =
    let inv = c.loop-at.invariant in
    let ends = sym c.after-next.ensures.effect ∙ c.in-Field.is in
    (omega arith, omega arith, cuts c.args.text.now c.loop-at.at _ c.loop-at.fields (omega arith) inv.0 ends (omega arith))

pub loop-at-preserved : goal.loop-at-preserved
loop-at-preserved c =
    let inv = c.loop-at.invariant in
    let was = sym c.after-next.ensures.effect in
    elim c.match-effect.branch [
      | in-Nothing w ↦ rw w.fields-is (read_more c.args.text.now c.loop-at.at _ _ _ _ (omega arith) inv.0 c.after-next.ensures.place (count_nothing _ _ (was ∙ w.in-Nothing.is)), omega arith, omega arith)
      | in-Field-2 w ↦ rw w.fields-is (read_more c.args.text.now c.loop-at.at _ _ _ _ (omega arith) inv.0 c.after-next.ensures.place (count_field _ _ (was ∙ w.in-Field.is)), omega arith, omega arith)
      | in-Record w ↦ rw w.fields-is (read_more c.args.text.now c.loop-at.at _ _ _ _ (omega arith) inv.0 c.after-next.ensures.place (count_record _ _ (was ∙ w.in-Record.is)), omega arith, omega arith)
    ]
