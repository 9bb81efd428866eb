use Rattle.std.proofs.Common.{◌∙◌, sym, arith, eqb-true}
use Rattle.csv.specs.Records.{fields_of}
use Rattle.record_text.proofs.FieldLemmas.{unused_step}
use Rattle.record_text.proofs.fields.unused_from.Goals as goal

pub loop-place-preserved : goal.loop-place-preserved
loop-place-preserved c =
    let row = fields_of c.args.row.now in
    let empty = rw c.field.ensures at (eqb-true _ _ (sym c.if-not-is_empty.ensures)) in
    (omega arith, sym (unused_step row c.loop-place.place (omega arith) empty) ∙ c.loop-place.invariant.1)
