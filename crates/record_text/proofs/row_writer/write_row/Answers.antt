use Rattle.std.proofs.Common.{◌≢◌, ◌∙◌}
use Rattle.csv.specs.declared.writer.QuoteStyle.TheVariants as style
use Rattle.record_text.proofs.WritingLemmas.{wrote_one}
use Rattle.record_text.proofs.row_writer.write_row.Goals as goal

pub returns : goal.returns
returns c =
    let before = c.requires in
    let done = c.in-Ok.ensures in
    let plain : c.args.writer.now.cfg.style ≢ style.NonNumeric = rw before.setup (λ e. cc e) in
    let text = rw before.setup at (done.bytes before.fields before.clean plain) in
    wrote_one _ _ _ (record { setup = done.setup ∙ before.setup; fields = done.ended; clean = done.clean }) text
