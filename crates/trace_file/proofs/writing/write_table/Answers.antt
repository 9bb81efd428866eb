use Rattle.std.proofs.Common.{◌≡◌, ◌∙◌, false, sym}
use Rattle.trace_file.specs.Versions.{has_table}
use Rattle.record_text.proofs.WritingLemmas.{wrote_none}
use Rattle.trace_file.proofs.writing.write_table.Goals as goal

pub returns-else-has_table : goal.returns-else-has_table
returns-else-has_table c =
    let none : has_table c.args.version ≡ false = sym c.has_table.ensures ∙ c.if-has_table.false in
    rw none (wrote_none c.args.writer.now c.requires)
