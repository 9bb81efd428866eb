use Rattle.std.proofs.Common.{◌≡◌, sym, true}
use Rattle.csv.specs.Records.{fields_of}
use Rattle.record_text.specs.Fields.{field_of}
use Rattle.trace_file.specs.ScriptReading.{is_config_word}
use Rattle.trace_file.specs.Sound.{IsSoundScript}
use Rattle.record_text.proofs.RecordLemmas.{took_ok}
use Rattle.trace_file.proofs.ScriptParserLemmas.{configures}
use Rattle.trace_file.proofs.script_parser.take_config.Goals as goal

pub returns-clause-sound : goal.returns-clause-sound
unfolding IsSoundScript
returns-clause-sound c =
    let row = fields_of c.args.row.now in
    let word : is_config_word (field_of row 0) ≡ true = rw c.field.ensures at (sym c.if-not-is_config_word.ensures) in
    (c.in_ok-parser.ensures.sound, configures c.args.number c.args.parser c.in_ok-parser.parser row word (took_ok _ _ _ _ c.take_row.ensures.value c.in_ok-parser.was))
