use Rattle.std.proofs.Common.{◌≡◌, ◌∙◌, sym, refl, Some}
use Rattle.csv.specs.Records.{fields_of}
use Rattle.recording_file.specs.Reading.{placed, row_step}
use Rattle.recording_file.proofs.ParserReady.{ready_row, stands_at}
use Rattle.recording_file.proofs.recording_parser.RecordingParser.take_row.Goals as goal

pub take_word-requires-clause-at : goal.take_word-requires-clause-at
take_word-requires-clause-at c = rw c.ready_for.ensures.value (stands_at c.args.self c.in-Some.word c.in-Some.ensures.place)

pub returns-in-Some-clause-value : goal.returns-in-Some-clause-value
unfolding row_step
returns-in-Some-clause-value c = λ other.
    let found : placed c.args.self (fields_of c.args.row.now) ≡ Some c.in-Some.word = sym c.placed.ensures.value ∙ c.in-Some.is in
    let taken = rw c.ready_for.ensures.value at c.take_word.ensures.value in
    taken other ∙ ready_row c.args.number c.args.self c.in-Some.word (fields_of c.args.row.now) ∙ rw found refl
