use Rattle.std.proofs.Common.{◌∙◌, ap, refl, Err}
use Rattle.std.proofs.lemmas.Result.{err_from_is_err_and}
use Rattle.recording_file.specs.Reading.{reading, step, RecordingFault}
use Rattle.recording_file.specs.declared.recording_parser.RecordingParser.TheVariants as parser
use Rattle.recording_file.proofs.LongRows.{refuses_long}
use Rattle.recording_file.specs.Sound.{IsSound}
use Rattle.record_text.proofs.RecordLemmas.{took_err, took_ok}
use Rattle.record_text.proofs.FrontLemmas.{front_says}
use Rattle.recording_file.proofs.reading.parse_recording.Goals as goal

pub take_records-requires-clause-sound : goal.take_records-requires-clause-sound
unfolding IsSound
take_records-requires-clause-sound c = tt

pub returns-in_err-take_records : goal.returns-in_err-take_records
unfolding reading
returns-in_err-take_records c =
    let p = err_from_is_err_and c.from_residual.result c.from_residual.ensures.1 in
    rw (p.1, p.2) (λ other. let e = took_err _ _ _ _ (λ k. c.take_records.ensures.value k ∙ front_says step parser.Header c.args.text.now c.front.result.now refuses_long c.front.ensures) c.in_err-take_records.was (λ k. other (ap (λ (x : RecordingFault). Err x) k)) in rw e refl)

pub returns : goal.returns
unfolding reading
returns c = λ other.
    let e = took_ok _ _ _ _ (λ k. c.take_records.ensures.value k ∙ front_says step parser.Header c.args.text.now c.front.result.now refuses_long c.front.ensures) c.in_ok-take_records.was in
    c.finish.ensures.value ∙ rw e refl
