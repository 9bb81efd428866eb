use Rattle.std.proofs.Common.{◌∙◌, ap, refl, Err}
use Rattle.std.proofs.lemmas.Result.{err_from_is_err_and}
use Rattle.trace_file.specs.Reading.{reading, step, TraceFault}
use Rattle.trace_file.specs.declared.trace_parser.TraceParser.TheVariants as parser
use Rattle.trace_file.proofs.LongLaws.{trace_refuses}
use Rattle.trace_file.specs.Sound.{IsSound}
use Rattle.record_text.proofs.RecordLemmas.{took_err, took_ok}
use Rattle.record_text.proofs.FrontLemmas.{front_says}
use Rattle.trace_file.proofs.reading.parse_trace.Goals as goal

pub take_records-requires-clause-sound : goal.take_records-requires-clause-sound
unfolding IsSound
take_records-requires-clause-sound c = tt

pub returns-in_err-take_records : goal.returns-in_err-take_records
unfolding reading
returns-in_err-take_records c =
    let p = err_from_is_err_and c.from_residual.result c.from_residual.ensures.1 in
    rw (p.1, p.2) (λ other. let e = took_err _ _ _ _ (λ k. c.take_records.ensures.value k ∙ front_says step parser.Header c.args.text.now c.front.result.now trace_refuses c.front.ensures) c.in_err-take_records.was (λ k. other (ap (λ (x : TraceFault). Err x) k)) in rw e refl)

pub returns : goal.returns
unfolding reading
returns c = λ other.
    let e = took_ok _ _ _ _ (λ k. c.take_records.ensures.value k ∙ front_says step parser.Header c.args.text.now c.front.result.now trace_refuses c.front.ensures) c.in_ok-take_records.was in
    c.finish.ensures.value other ∙ rw e refl
