use Rattle.std.proofs.Common.{◌∙◌, ap, refl, Err}
use Rattle.std.proofs.lemmas.Result.{err_from_is_err_and}
use Rattle.trace_file.specs.Reading.{TraceFault}
use Rattle.trace_file.specs.ScriptReading.{script_reading, script_step}
use Rattle.trace_file.specs.declared.script_parser.ScriptParser.TheVariants as parser
use Rattle.trace_file.proofs.LongLaws.{script_refuses}
use Rattle.trace_file.specs.Sound.{IsSoundScript}
use Rattle.record_text.proofs.RecordLemmas.{took_err, took_ok}
use Rattle.record_text.proofs.FrontLemmas.{front_says}
use Rattle.trace_file.proofs.script_reading.read_script_text.Goals as goal

pub take_records-requires-clause-sound : goal.take_records-requires-clause-sound
unfolding IsSoundScript
take_records-requires-clause-sound c = tt

pub returns-in_err-take_records : goal.returns-in_err-take_records
unfolding script_reading
returns-in_err-take_records c =
    let p = err_from_is_err_and c.from_residual.result c.from_residual.ensures.1 in
    rw (p.1, p.2) (λ other. let e = took_err _ _ _ _ (λ k. c.take_records.ensures.value k ∙ front_says script_step parser.Header c.args.text.now c.front.result.now script_refuses c.front.ensures) c.in_err-take_records.was (λ k. other (ap (λ (x : TraceFault). Err x) k)) in rw e refl)

pub returns : goal.returns
unfolding script_reading
returns c = λ memory.
    let e = took_ok _ _ _ _ (λ k. c.take_records.ensures.value k ∙ front_says script_step parser.Header c.args.text.now c.front.result.now script_refuses c.front.ensures) c.in_ok-take_records.was in
    c.finish.ensures memory ∙ rw e refl
