use Rattle.std.proofs.Common.{◌∙◌, ap, sym}
use Rattle.record_text.specs.Text.{records_in}
use Rattle.trace_file.specs.declared.event_number.RecordCount.{RecordCount}
use Rattle.trace_file.proofs.EventRecordLaws.{counted_all}
use Rattle.record_text.proofs.RecordLemmas.{took_ok}
use Rattle.record_text.proofs.StepLemmas.{ok_is}
use Rattle.trace_file.proofs.event_number.record_count.Goals as goal

pub returns-in-Ok : goal.returns-in-Ok
returns-in-Ok c =
    let all = took_ok _ _ _ _ c.take_records.ensures.value c.in-Ok.is in
    ap (λ (s : RecordCount). s.records) (ok_is _ _ (sym all ∙ counted_all (records_in c.args.text.now)))
