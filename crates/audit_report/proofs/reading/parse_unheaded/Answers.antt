use Rattle.audit_report.proofs.InputLemmas.{long_unheaded, trace_parsed}
use Rattle.audit_report.proofs.reading.parse_unheaded.Goals as goal

pub returns-then-text-gt-MAX_BYTES : goal.returns-then-text-gt-MAX_BYTES
returns-then-text-gt-MAX_BYTES c = long_unheaded c.args.text.now c.if-text-gt-MAX_BYTES.true

pub returns-in-Ok : goal.returns-in-Ok
returns-in-Ok c = rw c.in-Ok.is at (trace_parsed c.args.text.now c.parse_trace.result c.if-text-gt-MAX_BYTES.false c.parse_trace.ensures)

pub returns-in-Err : goal.returns-in-Err
returns-in-Err c = rw c.in-Err.is at (trace_parsed c.args.text.now c.parse_trace.result c.if-text-gt-MAX_BYTES.false c.parse_trace.ensures)
