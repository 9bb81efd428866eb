use Rattle.std.proofs.Common.{arith}
use Rattle.recording_file.proofs.LongLemmas.{most_within}
use Rattle.audit_report.proofs.InputLemmas.{recording_parsed, unheaded_parsed, fault_parsed}
use Rattle.audit_report.proofs.reading.parse_input.Goals as goal

pub parse_recording-requires : goal.parse_recording-requires
parse_recording-requires c = omega (arith, c.requires, (most_within c.args.text.now).1)

pub returns-in-Ok : goal.returns-in-Ok
returns-in-Ok c = recording_parsed c.args.text.now c.parse_recording.result c.in-Ok.recording c.parse_recording.ensures c.in-Ok.is

pub returns-in-BadHeader : goal.returns-in-BadHeader
returns-in-BadHeader c = unheaded_parsed c.args.text.now c.parse_recording.result c.in-Err.fault c.parse_unheaded.result c.parse_recording.ensures c.in-Err.is c.in-BadHeader.is c.parse_unheaded.ensures

pub returns-in_default : goal.returns-in_default
returns-in_default c = fault_parsed c.args.text.now c.parse_recording.result c.in-Err.fault c.parse_recording.ensures c.in-Err.is c.in_default.not-BadHeader
