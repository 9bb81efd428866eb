use Rattle.std.proofs.Common.{map, take}
use Rattle.std.specs.List.{AllByRecursion}
use Rattle.recording_file.specs.Recorded.{FitsFields}
use Rattle.recording_file.specs.Records.{request_row}
use Rattle.record_text.specs.Writing.{Wrote}
use Rattle.recording_file.proofs.writing.write_requests.Given as goal

abbrev pub invariant-loop-request : goal.invariant-loop-request
invariant-loop-request l = Wrote l.fn.writer l.writer (map request_row (take l.request-index l.requests))
    × AllByRecursion FitsFields (take l.request-index l.requests)
