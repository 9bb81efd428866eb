use Rattle.std.proofs.Common.{arith}
use Rattle.std.proofs.lemmas.List.{get_or_default}
use Rattle.recording_file.specs.Recorded.{FitsFields}
use Rattle.recording_file.specs.Records.{request_row}
use Rattle.record_text.proofs.WritingLemmas.{all_more, wrote_more, wrote_none}
use Rattle.recording_file.proofs.writing.write_requests.Goals as goal

pub loop-request-init : goal.loop-request-init
loop-request-init c = (wrote_none c.args.writer.now c.requires, tt)

pub loop-request-preserved : goal.loop-request-preserved
loop-request-preserved c =
    let items = c.args.requests.now in
    let i = c.loop-request.request-index in (
      wrote_more c.args.writer.now c.loop-request.writer c.write_request.new.writer request_row items i _ (omega arith) (get_or_default items i _ _ (omega arith)) c.loop-request.invariant.0 c.in_ok-write_request.ensures.rows,
      all_more FitsFields items i _ (omega arith) (get_or_default items i _ _ (omega arith)) c.loop-request.invariant.1 c.write_request.ensures.fits,
    )
