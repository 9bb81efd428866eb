use Rattle.std.proofs.Common.{rules}
use Rattle.std.proofs.lemmas.Int.{to_z-of_z}
use mir.Syntax.{w32}
use mir.Val.{SFits}
use Rattle.camxpt_c.proofs.FaultLemmas.{reported_fault}
use Rattle.camxpt_c.proofs.recording.camxpt_raw_recording.Goals as goal

pub returns-in-Err : goal.returns-in-Err
returns-in-Err c =
    let fits : SFits w32 c.tell.result = search rules in
    rw (to_z-of_z w32 c.tell.result fits) (reported_fault _ _ _ _ c.in-Err.fault c.in-Err.ensures.err (c.tell.ensures c.args.buffer.now c.args.needed.now))
