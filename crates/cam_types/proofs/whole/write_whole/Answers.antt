use Rattle.std.proofs.Common.{arith}
use Rattle.cam_types.proofs.WholeLemmas.{took_some, write_step}
use Rattle.cam_types.proofs.whole.write_whole.Goals as goal

pub loop-written-preserved : goal.loop-written-preserved
loop-written-preserved g c =
    let kept = c.loop-written.invariant in
    let wrote = c.in-Ok.ensures in (
      omega arith,
      took_some _ _ c.in-Ok.taken _ wrote.noted kept.1 c.if-taken-eq0.false,
      write_step _ _ _ c.args.text.now c.loop-written.written c.in-Ok.taken c.loop-written-test.true kept.2 wrote.bytes,
    )
