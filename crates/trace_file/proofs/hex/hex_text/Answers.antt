use Rattle.std.proofs.Common.{arith, length-set}
use Rattle.trace_file.proofs.WritingLemmas.{all_bytes, hex_more}
use Rattle.trace_file.proofs.hex.hex_text.Goals as goal

pub returns-clause-range : goal.returns-clause-range
returns-clause-range c = all_bytes c.args.bytes.now c.type_inv.bytes

pub loop-i-preserved : goal.loop-i-preserved
loop-i-preserved c =
    let bytes = c.args.bytes.now in
    let i = c.loop-i.i in (
      simp length-set c.loop-i.invariant.0,
      hex_more c.loop-i.text bytes i c.hex_digit.result c.hex_digit-in-loop-i.result (omega arith) (omega arith) c.hex_digit.ensures c.hex_digit-in-loop-i.ensures c.loop-i.invariant.1,
    )
