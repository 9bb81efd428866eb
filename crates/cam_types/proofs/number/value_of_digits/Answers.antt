use Rattle.std.proofs.Common.{arith, ◌+◌}
use Rattle.std.proofs.lemmas.Str.Parse.{digits_value-take-le}
use Rattle.cam_types.proofs.NumberLemmas.{value_more}
use Rattle.cam_types.proofs.number.value_of_digits.Goals as goal

pub returns-then-number-digit : goal.returns-then-number-digit
returns-then-number-digit c =
    let text = c.args.text.now in
    let i = c.loop-byte.byte-index in
    let more = value_more text i c.loop-byte.number c.requires (omega arith) c.loop-byte.invariant in
    let le = digits_value-take-le 10 text (i + 1) (omega arith) in
    omega arith
