use Rattle.std.proofs.Common.{arith}
use Rattle.round_net.proofs.RowLemmas.{weight-row}
use Rattle.round_net.proofs.net.Net.weight.Goals as goal

pub returns-clause-some : goal.returns-clause-some
returns-clause-some c = let is = weight-row c.args.self.now c.args.stay c.stay_row.result c.stay_row.ensures.same in let h = c.stay_row.ensures.sound.some_weight c.args.stay c.requires in omega arith

pub returns-clause-most : goal.returns-clause-most
returns-clause-most c = let is = weight-row c.args.self.now c.args.stay c.stay_row.result c.stay_row.ensures.same in let h = c.stay_row.ensures.sound.small_weight c.args.stay c.requires in omega arith
