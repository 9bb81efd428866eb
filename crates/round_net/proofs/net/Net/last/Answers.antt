use Rattle.std.proofs.Common.{arith}
use Rattle.round_net.proofs.RowLemmas.{last-row}
use Rattle.round_net.proofs.net.Net.last.Goals as goal

pub returns-clause-within : goal.returns-clause-within
returns-clause-within c = let is = last-row c.args.self.now c.args.stay c.stay_row.result c.stay_row.ensures.same in let h = c.stay_row.ensures.sound.to_last c.args.stay c.requires in omega arith

pub returns-clause-most : goal.returns-clause-most
returns-clause-most c = let is = last-row c.args.self.now c.args.stay c.stay_row.result c.stay_row.ensures.same in let h = c.stay_row.ensures.sound.to_last c.args.stay c.requires in let few = c.stay_row.ensures.sound.few_rounds in omega arith
