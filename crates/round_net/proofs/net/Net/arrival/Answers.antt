use Rattle.std.proofs.Common.{arith}
use Rattle.round_net.proofs.RowLemmas.{arrival-row}
use Rattle.round_net.proofs.net.Net.arrival.Goals as goal

pub returns-clause-first : goal.returns-clause-first
returns-clause-first c = let is = arrival-row c.args.self.now c.args.stay c.stay_row.result c.stay_row.ensures.same in let h = c.stay_row.ensures.sound.from_first c.args.stay c.requires in omega arith
