use Rattle.std.proofs.Common.{arith}
use Rattle.round_net.proofs.RowLemmas.{device-row}
use Rattle.round_net.proofs.net.Net.device.Goals as goal

pub returns-clause-within : goal.returns-clause-within
returns-clause-within c = let is = device-row c.args.self.now c.args.stay c.stay_row.result c.stay_row.ensures.same in let h = c.stay_row.ensures.sound.on_device c.args.stay c.requires in omega arith
