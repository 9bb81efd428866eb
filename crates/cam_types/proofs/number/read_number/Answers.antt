use Rattle.std.proofs.Common.{arith}
use Rattle.cam_types.proofs.NumberLemmas.{number_of-spelled, read_law}
use Rattle.cam_types.proofs.number.read_number.Goals as goal

pub returns-clause-spelled : goal.returns-clause-spelled
returns-clause-spelled c = number_of-spelled _ _ _ (omega arith) c.number_of.ensures.value

pub returns-clause-read : goal.returns-clause-read
returns-clause-read c = λ n le is. read_law _ n _ _ (omega arith) c.number_of.ensures.value le is
