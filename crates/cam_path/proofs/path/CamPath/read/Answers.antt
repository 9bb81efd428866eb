use Rattle.cam_path.proofs.PathLaws.{read_again, read_spelled}
use Rattle.cam_path.proofs.path.CamPath.read.Goals as goal

pub returns-in-Ok-clause-spelled : goal.returns-in-Ok-clause-spelled
returns-in-Ok-clause-spelled c = read_spelled _ _ _ c.path_in.ensures c.in-Ok.is

pub returns-in-Ok-clause-read : goal.returns-in-Ok-clause-read
returns-in-Ok-clause-read c = λ p fits e. let same = read_again _ _ p c.path_in.ensures fits e in let is = c.in-Ok.is in cc

pub returns-in-Err-clause-read : goal.returns-in-Err-clause-read
returns-in-Err-clause-read c = λ p fits e. let same = read_again _ _ p c.path_in.ensures fits e in let is = c.in-Err.is in absurd (cc)
