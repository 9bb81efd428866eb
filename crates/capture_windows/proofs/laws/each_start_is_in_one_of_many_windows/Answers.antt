use Rattle.capture_windows.proofs.ManyLemmas.{in_one_of_many}
use Rattle.capture_windows.proofs.laws.each_start_is_in_one_of_many_windows.Goals as goal

pub returns : goal.returns
returns c = λ reads from until turn kind. in_one_of_many reads from until turn kind
