use Rattle.capture_windows.proofs.LawLemmas.{slots_stay}
use Rattle.capture_windows.proofs.laws.no_slot_comes_free_at_a_cut.Goals as goal

pub returns : goal.returns
returns c = λ device. slots_stay c.args.first c.args.second c.requires c.args.attempts.now device
