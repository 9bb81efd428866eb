use Rattle.capture_windows.proofs.LawLemmas.{waits_stay}
use Rattle.capture_windows.proofs.laws.no_wait_is_lost_at_a_cut.Goals as goal

pub returns : goal.returns
returns c = waits_stay c.args.window c.args.attempts.now
