use Rattle.capture_windows.proofs.LawLemmas.{kept_new}
use Rattle.capture_windows.proofs.laws.what_is_kept_is_new.Goals as goal

pub returns : goal.returns
returns c = kept_new c.args.window c.requires c.args.attempts.now
