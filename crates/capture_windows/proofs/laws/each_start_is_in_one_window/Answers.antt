use Rattle.capture_windows.proofs.LawLemmas.{in_one_window, started_later}
use Rattle.capture_windows.proofs.laws.each_start_is_in_one_window.Goals as goal

pub returns-clause-later : goal.returns-clause-later
returns-clause-later c = started_later c.args.first c.args.second c.requires.next c.args.attempts.now

pub returns-clause-once : goal.returns-clause-once
returns-clause-once c = λ kind. in_one_window c.args.first c.args.second c.requires.next c.requires.first c.requires.second kind c.args.attempts.now
