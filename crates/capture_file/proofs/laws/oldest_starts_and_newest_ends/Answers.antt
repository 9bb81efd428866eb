use Rattle.capture_file.proofs.LawLemmas.{longest_waits, newest_flies}
use Rattle.capture_file.proofs.laws.oldest_starts_and_newest_ends.Goals as goal

pub returns-clause-waiting : goal.returns-clause-waiting
returns-clause-waiting c = λ place. longest_waits place c.args.requests.now.attempts c.get-first.ensures.rising

pub returns-clause-in_flight : goal.returns-clause-in_flight
returns-clause-in_flight c = λ place sent. newest_flies place sent c.args.requests.now.attempts c.get-first.ensures.rising
