use Rattle.code_tests.proofs.wait_events.notify_each.Given as goal

abbrev pub ghosts-notifies_each : goal.ghosts-notifies_each
ghosts-notifies_each g a = record { name = a.blank.name; parts = a.blank.parts }
