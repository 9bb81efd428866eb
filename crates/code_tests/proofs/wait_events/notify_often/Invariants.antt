use Rattle.code_tests.proofs.wait_events.notify_often.Given as goal

abbrev pub ghosts-notifies_often : goal.ghosts-notifies_often
ghosts-notifies_often g a = record { name = a.blank.name; parts = a.blank.parts }
