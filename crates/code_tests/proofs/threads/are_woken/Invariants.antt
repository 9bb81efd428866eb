use Rattle.code_tests.proofs.threads.are_woken.Given as goal

abbrev pub ghosts-sleepers : goal.ghosts-sleepers
ghosts-sleepers g a = record { name = a.blank.name; parts = a.blank.parts }
