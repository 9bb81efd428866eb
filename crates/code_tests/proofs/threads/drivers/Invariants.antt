use Rattle.code_tests.proofs.threads.drivers.Given as goal

abbrev pub ghosts-two_drivers : goal.ghosts-two_drivers
ghosts-two_drivers g a = record { name = a.blank.name; parts = a.blank.parts }
