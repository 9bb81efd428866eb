use Rattle.code_tests.proofs.threads.seats_taken.Given as goal

abbrev pub ghosts-takes_seats : goal.ghosts-takes_seats
ghosts-takes_seats g a = record { name = a.blank.name; parts = a.blank.parts }
