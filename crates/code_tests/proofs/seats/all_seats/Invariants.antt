use Rattle.code_tests.proofs.seats.all_seats.Given as goal

abbrev pub ghosts-takes_all_seats : goal.ghosts-takes_all_seats
ghosts-takes_all_seats g a = record { name = a.blank.name; parts = a.blank.parts }
