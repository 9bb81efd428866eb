use Rattle.benches.proofs.lock.seated.seated.Given as goal

abbrev pub ghosts-timed : goal.ghosts-timed
ghosts-timed g a = record { name = a.blank.name; parts = a.blank.parts }
