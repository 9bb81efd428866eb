use Rattle.block_copy.proofs.run.Given as goal

abbrev pub ghosts-copy : goal.ghosts-copy
ghosts-copy g a = record { name = a.blank.name; parts = a.blank.parts }
