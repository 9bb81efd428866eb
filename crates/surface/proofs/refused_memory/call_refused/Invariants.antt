use Rattle.surface.proofs.refused_memory.call_refused.Given as goal

abbrev pub ghosts-call_all : goal.ghosts-call_all
ghosts-call_all g a = record { name = a.blank.name; parts = a.blank.parts }
