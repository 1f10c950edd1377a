use Rattle.plane_pool.proofs.steps.cut.Given as goal

abbrev pub ghosts-cut_as : goal.ghosts-cut_as
ghosts-cut_as a = record { give = a.at }
