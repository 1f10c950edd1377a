use Rattle.plane_pool.proofs.steps.share.Given as goal

abbrev pub ghosts-share_as : goal.ghosts-share_as
ghosts-share_as a = record { give = a.give }
