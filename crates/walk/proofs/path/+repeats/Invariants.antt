use Rattle.walk.proofs.path.+repeats.Given as goal

abbrev pub decreases-repeats : goal.decreases-repeats
decreases-repeats l = l.levels
