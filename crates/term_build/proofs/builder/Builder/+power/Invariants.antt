use Rattle.term_build.proofs.builder.Builder.+power.Given as goal

-- proposed from what the function passes where it calls itself
abbrev pub decreases-power : goal.decreases-power
decreases-power l = l.times
