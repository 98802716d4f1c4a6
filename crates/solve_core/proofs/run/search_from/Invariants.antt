use Rattle.cover_data.specs.Margins.{margins_of}
use Rattle.solve_core.proofs.run.search_from.Given as goal

abbrev pub ghosts-search_together : goal.ghosts-search_together
ghosts-search_together g a = record { problem = a.problem.now; margins = margins_of a.options.now }
