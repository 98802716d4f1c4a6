use Rattle.poly_graph.specs.ProblemViews.{problem_of}
use Rattle.cert_check.proofs.Pairs.{atoms_all}
use Rattle.cert_check.proofs.combination.are_combinable.Goals as goal

pub is_combinable-requires-clause-atom : goal.is_combinable-requires-clause-atom
is_combinable-requires-clause-atom c = atoms_all (problem_of c.args.problem.now) c.args.pairs.now c.requires.atoms c.loop-i.i _ c.loop-i-test.true
