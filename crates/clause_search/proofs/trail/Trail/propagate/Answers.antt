use Rattle.clause_search.proofs.Propagations.{failed_means, conflict_means, forced, undecided_before}
use Rattle.clause_search.proofs.trail.Trail.propagate.Goals as goal

pub returns-then-self-clause-says : goal.returns-then-self-clause-says
returns-then-self-clause-says c = failed_means c.args.cnf.now c.args.self.now c.requires c.if-self.true

pub returns-in-Conflict-clause-says : goal.returns-in-Conflict-clause-says
returns-in-Conflict-clause-says c = conflict_means c.args.cnf.now c.loop-literal.self c.loop-literal.invariant.0 c.in-Conflict.ensures.sees

pub returns-then-literal-clause-says : goal.returns-then-literal-clause-says
returns-then-literal-clause-says c =
    let before = undecided_before c.args.self.now c.loop-literal.self c.in-Unit.literal.variable c.loop-literal.invariant.1 c.in-Unit.ensures.sees.leaves.undecided in
    forced c.args.cnf.now c.args.self.now c.derive.new.self c.in-Unit.literal c.in-Atom.j c.derive.ensures.made before c.derive.ensures.unit c.derive.ensures.stands c.in-Atom.is c.if-literal.true
