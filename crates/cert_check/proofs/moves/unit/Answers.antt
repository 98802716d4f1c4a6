use Rattle.std.proofs.Common.{sym, ◌∙◌}
use Rattle.poly_graph.specs.ProblemViews.{problem_of}
use Rattle.cert_check.specs.States.{state_of, loosenings_of}
use Rattle.cert_check.proofs.OneMark.{unit_one}
use Rattle.cert_check.proofs.moves.unit.Goals as goal

pub returns-clause-rule : goal.returns-clause-rule
returns-clause-rule c =
    unit_one (problem_of c.args.problem.now) (loosenings_of c.args.s) (state_of c.args.state) c.args.j c.set.new.self c.set-2.new.self
    (sym c.undecided.ensures ∙ c.if-not-undecided.false) c.set.ensures (sym c.may.ensures.truth ∙ c.if-may.false) c.set-2.ensures
