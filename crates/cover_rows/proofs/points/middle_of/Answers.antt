use Rattle.std.specs.Prelude.{IsTrue}
use Rattle.std.proofs.Common.{inl, subst, sym}
use Rattle.cover_model.specs.Root.{root_space}
use Rattle.poly_graph.specs.ProblemViews.{Parts, problem_of}
use Rattle.interval_model.specs.Space.{Space, space_within}
use Rattle.cover_book.proofs.Meaning.{nodes_lie_within}
use Rattle.cover_rows.proofs.points.middle_of.Goals as goal

pub of_middle-requires-clause-space : goal.of_middle-requires-clause-space
of_middle-requires-clause-space c =
    subst (λ (s : Space). IsTrue (space_within s (root_space (problem_of c.problem-problem.result.now)))) (sym c.space.ensures)
    (subst (λ (p : Parts). IsTrue (space_within c.in-Ok.state.space (root_space (problem_of p)))) (sym c.problem-problem.ensures.problem)
    (nodes_lie_within c.args.book.now c.problem-problem.ensures.book c.args.node c.in-Ok.state (inl c.in-Ok.ensures.0)).1)
