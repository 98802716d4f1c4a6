use Rattle.std.proofs.Common.{ap, arith, length}
use Rattle.std.proofs.lemmas.List.{length-map}
use Rattle.poly_graph.specs.ProblemViews.{Parts, problem_of}
use Rattle.cover_data.specs.Margins.{loosenings_of}
use Rattle.box_worker.proofs.Conjuncts.{none_leaves}
use Rattle.box_worker.proofs.preconditions.void_any.Goals as goal

pub returns-clause-none : goal.returns-clause-none
returns-clause-none c = λ q.
    let P = c.args.patch.now in
    none_leaves (problem_of P.problem) (loosenings_of P.margins) P.kept.reached c.run_is_lawful.ensures.sound.reached.marks
    (λ i l. c.loop-j.invariant.left i (omega (arith, l, c.loop-j-test.false, ap (λ (r : Parts). length r.atoms) c.problem-problem.ensures.problem, simp length-map at (ap length c.atoms-j-end.ensures.atoms))))
