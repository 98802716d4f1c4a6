use Rattle.std.proofs.Common.{◌≡◌, ◌∙◌, ap, subst, sym, true, length, List, Option, not, arith}
use Rattle.interval_model.specs.Space.{Space}
use Rattle.poly_graph.specs.Marks.{Mark}
use Rattle.poly_graph.specs.ProblemViews.{problem_of}
use Rattle.cover_model.specs.Views.{multipliers_of}
use Rattle.cover_data.specs.Margins.{loosenings_of}
use Rattle.cover_model.specs.Honest.{is_some_space}
use Rattle.cover_rule.specs.declared.narrower.Narrower.{Narrower}
use Rattle.cover_rule.specs.Narrowers.{CanNarrow, narrows_to}
use Rattle.cover_rule.specs.Pairs.{marked_pairs}
use Rattle.cover_rule.proofs.Combinables.{combined_atoms}
use Rattle.cover_rule.proofs.narrower.is_known_void.Goals as goal

pub knows-requires : goal.knows-requires
knows-requires c k d l =
    let ms = multipliers_of c.in-Combine.multipliers.now in
    let there = combined_atoms (problem_of c.args.problem.now) (loosenings_of c.args.margins.now) c.args.state.now ms (subst (CanNarrow c.args.problem.now c.args.margins.now c.args.state.now) c.in-Combine.is c.requires.can) k d l in
    omega (arith, there, c.requires.state.marks, ap length c.lits.ensures)

pub returns-in-Combine : goal.returns-in-Combine
returns-in-Combine c = λ h.
    let S = c.args.state.now in let ms = multipliers_of c.in-Combine.multipliers.now in
    subst (λ (n : Narrower). not (is_some_space (narrows_to c.args.problem.now c.args.margins.now S n)) ≡ true) (sym c.in-Combine.is)
    (ap (λ (o : Option Space). not (is_some_space o)) (c.requires.work.voiding.empty (c.knows.ensures.known h) S.marks ms
    (c.knows.ensures.pairs h ∙ ap (λ (marks : List Mark). marked_pairs marks ms) c.lits.ensures)))
