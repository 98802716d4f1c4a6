use Rattle.std.proofs.Common.{rules, ap, subst, sym, ◌∙◌}
use Rattle.cover_data.specs.declared.margins.Options.{Options}
use Rattle.cover_book.specs.Limits.{IsWithinLimits}
use Rattle.cover_model.specs.State.{root_state}
use Rattle.poly_graph.specs.ProblemViews.{Parts, problem_of}
use Rattle.std.proofs.lemmas.Result.{IfOk-weaker}
use Rattle.cover_book.specs.Model.{BookModel}
use Rattle.solve_core.specs.Solved.{IsInVersionOf}
use Rattle.solve_core.proofs.Reached.{searched_same}
use Rattle.dpoly.proofs.SearchAnswers.{limits}
use Rattle.dpoly.proofs.SessionAnswers.{left_of_search, three_ok}
use Rattle.dpoly.proofs.solve.search.Goals as goal

pub solve-requires : goal.solve-requires
solve-requires g c =
    let h : IsWithinLimits c.args.problem.now c.search_options-asked.result =
    subst (λ (o : Options). IsWithinLimits c.args.problem.now o) (sym c.search_options-asked.ensures) (limits c.args.problem.now c.args.options.now c.requires.options c.requires.within) in
    search (rules, h)

pub returns-clause-left : goal.returns-clause-left
returns-clause-left g c =
    three_ok c.solve.result c.solve.ensures.options c.solve.ensures.verdict c.solve.ensures.left
    (λ b is verdict left. left_of_search c.args.options.now b (subst (λ (o : Options). IsInVersionOf o 2 b) c.search_options-asked.ensures is) verdict left)

pub returns-clause-alone : goal.returns-clause-alone
returns-clause-alone g c = IfOk-weaker _ _ _ (λ (b : BookModel) h. (searched_same h).2) c.solve.ensures.searched

pub returns-clause-root : goal.returns-clause-root
returns-clause-root g c =
    IfOk-weaker _ _ _ (λ (b : BookModel) h. let e = searched_same h in e.3 ∙ ap (λ (q : Parts). root_state (problem_of q)) (sym e.0)) c.solve.ensures.searched
