use Rattle.std.proofs.Common.{◌≡◌, ◌∙◌, List, ap, sym, Bool, true, false, ◌&&◌}
use Rattle.poly_graph.specs.ProblemViews.{problem_of}
use Rattle.poly_graph.specs.Marks.{Mark}
use Rattle.cover_model.specs.Honest.{all_in_yes, conjuncts, none_empty}
use Rattle.cover_model.specs.State.{state_of}
use Rattle.cover_data.specs.Margins.{loosenings_of}
use Rattle.cover_rule.proofs.stuck.is_settled.Goals as goal

pub returns-then-conjuncts_in_yes-clause-settled : goal.returns-then-conjuncts_in_yes-clause-settled
returns-then-conjuncts_in_yes-clause-settled c =
    let p = problem_of c.args.problem.now in let S = c.args.state.now in
    let e : true ≡ all_in_yes S (conjuncts p.form) = sym c.if-conjuncts_in_yes.true ∙ c.conjuncts_in_yes.ensures.truth S.space ∙ ap (λ (ms : List Mark). all_in_yes (state_of S.space ms) (conjuncts p.form)) c.lits.ensures in
    c.none_leaves_nothing.ensures.none ∙ ap (λ (b : Bool). b && none_empty p (loosenings_of c.args.margins.now) S) e

pub returns-else-conjuncts_in_yes-clause-settled : goal.returns-else-conjuncts_in_yes-clause-settled
returns-else-conjuncts_in_yes-clause-settled c =
    let p = problem_of c.args.problem.now in let S = c.args.state.now in
    let e : false ≡ all_in_yes S (conjuncts p.form) = sym c.if-conjuncts_in_yes.false ∙ c.conjuncts_in_yes.ensures.truth S.space ∙ ap (λ (ms : List Mark). all_in_yes (state_of S.space ms) (conjuncts p.form)) c.lits.ensures in
    c.if-conjuncts_in_yes.false ∙ ap (λ (b : Bool). b && none_empty p (loosenings_of c.args.margins.now) S) e
