use Rattle.std.proofs.Common.{List, Vec, Bool, Option, Some, None, length, map, ap, sym, subst, ◌∙◌}
use Rattle.std.proofs.lemmas.Result.{IfOk-weaker}
use Rattle.std.specs.Prelude.{IfOk}
use Rattle.std.specs.declared.alloc.Global.{Global}
use Rattle.cover_line.specs.Views.{multipliers_of}
use Rattle.ival.specs.SpaceViews.{space_of}
use Rattle.poly_graph.specs.ProblemViews.{problem_of}
use Rattle.poly_graph.specs.Term.{Node}
use Rattle.square_model.specs.Positive.{root_marks}
use Rattle.squares.specs.Blocks.{ComesTo}
use Rattle.squares.specs.Expanding.{IsClosed, IsExpanded}
use Rattle.squares.specs.Sums.{combined_terms}
use Rattle.squares.specs.Views.{terms_of}
use Rattle.squares.specs.declared.polynomial.Polynomial.{Polynomial}
use Rattle.squares.proofs.Marking.{marked_closed, marks_length, root_marks_length}
use Rattle.squares.proofs.Spreading.{spread_all, spread_none}
use Rattle.squares.proofs.rest.spread.Goals as goal

pub expand_nodes-requires-clause-count : goal.expand_nodes-requires-clause-count
expand_nodes-requires-clause-count c = let p = problem_of c.args.combination.now.problem.now in let ms = multipliers_of c.args.combination.now.multipliers.now in
    ap length (c.deref.ensures.value ∙ c.in_ok-marks.ensures) ∙ marks_length p ms ∙ sym (ap length c.graph-graph.ensures.graph)

pub expand_nodes-requires-clause-closed : goal.expand_nodes-requires-clause-closed
expand_nodes-requires-clause-closed c = let p = problem_of c.args.combination.now.problem.now in let ms = multipliers_of c.args.combination.now.multipliers.now in
    subst (λ (nodes : List Node). IsClosed nodes c.deref.result.now) (sym c.graph-graph.ensures.graph)
    (subst (λ (marks : List Bool). IsClosed p.nodes marks) (sym (c.deref.ensures.value ∙ c.in_ok-marks.ensures))
    (marked_closed p.nodes c.graph-graph.ensures.whole.problem.ordered (root_marks p ms) (root_marks_length p ms)))

pub returns-in-None : goal.returns-in-None
returns-in-None c = let k = c.args.combination.now in let centre = c.args.centre.now in let mid = c.expand_nodes.new.budget in
    spread_none k centre c.deref.result.now c.args.budget.now mid (c.deref.ensures.value ∙ c.in_ok-marks.ensures)
    (subst (λ (nodes : List Node). IsExpanded (space_of centre) nodes c.deref.result.now c.args.budget.now mid None) c.graph-graph.ensures.graph
    (subst (λ (o : Option (Vec Polynomial Global)). IsExpanded (space_of centre) c.graph-graph.result.now c.deref.result.now c.args.budget.now mid o) c.in-None.is c.in_ok-expand_nodes.ensures))

pub returns : goal.returns
returns c = let k = c.args.combination.now in let centre = c.args.centre.now in let mid = c.expand_nodes.new.budget in let ps = c.in-Some.polynomials in
    IfOk-weaker c.combined_polynomial.result _ _
    (λ (r : Option Polynomial) h. spread_all k centre c.graph-graph.ensures.whole.problem c.requires c.deref.result.now ps c.args.budget.now mid c.combined_polynomial.new.budget r (c.deref.ensures.value ∙ c.in_ok-marks.ensures)
    (subst (λ (nodes : List Node). IsExpanded (space_of centre) nodes c.deref.result.now c.args.budget.now mid (Some ps)) c.graph-graph.ensures.graph
    (subst (λ (o : Option (Vec Polynomial Global)). IsExpanded (space_of centre) c.graph-graph.result.now c.deref.result.now c.args.budget.now mid o) c.in-Some.is c.in_ok-expand_nodes.ensures)) h)
    (subst (λ (xs : List Polynomial). IfOk c.combined_polynomial.result (ComesTo (combined_terms (problem_of k.problem.now) (map terms_of xs) (multipliers_of k.multipliers.now)) mid c.combined_polynomial.new.budget)) c.deref-in-Some.ensures.value c.combined_polynomial.ensures)
