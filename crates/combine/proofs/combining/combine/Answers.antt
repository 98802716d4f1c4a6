use Rattle.std.proofs.Common.{◌≡◌, List, [], length, Option, subst, ap, sym, ◌∙◌}
use Rattle.dyadic.specs.Rounding.{two_to_minus}
use Rattle.interval_model.specs.Space.{Space}
use Rattle.poly_graph.specs.ProblemViews.{problem_of}
use Rattle.poly_graph.specs.Term.{Node}
use Rattle.cover_model.specs.Combination.{swept}
use Rattle.cover_model.specs.Views.{multipliers_of}
use Rattle.cover_model.proofs.NodeEnclosures.{length_enclosures}
use Rattle.ival.specs.Narrows.{IsNarrowed}
use Rattle.ival.specs.Options.{option_at}
use Rattle.ival.specs.RowViews.{rows_of}
use Rattle.ival.specs.SpaceViews.{space_of}
use Rattle.ival.specs.Views.{interval_of}
use Rattle.ival.proofs.Optional.{no_option}
use Rattle.combine.specs.Parts.{expansion_of, expansion_with}
use Rattle.combine.proofs.Combined.{combined_is}
use Rattle.combine.proofs.combining.combine.Goals as goal

pub hand_roots-ranges-requires-clause-centre_rows : goal.hand_roots-ranges-requires-clause-centre_rows
hand_roots-ranges-requires-clause-centre_rows c = ap length c.requires.centre_rows ∙ length_enclosures (space_of c.args.centre.now) c.args.combination.now.problem.now.nodes

pub sweep-requires-clause-rows : goal.sweep-requires-clause-rows
sweep-requires-clause-rows c = ap length c.requires.rows ∙ length_enclosures (space_of c.args.space.now) c.args.combination.now.problem.now.nodes ∙ sym (ap length c.graph.ensures.graph)

pub sweep-requires-clause-centre_rows : goal.sweep-requires-clause-centre_rows
sweep-requires-clause-centre_rows c = ap length c.requires.centre_rows ∙ length_enclosures (space_of c.args.centre.now) c.args.combination.now.problem.now.nodes ∙ sym (ap length c.graph.ensures.graph)

pub sweep-requires-clause-under : goal.sweep-requires-clause-under
sweep-requires-clause-under c k h = no_option c.clear_marks.new.self k (c.clear_marks.ensures.marks k)

pub returns-clause-narrowed : goal.returns-clause-narrowed
returns-clause-narrowed c =
    let p = c.args.combination.now.problem.now in let s = space_of c.args.space.now in let centre = space_of c.args.centre.now in
    let es = rows_of c.args.rows.now in let cs = rows_of c.args.centre_rows.now in let ms = multipliers_of c.args.combination.now.multipliers.now in
    let os = option_at c.hand_roots-ranges.new.adjoints in let qs = option_at c.clear_marks.new.self in let e = expansion_of c.begin.new.self in
    let begun : e ≡ expansion_with [] (interval_of c.hand_roots-ranges.result.central) = c.begin.ensures.expansion in
    subst (λ (o : Option Space). IsNarrowed s (space_of c.narrow_by.new.space) o c.narrow_by.result)
    (combined_is (problem_of p) (two_to_minus c.args.combination.now.loosen) c.args.combination.now.lits.now s centre ms es cs os qs e (expansion_of c.sweep.new.gathered) (interval_of c.hand_roots-ranges.result.allowed)
    c.requires.rows c.requires.centre c.requires.centre_rows c.hand_roots-ranges.ensures.roots (λ k. no_option c.clear_marks.new.self k (c.clear_marks.ensures.marks k))
    (begun ∙ ap (expansion_with []) c.hand_roots-ranges.ensures.central)
    (c.sweep.ensures.expansion ∙ ap (λ (g : List Node). swept g es cs (length g) os qs e) c.graph.ensures.graph) c.hand_roots-ranges.ensures.allowed)
    c.narrow_by.ensures.narrowed
