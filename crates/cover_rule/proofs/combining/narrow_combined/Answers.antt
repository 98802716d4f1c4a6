use Rattle.std.proofs.Common.{◌∙◌, ap, subst, length, List}
use Rattle.dyadic.specs.Rounding.{two_to_minus}
use Rattle.interval_model.specs.Space.{Space}
use Rattle.poly_graph.specs.Marks.{Mark}
use Rattle.poly_graph.specs.ProblemViews.{problem_of}
use Rattle.cover_model.specs.Combination.{combined}
use Rattle.cover_model.specs.Views.{multipliers_of}
use Rattle.ival.specs.Narrows.{IsNarrowed}
use Rattle.ival.specs.SpaceViews.{space_of}
use Rattle.cover_data.specs.Margins.{loosenings_of}
use Rattle.cover_rule.proofs.Axes.{fits_length}
use Rattle.cover_rule.proofs.Combinables.{combined_atoms}
use Rattle.cover_rule.proofs.combining.narrow_combined.Goals as goal

pub find_centre-requires-clause-space : goal.find_centre-requires-clause-space
find_centre-requires-clause-space c = ap length c.space.ensures ∙ fits_length (problem_of c.args.problem.now).axes c.args.state.now.space c.requires.state.axes

pub combine-requires-clause-atoms : goal.combine-requires-clause-atoms
combine-requires-clause-atoms c = combined_atoms (problem_of c.args.problem.now) (loosenings_of c.args.margins.now) c.args.state.now (multipliers_of c.args.multipliers.now) c.requires.may

pub returns-clause-narrowed : goal.returns-clause-narrowed
returns-clause-narrowed c =
    let p = problem_of c.args.problem.now in let ms = multipliers_of c.args.multipliers.now in let m = two_to_minus c.args.margins.now.margin_bits in
    let by-marks = subst (λ (marks : List Mark). IsNarrowed (space_of c.args.work.now.spare) (space_of c.combine.new.space) (combined p m marks (space_of c.args.work.now.spare) ms) c.combine.result) c.lits.ensures c.combine.ensures.narrowed in
    subst (λ (s : Space). IsNarrowed s (space_of c.combine.new.space) (combined p m c.args.state.now.marks s ms) c.combine.result) c.requires.work.spare by-marks
