use Rattle.std.proofs.Common.{◌≡◌, ◌<◌, ◌∙◌, ap, sym, subst, map, length, ℕ, List}
use Rattle.std.specs.List.{All}
use Rattle.cover_line.specs.Views.{blocks_of, multipliers_of}
use Rattle.dyadic.specs.Rounding.{Dyadic}
use Rattle.dyadic.specs.declared.dy.Dy.{Dy}
use Rattle.interval_model.specs.Space.{middle}
use Rattle.poly_graph.specs.Marks.{Mark}
use Rattle.poly_graph.specs.ProblemViews.{problem_of}
use Rattle.cover_model.specs.Combination.{marked_range}
use Rattle.cover_model.specs.State.{margin_of}
use Rattle.ival.specs.declared.ends.Ival.{Ival}
use Rattle.ival.specs.SpaceViews.{space_of}
use Rattle.ival.specs.Views.{interval_of}
use Rattle.cover_data.specs.Margins.{loosenings_of}
use Rattle.cover_rule.specs.Refusals.{is_positive_at}
use Rattle.cover_rule.proofs.Combinables.{combined_atoms}
use Rattle.cover_rule.proofs.Squarings.{atoms_of_code, ranges_of_code, positive_of, told_positive}
use Rattle.cover_rule.proofs.squaring.is_positive_at.Goals as goal

pub ranges_of-requires-clause-atoms : goal.ranges_of-requires-clause-atoms
ranges_of-requires-clause-atoms c =
    let p = c.args.problem.now in let xs = c.args.difference.now.pairs.items in
    subst (All (λ (x : ℕ × Dy). x.0 < length p.atoms)) (sym c.deref.ensures.value)
    (atoms_of_code (length p.atoms) xs (combined_atoms (problem_of p) (loosenings_of c.args.margins.now) c.args.state.now (multipliers_of xs) c.requires.may))

pub is_positive-requires-clause-atoms : goal.is_positive-requires-clause-atoms
is_positive-requires-clause-atoms c =
    let p = c.args.problem.now in let xs = c.args.difference.now.pairs.items in
    subst (All (λ (x : ℕ × Dy). x.0 < length p.atoms)) (sym c.deref-2.ensures.value)
    (atoms_of_code (length p.atoms) xs (combined_atoms (problem_of p) (loosenings_of c.args.margins.now) c.args.state.now (multipliers_of xs) c.requires.may))

pub returns : goal.returns
returns c =
    let p = problem_of c.args.problem.now in let s = loosenings_of c.args.margins.now in let S = c.args.state.now in let d = c.args.difference.now in
    let xs = c.deref-2.result.now in let ranges = marked_range p (margin_of s) S.marks in
    let are : map interval_of c.deref-3.result.now ≡ map (λ (x : ℕ × Dyadic). ranges x.0) (multipliers_of xs) =
    ap (λ (is : List Ival). map interval_of is) c.deref-3.ensures.value ∙ c.in_ok-ranges.ensures
    ∙ ap (λ (marks : List Mark). map (λ (x : ℕ × Dy). marked_range p (margin_of s) marks x.0) c.deref.result.now) c.lits.ensures
    ∙ ap (λ (ys : List (ℕ × Dy)). map (λ (x : ℕ × Dy). ranges x.0) ys) (c.deref.ensures.value ∙ sym c.deref-2.ensures.value)
    ∙ ranges_of_code ranges xs in
    told_positive record { problem = c.args.problem; multipliers = c.deref-2.result; ranges = c.deref-3.result } c.deref-4.result.now c.space.result.now c.args.middle.now ranges
    (is_positive_at p s S (multipliers_of d.pairs.items) (blocks_of d.blocks.items)) c.is_positive.result are
    (positive_of p ranges (space_of c.space.result.now) S.space (space_of c.args.middle.now) (middle S.space) xs d.pairs.items c.deref-4.result.now d.blocks.items
    c.space.ensures c.requires.middle c.deref-2.ensures.value c.deref-4.ensures.value)
    c.is_positive.ensures
