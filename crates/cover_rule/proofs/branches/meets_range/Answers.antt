use Rattle.std.proofs.Common.{◌∙◌, ap, ap₂, sym, List, length, Bool, not, ◌&&◌}
use Rattle.interval_model.specs.Space.{Space}
use Rattle.cover_model.specs.Narrowed.{enclosures}
use Rattle.poly_graph.specs.ProblemViews.{problem_of}
use Rattle.poly_graph.specs.Marks.{Mark}
use Rattle.cover_model.specs.State.{may_atom, misses, margin_of, state_of}
use Rattle.ival.specs.RowViews.{rows_of}
use Rattle.ival.specs.SpaceViews.{space_of}
use Rattle.form_truth.specs.Truth.{pruning}
use Rattle.form_truth.proofs.FormTruth.{test_within}
use Rattle.cover_data.specs.Margins.{loosenings_of}
use Rattle.cover_rule.proofs.Axes.{has_rows}
use Rattle.cover_data.proofs.Withins.{not_no}
use Rattle.cover_rule.proofs.branches.meets_range.Goals as goal

pub may_atom-requires-clause-rows : goal.may_atom-requires-clause-rows
may_atom-requires-clause-rows c =
    let p = c.args.problem.now in
    has_rows p c.problem_is_whole.ensures (space_of c.space-space.result.now) (rows_of c.args.work.now.rows) (c.requires.work.rows ∙ ap (λ (s : Space). enclosures s p.nodes) (sym c.space-space.ensures))

pub returns : goal.returns
returns c =
    let p = c.args.problem.now in let S = c.args.state.now in let j = c.args.j in let m = c.args.margins.now.margin_bits in
    c.may_atom.ensures ∙ test_within (length p.atoms) j (may_atom (problem_of p) (pruning m) (state_of (space_of c.space-space.result.now) c.lits.result.now) j) c.requires.small ∙
    ap₂ (λ (s : Space) (ms : List Mark). may_atom (problem_of p) (pruning m) (state_of s ms) j) c.space-space.ensures c.lits.ensures ∙
    ap (λ (b : Bool). not b && not (misses (problem_of p) (margin_of (loosenings_of c.args.margins.now)) S.space j)) (not_no S.marks j c.requires.atom)
