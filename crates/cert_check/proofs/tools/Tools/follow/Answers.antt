use Rattle.std.proofs.Common.{◌≡◌, List, ap, sym, ◌∙◌, length}
use Rattle.dyadic.specs.Rounding.{two_to_minus}
use Rattle.interval_model.specs.Interval.{Interval, met, is_nothing}
use Rattle.poly_graph.specs.Problem.{atom_at}
use Rattle.poly_graph.specs.ProblemViews.{problem_of}
use Rattle.poly_graph.specs.Term.{Node}
use Rattle.cover_model.specs.Narrowed.{enclosures}
use Rattle.cover_model.specs.NodeEnclosure.{row}
use Rattle.cover_model.specs.Space.{range}
use Rattle.cover_model.proofs.NodeEnclosures.{length_enclosures}
use Rattle.ival.specs.RowViews.{rows_of}
use Rattle.ival.specs.SpaceViews.{space_of}
use Rattle.cert_check.proofs.Rows.{has_rows}
use Rattle.cert_check.proofs.tools.Tools.follow.Goals as goal

pub renew-requires-clause-rows : goal.renew-requires-clause-rows
renew-requires-clause-rows c = ap length c.follow.ensures.rows ∙ length_enclosures (space_of c.args.space.now) c.graph.result.now ∙ ap length c.graph.ensures.graph

pub renew-requires-clause-others : goal.renew-requires-clause-others
renew-requires-clause-others c j h m =
    let p = c.args.problem.now in let a = atom_at (problem_of p) j in
    c.requires.judged.each j h ∙ ap (λ (i : Interval). is_nothing (met i (range (two_to_minus c.args.self.now.judged.margin) a.1))) (sym (c.follow.ensures.kept a.0 m))

pub returns-clause-rows : goal.returns-clause-rows
returns-clause-rows c =
    let p = c.args.problem.now in let space = space_of c.args.space.now in
    let all : rows_of c.follow.new.rows ≡ enclosures space p.nodes = c.follow.ensures.rows ∙ ap (λ (ns : List Node). enclosures space ns) c.graph.ensures.graph in
    has_rows p space (rows_of c.follow.new.rows) c.graph.ensures.whole (ap length all ∙ length_enclosures space p.nodes) (λ k h. ap (λ (es : List Interval). row es k) all)

pub returns-clause-serves : goal.returns-clause-serves
returns-clause-serves c = record {
  upward = c.requires.upward;
  rows = record {
    space = space_of c.args.space.now;
    filled = c.follow.ensures.rows ∙ ap (λ (ns : List Node). enclosures (space_of c.args.space.now) ns) c.graph.ensures.graph;
  };
  judged = c.renew.ensures;
  scratch = c.requires.scratch;
  centre = c.requires.centre;
  truths = c.requires.truths;
}
