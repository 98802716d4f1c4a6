use Rattle.std.proofs.Common.{◌≡◌, List, length, arith, ap, ◌∙◌}
use Rattle.interval_model.specs.Interval.{Interval}
use Rattle.poly_graph.specs.Term.{Node}
use Rattle.cover_model.specs.Narrowed.{enclosures}
use Rattle.cover_model.specs.NodeEnclosure.{row}
use Rattle.cover_model.proofs.NodeEnclosures.{length_enclosures}
use Rattle.ival.specs.RowViews.{rows_of}
use Rattle.ival.specs.SpaceViews.{space_of}
use Rattle.least_search.proofs.Rows.{row_of_atom}
use Rattle.least_search.proofs.aim.enclosure.Goals as goal
use Rattle.least_search.proofs.aim.enclosure.Goals.{After-term_of}

-- the rows are the enclosures
filled : (c : After-term_of) → rows_of c.fill.new.rows ≡ enclosures (space_of c.args.space.now) c.args.problem.now.nodes
filled c = c.fill.ensures.rows ∙ ap (λ (g : List Node). enclosures (space_of c.args.space.now) g) c.graph.ensures.graph

counted : (c : After-term_of) → length (rows_of c.fill.new.rows) ≡ length c.args.problem.now.nodes
counted c = ap length (filled c) ∙ length_enclosures (space_of c.args.space.now) c.args.problem.now.nodes

pub get-requires : goal.get-requires
get-requires c = omega (arith, counted c, c.term_of.ensures.place)

pub returns-clause-interval : goal.returns-clause-interval
returns-clause-interval c =
    let space = space_of c.args.space.now in let n = c.term_of.result in
    c.get.ensures ∙ ap (λ (es : List Interval). row es n) (filled (goal.at.returns-clause-interval c).After-term_of)
    ∙ row_of_atom c.args.problem.now space c.args.atom n c.term_of.ensures.place c.term_of.ensures.term

pub returns-clause-rows : goal.returns-clause-rows
returns-clause-rows c = counted (goal.at.returns-clause-rows c).After-term_of
