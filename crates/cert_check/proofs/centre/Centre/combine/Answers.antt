use Rattle.std.proofs.Common.{ap, ◌∙◌, List, length}
use Rattle.std.proofs.lemmas.List.{length-map}
use Rattle.interval_model.specs.Space.{middle_domain}
use Rattle.poly_graph.specs.Term.{Node}
use Rattle.cover_model.specs.Narrowed.{enclosures}
use Rattle.ival.specs.SpaceViews.{space_of}
use Rattle.cert_check.proofs.centre.Centre.combine.Goals as goal

pub returns-clause-centre : goal.returns-clause-centre
returns-clause-centre c = record {
  axes = ap length c.middle.ensures.axes ∙ length-map (space_of c.args.space.now) middle_domain ∙ c.requires.axes;
  rows = record {
    space = space_of c.middle.new.into;
    filled = c.follow.ensures.rows ∙ ap (λ (ns : List Node). enclosures (space_of c.middle.new.into) ns) c.graph.ensures.graph;
  };
  room = c.combine_plain.ensures.room;
}
