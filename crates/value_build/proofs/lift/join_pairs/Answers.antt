use Rattle.std.proofs.Common.{◌∷◌, List, ◌∙◌, ap, map}
use Rattle.poly_graph.specs.Views.{kind_of}
use Rattle.smt_sexp.specs.Views.{place_of}
use Rattle.term_build.specs.Shapes.{sketch_of}
use Rattle.term_build.specs.declared.connectives.Pair.{Pair}
use Rattle.value_build.proofs.Gathering.{joins_pairs, joins_said}
use Rattle.value_build.proofs.lift.join_pairs.Goals as goal

pub returns-in-Some-pop_front : goal.returns-in-Some-pop_front
returns-in-Some-pop_front c = λ m os h.
    joins_pairs (kind_of c.args.kind) (place_of c.args.at) m (map sketch_of c.args.sketch.now.items) (map sketch_of c.choose.new.sketch.items) c.in-Choice.condition c.args.entry os c.args.said.now.items c.pop_front-in-Choice.new.self.items c.in-Some.one c.in-Some-pop_front.other
    c.choose.result c.in-Choice.is h (c.in-Some.ensures.items ∙ ap (λ (l : List Pair). c.in-Some.one ∷ l) c.in-Some-pop_front.ensures.items) c.choose.ensures

pub returns-in-Trees : goal.returns-in-Trees
returns-in-Trees c = λ m os h.
    joins_said (kind_of c.args.kind) (place_of c.args.at) m (map sketch_of c.args.sketch.now.items) (map sketch_of c.compare_two.new.sketch.items) c.in-Trees.first c.in-Trees.second c.args.entry os c.args.said.now.items c.compare_two.result c.in-Trees.is h c.compare_two.ensures
