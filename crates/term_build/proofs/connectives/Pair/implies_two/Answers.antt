use Rattle.std.proofs.Common.{map, subst, List, ℕ, [], ◌∷◌}
use Rattle.term_build.specs.Shapes.{sketch_of}
use Rattle.term_build.specs.Sketch.{all_sketch, any_sketch}
use Rattle.term_build.specs.Pairs.{AddsPair}
use Rattle.term_build.proofs.Pairs.{adds_implies}
use Rattle.term_build.proofs.connectives.Pair.implies_two.Goals as goal

pub returns : goal.returns
returns c = adds_implies (map sketch_of c.args.sketch.now.items) (map sketch_of c.add_pair.new.sketch.items) c.args.first c.args.second c.add_pair.result
    (subst (λ (ks : List ℕ). AddsPair (map sketch_of c.args.sketch.now.items) (map sketch_of c.add_pair.new.sketch.items) (any_sketch ks) (all_sketch (c.args.first.truth ∷ c.args.second.negation ∷ [])) c.add_pair.result) c.in_ok-yes.ensures.items
    (subst (λ (ks : List ℕ). AddsPair (map sketch_of c.args.sketch.now.items) (map sketch_of c.add_pair.new.sketch.items) (any_sketch c.in_ok-yes.yes.items) (all_sketch ks) c.add_pair.result) c.in_ok-no.ensures.items c.add_pair.ensures))
