use Rattle.std.proofs.Common.{map, subst, sym, List, arith}
use Rattle.std.proofs.lemmas.List.{length-map}
use Rattle.term_build.specs.Shapes.{sketch_of}
use Rattle.term_build.specs.Sketch.{SketchNode}
use Rattle.value_build.specs.Making.{making}
use Rattle.value_build.specs.Values.{Claims}
use Rattle.value_build.proofs.Claimed.{claims_bool, claims_real, claims_choice, truth_below}
use Rattle.value_build.proofs.maker.Maker.claim.Goals as goal

pub claim_bool-requires-clause-truth : goal.claim_bool-requires-clause-truth
claim_bool-requires-clause-truth c = omega (arith, truth_below c.self.inside.builder (map sketch_of c.self.inside.sketch.items) c.self.inside.bounds c.args.self.now c.args.value c.in-Bool.pair c.in-Bool.list c.self.view_is c.in-Bool.is c.requires, length-map c.self.inside.sketch.items sketch_of)

pub returns-in-Bool-clause-does : goal.returns-in-Bool-clause-does
returns-in-Bool-clause-does c = subst (λ (ds : List SketchNode). Claims c.args.self.now (making c.claim_bool.new.builder ds c.self.inside.bounds) c.args.value c.claim_bool.result) (sym c.claim_bool.ensures.empty)
    (claims_bool c.self.inside.builder c.claim_bool.new.builder (map sketch_of c.self.inside.sketch.items) c.self.inside.bounds c.args.self.now c.args.value c.in-Bool.pair c.in-Bool.list c.claim_bool.result c.self.view_is c.in-Bool.is c.claim_bool.ensures.does)

pub returns-in-Real-clause-does : goal.returns-in-Real-clause-does
returns-in-Real-clause-does c = subst (λ (ds : List SketchNode). Claims c.args.self.now (making c.claim_real.new.builder ds c.claim_real.new.bounds) c.args.value c.claim_real.result) (sym c.give_up.ensures)
    (claims_real c.self.inside.builder c.claim_real.new.builder (map sketch_of c.self.inside.sketch.items) c.self.inside.bounds c.claim_real.new.bounds c.args.self.now c.args.value c.in-Real.node c.claim_real.result c.self.view_is c.in-Real.is c.claim_real.ensures.does)

pub returns-in-Choice-clause-does : goal.returns-in-Choice-clause-does
returns-in-Choice-clause-does c = subst (λ (ds : List SketchNode). Claims c.args.self.now (making c.claim_real-in-Choice.new.builder ds c.claim_real-in-Choice.new.bounds) c.args.value c.claim_real-in-Choice.result) (sym c.give_up-in-Choice.ensures)
    (claims_choice c.self.inside.builder c.claim_real-in-Choice.new.builder (map sketch_of c.self.inside.sketch.items) c.self.inside.bounds c.claim_real-in-Choice.new.bounds c.args.self.now c.args.value c.in-Choice.node c.claim_real-in-Choice.result c.self.view_is c.in-Choice.is c.claim_real-in-Choice.ensures.does)
