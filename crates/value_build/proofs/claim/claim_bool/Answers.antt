use Rattle.std.proofs.Common.{map, subst, ap, List, Ok, Err}
use Rattle.term_build.specs.Shapes.{sketch_of, Shaping}
use Rattle.term_build.specs.Sketch.{SketchNode}
use Rattle.value_build.proofs.Claimed.{bool_claimed, bool_stopped}
use Rattle.value_build.proofs.claim.claim_bool.Goals as goal

pub returns-in-Ok-clause-does : goal.returns-in-Ok-clause-does
returns-in-Ok-clause-does c = bool_claimed c.args.builder.now c.make_form-made.new.builder (map sketch_of c.args.sketch.now.items) c.args.truth c.args.list c.in-Ok.form c.requires.sketched
    (subst (λ (ds : List SketchNode). Shaping c.args.builder.now c.make_form-made.new.builder ds c.args.truth (Ok c.in-Ok.form)) (ap (map sketch_of) c.deref.ensures.value) c.in-Ok.ensures.does)

pub returns-in-Err-clause-does : goal.returns-in-Err-clause-does
returns-in-Err-clause-does c = bool_stopped c.args.builder.now c.make_form-made.new.builder (map sketch_of c.args.sketch.now.items) c.args.truth c.args.list c.in-Err.stop c.requires.sketched
    (subst (λ (ds : List SketchNode). Shaping c.args.builder.now c.make_form-made.new.builder ds c.args.truth (Err c.in-Err.stop)) (ap (map sketch_of) c.deref.ensures.value) c.in-Err.ensures.does)
