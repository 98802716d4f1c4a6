use Rattle.std.proofs.Common.{◌∷◌, List, ◌∙◌, ap, map}
use Rattle.term_build.specs.Shapes.{sketch_of}
use Rattle.term_build.specs.declared.sketch.Arm.{Arm}
use Rattle.value_build.proofs.Gathering.{joins_chosen, joins_made}
use Rattle.value_build.proofs.lift.join_arms.Goals as goal

pub returns-in-Some-pop_front : goal.returns-in-Some-pop_front
returns-in-Some-pop_front c = λ m os h.
    joins_chosen m (map sketch_of c.args.sketch.now.items) (map sketch_of c.choose_arms.new.sketch.items) c.in-Choice.condition c.args.entry os c.args.made.now.items c.pop_front-in-Choice.new.self.items c.in-Some.one c.in-Some-pop_front.other c.choose_arms.result c.in-Choice.is h
    (c.in-Some.ensures.items ∙ ap (λ (l : List Arm). c.in-Some.one ∷ l) c.in-Some-pop_front.ensures.items) c.choose_arms.ensures

pub returns-in-Made : goal.returns-in-Made
returns-in-Made c = λ m os h. joins_made m (map sketch_of c.args.sketch.now.items) c.in-Made.k c.args.entry os c.args.made.now.items c.in-Made.is h
