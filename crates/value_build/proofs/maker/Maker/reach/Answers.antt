use Rattle.std.proofs.Common.{map, subst, ◌∷◌, []}
use Rattle.std.specs.Prelude.{Ok, Err}
use Rattle.script_forms.specs.Work.{reached}
use Rattle.term_build.specs.Shapes.{sketch_of}
use Rattle.term_build.specs.Steps.{Emits}
use Rattle.value_build.specs.Making.{Making, making, Steps}
use Rattle.value_build.proofs.Leaf.{reach_emits, reach_steps, reach_sketch}
use Rattle.value_build.proofs.maker.Maker.reach.Goals as goal

pub invariant_of-self : goal.invariant_of-self
invariant_of-self c = reach_sketch (λ (x : Unit {0}). Unit {0}) c.self.inside.builder c.reach.new.self (map sketch_of c.self.inside.sketch.items) c.in-Ok.field-0 c.in-Ok.ensures.does c.in-Ok.ensures.sorts c.self.invariant

pub returns-in-Ok-clause-does : goal.returns-in-Ok-clause-does
returns-in-Ok-clause-does c = subst (λ (m : Making). Steps m (making c.reach.new.self (map sketch_of c.self.inside.sketch.items) c.self.inside.bounds) (reached ∷ []) (Ok c.in-Ok.field-0) (λ (x : Unit {0}). Unit {0})) c.self.view_is
    (reach_steps (λ (x : Unit {0}). Unit {0}) c.self.inside.builder c.reach.new.self (map sketch_of c.self.inside.sketch.items) c.self.inside.bounds c.in-Ok.field-0 c.in-Ok.ensures.does)

pub returns-in-Err-clause-does : goal.returns-in-Err-clause-does
returns-in-Err-clause-does c = subst (λ (m : Making). Emits m.made c.reach.new.self (reached ∷ []) (Err c.in-Err.stop) (λ (x : Unit {0}). Unit {0})) c.self.view_is
    (reach_emits (λ (x : Unit {0}). Unit {0}) c.self.inside.builder c.reach.new.self (Err c.in-Err.stop) c.in-Err.ensures.does)
