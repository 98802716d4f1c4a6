-- How loops over values of which some hold an `ite` stand: what is made of those that are left is made of all.
use Rattle.std.specs.Prelude.{◌≡◌, List, ◌∷◌, true, Result}
use Rattle.script_model.specs.Sexp.{Place}
use Rattle.poly_graph.specs.Term.{Kind}
use Rattle.term_build.specs.Built.{BuilderModel}
use Rattle.term_build.specs.Sketch.{SketchNode, IsSketch}
use Rattle.term_build.specs.declared.sketch.Arm.{Arm}
use Rattle.term_build.specs.declared.stop.Stop.{Stop}
use Rattle.value_build.specs.Arms.{IsSomeArm, AreSomeValues, Folds, LinksWith, LinksEach}
use Rattle.value_build.specs.Making.{Making}
use Rattle.value_build.specs.Operators.{are_arms}
use Rattle.value_build.specs.Values.{AreKnown, IsKnown}
use Rattle.value_build.specs.declared.arithmetic.Step.{Step}
use Rattle.value_build.specs.declared.chains.Spread.{Spread}
use Rattle.value_build.specs.declared.value.Value.{Value}

-- steps from the left: an arm was made, and these values are left
pub record IsFoldingArms (at : Place) (s : Step) (m0 m : BuilderModel) (ds0 ds : List SketchNode) (x0 : Arm) (vs0 : List Value) (x : Arm) (vs : List Value) : Type 0 where
  pub sorts : m.sorts ≡ m0.sorts
  pub known : IsSomeArm m ds x
  pub rest : AreSomeValues m ds vs
  pub arms : are_arms vs ≡ true
  pub sketch : IsSketch m ds
  pub goes : (m' : BuilderModel) (ds' : List SketchNode) (r : Result Arm Stop) → Folds m ds m' ds' at s x vs r → Folds m0 ds0 m' ds' at s x0 vs0 r

-- a first value with each of others, of which these are left
pub record IsLinkingWith (s : Spread) (kind : Kind) (at : Place) (v : Value) (old now : Making) (vs0 links0 vs links : List Value) : Type 0 where
  pub sorts : now.made.sorts ≡ old.made.sorts
  pub first : IsKnown now v
  pub others : AreKnown now vs
  pub known : AreKnown now links
  pub arms : are_arms (v ∷ vs) ≡ true
  pub goes : (new : Making) (links' : List Value) (r : Result (Unit {0}) Stop) → LinksWith now new s kind at v vs links links' r → LinksWith old new s kind at v vs0 links0 links' r

-- each value with those that belong with it, where these are left
pub record IsLinkingEach (s : Spread) (kind : Kind) (at : Place) (old now : Making) (vs0 links0 vs links : List Value) : Type 0 where
  pub sorts : now.made.sorts ≡ old.made.sorts
  pub values : AreKnown now vs
  pub known : AreKnown now links
  pub arms : are_arms vs ≡ true
  pub goes : (new : Making) (links' : List Value) (r : Result (Unit {0}) Stop) → LinksEach now new s kind at vs links links' r → LinksEach old new s kind at vs0 links0 links' r
