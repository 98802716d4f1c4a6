-- Loops over values of which some hold an `ite`: their beginning, one step more, their end.
use Rattle.std.proofs.Common.{◌≡◌, List, [], ◌∷◌, ◌++◌, true, refl, ◌∙◌}
use Rattle.std.specs.Prelude.{Ok, Err}
use Rattle.script_model.specs.Sexp.{Place}
use Rattle.poly_graph.specs.Term.{Kind}
use Rattle.term_build.specs.Built.{BuilderModel}
use Rattle.term_build.specs.Sketch.{SketchNode, IsSketch}
use Rattle.term_build.specs.declared.sketch.Arm.{Arm}
use Rattle.term_build.specs.declared.stop.Stop.{Stop}
use Rattle.value_build.specs.Arms.{arm_of, IsSomeArm, AreSomeValues, LiftsTwo, Folds, Links, LinksWith, LinksEach}
use Rattle.value_build.specs.Chains.{others_of}
use Rattle.value_build.specs.Loops.{IsFoldingArms, IsLinkingWith, IsLinkingEach}
use Rattle.value_build.specs.Making.{Making}
use Rattle.value_build.specs.Operators.{are_arms}
use Rattle.value_build.specs.Values.{AreKnown, IsKnown}
use Rattle.value_build.specs.declared.arithmetic.Step.{Step}
use Rattle.value_build.specs.declared.chains.Spread.{Spread}
use Rattle.value_build.specs.declared.value.Value.{Value}
use Rattle.value_build.proofs.Arming.{arms_head, arms_tail, arms_skip, some_arm, first_value, later_values, values_stood, made_arm, folds_none, folds_on, folds_stop, first_known, later_known, stays_known, stay_known, link_known, with_none, with_on, with_stop, with_known, others_known, each_none, each_on, each_stop}

-- ---- steps from the left

module _ (at : Place) (s : Step) (m0 : BuilderModel) (ds0 : List SketchNode) (x0 : Arm) (vs0 : List Value) where
  pub fold_begins : IsSomeArm m0 ds0 x0 → AreSomeValues m0 ds0 vs0 → are_arms vs0 ≡ true → IsSketch m0 ds0 → IsFoldingArms at s m0 m0 ds0 ds0 x0 vs0 x0 vs0
  fold_begins k r a i = record { sorts = refl; known = k; rest = r; arms = a; sketch = i; goes = λ m' ds' z h. h }

  pub fold_second : (m : BuilderModel) (ds : List SketchNode) (x : Arm) (v : Value) (vs : List Value) → IsFoldingArms at s m0 m ds0 ds x0 vs0 x (v ∷ vs) → IsSomeArm m ds (arm_of v)
  fold_second m ds x v vs f = some_arm m ds v (arms_head v vs f.arms) (first_value m ds v vs f.rest)

  pub fold_goes_on : (m m1 : BuilderModel) (ds ds1 : List SketchNode) (x y : Arm) (v : Value) (vs : List Value) → IsFoldingArms at s m0 m ds0 ds x0 vs0 x (v ∷ vs) →
      LiftsTwo m ds m1 ds1 at s x (arm_of v) (Ok y) → m1.sorts ≡ m.sorts → IsFoldingArms at s m0 m1 ds0 ds1 x0 vs0 y vs
  fold_goes_on m m1 ds ds1 x y v vs f two e =
      let i = made_arm m m1 ds ds1 at s x (arm_of v) y two f.known (fold_second m ds x v vs f) in record {
        sorts = e ∙ f.sorts;
        known = i.0;
        rest = values_stood m m1 ds ds1 vs i.1.0 (later_values m ds v vs f.rest);
        arms = arms_tail v vs f.arms;
        sketch = i.1.1;
        goes = λ m' ds' z h. f.goes m' ds' z (folds_on m m1 m' ds ds1 ds' at s x y v vs z f.arms two h);
      }

  pub fold_stops : (m m1 : BuilderModel) (ds ds1 : List SketchNode) (x : Arm) (v : Value) (vs : List Value) (z : Stop) → IsFoldingArms at s m0 m ds0 ds x0 vs0 x (v ∷ vs) →
      LiftsTwo m ds m1 ds1 at s x (arm_of v) (Err z) → Folds m0 ds0 m1 ds1 at s x0 vs0 (Err z)
  fold_stops m m1 ds ds1 x v vs z f two = f.goes m1 ds1 (Err z) (folds_stop m m1 ds ds1 at s x v vs z f.arms two)

  pub fold_ends : (m : BuilderModel) (ds : List SketchNode) (x : Arm) → IsFoldingArms at s m0 m ds0 ds x0 vs0 x [] → Folds m0 ds0 m ds at s x0 vs0 (Ok x)
  fold_ends m ds x f = f.goes m ds (Ok x) (folds_none m ds at s x f.sketch)

-- ---- a first value with each of others

module _ (s : Spread) (kind : Kind) (at : Place) (v : Value) (old : Making) (vs0 links0 : List Value) where
  pub with_begins : IsKnown old v → AreKnown old vs0 → AreKnown old links0 → are_arms (v ∷ vs0) ≡ true → IsLinkingWith s kind at v old old vs0 links0 vs0 links0
  with_begins k r l a = record { sorts = refl; first = k; others = r; known = l; arms = a; goes = λ new links' z h. h }

  pub with_goes_on : (now new : Making) (w y : Value) (vs links links1 : List Value) → IsLinkingWith s kind at v old now vs0 links0 (w ∷ vs) links → Links now new s kind at v w (Ok y) → links1 ≡ links ++ (y ∷ []) → new.made.sorts ≡ now.made.sorts →
      IsLinkingWith s kind at v old new vs0 links0 vs links1
  with_goes_on now new w y vs links links1 f one e c =
      let i = link_known now new s kind at v w y links links1 one f.first (first_known now w vs f.others) f.known e in record {
        sorts = c ∙ f.sorts;
        first = stays_known now new v i.grows f.first;
        others = stay_known now new vs i.grows (later_known now w vs f.others);
        known = i.known;
        arms = arms_skip v w vs f.arms;
        goes = λ later links' z h. f.goes later links' z (with_on now.made new.made later.made now.drawn new.drawn later.drawn now.bounds new.bounds later.bounds s kind at v w y vs links links1 links' z one e h);
      }

  pub with_stops : (now new : Making) (w : Value) (vs links : List Value) (z : Stop) → IsLinkingWith s kind at v old now vs0 links0 (w ∷ vs) links → Links now new s kind at v w (Err z) → LinksWith {X = Unit {0}} old new s kind at v vs0 links0 links (Err z)
  with_stops now new w vs links z f one = f.goes new links (Err z) (with_stop now.made new.made now.drawn new.drawn now.bounds new.bounds s kind at v w vs links links z one)

  pub with_ends : (now : Making) (links : List Value) → IsLinkingWith s kind at v old now vs0 links0 [] links → LinksWith {X = Unit {0}} old now s kind at v vs0 links0 links (Ok tt)
  with_ends now links f = f.goes now links (Ok tt) (with_none now.made now.drawn now.bounds s kind at v links)

-- ---- each value with those that belong with it

module _ (s : Spread) (kind : Kind) (at : Place) (old : Making) (vs0 links0 : List Value) where
  pub each_begins : AreKnown old vs0 → AreKnown old links0 → are_arms vs0 ≡ true → IsLinkingEach s kind at old old vs0 links0 vs0 links0
  each_begins r l a = record { sorts = refl; values = r; known = l; arms = a; goes = λ new links' z h. h }

  pub each_goes_on : (now new : Making) (v : Value) (vs links links1 : List Value) → IsLinkingEach s kind at old now vs0 links0 (v ∷ vs) links → LinksWith {X = Unit {0}} now new s kind at v (others_of s vs) links links1 (Ok tt) → new.made.sorts ≡ now.made.sorts →
      IsLinkingEach s kind at old new vs0 links0 vs links1
  each_goes_on now new v vs links links1 f one c =
      let i = with_known now new s kind at v (others_of s vs) links links1 one (first_known now v vs f.values) (others_known now s vs (later_known now v vs f.values)) f.known in record {
        sorts = c ∙ f.sorts;
        values = stay_known now new vs i.grows (later_known now v vs f.values);
        known = i.known;
        arms = arms_tail v vs f.arms;
        goes = λ later links' z h. f.goes later links' z (each_on now.made new.made later.made now.drawn new.drawn later.drawn now.bounds new.bounds later.bounds s kind at v vs links links1 links' z one h);
      }

  pub each_stops : (now new : Making) (v : Value) (vs links links1 : List Value) (z : Stop) → IsLinkingEach s kind at old now vs0 links0 (v ∷ vs) links → LinksWith {X = Unit {0}} now new s kind at v (others_of s vs) links links1 (Err z) →
      LinksEach {X = Unit {0}} old new s kind at vs0 links0 links1 (Err z)
  each_stops now new v vs links links1 z f one = f.goes new links1 (Err z) (each_stop now.made new.made now.drawn new.drawn now.bounds new.bounds s kind at v vs links links1 z one)

  pub each_ends : (now : Making) (links : List Value) → IsLinkingEach s kind at old now vs0 links0 [] links → LinksEach {X = Unit {0}} old now s kind at vs0 links0 links (Ok tt)
  each_ends now links f = f.goes now links (Ok tt) (each_none now.made now.drawn now.bounds s kind at links)
