-- Values of literals and declared constants.
use Rattle.std.proofs.Common.{◌≡◌, ℕ, zero, suc, List, [], ◌∷◌, refl, subst, ◌∙◌}
use Rattle.std.specs.Prelude.{Result, Ok, Err}
use Rattle.dyadic.specs.Fraction.{Fraction, IsFraction}
use Rattle.dyadic.specs.Lowest.{reduced}
use Rattle.script_model.specs.Declared.{known, Bound, constant_of, constant_bounding}
use Rattle.script_forms.specs.Terms.{term}
use Rattle.script_forms.proofs.Lowest.{reduced_same}
use Rattle.value_build.proofs.Weights.{is_same}
use Rattle.dyadic.specs.Point.{Sort, real_sort, bool_sort}
use Rattle.poly_graph.specs.Problem.{HasSort}
use Rattle.poly_graph.specs.Term.{Term, variable, constant}
use Rattle.script_forms.specs.Work.{made, reached, ending}
use Rattle.script_forms.specs.Atoms.{constant_tree}
use Rattle.script_forms.specs.Walk.{make_tree, after_event}
use Rattle.term_build.specs.Built.{BuilderModel, stand_of}
use Rattle.term_build.specs.Does.{Does, IsTree}
use Rattle.term_build.specs.Sketch.{SketchNode, IsSketch}
use Rattle.term_build.specs.Steps.{Emits}
use Rattle.term_build.specs.declared.stop.Stop.{Stop}
use Rattle.term_build.proofs.Emits.{emits_made, stands_on, stops_so}
use Rattle.term_build.proofs.Pairs.{grown_self}
use Rattle.value_build.specs.Making.{Making, making, Steps}
use Rattle.value_build.specs.Values.{IsValue, Names}
use Rattle.value_build.specs.Leaves.{MakesTree, MakesSwitch}
use Rattle.value_build.specs.declared.value.Value.{Value}
use Rattle.value_build.specs.declared.value.Value.TheVariants as values
use Rattle.value_build.proofs.Folds.{emits_grows}
use Rattle.value_build.proofs.Growth.{lists_self}
use Rattle.value_build.proofs.Operating.{emits_sketch}

pub tree_made : (m m' : BuilderModel) (ds : List SketchNode) (lists : List (List Bound)) (t : Term) (k : ℕ) → Does m m' (λ claim s. make_tree claim s t) (Ok k) (IsTree m' t) → MakesTree (making m ds lists) (making m' ds lists) t (Ok (values.Real k))
tree_made m m' ds lists t k h = λ b w. let e = emits_made m m' t (Ok k) h in (
  (λ claim. e.0 claim),
  (record { stand = emits_grows (IsTree m' t) m m' (made t ∷ []) k e; drawn = grown_self ds; bounds = lists_self lists }, (t, refl, e.1, w)),
)

pub tree_not : (m m' : BuilderModel) (ds ds' : List SketchNode) (lists : List (List Bound)) (t : Term) (x : Stop) → Does m m' (λ claim s. make_tree claim s t) (Err x) (IsTree m' t) → MakesTree (making m ds lists) (making m' ds' lists) t (Err x)
tree_not m m' ds ds' lists t x h = λ b w claim. emits_made m m' t (Err x) h claim

pub tree_sketch : (m m' : BuilderModel) (ds : List SketchNode) (t : Term) (k : ℕ) → Does m m' (λ claim s. make_tree claim s t) (Ok k) (IsTree m' t) → m'.sorts ≡ m.sorts → IsSketch m ds → IsSketch m' ds
tree_sketch m m' ds t k h s i = emits_sketch (IsTree m' t) m m' ds (made t ∷ []) k (emits_made m m' t (Ok k) h) s i

-- one more expression is reached
pub reach_emits : {X : Type 0} (P : X → Type 0) (m m' : BuilderModel) (r : Result X Stop) → Does m m' (λ claim s. after_event claim s reached) r P → Emits m m' (reached ∷ []) r P
reach_emits P m m' (Ok x) h = ((λ claim. stands_on (after_event claim (stand_of m) reached) ∙ h.0 claim), h.1)
reach_emits P m m' (Err e) h = λ claim. stops_so claim _ (after_event claim (stand_of m) reached) e (stands_on (after_event claim (stand_of m) reached)) (h claim)

pub reach_steps : {X : Type 0} (P : X → Type 0) (m m' : BuilderModel) (ds : List SketchNode) (lists : List (List Bound)) (x : X) → Does m m' (λ claim s. after_event claim s reached) (Ok x) P → Steps (making m ds lists) (making m' ds lists) (reached ∷ []) (Ok x) P
reach_steps P m m' ds lists x h = let e = reach_emits P m m' (Ok x) h in
    (e.0, (record { stand = emits_grows P m m' (reached ∷ []) x e; drawn = grown_self ds; bounds = lists_self lists }, e.1))

pub reach_sketch : {X : Type 0} (P : X → Type 0) (m m' : BuilderModel) (ds : List SketchNode) (x : X) → Does m m' (λ claim s. after_event claim s reached) (Ok x) P → m'.sorts ≡ m.sorts → IsSketch m ds → IsSketch m' ds
reach_sketch P m m' ds x h s i = emits_sketch P m m' ds (reached ∷ []) x (reach_emits P m m' (Ok x) h) s i

-- a constant has one sort
pub one_sort : (s t : Sort) (sorts : List Sort) (axis : ℕ) → HasSort s sorts axis → HasSort t sorts axis → s ≡ t
one_sort s t [] axis h k = elim h [ ]
one_sort real_sort real_sort (x ∷ sorts) zero h k = refl
one_sort bool_sort bool_sort (x ∷ sorts) zero h k = refl
one_sort real_sort bool_sort (real_sort ∷ sorts) zero h k = elim k [ ]
one_sort real_sort bool_sort (bool_sort ∷ sorts) zero h k = elim h [ ]
one_sort bool_sort real_sort (real_sort ∷ sorts) zero h k = elim h [ ]
one_sort bool_sort real_sort (bool_sort ∷ sorts) zero h k = elim k [ ]
one_sort s t (x ∷ sorts) (suc axis) h k = one_sort s t sorts axis (later s x sorts axis h) (later t x sorts axis k)
  where
    later : (s x : Sort) (sorts : List Sort) (axis : ℕ) → HasSort s (x ∷ sorts) (suc axis) → HasSort s sorts axis
    later real_sort x sorts axis h = h
    later bool_sort x sorts axis h = h

-- a declared constant is named
pub names_real : (old new : Making) (axis : ℕ) (r : Result Value Stop) → HasSort real_sort old.made.sorts axis → MakesTree old new (variable axis) r → Names old new axis r
names_real old new axis r k w = λ sort h. subst (λ (s : Sort). Steps old new (ending (constant_tree axis s)) r (IsValue new (constant_tree axis s) (constant_bounding axis s))) (one_sort real_sort sort old.made.sorts axis k h)
    (w (constant_of axis) refl)

pub names_switch : (old new : Making) (axis : ℕ) (r : Result Value Stop) → HasSort bool_sort old.made.sorts axis → MakesSwitch old new axis r → Names old new axis r
names_switch old new axis r k w = λ sort h. subst (λ (s : Sort). Steps old new (ending (constant_tree axis s)) r (IsValue new (constant_tree axis s) (constant_bounding axis s))) (one_sort bool_sort sort old.made.sorts axis k h) w

-- a literal
pub literal_made : (old new : Making) (q p : Fraction) (r : Result Value Stop) → p ≡ reduced q → IsFraction q → MakesTree old new (constant p) r → let u = term (constant (reduced q)) in Steps old new (ending u) r (IsValue new u (known q))
literal_made old new q p r f i w = let s = reduced_same q i in
    (subst (λ (x : Fraction). MakesTree old new (constant x) r) f w) (known q) (q, refl, is_same q (reduced q) i s.0 s.1)
