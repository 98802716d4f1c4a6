-- Values that hold an `ite`: one step after the other, and what each two say.
use Rattle.std.proofs.Common.{◌≡◌, ℕ, ◌<◌, List, [], ◌∷◌, ◌++◌, map, length, true, false, cond, refl, ap, sym, ◌∙◌, subst, arith, append-nil, append_assoc}
use Rattle.std.specs.Prelude.{Result, Ok, Err}
use Rattle.script_model.specs.Sexp.{Place}
use Rattle.script_model.specs.Declared.{Bound, Bounding, known, constant_of, bounds, other}
use Rattle.smt_sexp.specs.Views.{place_of}
use Rattle.script_fault.specs.declared.place.Place as code_place
use Rattle.poly_graph.specs.Term.{Term, Kind, le, ge, eq}
use Rattle.script_forms.specs.Terms.{Unfolded, refused, divisor_not_constant, hold_either, multiply_tree, divide_tree, step, steps, all_steps, gathered, powers}
use Rattle.script_forms.specs.Unfolded.{unfolded_operation}
use Rattle.script_forms.specs.Work.{Event, met, multiply_events, divide_events, powers_events, step_events, steps_events, all_events, compare_events, together, operation_events}
use Rattle.term_build.specs.Built.{BuilderModel, stand_of}
use Rattle.term_build.specs.Settled.{Extends}
use Rattle.term_build.specs.Sketch.{SketchNode, IsSketch}
use Rattle.term_build.specs.Pairs.{Grown, Negates, compared}
use Rattle.term_build.specs.Steps.{Emits}
use Rattle.term_build.specs.declared.connectives.Pair.{Pair}
use Rattle.term_build.specs.declared.sketch.Arm.{Arm}
use Rattle.term_build.specs.declared.sketch.Arm.TheVariants as arm
use Rattle.term_build.specs.declared.stop.Stop.{Stop}
use Rattle.term_build.specs.declared.stop.Stop.TheVariants as stop
use Rattle.term_build.specs.declared.stop.Fault.TheVariants.{DivisorNotConstant}
use Rattle.term_build.proofs.Emits.{emits_then, emits_stop, emits_more, emits_fault, tree_below, tree_is, more_nodes}
use Rattle.term_build.proofs.Pairs.{grown_self, grown_both}
use Rattle.declared_box.specs.Same.{SameBounds}
use Rattle.value_build.specs.Arithmetic.{is_difference, operator_of_step, tree_of_step, events_of_step}
use Rattle.value_build.specs.Arms.{arm_of, IsSomeArm, IsLifted, Lifts, LiftsOne, LiftsTwo, IsSaid, IsPairAnswer, SaysTwo, AreSomeValues, IsSomeValue, hold_choice, is_quotient, Folds, Calculates, arm_bounds, linked, link_bounds, Links, LinksWith, LinksEach}
use Rattle.value_build.specs.Bounds.{AddsList, bounds_of_kind, chained_bounds}
use Rattle.value_build.specs.Chains.{others_of, spread_over}
use Rattle.value_build.specs.Making.{Making, making, Grows, Steps, MoreLists}
use Rattle.value_build.specs.Operators.{are_arms}
use Rattle.value_build.specs.Values.{IsArm, is_tree, is_choice, IsValue, AreValues, AreKnown, IsKnown, Weighs}
use Rattle.value_build.specs.declared.arithmetic.Step.{Step}
use Rattle.value_build.specs.declared.arithmetic.Step.TheVariants.{Add, Subtract, Multiply, Divide}
use Rattle.value_build.specs.declared.chains.Spread.{Spread}
use Rattle.value_build.specs.declared.chains.Spread.TheVariants.{Next, Later}
use Rattle.value_build.specs.declared.lift.Leaf.TheVariants as leaf
use Rattle.value_build.specs.declared.value.Value.{Value}
use Rattle.value_build.specs.declared.value.Value.TheVariants as values
use Rattle.value_build.proofs.Folds.{emits_grows}
use Rattle.value_build.proofs.Growth.{lists_self, value_stays, values_stay, grows_self, steps_then, steps_stop, steps_more}
use Rattle.value_build.proofs.Lifting.{tree_parts}
use Rattle.value_build.proofs.Listing.{chained_same}
use Rattle.value_build.specs.Weights.{weights, term_at}

-- ---- values as arms

pub arms_head : (v : Value) (vs : List Value) → are_arms (v ∷ vs) ≡ true → are_arms (v ∷ []) ≡ true
arms_head (values.Real k) vs e = refl
arms_head (values.Choice k) vs e = refl
arms_head (values.Bool p n) vs e = cc

pub arms_tail : (v : Value) (vs : List Value) → are_arms (v ∷ vs) ≡ true → are_arms vs ≡ true
arms_tail (values.Real k) vs e = e
arms_tail (values.Choice k) vs e = e
arms_tail (values.Bool p n) vs e = cc

pub value_arm : (m : BuilderModel) (ds : List SketchNode) (lists : List (List Bound)) (u : Unfolded) (b : Bounding) (v : Value) → are_arms (v ∷ []) ≡ true → IsValue (making m ds lists) u b v → IsArm m ds u (arm_of v)
value_arm m ds lists u b (values.Real k) e h = subst (λ (x : Unfolded). IsArm m ds x (arm.Tree k)) (sym h.1) (is_tree h.2)
value_arm m ds lists u b (values.Choice k) e h = h.0
value_arm m ds lists u b (values.Bool p n) e h = cc

pub some_arm : (m : BuilderModel) (ds : List SketchNode) (v : Value) → are_arms (v ∷ []) ≡ true → IsSomeValue m ds v → IsSomeArm m ds (arm_of v)
some_arm m ds v e h = (h.1, value_arm m ds h.0 h.1 h.2 v e h.3)

pub first_value : (m : BuilderModel) (ds : List SketchNode) (v : Value) (vs : List Value) → AreSomeValues m ds (v ∷ vs) → IsSomeValue m ds v
first_value m ds v vs h = go h.0 h.1 h.2 h.3
  where
    go : (lists : List (List Bound)) (us : List Unfolded) (bs : List Bounding) → AreValues (making m ds lists) us bs (v ∷ vs) → IsSomeValue m ds v
    go lists (u ∷ us) (b ∷ bs) k = (lists, u, b, k.0)
    go lists [] [] k = elim k [ ]
    go lists [] (b ∷ bs) k = elim k [ ]
    go lists (u ∷ us) [] k = elim k [ ]

pub later_values : (m : BuilderModel) (ds : List SketchNode) (v : Value) (vs : List Value) → AreSomeValues m ds (v ∷ vs) → AreSomeValues m ds vs
later_values m ds v vs h = go h.0 h.1 h.2 h.3
  where
    go : (lists : List (List Bound)) (us : List Unfolded) (bs : List Bounding) → AreValues (making m ds lists) us bs (v ∷ vs) → AreSomeValues m ds vs
    go lists (u ∷ us) (b ∷ bs) k = (lists, us, bs, k.1)
    go lists [] [] k = elim k [ ]
    go lists [] (b ∷ bs) k = elim k [ ]
    go lists (u ∷ us) [] k = elim k [ ]

-- ---- what stands stays

pub record Stood (m m' : BuilderModel) (ds ds' : List SketchNode) : Type 0 where
  pub stand : Extends (stand_of m) (stand_of m')
  pub grown : Grown ds ds'

pub stood_lift : (m m1 : BuilderModel) (ds ds1 : List SketchNode) (es : List Event) (u : Unfolded) (x : Arm) → Lifts m ds m1 ds1 es u (Ok x) → Stood m m1 ds ds1
stood_lift m m1 ds ds1 es u x h = record { stand = emits_grows (IsLifted m1 ds ds1 u) m m1 es x h; grown = h.1.grown }

stood-grows : (m m' : BuilderModel) (ds ds' : List SketchNode) (lists : List (List Bound)) → Stood m m' ds ds' → Grows (making m ds lists) (making m' ds' lists)
stood-grows m m' ds ds' lists h = record { stand = h.stand; drawn = h.grown; bounds = lists_self lists }

pub values_stood : (m m' : BuilderModel) (ds ds' : List SketchNode) (vs : List Value) → Stood m m' ds ds' → AreSomeValues m ds vs → AreSomeValues m' ds' vs
values_stood m m' ds ds' vs s h = (h.0, h.1, h.2, values_stay (making m ds h.0) (making m' ds' h.0) h.1 h.2 vs (stood-grows m m' ds ds' h.0 s) h.3)

-- ---- steps from the left

wider : (m1 m2 : BuilderModel) (ds ds1 ds2 : List SketchNode) (es : List Event) (u : Unfolded) (r : Result Arm Stop) → Grown ds ds1 → Lifts m1 ds1 m2 ds2 es u r → Emits m1 m2 es r (IsLifted m2 ds ds2 u)
wider m1 m2 ds ds1 ds2 es u r g h = emits_more (IsLifted m2 ds1 ds2 u) (IsLifted m2 ds ds2 u) m1 m2 es r (λ x p. record { grown = grown_both ds ds1 ds2 g p.grown; sketch = p.sketch; arm = p.arm }) h

pub folds_none : (m : BuilderModel) (ds : List SketchNode) (at : Place) (s : Step) (x : Arm) → IsSketch m ds → Folds m ds m ds at s x [] (Ok x)
folds_none m ds at s x k = λ lists u us bs h l. go lists u us bs h l
  where
    go : (lists : List (List Bound)) (u : Unfolded) (us : List Unfolded) (bs : List Bounding) → IsArm m ds u x → AreValues (making m ds lists) us bs [] →
        Lifts m ds m ds (steps_events (tree_of_step s at) (events_of_step s at) u us) (steps (tree_of_step s at) u us) (Ok x)
    go lists u [] [] h l = ((λ claim. refl), record { grown = grown_self ds; sketch = k; arm = h })
    go lists u [] (b ∷ bs) h l = elim l [ ]
    go lists u (w ∷ us) [] h l = elim l [ ]
    go lists u (w ∷ us) (b ∷ bs) h l = elim l [ ]

pub folds_on : (m m1 m2 : BuilderModel) (ds ds1 ds2 : List SketchNode) (at : Place) (s : Step) (x y : Arm) (v : Value) (vs : List Value) (r : Result Arm Stop) → are_arms (v ∷ vs) ≡ true →
    LiftsTwo m ds m1 ds1 at s x (arm_of v) (Ok y) → Folds m1 ds1 m2 ds2 at s y vs r → Folds m ds m2 ds2 at s x (v ∷ vs) r
folds_on m m1 m2 ds ds1 ds2 at s x y v vs r e two rest = λ lists u us bs h l. go lists u us bs h l
  where
    go : (lists : List (List Bound)) (u : Unfolded) (us : List Unfolded) (bs : List Bounding) → IsArm m ds u x → AreValues (making m ds lists) us bs (v ∷ vs) →
        Lifts m ds m2 ds2 (steps_events (tree_of_step s at) (events_of_step s at) u us) (steps (tree_of_step s at) u us) r
    go lists u (w ∷ us) (b ∷ bs) h l =
        let f = tree_of_step s at in let g = events_of_step s at in
        let i = two u w h (value_arm m ds lists w b v (arms_head v vs e) l.0) in
        let k = stood_lift m m1 ds ds1 (step_events g u w) (step f u w) y i in
        emits_then (IsLifted m1 ds ds1 (step f u w)) (IsLifted m2 ds ds2 (steps f (step f u w) us)) m m1 m2 (step_events g u w) (steps_events f g (step f u w) us) y r i
        (wider m1 m2 ds ds1 ds2 (steps_events f g (step f u w) us) (steps f (step f u w) us) r i.1.grown
        (rest lists (step f u w) us bs i.1.arm (values_stay (making m ds lists) (making m1 ds1 lists) us bs vs (stood-grows m m1 ds ds1 lists k) l.1)))
    go lists u [] [] h l = elim l [ ]
    go lists u [] (b ∷ bs) h l = elim l [ ]
    go lists u (w ∷ us) [] h l = elim l [ ]

pub folds_stop : (m m1 : BuilderModel) (ds ds1 : List SketchNode) (at : Place) (s : Step) (x : Arm) (v : Value) (vs : List Value) (z : Stop) → are_arms (v ∷ vs) ≡ true →
    LiftsTwo m ds m1 ds1 at s x (arm_of v) (Err z) → Folds m ds m1 ds1 at s x (v ∷ vs) (Err z)
folds_stop m m1 ds ds1 at s x v vs z e two = λ lists u us bs h l. go lists u us bs h l
  where
    go : (lists : List (List Bound)) (u : Unfolded) (us : List Unfolded) (bs : List Bounding) → IsArm m ds u x → AreValues (making m ds lists) us bs (v ∷ vs) →
        Lifts m ds m1 ds1 (steps_events (tree_of_step s at) (events_of_step s at) u us) (steps (tree_of_step s at) u us) (Err z)
    go lists u (w ∷ us) (b ∷ bs) h l = let f = tree_of_step s at in let g = events_of_step s at in
        emits_stop (IsLifted m1 ds ds1 (step f u w)) (IsLifted m1 ds ds1 (steps f (step f u w) us)) m m1 m1 (step_events g u w) (steps_events f g (step f u w) us) z
        (two u w h (value_arm m ds lists w b v (arms_head v vs e) l.0))
    go lists u [] [] h l = elim l [ ]
    go lists u [] (b ∷ bs) h l = elim l [ ]
    go lists u (w ∷ us) [] h l = elim l [ ]

pub made_arm : (m m1 : BuilderModel) (ds ds1 : List SketchNode) (at : Place) (s : Step) (x x' y : Arm) → LiftsTwo m ds m1 ds1 at s x x' (Ok y) → IsSomeArm m ds x → IsSomeArm m ds x' → IsSomeArm m1 ds1 y × (Stood m m1 ds ds1 × IsSketch m1 ds1)
made_arm m m1 ds ds1 at s x x' y two h k = let f = tree_of_step s at in let i = two h.0 k.0 h.1 k.1 in
    ((step f h.0 k.0, i.1.arm), (stood_lift m m1 ds ds1 (step_events (events_of_step s at) h.0 k.0) (step f h.0 k.0) y i, i.1.sketch))

-- ---- an arithmetic operator

pub hold_is : (m : Making) (us : List Unfolded) (bs : List Bounding) (vs : List Value) → AreValues m us bs vs → hold_either us ≡ hold_choice vs
hold_is m [] [] [] h = refl
hold_is m (u ∷ us) (b ∷ bs) (values.Real k ∷ vs) h = ap (λ x. hold_either (x ∷ us)) h.0.1 ∙ hold_is m us bs vs h.1
hold_is m (u ∷ us) (b ∷ bs) (values.Bool p n ∷ vs) h = ap (λ x. hold_either (x ∷ us)) h.0.0.is ∙ hold_is m us bs vs h.1
hold_is m (u ∷ us) (b ∷ bs) (values.Choice k ∷ vs) h = holds m.made m.drawn u k h.0.0
  where
    holds : (n : BuilderModel) (ds : List SketchNode) (u : Unfolded) (k : ℕ) → IsArm n ds u (arm.Choice k) → hold_either (u ∷ us) ≡ true
    holds n ds _ k (is_choice e w i j) = refl
hold_is m [] [] (v ∷ vs) h = elim h [ ]
hold_is m [] (b ∷ bs) vs h = elim h [ ]
hold_is m (u ∷ us) [] vs h = elim h [ ]
hold_is m (u ∷ us) (b ∷ bs) [] h = elim h [ ]

no-values : (m : Making) (us : List Unfolded) (bs : List Bounding) → AreValues m us bs [] → us ≡ []
no-values m [] [] h = refl
no-values m [] (b ∷ bs) h = elim h [ ]
no-values m (u ∷ us) [] h = elim h [ ]
no-values m (u ∷ us) (b ∷ bs) h = elim h [ ]

pub opposite_calculates : (m m' : BuilderModel) (ds ds' : List SketchNode) (at : Place) (s : Step) (t : Term) (v : Value) (r : Result Arm Stop) → is_difference s ≡ true → are_arms (v ∷ []) ≡ true →
    LiftsOne m ds m' ds' at leaf.Opposite t (arm_of v) r → Calculates m ds m' ds' at s v [] r
opposite_calculates m m' ds ds' at Subtract t v r d e w = λ lists u us b bs h l.
    subst (λ (xs : List Unfolded). Lifts m ds m' ds' (operation_events at (operator_of_step Subtract) (u ∷ xs)) (unfolded_operation at (operator_of_step Subtract) (u ∷ xs)) r) (sym (no-values (making m ds lists) us bs l))
    (w u (value_arm m ds lists u b v e h))
opposite_calculates m m' ds ds' at Add t v r d e w = cc
opposite_calculates m m' ds ds' at Multiply t v r d e w = cc
opposite_calculates m m' ds ds' at Divide t v r d e w = cc

pub quotient_stops : (m m' : BuilderModel) (ds ds' : List SketchNode) (at : code_place.Place) (s : Step) (v : Value) (vs : List Value) → is_quotient s ≡ true → hold_choice vs ≡ true →
    Calculates m ds m ds' (place_of at) s v vs (Err (stop.Fault at DivisorNotConstant))
quotient_stops m m' ds ds' at Divide v vs d e = λ lists u us b bs h l.
    let x : hold_either us ≡ true = hold_is (making m ds lists) us bs vs l ∙ e in
    subst (λ c. Lifts m ds m ds' (cond c (met (divisor_not_constant (place_of at)) ∷ []) (all_events (divide_tree (place_of at)) (divide_events (place_of at)) (u ∷ us)))
    (cond c (refused (divisor_not_constant (place_of at))) (all_steps (divide_tree (place_of at)) (u ∷ us))) (Err (stop.Fault at DivisorNotConstant))) (sym x)
    (emits_fault (IsLifted m ds ds' (refused (divisor_not_constant (place_of at)))) m m (refused (divisor_not_constant (place_of at))) at DivisorNotConstant refl)
quotient_stops m m' ds ds' at Add v vs d e = cc
quotient_stops m m' ds ds' at Subtract v vs d e = cc
quotient_stops m m' ds ds' at Multiply v vs d e = cc

pub folds_calculate : (m m' : BuilderModel) (ds ds' : List SketchNode) (at : Place) (s : Step) (v : Value) (vs : List Value) (r : Result Arm Stop) → are_arms (v ∷ []) ≡ true → hold_choice (v ∷ vs) ≡ true → (is_difference s ≡ true → vs ≡ [] → ⊥) → (is_quotient s ≡ true → hold_choice vs ≡ false) →
    Folds m ds m' ds' at s (arm_of v) vs r → Calculates m ds m' ds' at s v vs r
folds_calculate m m' ds ds' at s v vs r e held d q w = λ lists u us b bs h l. go s lists u us b bs d q h l (w lists u us bs (value_arm m ds lists u b v e h) l)
  where
    go : (s : Step) (lists : List (List Bound)) (u : Unfolded) (us : List Unfolded) (b : Bounding) (bs : List Bounding) → (is_difference s ≡ true → vs ≡ [] → ⊥) → (is_quotient s ≡ true → hold_choice vs ≡ false) →
        IsValue (making m ds lists) u b v → AreValues (making m ds lists) us bs vs →
        Lifts m ds m' ds' (steps_events (tree_of_step s at) (events_of_step s at) u us) (steps (tree_of_step s at) u us) r →
        Lifts m ds m' ds' (operation_events at (operator_of_step s) (u ∷ us)) (unfolded_operation at (operator_of_step s) (u ∷ us)) r
    go Add lists u us b bs d q h l k = k
    go Multiply lists u us b bs d q h l k = let f = multiply_tree at in
        subst (λ c. Lifts m ds m' ds' (cond c [] (powers_events (gathered (u ∷ us))) ++ all_events f (multiply_events at) (cond c (u ∷ us) (powers (gathered (u ∷ us))))) (all_steps f (cond c (u ∷ us) (powers (gathered (u ∷ us))))) r)
        (sym (hold_is (making m ds lists) (u ∷ us) (b ∷ bs) (v ∷ vs) (h, l) ∙ held)) k
    go Subtract lists u (x ∷ us) b bs d q h l k = k
    go Subtract lists u [] b bs d q h l k = absurd (d refl (nothing vs bs l))
      where
        nothing : (vs : List Value) (bs : List Bounding) → AreValues (making m ds lists) [] bs vs → vs ≡ []
        nothing [] bs l = refl
        nothing (v ∷ vs) [] l = elim l [ ]
        nothing (v ∷ vs) (b ∷ bs) l = elim l [ ]
    go Divide lists u us b bs d q h l k =
        subst (λ c. Lifts m ds m' ds' (cond c (met (divisor_not_constant at) ∷ []) (all_events (divide_tree at) (divide_events at) (u ∷ us))) (cond c (refused (divisor_not_constant at)) (all_steps (divide_tree at) (u ∷ us))) r)
        (sym (hold_is (making m ds lists) us bs vs l ∙ q refl)) k

-- ---- what two values say

other-first : (kind : Kind) (c : Bounding) → bounds_of_kind kind other c ≡ []
other-first le c = refl
other-first ge (known q) = refl
other-first ge (constant_of i) = refl
other-first ge other = refl
other-first ge (bounds bs) = refl
other-first eq (known q) = refl
other-first eq (constant_of i) = refl
other-first eq other = refl
other-first eq (bounds bs) = refl

other-second : (kind : Kind) (b : Bounding) → bounds_of_kind kind b other ≡ []
other-second le (known q) = refl
other-second le (constant_of i) = refl
other-second le other = refl
other-second le (bounds bs) = refl
other-second ge b = refl
other-second eq (known q) = refl
other-second eq (constant_of i) = refl
other-second eq other = refl
other-second eq (bounds bs) = refl

none-same : (xs : List Bound) → xs ≡ [] → SameBounds [] xs
none-same xs e = subst (λ (ys : List Bound). SameBounds [] ys) (sym e) tt

weighs-at : (m : BuilderModel) (ds : List SketchNode) (lists : List (List Bound)) (u : Unfolded) (b : Bounding) (k : ℕ) → IsValue (making m ds lists) u b (values.Real k) → Weighs (term_at (stand_of m).trees k) b
weighs-at m ds lists u b k h = subst (λ (t : Term). Weighs t b) (sym (tree_is m h.0 k h.2)) h.3

arm-same : (kind : Kind) (m : BuilderModel) (ds : List SketchNode) (lists : List (List Bound)) (u x : Unfolded) (b c : Bounding) (v w : Value) → are_arms (v ∷ w ∷ []) ≡ true → IsValue (making m ds lists) u b v → IsValue (making m ds lists) x c w →
    SameBounds (arm_bounds kind (stand_of m).trees (arm_of v) (arm_of w)) (bounds_of_kind kind b c)
arm-same kind m ds lists u x b c (values.Real i) (values.Real j) e h k = subst (λ (ys : List Bound). SameBounds (chained_bounds kind (weights (stand_of m).trees (i ∷ j ∷ []))) ys) (append-nil (bounds_of_kind kind b c))
    (chained_same kind (stand_of m).trees (i ∷ j ∷ []) (b ∷ c ∷ []) (weighs-at m ds lists u b i h, (weighs-at m ds lists x c j k, tt)))
arm-same kind m ds lists u x b c (values.Real i) (values.Choice j) e h k = none-same (bounds_of_kind kind b c) (ap (λ y. bounds_of_kind kind b y) k.1 ∙ other-second kind b)
arm-same kind m ds lists u x b c (values.Choice i) (values.Real j) e h k = none-same (bounds_of_kind kind b c) (ap (λ y. bounds_of_kind kind y c) h.1 ∙ other-first kind c)
arm-same kind m ds lists u x b c (values.Choice i) (values.Choice j) e h k = none-same (bounds_of_kind kind b c) (ap (λ y. bounds_of_kind kind y c) h.1 ∙ other-first kind c)
arm-same kind m ds lists u x b c (values.Bool p n) w e h k = cc
arm-same kind m ds lists u x b c (values.Real i) (values.Bool p n) e h k = cc
arm-same kind m ds lists u x b c (values.Choice i) (values.Bool p n) e h k = cc

second-arm : (v w : Value) → are_arms (v ∷ w ∷ []) ≡ true → are_arms (w ∷ []) ≡ true
second-arm v w e = arms_tail v (w ∷ []) e

module _ (kind : Kind) (at : Place) (m m1 : BuilderModel) (ds ds1 : List SketchNode) (lists lists1 : List (List Bound)) (v w : Value) (e : are_arms (v ∷ w ∷ []) ≡ true) where
  said : (r : Result Pair Stop) → SaysTwo m ds m1 ds1 kind at (arm_of v) (arm_of w) r → (u x : Unfolded) (b c : Bounding) → IsValue (making m ds lists) u b v → IsValue (making m ds lists) x c w →
      IsPairAnswer m ds m1 ds1 (compare_events u x) (compared kind at u x) r
  said r h u x b c i j = h u x (value_arm m ds lists u b v (arms_head v (w ∷ []) e) i) (value_arm m ds lists x c w (second-arm v w e) j)

  pub link_stop : (s : Spread) (ds2 : List SketchNode) (z : Stop) → SaysTwo m ds m1 ds1 kind at (arm_of v) (arm_of w) (Err z) → Links (making m ds lists) (making m1 ds2 lists) s kind at v w (Err z)
  link_stop s ds2 z h = λ u x b c i j claim. said (Err z) h u x b c i j claim

  grows-said : (u : Unfolded) (es : List Event) (p : Pair) → IsPairAnswer m ds m1 ds1 es u (Ok p) → MoreLists lists lists1 → Grows (making m ds lists) (making m1 ds1 lists1)
  grows-said u es p h g = record { stand = emits_grows (IsSaid m1 ds ds1 u) m m1 es p h; drawn = h.1.grown; bounds = g }

  pub link_next : (p : Pair) (k : ℕ) → SaysTwo m ds m1 ds1 kind at (arm_of v) (arm_of w) (Ok p) → AddsList lists lists1 (arm_bounds kind (stand_of m1).trees (arm_of v) (arm_of w)) (Ok k) →
      Links (making m ds lists) (making m1 ds1 lists1) Next kind at v w (Ok (values.Bool p k))
  link_next p k h a = λ u x b c i j. let l = said (Ok p) h u x b c i j in
      let g0 : Grows (making m ds lists) (making m1 ds1 lists) = record { stand = emits_grows (IsSaid m1 ds ds1 (compared kind at u x)) m m1 (compare_events u x) p l; drawn = l.1.grown; bounds = lists_self lists } in
      let same = arm-same kind m1 ds1 lists u x b c v w e (value_stays (making m ds lists) (making m1 ds1 lists) u b v g0 i) (value_stays (making m ds lists) (making m1 ds1 lists) x c w g0 j) in (
        (λ claim. l.0 claim),
        (
          grows-said (compared kind at u x) (compare_events u x) p l a.0,
          (l.1.drawn, (bounds_of_kind kind b c, refl, (a.1, subst (λ (ys : List Bound). SameBounds ys (bounds_of_kind kind b c)) (sym a.2) same))),
        ),
      )

  pub link_later : (p q : Pair) (k : ℕ) → SaysTwo m ds m1 ds1 kind at (arm_of v) (arm_of w) (Ok p) → Negates p q → AddsList lists lists1 [] (Ok k) → Links (making m ds lists) (making m1 ds1 lists1) Later kind at v w (Ok (values.Bool q k))
  link_later p q k h n a = λ u x b c i j. let l = said (Ok p) h u x b c i j in (
    (λ claim. l.0 claim),
    (
      grows-said (compared kind at u x) (compare_events u x) p l a.0,
      (n (stand_of m1).trees ds1 (compared kind at u x) l.1.drawn, ([], refl, (a.1, subst (λ (ys : List Bound). SameBounds ys []) (sym a.2) tt))),
    ),
  )

-- a tree of an arm stands behind what was said
pub said_below : (m m1 : BuilderModel) (ds ds1 : List SketchNode) (kind : Kind) (at : Place) (x y z : Arm) (p : Pair) → SaysTwo m ds m1 ds1 kind at x y (Ok p) → IsSomeArm m ds x → IsSomeArm m ds y → IsSomeArm m ds z →
    (k : ℕ) → z ≡ arm.Tree k → k < length m1.nodes
said_below m m1 ds ds1 kind at x y z p h i j l k e =
    let s = h i.0 j.0 i.1 j.1 in
    let t = tree_parts m ds l.0 k (subst (λ (a : Arm). IsArm m ds l.0 a) e l.1) in
    let g = emits_grows (IsSaid m1 ds ds1 (compared kind at i.0 j.0)) m m1 (compare_events i.0 j.0) p s in
    omega (arith, tree_below m t.0 k t.2, more_nodes m m1 g.trees)

pub said_sketch : (m m1 : BuilderModel) (ds ds1 : List SketchNode) (kind : Kind) (at : Place) (x y : Arm) (p : Pair) → SaysTwo m ds m1 ds1 kind at x y (Ok p) → IsSomeArm m ds x → IsSomeArm m ds y → IsSketch m1 ds1
said_sketch m m1 ds ds1 kind at x y p h i j = (h i.0 j.0 i.1 j.1).1.sketch

-- ---- several

values-end : (m : Making) (us : List Unfolded) (bs : List Bounding) (vs : List Value) (u : Unfolded) (b : Bounding) (v : Value) → AreValues m us bs vs → IsValue m u b v → AreValues m (us ++ (u ∷ [])) (bs ++ (b ∷ [])) (vs ++ (v ∷ []))
values-end m [] [] [] u b v h k = (k, tt)
values-end m (x ∷ us) (c ∷ bs) (w ∷ vs) u b v h k = (h.0, values-end m us bs vs u b v h.1 k)
values-end m [] [] (w ∷ vs) u b v h k = elim h [ ]
values-end m [] (c ∷ bs) vs u b v h k = elim h [ ]
values-end m (x ∷ us) [] vs u b v h k = elim h [ ]
values-end m (x ∷ us) (c ∷ bs) [] u b v h k = elim h [ ]

-- the same values, their lists written otherwise
as-lists : (m : Making) (us us' : List Unfolded) (bs bs' : List Bounding) (vs : List Value) → us ≡ us' → bs ≡ bs' → AreValues m us bs vs → AreValues m us' bs' vs
as-lists m us us' bs bs' vs e f h = subst (λ (xs : List Unfolded). AreValues m xs bs' vs) e (subst (λ (xs : List Bounding). AreValues m us xs vs) f h)

pub with_none : (m : BuilderModel) (ds : List SketchNode) (lists : List (List Bound)) (s : Spread) (kind : Kind) (at : Place) (v : Value) (links : List Value) → LinksWith {X = Unit {0}} (making m ds lists) (making m ds lists) s kind at v [] links links (Ok tt)
with_none m ds lists s kind at v links = λ u b us bs ls cs i j l. go u b us bs ls cs j l
  where
    go : (u : Unfolded) (b : Bounding) (us : List Unfolded) (bs : List Bounding) (ls : List Unfolded) (cs : List Bounding) → AreValues (making m ds lists) us bs [] → AreValues (making m ds lists) ls cs links →
        Steps {X = Unit {0}} (making m ds lists) (making m ds lists) (together (map (compare_events u) us)) (Ok tt)
        (λ _. AreValues (making m ds lists) (ls ++ map (linked s kind at u) us) (cs ++ map (link_bounds s kind b) bs) links)
    go u b [] [] ls cs j l = ((λ claim. refl), (grows_self (making m ds lists), as-lists (making m ds lists) ls (ls ++ []) cs (cs ++ []) links (sym (append-nil ls)) (sym (append-nil cs)) l))
    go u b [] (c ∷ bs) ls cs j l = elim j [ ]
    go u b (x ∷ us) [] ls cs j l = elim j [ ]
    go u b (x ∷ us) (c ∷ bs) ls cs j l = elim j [ ]

pub with_on : (m m1 m2 : BuilderModel) (ds ds1 ds2 : List SketchNode) (lists lists1 lists2 : List (List Bound)) (s : Spread) (kind : Kind) (at : Place) (v w y : Value) (vs links links1 links2 : List Value) (r : Result (Unit {0}) Stop) →
    Links (making m ds lists) (making m1 ds1 lists1) s kind at v w (Ok y) → links1 ≡ links ++ (y ∷ []) → LinksWith (making m1 ds1 lists1) (making m2 ds2 lists2) s kind at v vs links1 links2 r → LinksWith (making m ds lists) (making m2 ds2 lists2) s kind at v (w ∷ vs) links links2 r
with_on m m1 m2 ds ds1 ds2 lists lists1 lists2 s kind at v w y vs links links1 links2 r one e rest = λ u b us bs ls cs i j l. go u b us bs ls cs i j l
  where
    go : (u : Unfolded) (b : Bounding) (us : List Unfolded) (bs : List Bounding) (ls : List Unfolded) (cs : List Bounding) → IsValue (making m ds lists) u b v → AreValues (making m ds lists) us bs (w ∷ vs) → AreValues (making m ds lists) ls cs links →
        Steps (making m ds lists) (making m2 ds2 lists2) (together (map (compare_events u) us)) r
        (λ _. AreValues (making m2 ds2 lists2) (ls ++ map (linked s kind at u) us) (cs ++ map (link_bounds s kind b) bs) links2)
    go u b (x ∷ us) (c ∷ bs) ls cs i j l =
        let M = making m ds lists in let M1 = making m1 ds1 lists1 in let M2 = making m2 ds2 lists2 in
        let h = one u x b c i j.0 in let g = h.1.0 in
        let f = linked s kind at u in let d = link_bounds s kind b in
        let now = subst (λ (zs : List Value). AreValues M1 (ls ++ (f x ∷ [])) (cs ++ (d c ∷ [])) zs) (sym e) (values-end M1 ls cs links (f x) (d c) y (values_stay M M1 ls cs links g l) h.1.1) in
        let k = rest u b us bs (ls ++ (f x ∷ [])) (cs ++ (d c ∷ [])) (value_stays M M1 u b v g i) (values_stay M M1 us bs vs g j.1) now in
        steps_then (IsValue M1 (f x) (d c)) (λ _. AreValues M2 (ls ++ map f (x ∷ us)) (cs ++ map d (c ∷ bs)) links2) M M1 M2 (compare_events u x) (together (map (compare_events u) us)) y r h
        (steps_more (λ _. AreValues M2 ((ls ++ (f x ∷ [])) ++ map f us) ((cs ++ (d c ∷ [])) ++ map d bs) links2) (λ _. AreValues M2 (ls ++ map f (x ∷ us)) (cs ++ map d (c ∷ bs)) links2) M1 M2 (together (map (compare_events u) us)) r
        (λ _ p. as-lists M2 ((ls ++ (f x ∷ [])) ++ map f us) (ls ++ map f (x ∷ us)) ((cs ++ (d c ∷ [])) ++ map d bs) (cs ++ map d (c ∷ bs)) links2 (append_assoc ls (f x ∷ []) (map f us)) (append_assoc cs (d c ∷ []) (map d bs)) p) k)
    go u b [] [] ls cs i j l = elim j [ ]
    go u b [] (c ∷ bs) ls cs i j l = elim j [ ]
    go u b (x ∷ us) [] ls cs i j l = elim j [ ]

pub with_stop : (m m1 : BuilderModel) (ds ds1 : List SketchNode) (lists lists1 : List (List Bound)) (s : Spread) (kind : Kind) (at : Place) (v w : Value) (vs links links1 : List Value) (z : Stop) →
    Links (making m ds lists) (making m1 ds1 lists1) s kind at v w (Err z) → LinksWith {X = Unit {0}} (making m ds lists) (making m1 ds1 lists1) s kind at v (w ∷ vs) links links1 (Err z)
with_stop m m1 ds ds1 lists lists1 s kind at v w vs links links1 z one = λ u b us bs ls cs i j l. go u b us bs ls cs i j
  where
    go : (u : Unfolded) (b : Bounding) (us : List Unfolded) (bs : List Bounding) (ls : List Unfolded) (cs : List Bounding) → IsValue (making m ds lists) u b v → AreValues (making m ds lists) us bs (w ∷ vs) →
        Steps {X = Unit {0}} (making m ds lists) (making m1 ds1 lists1) (together (map (compare_events u) us)) (Err z)
        (λ _. AreValues (making m1 ds1 lists1) (ls ++ map (linked s kind at u) us) (cs ++ map (link_bounds s kind b) bs) links1)
    go u b (x ∷ us) (c ∷ bs) ls cs i j = steps_stop (IsValue (making m1 ds1 lists1) (linked s kind at u x) (link_bounds s kind b c))
        (λ (_ : Unit {0}). AreValues (making m1 ds1 lists1) (ls ++ map (linked s kind at u) (x ∷ us)) (cs ++ map (link_bounds s kind b) (c ∷ bs)) links1)
        (making m ds lists) (making m1 ds1 lists1) (making m1 ds1 lists1) (compare_events u x) (together (map (compare_events u) us)) z (one u x b c i j.0)
    go u b [] [] ls cs i j = elim j [ ]
    go u b [] (c ∷ bs) ls cs i j = elim j [ ]
    go u b (x ∷ us) [] ls cs i j = elim j [ ]

-- ---- values that are known

pub first_known : (m : Making) (v : Value) (vs : List Value) → AreKnown m (v ∷ vs) → IsKnown m v
first_known m v vs h = go h.0 h.1 h.2
  where
    go : (us : List Unfolded) (bs : List Bounding) → AreValues m us bs (v ∷ vs) → IsKnown m v
    go (u ∷ us) (b ∷ bs) k = (u, b, k.0)
    go [] [] k = elim k [ ]
    go [] (b ∷ bs) k = elim k [ ]
    go (u ∷ us) [] k = elim k [ ]

pub later_known : (m : Making) (v : Value) (vs : List Value) → AreKnown m (v ∷ vs) → AreKnown m vs
later_known m v vs h = go h.0 h.1 h.2
  where
    go : (us : List Unfolded) (bs : List Bounding) → AreValues m us bs (v ∷ vs) → AreKnown m vs
    go (u ∷ us) (b ∷ bs) k = (us, bs, k.1)
    go [] [] k = elim k [ ]
    go [] (b ∷ bs) k = elim k [ ]
    go (u ∷ us) [] k = elim k [ ]

pub stays_known : (old new : Making) (v : Value) → Grows old new → IsKnown old v → IsKnown new v
stays_known old new v g h = (h.0, h.1, value_stays old new h.0 h.1 v g h.2)

pub stay_known : (old new : Making) (vs : List Value) → Grows old new → AreKnown old vs → AreKnown new vs
stay_known old new vs g h = (h.0, h.1, values_stay old new h.0 h.1 vs g h.2)

-- what is known behind links
pub record Linked (old new : Making) (links : List Value) : Type 0 where
  pub grows : Grows old new
  pub known : AreKnown new links

pub link_known : (old new : Making) (s : Spread) (kind : Kind) (at : Place) (v w y : Value) (links links1 : List Value) → Links old new s kind at v w (Ok y) → IsKnown old v → IsKnown old w → AreKnown old links → links1 ≡ links ++ (y ∷ []) → Linked old new links1
link_known old new s kind at v w y links links1 h i j l f =
    let k = h i.0 j.0 i.1 j.1 i.2 j.2 in record {
      grows = k.1.0;
      known = (
        l.0 ++ (linked s kind at i.0 j.0 ∷ []),
        l.1 ++ (link_bounds s kind i.1 j.1 ∷ []),
        subst (λ (zs : List Value). AreValues new (l.0 ++ (linked s kind at i.0 j.0 ∷ [])) (l.1 ++ (link_bounds s kind i.1 j.1 ∷ [])) zs) (sym f)
            (values-end new l.0 l.1 links (linked s kind at i.0 j.0) (link_bounds s kind i.1 j.1) y (values_stay old new l.0 l.1 links k.1.0 l.2) k.1.1),
      );
    }

pub with_known : (old new : Making) (s : Spread) (kind : Kind) (at : Place) (v : Value) (vs links links1 : List Value) → LinksWith {X = Unit {0}} old new s kind at v vs links links1 (Ok tt) → IsKnown old v → AreKnown old vs → AreKnown old links → Linked old new links1
with_known old new s kind at v vs links links1 h i j l =
    let k = h i.0 i.1 j.0 j.1 l.0 l.1 i.2 j.2 l.2 in record { grows = k.1.0; known = (l.0 ++ map (linked s kind at i.0) j.0, l.1 ++ map (link_bounds s kind i.1) j.1, k.1.1) }

pub arms_two : (v w : Value) (vs : List Value) → are_arms (v ∷ w ∷ vs) ≡ true → are_arms (v ∷ w ∷ []) ≡ true
arms_two (values.Real i) w vs e = arms_head w vs e
arms_two (values.Choice i) w vs e = arms_head w vs e
arms_two (values.Bool p n) w vs e = cc

pub arms_skip : (v w : Value) (vs : List Value) → are_arms (v ∷ w ∷ vs) ≡ true → are_arms (v ∷ vs) ≡ true
arms_skip (values.Real i) w vs e = arms_tail w vs e
arms_skip (values.Choice i) w vs e = arms_tail w vs e
arms_skip (values.Bool p n) w vs e = cc

-- ---- each with those that belong with it

pub others_values : (m : Making) (s : Spread) (us : List Unfolded) (bs : List Bounding) (vs : List Value) → AreValues m us bs vs → AreValues m (others_of s us) (others_of s bs) (others_of s vs)
others_values m Later us bs vs h = h
others_values m Next [] [] [] h = tt
others_values m Next (u ∷ us) (b ∷ bs) (v ∷ vs) h = (h.0, tt)
others_values m Next [] [] (v ∷ vs) h = elim h [ ]
others_values m Next [] (b ∷ bs) vs h = elim h [ ]
others_values m Next (u ∷ us) [] vs h = elim h [ ]
others_values m Next (u ∷ us) (b ∷ bs) [] h = elim h [ ]

pub others_known : (m : Making) (s : Spread) (vs : List Value) → AreKnown m vs → AreKnown m (others_of s vs)
others_known m s vs h = (others_of s h.0, others_of s h.1, others_values m s h.0 h.1 vs h.2)

pub others_arms : (s : Spread) (v : Value) (vs : List Value) → are_arms (v ∷ vs) ≡ true → are_arms (v ∷ others_of s vs) ≡ true
others_arms Later v vs e = e
others_arms Next v [] e = e
others_arms Next v (w ∷ vs) e = arms_two v w vs e

together-both : (xs ys : List (List Event)) → together (xs ++ ys) ≡ together xs ++ together ys
together-both [] ys = refl
together-both (x ∷ xs) ys = ap (λ l. x ++ l) (together-both xs ys) ∙ sym (append_assoc x (together xs) (together ys))

pub each_none : (m : BuilderModel) (ds : List SketchNode) (lists : List (List Bound)) (s : Spread) (kind : Kind) (at : Place) (links : List Value) → LinksEach {X = Unit {0}} (making m ds lists) (making m ds lists) s kind at [] links links (Ok tt)
each_none m ds lists s kind at links = λ us bs ls cs j l. go us bs ls cs j l
  where
    go : (us : List Unfolded) (bs : List Bounding) (ls : List Unfolded) (cs : List Bounding) → AreValues (making m ds lists) us bs [] → AreValues (making m ds lists) ls cs links →
        Steps {X = Unit {0}} (making m ds lists) (making m ds lists) (together (spread_over s compare_events us)) (Ok tt)
        (λ _. AreValues (making m ds lists) (ls ++ spread_over s (linked s kind at) us) (cs ++ spread_over s (link_bounds s kind) bs) links)
    go [] [] ls cs j l = ((λ claim. refl), (grows_self (making m ds lists), as-lists (making m ds lists) ls (ls ++ []) cs (cs ++ []) links (sym (append-nil ls)) (sym (append-nil cs)) l))
    go [] (c ∷ bs) ls cs j l = elim j [ ]
    go (x ∷ us) [] ls cs j l = elim j [ ]
    go (x ∷ us) (c ∷ bs) ls cs j l = elim j [ ]

pub each_on : (m m1 m2 : BuilderModel) (ds ds1 ds2 : List SketchNode) (lists lists1 lists2 : List (List Bound)) (s : Spread) (kind : Kind) (at : Place) (v : Value) (vs links links1 links2 : List Value) (r : Result (Unit {0}) Stop) →
    LinksWith {X = Unit {0}} (making m ds lists) (making m1 ds1 lists1) s kind at v (others_of s vs) links links1 (Ok tt) → LinksEach (making m1 ds1 lists1) (making m2 ds2 lists2) s kind at vs links1 links2 r → LinksEach (making m ds lists) (making m2 ds2 lists2) s kind at (v ∷ vs) links links2 r
each_on m m1 m2 ds ds1 ds2 lists lists1 lists2 s kind at v vs links links1 links2 r one rest = λ us bs ls cs j l. go us bs ls cs j l
  where
    go : (us : List Unfolded) (bs : List Bounding) (ls : List Unfolded) (cs : List Bounding) → AreValues (making m ds lists) us bs (v ∷ vs) → AreValues (making m ds lists) ls cs links →
        Steps (making m ds lists) (making m2 ds2 lists2) (together (spread_over s compare_events us)) r
        (λ _. AreValues (making m2 ds2 lists2) (ls ++ spread_over s (linked s kind at) us) (cs ++ spread_over s (link_bounds s kind) bs) links2)
    go (x ∷ us) (c ∷ bs) ls cs j l =
        let M = making m ds lists in let M1 = making m1 ds1 lists1 in let M2 = making m2 ds2 lists2 in
        let f = linked s kind at in let d = link_bounds s kind in
        let A = map (f x) (others_of s us) in let B = map (d c) (others_of s bs) in
        let h = one x c (others_of s us) (others_of s bs) ls cs j.0 (others_values M s us bs vs j.1) l in
        let k = rest us bs (ls ++ A) (cs ++ B) (values_stay M M1 us bs vs h.1.0 j.1) h.1.1 in
        let P : Unit {0} → Type 0 = λ _. AreValues M2 (ls ++ spread_over s f (x ∷ us)) (cs ++ spread_over s d (c ∷ bs)) links2 in
        subst (λ es. Steps M M2 es r P) (sym (together-both (map (compare_events x) (others_of s us)) (spread_over s compare_events us)))
        (steps_then (λ _. AreValues M1 (ls ++ A) (cs ++ B) links1) P M M1 M2 (together (map (compare_events x) (others_of s us))) (together (spread_over s compare_events us)) (tt {0}) r h
        (steps_more (λ _. AreValues M2 ((ls ++ A) ++ spread_over s f us) ((cs ++ B) ++ spread_over s d bs) links2) P M1 M2 (together (spread_over s compare_events us)) r
        (λ _ p. as-lists M2 ((ls ++ A) ++ spread_over s f us) (ls ++ spread_over s f (x ∷ us)) ((cs ++ B) ++ spread_over s d bs) (cs ++ spread_over s d (c ∷ bs)) links2 (append_assoc ls A (spread_over s f us)) (append_assoc cs B (spread_over s d bs)) p) k))
    go [] [] ls cs j l = elim j [ ]
    go [] (c ∷ bs) ls cs j l = elim j [ ]
    go (x ∷ us) [] ls cs j l = elim j [ ]

pub each_stop : (m m1 : BuilderModel) (ds ds1 : List SketchNode) (lists lists1 : List (List Bound)) (s : Spread) (kind : Kind) (at : Place) (v : Value) (vs links links1 : List Value) (z : Stop) →
    LinksWith {X = Unit {0}} (making m ds lists) (making m1 ds1 lists1) s kind at v (others_of s vs) links links1 (Err z) → LinksEach {X = Unit {0}} (making m ds lists) (making m1 ds1 lists1) s kind at (v ∷ vs) links links1 (Err z)
each_stop m m1 ds ds1 lists lists1 s kind at v vs links links1 z one = λ us bs ls cs j l. go us bs ls cs j l
  where
    go : (us : List Unfolded) (bs : List Bounding) (ls : List Unfolded) (cs : List Bounding) → AreValues (making m ds lists) us bs (v ∷ vs) → AreValues (making m ds lists) ls cs links →
        Steps {X = Unit {0}} (making m ds lists) (making m1 ds1 lists1) (together (spread_over s compare_events us)) (Err z)
        (λ _. AreValues (making m1 ds1 lists1) (ls ++ spread_over s (linked s kind at) us) (cs ++ spread_over s (link_bounds s kind) bs) links1)
    go (x ∷ us) (c ∷ bs) ls cs j l =
        let M = making m ds lists in let M1 = making m1 ds1 lists1 in
        let P : Unit {0} → Type 0 = λ _. AreValues M1 (ls ++ spread_over s (linked s kind at) (x ∷ us)) (cs ++ spread_over s (link_bounds s kind) (c ∷ bs)) links1 in
        subst (λ es. Steps M M1 es (Err z) P) (sym (together-both (map (compare_events x) (others_of s us)) (spread_over s compare_events us)))
        (steps_stop (λ (_ : Unit {0}). AreValues M1 (ls ++ map (linked s kind at x) (others_of s us)) (cs ++ map (link_bounds s kind c) (others_of s bs)) links1) P M M1 M1 (together (map (compare_events x) (others_of s us))) (together (spread_over s compare_events us)) z
        (one x c (others_of s us) (others_of s bs) ls cs j.0 (others_values M s us bs vs j.1) l))
    go [] [] ls cs j l = elim j [ ]
    go [] (c ∷ bs) ls cs j l = elim j [ ]
    go (x ∷ us) [] ls cs j l = elim j [ ]

pub each_known : (old new : Making) (s : Spread) (kind : Kind) (at : Place) (vs links : List Value) → LinksEach {X = Unit {0}} old new s kind at vs [] links (Ok tt) → AreKnown old vs → AreKnown new links
each_known old new s kind at vs links h j = (spread_over s (linked s kind at) j.0, spread_over s (link_bounds s kind) j.1, (h j.0 j.1 [] [] j.2 tt).1.1)
