-- What stands stays where more is made.
use Rattle.std.proofs.Common.{◌≡◌, true, ◌&&◌, ℕ, suc, zero, Some, ◌+◌, ◌≤◌, List, [], ◌∷◌, ◌++◌, length, refl, ap, sym, ◌∙◌, subst, arith, append_assoc, append-nil, length-append}
use Rattle.std.specs.Prelude.{Result, Ok, Err, slice_get}
use Rattle.script_model.specs.Declared.{Bound, Bounding}
use Rattle.poly_graph.specs.Term.{Term}
use Rattle.poly_graph.specs.Form.{Form}
use Rattle.script_forms.specs.Terms.{Comparison, Unfolded, formula}
use Rattle.script_forms.specs.Unfolded.{truth_of, negation_form, is_real_tree}
use Rattle.script_forms.specs.Work.{Event, ending, made}
use Rattle.script_forms.specs.Walk.{after_events}
use Rattle.term_build.specs.Built.{BuilderModel, stand_of}
use Rattle.term_build.specs.Sketch.{SketchNode, yes_sketch, no_sketch, comparison_sketch, bool_sketch, all_sketch, any_sketch, choice_sketch, equal_sketch, crowd_sketch, IsDrawing, IsDrawn, IsSketch}
use Rattle.term_build.specs.Pairs.{DrawsForm, Draws, Grown}
use Rattle.term_build.specs.Settled.{Extends}
use Rattle.term_build.specs.declared.sketch.Arm.{Arm}
use Rattle.term_build.specs.declared.sketch.Arm.TheVariants as arm
use Rattle.term_build.specs.declared.connectives.Pair.{Pair}
use Rattle.term_build.specs.declared.stop.Stop.{Stop}
use Rattle.term_build.proofs.Emits.{emits_then, emits_stop, emits_more, tree_stays}
use Rattle.term_build.proofs.Gathering.{numbers_within}
use Rattle.term_build.proofs.Lists.{index_before}
use Rattle.term_build.proofs.Pairs.{grown_self, grown_both, pair_more}
use Rattle.term_build.proofs.Settled.{extends_self, extends_on, settled_events}
use Rattle.term_build.proofs.Trees.{has_at}
use Rattle.declared_box.specs.Same.{SameBounds}
use Rattle.declared_box.specs.Table.{list_at}
use Rattle.value_build.specs.Making.{Making, MoreLists, Grows, Steps}
use Rattle.value_build.specs.Values.{Lists, IsArm, is_tree, is_choice, IsValue, AreValues, IsKnown, AreKnown}
use Rattle.value_build.specs.declared.value.Value.{Value}
use Rattle.value_build.specs.declared.value.Value.TheVariants as values

-- ---- lists of bounds

pub lists_self : (lists : List (List Bound)) → MoreLists lists lists
lists_self lists = ([], sym (append-nil lists))

pub lists_on : (a b d : List (List Bound)) → MoreLists a b → MoreLists b d → MoreLists a d
lists_on a b d g h = (g.0 ++ h.0, h.1 ∙ ap (λ x. x ++ h.0) g.1 ∙ append_assoc a g.0 h.0)

pub lists_stay : (old new : List (List Bound)) (n : ℕ) (bs : List Bound) → MoreLists old new → Lists old n bs → Lists new n bs
lists_stay old new n bs g h = (
  let e : length new ≡ length old + length g.0 = ap length g.1 ∙ length-append old g.0 in omega (arith, e, h.0),
  subst (λ (xs : List Bound). SameBounds xs bs) (sym (ap (λ lists. list_at lists n) g.1 ∙ index_before old g.0 n [] h.0)) h.1,
)

-- ---- growth

pub grows_self : (m : Making) → Grows m m
grows_self m = record { stand = extends_self (stand_of m.made); drawn = grown_self m.drawn; bounds = lists_self m.bounds }

pub grows_on : (a b d : Making) → Grows a b → Grows b d → Grows a d
grows_on a b d g h = record {
  stand = extends_on (stand_of a.made) (stand_of b.made) (stand_of d.made) g.stand h.stand;
  drawn = grown_both a.drawn b.drawn d.drawn g.drawn h.drawn;
  bounds = lists_on a.bounds b.bounds d.bounds g.bounds h.bounds;
}

-- ---- what nodes draw over more trees

draws-trees : (ts us : List Term) (ds : List SketchNode) (f : Form Comparison) (k : ℕ) (vs : List Term) → us ≡ ts ++ vs → DrawsForm ts ds f k → DrawsForm us ds f k
draws-trees ts us ds f k vs e h = record {
  below = h.below;
  form = λ ts' more fs d. h.form (vs ++ ts') more fs (subst (λ (x : List Term). IsDrawing x (ds ++ more) fs) (ap (λ x. x ++ ts') e ∙ append_assoc ts vs ts') d);
}

pub pair_trees : (ts us : List Term) (ds : List SketchNode) (u : Unfolded) (p : Pair) (vs : List Term) → us ≡ ts ++ vs → Draws ts ds u p → Draws us ds u p
pair_trees ts us ds u p vs e h = record { yes = draws-trees ts us ds (truth_of u) p.truth vs e h.yes; no = draws-trees ts us ds (negation_form u) p.negation vs e h.no; is = h.is }

-- ---- arms stay

got-before : (ds more : List SketchNode) (k : ℕ) (d : SketchNode) → slice_get ds k ≡ Some d → slice_get (ds ++ more) k ≡ Some d
got-before [] more k d h = cc
got-before (x ∷ ds) more zero d h = h
got-before (x ∷ ds) more (suc k) d h = got-before ds more k d h

pub arm_stays : (m m' : BuilderModel) (ds ds' : List SketchNode) (u : Unfolded) (x : Arm) → Extends (stand_of m) (stand_of m') → Grown ds ds' → IsArm m ds u x → IsArm m' ds' u x
arm_stays m m' ds ds' _ _ e g (is_tree {t = t} {k = k} h) = is_tree (tree_stays m m' t k e.trees h)
arm_stays m m' ds ds' _ _ e g (is_choice {c = c} {d = d} {u = u} {v = v} {p = p} {x = x} {y = y} {k = k} h w i j) =
    is_choice (ap (λ l. slice_get l k) g.is ∙ got-before ds g.more k (choice_sketch p x y) h)
    (pair_more (stand_of m').trees ds ds' (formula c d) p g (pair_trees (stand_of m).trees (stand_of m').trees ds (formula c d) p e.trees.0 e.trees.1 w))
    (arm_stays m m' ds ds' u x e g i) (arm_stays m m' ds ds' v y e g j)

pub arm_is_real : (m : BuilderModel) (ds : List SketchNode) (u : Unfolded) (x : Arm) → IsArm m ds u x → is_real_tree u ≡ true
arm_is_real m ds _ _ (is_tree h) = refl
arm_is_real m ds _ _ (is_choice {u = u} {v = v} {x = x} {y = y} h w i j) = ap (λ b. b && is_real_tree v) (arm_is_real m ds u x i) ∙ arm_is_real m ds v y j

choice-quiet : (m : BuilderModel) (ds : List SketchNode) (u : Unfolded) (k : ℕ) → IsArm m ds u (arm.Choice k) → ending u ≡ []
choice-quiet m ds _ k (is_choice h w i j) = refl

-- ---- values stay

pub value_stays : (old new : Making) (u : Unfolded) (b : Bounding) (v : Value) → Grows old new → IsValue old u b v → IsValue new u b v
value_stays old new u b (values.Real k) g h = (h.0, h.1, tree_stays old.made new.made h.0 k g.stand.trees h.2, h.3)
value_stays old new u b (values.Choice k) g h = (arm_stays old.made new.made old.drawn new.drawn u (arm.Choice k) g.stand g.drawn h.0, h.1)
value_stays old new u b (values.Bool pair n) g h = (
  pair_more (stand_of new.made).trees old.drawn new.drawn u pair g.drawn (pair_trees (stand_of old.made).trees (stand_of new.made).trees old.drawn u pair g.stand.trees.0 g.stand.trees.1 h.0),
  (h.1.0, h.1.1, lists_stay old.bounds new.bounds n h.1.0 g.bounds h.1.2),
)

pub values_stay : (old new : Making) (us : List Unfolded) (bs : List Bounding) (vs : List Value) → Grows old new → AreValues old us bs vs → AreValues new us bs vs
values_stay old new [] [] [] g h = tt
values_stay old new (u ∷ us) (b ∷ bs) (v ∷ vs) g h = (value_stays old new u b v g h.0, values_stay old new us bs vs g h.1)
values_stay old new [] [] (v ∷ vs) g h = elim h [ ]
values_stay old new [] (b ∷ bs) vs g h = elim h [ ]
values_stay old new (u ∷ us) [] vs g h = elim h [ ]
values_stay old new (u ∷ us) (b ∷ bs) [] g h = elim h [ ]

pub known_stays : (old new : Making) (v : Value) → Grows old new → IsKnown old v → IsKnown new v
known_stays old new v g h = (h.0, h.1, value_stays old new h.0 h.1 v g h.2)

pub all_known_stay : (old new : Making) (vs : List Value) → Grows old new → AreKnown old vs → AreKnown new vs
all_known_stay old new vs g h = (h.0, h.1, values_stay old new h.0 h.1 vs g h.2)

-- ---- steps one after another

pub steps_then : {X Y : Type 0} (P : X → Type 0) (Q : Y → Type 0) (m m1 m2 : Making) (es fs : List Event) (k : X) (r : Result Y Stop) → Steps m m1 es (Ok k) P → Steps m1 m2 fs r Q → Steps m m2 (es ++ fs) r Q
steps_then P Q m m1 m2 es fs k r h i =
    let n = emits_more (λ y. Grows m1 m2 × Q y) (λ y. Grows m m2 × Q y) m1.made m2.made fs r (λ y p. (grows_on m m1 m2 h.1.0 p.0, p.1)) i in
    emits_then (λ x. Grows m m1 × P x) (λ y. Grows m m2 × Q y) m.made m1.made m2.made es fs k r h n

pub steps_stop : {X Y : Type 0} (P : X → Type 0) (Q : Y → Type 0) (m m1 m2 : Making) (es fs : List Event) (e : Stop) → Steps m m1 es (Err e) P → Steps m m2 (es ++ fs) (Err e) Q
steps_stop P Q m m1 m2 es fs e h = emits_stop (λ x. Grows m m1 × P x) (λ y. Grows m m2 × Q y) m.made m1.made m2.made es fs e h

pub steps_more : {X : Type 0} (P Q : X → Type 0) (m m1 : Making) (es : List Event) (r : Result X Stop) → ((x : X) → P x → Q x) → Steps m m1 es r P → Steps m m1 es r Q
steps_more P Q m m1 es r f h = emits_more (λ x. Grows m m1 × P x) (λ x. Grows m m1 × Q x) m.made m1.made es r (λ x p. (p.0, f x p.1)) h

-- nothing is done
pub steps_none : {X : Type 0} (P : X → Type 0) (m : Making) (x : X) → P x → Steps m m [] (Ok x) P
steps_none P m x h = ((λ claim. refl), (grows_self m, h))

-- ---- a name that stands for a value already made

-- what the value of a name was made of stands there
pub named_again : (m : Making) (u : Unfolded) (b : Bounding) (v : Value) → IsValue m u b v → Steps m m (ending u) (Ok v) (IsValue m u b)
named_again m u b (values.Real k) h = (
  (λ claim. ap (λ x. after_events claim (stand_of m.made) (ending x)) h.1 ∙ settled_events claim (stand_of m.made) (made h.0 ∷ []) (has_at (stand_of m.made).trees k h.0 h.2, tt)),
  (grows_self m, h),
)
named_again m u b (values.Choice k) h = ((λ claim. ap (λ es. after_events claim (stand_of m.made) es) (choice-quiet m.made m.drawn u k h.0)), (grows_self m, h))
named_again m u b (values.Bool pair n) h = (
  (λ claim. ap (λ x. after_events claim (stand_of m.made) (ending x)) h.0.is),
  (grows_self m, h),
)

-- ---- sketches over more trees

drawn-stays : (m m' : BuilderModel) (d : SketchNode) → length m.nodes ≤ length m'.nodes → m'.sorts ≡ m.sorts → IsDrawn m d → IsDrawn m' d
drawn-stays m m' (comparison_sketch at l r kind) n s h = (omega (arith, n, h.0), omega (arith, n, h.1))
drawn-stays m m' (bool_sketch axis v) n s h = rw s h
drawn-stays m m' yes_sketch n s h = tt
drawn-stays m m' no_sketch n s h = tt
drawn-stays m m' (choice_sketch p x y) n s h = tt
drawn-stays m m' (equal_sketch at ks) n s h = numbers_within (length m.nodes) (length m'.nodes) ks n h
drawn-stays m m' (crowd_sketch v ks) n s h = h
drawn-stays m m' (all_sketch ks) n s h = tt
drawn-stays m m' (any_sketch ks) n s h = tt

pub sketch_stays : (m m' : BuilderModel) (ds : List SketchNode) → length m.nodes ≤ length m'.nodes → m'.sorts ≡ m.sorts → IsSketch m ds → IsSketch m' ds
sketch_stays m m' ds n s h = record { ordered = h.ordered; drawn = λ k d e. drawn-stays m m' d n s (h.drawn k d e) }
