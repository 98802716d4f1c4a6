-- What operators make of values.
use Rattle.std.proofs.Common.{◌≡◌, ℕ, suc, zero, ◌<◌, ◌≤◌, List, [], ◌∷◌, map, length, Bool, true, false, ◌&&◌, ◌||◌, cond, true≢false, None, refl, ap, ap₂, sym, ◌∙◌, subst, arith, nat_le, nat_lt, nat_eq}
use Rattle.std.specs.Prelude.{Result, Ok, Err, IsErr}
use Rattle.std.specs.List.{All, list_all}
use Rattle.dyadic.proofs.Equal.{both_pass}
use Rattle.std.specs.declared.alloc.AllocError.{AllocError}
use Rattle.script_model.specs.Sexp.{Place}
use Rattle.script_model.specs.Reading.{Operator, truth, falsehood, negation, conjunction, disjunction, implication, exclusive, equality, distinctness, choice, minus, plus, times, divide, at_most_op, below_op, at_least_op, above_op}
use Rattle.script_model.specs.Declared.{Bound, Bounding, bounds, bounds_in, concat, arm_bounding, choice_bounding, bounding_operation}
use Rattle.script_model.specs.Meaning.{neighbours, pairs}
use Rattle.smt_sexp.specs.Views.{place_of}
use Rattle.script_fault.specs.declared.place.Place as code_place
use Rattle.poly_graph.specs.Term.{Term, eq}
use Rattle.poly_graph.proofs.Graphs.{length_terms}
use Rattle.script_forms.specs.Terms.{Unfolded, term, either, refused, ill_formed}
use Rattle.script_forms.specs.Unfolded.{are_terms, are_formulas, at_least_long, takes, first_fault, unfolded_operation, operation_tree, chain, different, unless_refused, choice_form, and_of, xor_of, equal_two, differ_two, choice_two, choice_tree, picks_terms}
use Rattle.script_forms.specs.Work.{compare_events, together, operation_events, operator_events, unless_met, met}
use Rattle.term_build.specs.Built.{BuilderModel, stand_of}
use Rattle.term_build.specs.Sketch.{SketchNode, IsSketch, least_crowd}
use Rattle.term_build.specs.Steps.{Emits, IsTreeOf}
use Rattle.term_build.specs.Pairs.{Grown, Draws, DrawsEach, Sketches, AreFormulas, Connects, ConnectsChoice, ConnectsCrowd, ConnectsFrom, DiffersEach, compared, trees_at, same_of}
use Rattle.term_build.specs.Shapes.{AreNumbers}
use Rattle.term_build.specs.declared.connectives.Pair.{Pair}
use Rattle.term_build.specs.declared.stop.Stop.{Stop}
use Rattle.term_build.specs.declared.stop.Stop.TheVariants as stop
use Rattle.term_build.specs.declared.stop.Fault.TheVariants.{IllFormed}
use Rattle.term_build.proofs.Emits.{more_nodes, emits_fault, tree_is, tree_below}
use Rattle.term_build.proofs.Pairs.{grown_self, grown_both, ended}
use Rattle.term_build.proofs.Settled.{extends_self}
use Rattle.declared_box.specs.Same.{SameBounds}
use Rattle.declared_box.specs.Table.{list_at, all_of}
use Rattle.declared_box.proofs.Same.{same_bounds_append}
use Rattle.value_build.specs.Making.{Making, making, Grows, Steps}
use Rattle.value_build.specs.Values.{Weighs, IsArm, is_choice, IsValue, AreValues, AreKnown, Operates}
use Rattle.value_build.specs.Weights.{WeighsEach}
use Rattle.value_build.specs.Arithmetic.{AreNodes, operator_of_step}
use Rattle.value_build.specs.Bounds.{AddsList, chained_bounds}
use Rattle.value_build.specs.Chains.{spread_over, AreTrees, AddsConnected, ComparesEach, ConnectsEach, two_of}
use Rattle.value_build.specs.Operators.{are_arms, are_picked, ArmsDo, are_real, are_bool, node_number, pair_number, list_number, takes_of, RealsDo, bool_operation, bool_equality, bool_distinctness, distinct_from, given_bounds, ListsEach, BoolsDo}
use Rattle.value_build.specs.declared.arithmetic.Step.{Step}
use Rattle.value_build.specs.declared.chains.Spread.{Spread}
use Rattle.value_build.specs.declared.chains.Spread.TheVariants.{Next}
use Rattle.value_build.specs.declared.value.Value.{Value}
use Rattle.value_build.specs.declared.value.Value.TheVariants as values
use Rattle.value_build.proofs.Folds.{emits_grows}
use Rattle.term_build.specs.declared.sketch.Arm.TheVariants as arm
use Rattle.value_build.proofs.Plain.{plain_trees, plain_chain, plain_pairs, bools_chain_quiet, bools_pairs_quiet}
use Rattle.value_build.proofs.Growth.{arm_is_real, lists_self, sketch_stays}
use Rattle.value_build.proofs.Listing.{AreBools, bools_chain}
use Rattle.value_build.proofs.Spreads.{spread_next}
use Rattle.value_build.proofs.Weights.{arithmetic_weighs}

-- ---- trees

pub are_trees : (m : BuilderModel) (ks : List ℕ) → AreNodes m ks → AreTrees (stand_of m).trees ks
are_trees m [] h = tt
are_trees m (k ∷ ks) h = (omega (arith, h.0, length_terms m.nodes), are_trees m ks h.1)

trees-fit : (m : BuilderModel) → length (stand_of m).trees ≤ length m.nodes
trees-fit m = omega (arith, length_terms m.nodes)

nodes-below : (m : BuilderModel) (ks : List ℕ) → AreNodes m ks → AreNumbers (length (stand_of m).trees) ks
nodes-below m [] h = refl
nodes-below m (k ∷ ks) h = let below : k < length (stand_of m).trees = omega (arith, h.0, length_terms m.nodes) in
    both_pass (nat_lt k (length (stand_of m).trees)) (list_all (λ j. nat_lt j (length (stand_of m).trees)) ks) (lt-true k (length (stand_of m).trees) below) (nodes-below m ks h.1)
  where
    lt-true : (a b : ℕ) → a < b → nat_lt a b ≡ true
    lt-true a b h = grind (arith, h)

-- that each two differ
pub differs_sketch : (m : BuilderModel) (at : Place) (ds ds' : List SketchNode) (ks : List ℕ) (r : Result Pair AllocError) → IsSketch m ds → AreNodes m ks → DiffersEach at ds ds' ks r →
    Sketches ds ds' m (Draws (stand_of m).trees ds' (different (pairs (compared eq at) (trees_at (stand_of m).trees ks)))) r
differs_sketch m at ds ds' ks r s nodes h = h m (stand_of m).trees s (nodes-below m ks nodes) (trees-fit m)

-- ---- comparisons of each two that belong together, joined

pub compares_sketch : {V : Type 0} (items : V → List Pair) (s : Spread) (f : Unfolded → Unfolded → Unfolded) (m : BuilderModel) (ds ds1 : List SketchNode) (ks : List ℕ) (r : Result V AllocError) → IsSketch m ds → AreNodes m ks → ComparesEach items s f ds ds1 ks r → IsSketch m ds1
compares_sketch items s f m ds ds1 ks r k h w = (w m (stand_of m).trees k (are_trees m ks h) (trees-fit m)).sketch

pub compares_joined : {V : Type 0} (items : V → List Pair) (s : Spread) (f : Unfolded → Unfolded → Unfolded) (op : List Unfolded → Unfolded) (m : BuilderModel) (ds ds1 ds2 : List SketchNode) (ks : List ℕ) (links : V) (ps : List Pair) (r : Result Pair AllocError) → ps ≡ items links →
    IsSketch m ds → AreNodes m ks → ComparesEach items s f ds ds1 ks (Ok links) → Connects op ds1 ds2 ps r → Sketches ds ds2 m (Draws (stand_of m).trees ds2 (op (spread_over s f (trees_at (stand_of m).trees ks)))) r
compares_joined items s f op m ds ds1 ds2 ks links ps r e k h w c =
    let ts = (stand_of m).trees in
    let a = w m ts k (are_trees m ks h) (trees-fit m) in
    let b = c m ts (spread_over s f (trees_at ts ks)) a.sketch (subst (λ (qs : List Pair). DrawsEach ts ds1 (spread_over s f (trees_at ts ks)) qs) (sym e) a.drawn) in
    record { grown = grown_both ds ds1 ds2 a.grown b.grown; sketch = b.sketch; drawn = b.drawn }

pub connects_ended : {V : Type 0} (items : V → List Pair) (s : Spread) (f : Unfolded → Unfolded → Unfolded) (op : List Unfolded → Unfolded) (ds ds1 : List SketchNode) (qs : List Pair) (x : Result V AllocError) (r : Result Pair AllocError) → IsErr r →
    ConnectsEach items s f ds ds1 qs x → Connects op ds ds1 qs r
connects_ended items s f op ds ds1 qs x r is w = λ m ts us k d. let a = w m ts us k d in ended ds ds1 m (Draws ts ds1 (op us)) r is a.grown a.sketch

pub connects_joined : {V : Type 0} (items : V → List Pair) (s : Spread) (f : Unfolded → Unfolded → Unfolded) (op op' : List Unfolded → Unfolded) (ds ds1 ds2 : List SketchNode) (qs : List Pair) (links : V) (ps : List Pair) (r : Result Pair AllocError) → ps ≡ items links →
    ((us : List Unfolded) → op (spread_over s f us) ≡ op' us) → ConnectsEach items s f ds ds1 qs (Ok links) → Connects op ds1 ds2 ps r → Connects op' ds ds2 qs r
connects_joined items s f op op' ds ds1 ds2 qs links ps r e same w c = λ m ts us k d.
    let a = w m ts us k d in
    let b = c m ts (spread_over s f us) a.sketch (subst (λ (xs : List Pair). DrawsEach ts ds1 (spread_over s f us) xs) (sym e) a.drawn) in
    subst (λ (u : Unfolded). Sketches ds ds2 m (Draws ts ds2 u) r) (same us) (record { grown = grown_both ds ds1 ds2 a.grown b.grown; sketch = b.sketch; drawn = b.drawn })

-- ---- many formulas, each two of which differ

formulas : (ts : List Term) (ds : List SketchNode) (us : List Unfolded) (ps : List Pair) → DrawsEach ts ds us ps → AreFormulas us
formulas ts ds [] [] h = refl
formulas ts ds (u ∷ us) (p ∷ ps) h = ap₂ (λ (x : Unfolded) (xs : List Unfolded). x ∷ xs) (sym h.0.is) (formulas ts ds us ps h.1)
formulas ts ds [] (p ∷ ps) h = elim h [ ]
formulas ts ds (u ∷ us) [] h = elim h [ ]

each-length : (ts : List Term) (ds : List SketchNode) (us : List Unfolded) (ps : List Pair) → DrawsEach ts ds us ps → length us ≡ length ps
each-length ts ds [] [] h = refl
each-length ts ds (u ∷ us) (p ∷ ps) h = ap suc (each-length ts ds us ps h.1)
each-length ts ds [] (p ∷ ps) h = elim h [ ]
each-length ts ds (u ∷ us) [] h = elim h [ ]

pub crowd_ended : {X : Type 0} (ds ds1 : List SketchNode) (p : Pair) (qs made links : List Pair) (x : Result X AllocError) (r : Result Pair AllocError) → IsErr r → made ≡ [] → AddsConnected xor_of ds ds1 p qs made links x → ConnectsFrom distinct_from ds ds1 p qs r
crowd_ended ds ds1 p qs made links x r is e w = λ m ts u us s d each.
    let a = w m ts u us [] s d each (subst (λ (xs : List Pair). DrawsEach ts ds [] xs) (sym e) tt) in ended ds ds1 m (Draws ts ds1 (distinct_from u us)) r is a.grown a.sketch

pub crowd_joined : {X : Type 0} (ds ds1 ds2 : List SketchNode) (p : Pair) (qs made links ps : List Pair) (y : X) (r : Result Pair AllocError) → made ≡ [] → ps ≡ links → least_crowd ≤ length qs → AddsConnected xor_of ds ds1 p qs made links (Ok y) → ConnectsCrowd ds1 ds2 ps r →
    ConnectsFrom distinct_from ds ds2 p qs r
crowd_joined ds ds1 ds2 p qs made links ps y r e e' long w c = λ m ts u us s d each.
    let a = w m ts u us [] s d each (subst (λ (xs : List Pair). DrawsEach ts ds [] xs) (sym e) tt) in
    let b = c m ts u us a.sketch (omega (arith, long, each-length ts ds us qs each)) (formulas ts ds us qs each) (subst (λ (xs : List Pair). DrawsEach ts ds1 (map (xor_of u) us) xs) (sym e') a.drawn) in
    record { grown = grown_both ds ds1 ds2 a.grown b.grown; sketch = b.sketch; drawn = b.drawn }

from-first : (ds ds2 : List SketchNode) (p : Pair) (qs : List Pair) (r : Result Pair AllocError) → ConnectsFrom distinct_from ds ds2 p qs r → Connects bool_distinctness ds ds2 (p ∷ qs) r
from-first ds ds2 p qs r h = go
  where
    go : Connects bool_distinctness ds ds2 (p ∷ qs) r
    go m ts [] s each = elim each [ ]
    go m ts (u ∷ us) s each = h m ts u us s each.0 each.1

pub from_first : (ds ds2 : List SketchNode) (p : Pair) (qs ps : List Pair) (r : Result Pair AllocError) → ps ≡ p ∷ qs → ConnectsFrom distinct_from ds ds2 p qs r → Connects bool_distinctness ds ds2 ps r
from_first ds ds2 p qs ps r e h = subst (λ (xs : List Pair). Connects bool_distinctness ds ds2 xs r) (sym e) (from-first ds ds2 p qs r h)

pub equal_spread : (us : List Unfolded) → chain (spread_over Next (two_of Next) us) ≡ bool_equality us
equal_spread us = ap chain (spread_next same_of us)

-- ---- a Bool value

pub bool_value : (m : BuilderModel) (ds ds2 : List SketchNode) (lists lists' : List (List Bound)) (u : Unfolded) (b : Bounding) (xs ys : List Bound) (p : Pair) (k : ℕ) → Sketches ds ds2 m (Draws (stand_of m).trees ds2 u) (Ok p) → AddsList lists lists' xs (Ok k) → SameBounds xs ys → b ≡ bounds ys →
    Steps (making m ds lists) (making m ds2 lists') [] (Ok (values.Bool p k)) (IsValue (making m ds2 lists') u b)
bool_value m ds ds2 lists lists' u b xs ys p k s a same e = (
  (λ claim. refl),
  (
    record { stand = extends_self (stand_of m); drawn = s.grown; bounds = a.0 },
    (s.drawn, (ys, e, (a.1, subst (λ (zs : List Bound). SameBounds zs ys) (sym a.2) same))),
  ),
)

-- ---- a Real value

pub grown_same : (ds ds' : List SketchNode) → ds' ≡ ds → Grown ds ds'
grown_same ds ds' e = subst (λ (x : List SketchNode). Grown ds x) (sym e) (grown_self ds)

pub arithmetic_done : (s : Step) (at : Place) (m m' : BuilderModel) (ds : List SketchNode) (lists : List (List Bound)) (ks : List ℕ) (k : ℕ) →
    Emits m m' (operation_events at (operator_of_step s) (trees_at (stand_of m).trees ks)) (Ok k) (IsTreeOf m' (unfolded_operation at (operator_of_step s) (trees_at (stand_of m).trees ks))) →
    RealsDo (making m ds lists) (making m' ds lists) at (operator_of_step s) ks (Ok (values.Real k))
arithmetic_done s at m m' ds lists ks k e = λ bs h t. (
  (λ claim. e.0 claim),
  (
    record {
      stand = emits_grows (IsTreeOf m' (unfolded_operation at (operator_of_step s) (trees_at (stand_of m).trees ks))) m m' (operation_events at (operator_of_step s) (trees_at (stand_of m).trees ks)) k e;
      drawn = grown_self ds;
      bounds = lists_self lists;
    },
    (e.1.0, e.1.1, e.1.2, arithmetic_weighs s at (stand_of m).trees ks bs e.1.0 h t e.1.1),
  ),
)

pub arithmetic_stopped : (s : Step) (at : Place) (m m' : BuilderModel) (ds ds' : List SketchNode) (lists : List (List Bound)) (ks : List ℕ) (x : Stop) (P : ℕ → Type 0) →
    Emits m m' (operation_events at (operator_of_step s) (trees_at (stand_of m).trees ks)) (Err x) P →
    RealsDo (making m ds lists) (making m' ds' lists) at (operator_of_step s) ks (Err x)
arithmetic_stopped s at m m' ds ds' lists ks x P e = λ bs h t claim. e claim

pub emits_sketch : {X : Type 0} (P : X → Type 0) (m m' : BuilderModel) (ds : List SketchNode) (es : _) (x : X) → Emits m m' es (Ok x) P → m'.sorts ≡ m.sorts → IsSketch m ds → IsSketch m' ds
emits_sketch P m m' ds es x e s h = sketch_stays m m' ds (more_nodes m m' (emits_grows P m m' es x e).trees) s h

pub equality_reals : (at : Place) (ts : List Term) (ks : List ℕ) → unfolded_operation at equality (trees_at ts ks) ≡ chain (neighbours (compared eq at) (trees_at ts ks))
equality_reals at ts [] = refl
equality_reals at ts (k ∷ ks) = refl

pub distinctness_reals : (at : Place) (ts : List Term) (ks : List ℕ) → unfolded_operation at distinctness (trees_at ts ks) ≡ different (pairs (compared eq at) (trees_at ts ks))
distinctness_reals at ts [] = refl
distinctness_reals at ts (k ∷ ks) = ap (λ b. cond b (and_of (pairs (differ_two at) (trees_at ts (k ∷ ks)))) (different (pairs (equal_two at) (trees_at ts (k ∷ ks))))) (plain_trees ts ks)

pub chain_quiet : (m m' : Making) (at : Place) (op : Operator) (ts : List Term) (ks : List ℕ) (r : Result Value Stop) (P : Value → Type 0) → operation_events at op (trees_at ts ks) ≡ together (neighbours compare_events (trees_at ts ks)) →
    Steps m m' [] r P → Steps m m' (operation_events at op (trees_at ts ks)) r P
chain_quiet m m' at op ts ks r P e h = subst (λ es. Steps m m' es r P) (sym (e ∙ plain_chain ts ks)) h

pub pairs_quiet : (m m' : Making) (at : Place) (ts : List Term) (ks : List ℕ) (r : Result Value Stop) (P : Value → Type 0) → Steps m m' [] r P → Steps m m' (operation_events at distinctness (trees_at ts ks)) r P
pairs_quiet m m' at ts ks r P h = subst (λ es. Steps m m' es r P) (sym (plain_pairs ts ks)) h

pub equal_done : (m m' : Making) (at : Place) (ts : List Term) (ks : List ℕ) (bs : List Bounding) (r : Result Value Stop) → Steps m m' [] r (IsValue m' (chain (neighbours (compared eq at) (trees_at ts ks))) (bounds (chained_bounds eq bs))) →
    Steps m m' [] r (IsValue m' (unfolded_operation at equality (trees_at ts ks)) (bounding_operation equality bs))
equal_done m m' at ts ks bs r h = subst (λ (u : Unfolded). Steps m m' [] r (IsValue m' u (bounds (chained_bounds eq bs)))) (sym (equality_reals at ts ks)) h

pub differ_done : (m m' : Making) (at : Place) (ts : List Term) (ks : List ℕ) (r : Result Value Stop) → Steps m m' [] r (IsValue m' (different (pairs (compared eq at) (trees_at ts ks))) (bounds [])) →
    Steps m m' [] r (IsValue m' (unfolded_operation at distinctness (trees_at ts ks)) (bounds []))
differ_done m m' at ts ks r h = subst (λ (u : Unfolded). Steps m m' [] r (IsValue m' u (bounds []))) (sym (distinctness_reals at ts ks)) h

-- ---- Bool operators

no-terms : (ts : List Term) (ds : List SketchNode) (u : Unfolded) (us : List Unfolded) (ps : List Pair) → DrawsEach ts ds (u ∷ us) ps → are_terms (u ∷ us) ≡ false
no-terms ts ds u us (p ∷ ps) h = ap (λ x. are_terms (x ∷ us)) h.0.is
no-terms ts ds u us [] h = elim h [ ]

-- no operator of Reals takes them
no-reals : (b : Bool) (ts : List Term) (ds : List SketchNode) (us : List Unfolded) (ps : List Pair) → (length us ≡ 0 → b ≡ false) → DrawsEach ts ds us ps → are_terms us && b ≡ true → ⊥
no-reals b ts ds [] ps f h t = true≢false (sym t ∙ f refl)
no-reals b ts ds (u ∷ us) ps f h t = true≢false (sym t ∙ ap (λ x. x && b) (no-terms ts ds u us ps h))

equality-bools : (at : Place) (ts : List Term) (ds : List SketchNode) (us : List Unfolded) (ps : List Pair) → DrawsEach ts ds us ps → unfolded_operation at equality us ≡ bool_operation equality us
equality-bools at ts ds [] ps h = refl
equality-bools at ts ds (u ∷ us) (p ∷ ps) h = ap (λ x. unfolded_operation at equality (x ∷ us)) h.0.is ∙ ap (λ x. bool_operation equality (x ∷ us)) (sym h.0.is)
equality-bools at ts ds (u ∷ us) [] h = elim h [ ]

distinctness-bools : (at : Place) (ts : List Term) (ds : List SketchNode) (us : List Unfolded) (ps : List Pair) → DrawsEach ts ds us ps → nat_le 2 (length us) ≡ true → unfolded_operation at distinctness us ≡ bool_operation distinctness us
distinctness-bools at ts ds [] ps h t = cc
distinctness-bools at ts ds (u ∷ us) (p ∷ ps) h t = ap (λ x. unfolded_operation at distinctness (x ∷ us)) h.0.is ∙ ap (λ x. bool_operation distinctness (x ∷ us)) (sym h.0.is)
distinctness-bools at ts ds (u ∷ us) [] h t = elim h [ ]

right-true : (x y : Bool) → x && y ≡ true → y ≡ true
right-true true y h = h
right-true false y h = cc

pub lists_same : (lists : List (List Bound)) (ns : List ℕ) (bs : List Bounding) → ListsEach lists ns bs → SameBounds (all_of lists ns) (concat (map bounds_in bs))
lists_same lists [] [] h = tt
lists_same lists (n ∷ ns) (b ∷ bs) h = same_bounds_append (list_at lists n) (bounds_in b) (all_of lists ns) (concat (map bounds_in bs)) (subst (λ (xs : List Bound). SameBounds (list_at lists n) xs) (sym (ap bounds_in h.0.1)) h.0.2.1) (lists_same lists ns bs h.1)
lists_same lists [] (b ∷ bs) h = elim h [ ]
lists_same lists (n ∷ ns) [] h = elim h [ ]

pub are_bools : (lists : List (List Bound)) (ns : List ℕ) (bs : List Bounding) → ListsEach lists ns bs → AreBools bs
are_bools lists [] [] h = tt
are_bools lists (n ∷ ns) (b ∷ bs) h = ((h.0.0, h.0.1), are_bools lists ns bs h.1)
are_bools lists [] (b ∷ bs) h = elim h [ ]
are_bools lists (n ∷ ns) [] h = elim h [ ]

choice-bools : (ts : List Term) (ds : List SketchNode) (us : List Unfolded) (ps : List Pair) → DrawsEach ts ds us ps → choice_tree us ≡ choice_form us
choice-bools ts ds [] ps h = refl
choice-bools ts ds (c ∷ []) ps h = refl
choice-bools ts ds (c ∷ a ∷ []) ps h = refl
choice-bools ts ds (c ∷ a ∷ b ∷ us) (p ∷ q ∷ ps) h = ap (λ x. choice_two c x b) h.1.0.is ∙ ap (λ x. choice_form (c ∷ x ∷ b ∷ us)) (sym h.1.0.is)
choice-bools ts ds (c ∷ a ∷ b ∷ us) [] h = elim h [ ]
choice-bools ts ds (c ∷ a ∷ b ∷ us) (p ∷ []) h = elim h.1 [ ]

choice-bounds : (lists : List (List Bound)) (ns : List ℕ) (bs : List Bounding) → ListsEach lists ns bs → choice_bounding bs ≡ bounds []
choice-bounds lists ns [] h = refl
choice-bounds lists ns (c ∷ []) h = refl
choice-bounds lists ns (c ∷ a ∷ []) h = refl
choice-bounds lists (n ∷ n' ∷ ns) (c ∷ a ∷ b ∷ bs) h = ap arm_bounding h.1.0.1
choice-bounds lists [] (c ∷ a ∷ b ∷ bs) h = elim h [ ]
choice-bounds lists (n ∷ []) (c ∷ a ∷ b ∷ bs) h = elim h.1 [ ]

pub record BoolFacts (op : Operator) (at : Place) (us : List Unfolded) (bs : List Bounding) (lists : List (List Bound)) (ns : List ℕ) : Type 0 where
  pub events : operation_events at op us ≡ []
  pub form : unfolded_operation at op us ≡ bool_operation op us
  pub given : List Bound
  pub bounding : bounding_operation op bs ≡ bounds given
  pub same : SameBounds (given_bounds op lists ns) given

pub bool_facts : (op : Operator) (at : Place) (ts : List Term) (ds : List SketchNode) (us : List Unfolded) (ps : List Pair) (bs : List Bounding) (lists : List (List Bound)) (ns : List ℕ) → DrawsEach ts ds us ps → ListsEach lists ns bs → takes op us ≡ true →
    BoolFacts op at us bs lists ns
bool_facts truth at ts ds us ps bs lists ns h l t = record { events = refl; form = refl; given = []; bounding = refl; same = tt }
bool_facts falsehood at ts ds us ps bs lists ns h l t = record { events = refl; form = refl; given = []; bounding = refl; same = tt }
bool_facts negation at ts ds us ps bs lists ns h l t = record { events = refl; form = refl; given = []; bounding = refl; same = tt }
bool_facts conjunction at ts ds us ps bs lists ns h l t = record { events = refl; form = refl; given = concat (map bounds_in bs); bounding = refl; same = lists_same lists ns bs l }
bool_facts disjunction at ts ds us ps bs lists ns h l t = record { events = refl; form = refl; given = []; bounding = refl; same = tt }
bool_facts implication at ts ds us ps bs lists ns h l t = record { events = refl; form = refl; given = []; bounding = refl; same = tt }
bool_facts exclusive at ts ds us ps bs lists ns h l t = record { events = refl; form = refl; given = []; bounding = refl; same = tt }
bool_facts equality at ts ds us ps bs lists ns h l t = record { events = bools_chain_quiet ts ds us ps h; form = equality-bools at ts ds us ps h; given = []; bounding = ap (λ xs. bounds xs) (bools_chain bs (are_bools lists ns bs l)); same = tt }
bool_facts distinctness at ts ds us ps bs lists ns h l t = record { events = bools_pairs_quiet ts ds us ps h; form = distinctness-bools at ts ds us ps h (right-true (are_formulas us || are_terms us) (at_least_long 2 us) t); given = []; bounding = refl; same = tt }
bool_facts choice at ts ds us ps bs lists ns h l t = record { events = refl; form = choice-bools ts ds us ps h; given = []; bounding = choice-bounds lists ns bs l; same = tt }
bool_facts minus at ts ds us ps bs lists ns h l t = absurd (no-reals (at_least_long 1 us) ts ds us ps (λ e. ap (λ n. nat_le 1 n) e) h t)
bool_facts plus at ts ds us ps bs lists ns h l t = absurd (no-reals (at_least_long 1 us) ts ds us ps (λ e. ap (λ n. nat_le 1 n) e) h t)
bool_facts times at ts ds us ps bs lists ns h l t = absurd (no-reals (at_least_long 1 us) ts ds us ps (λ e. ap (λ n. nat_le 1 n) e) h t)
bool_facts divide at ts ds us ps bs lists ns h l t = absurd (no-reals (at_least_long 2 us) ts ds us ps (λ e. ap (λ n. nat_le 2 n) e) h t)
bool_facts at_most_op at ts ds us ps bs lists ns h l t = absurd (no-reals (at_least_long 2 us) ts ds us ps (λ e. ap (λ n. nat_le 2 n) e) h t)
bool_facts below_op at ts ds us ps bs lists ns h l t = absurd (no-reals (at_least_long 2 us) ts ds us ps (λ e. ap (λ n. nat_le 2 n) e) h t)
bool_facts at_least_op at ts ds us ps bs lists ns h l t = absurd (no-reals (at_least_long 2 us) ts ds us ps (λ e. ap (λ n. nat_le 2 n) e) h t)
bool_facts above_op at ts ds us ps bs lists ns h l t = absurd (no-reals (at_least_long 2 us) ts ds us ps (λ e. ap (λ n. nat_le 2 n) e) h t)

pub bools_done : (op : Operator) (m : BuilderModel) (ds ds2 : List SketchNode) (lists lists' : List (List Bound)) (ps : List Pair) (ns : List ℕ) (p : Pair) (k : ℕ) → IsSketch m ds → Connects (bool_operation op) ds ds2 ps (Ok p) → AddsList lists lists' (given_bounds op lists ns) (Ok k) →
    (at : Place) (us : List Unfolded) (bs : List Bounding) → DrawsEach (stand_of m).trees ds us ps → ListsEach lists ns bs → takes op us ≡ true →
    Steps (making m ds lists) (making m ds2 lists') (operation_events at op us) (Ok (values.Bool p k)) (IsValue (making m ds2 lists') (unfolded_operation at op us) (bounding_operation op bs))
bools_done op m ds ds2 lists lists' ps ns p k s c a at us bs h l t =
    let f = bool_facts op at (stand_of m).trees ds us ps bs lists ns h l t in
    subst (λ es. Steps (making m ds lists) (making m ds2 lists') es (Ok (values.Bool p k)) (IsValue (making m ds2 lists') (unfolded_operation at op us) (bounding_operation op bs))) (sym f.events)
    (bool_value m ds ds2 lists lists' (unfolded_operation at op us) (bounding_operation op bs) (given_bounds op lists ns) f.given p k
    (subst (λ (u : Unfolded). Sketches ds ds2 m (Draws (stand_of m).trees ds2 u) (Ok p)) (sym f.form) (c m (stand_of m).trees us s h)) a f.same f.bounding)

-- ---- values of one sort

pub record Facts (us : List Unfolded) (vs : List Value) : Type 0 where
  pub reals : are_terms us ≡ are_arms vs
  pub bools : are_formulas us ≡ are_bool vs
  pub picked : picks_terms us ≡ are_picked vs
  pub count : length us ≡ length vs
  pub faultless : first_fault us ≡ None

choice-facts : (m : BuilderModel) (ds : List SketchNode) (u : Unfolded) (us : List Unfolded) (k : ℕ) (vs : List Value) → IsArm m ds u (arm.Choice k) → Facts us vs → Facts (u ∷ us) (values.Choice k ∷ vs)
choice-facts m ds _ us k vs (is_choice {c = c} {d = d} {u = u} {v = v} {p = p} {x = x} {y = y} e w i j) r = record {
  reals = ap (λ b. b && are_terms us) (arm_is_real m ds (either c d u v) (arm.Choice k) (is_choice e w i j)) ∙ r.reals;
  bools = refl;
  picked = refl;
  count = ap suc r.count;
  faultless = r.faultless;
}

pub facts : (m : Making) (us : List Unfolded) (bs : List Bounding) (vs : List Value) → AreValues m us bs vs → Facts us vs
facts m [] [] [] h = record { reals = refl; bools = refl; picked = refl; count = refl; faultless = refl }
facts m (u ∷ us) (b ∷ bs) (values.Real k ∷ vs) h = let r = facts m us bs vs h.1 in
    subst (λ (x : Unfolded). Facts (x ∷ us) (values.Real k ∷ vs)) (sym h.0.1) (record { reals = r.reals; bools = refl; picked = refl; count = ap suc r.count; faultless = r.faultless })
facts m (u ∷ us) (b ∷ bs) (values.Choice k ∷ vs) h = choice-facts m.made m.drawn u us k vs h.0.0 (facts m us bs vs h.1)
facts m (u ∷ us) (b ∷ bs) (values.Bool p n ∷ vs) h = let r = facts m us bs vs h.1 in
    subst (λ (x : Unfolded). Facts (x ∷ us) (values.Bool p n ∷ vs)) (sym h.0.0.is)
    (record { reals = refl; bools = r.bools; picked = ap₂ (λ x y. x && y) r.reals (ap (λ n. nat_eq n 2) r.count); count = ap suc r.count; faultless = r.faultless })
facts m [] [] (v ∷ vs) h = elim h [ ]
facts m [] (b ∷ bs) vs h = elim h [ ]
facts m (u ∷ us) [] vs h = elim h [ ]
facts m (u ∷ us) (b ∷ bs) [] h = elim h [ ]

takes-is : (op : Operator) (us : List Unfolded) → takes op us ≡ takes_of op (are_terms us) (are_formulas us) (picks_terms us) (length us)
takes-is truth us = refl
takes-is falsehood us = refl
takes-is negation us = refl
takes-is conjunction us = refl
takes-is disjunction us = refl
takes-is implication us = refl
takes-is exclusive us = refl
takes-is equality us = refl
takes-is distinctness us = refl
takes-is choice us = refl
takes-is minus us = refl
takes-is plus us = refl
takes-is times us = refl
takes-is divide us = refl
takes-is at_most_op us = refl
takes-is below_op us = refl
takes-is at_least_op us = refl
takes-is above_op us = refl

pub takes_seen : (m : Making) (op : Operator) (us : List Unfolded) (bs : List Bounding) (vs : List Value) (t : Bool) → t ≡ takes_of op (are_arms vs) (are_bool vs) (are_picked vs) (length vs) → AreValues m us bs vs → takes op us ≡ t
takes_seen m op us bs vs t e h = let f = facts m us bs vs h in takes-is op us ∙ ap₂ (λ r b. takes_of op r b (picks_terms us) (length us)) f.reals f.bools ∙ ap₂ (λ p n. takes_of op (are_arms vs) (are_bool vs) p n) f.picked f.count ∙ sym e

pub operate_refused : (m : Making) (op : Operator) (at : code_place.Place) (vs : List Value) (us : List Unfolded) (bs : List Bounding) (P : Value → Type 0) → false ≡ takes_of op (are_arms vs) (are_bool vs) (are_picked vs) (length vs) → AreValues m us bs vs →
    Steps m m (operator_events (place_of at) op us) (Err (stop.Fault at IllFormed)) P
operate_refused m op at vs us bs P e h =
    let f = (facts m us bs vs h).faultless in let t = takes_seen m op us bs vs false e h in
    subst (λ es. Steps m m es (Err (stop.Fault at IllFormed)) P)
    (sym (ap (λ o. unless_met o (cond (takes op us) (operation_events (place_of at) op us) (met (ill_formed (place_of at)) ∷ []))) f ∙ ap (λ b. cond b (operation_events (place_of at) op us) (met (ill_formed (place_of at)) ∷ [])) t))
    (emits_fault (λ x. Grows m m × P x) m.made m.made (refused (ill_formed (place_of at))) at IllFormed refl)

-- an operator that takes its arguments
pub operate_taken : (m m' : Making) (op : Operator) (at : Place) (us : List Unfolded) (bs : List Bounding) (vs : List Value) (r : Result Value Stop) → takes op us ≡ true → AreValues m us bs vs →
    Steps m m' (operation_events at op us) r (IsValue m' (unfolded_operation at op us) (bounding_operation op bs)) → Steps m m' (operator_events at op us) r (IsValue m' (operation_tree at op us) (bounding_operation op bs))
operate_taken m m' op at us bs vs r t h s =
    let f = (facts m us bs vs h).faultless in
    subst (λ es. Steps m m' es r (IsValue m' (operation_tree at op us) (bounding_operation op bs)))
    (sym (ap (λ o. unless_met o (cond (takes op us) (operation_events at op us) (met (ill_formed at) ∷ []))) f ∙ ap (λ b. cond b (operation_events at op us) (met (ill_formed at) ∷ [])) t))
    (subst (λ (u : Unfolded). Steps m m' (operation_events at op us) r (IsValue m' u (bounding_operation op bs)))
    (sym (ap (λ o. unless_refused o (cond (takes op us) (unfolded_operation at op us) (refused (ill_formed at)))) f ∙ ap (λ b. cond b (unfolded_operation at op us) (refused (ill_formed at))) t)) s)

-- all Bool
pub bools_seen : (m : BuilderModel) (ds : List SketchNode) (lists : List (List Bound)) (us : List Unfolded) (bs : List Bounding) (vs : List Value) → AreValues (making m ds lists) us bs vs → are_bool vs ≡ true →
    DrawsEach (stand_of m).trees ds us (map pair_number vs) × ListsEach lists (map list_number vs) bs
bools_seen m ds lists [] [] [] h e = (tt, tt)
bools_seen m ds lists (u ∷ us) (b ∷ bs) (values.Bool p n ∷ vs) h e = let r = bools_seen m ds lists us bs vs h.1 e in ((h.0.0, r.0), (h.0.1, r.1))
bools_seen m ds lists (u ∷ us) (b ∷ bs) (values.Real k ∷ vs) h e = cc
bools_seen m ds lists (u ∷ us) (b ∷ bs) (values.Choice k ∷ vs) h e = cc
bools_seen m ds lists [] [] (v ∷ vs) h e = elim h [ ]
bools_seen m ds lists [] (b ∷ bs) vs h e = elim h [ ]
bools_seen m ds lists (u ∷ us) [] vs h e = elim h [ ]
bools_seen m ds lists (u ∷ us) (b ∷ bs) [] h e = elim h [ ]

-- all Real
pub reals_seen : (m : BuilderModel) (ds : List SketchNode) (lists : List (List Bound)) (us : List Unfolded) (bs : List Bounding) (vs : List Value) → AreValues (making m ds lists) us bs vs → are_real vs ≡ true →
    (us ≡ trees_at (stand_of m).trees (map node_number vs)) × WeighsEach (stand_of m).trees (map node_number vs) bs × AreNodes m (map node_number vs)
reals_seen m ds lists [] [] [] h e = (refl, tt, tt)
reals_seen m ds lists (u ∷ us) (b ∷ bs) (values.Real k ∷ vs) h e =
    let r = reals_seen m ds lists us bs vs h.1 e in let t = tree_is m h.0.0 k h.0.2 in (
      ap₂ (λ x xs. x ∷ xs) (h.0.1 ∙ ap (λ (y : Term). term y) (sym t)) r.0,
      (subst (λ (y : Term). Weighs y b) (sym t) h.0.3, r.1),
      (tree_below m h.0.0 k h.0.2, r.2),
    )
reals_seen m ds lists (u ∷ us) (b ∷ bs) (values.Bool p n ∷ vs) h e = cc
reals_seen m ds lists (u ∷ us) (b ∷ bs) (values.Choice k ∷ vs) h e = cc
reals_seen m ds lists [] [] (v ∷ vs) h e = elim h [ ]
reals_seen m ds lists [] (b ∷ bs) vs h e = elim h [ ]
reals_seen m ds lists (u ∷ us) [] vs h e = elim h [ ]
reals_seen m ds lists (u ∷ us) (b ∷ bs) [] h e = elim h [ ]

pub choice_three : (ds ds2 : List SketchNode) (o p q : Pair) (rest : List Pair) (r : Result Pair AllocError) → ConnectsChoice ds ds2 o p q r → Connects choice_form ds ds2 (o ∷ p ∷ q ∷ rest) r
choice_three ds ds2 o p q rest r w = λ m ts us s d. go m ts us s d
  where
    go : (m : BuilderModel) (ts : List Term) (us : List Unfolded) → IsSketch m ds → DrawsEach ts ds us (o ∷ p ∷ q ∷ rest) → Sketches ds ds2 m (Draws ts ds2 (choice_form us)) r
    go m ts (c ∷ u ∷ v ∷ us) s d = w m ts c u v s d.0 d.1.0 d.1.1.0
    go m ts [] s d = elim d [ ]
    go m ts (c ∷ []) s d = elim d.1 [ ]
    go m ts (c ∷ u ∷ []) s d = elim d.1.1 [ ]

-- ---- an operator at values

all-first : {X : Type 0} (P : X → Type 0) (x : X) (xs : List X) → P x → All P xs → All P (x ∷ xs)
all-first P x xs p h zero d l = p
all-first P x xs p h (suc k) d l = h k d (omega (arith, l))

pub lists_below : (lists : List (List Bound)) (ns : List ℕ) (bs : List Bounding) → ListsEach lists ns bs → All (λ (k : ℕ). k < length lists) ns
lists_below lists [] [] h = λ k d l. absurd (omega (arith, l))
lists_below lists (n ∷ ns) (b ∷ bs) h = all-first (λ (k : ℕ). k < length lists) n ns h.0.2.0 (lists_below lists ns bs h.1)
lists_below lists [] (b ∷ bs) h = elim h [ ]
lists_below lists (n ∷ ns) [] h = elim h [ ]

pub operate_bools : (m m' : BuilderModel) (ds ds' : List SketchNode) (lists lists' : List (List Bound)) (op : Operator) (at : Place) (vs : List Value) (ps : List Pair) (ns : List ℕ) (r : Result Value Stop) → ps ≡ map pair_number vs → ns ≡ map list_number vs → are_bool vs ≡ true →
    true ≡ takes_of op (are_arms vs) (are_bool vs) (are_picked vs) (length vs) → BoolsDo (making m ds lists) (making m' ds' lists') op ps ns r → Operates (making m ds lists) (making m' ds' lists') at op vs r
operate_bools m m' ds ds' lists lists' op at vs ps ns r e f b t w = λ us bs h.
    let s = bools_seen m ds lists us bs vs h b in let k = takes_seen (making m ds lists) op us bs vs true t h in
    operate_taken (making m ds lists) (making m' ds' lists') op at us bs vs r k h
    (w at us bs (subst (λ (qs : List Pair). DrawsEach (stand_of m).trees ds us qs) (sym e) s.0) (subst (λ (js : List ℕ). ListsEach lists js bs) (sym f) s.1) k)

pub operate_reals : (m m' : BuilderModel) (ds ds' : List SketchNode) (lists lists' : List (List Bound)) (op : Operator) (at : Place) (vs : List Value) (ks : List ℕ) (r : Result Value Stop) → ks ≡ map node_number vs → are_real vs ≡ true →
    true ≡ takes_of op (are_arms vs) (are_bool vs) (are_picked vs) (length vs) → RealsDo (making m ds lists) (making m' ds' lists') at op ks r → Operates (making m ds lists) (making m' ds' lists') at op vs r
operate_reals m m' ds ds' lists lists' op at vs ks r e b t w = λ us bs h.
    let s = reals_seen m ds lists us bs vs h b in let k = takes_seen (making m ds lists) op us bs vs true t h in
    let us-is : us ≡ trees_at (stand_of m).trees ks = s.0 ∙ ap (λ js. trees_at (stand_of m).trees js) (sym e) in
    operate_taken (making m ds lists) (making m' ds' lists') op at us bs vs r k h
    (subst (λ (xs : List Unfolded). Steps (making m ds lists) (making m' ds' lists') (operation_events at op xs) r (IsValue (making m' ds' lists') (unfolded_operation at op xs) (bounding_operation op bs))) (sym us-is)
    (w bs (subst (λ (js : List ℕ). WeighsEach (stand_of m).trees js bs) (sym e) s.1) (sym (ap (takes op) us-is) ∙ k)))

pub nodes_there : (m : BuilderModel) (ds : List SketchNode) (lists : List (List Bound)) (vs : List Value) (ks : List ℕ) → AreKnown (making m ds lists) vs → ks ≡ map node_number vs → are_real vs ≡ true → AreNodes m ks
nodes_there m ds lists vs ks h e b = subst (λ (js : List ℕ). AreNodes m js) (sym e) (reals_seen m ds lists h.0 h.1 vs h.2 b).2

pub operate_arms : (m m' : BuilderModel) (ds ds' : List SketchNode) (lists lists' : List (List Bound)) (op : Operator) (at : Place) (vs : List Value) (r : Result Value Stop) → true ≡ takes_of op (are_arms vs) (are_bool vs) (are_picked vs) (length vs) →
    ArmsDo (making m ds lists) (making m' ds' lists') at op vs r → Operates (making m ds lists) (making m' ds' lists') at op vs r
operate_arms m m' ds ds' lists lists' op at vs r t w = λ us bs h. let k = takes_seen (making m ds lists) op us bs vs true t h in
    operate_taken (making m ds lists) (making m' ds' lists') op at us bs vs r k h (w us bs h k)
