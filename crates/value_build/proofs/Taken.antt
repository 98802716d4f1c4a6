-- Which arguments an operator takes, by their sort, and what their links are.
use Rattle.std.proofs.Common.{◌≡◌, ℕ, suc, ◌<◌, List, [], ◌∷◌, ◌++◌, map, length, Bool, true, false, ◌&&◌, ◌||◌, cond, true≢false, refl, ap, sym, ◌∙◌, subst, arith, nat_le, nat_eq, eqb→eq}
use Rattle.std.specs.Bool.{passes}
use Rattle.std.proofs.lemmas.Bool.{le-leb}
use Rattle.std.proofs.lemmas.List.{length-map}
use Rattle.std.specs.Prelude.{Ok}
use Rattle.dyadic.specs.Fraction.{zero_fraction}
use Rattle.script_model.specs.Sexp.{Place}
use Rattle.script_model.specs.Declared.{Bound, Bounding}
use Rattle.script_model.specs.Reading.{Operator, truth, falsehood, negation, conjunction, disjunction, implication, exclusive, equality, distinctness, choice, minus, plus, times, divide, at_most_op, below_op, at_least_op, above_op}
use Rattle.poly_graph.specs.Term.{Term, constant, Kind, le, ge, eq}
use Rattle.script_forms.specs.Terms.{Unfolded, term, formula, refused, either, hold_either, arms, lift_tree, step, steps, all_steps, negate_tree, multiply_tree, divide_tree, gathered, powers}
use Rattle.script_forms.specs.Unfolded.{are_formulas, lift_form, unfolded_operation}
use Rattle.sort_check.specs.Views.{operator_of}
use Rattle.sort_check.specs.declared.operators.Operator as code_operator
use Rattle.sort_check.specs.declared.operators.Operator.TheVariants as op
use Rattle.term_build.specs.Built.{BuilderModel}
use Rattle.term_build.specs.Sketch.{SketchNode}
use Rattle.term_build.specs.declared.sketch.Arm.TheVariants as arm
use Rattle.term_build.proofs.Emits.{tree_below}
use Rattle.value_build.specs.Arithmetic.{operator_of_step, tree_of_step}
use Rattle.value_build.specs.Arms.{terms_of, linked, link_bounds, LinksEach, Calculates, AreSomeValues, hold_choice}
use Rattle.value_build.specs.Chains.{others_of, spread_over}
use Rattle.value_build.specs.Making.{Making, making}
use Rattle.value_build.specs.Operators.{are_arms, are_bool, are_real, are_picked, takes_of, node_number, pair_number}
use Rattle.value_build.specs.Values.{IsArm, is_tree, is_choice, AreKnown, AreValues}
use Rattle.value_build.specs.declared.arithmetic.Step.{Step}
use Rattle.value_build.specs.declared.arithmetic.Step.TheVariants.{Add, Subtract, Multiply, Divide}
use Rattle.value_build.specs.declared.chains.Spread.{Spread}
use Rattle.value_build.specs.declared.chains.Spread.TheVariants.{Next, Later}
use Rattle.value_build.specs.declared.value.Value.{Value}
use Rattle.value_build.specs.declared.value.Value.TheVariants as values
use Rattle.value_build.proofs.Arming.{hold_is}
use Rattle.value_build.proofs.Lifting.{tree_parts, compared_is}
use Rattle.value_build.proofs.Operating.{facts}

-- ---- what operators take

-- not all are Bool: an operator but `ite` takes them as Reals
pub taken_reals : (op : Operator) (r p : Bool) (n : ℕ) → (n ≡ 0 → ⊥) → (op ≡ choice → p ≡ false) → takes_of op r false p n ≡ true → (r ≡ true) × (takes_of op true false false n ≡ true)
taken_reals truth r p n z c h = absurd (z (eqb→eq n 0 (passes (nat_eq n 0) h)))
taken_reals falsehood r p n z c h = absurd (z (eqb→eq n 0 (passes (nat_eq n 0) h)))
taken_reals negation r p n z c h = cc
taken_reals conjunction r p n z c h = cc
taken_reals disjunction r p n z c h = cc
taken_reals implication r p n z c h = cc
taken_reals exclusive r p n z c h = cc
taken_reals choice r p n z c h = absurd (true≢false (sym h ∙ c refl))
taken_reals equality true p n z c h = (refl, h)
taken_reals equality false p n z c h = cc
taken_reals distinctness true p n z c h = (refl, h)
taken_reals distinctness false p n z c h = cc
taken_reals minus true p n z c h = (refl, h)
taken_reals minus false p n z c h = cc
taken_reals plus true p n z c h = (refl, h)
taken_reals plus false p n z c h = cc
taken_reals times true p n z c h = (refl, h)
taken_reals times false p n z c h = cc
taken_reals divide true p n z c h = (refl, h)
taken_reals divide false p n z c h = cc
taken_reals at_most_op true p n z c h = (refl, h)
taken_reals at_most_op false p n z c h = cc
taken_reals below_op true p n z c h = (refl, h)
taken_reals below_op false p n z c h = cc
taken_reals at_least_op true p n z c h = (refl, h)
taken_reals at_least_op false p n z c h = cc
taken_reals above_op true p n z c h = (refl, h)
taken_reals above_op false p n z c h = cc

-- all are Bool: an operator takes them as such
pub taken_bools : (op : Operator) (r : Bool) (n : ℕ) → (r ≡ true → n ≡ 0) → takes_of op r true false n ≡ true → takes_of op false true false n ≡ true
taken_bools truth r n z h = h
taken_bools falsehood r n z h = h
taken_bools negation r n z h = h
taken_bools conjunction r n z h = h
taken_bools disjunction r n z h = h
taken_bools implication r n z h = h
taken_bools exclusive r n z h = h
taken_bools choice r n z h = h
taken_bools equality r n z h = h
taken_bools distinctness r n z h = h
taken_bools minus true n z h = absurd (true≢false (sym h ∙ ap (nat_le 1) (z refl)))
taken_bools minus false n z h = cc
taken_bools plus true n z h = absurd (true≢false (sym h ∙ ap (nat_le 1) (z refl)))
taken_bools plus false n z h = cc
taken_bools times true n z h = absurd (true≢false (sym h ∙ ap (nat_le 1) (z refl)))
taken_bools times false n z h = cc
taken_bools divide true n z h = absurd (true≢false (sym h ∙ ap (nat_le 2) (z refl)))
taken_bools divide false n z h = cc
taken_bools at_most_op true n z h = absurd (true≢false (sym h ∙ ap (nat_le 2) (z refl)))
taken_bools at_most_op false n z h = cc
taken_bools below_op true n z h = absurd (true≢false (sym h ∙ ap (nat_le 2) (z refl)))
taken_bools below_op false n z h = cc
taken_bools at_least_op true n z h = absurd (true≢false (sym h ∙ ap (nat_le 2) (z refl)))
taken_bools at_least_op false n z h = cc
taken_bools above_op true n z h = absurd (true≢false (sym h ∙ ap (nat_le 2) (z refl)))
taken_bools above_op false n z h = cc

-- ---- operators that are left out where the others are done

some-not-none : (n : ℕ) → 0 < n → nat_eq n 0 ≡ true → ⊥
some-not-none n z h = let e : n ≡ 0 = eqb→eq n 0 (passes (nat_eq n 0) h) in omega (arith, z, e)

pub none_real : (o : code_operator.Operator) (n : ℕ) → 0 < n → takes_of (operator_of o) true false false n ≡ true →
    (o ≡ op.Minus → ⊥) → (o ≡ op.Plus → ⊥) → (o ≡ op.Times → ⊥) → (o ≡ op.Divide → ⊥) → (o ≡ op.AtMost → ⊥) → (o ≡ op.Below → ⊥) → (o ≡ op.AtLeast → ⊥) → (o ≡ op.Above → ⊥) → (o ≡ op.Equal → ⊥) → (o ≡ op.Distinct → ⊥) → ⊥
none_real op.True n z h a b c d e f g i j k = some-not-none n z h
none_real op.False n z h a b c d e f g i j k = some-not-none n z h
none_real op.Not n z h a b c d e f g i j k = cc
none_real op.And n z h a b c d e f g i j k = cc
none_real op.Or n z h a b c d e f g i j k = cc
none_real op.Implies n z h a b c d e f g i j k = cc
none_real op.Xor n z h a b c d e f g i j k = cc
none_real op.Equal n z h a b c d e f g i j k = j refl
none_real op.Distinct n z h a b c d e f g i j k = k refl
none_real op.Choice n z h a b c d e f g i j k = cc
none_real op.Minus n z h a b c d e f g i j k = a refl
none_real op.Plus n z h a b c d e f g i j k = b refl
none_real op.Times n z h a b c d e f g i j k = c refl
none_real op.Divide n z h a b c d e f g i j k = d refl
none_real op.AtMost n z h a b c d e f g i j k = e refl
none_real op.Below n z h a b c d e f g i j k = f refl
none_real op.AtLeast n z h a b c d e f g i j k = g refl
none_real op.Above n z h a b c d e f g i j k = i refl

pub none_bool : (o : code_operator.Operator) (n : ℕ) → takes_of (operator_of o) false true false n ≡ true →
    (o ≡ op.True → ⊥) → (o ≡ op.False → ⊥) → (o ≡ op.Not → ⊥) → (o ≡ op.And → ⊥) → (o ≡ op.Or → ⊥) → (o ≡ op.Implies → ⊥) → (o ≡ op.Xor → ⊥) → (o ≡ op.Equal → ⊥) → (o ≡ op.Distinct → ⊥) → (o ≡ op.Choice → ⊥) → ⊥
none_bool op.True n h a b c d e f g i j k = a refl
none_bool op.False n h a b c d e f g i j k = b refl
none_bool op.Not n h a b c d e f g i j k = c refl
none_bool op.And n h a b c d e f g i j k = d refl
none_bool op.Or n h a b c d e f g i j k = e refl
none_bool op.Implies n h a b c d e f g i j k = f refl
none_bool op.Xor n h a b c d e f g i j k = g refl
none_bool op.Equal n h a b c d e f g i j k = i refl
none_bool op.Distinct n h a b c d e f g i j k = j refl
none_bool op.Choice n h a b c d e f g i j k = k refl
none_bool op.Minus n h a b c d e f g i j k = cc
none_bool op.Plus n h a b c d e f g i j k = cc
none_bool op.Times n h a b c d e f g i j k = cc
none_bool op.Divide n h a b c d e f g i j k = cc
none_bool op.AtMost n h a b c d e f g i j k = cc
none_bool op.Below n h a b c d e f g i j k = cc
none_bool op.AtLeast n h a b c d e f g i j k = cc
none_bool op.Above n h a b c d e f g i j k = cc

pub not_choice : (o : code_operator.Operator) → (o ≡ op.Choice → ⊥) → operator_of o ≡ choice → ⊥
not_choice op.True n e = cc
not_choice op.False n e = cc
not_choice op.Not n e = cc
not_choice op.And n e = cc
not_choice op.Or n e = cc
not_choice op.Implies n e = cc
not_choice op.Xor n e = cc
not_choice op.Equal n e = cc
not_choice op.Distinct n e = cc
not_choice op.Choice n e = n refl
not_choice op.Minus n e = cc
not_choice op.Plus n e = cc
not_choice op.Times n e = cc
not_choice op.Divide n e = cc
not_choice op.AtMost n e = cc
not_choice op.Below n e = cc
not_choice op.AtLeast n e = cc
not_choice op.Above n e = cc

-- so many are taken
pub one_taken : (n : ℕ) → nat_eq n 1 ≡ true → 0 < n
one_taken n h = omega (arith, eqb→eq n 1 (passes (nat_eq n 1) h))

left-of : (x : Bool) → x || false ≡ true → x ≡ true
left-of true h = refl
left-of false h = cc

pub three_taken : (n : ℕ) → nat_eq n 3 || false ≡ true → n ≡ 3
three_taken n h = eqb→eq n 3 (passes (nat_eq n 3) (left-of (nat_eq n 3) h))

-- ---- values of one sort

pub some_apart : (vs : List Value) → are_bool vs ≡ false → length vs ≡ 0 → ⊥
some_apart [] e n = absurd (true≢false e)
some_apart (v ∷ vs) e n = absurd (omega (arith, n))

pub some_held : (vs : List Value) → are_real vs ≡ false → vs ≡ [] → ⊥
some_held [] e n = absurd (true≢false e)
some_held (v ∷ vs) e n = cc

pub some_values : (vs : List Value) → are_real vs ≡ false → 0 < length vs
some_values [] e = absurd (true≢false e)
some_values (v ∷ vs) e = omega arith

pub bools_not_picked : (vs : List Value) → are_bool vs ≡ true → are_picked vs ≡ false
bools_not_picked [] e = refl
bools_not_picked (values.Bool p n ∷ []) e = refl
bools_not_picked (values.Bool p n ∷ values.Bool q k ∷ vs) e = refl
bools_not_picked (values.Bool p n ∷ values.Real k ∷ vs) e = cc
bools_not_picked (values.Bool p n ∷ values.Choice k ∷ vs) e = cc
bools_not_picked (values.Real k ∷ vs) e = refl
bools_not_picked (values.Choice k ∷ vs) e = refl

pub reals_not_picked : (vs : List Value) → are_real vs ≡ true → are_picked vs ≡ false
reals_not_picked [] e = refl
reals_not_picked (values.Real k ∷ vs) e = refl
reals_not_picked (values.Choice k ∷ vs) e = refl
reals_not_picked (values.Bool p n ∷ vs) e = cc

pub bools_no_arms : (vs : List Value) → are_bool vs ≡ true → are_arms vs ≡ true → length vs ≡ 0
bools_no_arms [] e a = refl
bools_no_arms (values.Bool p n ∷ vs) e a = cc
bools_no_arms (values.Real k ∷ vs) e a = cc
bools_no_arms (values.Choice k ∷ vs) e a = cc

pub picked_first : (v : Value) (vs : List Value) → are_picked (v ∷ vs) ≡ true → are_bool (v ∷ []) ≡ true
picked_first (values.Bool p n) vs e = refl
picked_first (values.Real k) vs e = cc
picked_first (values.Choice k) vs e = cc

right-of : (x y : Bool) → x && y ≡ true → y ≡ true
right-of true y h = h
right-of false y h = cc

pub picked_three : (vs : List Value) → are_picked vs ≡ true → length vs ≡ 3
picked_three [] e = cc
picked_three (values.Real k ∷ vs) e = cc
picked_three (values.Choice k ∷ vs) e = cc
picked_three (values.Bool p n ∷ vs) e = ap suc (eqb→eq (length vs) 2 (passes (nat_eq (length vs) 2) (right-of (are_arms vs) (nat_eq (length vs) 2) e)))

-- ---- what is asked of each part

pub reals_take : (op : Operator) (vs : List Value) → are_real vs ≡ true → are_bool vs ≡ false → takes_of op (are_arms vs) (are_bool vs) (are_picked vs) (length vs) ≡ true → takes_of op true false false (length (map node_number vs)) ≡ true
reals_take op vs r b h = subst (λ (n : ℕ). takes_of op true false false n ≡ true) (sym (length-map vs node_number))
    (taken_reals op (are_arms vs) (are_picked vs) (length vs) (some_apart vs b) (λ e. reals_not_picked vs r) (subst (λ (x : Bool). takes_of op (are_arms vs) x (are_picked vs) (length vs) ≡ true) b h)).1

pub bools_take : (op : Operator) (vs : List Value) → are_bool vs ≡ true → takes_of op (are_arms vs) (are_bool vs) (are_picked vs) (length vs) ≡ true → takes_of op false true false (length (map pair_number vs)) ≡ true
bools_take op vs b h = subst (λ (n : ℕ). takes_of op false true false n ≡ true) (sym (length-map vs pair_number))
    (taken_bools op (are_arms vs) (length vs) (bools_no_arms vs b)
    (subst (λ (p : Bool). takes_of op (are_arms vs) true p (length vs) ≡ true) (bools_not_picked vs b) (subst (λ (x : Bool). takes_of op (are_arms vs) x (are_picked vs) (length vs) ≡ true) b h)))

pub some_pairs : (vs : List Value) → 0 < length vs → nat_le 1 (length (map pair_number vs)) ≡ true
some_pairs [] h = absurd (omega (arith, h))
some_pairs (v ∷ vs) h = le-leb 1 (suc (length (map pair_number vs))) (omega arith)

-- ---- an arm stands on a node

pub arm_stands : (m : BuilderModel) (ds : List SketchNode) (u : Unfolded) (x : _) → IsArm m ds u x → 0 < length m.nodes
arm_stands m ds _ _ (is_tree {t = t} {k = k} h) = omega (arith, tree_below m t k h)
arm_stands m ds _ _ (is_choice {u = u} {x = x} e w i j) = arm_stands m ds u x i

-- ---- what holds an `ite` is no tree

abbrev IsNoTerm : Unfolded → Type 0
IsNoTerm u = (t : Term) → u ≡ term t → ⊥

arms-no-term : (c d : _) (u v : Unfolded) (t : Term) → arms c d u v ≡ term t → ⊥
arms-no-term c d (refused x) v t e = cc
arms-no-term c d (term s) (refused x) t e = cc
arms-no-term c d (term s) (term r) t e = cc
arms-no-term c d (term s) (formula p n) t e = cc
arms-no-term c d (term s) (either f g a b) t e = cc
arms-no-term c d (formula q o) (refused x) t e = cc
arms-no-term c d (formula q o) (term r) t e = cc
arms-no-term c d (formula q o) (formula p n) t e = cc
arms-no-term c d (formula q o) (either f g a b) t e = cc
arms-no-term c d (either h i y z) (refused x) t e = cc
arms-no-term c d (either h i y z) (term r) t e = cc
arms-no-term c d (either h i y z) (formula p n) t e = cc
arms-no-term c d (either h i y z) (either f g a b) t e = cc

lift-no-term : (f : Term → Unfolded) (u : Unfolded) → IsNoTerm u → IsNoTerm (lift_tree f u)
lift-no-term f (term s) n = λ t e. n s refl
lift-no-term f (formula p q) n = λ t e. cc
lift-no-term f (refused x) n = λ t e. cc
lift-no-term f (either c d a b) n = arms-no-term c d (lift_tree f a) (lift_tree f b)

steps-no-term : (f : Term → Term → Unfolded) (u : Unfolded) (us : List Unfolded) → IsNoTerm u → IsNoTerm (steps f u us)
steps-no-term f u [] n = n
steps-no-term f u (v ∷ us) n = steps-no-term f (step f u v) us (lift-no-term (λ t. lift_tree (f t) v) u n)

either-second : (f : Term → Term → Unfolded) (u : Unfolded) (c d : _) (a b : Unfolded) → IsNoTerm (step f u (either c d a b))
either-second f (term s) c d a b = arms-no-term c d (lift_tree (f s) a) (lift_tree (f s) b)
either-second f (formula p q) c d a b = λ t e. cc
either-second f (refused x) c d a b = λ t e. cc
either-second f (either g h y z) c d a b = arms-no-term g h (lift_tree (λ t. lift_tree (f t) (either c d a b)) y) (lift_tree (λ t. lift_tree (f t) (either c d a b)) z)

steps-held : (f : Term → Term → Unfolded) (u : Unfolded) (us : List Unfolded) → hold_either us ≡ true → IsNoTerm (steps f u us)
steps-held f u [] h = absurd (true≢false (sym h))
steps-held f u (either c d a b ∷ us) h = steps-no-term f (step f u (either c d a b)) us (either-second f u c d a b)
steps-held f u (term s ∷ us) h = steps-held f (step f u (term s)) us h
steps-held f u (formula p n ∷ us) h = steps-held f (step f u (formula p n)) us h
steps-held f u (refused x ∷ us) h = steps-held f (step f u (refused x)) us h

all-held : (f : Term → Term → Unfolded) (u : Unfolded) (us : List Unfolded) → hold_either (u ∷ us) ≡ true → IsNoTerm (steps f u us)
all-held f (either c d a b) us h = steps-no-term f (either c d a b) us (λ t e. cc)
all-held f (term s) us h = steps-held f (term s) us h
all-held f (formula p n) us h = steps-held f (formula p n) us h
all-held f (refused x) us h = steps-held f (refused x) us h

one-held : (f : Term → Unfolded) (u : Unfolded) → hold_either (u ∷ []) ≡ true → IsNoTerm (lift_tree f u)
one-held f (either c d a b) h = arms-no-term c d (lift_tree f a) (lift_tree f b)
one-held f (term s) h = cc
one-held f (formula p n) h = cc
one-held f (refused x) h = cc

quotient-held : (b : Bool) (x : _) (u : Unfolded) → IsNoTerm u → IsNoTerm (cond b (refused x) u)
quotient-held true x u n = λ t e. cc
quotient-held false x u n = n

operation-held : (s : Step) (at : Place) (u : Unfolded) (us : List Unfolded) → hold_either (u ∷ us) ≡ true → IsNoTerm (unfolded_operation at (operator_of_step s) (u ∷ us))
operation-held Add at u us h = all-held (tree_of_step Add at) u us h
operation-held Multiply at u us h = subst (λ b. IsNoTerm (all_steps (multiply_tree at) (cond b (u ∷ us) (powers (gathered (u ∷ us)))))) (sym h) (all-held (multiply_tree at) u us h)
operation-held Subtract at u [] h = one-held (λ t. term (negate_tree t)) u h
operation-held Subtract at u (v ∷ us) h = all-held (tree_of_step Subtract at) u (v ∷ us) h
operation-held Divide at u us h = quotient-held (hold_either us) _ (steps (divide_tree at) u us) (all-held (divide_tree at) u us h)

pub calculates_no_tree : (m m' : BuilderModel) (ds ds' : List SketchNode) (at : Place) (s : Step) (v : Value) (vs : List Value) (k : ℕ) → Calculates m ds m' ds' at s v vs (Ok (arm.Tree k)) → AreSomeValues m ds (v ∷ vs) → hold_choice (v ∷ vs) ≡ true → ⊥
calculates_no_tree m m' ds ds' at s v vs k w h c = go h.0 h.1 h.2 h.3
  where
    go : (lists : List (List Bound)) (us : List Unfolded) (bs : List Bounding) → AreValues (making m ds lists) us bs (v ∷ vs) → ⊥
    go lists (u ∷ us) (b ∷ bs) i =
        let l = w lists u us b bs i.0 i.1 in
        let t = tree_parts m' ds' (unfolded_operation at (operator_of_step s) (u ∷ us)) k l.1.arm in
        operation-held s at u us (hold_is (making m ds lists) (u ∷ us) (b ∷ bs) (v ∷ vs) i ∙ c) t.0 t.1
    go lists [] [] i = elim i [ ]
    go lists [] (b ∷ bs) i = elim i [ ]
    go lists (u ∷ us) [] i = elim i [ ]

-- ---- links

terms-formula : (kind : Kind) (at : Place) (t u : Term) → are_formulas (terms_of kind at t u ∷ []) ≡ true
terms-formula le at t u = refl
terms-formula ge at t u = refl
terms-formula eq at t u = refl

lift-formula : (f : Term → Unfolded) → ((t : Term) → are_formulas (f t ∷ []) ≡ true) → (u : Unfolded) → are_formulas (lift_form f u ∷ []) ≡ true
lift-formula f h (term t) = h t
lift-formula f h (formula p n) = h (constant zero_fraction)
lift-formula f h (refused x) = h (constant zero_fraction)
lift-formula f h (either c d a b) = refl

linked-formula : (s : Spread) (kind : Kind) (at : Place) (u v : Unfolded) → are_formulas (linked s kind at u v ∷ []) ≡ true
linked-formula Later kind at u v = refl
linked-formula Next kind at u v = subst (λ (x : Unfolded). are_formulas (x ∷ []) ≡ true) (compared_is kind at u v)
    (lift-formula (λ t. lift_form (terms_of kind at t) v) (λ t. lift-formula (terms_of kind at t) (terms-formula kind at t) v) u)

formulas-more : (u : Unfolded) (us : List Unfolded) → are_formulas (u ∷ []) ≡ true → are_formulas us ≡ true → are_formulas (u ∷ us) ≡ true
formulas-more (formula p n) us e f = f
formulas-more (term t) us e f = cc
formulas-more (refused x) us e f = cc
formulas-more (either c d a b) us e f = cc

formulas-with : (s : Spread) (kind : Kind) (at : Place) (u : Unfolded) (us vs : List Unfolded) → are_formulas vs ≡ true → are_formulas (map (linked s kind at u) us ++ vs) ≡ true
formulas-with s kind at u [] vs h = h
formulas-with s kind at u (x ∷ us) vs h = formulas-more (linked s kind at u x) (map (linked s kind at u) us ++ vs) (linked-formula s kind at u x) (formulas-with s kind at u us vs h)

spread-formulas : (s : Spread) (kind : Kind) (at : Place) (us : List Unfolded) → are_formulas (spread_over s (linked s kind at) us) ≡ true
spread-formulas s kind at [] = refl
spread-formulas s kind at (u ∷ us) = formulas-with s kind at u (others_of s us) (spread_over s (linked s kind at) us) (spread-formulas s kind at us)

some-more : (u : Unfolded) (us : List Unfolded) → 0 < length (u ∷ us)
some-more u us = omega arith

spread-some : (s : Spread) (f : Unfolded → Unfolded → Unfolded) (us : List Unfolded) → 1 < length us → 0 < length (spread_over s f us)
spread-some s f [] n = absurd (omega (arith, n))
spread-some s f (u ∷ []) n = absurd (omega (arith, n))
spread-some Next f (u ∷ v ∷ us) n = some-more (f u v) _
spread-some Later f (u ∷ v ∷ us) n = some-more (f u v) _

-- links are Bool, and of two values or more there are some
pub links_made : (old new : Making) (s : Spread) (kind : Kind) (at : Place) (vs links : List Value) → LinksEach {X = Unit {0}} old new s kind at vs [] links (Ok tt) → AreKnown old vs → 1 < length vs → (are_bool links ≡ true) × (0 < length links)
links_made old new s kind at vs links h j n =
    let us = j.0 in let bs = j.1 in
    let f = facts new (spread_over s (linked s kind at) us) (spread_over s (link_bounds s kind) bs) links (h us bs [] [] j.2 tt).1.1 in
    let g = facts old us bs vs j.2 in
    (sym f.bools ∙ spread-formulas s kind at us, omega (arith, f.count, g.count, spread-some s (linked s kind at) us (omega (arith, n, g.count))))
