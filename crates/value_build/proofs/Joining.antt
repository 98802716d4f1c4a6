-- Operators at values that hold an `ite`.
use Rattle.std.proofs.Common.{◌≡◌, ℕ, suc, List, [], ◌∷◌, ◌++◌, map, length, Bool, true, false, ◌&&◌, ◌||◌, cond, Some, None, refl, ap, sym, ◌∙◌, subst, arith, append-nil, nat_le, nat_eq}
use Rattle.std.proofs.lemmas.Bool.{le-leb}
use Rattle.std.specs.Prelude.{Result, Ok, Err, slice_get}
use Rattle.script_model.specs.Sexp.{Place}
use Rattle.script_model.specs.Reading.{Operator, equality, distinctness, choice, minus, plus, times, divide, conjunction}
use Rattle.script_model.specs.Declared.{Bound, Bounding, known, constant_of, bounds, other, bounds_in, concat, all_known, with_first, bounding_operation, alone, computed, equal_bounds, arm_bounding, choice_bounding}
use Rattle.script_model.specs.Meaning.{neighbours, pairs}
use Rattle.poly_graph.specs.Term.{Kind, eq, Term, constant, variable, negate, add, multiply, square}
use Rattle.poly_graph.specs.Form.{Form}
use Rattle.script_forms.specs.Terms.{Comparison, Unfolded, term, formula, refused, either, hold_either}
use Rattle.script_forms.specs.Unfolded.{unfolded_operation, chain, and_of, different, equal_two, differ_two, takes, are_terms, are_formulas, picks_terms, choice_tree, truth_of, negation_form}
use Rattle.script_forms.specs.Work.{compare_events, together, operation_events}
use Rattle.term_build.specs.Built.{BuilderModel, stand_of}
use Rattle.term_build.specs.Does.{StopsAs}
use Rattle.script_forms.specs.Walk.{after_events}
use Rattle.term_build.specs.declared.sketch.Arm.{Arm}
use Rattle.term_build.specs.Sketch.{SketchNode, choice_sketch, IsSketch}
use Rattle.term_build.specs.Pairs.{Grown, Draws, DrawsEach, compared}
use Rattle.term_build.specs.declared.connectives.Pair.{Pair}
use Rattle.term_build.specs.declared.sketch.Arm.TheVariants as arm
use Rattle.term_build.specs.declared.stop.Stop.{Stop}
use Rattle.term_build.proofs.Pairs.{pair_more, sketch_end}
use Rattle.term_build.proofs.Settled.{extends_self}
use Rattle.value_build.specs.Arithmetic.{operator_of_step}
use Rattle.value_build.specs.Arms.{arm_of, IsLifted, AreSomeValues, hold_choice, Calculates, linked, link_bounds, LinksEach, PicksOf, only_of, joined, Joins, SaysAll, ArmsMake}
use Rattle.value_build.specs.Bounds.{bounds_of_kind}
use Rattle.value_build.specs.Chains.{spread_over}
use Rattle.value_build.specs.Making.{Making, making, Steps}
use Rattle.value_build.specs.Operators.{are_arms, are_picked, are_real, are_bool, pair_number, list_number, BoolsDo, ArmsDo, ListsEach}
use Rattle.value_build.specs.Values.{IsArm, is_tree, is_choice, IsValue, AreValues, Lists, Weighs}
use Rattle.value_build.specs.declared.arithmetic.Step.{Step}
use Rattle.value_build.specs.declared.arithmetic.Step.TheVariants.{Add, Subtract, Multiply, Divide}
use Rattle.value_build.specs.declared.chains.Spread.{Spread}
use Rattle.value_build.specs.declared.chains.Spread.TheVariants.{Next, Later}
use Rattle.value_build.specs.declared.value.Value.{Value}
use Rattle.value_build.specs.declared.value.Value.TheVariants as values
use Rattle.value_build.proofs.Folds.{emits_grows}
use Rattle.value_build.proofs.Growth.{lists_self, grows_self, arm_stays, steps_then, steps_more}
use Rattle.value_build.proofs.Operating.{facts, bools_seen}
use Rattle.value_build.proofs.Spreads.{spread_next, spread_later}
use Rattle.value_build.proofs.Arming.{hold_is, value_arm, arms_head, arms_tail}

-- ---- links joined

one-link : (m : Making) (u : Unfolded) (b : Bounding) (v : Value) → are_bool (v ∷ []) ≡ true → IsValue m u b v → IsValue m u (bounds (bounds_in b ++ [])) v
one-link m u b (values.Bool p n) e h = (h.0, (bounds_in b ++ [], refl, subst (λ (xs : List Bound). Lists m.bounds n xs) (sym (append-nil (bounds_in b) ∙ ap bounds_in h.1.1)) h.1.2))
one-link m u b (values.Real k) e h = cc
one-link m u b (values.Choice k) e h = cc

pub joins_one : (m : BuilderModel) (ds : List SketchNode) (lists : List (List Bound)) (s : Spread) (links : List Value) (v : Value) → Some v ≡ only_of s links → are_bool links ≡ true → Joins (making m ds lists) (making m ds lists) s links (Ok v)
joins_one m ds lists Next (w ∷ []) v e b = λ us bs h. go us bs h
  where
    same : w ≡ v
    same = cc

    go : (us : List Unfolded) (bs : List Bounding) → AreValues (making m ds lists) us bs (w ∷ []) → Steps (making m ds lists) (making m ds lists) [] (Ok v) (IsValue (making m ds lists) (chain us) (bounds (concat (map bounds_in bs))))
    go (u ∷ []) (c ∷ []) h = ((λ claim. refl), (grows_self (making m ds lists), subst (λ (x : Value). IsValue (making m ds lists) u (bounds (bounds_in c ++ [])) x) same (one-link (making m ds lists) u c w b h.0)))
    go [] [] h = elim h [ ]
    go [] (c ∷ bs) h = elim h [ ]
    go (u ∷ us) [] h = elim h [ ]
    go (u ∷ x ∷ us) (c ∷ []) h = elim h.1 [ ]
    go (u ∷ []) (c ∷ d ∷ bs) h = elim h.1 [ ]
    go (u ∷ x ∷ us) (c ∷ d ∷ bs) h = elim h.1 [ ]
joins_one m ds lists Next [] v e b = cc
joins_one m ds lists Next (w ∷ x ∷ links) v e b = cc
joins_one m ds lists Later links v e b = cc

joined-all : (s : Spread) (links : List Value) (us : List Unfolded) → None ≡ only_of s links → length us ≡ length links → joined s us ≡ and_of us
joined-all Later links us e n = refl
joined-all Next links [] e n = refl
joined-all Next links (u ∷ x ∷ us) e n = refl
joined-all Next (w ∷ []) (u ∷ []) e n = cc
joined-all Next [] (u ∷ []) e n = absurd (omega (arith, n))
joined-all Next (w ∷ x ∷ links) (u ∷ []) e n = absurd (omega (arith, n))

some-links : (links : List Value) → (length links ≡ 0 → ⊥) → nat_le 1 (length links) ≡ true
some-links [] f = absurd (f refl)
some-links (v ∷ links) f = le-leb 1 (suc (length links)) (omega arith)

and-true : (x y : Bool) → x ≡ true → y ≡ true → x && y ≡ true
and-true true y e f = f
and-true false y e f = e

pub joins_all : (m m' : BuilderModel) (ds ds' : List SketchNode) (lists lists' : List (List Bound)) (s : Spread) (links : List Value) (ps : List Pair) (ns : List ℕ) (r : Result Value Stop) → ps ≡ map pair_number links → ns ≡ map list_number links →
    None ≡ only_of s links → are_bool links ≡ true → (length links ≡ 0 → ⊥) → BoolsDo (making m ds lists) (making m' ds' lists') conjunction ps ns r → Joins (making m ds lists) (making m' ds' lists') s links r
joins_all m m' ds ds' lists lists' s links ps ns r e f n b some w = λ us bs h.
    let k = bools_seen m ds lists us bs links h b in
    let t = facts (making m ds lists) us bs links h in
    subst (λ (u : Unfolded). Steps (making m ds lists) (making m' ds' lists') [] r (IsValue (making m' ds' lists') u (bounds (concat (map bounds_in bs))))) (sym (joined-all s links us n t.count))
    (w (record { line = 0; column = 0 }) us bs (subst (λ (qs : List Pair). DrawsEach (stand_of m).trees ds us qs) (sym e) k.0) (subst (λ (js : List ℕ). ListsEach lists js bs) (sym f) k.1)
    (and-true (are_formulas us) (nat_le 1 (length us)) (t.bools ∙ b) (ap (nat_le 1) t.count ∙ some-links links some)))

-- ---- comparisons

pub says_all : (m m1 m2 : BuilderModel) (ds ds1 ds2 : List SketchNode) (lists lists1 lists2 : List (List Bound)) (s : Spread) (kind : Kind) (at : Place) (vs links : List Value) (r : Result Value Stop) →
    LinksEach {X = Unit {0}} (making m ds lists) (making m1 ds1 lists1) s kind at vs [] links (Ok tt) → Joins (making m1 ds1 lists1) (making m2 ds2 lists2) s links r → SaysAll (making m ds lists) (making m2 ds2 lists2) s kind at vs r
says_all m m1 m2 ds ds1 ds2 lists lists1 lists2 s kind at vs links r h w = λ us bs k.
    let M = making m ds lists in let M1 = making m1 ds1 lists1 in let M2 = making m2 ds2 lists2 in
    let P = IsValue M2 (joined s (spread_over s (linked s kind at) us)) (bounds (concat (map bounds_in (spread_over s (link_bounds s kind) bs)))) in
    let i = h us bs [] [] k tt in
    subst (λ es. Steps M M2 es r P) (append-nil (together (spread_over s compare_events us)))
    (steps_then (λ (_ : Unit {0}). AreValues M1 (spread_over s (linked s kind at) us) (spread_over s (link_bounds s kind) bs) links) P M M1 M2 (together (spread_over s compare_events us)) [] (tt {0}) r i
    (w (spread_over s (linked s kind at) us) (spread_over s (link_bounds s kind) bs) i.1.1))

pub says_stop : (m m1 : BuilderModel) (ds ds1 ds2 : List SketchNode) (lists lists1 lists2 : List (List Bound)) (s : Spread) (kind : Kind) (at : Place) (vs links : List Value) (z : Stop) →
    LinksEach {X = Unit {0}} (making m ds lists) (making m1 ds1 lists1) s kind at vs [] links (Err z) → SaysAll (making m ds lists) (making m1 ds2 lists2) s kind at vs (Err z)
says_stop m m1 ds ds1 ds2 lists lists1 lists2 s kind at vs links z h = λ us bs k claim. h us bs [] [] k tt claim

-- the bounds of neighbours, one behind the other
chained : (kind : Kind) (bs : List Bounding) → concat (map bounds_in (neighbours (link_bounds Next kind) bs)) ≡ concat (neighbours (bounds_of_kind kind) bs)
chained kind [] = refl
chained kind (b ∷ []) = refl
chained kind (b ∷ c ∷ bs) = ap (λ xs. bounds_of_kind kind b c ++ xs) (chained kind (c ∷ bs))

no-each : (kind : Kind) (b : Bounding) (bs ds : List Bounding) → concat (map bounds_in ds) ≡ [] → concat (map bounds_in (map (link_bounds Later kind b) bs ++ ds)) ≡ []
no-each kind b [] ds h = h
no-each kind b (c ∷ bs) ds h = no-each kind b bs ds h

no-pairs : (kind : Kind) (bs : List Bounding) → concat (map bounds_in (pairs (link_bounds Later kind) bs)) ≡ []
no-pairs kind [] = refl
no-pairs kind (b ∷ bs) = no-each kind b bs (pairs (link_bounds Later kind) bs) (no-pairs kind bs)

-- a chain says what its operator says
pub chain_says : (m m' : BuilderModel) (ds ds' : List SketchNode) (lists lists' : List (List Bound)) (kind : Kind) (at : Place) (vs : List Value) (r : Result Value Stop) → SaysAll (making m ds lists) (making m' ds' lists') Next kind at vs r →
    (us : List Unfolded) (bs : List Bounding) → AreValues (making m ds lists) us bs vs →
    Steps (making m ds lists) (making m' ds' lists') (together (neighbours compare_events us)) r (IsValue (making m' ds' lists') (chain (neighbours (compared kind at) us)) (bounds (concat (neighbours (bounds_of_kind kind) bs))))
chain_says m m' ds ds' lists lists' kind at vs r h us bs k =
    let M = making m ds lists in let M' = making m' ds' lists' in
    subst (λ es. Steps M M' es r (IsValue M' (chain (neighbours (compared kind at) us)) (bounds (concat (neighbours (bounds_of_kind kind) bs))))) (ap together (spread_next compare_events us))
    (subst (λ (xs : List Bound). Steps M M' (together (spread_over Next compare_events us)) r (IsValue M' (chain (neighbours (compared kind at) us)) (bounds xs))) (ap (λ cs. concat (map bounds_in cs)) (spread_next (link_bounds Next kind) bs) ∙ chained kind bs)
    (subst (λ (xs : List Unfolded). Steps M M' (together (spread_over Next compare_events us)) r (IsValue M' (chain xs) (bounds (concat (map bounds_in (spread_over Next (link_bounds Next kind) bs)))))) (spread_next (linked Next kind at) us) (h us bs k)))

pub pairs_say : (m m' : BuilderModel) (ds ds' : List SketchNode) (lists lists' : List (List Bound)) (at : Place) (vs : List Value) (r : Result Value Stop) → SaysAll (making m ds lists) (making m' ds' lists') Later eq at vs r →
    (us : List Unfolded) (bs : List Bounding) → AreValues (making m ds lists) us bs vs →
    Steps (making m ds lists) (making m' ds' lists') (together (pairs compare_events us)) r (IsValue (making m' ds' lists') (and_of (pairs (differ_two at) us)) (bounds []))
pairs_say m m' ds ds' lists lists' at vs r h us bs k =
    let M = making m ds lists in let M' = making m' ds' lists' in
    subst (λ es. Steps M M' es r (IsValue M' (and_of (pairs (differ_two at) us)) (bounds []))) (ap together (spread_later compare_events us))
    (subst (λ (xs : List Bound). Steps M M' (together (spread_over Later compare_events us)) r (IsValue M' (and_of (pairs (differ_two at) us)) (bounds xs))) (ap (λ cs. concat (map bounds_in cs)) (spread_later (link_bounds Later eq) bs) ∙ no-pairs eq bs)
    (subst (λ (xs : List Unfolded). Steps M M' (together (spread_over Later compare_events us)) r (IsValue M' (and_of xs) (bounds (concat (map bounds_in (spread_over Later (link_bounds Later eq) bs)))))) (spread_later (linked Later eq at) us) (h us bs k)))

-- ---- which values hold an `ite`

pub holds : (vs : List Value) → are_real vs ≡ false → are_arms vs ≡ true → hold_choice vs ≡ true
holds [] e f = cc
holds (values.Real k ∷ vs) e f = holds vs e f
holds (values.Choice k ∷ vs) e f = refl
holds (values.Bool p n ∷ vs) e f = cc

equal-reals : (at : Place) (us : List Unfolded) → are_terms us ≡ true → unfolded_operation at equality us ≡ chain (neighbours (compared eq at) us)
equal-reals at [] e = refl
equal-reals at (term t ∷ us) e = refl
equal-reals at (either c d a b ∷ us) e = refl
equal-reals at (formula p n ∷ us) e = cc
equal-reals at (refused x ∷ us) e = cc

differ-reals : (at : Place) (us : List Unfolded) → are_terms us ≡ true → hold_either us ≡ true → unfolded_operation at distinctness us ≡ and_of (pairs (differ_two at) us)
differ-reals at [] e h = cc
differ-reals at (term t ∷ us) e h = ap (λ b. cond b (and_of (pairs (differ_two at) (term t ∷ us))) (different (pairs (equal_two at) (term t ∷ us)))) h
differ-reals at (either c d a b ∷ us) e h = refl
differ-reals at (formula p n ∷ us) e h = cc
differ-reals at (refused x ∷ us) e h = cc

pub equal_arms : (m m' : BuilderModel) (ds ds' : List SketchNode) (lists lists' : List (List Bound)) (at : Place) (vs : List Value) (r : Result Value Stop) → are_arms vs ≡ true → SaysAll (making m ds lists) (making m' ds' lists') Next eq at vs r →
    ArmsDo (making m ds lists) (making m' ds' lists') at equality vs r
equal_arms m m' ds ds' lists lists' at vs r e h = λ us bs k t. let f = facts (making m ds lists) us bs vs k in
    subst (λ (u : Unfolded). Steps (making m ds lists) (making m' ds' lists') (together (neighbours compare_events us)) r (IsValue (making m' ds' lists') u (bounds (concat (neighbours equal_bounds bs))))) (sym (equal-reals at us (f.reals ∙ e)))
    (chain_says m m' ds ds' lists lists' eq at vs r h us bs k)

pub differ_arms : (m m' : BuilderModel) (ds ds' : List SketchNode) (lists lists' : List (List Bound)) (at : Place) (vs : List Value) (r : Result Value Stop) → are_arms vs ≡ true → are_real vs ≡ false → SaysAll (making m ds lists) (making m' ds' lists') Later eq at vs r →
    ArmsDo (making m ds lists) (making m' ds' lists') at distinctness vs r
differ_arms m m' ds ds' lists lists' at vs r e o h = λ us bs k t. let f = facts (making m ds lists) us bs vs k in
    subst (λ (u : Unfolded). Steps (making m ds lists) (making m' ds' lists') (together (pairs compare_events us)) r (IsValue (making m' ds' lists') u (bounds [])))
    (sym (differ-reals at us (f.reals ∙ e) (hold_is (making m ds lists) us bs vs k ∙ holds vs o e)))
    (pairs_say m m' ds ds' lists lists' at vs r h us bs k)

-- ---- arithmetic

pub arms_made : (m m' : BuilderModel) (ds ds' : List SketchNode) (lists : List (List Bound)) (at : Place) (s : Step) (v : Value) (vs : List Value) (k : ℕ) → Calculates m ds m' ds' at s v vs (Ok (arm.Choice k)) → ArmsMake (making m ds lists) (making m' ds' lists) at (operator_of_step s) (v ∷ vs) (Ok (values.Choice k))
arms_made m m' ds ds' lists at s v vs k w = λ us bs h. go lists us bs h
  where
    go : (lists : List (List Bound)) (us : List Unfolded) (bs : List Bounding) → AreValues (making m ds lists) us bs (v ∷ vs) →
        Steps (making m ds lists) (making m' ds' lists) (operation_events at (operator_of_step s) us) (Ok (values.Choice k)) (λ x. (j : ℕ) × (x ≡ values.Choice j) × IsArm m' ds' (unfolded_operation at (operator_of_step s) us) (arm.Choice j))
    go lists (u ∷ us) (b ∷ bs) h = let i = w lists u us b bs h.0 h.1 in (
      (λ claim. i.0 claim),
      (
        record { stand = emits_grows (IsLifted m' ds ds' (unfolded_operation at (operator_of_step s) (u ∷ us))) m m' (operation_events at (operator_of_step s) (u ∷ us)) (arm.Choice k) i; drawn = i.1.grown; bounds = lists_self lists },
        (k, refl, i.1.arm),
      ),
    )
    go lists [] [] h = elim h [ ]
    go lists [] (b ∷ bs) h = elim h [ ]
    go lists (u ∷ us) [] h = elim h [ ]

pub arms_stopped : (m m' : BuilderModel) (ds ds' ds'' : List SketchNode) (lists : List (List Bound)) (at : Place) (s : Step) (v : Value) (vs : List Value) (z : Stop) → Calculates m ds m' ds' at s v vs (Err z) → ArmsMake (making m ds lists) (making m' ds'' lists) at (operator_of_step s) (v ∷ vs) (Err z)
arms_stopped m m' ds ds' ds'' lists at s v vs z w = λ us bs h. go lists us bs h
  where
    go : (lists : List (List Bound)) (us : List Unfolded) (bs : List Bounding) → AreValues (making m ds lists) us bs (v ∷ vs) →
        Steps (making m ds lists) (making m' ds'' lists) (operation_events at (operator_of_step s) us) (Err z) (λ x. (j : ℕ) × (x ≡ values.Choice j) × IsArm m' ds'' (unfolded_operation at (operator_of_step s) us) (arm.Choice j))
    go lists (u ∷ us) (b ∷ bs) h = λ claim. w lists u us b bs h.0 h.1 claim
    go lists [] [] h = elim h [ ]
    go lists [] (b ∷ bs) h = elim h [ ]
    go lists (u ∷ us) [] h = elim h [ ]

pub arms_sketch : (m m' : BuilderModel) (ds ds' : List SketchNode) (at : Place) (s : Step) (v : Value) (vs : List Value) (k : ℕ) → Calculates m ds m' ds' at s v vs (Ok (arm.Choice k)) → AreSomeValues m ds (v ∷ vs) → IsSketch m' ds'
arms_sketch m m' ds ds' at s v vs k w h = go h.0 h.1 h.2 h.3
  where
    go : (lists : List (List Bound)) (us : List Unfolded) (bs : List Bounding) → AreValues (making m ds lists) us bs (v ∷ vs) → IsSketch m' ds'
    go lists (u ∷ us) (b ∷ bs) h = (w lists u us b bs h.0 h.1).1.sketch
    go lists [] [] h = elim h [ ]
    go lists [] (b ∷ bs) h = elim h [ ]
    go lists (u ∷ us) [] h = elim h [ ]

-- not all are known
none-first : (b : Bounding) (bs : List Bounding) → all_known bs ≡ None → all_known (b ∷ bs) ≡ None
none-first (known q) bs e = ap (with_first q) e
none-first (constant_of i) bs e = refl
none-first other bs e = refl
none-first (bounds xs) bs e = refl

unknown : (m : Making) (us : List Unfolded) (bs : List Bounding) (vs : List Value) → AreValues m us bs vs → hold_choice vs ≡ true → all_known bs ≡ None
unknown m (u ∷ us) (b ∷ bs) (values.Choice k ∷ vs) h e = ap (λ c. all_known (c ∷ bs)) h.0.1
unknown m (u ∷ us) (b ∷ bs) (values.Real k ∷ vs) h e = none-first b bs (unknown m us bs vs h.1 e)
unknown m (u ∷ us) (b ∷ bs) (values.Bool p n ∷ vs) h e = none-first b bs (unknown m us bs vs h.1 e)
unknown m [] [] [] h e = cc
unknown m [] [] (v ∷ vs) h e = elim h [ ]
unknown m [] (b ∷ bs) vs h e = elim h [ ]
unknown m (u ∷ us) [] vs h e = elim h [ ]
unknown m (u ∷ us) (b ∷ bs) [] h e = elim h [ ]

alone-other : (m : Making) (op : Operator) (us : List Unfolded) (bs : List Bounding) (vs : List Value) → AreValues m us bs vs → hold_choice vs ≡ true → alone op bs ≡ other
alone-other m op (u ∷ []) (b ∷ []) (values.Choice k ∷ []) h e = h.0.1
alone-other m op (u ∷ []) (b ∷ []) (values.Real k ∷ []) h e = cc
alone-other m op (u ∷ []) (b ∷ []) (values.Bool p n ∷ []) h e = cc
alone-other m op us (b ∷ c ∷ bs) vs h e = ap (computed op) (unknown m us (b ∷ c ∷ bs) vs h e)
alone-other m op [] [] [] h e = cc
alone-other m op [] [] (v ∷ vs) h e = elim h [ ]
alone-other m op [] (b ∷ []) vs h e = elim h [ ]
alone-other m op (u ∷ us) [] vs h e = elim h [ ]
alone-other m op (u ∷ us) (b ∷ []) [] h e = elim h [ ]
alone-other m op (u ∷ x ∷ us) (b ∷ []) (v ∷ []) h e = elim h.1 [ ]
alone-other m op (u ∷ []) (b ∷ []) (v ∷ w ∷ vs) h e = elim h.1 [ ]
alone-other m op (u ∷ x ∷ us) (b ∷ []) (v ∷ w ∷ vs) h e = elim h.1 [ ]

arms-other : (s : Step) (m : Making) (us : List Unfolded) (bs : List Bounding) (vs : List Value) → AreValues m us bs vs → hold_choice vs ≡ true → bounding_operation (operator_of_step s) bs ≡ other
arms-other Add m us bs vs h e = alone-other m plus us bs vs h e
arms-other Multiply m us bs vs h e = alone-other m times us bs vs h e
arms-other Subtract m us bs vs h e = ap (computed minus) (unknown m us bs vs h e)
arms-other Divide m us bs vs h e = ap (computed divide) (unknown m us bs vs h e)

pub arithmetic_arms : (m m' : BuilderModel) (ds ds' : List SketchNode) (lists lists' : List (List Bound)) (at : Place) (s : Step) (vs : List Value) (r : Result Value Stop) → are_arms vs ≡ true → are_real vs ≡ false → ArmsMake (making m ds lists) (making m' ds' lists') at (operator_of_step s) vs r →
    ArmsDo (making m ds lists) (making m' ds' lists') at (operator_of_step s) vs r
arithmetic_arms m m' ds ds' lists lists' at s vs r e o w = λ us bs k t.
    let op = operator_of_step s in let M' = making m' ds' lists' in
    steps_more (λ v. (j : ℕ) × (v ≡ values.Choice j) × IsArm m' ds' (unfolded_operation at op us) (arm.Choice j)) (IsValue M' (unfolded_operation at op us) (bounding_operation op bs)) (making m ds lists) M' (operation_events at op us) r
    (λ v p. subst (λ (x : Value). IsValue M' (unfolded_operation at op us) (bounding_operation op bs) x) (sym p.1) (p.2, arms-other s (making m ds lists) us bs vs k (holds vs o e))) (w us bs k)

-- ---- a Real `ite`

at-end : (ds : List SketchNode) (d : SketchNode) → slice_get (ds ++ (d ∷ [])) (length ds) ≡ Some d
at-end [] d = refl
at-end (x ∷ ds) d = at-end ds d

pick-value : (m : BuilderModel) (ds ds' : List SketchNode) (lists : List (List Bound)) (c d : Form Comparison) (p : Pair) (n k : ℕ) (a b : Unfolded) (x y : Arm) → ds' ≡ ds ++ (choice_sketch p x y ∷ []) → k ≡ length ds → Draws (stand_of m).trees ds (formula c d) p →
    IsArm m ds a x → IsArm m ds b y → Grown ds ds' × IsArm m ds' (either c d a b) (arm.Choice k)
pick-value m ds ds' lists c d p n k a b x y e f w i j =
    let g : Grown ds ds' = record { more = choice_sketch p x y ∷ []; is = e } in (
      g,
      is_choice (ap (λ l. slice_get l k) e ∙ ap (λ i. slice_get (ds ++ (choice_sketch p x y ∷ [])) i) f ∙ at-end ds (choice_sketch p x y)) (pair_more (stand_of m).trees ds ds' (formula c d) p g w)
          (arm_stays m m ds ds' a x (extends_self (stand_of m)) g i) (arm_stays m m ds ds' b y (extends_self (stand_of m)) g j),
    )

pub picks_sketch : (m : BuilderModel) (ds ds' : List SketchNode) (vs : List Value) (r : Result Value Stop) → IsSketch m ds → PicksOf ds ds' vs r → IsSketch m ds'
picks_sketch m ds ds' (v ∷ w ∷ x ∷ []) (Ok (values.Choice k)) s h = subst (λ (l : List SketchNode). IsSketch m l) (sym h.3) (sketch_end m ds (choice_sketch h.0 (arm_of w) (arm_of x)) s refl tt)
picks_sketch m ds ds' vs (Err e) s h = subst (λ (l : List SketchNode). IsSketch m l) (sym h.1) (record { ordered = refl; drawn = λ k d e. cc })
picks_sketch m ds ds' (v ∷ w ∷ x ∷ []) (Ok (values.Real k)) s h = elim h [ ]
picks_sketch m ds ds' (v ∷ w ∷ x ∷ []) (Ok (values.Bool p n)) s h = elim h [ ]
picks_sketch m ds ds' [] (Ok y) s h = elim h [ ]
picks_sketch m ds ds' (v ∷ []) (Ok y) s h = elim h [ ]
picks_sketch m ds ds' (v ∷ w ∷ []) (Ok y) s h = elim h [ ]
picks_sketch m ds ds' (v ∷ w ∷ x ∷ z ∷ vs) (Ok y) s h = elim h [ ]

-- the arms are Real, since not all three are Bool
second-real : (x y : Bool) → x || y ≡ true → x ≡ false → y ≡ true
second-real true y h e = cc
second-real false y h e = h

pub picked_arms : (m : BuilderModel) (ds ds' : List SketchNode) (lists : List (List Bound)) (at : Place) (vs : List Value) (r : Result Value Stop) → are_bool vs ≡ false → PicksOf ds ds' vs r → ArmsDo (making m ds lists) (making m ds' lists) at choice vs r
picked_arms m ds ds' lists at vs (Err e) b h = λ us bs k t claim. subst (λ (z : Stop). StopsAs claim (after_events claim (stand_of m) (operation_events at choice us)) z) (sym h.0) tt
picked_arms m ds ds' lists at (v ∷ w ∷ x ∷ []) (Ok (values.Choice n)) b h = λ us bs k t. go us bs k t
  where
    arms : (us : List Unfolded) → are_formulas us ≡ false → picks_terms us ≡ are_picked (v ∷ w ∷ x ∷ []) → takes choice us ≡ true → are_arms (w ∷ x ∷ []) ≡ true
    arms us e f t = seen v (sym f ∙ second-real (are_formulas us && nat_eq (length us) 3) (picks_terms us) t (ap (λ y. y && nat_eq (length us) 3) e))
      where
        first : (y z : Bool) → y && z ≡ true → y ≡ true
        first true z q = refl
        first false z q = cc

        seen : (v : Value) → are_picked (v ∷ w ∷ x ∷ []) ≡ true → are_arms (w ∷ x ∷ []) ≡ true
        seen (values.Bool p i) q = first (are_arms (w ∷ x ∷ [])) true q
        seen (values.Real i) q = cc
        seen (values.Choice i) q = cc

    first-of : (w x : Value) → are_arms (w ∷ x ∷ []) ≡ true → are_arms (w ∷ []) ≡ true
    first-of w x e = arms_head w (x ∷ []) e

    -- what stands for an arm is no formula
    not-formula : (u : Unfolded) (y : Arm) (c : Unfolded) (z : Unfolded) → IsArm m ds u y → choice_tree (c ∷ u ∷ z ∷ []) ≡ either (truth_of c) (negation_form c) u z
    not-formula _ _ c z (is_tree i) = refl
    not-formula _ _ c z (is_choice e f i j) = refl

    -- the bounds of an arm are none of a Bool expression
    no-bool : (u : Unfolded) (b c d : Bounding) → (w : Value) → are_arms (w ∷ []) ≡ true → IsValue (making m ds lists) u b w → choice_bounding (c ∷ b ∷ d ∷ []) ≡ other
    no-bool u b c d (values.Choice i) e h = ap arm_bounding h.1
    no-bool u b c d (values.Real i) e h = weighed h.0 b h.3
      where
        weighed : (t : Term) (b : Bounding) → Weighs t b → arm_bounding b ≡ other
        weighed (constant q) b k = ap arm_bounding k.1
        weighed (variable axis) b k = ap arm_bounding k
        weighed (negate t) b k = ap arm_bounding k
        weighed (add t u) b k = ap arm_bounding k
        weighed (multiply t u) b k = ap arm_bounding k
        weighed (square t) b k = ap arm_bounding k
    no-bool u b c d (values.Bool p i) e h = cc

    too-few : (y : Value) (vs : List Value) (bs : List Bounding) → AreValues (making m ds lists) [] bs (y ∷ vs) → ⊥
    too-few y vs [] k = elim k [ ]
    too-few y vs (b ∷ bs) k = elim k [ ]

    go : (us : List Unfolded) (bs : List Bounding) → AreValues (making m ds lists) us bs (v ∷ w ∷ x ∷ []) → takes choice us ≡ true →
        Steps (making m ds lists) (making m ds' lists) (operation_events at choice us) (Ok (values.Choice n)) (IsValue (making m ds' lists) (unfolded_operation at choice us) (bounding_operation choice bs))
    go (c ∷ a ∷ z ∷ []) (e ∷ f ∷ g ∷ []) k t =
        let s = facts (making m ds lists) (c ∷ a ∷ z ∷ []) (e ∷ f ∷ g ∷ []) (v ∷ w ∷ x ∷ []) k in
        let r = arms (c ∷ a ∷ z ∷ []) (s.bools ∙ b) s.picked t in
        let i = value_arm m ds lists a f w (first-of w x r) k.1.0 in
        let j = value_arm m ds lists z g x (arms_tail w (x ∷ []) r) k.1.1.0 in
        let q = subst (λ (y : Value). IsValue (making m ds lists) c e y) h.2 k.0 in
        let o = pick-value m ds ds' lists (truth_of c) (negation_form c) h.0 h.1 n a z (arm_of w) (arm_of x) h.3 h.4 (subst (λ (y : Unfolded). Draws (stand_of m).trees ds y h.0) q.0.is q.0) i j in (
          (λ claim. refl),
          (
            record { stand = extends_self (stand_of m); drawn = o.0; bounds = lists_self lists },
            (subst (λ (y : Unfolded). IsArm m ds' y (arm.Choice n)) (sym (not-formula a (arm_of w) c z i)) o.1, no-bool a f e g w (first-of w x r) k.1.0),
          ),
        )
    go [] bs k t = absurd (too-few v (w ∷ x ∷ []) bs k)
    go (c ∷ []) (e ∷ bs) k t = absurd (too-few w (x ∷ []) bs k.1)
    go (c ∷ []) [] k t = elim k [ ]
    go (c ∷ a ∷ []) (e ∷ f ∷ bs) k t = absurd (too-few x [] bs k.1.1)
    go (c ∷ a ∷ []) (e ∷ []) k t = elim k.1 [ ]
    go (c ∷ a ∷ []) [] k t = elim k [ ]
    go (c ∷ a ∷ z ∷ us) [] k t = elim k [ ]
    go (c ∷ a ∷ z ∷ us) (e ∷ []) k t = elim k.1 [ ]
    go (c ∷ a ∷ z ∷ us) (e ∷ f ∷ []) k t = elim k.1.1 [ ]
    go (c ∷ a ∷ z ∷ y ∷ us) (e ∷ f ∷ g ∷ bs) k t = absurd (long y us bs k.1.1.1)
      where
        long : (y : Unfolded) (us : List Unfolded) (bs : List Bounding) → AreValues (making m ds lists) (y ∷ us) bs [] → ⊥
        long y us [] k = elim k [ ]
        long y us (b ∷ bs) k = elim k [ ]
    go (c ∷ a ∷ z ∷ []) (e ∷ f ∷ g ∷ o ∷ bs) k t = elim k.1.1.1 [ ]
picked_arms m ds ds' lists at (v ∷ w ∷ x ∷ []) (Ok (values.Real k)) b h = elim h [ ]
picked_arms m ds ds' lists at (v ∷ w ∷ x ∷ []) (Ok (values.Bool p n)) b h = elim h [ ]
picked_arms m ds ds' lists at [] (Ok y) b h = elim h [ ]
picked_arms m ds ds' lists at (v ∷ []) (Ok y) b h = elim h [ ]
picked_arms m ds ds' lists at (v ∷ w ∷ []) (Ok y) b h = elim h [ ]
picked_arms m ds ds' lists at (v ∷ w ∷ x ∷ z ∷ vs) (Ok y) b h = elim h [ ]
