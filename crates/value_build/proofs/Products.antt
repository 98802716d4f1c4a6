-- The powers of trees, made one after the other, and their product.
use Rattle.std.proofs.Common.{◌≡◌, ℕ, zero, suc, ◌+◌, ◌-◌, ◌<◌, ◌≤◌, List, [], ◌∷◌, ◌++◌, length, Bool, true, false, cond, refl, ap, sym, ◌∙◌, subst, arith, append_assoc}
use Rattle.std.specs.Prelude.{Result, Ok, Err}
use Rattle.poly_graph.specs.Term.{Term}
use Rattle.script_model.specs.Sexp.{Place}
use Rattle.script_model.specs.Reading.{times}
use Rattle.script_forms.specs.Terms.{Unfolded, term, formula, refused, either, multiply_tree, all_steps, steps, Times, once, once_more, power, repeats, gathered, powers_from, powers}
use Rattle.script_forms.specs.Unfolded.{unfolded_operation}
use Rattle.script_forms.specs.Work.{Event, multiply_events, all_events, steps_events, power_events, powers_events_from, powers_events, operation_events}
use Rattle.script_forms.specs.Walk.{after_events, goes_on}
use Rattle.term_build.specs.Built.{BuilderModel, stand_of}
use Rattle.term_build.specs.Does.{IsTree}
use Rattle.term_build.specs.Settled.{Extends}
use Rattle.term_build.specs.Steps.{Emits, IsTreeOf, count, tree_of}
use Rattle.term_build.specs.Pairs.{tree_at, trees_at}
use Rattle.term_build.specs.declared.stop.Stop.{Stop}
use Rattle.term_build.specs.declared.stop.Stop.TheVariants as stop
use Rattle.term_build.proofs.Emits.{events_both, stops_so, stopped_on, tree_is, tree_below, same_tree, more_nodes, emits_then, emits_stop}
use Rattle.term_build.proofs.Powers.{count_more, some_times}
use Rattle.term_build.proofs.Settled.{extends_self, extends_on}
use Rattle.value_build.specs.Arithmetic.{AreNodes, IsPowering, is_product, operator_of_step}
use Rattle.value_build.specs.declared.arithmetic.Step.{Step}
use Rattle.value_build.specs.declared.arithmetic.Step.TheVariants.{Add, Subtract, Multiply, Divide}
use Rattle.value_build.specs.Weights.{term_at}
use Rattle.value_build.proofs.Plain.{plain_trees}
use Rattle.value_build.proofs.Factors.{trees_both}
use Rattle.value_build.proofs.Folds.{emits_grows}

pub powering_begun : (m : BuilderModel) (nodes : List ℕ) (k : ℕ) (rest : List ℕ) → nodes ≡ k ∷ rest → AreNodes m nodes → IsPowering m m nodes k nodes rest []
powering_begun m nodes k rest e h = let b = subst (λ (ks : List ℕ). AreNodes m ks) e h in record {
  sorts = refl;
  stand = extends_self (stand_of m);
  here = b.0;
  below = b.1;
  often = once;
  counted = omega (arith, ap (λ (ks : List ℕ). length ks) e);
  there = tt;
  walk = λ claim. ap (λ ks. after_events claim (stand_of m) (powers_events (trees_at (stand_of m).trees ks))) e;
  same = ap (λ ks. powers (trees_at (stand_of m).trees ks)) e;
}

-- the next tree is the same factor
pub powering_repeats : (m now : BuilderModel) (nodes : List ℕ) (k j : ℕ) (from later made : List ℕ) → IsPowering m now nodes k from (j ∷ later) made → repeats (tree_of now k) (tree_of now j) ≡ true →
    IsPowering m now nodes k from later made
powering_repeats m now nodes k j from later made h e =
    let ts = (stand_of m).trees in
    let same : repeats (term_at ts k) (term_at ts j) ≡ true = ap (λ x. repeats x (term_at ts j)) (sym (same_tree m now k h.stand.trees h.here)) ∙ ap (λ x. repeats (tree_of now k) x) (sym (same_tree m now j h.stand.trees h.below.0)) ∙ e in
    record {
      sorts = h.sorts;
      stand = h.stand;
      here = h.here;
      below = h.below.1;
      often = once_more h.often;
      counted = omega (arith, h.counted, count_more h.often);
      there = h.there;
      walk = λ claim. h.walk claim ∙ ap (λ b. after_events claim (stand_of now) (cond b (powers_events_from (term_at ts k) (once_more h.often) (trees_at ts later)) (power_events h.often (term_at ts k) ++ powers_events_from (term_at ts j) once (trees_at ts later)))) same;
      same = h.same ∙ ap (λ b. trees_at (stand_of now).trees made ++ cond b (powers_from (term_at ts k) (once_more h.often) (trees_at ts later)) (term (power h.often (term_at ts k)) ∷ powers_from (term_at ts j) once (trees_at ts later))) same;
    }

-- ---- lists of nodes

trees-stay : (m m1 : BuilderModel) (ks : List ℕ) → Extends (stand_of m) (stand_of m1) → AreNodes m ks → trees_at (stand_of m1).trees ks ≡ trees_at (stand_of m).trees ks
trees-stay m m1 [] g h = refl
trees-stay m m1 (k ∷ ks) g h = ap (λ t. term t ∷ trees_at (stand_of m1).trees ks) (same_tree m m1 k g.trees h.0) ∙ ap (λ us. tree_at (stand_of m).trees k ∷ us) (trees-stay m m1 ks g h.1)

nodes-stay : (m m1 : BuilderModel) (ks : List ℕ) → length m.nodes ≤ length m1.nodes → AreNodes m ks → AreNodes m1 ks
nodes-stay m m1 [] g h = tt
nodes-stay m m1 (k ∷ ks) g h = (omega (arith, g, h.0), nodes-stay m m1 ks g h.1)

nodes-end : (m : BuilderModel) (ks : List ℕ) (k : ℕ) → AreNodes m ks → k < length m.nodes → AreNodes m (ks ++ (k ∷ []))
nodes-end m [] k h l = (l, tt)
nodes-end m (j ∷ ks) k h l = (h.0, nodes-end m ks k h.1 l)

-- ---- a power is made

powered : (m now next : BuilderModel) (nodes : List ℕ) (k n : ℕ) (from left made : List ℕ) (r : Result ℕ Stop) → (h : IsPowering m now nodes k from left made) → n ≡ length from - length left →
    ((w : Times) → count w ≡ n → Emits now next (power_events w (tree_of now k)) r (IsTree next (power w (tree_of now k)))) →
    Emits now next (power_events h.often (term_at (stand_of m).trees k)) r (IsTree next (power h.often (term_at (stand_of m).trees k)))
powered m now next nodes k n from left made r h e p =
    subst (λ (t : Term). Emits now next (power_events h.often t) r (IsTree next (power h.often t))) (same_tree m now k h.stand.trees h.here) (p h.often (omega (arith, e, h.counted)))

-- the factor stands at least once
pub powering_some : (m now : BuilderModel) (nodes : List ℕ) (k : ℕ) (from left made : List ℕ) → IsPowering m now nodes k from left made → (length left ≤ length from) × (0 < length from - length left) × (k < length now.nodes)
powering_some m now nodes k from left made h =
    (omega (arith, h.counted), omega (arith, h.counted, some_times h.often), omega (arith, h.here, more_nodes m now h.stand.trees))

pub powering_next : (m now : BuilderModel) (nodes : List ℕ) (k j : ℕ) (from later made : List ℕ) → IsPowering m now nodes k from (j ∷ later) made → j < length now.nodes
powering_next m now nodes k j from later made h = omega (arith, h.below.0, more_nodes m now h.stand.trees)

-- the trees that are made, with one more
made-trees : (m now next : BuilderModel) (made : List ℕ) (i : ℕ) (t : Term) (us : List Unfolded) → Extends (stand_of now) (stand_of next) → AreNodes now made → IsTree next t i →
    trees_at (stand_of now).trees made ++ (term t ∷ us) ≡ trees_at (stand_of next).trees (made ++ (i ∷ [])) ++ us
made-trees m now next made i t us g h is =
    ap (λ xs. xs ++ (term t ∷ us)) (sym (trees-stay now next made g h))
    ∙ sym (append_assoc (trees_at (stand_of next).trees made) (term t ∷ []) us)
    ∙ ap (λ x. (trees_at (stand_of next).trees made ++ (term x ∷ [])) ++ us) (sym (tree_is next t i is))
    ∙ ap (λ xs. xs ++ us) (sym (trees_both (stand_of next).trees made (i ∷ [])))

-- the next tree is another factor
pub powering_step : (m now next : BuilderModel) (nodes : List ℕ) (k j n i : ℕ) (from later made : List ℕ) → IsPowering m now nodes k from (j ∷ later) made → repeats (tree_of now k) (tree_of now j) ≡ false →
    n ≡ length from - length (j ∷ later) → ((w : Times) → count w ≡ n → Emits now next (power_events w (tree_of now k)) (Ok i) (IsTree next (power w (tree_of now k)))) → next.sorts ≡ now.sorts →
    IsPowering m next nodes j (j ∷ later) later (made ++ (i ∷ []))
powering_step m now next nodes k j n i from later made h e l p s =
    let ts = (stand_of m).trees in let t = term_at ts k in let u = term_at ts j in
    let q = powered m now next nodes k n from (j ∷ later) made (Ok i) h l p in
    let x = emits_grows (IsTree next (power h.often t)) now next (power_events h.often t) i q in
    let other : repeats t u ≡ false = ap (λ y. repeats y u) (sym (same_tree m now k h.stand.trees h.here)) ∙ ap (λ y. repeats (tree_of now k) y) (sym (same_tree m now j h.stand.trees h.below.0)) ∙ e in
    record {
      sorts = s ∙ h.sorts;
      stand = extends_on (stand_of m) (stand_of now) (stand_of next) h.stand x;
      here = h.below.0;
      below = h.below.1;
      often = once;
      counted = omega arith;
      there = nodes-end next made i (nodes-stay now next made (more_nodes now next x.trees) h.there) (tree_below next (power h.often t) i q.1);
      walk = λ claim. h.walk claim
          ∙ ap (λ b. after_events claim (stand_of now) (cond b (powers_events_from t (once_more h.often) (trees_at ts later)) (power_events h.often t ++ powers_events_from u once (trees_at ts later)))) other
          ∙ events_both claim (stand_of now) (power_events h.often t) (powers_events_from u once (trees_at ts later))
          ∙ ap (goes_on (λ s'. after_events claim s' (powers_events_from u once (trees_at ts later)))) (q.0 claim);
      same = h.same
          ∙ ap (λ b. trees_at (stand_of now).trees made ++ cond b (powers_from t (once_more h.often) (trees_at ts later)) (term (power h.often t) ∷ powers_from u once (trees_at ts later))) other
          ∙ made-trees m now next made i (power h.often t) (powers_from u once (trees_at ts later)) x h.there q.1;
    }

pub powering_stopped : {X : Type 0} (P : X → Type 0) (m now next : BuilderModel) (nodes : List ℕ) (k j n : ℕ) (z : Stop) (from later made : List ℕ) → IsPowering m now nodes k from (j ∷ later) made → repeats (tree_of now k) (tree_of now j) ≡ false →
    n ≡ length from - length (j ∷ later) → ((w : Times) → count w ≡ n → Emits now next (power_events w (tree_of now k)) (Err z) (IsTree next (power w (tree_of now k)))) →
    Emits m next (powers_events (trees_at (stand_of m).trees nodes)) (Err z) P
powering_stopped P m now next nodes k j n z from later made h e l p = λ claim.
    let ts = (stand_of m).trees in let t = term_at ts k in let u = term_at ts j in
    let q = powered m now next nodes k n from (j ∷ later) made (Err z) h l p in
    let other : repeats t u ≡ false = ap (λ y. repeats y u) (sym (same_tree m now k h.stand.trees h.here)) ∙ ap (λ y. repeats (tree_of now k) y) (sym (same_tree m now j h.stand.trees h.below.0)) ∙ e in
    let es = powers_events_from u once (trees_at ts later) in
    stops_so claim _ (goes_on (λ s'. after_events claim s' es) (after_events claim (stand_of now) (power_events h.often t))) z
    (h.walk claim
    ∙ ap (λ b. after_events claim (stand_of now) (cond b (powers_events_from t (once_more h.often) (trees_at ts later)) (power_events h.often t ++ es))) other
    ∙ events_both claim (stand_of now) (power_events h.often t) es)
    (stopped_on claim (after_events claim (stand_of now) (power_events h.often t)) (λ s'. after_events claim s' es) z (q claim))

-- the last power
pub powering_last : (m now next : BuilderModel) (nodes : List ℕ) (k n : ℕ) (z : Stop) (from made : List ℕ) → IsPowering m now nodes k from [] made → n ≡ length from - 0 →
    {X : Type 0} (P : X → Type 0) → ((w : Times) → count w ≡ n → Emits now next (power_events w (tree_of now k)) (Err z) (IsTree next (power w (tree_of now k)))) →
    Emits m next (powers_events (trees_at (stand_of m).trees nodes)) (Err z) P
powering_last m now next nodes k n z from made h l P p = λ claim.
    let t = term_at (stand_of m).trees k in
    stops_so claim _ (after_events claim (stand_of now) (power_events h.often t)) z (h.walk claim) (powered m now next nodes k n from [] made (Err z) h l p claim)

pub powering_done : (m now next : BuilderModel) (nodes : List ℕ) (k n i : ℕ) (from made : List ℕ) → IsPowering m now nodes k from [] made → n ≡ length from - 0 →
    ((w : Times) → count w ≡ n → Emits now next (power_events w (tree_of now k)) (Ok i) (IsTree next (power w (tree_of now k)))) →
    ((claim : Place) → after_events claim (stand_of m) (powers_events (trees_at (stand_of m).trees nodes)) ≡ after_events claim (stand_of next) []) ×
    ((trees_at (stand_of next).trees (made ++ (i ∷ [])) ≡ powers (trees_at (stand_of m).trees nodes)) × AreNodes next (made ++ (i ∷ [])))
powering_done m now next nodes k n i from made h l p =
    let t = term_at (stand_of m).trees k in
    let q = powered m now next nodes k n from [] made (Ok i) h l p in
    let x = emits_grows (IsTree next (power h.often t)) now next (power_events h.often t) i q in (
      (λ claim. h.walk claim ∙ q.0 claim),
      (
        sym (h.same ∙ made-trees m now next made i (power h.often t) [] x h.there q.1 ∙ no-more (trees_at (stand_of next).trees (made ++ (i ∷ [])))),
        nodes-end next made i (nodes-stay now next made (more_nodes now next x.trees) h.there) (tree_below next (power h.often t) i q.1),
      ),
    )
  where
    no-more : (us : List Unfolded) → us ++ [] ≡ us
    no-more [] = refl
    no-more (u ∷ us) = ap (λ vs. u ∷ vs) (no-more us)

-- ---- a product

some-of : (b : Bool) (us vs : List Unfolded) → (us ≡ [] → ⊥) → (vs ≡ [] → ⊥) → cond b us vs ≡ [] → ⊥
some-of true us vs h k = h
some-of false us vs h k = k

powers-some : (t : Term) (n : Times) (us : List Unfolded) → powers_from t n us ≡ [] → ⊥
powers-some t n [] e = cc
powers-some t n (term u ∷ us) e = some-of (repeats t u) (powers_from t (once_more n) us) (term (power n t) ∷ powers_from u once us) (powers-some t (once_more n) us) (λ d. cc) e
powers-some t n (formula f g ∷ us) e = cc
powers-some t n (refused x ∷ us) e = cc
powers-some t n (either c d x y ∷ us) e = cc

pub some_powers : (m m1 : BuilderModel) (nodes ks : List ℕ) → 0 < length nodes → trees_at (stand_of m1).trees ks ≡ powers (trees_at (stand_of m).trees nodes) → ks ≡ [] → ⊥
some_powers m m1 [] ks l e n = absurd (omega (arith, l))
some_powers m m1 (k ∷ nodes) ks l e n = powers-some (term_at (stand_of m).trees k) once (trees_at (stand_of m).trees nodes) (sym e ∙ ap (λ js. trees_at (stand_of m1).trees js) n)

-- of trees whose equal factors stand in a row
pub product_done : {X : Type 0} (P : X → Type 0) (at : Place) (m m1 m2 : BuilderModel) (nodes : List ℕ) (x : X) (k : ℕ) (ks : List ℕ) (r : Result ℕ Stop) → let us = trees_at (stand_of m).trees nodes in let ts = (stand_of m1).trees in let f = multiply_tree at in
    Emits m m1 (powers_events us) (Ok x) P → trees_at ts (k ∷ ks) ≡ powers us →
    Emits m1 m2 (steps_events f (multiply_events at) (tree_at ts k) (trees_at ts ks)) r (IsTreeOf m2 (steps f (tree_at ts k) (trees_at ts ks))) →
    Emits m m2 (powers_events us ++ all_events f (multiply_events at) (powers us)) r (IsTreeOf m2 (all_steps f (powers us)))
product_done P at m m1 m2 nodes x k ks r h e p = let us = trees_at (stand_of m).trees nodes in let f = multiply_tree at in
    emits_then P (IsTreeOf m2 (all_steps f (powers us))) m m1 m2 (powers_events us) (all_events f (multiply_events at) (powers us)) x r h
    (subst (λ (vs : List Unfolded). Emits m1 m2 (all_events f (multiply_events at) vs) r (IsTreeOf m2 (all_steps f vs))) e p)

pub product_stopped : {X : Type 0} (P : X → Type 0) (at : Place) (m m1 : BuilderModel) (nodes : List ℕ) (z : Stop) → let us = trees_at (stand_of m).trees nodes in let f = multiply_tree at in
    Emits m m1 (powers_events us) (Err z) P → Emits m m1 (powers_events us ++ all_events f (multiply_events at) (powers us)) (Err z) (IsTreeOf m1 (all_steps f (powers us)))
product_stopped P at m m1 nodes z h = let us = trees_at (stand_of m).trees nodes in let f = multiply_tree at in
    emits_stop P (IsTreeOf m1 (all_steps f (powers us))) m m1 m1 (powers_events us) (all_events f (multiply_events at) (powers us)) z h

-- of trees alone, whose factors are gathered
pub product_gathered : (at : Place) (m m2 : BuilderModel) (nodes factors : List ℕ) (r : Result ℕ Stop) → let us = trees_at (stand_of m).trees nodes in let vs = trees_at (stand_of m).trees factors in let f = multiply_tree at in
    vs ≡ gathered us → Emits m m2 (powers_events vs ++ all_events f (multiply_events at) (powers vs)) r (IsTreeOf m2 (all_steps f (powers vs))) →
    Emits m m2 (operation_events at times us) r (IsTreeOf m2 (unfolded_operation at times us))
product_gathered at m m2 nodes factors r e h = let us = trees_at (stand_of m).trees nodes in let f = multiply_tree at in
    subst (λ b. Emits m m2 (cond b [] (powers_events (gathered us)) ++ all_events f (multiply_events at) (cond b us (powers (gathered us)))) r (IsTreeOf m2 (all_steps f (cond b us (powers (gathered us)))))) (sym (plain_trees (stand_of m).trees nodes))
    (subst (λ (vs : List Unfolded). Emits m m2 (powers_events vs ++ all_events f (multiply_events at) (powers vs)) r (IsTreeOf m2 (all_steps f (powers vs)))) e h)

-- an operator of products
pub product_calculates : (s : Step) (at : Place) (m m1 : BuilderModel) (nodes : List ℕ) (r : Result ℕ Stop) → is_product s ≡ true → let us = trees_at (stand_of m).trees nodes in
    Emits m m1 (operation_events at times us) r (IsTreeOf m1 (unfolded_operation at times us)) →
    Emits m m1 (operation_events at (operator_of_step s) us) r (IsTreeOf m1 (unfolded_operation at (operator_of_step s) us))
product_calculates Multiply at m m1 nodes r e h = h
product_calculates Add at m m1 nodes r e h = cc
product_calculates Subtract at m m1 nodes r e h = cc
product_calculates Divide at m m1 nodes r e h = cc
