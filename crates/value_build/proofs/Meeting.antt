-- Two arms that meet, and what is left behind them.
use Rattle.std.proofs.Common.{◌≡◌, ℕ, suc, ◌+◌, ◌*◌, ◌-◌, ◌<◌, ◌≤◌, List, [], ◌∷◌, ◌++◌, length, Option, Some, None, refl, ap, sym, ◌∙◌, subst, arith, append_assoc}
use Rattle.std.specs.Prelude.{slice_get, Ok, Err}
use Rattle.script_model.specs.Sexp.{Place}
use Rattle.poly_graph.specs.Term.{Term}
use Rattle.poly_graph.specs.Form.{Form}
use Rattle.script_forms.specs.Terms.{Comparison, Unfolded, term, formula, either}
use Rattle.script_forms.specs.Work.{Event, reached, step_events}
use Rattle.script_forms.specs.Walk.{after_event, most_size}
use Rattle.term_build.specs.Built.{BuilderModel, stand_of}
use Rattle.term_build.specs.Does.{StopsAs}
use Rattle.term_build.specs.Settled.{Extends}
use Rattle.term_build.specs.Sketch.{SketchNode, as_choice}
use Rattle.term_build.specs.Pairs.{Draws}
use Rattle.term_build.specs.Steps.{Emits, IsTreeOf, tree_of}
use Rattle.term_build.specs.declared.connectives.Pair.{Pair}
use Rattle.term_build.specs.declared.sketch.Arm.{Arm}
use Rattle.term_build.specs.declared.sketch.Arm.TheVariants as arm
use Rattle.term_build.specs.declared.stop.Stop.{Stop}
use Rattle.term_build.proofs.Emits.{emits_stop, tree_is, tree_below}
use Rattle.term_build.proofs.Pairs.{grown_self}
use Rattle.value_build.specs.Arms.{IsSomeArm, events_of_leaf, tree_of_leaf}
use Rattle.value_build.specs.Values.{IsArm, is_tree, is_choice}
use Rattle.value_build.specs.Meetings.{AreMet, Looked, choice_of, events_at, events_met, outcome_of, outcomes_met, turns_left}
use Rattle.value_build.specs.declared.lift.Leaf.{Leaf}
use Rattle.value_build.specs.declared.lift.Meeting.{Meeting}
use Rattle.value_build.specs.declared.lift.Entry.TheVariants as entry
use Rattle.value_build.proofs.Folds.{emits_grows}
use Rattle.value_build.proofs.Growth.{pair_trees, arm_stays}
use Rattle.value_build.proofs.Leaf.{reach_emits}
use Rattle.value_build.proofs.Lifting.{parts, tree_parts}
use Rattle.value_build.proofs.Sizes.{IsReached, emits_size, reached_size}

-- ---- how many turns are left

-- it stops where an expression is reached
abbrev pub IsStopped : BuilderModel → Stop → Type 0
IsStopped m s = (claim : Place) → StopsAs claim (after_event claim (stand_of m) reached) s

turns-parted : (most a b n l : ℕ) → a < most → b ≡ suc a → n ≡ suc (suc l) → 2 * (most - b) + n < 2 * (most - a) + suc l
turns-parted most a b n l h e f = omega arith

turns-made : (most a b l : ℕ) → a ≤ b → 2 * (most - b) + l < 2 * (most - a) + suc l
turns-made most a b l h = omega arith

pub turns_parted : (m m1 : BuilderModel) (y z w : Meeting) (left new : List Meeting) → IsReached m m1 → new ≡ y ∷ z ∷ left → turns_left m1 new < turns_left m (w ∷ left)
turns_parted m m1 y z w left new h e = let s = reached_size m m1 h in turns-parted most_size m.size m1.size (length new) (length left) s.0 s.1 (ap (λ (l : List Meeting). length l) e)

pub turns_made : {X : Type 0} (P : X → Type 0) (m m1 : BuilderModel) (es : List Event) (x : X) (w : Meeting) (left : List Meeting) → Emits m m1 es (Ok x) P → turns_left m1 left < turns_left m (w ∷ left)
turns_made P m m1 es x w left h = turns-made most_size m.size m1.size (length left) (emits_size P m m1 es x h)

-- ---- arms that meet

pub met_first : (m : BuilderModel) (ds : List SketchNode) (ps : List (Unfolded × Unfolded)) (x : Meeting) (xs : List Meeting) → AreMet m ds ps (x ∷ xs) → IsSomeArm m ds x.first
met_first m ds (p ∷ ps) x xs h = (p.0, h.0)
met_first m ds [] x xs h = absurd h

pub met_second : (m : BuilderModel) (ds : List SketchNode) (ps : List (Unfolded × Unfolded)) (x : Meeting) (xs : List Meeting) → AreMet m ds ps (x ∷ xs) → IsSomeArm m ds x.second
met_second m ds (p ∷ ps) x xs h = (p.1, h.1)
met_second m ds [] x xs h = absurd h

met-stay : (m m1 : BuilderModel) (ds : List SketchNode) (ps : List (Unfolded × Unfolded)) (xs : List Meeting) → Extends (stand_of m) (stand_of m1) → AreMet m ds ps xs → AreMet m1 ds ps xs
met-stay m m1 ds [] [] e h = tt
met-stay m m1 ds (p ∷ ps) (x ∷ xs) e h = (arm_stays m m1 ds ds p.0 x.first e (grown_self ds) h.0, arm_stays m m1 ds ds p.1 x.second e (grown_self ds) h.1, met-stay m m1 ds ps xs e h.2)
met-stay m m1 ds [] (x ∷ xs) e h = absurd h
met-stay m m1 ds (p ∷ ps) [] e h = absurd h

pub some_tree_below : (m : BuilderModel) (ds : List SketchNode) (k : ℕ) → IsSomeArm m ds (arm.Tree k) → k < length m.nodes
some_tree_below m ds k h = let t = tree_parts m ds h.0 k h.1 in tree_below m t.0 k t.2

-- what an `ite` that is looked at does first
module _ (task : Option Leaf) (at : Place) where
  abbrev G : Term → Term → List Event
  G = events_at task at

  -- an `ite` is reached before anything else
  begins : (m : BuilderModel) (ds : List SketchNode) (u v : Unfolded) (k : ℕ) → IsArm m ds u (arm.Choice k) → (es : List Event) × (step_events G u v ≡ reached ∷ es)
  begins m ds _ v k (is_choice {u = a} {v = b} e w i j) = (step_events G a v ++ step_events G b v, refl)

  begins-second : (m : BuilderModel) (ds : List SketchNode) (u v : Unfolded) (i k : ℕ) → IsArm m ds u (arm.Tree i) → IsArm m ds v (arm.Choice k) → (es : List Event) × (step_events G u v ≡ reached ∷ es)
  begins-second m ds _ _ i k (is_tree {t = t} h) (is_choice {u = a} {v = b} e w f g) = (step_events G (term t) a ++ step_events G (term t) b, refl)

  stops-at : (m m1 : BuilderModel) (s : Stop) (es fs : List Event) (n : List Event) → es ≡ reached ∷ n → Emits {X = Unit {0}} m m1 (reached ∷ []) (Err s) (λ _. Unit {0}) → Emits {X = Unit {0}} m m1 (es ++ fs) (Err s) (λ _. Unit {0})
  stops-at m m1 s es fs n e h = subst (λ (l : List Event). Emits {X = Unit {0}} m m1 (l ++ fs) (Err s) (λ _. Unit {0})) (sym e)
      (emits_stop {X = Unit {0}} {Y = Unit {0}} (λ _. Unit {0}) (λ _. Unit {0}) m m1 m1 (reached ∷ []) (n ++ fs) s h)

  pub first_stops : (m m1 : BuilderModel) (ds : List SketchNode) (ps : List (Unfolded × Unfolded)) (x : Meeting) (xs : List Meeting) (k : ℕ) (s : Stop) → x.first ≡ arm.Choice k → AreMet m ds ps (x ∷ xs) →
      IsStopped m s → Emits {X = Unit {0}} m m1 (events_met task at ps) (Err s) (λ _. Unit {0})
  first_stops m m1 ds (p ∷ ps) x xs k s e h d =
      let b = begins m ds p.0 p.1 k (subst (λ (a : Arm). IsArm m ds p.0 a) e h.0) in
      stops-at m m1 s (step_events G p.0 p.1) (events_met task at ps) b.0 b.1 (reach_emits {X = Unit {0}} (λ _. Unit {0}) m m1 (Err s) d)
  first_stops m m1 ds [] x xs k s e h d = absurd h

  pub second_stops : (m m1 : BuilderModel) (ds : List SketchNode) (ps : List (Unfolded × Unfolded)) (x : Meeting) (xs : List Meeting) (i k : ℕ) (s : Stop) → x.first ≡ arm.Tree i → x.second ≡ arm.Choice k → AreMet m ds ps (x ∷ xs) →
      IsStopped m s → Emits {X = Unit {0}} m m1 (events_met task at ps) (Err s) (λ _. Unit {0})
  second_stops m m1 ds (p ∷ ps) x xs i k s e f h d =
      let b = begins-second m ds p.0 p.1 i k (subst (λ (a : Arm). IsArm m ds p.0 a) e h.0) (subst (λ (a : Arm). IsArm m ds p.1 a) f h.1) in
      stops-at m m1 s (step_events G p.0 p.1) (events_met task at ps) b.0 b.1 (reach_emits {X = Unit {0}} (λ _. Unit {0}) m m1 (Err s) d)
  second_stops m m1 ds [] x xs i k s e f h d = absurd h

  parted-events : (a b es : List Event) → (reached ∷ a ++ b) ++ es ≡ (reached ∷ []) ++ (a ++ (b ++ es))
  parted-events a b es = ap (λ (l : List Event). reached ∷ l) (append_assoc a b es)

  choice-outcome : (t : Option Leaf) (f : Term → Term → Unfolded) (c d : Form Comparison) (a b v : Unfolded) → outcome_of t at f (either c d a b) v ≡ choice_of t c d (outcome_of t at f a v) (outcome_of t at f b v)
  choice-outcome (Some l) f c d a b v = refl
  choice-outcome None f c d a b v = refl

  choice-second : (t : Option Leaf) (f : Term → Term → Unfolded) (c d : Form Comparison) (u : Term) (a b : Unfolded) → outcome_of t at f (term u) (either c d a b) ≡ choice_of t c d (outcome_of t at f (term u) a) (outcome_of t at f (term u) b)
  choice-second (Some l) f c d u a b = refl
  choice-second None f c d u a b = refl

  drawn-stays : (m m1 : BuilderModel) (ds : List SketchNode) (c d : Form Comparison) (p : Pair) → Extends (stand_of m) (stand_of m1) → Draws (stand_of m).trees ds (formula c d) p → Draws (stand_of m1).trees ds (formula c d) p
  drawn-stays m m1 ds c d p e w = pair_trees (stand_of m).trees (stand_of m1).trees ds (formula c d) p e.trees.0 e.trees.1 w

  pub first_parted : (m m1 : BuilderModel) (ds : List SketchNode) (ps : List (Unfolded × Unfolded)) (x y z : Meeting) (xs left : List Meeting) (k : ℕ) (p : Pair) (one other : Arm) → x.first ≡ arm.Choice k → AreMet m ds ps (x ∷ xs) →
      Some (p, one, other) ≡ as_choice (slice_get ds k) → IsReached m m1 → y ≡ record { first = one; second = x.second } → z ≡ record { first = other; second = x.second } → left ≡ y ∷ z ∷ xs → Looked m m1 ds task at ps left (entry.Choice p)
  first_parted m m1 ds (q ∷ ps) x y z xs left k p one other e h is d i j l =
      let t = parts m ds q.0 k p one other is (subst (λ (a : Arm). IsArm m ds q.0 a) e h.0) in
      let g = emits_grows {X = Unit {0}} (λ _. Unit {0}) m m1 (reached ∷ []) tt (reach_emits {X = Unit {0}} (λ _. Unit {0}) m m1 (Ok tt) (d, tt)) in
      let stays = λ (u : Unfolded) (a : Arm) (f : IsArm m ds u a). arm_stays m m1 ds ds u a g (grown_self ds) f in
      let there : AreMet m1 ds ((t.a, q.1) ∷ (t.b, q.1) ∷ ps) (record { first = one; second = x.second } ∷ record { first = other; second = x.second } ∷ xs) = (
        stays t.a one t.one,
        stays q.1 x.second h.1,
        (stays t.b other t.other, stays q.1 x.second h.1, met-stay m m1 ds ps xs g h.2),
      ) in
      record {
        pairs = (t.a, q.1) ∷ (t.b, q.1) ∷ ps;
        done = reached ∷ [];
        met = subst (λ (ys : List Meeting). AreMet m1 ds ((t.a, q.1) ∷ (t.b, q.1) ∷ ps) ys) (sym (l ∙ ap (λ (a : Meeting). a ∷ z ∷ xs) i ∙ ap (λ (b : Meeting). record { first = one; second = x.second } ∷ b ∷ xs) j)) there;
        events = ap (λ (u : Unfolded). step_events G u q.1 ++ events_met task at ps) t.is ∙ parted-events (step_events G t.a q.1) (step_events G t.b q.1) (events_met task at ps);
        reads = λ c. (
          t.c,
          t.d,
          outcome_of task at c t.a q.1,
          outcome_of task at c t.b q.1,
          outcomes_met task at c ps,
          ap (λ (o : Unfolded). o ∷ outcomes_met task at c ps) (ap (λ (u : Unfolded). outcome_of task at c u q.1) t.is ∙ choice-outcome task c t.c t.d t.a t.b q.1),
          drawn-stays m m1 ds t.c t.d p g t.drawn,
          refl,
        );
        does = reach_emits {X = Unit {0}} (λ _. Unit {0}) m m1 (Ok tt) (d, tt);
      }
  first_parted m m1 ds [] x y z xs left k p one other e h is d i j l = absurd h

  pub second_parted : (m m1 : BuilderModel) (ds : List SketchNode) (ps : List (Unfolded × Unfolded)) (x y z : Meeting) (xs left : List Meeting) (i k : ℕ) (p : Pair) (one other : Arm) → x.first ≡ arm.Tree i → x.second ≡ arm.Choice k → AreMet m ds ps (x ∷ xs) →
      Some (p, one, other) ≡ as_choice (slice_get ds k) → IsReached m m1 → y ≡ record { first = x.first; second = one } → z ≡ record { first = x.first; second = other } → left ≡ y ∷ z ∷ xs → Looked m m1 ds task at ps left (entry.Choice p)
  second_parted m m1 ds (q ∷ ps) x y z xs left i k p one other e f h is d n j l =
      let a = tree_parts m ds q.0 i (subst (λ (b : Arm). IsArm m ds q.0 b) e h.0) in
      let t = parts m ds q.1 k p one other is (subst (λ (b : Arm). IsArm m ds q.1 b) f h.1) in
      let g = emits_grows {X = Unit {0}} (λ _. Unit {0}) m m1 (reached ∷ []) tt (reach_emits {X = Unit {0}} (λ _. Unit {0}) m m1 (Ok tt) (d, tt)) in
      let stays = λ (u : Unfolded) (b : Arm) (r : IsArm m ds u b). arm_stays m m1 ds ds u b g (grown_self ds) r in
      let there : AreMet m1 ds ((q.0, t.a) ∷ (q.0, t.b) ∷ ps) (record { first = x.first; second = one } ∷ record { first = x.first; second = other } ∷ xs) = (
        stays q.0 x.first h.0,
        stays t.a one t.one,
        (stays q.0 x.first h.0, stays t.b other t.other, met-stay m m1 ds ps xs g h.2),
      ) in
      record {
        pairs = (q.0, t.a) ∷ (q.0, t.b) ∷ ps;
        done = reached ∷ [];
        met = subst (λ (ys : List Meeting). AreMet m1 ds ((q.0, t.a) ∷ (q.0, t.b) ∷ ps) ys) (sym (l ∙ ap (λ (b : Meeting). b ∷ z ∷ xs) n ∙ ap (λ (b : Meeting). record { first = x.first; second = one } ∷ b ∷ xs) j)) there;
        events = subst (λ (u : Unfolded). step_events G u q.1 ++ events_met task at ps ≡ (reached ∷ []) ++ (step_events G u t.a ++ (step_events G u t.b ++ events_met task at ps))) (sym a.1)
            (ap (λ (u : Unfolded). step_events G (term a.0) u ++ events_met task at ps) t.is ∙ parted-events (step_events G (term a.0) t.a) (step_events G (term a.0) t.b) (events_met task at ps));
        reads = λ c. (
          t.c,
          t.d,
          outcome_of task at c q.0 t.a,
          outcome_of task at c q.0 t.b,
          outcomes_met task at c ps,
          ap (λ (o : Unfolded). o ∷ outcomes_met task at c ps)
              (subst (λ (u : Unfolded). outcome_of task at c u q.1 ≡ choice_of task t.c t.d (outcome_of task at c u t.a) (outcome_of task at c u t.b)) (sym a.1) (ap (λ (u : Unfolded). outcome_of task at c (term a.0) u) t.is ∙ choice-second task c t.c t.d a.0 t.a t.b)),
          drawn-stays m m1 ds t.c t.d p g t.drawn,
          refl,
        );
        does = reach_emits {X = Unit {0}} (λ _. Unit {0}) m m1 (Ok tt) (d, tt);
      }
  second_parted m m1 ds [] x y z xs left i k p one other e f h is d n j l = absurd h

-- ---- two trees

module _ (at : Place) (m : BuilderModel) (ds : List SketchNode) where
  pub made_looked : (l : Leaf) (m1 : BuilderModel) (ps : List (Unfolded × Unfolded)) (x : Meeting) (xs : List Meeting) (i j k : ℕ) → x.first ≡ arm.Tree i → x.second ≡ arm.Tree j → AreMet m ds ps (x ∷ xs) →
      Emits m m1 (events_of_leaf l at (tree_of m i) (tree_of m j)) (Ok k) (IsTreeOf m1 (tree_of_leaf l at (tree_of m i) (tree_of m j))) → Looked m m1 ds (Some l) at ps xs (entry.Made k)
  made_looked l m1 (q ∷ ps) x xs i j k e f h d =
      let a = tree_parts m ds q.0 i (subst (λ (b : Arm). IsArm m ds q.0 b) e h.0) in
      let b = tree_parts m ds q.1 j (subst (λ (b : Arm). IsArm m ds q.1 b) f h.1) in
      let t : tree_of m i ≡ a.0 = tree_is m a.0 i a.2 in
      let u : tree_of m j ≡ b.0 = tree_is m b.0 j b.2 in
      let events : step_events (events_at (Some l) at) q.0 q.1 ≡ events_of_leaf l at (tree_of m i) (tree_of m j) =
      ap (λ (v : Unfolded). step_events (events_at (Some l) at) v q.1) a.1 ∙ ap (λ (v : Unfolded). step_events (events_at (Some l) at) (term a.0) v) b.1 ∙ ap (λ (v : Term). events_of_leaf l at v b.0) (sym t) ∙ ap (λ (v : Term). events_of_leaf l at (tree_of m i) v) (sym u) in
      let outcome : (c : Term → Term → Unfolded) → outcome_of (Some l) at c q.0 q.1 ≡ tree_of_leaf l at (tree_of m i) (tree_of m j) =
      λ c. ap (λ (v : Unfolded). outcome_of (Some l) at c v q.1) a.1 ∙ ap (λ (v : Unfolded). outcome_of (Some l) at c (term a.0) v) b.1 ∙ ap (λ (v : Term). tree_of_leaf l at v b.0) (sym t) ∙ ap (λ (v : Term). tree_of_leaf l at (tree_of m i) v) (sym u) in
      let g = emits_grows (IsTreeOf m1 (tree_of_leaf l at (tree_of m i) (tree_of m j))) m m1 (events_of_leaf l at (tree_of m i) (tree_of m j)) k d in
      record {
        pairs = ps;
        done = events_of_leaf l at (tree_of m i) (tree_of m j);
        met = met-stay m m1 ds ps xs g h.2;
        events = ap (λ (es : List Event). es ++ events_met (Some l) at ps) events;
        reads = λ c. (tree_of_leaf l at (tree_of m i) (tree_of m j), outcomes_met (Some l) at c ps, ap (λ (o : Unfolded). o ∷ outcomes_met (Some l) at c ps) (outcome c), d.1, refl);
        does = (d.0, tt);
      }
  made_looked l m1 [] x xs i j k e f h d = absurd h

  pub made_stops : (l : Leaf) (m1 : BuilderModel) (ps : List (Unfolded × Unfolded)) (x : Meeting) (xs : List Meeting) (i j : ℕ) (s : Stop) → x.first ≡ arm.Tree i → x.second ≡ arm.Tree j → AreMet m ds ps (x ∷ xs) →
      Emits m m1 (events_of_leaf l at (tree_of m i) (tree_of m j)) (Err s) (IsTreeOf m1 (tree_of_leaf l at (tree_of m i) (tree_of m j))) → Emits {X = Unit {0}} m m1 (events_met (Some l) at ps) (Err s) (λ _. Unit {0})
  made_stops l m1 (q ∷ ps) x xs i j s e f h d =
      let a = tree_parts m ds q.0 i (subst (λ (b : Arm). IsArm m ds q.0 b) e h.0) in
      let b = tree_parts m ds q.1 j (subst (λ (b : Arm). IsArm m ds q.1 b) f h.1) in
      let t : tree_of m i ≡ a.0 = tree_is m a.0 i a.2 in
      let u : tree_of m j ≡ b.0 = tree_is m b.0 j b.2 in
      let events : step_events (events_at (Some l) at) q.0 q.1 ≡ events_of_leaf l at (tree_of m i) (tree_of m j) =
      ap (λ (v : Unfolded). step_events (events_at (Some l) at) v q.1) a.1 ∙ ap (λ (v : Unfolded). step_events (events_at (Some l) at) (term a.0) v) b.1 ∙ ap (λ (v : Term). events_of_leaf l at v b.0) (sym t) ∙ ap (λ (v : Term). events_of_leaf l at (tree_of m i) v) (sym u) in
      subst (λ (es : List Event). Emits {X = Unit {0}} m m1 (es ++ events_met (Some l) at ps) (Err s) (λ _. Unit {0})) (sym events)
      (emits_stop {X = ℕ} {Y = Unit {0}} (IsTreeOf m1 (tree_of_leaf l at (tree_of m i) (tree_of m j))) (λ _. Unit {0}) m m1 m1 (events_of_leaf l at (tree_of m i) (tree_of m j)) (events_met (Some l) at ps) s d)
  made_stops l m1 [] x xs i j s e f h d = absurd h

  nothing-done : (q : Unfolded × Unfolded) (t u : Term) → q.0 ≡ term t → q.1 ≡ term u → step_events (events_at None at) q.0 q.1 ≡ []
  nothing-done q t u e f = ap (λ (v : Unfolded). step_events (events_at None at) v q.1) e ∙ ap (λ (v : Unfolded). step_events (events_at None at) (term t) v) f

  pub trees_looked : (m1 : BuilderModel) (ps : List (Unfolded × Unfolded)) (x : Meeting) (xs left : List Meeting) (i j : ℕ) → m1 ≡ m → left ≡ xs → x.first ≡ arm.Tree i → x.second ≡ arm.Tree j → AreMet m ds ps (x ∷ xs) → Looked m m1 ds None at ps left (entry.Trees i j)
  trees_looked m1 (q ∷ ps) x xs left i j same n e f h =
      let a = tree_parts m ds q.0 i (subst (λ (b : Arm). IsArm m ds q.0 b) e h.0) in
      let b = tree_parts m ds q.1 j (subst (λ (b : Arm). IsArm m ds q.1 b) f h.1) in
      let there : Looked m m ds None at (q ∷ ps) xs (entry.Trees i j) = record {
        pairs = ps;
        done = [];
        met = h.2;
        events = ap (λ (es : List Event). es ++ events_met None at ps) (nothing-done q a.0 b.0 a.1 b.1);
        reads = λ c. (
          outcome_of None at c q.0 q.1,
          outcomes_met None at c ps,
          refl,
          (a.0, b.0, a.2, b.2, ap (λ (v : Unfolded). outcome_of None at c v q.1) a.1 ∙ ap (λ (v : Unfolded). outcome_of None at c (term a.0) v) b.1),
          refl,
        );
        does = ((λ claim. refl), tt);
      } in
      subst (λ (mm : BuilderModel). Looked m mm ds None at (q ∷ ps) left (entry.Trees i j)) (sym same) (subst (λ (ys : List Meeting). Looked m m ds None at (q ∷ ps) ys (entry.Trees i j)) (sym n) there)
  trees_looked m1 [] x xs left i j same n e f h = absurd h
