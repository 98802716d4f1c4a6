-- Meetings are looked at one after the other.
use Rattle.std.proofs.Common.{◌≡◌, List, [], ◌∷◌, ◌++◌, length, Option, Some, None, refl, ap, sym, ◌∙◌, subst, append_assoc, arith}
use Rattle.std.proofs.lemmas.List.{append-nil}
use Rattle.std.specs.Prelude.{Ok, Err}
use Rattle.script_model.specs.Sexp.{Place}
use Rattle.poly_graph.specs.Term.{Term}
use Rattle.script_forms.specs.Terms.{Unfolded, formula}
use Rattle.script_forms.specs.Work.{Event, step_events}
use Rattle.term_build.specs.Built.{BuilderModel, stand_of}
use Rattle.term_build.specs.Settled.{Extends}
use Rattle.term_build.specs.Sketch.{SketchNode, IsSketch}
use Rattle.term_build.specs.Steps.{Emits}
use Rattle.term_build.specs.declared.sketch.Arm.{Arm}
use Rattle.term_build.specs.declared.stop.Stop.{Stop}
use Rattle.term_build.proofs.Emits.{emits_then, tree_stays, more_nodes}
use Rattle.value_build.specs.Arms.{IsSomeArm}
use Rattle.value_build.specs.Values.{IsArm}
use Rattle.value_build.specs.Meetings.{AreMet, AreSomeMet, IsRead, Looked, Looks, AreRead, Spread, Spreads, Spreading, IsSpreading, events_at, events_met, outcome_of, outcomes_met}
use Rattle.value_build.specs.declared.lift.Leaf.{Leaf}
use Rattle.value_build.specs.declared.lift.Meeting.{Meeting}
use Rattle.value_build.specs.declared.lift.Entry.{Entry}
use Rattle.value_build.specs.declared.lift.Entry.TheVariants as entry
use Rattle.value_build.proofs.Folds.{emits_grows}
use Rattle.value_build.proofs.Growth.{pair_trees, sketch_stays}

-- ---- what is read

read-stays : (task : Option Leaf) (c : Term → Term → Unfolded) (m m1 : BuilderModel) (e : Entry) (o : Unfolded) → Extends (stand_of m) (stand_of m1) → IsRead task c m e o → IsRead task c m1 e o
read-stays (Some l) c m m1 (entry.Made k) o g h = (h.0, h.1, tree_stays m m1 h.0 k g.trees h.2)
read-stays None c m m1 (entry.Trees i j) o g h = (h.0, h.1, tree_stays m m1 h.0 i g.trees h.2, tree_stays m m1 h.1 j g.trees h.3, h.4)
read-stays (Some l) c m m1 (entry.Trees i j) o g h = absurd h
read-stays (Some l) c m m1 (entry.Choice p) o g h = absurd h
read-stays None c m m1 (entry.Made k) o g h = absurd h
read-stays None c m m1 (entry.Choice p) o g h = absurd h

pub reads_stay : (task : Option Leaf) (c : Term → Term → Unfolded) (m m1 : BuilderModel) (ds : List SketchNode) (es : List Entry) (os rest : List Unfolded) → Extends (stand_of m) (stand_of m1) → AreRead task c m ds es os rest → AreRead task c m1 ds es os rest
reads_stay task c m m1 ds [] os rest g h = h
reads_stay task c m m1 ds (entry.Choice p ∷ es) os rest g h =
    (h.0, h.1, h.2, h.3, h.4, h.5, pair_trees (stand_of m).trees (stand_of m1).trees ds (formula h.0 h.1) p g.trees.0 g.trees.1 h.6, reads_stay task c m m1 ds es (h.2 ∷ h.3 ∷ h.4) rest g h.7)
reads_stay task c m m1 ds (entry.Made k ∷ es) os rest g h = (h.0, h.1, h.2, read-stays task c m m1 (entry.Made k) h.0 g h.3, reads_stay task c m m1 ds es h.1 rest g h.4)
reads_stay task c m m1 ds (entry.Trees i j ∷ es) os rest g h = (h.0, h.1, h.2, read-stays task c m m1 (entry.Trees i j) h.0 g h.3, reads_stay task c m m1 ds es h.1 rest g h.4)

pub reads_on : (task : Option Leaf) (c : Term → Term → Unfolded) (m : BuilderModel) (ds : List SketchNode) (es fs : List Entry) (os mid rest : List Unfolded) → AreRead task c m ds es os mid → AreRead task c m ds fs mid rest → AreRead task c m ds (es ++ fs) os rest
reads_on task c m ds [] fs os mid rest h k = subst (λ (l : List Unfolded). AreRead task c m ds fs l rest) (sym h) k
reads_on task c m ds (entry.Choice p ∷ es) fs os mid rest h k = (h.0, h.1, h.2, h.3, h.4, h.5, h.6, reads_on task c m ds es fs (h.2 ∷ h.3 ∷ h.4) mid rest h.7 k)
reads_on task c m ds (entry.Made i ∷ es) fs os mid rest h k = (h.0, h.1, h.2, h.3, reads_on task c m ds es fs h.1 mid rest h.4 k)
reads_on task c m ds (entry.Trees i j ∷ es) fs os mid rest h k = (h.0, h.1, h.2, h.3, reads_on task c m ds es fs h.1 mid rest h.4 k)

-- and the other way round
pub reads_back : (task : Option Leaf) (c : Term → Term → Unfolded) (m : BuilderModel) (ds : List SketchNode) (es fs : List Entry) (os rest : List Unfolded) → AreRead task c m ds (es ++ fs) os rest → (mid : List Unfolded) × AreRead task c m ds es os mid × AreRead task c m ds fs mid rest
reads_back task c m ds [] fs os rest h = (os, refl, h)
reads_back task c m ds (entry.Choice p ∷ es) fs os rest h = let r = reads_back task c m ds es fs (h.2 ∷ h.3 ∷ h.4) rest h.7 in (r.0, (h.0, h.1, h.2, h.3, h.4, h.5, h.6, r.1), r.2)
reads_back task c m ds (entry.Made i ∷ es) fs os rest h = let r = reads_back task c m ds es fs h.1 rest h.4 in (r.0, (h.0, h.1, h.2, h.3, r.1), r.2)
reads_back task c m ds (entry.Trees i j ∷ es) fs os rest h = let r = reads_back task c m ds es fs h.1 rest h.4 in (r.0, (h.0, h.1, h.2, h.3, r.1), r.2)

-- ---- from meeting to meeting

module _ (task : Option Leaf) (at : Place) (m0 : BuilderModel) (ds : List SketchNode) (x y : Arm) where
  pub first_of_all : (left : List Meeting) → left ≡ record { first = x; second = y } ∷ [] → IsSketch m0 ds → IsSpreading m0 m0 ds task at x y [] left
  first_of_all left e s = record {
    sketch = s;
    sorts = refl;
    spreads = λ u v h k. record {
      pairs = (u, v) ∷ [];
      done = [];
      met = subst (λ (l : List Meeting). AreMet m0 ds ((u, v) ∷ []) l) (sym e) (h, k, tt);
      events = sym (append-nil (step_events (events_at task at) u v));
      reads = λ c. refl;
      does = ((λ claim. refl), tt);
    };
  }

  pub some_left : (m : BuilderModel) (es : List Entry) (left : List Meeting) → IsSpreading m0 m ds task at x y es left → IsSomeArm m0 ds x → IsSomeArm m0 ds y → AreSomeMet m ds left
  some_left m es left h f g = let s = h.spreads f.0 g.0 f.1 g.1 in (s.pairs, s.met)

  pub goes_on : (m m1 : BuilderModel) (es es' : List Entry) (e : Entry) (w : Meeting) (left now left' : List Meeting) → IsSpreading m0 m ds task at x y es left → left ≡ w ∷ now → m1.sorts ≡ m.sorts → IsSomeArm m0 ds x → IsSomeArm m0 ds y →
      Looks m m1 ds task at w now left' (Ok e) → es' ≡ es ++ (e ∷ []) → IsSpreading m0 m1 ds task at x y es' left'
  goes_on m m1 es es' e w left now left' h n same f g looks more = record {
    sketch = sketch_stays m m1 ds (more_nodes m m1 (grown (h.spreads f.0 g.0 f.1 g.1)).trees) same h.sketch;
    sorts = same ∙ h.sorts;
    spreads = λ u v i j. on u v (h.spreads u v i j);
  }
    where
      looked : (u v : Unfolded) (s : Spreading m0 m ds task at u v es left) → Looked m m1 ds task at s.pairs left' e
      looked u v s = looks s.pairs (subst (λ (l : List Meeting). AreMet m ds s.pairs l) n s.met)

      grown : {u v : Unfolded} → Spreading m0 m ds task at u v es left → Extends (stand_of m) (stand_of m1)
      grown {u} {v} s = emits_grows {X = Unit {0}} (λ _. Unit {0}) m m1 (looked u v s).done tt (looked u v s).does

      on : (u v : Unfolded) → Spreading m0 m ds task at u v es left → Spreading m0 m1 ds task at u v es' left'
      on u v s = let l = looked u v s in record {
        pairs = l.pairs;
        done = s.done ++ l.done;
        met = l.met;
        events = s.events ∙ ap (λ (k : List Event). s.done ++ k) l.events ∙ sym (append_assoc s.done l.done (events_met task at l.pairs));
        reads = λ c. subst (λ (k : List Entry). AreRead task c m1 ds k (outcome_of task at c u v ∷ []) (outcomes_met task at c l.pairs)) (sym more)
            (reads_on task c m1 ds es (e ∷ []) (outcome_of task at c u v ∷ []) (outcomes_met task at c s.pairs) (outcomes_met task at c l.pairs)
            (reads_stay task c m m1 ds es (outcome_of task at c u v ∷ []) (outcomes_met task at c s.pairs) (grown s) (s.reads c)) (l.reads c));
        does = emits_then {X = Unit {0}} {Y = Unit {0}} (λ _. Unit {0}) (λ _. Unit {0}) m0 m m1 s.done l.done tt (Ok tt) s.does l.does;
      }

  pub stops_on : (m m1 : BuilderModel) (es : List Entry) (s : Stop) (w : Meeting) (left now left' : List Meeting) → IsSpreading m0 m ds task at x y es left → left ≡ w ∷ now → Looks m m1 ds task at w now left' (Err s) → Spreads m0 m1 ds task at x y (Err s)
  stops_on m m1 es s w left now left' h n looks = λ u v i j.
      let r = h.spreads u v i j in
      subst (λ (k : List Event). Emits {X = Unit {0}} m0 m1 k (Err s) (λ _. Unit {0})) (sym r.events)
      (emits_then {X = Unit {0}} {Y = Unit {0}} (λ _. Unit {0}) (λ _. Unit {0}) m0 m m1 r.done (events_met task at r.pairs) tt (Err s) r.does (looks r.pairs (subst (λ (l : List Meeting). AreMet m ds r.pairs l) n r.met)))

  nothing-met : (m : BuilderModel) (ps : List (Unfolded × Unfolded)) → AreMet m ds ps [] → ps ≡ []
  nothing-met m [] h = refl
  nothing-met m (p ∷ ps) h = absurd h

  pub all_spread : (m : BuilderModel) (es : List Entry) (left : List Meeting) → left ≡ [] → IsSpreading m0 m ds task at x y es left → (u v : Unfolded) → IsArm m0 ds u x → IsArm m0 ds v y → Spread m0 m ds task at u v es
  all_spread m es left n h u v i j =
      let r = h.spreads u v i j in
      let none = nothing-met m r.pairs (subst (λ (l : List Meeting). AreMet m ds r.pairs l) n r.met) in
      record {
        reads = λ c. subst (λ (ps : List (Unfolded × Unfolded)). AreRead task c m ds es (outcome_of task at c u v ∷ []) (outcomes_met task at c ps)) none (r.reads c);
        does = subst (λ (k : List Event). Emits {X = Unit {0}} m0 m k (Ok tt) (λ _. Unit {0})) (sym (r.events ∙ ap (λ (ps : List (Unfolded × Unfolded)). r.done ++ events_met task at ps) none ∙ append-nil r.done)) r.does;
      }

pub nothing_in : {A : Type 0} (xs : List A) → length xs ≡ 0 → xs ≡ []
nothing_in [] h = refl
nothing_in (x ∷ xs) h = absurd (omega (arith, h))
