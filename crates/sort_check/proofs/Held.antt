-- What is in force behind a step of the code.
use Rattle.std.proofs.Common.{◌≡◌, ℕ, ◌-◌, List, [], ◌∷◌, ◌++◌, true, false, Some, None, map, take, length, ap, sym, ◌∙◌, subst, arith}
use Rattle.std.specs.Prelude.{Result, Ok, Err, reverse}
use Rattle.std.specs.Str.{bytes_eq}
use Rattle.std.specs.Borrow.{Bor}
use Rattle.std.specs.HashMap.{UpdatesBy}
use Rattle.std.proofs.Math.Seq.{take-append_seam}
use Rattle.std.proofs.lemmas.List.{map-append, take-map, length-map, length-append}
use Rattle.script_model.specs.Reading.{Names}
use Rattle.script_model.specs.Script as script
use Rattle.script_model.specs.Sexp as sexp
use Rattle.smt_sexp.specs.declared.sexps.Sexps.{Sexps}
use Rattle.smt_script.specs.Levels.{Levels, asks_values, closed, command, opened}
use Rattle.smt_script.specs.declared.command.Command.{Command}
use Rattle.sort_check.specs.Levels.{names_of, terms_fault}
use Rattle.sort_check.specs.Scopes.{AreMarks, Follows, InForce, IsKnown, command_name, forced, seen, stays}
use Rattle.sort_check.specs.Sorts.{Sorted, sort_fault_from, sort_fault_in}
use Rattle.sort_check.specs.Steps.{FindsFault, Steps, count_after}
use Rattle.sort_check.specs.Views.{Knows}
use Rattle.sort_check.specs.declared.scope.Mark.{Mark}
use Rattle.sort_check.specs.declared.scope.Scope.{Scope}
use Rattle.sort_check.specs.declared.stop.Stop.{Stop}
use Rattle.sort_check.specs.declared.stop.Stop.TheVariants as stops
use Rattle.sort_check.proofs.Marks.{closes_mark, marked, marks_longer, name_forgotten, nothing_forgotten, uncounted, unmarked, unnamed, with_stays, without_stays}
use Rattle.sort_check.proofs.Scopes.{count_last, front, goes_on, names_last}

pub taken_last : {A : Type 0} (old new : List A) (c : A) → old ≡ new ++ c ∷ [] → new ≡ take (length old - 1) old
taken_last old new c e =
    let n : length old - 1 ≡ length new = omega (arith, ap length e, length-append new (c ∷ [])) in
    sym (ap (λ k. take k old) n ∙ ap (take (length new)) e ∙ take-append_seam new (c ∷ []))

module _ (theory : Names Sorted) (s : Sexps) (old new : Scope) where
  pub same_known : new.top ≡ old.top → new.force ≡ old.force → IsKnown theory s old → IsKnown theory s new
  same_known top force k = record { knows = rw (top, force) k.knows; sorted = rw force k.sorted }

  -- ---- levels

  pub opens_one : (l : Levels) (m : Mark) → new.top ≡ old.top → new.force ≡ old.force → new.constants ≡ old.constants → new.marks.items ≡ old.marks.items ++ m ∷ [] →
      m.commands ≡ length old.force.items → m.constants ≡ old.constants → InForce theory s old l → InForce theory s new (opened 1 l)
  opens_one l m top force constants marks n k h =
      let whole : length old.force.items ≡ length l.inner = sym (length-map old.force.items (seen s)) ∙ ap length h.force in
      record {
        known = same_known top force h.known;
        force = rw force h.force;
        count = constants ∙ h.count;
        few = rw constants h.few;
        marks = rw marks (marked m old.marks.items l.inner l.outer (n ∙ whole) (k ∙ h.count) (rw k h.few) h.marks);
      }

  pub closes_one : (l : Levels) (m : Mark) → (IsKnown theory s old → IsKnown theory s new) → new.force.items ≡ take m.commands old.force.items → new.constants ≡ m.constants →
      old.marks.items ≡ new.marks.items ++ m ∷ [] → InForce theory s old l → InForce theory s new (closed 1 l)
  closes_one l m known force constants marks h =
      let x = closes_mark m old.marks.items new.marks.items l marks h.marks in
      subst (InForce theory s new) (sym x.closed_so) (record {
        known = known h.known;
        force = ap (map (seen s)) force ∙ sym (take-map (seen s) m.commands old.force.items) ∙ ap (take m.commands) h.force;
        count = constants ∙ x.counted;
        few = rw constants x.few;
        marks = x.marks;
      })

  pub closes_none : (l : Levels) → new.top ≡ old.top → new.force ≡ old.force → new.constants ≡ old.constants → new.marks.items ≡ old.marks.items → old.marks.items ≡ [] →
      InForce theory s old l → InForce theory s new (closed 1 l)
  closes_none l top force constants marks empty h =
      subst (InForce theory s new) (sym (unmarked l.inner l.outer (subst (λ (ms : List Mark). AreMarks (reverse ms) l.inner l.outer) empty h.marks))) (record {
        known = same_known top force h.known;
        force = rw force h.force;
        count = constants ∙ h.count;
        few = rw constants h.few;
        marks = rw marks h.marks;
      })

  -- ---- the last command is forgotten

  last_forced : (c : Bor Command) → old.force.items ≡ new.force.items ++ c ∷ [] → forced s old ≡ forced s new ++ seen s c ∷ []
  last_forced c last = ap (map (seen s)) last ∙ map-append (seen s) new.force.items (c ∷ [])

  pub forgets_name : (c : Bor Command) (x : List ℕ) → old.force.items ≡ new.force.items ++ c ∷ [] → command_name (seen s c) ≡ Some x →
      UpdatesBy (λ a b. bytes_eq a.now b.now) (λ k. bytes_eq x k.now) old.top new.top None → IsKnown theory s old → IsKnown theory s new
  forgets_name c x last named updates k =
      let is = last_forced c last in
      let sorted : sort_fault_in theory (forced s new ++ seen s c ∷ []) ≡ None = ap (sort_fault_in theory) (sym is) ∙ k.sorted in
      record {
        knows = name_forgotten theory old.top new.top (forced s new) (seen s c) x named sorted (subst (λ cs. Knows old.top (names_of theory cs)) is k.knows) updates;
        sorted = front 0 theory (forced s new) (seen s c ∷ []) sorted;
      }

  pub forgets_none : (c : Bor Command) → old.force.items ≡ new.force.items ++ c ∷ [] → command_name (seen s c) ≡ None → new.top ≡ old.top → IsKnown theory s old → IsKnown theory s new
  forgets_none c last named top k =
      let is = last_forced c last in
      record {
        knows = rw top (nothing_forgotten theory old.top (forced s new) (seen s c) named (subst (λ cs. Knows old.top (names_of theory cs)) is k.knows));
        sorted = front 0 theory (forced s new) (seen s c ∷ []) (ap (sort_fault_in theory) (sym is) ∙ k.sorted);
      }

  -- ---- a command is added

  module _ (c : Bor Command) (l : Levels) (h : InForce theory s old l) where
    abbrev goes : List script.Command → Type 0
    goes rest = sort_fault_in theory (l.inner ++ rest) ≡ sort_fault_from old.constants (names_of theory l.inner) rest

    sorted_inner : sort_fault_in theory l.inner ≡ None
    sorted_inner = ap (sort_fault_in theory) (sym h.force) ∙ h.known.sorted

    pub goes_here : (rest : List script.Command) → goes rest
    goes_here rest = goes_on 0 theory l.inner rest sorted_inner ∙ ap (λ n. sort_fault_from n (names_of theory l.inner) rest) (sym h.count)

    pub knows_inner : Knows old.top (names_of theory l.inner)
    knows_inner = subst (λ cs. Knows old.top (names_of theory cs)) h.force h.known.knows

    pub fails : (e : Stop) → Steps new.top old.constants (names_of theory l.inner) (seen s c) (Err e) → Follows theory s new l (command (seen s c)) (Err e)
    fails (stops.Fault at f) step = goes_here (seen s c ∷ []) ∙ step []
    fails stops.Memory step = tt

    no_fault : (m : ℕ) → Steps new.top old.constants (names_of theory l.inner) (seen s c) (Ok m) → sort_fault_in theory (l.inner ++ seen s c ∷ []) ≡ None
    no_fault m step = goes_here (seen s c ∷ []) ∙ step.2 []

    pub adds : stays (seen s c) ≡ true → new.force.items ≡ old.force.items ++ c ∷ [] → new.marks ≡ old.marks → Steps new.top old.constants (names_of theory l.inner) (seen s c) (Ok new.constants) →
        Follows theory s new l (command (seen s c)) (Ok tt)
    adds kept force marks step =
        let is : forced s new ≡ l.inner ++ seen s c ∷ [] = ap (map (seen s)) force ∙ map-append (seen s) old.force.items (c ∷ []) ∙ ap (λ cs. cs ++ seen s c ∷ []) h.force in (
          subst (InForce theory s new) (sym (with_stays l (seen s c) kept)) (record {
            known = record {
              knows = subst (λ cs. Knows new.top (names_of theory cs)) (sym is) (subst (Knows new.top) (sym (names_last theory l.inner (seen s c))) step.0);
              sorted = ap (sort_fault_in theory) is ∙ no_fault new.constants step;
            };
            force = is;
            count = step.1 ∙ ap (count_after (seen s c)) h.count ∙ sym (count_last 0 l.inner (seen s c));
            few = step.3;
            marks = rw marks (marks_longer (reverse old.marks.items) l.inner (seen s c) l.outer h.marks);
          }),
          no_fault new.constants step,
        )

    pub skips : stays (seen s c) ≡ false → new.force ≡ old.force → new.marks ≡ old.marks → Steps new.top old.constants (names_of theory l.inner) (seen s c) (Ok new.constants) →
        Follows theory s new l (command (seen s c)) (Ok tt)
    skips kept force marks step =
        let is : forced s new ≡ l.inner = rw force h.force in (
          subst (InForce theory s new) (sym (without_stays l (seen s c) kept)) (record {
            known = record {
              knows = subst (λ cs. Knows new.top (names_of theory cs)) (sym is) (subst (Knows new.top) (unnamed (seen s c) (names_of theory l.inner) kept) step.0);
              sorted = ap (sort_fault_in theory) is ∙ sorted_inner;
            };
            force = is;
            count = step.1 ∙ uncounted (seen s c) old.constants kept ∙ h.count;
            few = step.3;
            marks = rw marks h.marks;
          }),
          no_fault new.constants step,
        )

-- ---- terms that are asked for

pub asks : (theory : Names Sorted) (s : Sexps) (scope : Scope) (l : Levels) (at : sexp.Place) (es : sexp.Sexps) (r : Result (Unit {0}) Stop) → InForce theory s scope l → FindsFault r (terms_fault (names_of theory l.inner) es) → Follows theory s scope l (asks_values at es) r
asks theory s scope l at es (Ok u) h found = (h, found)
asks theory s scope l at es (Err (stops.Fault p f)) h found = found
asks theory s scope l at es (Err stops.Memory) h found = tt
