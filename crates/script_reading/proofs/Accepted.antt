-- Bytes without a fault are the text of a script without one.
use Rattle.std.proofs.Common.{◌≡◌, ◌∙◌, ℕ, List, [], ◌∷◌, Option, Some, None, refl, ap, sym, subst}
use Rattle.std.specs.Prelude.{map}
use Rattle.std.specs.List.{AllByRecursion}
use Rattle.script_model.specs.Sexp.{Place}
use Rattle.script_model.specs.Script.{Command}
use Rattle.script_fault.specs.declared.fault.ScriptFault.{ScriptFault}
use Rattle.script_roots.specs.Refused.{Refusal, refusal}
use Rattle.script_roots.specs.Rewritten.{rewritten}
use Rattle.smt_script.specs.Levels.{Asked, checks_of, no_levels, only_script}
use Rattle.sort_check.specs.Levels.{course_fault, course_fault_with_roots}
use Rattle.sort_check.specs.SortAnswers.{finding_fault}
use Rattle.sort_check.specs.Sorts.{Finding, sort_fault}
use Rattle.sort_check.proofs.Following.{IsSorted, asked_sorted}
use Rattle.script_forms.specs.Walk.{BuildingFault, building_fault}
use Rattle.script_reading.specs.Faults.{first_of, in_building, in_checks, in_each_check, in_refusal, in_rewriting, in_rewritten, plain_script_fault, plain_session_fault, rooted_script_fault, script_fault, unless_plain}
use Rattle.script_reading.specs.Laws.{IsAccepted}
use Rattle.script_reading.specs.Session.{asked_by, asked_in, rewritten_at, steps_of_text}
use Rattle.script_reading.proofs.Phases.{last_fault, reads, steps_read}

pub built_none : (x : Option (Place × BuildingFault)) → in_building x ≡ None → x ≡ None
built_none None e = refl
built_none (Some x) e = cc

pub finding_none : (x : Finding) → finding_fault x ≡ None → x ≡ None
finding_none None e = refl
finding_none (Some x) e = cc

pub refusal_none : (x : Option (Place × Refusal)) → in_refusal x ≡ None → x ≡ None
refusal_none None e = refl
refusal_none (Some x) e = cc

pub both_none : (x y : Option ScriptFault) → first_of x y ≡ None → (x ≡ None) × (y ≡ None)
both_none None y e = (refl, e)
both_none (Some x) y e = cc

-- where both readings may have a fault
pub rooted_none : (x : ScriptFault) (o : Option ScriptFault) → unless_plain (Some x) o ≡ None → o ≡ None
rooted_none x None e = refl
rooted_none x (Some y) e = cc

-- ---- at the only check

pub only_check : (bound : Option ℕ) (asked : List Asked) → in_checks bound asked ≡ None → (a : Asked) × (asked ≡ a ∷ []) × (building_fault bound a.script ≡ None)
only_check bound [] e = cc
only_check bound (a ∷ []) e = (a, refl, built_none (building_fault bound a.script) e)
only_check bound (a ∷ b ∷ later) e = cc

pub only_rewritten : (bound : Option ℕ) (asked : List Asked) → in_rewritten bound asked ≡ None → (a : Asked) × (asked ≡ a ∷ []) × (in_rewriting bound a.script ≡ None)
only_rewritten bound [] e = cc
only_rewritten bound (a ∷ []) e = (a, refl, e)
only_rewritten bound (a ∷ b ∷ later) e = cc

-- commands whose roots and quotients are replaced
pub record IsReplaced (bound : Option ℕ) (script : List Command) : Type 0 where
  pub taken : refusal bound script ≡ None
  pub sorted : sort_fault (rewritten bound script) ≡ None
  pub built : building_fault bound (rewritten bound script) ≡ None

pub replaced : (bound : Option ℕ) (script : List Command) → in_rewriting bound script ≡ None → IsReplaced bound script
replaced bound script e =
    let first = both_none (in_refusal (refusal bound script)) _ e in
    let next = both_none (finding_fault (sort_fault (rewritten bound script))) (in_building (building_fault bound (rewritten bound script))) first.1 in record {
      taken = refusal_none (refusal bound script) first.0;
      sorted = finding_none (sort_fault (rewritten bound script)) next.0;
      built = built_none (building_fault bound (rewritten bound script)) next.1;
    }

-- ---- with one check a script is read as it is written in a session too

one_in_session : (bound : Option ℕ) (a : Asked) → in_checks bound (a ∷ []) ≡ None → in_each_check bound (a ∷ []) ≡ None
one_in_session bound a e = ap (λ (x : Option ScriptFault). first_of x None) e

one_alone : (bound : Option ℕ) (a : Asked) → in_each_check bound (a ∷ []) ≡ None → in_checks bound (a ∷ []) ≡ None
one_alone bound a e = (both_none (in_building (building_fault bound a.script)) None e).0

module _ (bound : Option ℕ) (bytes : List ℕ) where
  pub plain_in_session : plain_script_fault bound bytes ≡ None → plain_session_fault bound bytes ≡ None
  plain_in_session e =
      let r = reads course_fault bytes (in_checks bound) e in
      let one = only_check bound (checks_of r.0) r.2 in
      last_fault course_fault bytes (in_each_check bound) r.0 r.1 ∙ ap (in_each_check bound) one.1
      ∙ one_in_session bound one.0 (sym (ap (in_checks bound) one.1) ∙ r.2)

  -- a script that is read with roots is so in a session
  pub rooted_in_session : (x : ScriptFault) → plain_script_fault bound bytes ≡ Some x → rooted_script_fault bound bytes ≡ None → (y : ScriptFault) × (plain_session_fault bound bytes ≡ Some y)
  rooted_in_session x h e = go (plain_session_fault bound bytes) refl
    where
      go : (o : Option ScriptFault) → plain_session_fault bound bytes ≡ o → (y : ScriptFault) × (plain_session_fault bound bytes ≡ Some y)
      go (Some y) k = (y, k)
      go None k =
          let r = reads course_fault_with_roots bytes (in_rewritten bound) e in
          let one = only_rewritten bound (checks_of r.0) r.2 in
          let p = reads course_fault bytes (in_each_check bound) k in
          let same : p.0 ≡ r.0 = sym (steps_read course_fault bytes p.0 p.1) ∙ steps_read course_fault_with_roots bytes r.0 r.1 in
          let alone : checks_of p.0 ≡ one.0 ∷ [] = ap checks_of same ∙ one.1 in
          let none : plain_script_fault bound bytes ≡ None =
          last_fault course_fault bytes (in_checks bound) p.0 p.1 ∙ ap (in_checks bound) alone ∙ one_alone bound one.0 (sym (ap (in_each_check bound) alone) ∙ p.2) in
          let never : None ≡ Some x = sym none ∙ h in cc

  plain-accepted : plain_script_fault bound bytes ≡ None → (script : List Command) × IsAccepted bound bytes script
  plain-accepted e =
      let r = reads course_fault bytes (in_checks bound) e in
      let one = only_check bound (checks_of r.0) r.2 in
      let asked : asked_in bound bytes ≡ one.0 ∷ [] =
      ap (asked_by bound (steps_of_text bytes)) (plain_in_session e) ∙ ap checks_of (steps_read course_fault bytes r.0 r.1) ∙ one.1 in (
        one.0.script,
        record {
          commands = ap only_script asked;
          sorted = (subst (AllByRecursion IsSorted) one.1 (asked_sorted no_levels r.0 r.1.sorted)).0;
          built = one.2;
        },
      )

  rooted-accepted : (x : ScriptFault) → plain_script_fault bound bytes ≡ Some x → rooted_script_fault bound bytes ≡ None → (script : List Command) × IsAccepted bound bytes script
  rooted-accepted x h e =
      let r = reads course_fault_with_roots bytes (in_rewritten bound) e in
      let one = only_rewritten bound (checks_of r.0) r.2 in
      let is = replaced bound one.0.script one.2 in
      let asked = ap (asked_by bound (steps_of_text bytes)) (rooted_in_session x h e).1
      ∙ ap (λ ss. asked_by bound ss (Some (rooted_in_session x h e).0)) (steps_read course_fault_with_roots bytes r.0 r.1)
      ∙ ap (map (rewritten_at bound)) one.1 in (
        rewritten bound one.0.script,
        record { commands = ap only_script asked; sorted = is.sorted; built = is.built },
      )

  pub faultless_accepted : script_fault bound bytes ≡ None → (script : List Command) × IsAccepted bound bytes script
  faultless_accepted e = go (plain_script_fault bound bytes) refl e
    where
      go : (o : Option ScriptFault) → plain_script_fault bound bytes ≡ o → unless_plain o (rooted_script_fault bound bytes) ≡ None → (script : List Command) × IsAccepted bound bytes script
      go None h k = plain-accepted h
      go (Some x) h k = rooted-accepted x h (rooted_none x (rooted_script_fault bound bytes) k)
