-- The problems of a script's checks are a session.
use Rattle.std.proofs.Common.{◌≡◌, ℕ, List, [], ◌∷◌, Bool, true, false, Option, Some, None, refl, ap, ap₂, sym, ◌∙◌, subst}
use Rattle.std.specs.Prelude.{map}
use Rattle.poly_graph.specs.Problem.{Problem}
use Rattle.cover_model.specs.Carried.{GoesOnFrom}
use Rattle.cert_model.specs.SessionLaws.{GoOn, IsSession}
use Rattle.script_fault.specs.declared.fault.ScriptFault.{ScriptFault}
use Rattle.smt_script.specs.Levels.{Asked, checks_of}
use Rattle.sort_check.specs.Levels.{course_fault, course_fault_with_roots}
use Rattle.script_forms.specs.Walk.{building_fault}
use Rattle.script_reading.specs.Faults.{first_of, in_building, in_each_check, in_each_rewritten, in_rewriting, plain_session_fault, rooted_session_fault, session_fault, unless_plain}
use Rattle.script_reading.specs.Built.{IsBuiltOf}
use Rattle.script_reading.specs.Session.{AreBuilt, AreCarried, BeginsNext, HasSession, IfSaid, asked_by, asked_in, carried_in, rewritten_at, steps_of_text}
use Rattle.script_reading.proofs.Accepted.{both_none, built_none, replaced, rooted_none}
use Rattle.script_reading.proofs.Carried.{carried_begins}
use Rattle.script_reading.proofs.Begun.{begun_goes_on}
use Rattle.script_reading.proofs.Checked.{has_asked}
use Rattle.script_reading.proofs.Phases.{reads, steps_read}

-- ---- a script without a fault has a check, and the building of each has no fault

record IsClean (bound : Option ℕ) (bytes : List ℕ) : Type 0 where
  pub first : Asked
  pub later : List Asked
  pub checks : asked_in bound bytes ≡ first ∷ later
  pub built : in_each_check bound (asked_in bound bytes) ≡ None

each-replaced : (bound : Option ℕ) (asked : List Asked) → in_each_rewritten bound asked ≡ None → in_each_check bound (map (rewritten_at bound) asked) ≡ None
each-replaced bound [] e = refl
each-replaced bound (a ∷ later) e =
    let both = both_none (in_rewriting bound a.script) (in_each_rewritten bound later) e in
    ap₂ first_of (ap in_building (replaced bound a.script both.0).built) (each-replaced bound later both.1)

module _ (bound : Option ℕ) (bytes : List ℕ) where
  plain-clean : plain_session_fault bound bytes ≡ None → IsClean bound bytes
  plain-clean e =
      let r = reads course_fault bytes (in_each_check bound) e in
      let some = has_asked r.1.expressions r.0 r.1.commands in
      let are : asked_in bound bytes ≡ checks_of r.0 = ap (asked_by bound (steps_of_text bytes)) e ∙ ap checks_of (steps_read course_fault bytes r.0 r.1) in
      record { first = some.0; later = some.1; checks = are ∙ some.2; built = ap (in_each_check bound) are ∙ r.2 }

  rooted-clean : (x : ScriptFault) → plain_session_fault bound bytes ≡ Some x → rooted_session_fault bound bytes ≡ None → IsClean bound bytes
  rooted-clean x h e =
      let r = reads course_fault_with_roots bytes (in_each_rewritten bound) e in
      let some = has_asked r.1.expressions r.0 r.1.commands in
      let are : asked_in bound bytes ≡ map (rewritten_at bound) (checks_of r.0) =
      ap (asked_by bound (steps_of_text bytes)) h ∙ ap (λ ss. map (rewritten_at bound) (checks_of ss)) (steps_read course_fault_with_roots bytes r.0 r.1) in
      record {
        first = rewritten_at bound some.0;
        later = map (rewritten_at bound) some.1;
        checks = are ∙ ap (map (rewritten_at bound)) some.2;
        built = ap (in_each_check bound) are ∙ each-replaced bound (checks_of r.0) r.2;
      }

  is-clean : session_fault bound bytes ≡ None → IsClean bound bytes
  is-clean e = go (plain_session_fault bound bytes) refl e
    where
      go : (o : Option ScriptFault) → plain_session_fault bound bytes ≡ o → unless_plain o (rooted_session_fault bound bytes) ≡ None → IsClean bound bytes
      go None h k = plain-clean h
      go (Some x) h k = rooted-clean x h (rooted_none x (rooted_session_fault bound bytes) k)

-- ---- pair by pair

goes-on : (bound : Option ℕ) (a next : Asked) (x : Bool) (p q : Problem) → IfSaid x (BeginsNext a next) → x ≡ true → building_fault bound next.script ≡ None → IsBuiltOf bound a.script p → IsBuiltOf bound next.script q → GoesOnFrom p q
goes-on bound a next true p q h e clean b c = begun_goes_on bound a next p q h clean b c
goes-on bound a next false p q h e clean b c = cc

go-on : (bound : Option ℕ) (a : Asked) (asked : List Asked) (x : Bool) (said : List Bool) (p : Problem) (later : List (Problem × Bool)) → in_each_check bound asked ≡ None →
    IsBuiltOf bound a.script p → AreBuilt bound asked said later → AreCarried (a ∷ asked) (x ∷ said) → GoOn p later
go-on bound a [] x [] p [] e b c h = b.whole
go-on bound a (next ∷ asked) x (y ∷ said) p ((q, z) ∷ later) e b c h =
    let clean = both_none (in_building (building_fault bound next.script)) (in_each_check bound asked) e in (
      b.whole,
      λ t. goes-on bound a next y p q h.0 (sym c.1 ∙ t) (built_none (building_fault bound next.script) clean.0) b c.0,
      go-on bound next asked y said q later clean.1 c.0 c.2 h.1,
    )
go-on bound a _ x _ p _ e b c h = absurd c

first-on : (bound : Option ℕ) (a : Asked) (asked : List Asked) (said : List Bool) (problems : List (Problem × Bool)) → in_each_check bound (a ∷ asked) ≡ None →
    AreBuilt bound (a ∷ asked) said problems → AreCarried (a ∷ asked) said → IsSession problems
first-on bound a asked (x ∷ said) ((p, z) ∷ later) e c h = go-on bound a asked x said p later (both_none (in_building (building_fault bound a.script)) (in_each_check bound asked) e).1 c.0 c.2 h
first-on bound a asked _ _ e c h = absurd c

pub session_goes_on : (bound : Option ℕ) (bytes : List ℕ) (problems : List (Problem × Bool)) → HasSession bound problems bytes → IsSession problems
session_goes_on bound bytes problems s =
    let c = is-clean bound bytes s.clean in
    let said : List Bool = carried_in bound bytes in
    first-on bound c.first c.later said problems
    (subst (λ (asked : List Asked). in_each_check bound asked ≡ None) c.checks c.built)
    (subst (λ (asked : List Asked). AreBuilt bound asked said problems) c.checks s.built)
    (subst (λ (asked : List Asked). AreCarried asked said) c.checks (carried_begins bound bytes))
