-- The commands of a script that is read with roots are rewritable.
use Rattle.std.proofs.Common.{◌≡◌, ◌∙◌, ℕ, suc, List, [], ◌∷◌, Bool, true, false, cond, Option, Some, None, refl, ap, ap₂, sym, subst}
use Rattle.std.specs.List.{AllByRecursion}
use Rattle.std.specs.Prelude.{◌||◌, ◌&&◌, not}
use Rattle.std.specs.Str.{bytes_eq}
use Rattle.script_fault.specs.declared.fault.ScriptFault.{ScriptFault}
use Rattle.script_model.specs.Reading.{Names, value}
use Rattle.script_model.specs.Script.{Command, Constant, declare, define, claim, minimize, check, ineffective, constants_of}
use Rattle.script_model.specs.Sexp.{Place, place_of}
use Rattle.script_forms.proofs.Walks.{faultless_unfolds}
use Rattle.script_roots.specs.Fresh.{left_out}
use Rattle.script_roots.specs.Laws.{IsRewritable, is_among, are_distinct}
use Rattle.script_roots.specs.Reached.{too_many}
use Rattle.script_roots.specs.Refused.{Refusal, too_large, left_out_form, refused_at, refusal, too_long}
use Rattle.script_roots.specs.Rewritten.{rewritten}
use Rattle.smt_script.specs.Levels.{Asked, checks_of}
use Rattle.sort_check.specs.Levels.{course_fault_with_roots}
use Rattle.sort_check.specs.Sorts.{Finding, Sorted, SortFault, redeclared, known, new_name, of_sort, room_for, signature, sort_fault_from, then_on, wants, taken_parameter}
use Rattle.sort_check.proofs.Known.{bytes_symm}
use Rattle.script_reading.specs.Faults.{in_each_rewritten, in_rewriting, plain_session_fault, rooted_session_fault, session_fault, unless_plain}
use Rattle.script_reading.specs.Roots.{RootedIsRewritable}
use Rattle.script_reading.specs.Session.{steps_of_text}
use Rattle.script_reading.proofs.Accepted.{IsReplaced, both_none, replaced, rooted_none}
use Rattle.script_reading.proofs.Phases.{reads, steps_read}

-- ---- names that are declared are distinct

then-none : (x y : Finding) → then_on x y ≡ None → (x ≡ None) × (y ≡ None)
then-none None y e = (refl, e)
then-none (Some x) y e = cc

or-false : (a b : Bool) → (a || b) ≡ false → (a ≡ false) × (b ≡ false)
or-false false b e = (refl, e)
or-false true b e = cc

not-known : (at : Place) (x : List ℕ) (b : Bool) → cond {A = Finding} b (Some (at, redeclared x)) None ≡ None → b ≡ false
not-known at x true e = cc
not-known at x false e = refl

abbrev IsApart : List ℕ → List Constant → Type 0
IsApart x cs = AllByRecursion (λ (c : Constant). bytes_eq c.name x ≡ false) cs

-- where no name that is new is x, no later constant has the name x
apart-later : (n : ℕ) (names : Names Sorted) (script : List Command) → sort_fault_from n names script ≡ None → (x : List ℕ) → ((y : List ℕ) → known y names ≡ false → bytes_eq y x ≡ false) →
    IsApart x (constants_of script)
apart-later n names [] e x f = tt
apart-later n names (declare at y s ∷ rest) e x f =
    let one = then-none (new_name at y names) _ e in
    let two = then-none (room_for n at) _ one.1 in (
      f y (not-known at y (known y names) one.0),
      apart-later (suc n) ((y, value (of_sort s)) ∷ names) rest two.1 x (λ z h. f z (or-false (bytes_eq z y) (known z names) h).1),
    )
apart-later n names (define at g params s body ∷ rest) e x f =
    let one = then-none (new_name at g names) _ e in
    let two = then-none (taken_parameter [] params) _ one.1 in
    let three = then-none _ (sort_fault_from n ((g, signature params s) ∷ names) rest) two.1 in
    apart-later n ((g, signature params s) ∷ names) rest three.1 x (λ z h. f z (or-false (bytes_eq z g) (known z names) h).1)
apart-later n names (claim at t ∷ rest) e x f = apart-later n names rest (then-none _ (sort_fault_from n names rest) e).1 x f
apart-later n names (minimize at t ∷ rest) e x f = apart-later n names rest (then-none _ (sort_fault_from n names rest) e).1 x f
apart-later n names (check at ∷ rest) e x f = apart-later n names rest e x f
apart-later n names (ineffective at ∷ rest) e x f = apart-later n names rest e x f

not-among : (x : List ℕ) (cs : List Constant) → IsApart x cs → is_among x cs ≡ false
not-among x [] h = refl
not-among x (c ∷ cs) h = ap (λ (b : Bool). cond b true (is_among x cs)) (bytes_symm x c.name ∙ h.0) ∙ not-among x cs h.1

distinct-from : (n : ℕ) (names : Names Sorted) (script : List Command) → sort_fault_from n names script ≡ None → are_distinct (constants_of script) ≡ true
distinct-from n names [] e = refl
distinct-from n names (declare at y s ∷ rest) e =
    let one = then-none (new_name at y names) _ e in
    let two = then-none (room_for n at) _ one.1 in
    let later = not-among y (constants_of rest) (apart-later (suc n) ((y, value (of_sort s)) ∷ names) rest two.1 y (λ z h. (or-false (bytes_eq z y) (known z names) h).0)) in
    ap₂ (λ (a b : Bool). not a && b) later (distinct-from (suc n) ((y, value (of_sort s)) ∷ names) rest two.1)
distinct-from n names (define at g params s body ∷ rest) e =
    let one = then-none (new_name at g names) _ e in
    let two = then-none (taken_parameter [] params) _ one.1 in
    distinct-from n ((g, signature params s) ∷ names) rest (then-none _ (sort_fault_from n ((g, signature params s) ∷ names) rest) two.1).1
distinct-from n names (claim at t ∷ rest) e = distinct-from n names rest (then-none _ (sort_fault_from n names rest) e).1
distinct-from n names (minimize at t ∷ rest) e = distinct-from n names rest (then-none _ (sort_fault_from n names rest) e).1
distinct-from n names (check at ∷ rest) e = distinct-from n names rest e
distinct-from n names (ineffective at ∷ rest) e = distinct-from n names rest e

-- ---- what is not refused

taken : (why : Refusal) (o : Option Place) (later : Option (Place × Refusal)) → refused_at why o later ≡ None → (o ≡ None) × (later ≡ None)
taken why None later e = (refl, e)
taken why (Some at) later e = cc

rewritable : (bound : Option ℕ) (script : List Command) → IsReplaced bound script → IsRewritable bound script
rewritable bound script r =
    let many = taken too_large (too_many script) _ r.taken in
    let left = taken left_out_form (left_out script) _ many.1 in record {
      nothing_left_out = left.0;
      distinct = distinct-from 0 [] (rewritten bound script) r.sorted;
      bounded = (faultless_unfolds bound (rewritten bound script) r.built).1;
    }

each : (bound : Option ℕ) (asked : List Asked) → in_each_rewritten bound asked ≡ None → AllByRecursion (λ (a : Asked). IsRewritable bound a.script) asked
each bound [] e = tt
each bound (a ∷ later) e =
    let both = both_none (in_rewriting bound a.script) (in_each_rewritten bound later) e in
    (rewritable bound a.script (replaced bound a.script both.0), each bound later both.1)

pub rooted_is_rewritable : RootedIsRewritable
rooted_is_rewritable bound text x e plain =
    let rooted = rooted_none x (rooted_session_fault bound text) (sym (ap (λ (o : Option ScriptFault). unless_plain o (rooted_session_fault bound text)) plain) ∙ e) in
    let r = reads course_fault_with_roots text (in_each_rewritten bound) rooted in
    subst (λ ss. AllByRecursion (λ (a : Asked). IsRewritable bound a.script) (checks_of ss)) (sym (steps_read course_fault_with_roots text r.0 r.1)) (each bound (checks_of r.0) r.2)
