-- From a certificate of a script with a goal on its port to the end of a run.
use Rattle.std.proofs.Common.{◌≡◌, ◌<◌, ◌≤◌, ◌++◌, ℕ, List, [], ◌∷◌, Option, Some, None, Result, Ok, Err, IfSome, length, take, drop, ap, sym, ◌∙◌, subst, inl, inr, take-append-drop}
use Rattle.std.specs.Prelude.{Bool, map, slice_get}
use Rattle.std.specs.Option.{option_map}
use Rattle.std.proofs.lemmas.Option.{none-some, same_Some}
use Rattle.dyadic.specs.Rounding.{Dyadic, Ext}
use Rattle.dyadic.specs.Views.{ext_of}
use Rattle.desk.specs.declared.desk.Port.TheVariants.{CertIn}
use Rattle.desk.specs.Sight.{Sight, ReadStep, with_start}
use Rattle.desk.specs.Texts.{ReadsSome}
use Rattle.desk.proofs.Reading.{ReadSoFar, read_start, read_step, read_end}
use Rattle.interval_model.specs.Space.{Space}
use Rattle.poly_graph.specs.Problem.{Problem}
use Rattle.poly_graph.specs.ProblemViews.{Parts, problem_of}
use Rattle.cert_read.specs.LineText.{lower_text}
use Rattle.cert_model.specs.Accepted.{accepted, refused}
use Rattle.cert_model.specs.AnswerText.{upper_line, text_line, verdict_text}
use Rattle.cert_model.specs.Least.{GoalVerdict, plain, least, goal_verdict, upper_at}
use Rattle.goal_limit.specs.Limits.{has_room}
use Rattle.cert_check.specs.declared.checker.Verdict.{Verdict}
use Rattle.cert_check.specs.declared.fault.CertFault.{CertFault}
use Rattle.cert_check.specs.Courses.{IsRefusal}
use Rattle.cert_check.specs.Faults.{stop_of}
use Rattle.cert_check.specs.Feeding.{IsRefusalOrMemory}
use Rattle.cert_least.specs.declared.feed.GoalFeed.{GoalFeed}
use Rattle.cert_least.specs.declared.verdict.GoalVerdict as told
use Rattle.cert_least.specs.declared.verdict.GoalVerdict.TheVariants as tells
use Rattle.cert_least.specs.declared.verdict.Least as bounds
use Rattle.cert_least.specs.Aims.{Aim}
use Rattle.cert_least.specs.Checked.{aim_at}
use Rattle.cert_least.specs.Courses.{IsLeast, IsValue, IsVerdict}
use Rattle.cert_least.specs.Feeding.{HasTaken, HasTakenFor, IsVerdictOrMemory}
use Rattle.check_run.specs.declared.check.Unconfirmed.TheVariants.{Failed}
use Rattle.check_run.specs.declared.status.Status.{Status}
use Rattle.check_run.specs.declared.status.Status.TheVariants.{Answered, CertRefused}
use Rattle.check_run.specs.Check.{EndsOnCheck, IsConfirmation, IsGoalOf}
use Rattle.check_run.specs.Goals.{CanCheckGoal, EndsOnGoal, IsGoalConfirmation, IsGoalCourseOf, IsGoalVerdictFor, IsGoalVerdictOnPort, bounds_text, told_upper}
use Rattle.check_run.specs.Stops.{stop_text}
use Rattle.check_run.specs.Course.{Course, says, behind, Ends, RunEnds, on_course}
use Rattle.check_run.specs.Can.{CanCheck, goal_course}
use Rattle.check_run.proofs.Ending.{run_behind, over, widen, after_cert_in}
use Rattle.check_run.proofs.Verdicts.{none_left_of}

-- ---- the port, read by pieces

-- some bytes of the port were read and taken
pub record GoalCheckedSoFar (p : Parts) (g : ℕ) (bound : Option ℕ) (f : GoalFeed) (old now : Sight) : Type 0 where
  pub bytes : List ℕ
  pub read : ReadSoFar CertIn bytes old now
  pub has : HasTaken p g bound bytes f

-- nothing is told of a certificate whose port failed
pub goal_check_fails : (p : Parts) (g : ℕ) (bound : Option ℕ) (old : Sight) → IsGoalVerdictFor p g bound old (Err Failed)
goal_check_fails p g bound old = told-of old.cert_in where
  told-of : (o : Option (List ℕ)) → IfSome o (λ (cert : List ℕ). IsGoalVerdictOnPort (aim_at p g bound) (goal_verdict (problem_of p) g (has_room (problem_of p)) bound cert) (Err Failed))
  told-of None = tt
  told-of (Some cert) = tt

pub goal_check_start : (p : Parts) (g : ℕ) (bound : Option ℕ) (f : GoalFeed) (d : Sight) → HasTaken p g bound [] f → GoalCheckedSoFar p g bound f d d
goal_check_start p g bound f d has = record { bytes = []; read = read_start CertIn d; has = has }

module _ (p : Parts) (g : ℕ) (bound : Option ℕ) (f : GoalFeed) (n : ℕ) (buffer : List ℕ) (old now new : Sight) where
  pub goal_check_step : (more : GoalFeed) → GoalCheckedSoFar p g bound f old now → ReadStep CertIn n buffer now new
      → ((a : Aim) (bs : List ℕ) → HasTakenFor a bs f → HasTakenFor a (bs ++ take n buffer) more) → GoalCheckedSoFar p g bound more old new
  goal_check_step more so_far step goes = record {
    bytes = so_far.bytes ++ take n buffer;
    read = read_step CertIn n so_far.bytes buffer old now new so_far.read step;
    has = goes (aim_at p g bound) so_far.bytes so_far.has;
  }

  pub goal_check_end : (r : Result told.GoalVerdict CertFault) → n ≡ 0 → 0 < length buffer → GoalCheckedSoFar p g bound f old now → ReadStep CertIn n buffer now new
      → ((q : Parts) (h : ℕ) (b : Option ℕ) (bs : List ℕ) → HasTaken q h b bs f → IsVerdictOrMemory (aim_at q h b) (goal_verdict (problem_of q) h (has_room (problem_of q)) b bs) r) → IfSome old.cert_in (λ cert. IsVerdictOrMemory (aim_at p g bound) (goal_verdict (problem_of p) g (has_room (problem_of p)) bound cert) r)
  goal_check_end r none room so_far step tells =
      let all = read_end CertIn n so_far.bytes buffer old now new none room so_far.read step in
      over (λ (held : List ℕ). so_far.bytes ≡ held) (λ (cert : List ℕ). IsVerdictOrMemory (aim_at p g bound) (goal_verdict (problem_of p) g (has_room (problem_of p)) bound cert) r) old.cert_in all.all
      (λ held e. subst (λ (bs : List ℕ). IsVerdictOrMemory (aim_at p g bound) (goal_verdict (problem_of p) g (has_room (problem_of p)) bound bs) r) e (tells p g bound so_far.bytes so_far.has))

  pub goal_check_whole : n ≡ 0 → 0 < length buffer → GoalCheckedSoFar p g bound f old now → ReadStep CertIn n buffer now new → new.cert_in ≡ option_map (λ (cert : List ℕ). []) old.cert_in
  goal_check_whole none room so_far step =
      let all = read_end CertIn n so_far.bytes buffer old now new none room so_far.read step in
      ap (λ (d : Sight). d.cert_in) all.rest ∙ none_left_of so_far.bytes old.cert_in all.all

  pub goal_check_fault : (x : CertFault) → GoalCheckedSoFar p g bound f old now → ReadStep CertIn n buffer now new
      → ((a : Aim) (bs : List ℕ) → HasTakenFor a bs f → (rest : List ℕ) → IsRefusalOrMemory (goal_verdict (problem_of a.problem) a.goal (has_room (problem_of a.problem)) a.bound ((bs ++ take n buffer) ++ rest)) x)
      → IfSome old.cert_in (λ cert. IsRefusalOrMemory (goal_verdict (problem_of p) g (has_room (problem_of p)) bound cert) x)
  goal_check_fault x so_far step tells =
      let bytes : List ℕ = so_far.bytes ++ take n buffer in
      let front = (read_step CertIn n so_far.bytes buffer old now new so_far.read step).front in
      over (λ (held : List ℕ). (length bytes ≤ length held) × (bytes ≡ take (length bytes) held)) (λ (cert : List ℕ). IsRefusalOrMemory (goal_verdict (problem_of p) g (has_room (problem_of p)) bound cert) x) old.cert_in front
      (λ held e.
      let whole : bytes ++ drop (length bytes) held ≡ held = ap (λ (l : List ℕ). l ++ drop (length bytes) held) e.1 ∙ take-append-drop (length bytes) held in
      subst (λ (bs : List ℕ). IsRefusalOrMemory (goal_verdict (problem_of p) g (has_room (problem_of p)) bound bs) x) whole (tells (aim_at p g bound) so_far.bytes so_far.has (drop (length bytes) held)))

-- ---- the texts of verdicts

upper-told : (p : Problem) (g : ℕ) (point : Option Space) (upper : Option Ext) → upper ≡ option_map (upper_at p g) point → told_upper upper ≡ upper_line p g point
upper-told p g None upper e = ap told_upper e
upper-told p g (Some space) upper e = ap told_upper e

pub shown_least : (text : List ℕ) (b : bounds.Least) (w : told.GoalVerdict) → w ≡ tells.Least b → text ≡ bounds_text b → IsGoalConfirmation w text
shown_least text b w is e a s (plain v) h =
    let P : told.GoalVerdict → Type 0 = λ x. IsValue a s (plain v) x in let none : P (tells.Least b) = subst P is h in absurd none
shown_least text b w is e a s (least x) h =
    let P : told.GoalVerdict → Type 0 = λ y. IsValue a s (least x) y in let so : IsLeast a s x b = subst P is h in
    e ∙ ap (λ (l : Option Dyadic). text_line (Rattle.std.specs.Prelude.codes "confirmed lower " ++ lower_text l) ++ told_upper (option_map ext_of b.upper)) so.lower
    ∙ ap (λ (t : List ℕ). text_line (Rattle.std.specs.Prelude.codes "confirmed lower " ++ lower_text x.lower) ++ t) (upper-told (problem_of a.problem) a.goal x.point (option_map ext_of b.upper) so.upper)

pub shown_check : (text : List ℕ) (v : Verdict) (w : told.GoalVerdict) → w ≡ tells.Check v → IsConfirmation v text → IsGoalConfirmation w text
shown_check text v w is e a s (plain x) h =
    let P : told.GoalVerdict → Type 0 = λ y. IsValue a s (plain x) y in e s x (subst P is h)
shown_check text v w is e a s (least x) h =
    let P : told.GoalVerdict → Type 0 = λ y. IsValue a s (least x) y in let none : P (tells.Check v) = subst P is h in absurd none

-- ---- the course of a verdict

pub goal_confirmed : (w : told.GoalVerdict) (text : List ℕ) → IsGoalConfirmation w text → (a : Aim) (v : GoalVerdict) → IsVerdict a v (Ok w) → goal_course (problem_of a.problem) a.goal v ≡ says Answered text
goal_confirmed w text is a (accepted s v) h = ap (λ (t : List ℕ). says Answered t) (sym (is a s v h))
goal_confirmed w text is a (refused f n) h = absurd h

goal-refused-text : (fault : CertFault) (text : List ℕ) (p : Problem) (g : ℕ) (v : GoalVerdict) → stop_text (stop_of fault) ≡ Some text → IsRefusal v fault → goal_course p g v ≡ says CertRefused text
goal-refused-text fault text p g (accepted s v) e h = absurd h
goal-refused-text fault text p g (refused f n) e h =
    let same : ◌≡◌ {A = Option (List ℕ)} (Some (verdict_text (refused f n))) (Some text) = ap stop_text h ∙ e in
    let is : verdict_text (refused f n) ≡ text = cc in ap (λ (t : List ℕ). says CertRefused t) is

pub goal_fault_shown : (fault : CertFault) (text : List ℕ) → stop_text (stop_of fault) ≡ Some text → (p : Problem) (g : ℕ) (v : GoalVerdict) → IsRefusalOrMemory v fault → goal_course p g v ≡ says CertRefused text
goal_fault_shown fault text e p g v (inl m) = absurd (none-some text (sym (ap (λ (f : CertFault). stop_text (stop_of f)) m) ∙ e))
goal_fault_shown fault text e p g v (inr h) = goal-refused-text fault text p g v e h

-- the answer that tells a verdict
pub goal_concluded : (p : Problem) (g : ℕ) (v : GoalVerdict) (status : Status) (text bytes : List ℕ) (old new : Sight) (result : Status) → goal_course p g v ≡ says status text → bytes ≡ text
    → Ends (says status bytes) old new result → RunEnds (IsGoalCourseOf p g v) [] old new result
goal_concluded p g v status text bytes old new result e e' ends =
    on_course (says status text) (sym e) (subst (λ (t : List ℕ). Ends (says status t) old new result) e' ends)

-- ---- the ends of a run behind its problem

module _ (p : Parts) (g : ℕ) (bound : Option ℕ) (name : List ℕ) where
  pub goal_checked : (r : Result told.GoalVerdict CertFault) (old first mid new : Sight) (status : Status) → first ≡ with_start CertIn name old → ReadsSome CertIn first mid
      → IfSome first.cert_in (λ cert. IsVerdictOrMemory (aim_at p g bound) (goal_verdict (problem_of p) g (has_room (problem_of p)) bound cert) r) → ((a : Aim) (v : GoalVerdict) → IsVerdictOrMemory a v r → RunEnds (IsGoalCourseOf (problem_of a.problem) a.goal v) [] mid new status)
      → IfSome old.cert_in (λ cert. RunEnds (CanCheckGoal (problem_of p) g (has_room (problem_of p)) bound name cert) ((CertIn, name) ∷ []) old new status)
  goal_checked r old first mid new status started some tells ends =
      over (λ (cert : List ℕ). IsVerdictOrMemory (aim_at p g bound) (goal_verdict (problem_of p) g (has_room (problem_of p)) bound cert) r) (λ (cert : List ℕ). RunEnds (CanCheckGoal (problem_of p) g (has_room (problem_of p)) bound name cert) ((CertIn, name) ∷ []) old new status) old.cert_in
      (subst (λ (o : Option (List ℕ)). IfSome o (λ cert. IsVerdictOrMemory (aim_at p g bound) (goal_verdict (problem_of p) g (has_room (problem_of p)) bound cert) r)) (ap (λ (d : Sight). d.cert_in) started) tells)
      (λ cert h.
      run_behind (IsGoalCourseOf (problem_of p) g (goal_verdict (problem_of p) g (has_room (problem_of p)) bound cert)) (CanCheckGoal (problem_of p) g (has_room (problem_of p)) bound name cert) (CertIn, name) [] old mid new status (after_cert_in name old first mid started some)
      (λ tail can. ap (λ (c : Course). behind ((CertIn, name) ∷ []) c) can) (ends (aim_at p g bound) (goal_verdict (problem_of p) g (has_room (problem_of p)) bound cert) h))

-- a script with one check
only-told : (q : Parts) (e : Bool) (g : ℕ) (bound : Option ℕ) (name : List ℕ) (old new : Sight) (status : Status) → EndsOnGoal q g bound name old new status → EndsOnCheck (Some g) ((q, e) ∷ []) bound name old new status
only-told q e g bound name old new status ends =
    let some : List ℕ → Course → Type 0 = λ cert. CanCheckGoal (problem_of q) g (has_room (problem_of q)) bound name cert in
    let cant : List ℕ → Course → Type 0 = λ cert. CanCheck (Some g) ((problem_of q, e) ∷ []) bound name cert in
    over (λ (cert : List ℕ). RunEnds (some cert) ((CertIn, name) ∷ []) old new status) (λ (cert : List ℕ). RunEnds (cant cert) ((CertIn, name) ∷ []) old new status) old.cert_in ends
    (λ cert h. widen (some cert) (cant cert) ((CertIn, name) ∷ []) old new status (λ course can. can) h)

-- the problem of the only check is the first
pub goal_ends : (session : List (Parts × Bool)) (goal : Option ℕ) (g : ℕ) (p : Parts) → goal ≡ Some g → IsGoalOf goal session → slice_get (map (λ (q : Parts × Bool). q.0) session) 0 ≡ Some p
    → (bound : Option ℕ) (name : List ℕ) (old new : Sight) (status : Status) → EndsOnGoal p g bound name old new status → EndsOnCheck goal session bound name old new status
goal_ends session goal g p some is at bound name old new status ends =
    subst (λ (o : Option ℕ). EndsOnCheck o session bound name old new status) (sym some) (of-session session (subst (λ (o : Option ℕ). IsGoalOf o session) some is) at) where
      of-session : (session : List (Parts × Bool)) → IsGoalOf (Some g) session → slice_get (map (λ (q : Parts × Bool). q.0) session) 0 ≡ Some p → EndsOnCheck (Some g) session bound name old new status
      of-session [] h at = absurd h
      of-session ((q, e) ∷ []) h at = only-told q e g bound name old new status (subst (λ (r : Parts). EndsOnGoal r g bound name old new status) (sym (same_Some q p at)) ends)
      of-session (q ∷ r ∷ rest) h at = absurd h
