-- From a certificate on its port to the end of a run.
use Rattle.std.proofs.Common.{◌≡◌, ◌<◌, ◌≤◌, ◌++◌, ℕ, List, [], ◌∷◌, Bool, Option, Some, None, Result, Ok, Err, IfSome, length, map, take, drop, refl, ap, sym, ◌∙◌, subst, inl, inr, arith, take-append-drop, append_assoc, append-nil}
use Rattle.std.specs.Prelude.{Vec}
use Rattle.std.specs.Option.{option_map}
use Rattle.std.specs.declared.alloc.Global.{Global}
use Rattle.std.proofs.Math.ListN.{drop_of_length-le}
use Rattle.std.proofs.lemmas.Option.{none-some}
use Rattle.desk.specs.declared.desk.Port.TheVariants.{CertIn}
use Rattle.desk.specs.Sight.{Sight, ReadStep, FailsOn, SideFailed, with_start}
use Rattle.desk.specs.Texts.{ReadsSome, ReadsThenFails}
use Rattle.desk.proofs.Reading.{ReadSoFar, read_start, read_step, read_end}
use Rattle.poly_graph.specs.ProblemViews.{Parts}
use Rattle.problem_session.specs.Session.{problems_of}
use Rattle.interval_model.specs.Space.{Space}
use Rattle.cover_model.specs.State.{Loosenings}
use Rattle.cert_model.specs.Due.{Standing, Value, at_point, left_open}
use Rattle.cert_model.specs.Accepted.{accepted, refused}
use Rattle.cert_model.specs.AnswerText.{check_text, verdict_text}
use Rattle.cert_model.specs.Session.{SessionVerdict, session_verdict}
use Rattle.cert_check.specs.declared.checker.Verdict as told
use Rattle.cert_check.specs.declared.checker.Verdict.TheVariants.{Unsat, Point, Left}
use Rattle.cert_check.specs.declared.fault.CertFault.{CertFault}
use Rattle.cert_check.specs.Courses.{IsRefusal, verdict_of}
use Rattle.cert_check.specs.Faults.{stop_of}
use Rattle.check_run.specs.Stops.{stop_text}
use Rattle.cert_check.specs.declared.feed.Feed.{Feed}
use Rattle.check_run.specs.declared.status.Status.{Status}
use Rattle.check_run.specs.declared.status.Status.TheVariants.{Answered, CertRefused, InFailed, NoMemory}
use Rattle.cert_check.specs.Feeding.{IsRefusalOrMemory, IsSessionVerdictOrMemory}
use Rattle.cert_check.specs.Sessions.{HasTakenSession, IsSessionVerdict}
use Rattle.check_run.specs.declared.check.Unconfirmed.TheVariants.{Failed}
use Rattle.check_run.specs.Check.{AreConfirmations, IsConfirmation, IsCourseOf, IsRefusalOf, IsRefused, IsVerdictFor, IsVerdictOnPort}
use Rattle.check_run.specs.Course.{Course, says, behind, Ends, RunEnds, on_course, in_failed, no_memory_yet}
use Rattle.check_run.specs.Can.{CanCheck, check_texts, verdict_course}
use Rattle.check_run.proofs.Ending.{appended-nil, run_behind, all_of, over, after_cert_in}

-- ---- the port, read by pieces

-- some bytes of the port were read and taken
pub record CheckedSoFar (session : List (Parts × Bool)) (bound : Option ℕ) (f : Feed) (old now : Sight) : Type 0 where
  pub bytes : List ℕ
  pub read : ReadSoFar CertIn bytes old now
  pub has : HasTakenSession session bound bytes f

-- nothing is told of a certificate whose port failed
pub check_fails : (session : List (Parts × Bool)) (bound : Option ℕ) (old : Sight) → IsVerdictFor session bound old (Err Failed)
check_fails session bound old = told old.cert_in where
  told : (o : Option (List ℕ)) → IfSome o (λ (cert : List ℕ). IsVerdictOnPort (session_verdict (problems_of session) bound cert) (Err Failed))
  told None = tt
  told (Some cert) = tt

pub check_start : (session : List (Parts × Bool)) (bound : Option ℕ) (f : Feed) (d : Sight) → HasTakenSession session bound [] f → CheckedSoFar session bound f d d
check_start session bound f d has = record { bytes = []; read = read_start CertIn d; has = has }

-- where all that the port held was taken, it holds nothing more
pub none_left_of : (bytes : List ℕ) (o : Option (List ℕ)) → IfSome o (λ held. bytes ≡ held) → option_map (λ held. drop (length bytes) held) o ≡ option_map (λ (held : List ℕ). []) o
none_left_of bytes None h = refl
none_left_of bytes (Some held) h = ap (λ (l : List ℕ). Some l) (drop_of_length-le held (omega (arith, ap length h)))

module _ (session : List (Parts × Bool)) (bound : Option ℕ) (f : Feed) (n : ℕ) (buffer : List ℕ) (old now new : Sight) where
  pub check_step : (more : Feed) → CheckedSoFar session bound f old now → ReadStep CertIn n buffer now new
      → ((q : List (Parts × Bool)) (b : Option ℕ) (bs : List ℕ) → HasTakenSession q b bs f → HasTakenSession q b (bs ++ take n buffer) more) → CheckedSoFar session bound more old new
  check_step more so_far step goes = record {
    bytes = so_far.bytes ++ take n buffer;
    read = read_step CertIn n so_far.bytes buffer old now new so_far.read step;
    has = goes session bound so_far.bytes so_far.has;
  }

  pub check_end : (r : Result (Vec told.Verdict Global) CertFault) → n ≡ 0 → 0 < length buffer → CheckedSoFar session bound f old now → ReadStep CertIn n buffer now new
      → ((q : List (Parts × Bool)) (b : Option ℕ) (bs : List ℕ) → HasTakenSession q b bs f → IsSessionVerdictOrMemory (session_verdict (problems_of q) b bs) r) → IfSome old.cert_in (λ cert. IsSessionVerdictOrMemory (session_verdict (problems_of session) bound cert) r)
  check_end r none room so_far step tells =
      let all = read_end CertIn n so_far.bytes buffer old now new none room so_far.read step in
      over (λ (held : List ℕ). so_far.bytes ≡ held) (λ (cert : List ℕ). IsSessionVerdictOrMemory (session_verdict (problems_of session) bound cert) r) old.cert_in all.all
      (λ held e. subst (λ (bs : List ℕ). IsSessionVerdictOrMemory (session_verdict (problems_of session) bound bs) r) e (tells session bound so_far.bytes so_far.has))

  pub check_whole : n ≡ 0 → 0 < length buffer → CheckedSoFar session bound f old now → ReadStep CertIn n buffer now new → new.cert_in ≡ option_map (λ (cert : List ℕ). []) old.cert_in
  check_whole none room so_far step =
      let all = read_end CertIn n so_far.bytes buffer old now new none room so_far.read step in
      ap (λ (d : Sight). d.cert_in) all.rest ∙ none_left_of so_far.bytes old.cert_in all.all

  pub check_fault : (x : CertFault) → CheckedSoFar session bound f old now → ReadStep CertIn n buffer now new
      → ((q : List (Parts × Bool)) (b : Option ℕ) (bs : List ℕ) → HasTakenSession q b bs f → (rest : List ℕ) → IsRefusalOrMemory (session_verdict (problems_of q) b ((bs ++ take n buffer) ++ rest)) x)
      → IfSome old.cert_in (λ cert. IsRefusalOrMemory (session_verdict (problems_of session) bound cert) x)
  check_fault x so_far step tells =
      let bytes : List ℕ = so_far.bytes ++ take n buffer in
      let front = (read_step CertIn n so_far.bytes buffer old now new so_far.read step).front in
      over (λ (held : List ℕ). (length bytes ≤ length held) × (bytes ≡ take (length bytes) held)) (λ (cert : List ℕ). IsRefusalOrMemory (session_verdict (problems_of session) bound cert) x) old.cert_in front
      (λ held e.
      let whole : bytes ++ drop (length bytes) held ≡ held = ap (λ (l : List ℕ). l ++ drop (length bytes) held) e.1 ∙ take-append-drop (length bytes) held in
      subst (λ (bs : List ℕ). IsRefusalOrMemory (session_verdict (problems_of session) bound bs) x) whole (tells session bound so_far.bytes so_far.has (drop (length bytes) held)))

-- ---- the texts of verdicts

pub shown_unsat : (text : List ℕ) (m : ℕ) (w : told.Verdict) → w ≡ Unsat m → ((s : Loosenings) → s.margin_bits ≡ m → text ≡ check_text s (left_open [])) → IsConfirmation w text
shown_unsat text m w is e s (left_open []) h =
    let same : ◌≡◌ {A = told.Verdict} (Unsat m) (Unsat s.margin_bits) = sym is ∙ h in
    let bits : s.margin_bits ≡ m = cc in e s bits
shown_unsat text m w is e s (left_open (x ∷ xs)) h = let same : ◌≡◌ {A = told.Verdict} (Unsat m) (Left (length (x ∷ xs))) = sym is ∙ h in cc
shown_unsat text m w is e s (at_point space) h = let same : ◌≡◌ {A = told.Verdict} (Unsat m) (Point s.delta_bits) = sym is ∙ h in cc

pub shown_point : (text : List ℕ) (m : ℕ) (w : told.Verdict) → w ≡ Point m → ((s : Loosenings) → s.delta_bits ≡ m → (point : Space) → text ≡ check_text s (at_point point)) → IsConfirmation w text
shown_point text m w is e s (left_open []) h = let same : ◌≡◌ {A = told.Verdict} (Point m) (Unsat s.margin_bits) = sym is ∙ h in cc
shown_point text m w is e s (left_open (x ∷ xs)) h = let same : ◌≡◌ {A = told.Verdict} (Point m) (Left (length (x ∷ xs))) = sym is ∙ h in cc
shown_point text m w is e s (at_point space) h =
    let same : ◌≡◌ {A = told.Verdict} (Point m) (Point s.delta_bits) = sym is ∙ h in
    let bits : s.delta_bits ≡ m = cc in e s bits space

pub shown_left : (text : List ℕ) (m : ℕ) (w : told.Verdict) → w ≡ Left m → ((s : Loosenings) (first : Standing) (rest : List Standing) → length (first ∷ rest) ≡ m → text ≡ check_text s (left_open (first ∷ rest))) →
    IsConfirmation w text
shown_left text m w is e s (left_open []) h = let same : ◌≡◌ {A = told.Verdict} (Left m) (Unsat s.margin_bits) = sym is ∙ h in cc
shown_left text m w is e s (left_open (x ∷ xs)) h =
    let same : ◌≡◌ {A = told.Verdict} (Left m) (Left (length (x ∷ xs))) = sym is ∙ h in
    let count : length (x ∷ xs) ≡ m = cc in e s x xs count
shown_left text m w is e s (at_point space) h = let same : ◌≡◌ {A = told.Verdict} (Left m) (Point s.delta_bits) = sym is ∙ h in cc

-- ---- one text after the other

-- of these verdicts those are left, and the texts of the others stand
pub record ShownSoFar (ws left : List told.Verdict) (text : List ℕ) : Type 0 where
  pub shown : (s : Loosenings) (values : List Value) → ws ≡ map (verdict_of s) values → (later : List Value) × (left ≡ map (verdict_of s) later) × (check_texts s values ≡ text ++ check_texts s later)

pub none_shown : (ws : List told.Verdict) (text : List ℕ) → text ≡ [] → ShownSoFar ws ws text
none_shown ws text e = record { shown = λ s values h. (values, h, ap (λ (t : List ℕ). t ++ check_texts s values) (sym e)) }

one-more : (s : Loosenings) (w : told.Verdict) (left : List told.Verdict) (values : List Value) → w ∷ left ≡ map (verdict_of s) values → (v : Value) × (later : List Value) × (values ≡ v ∷ later) × (w ≡ verdict_of s v) × (left ≡ map (verdict_of s) later)
one-more s w left [] e = cc
one-more s w left (v ∷ later) e = let here : w ≡ verdict_of s v = cc in let behind : left ≡ map (verdict_of s) later = cc in (v, later, refl, here, behind)

pub one_shown : (ws : List told.Verdict) (w : told.Verdict) (left : List told.Verdict) (text one all : List ℕ) → ShownSoFar ws (w ∷ left) text → IsConfirmation w one → all ≡ text ++ one → ShownSoFar ws left all
one_shown ws w left text one all so_far is e = record {
  shown = λ s values h.
      let x = so_far.shown s values h in
      let y = one-more s w left x.0 x.1 in (
        y.1,
        y.4,
        x.2 ∙ ap (λ (vs : List Value). text ++ check_texts s vs) y.2 ∙ ap (λ (t : List ℕ). text ++ (t ++ check_texts s y.1)) (sym (is s y.0 y.3)) ∙ sym (append_assoc text one (check_texts s y.1))
            ∙ ap (λ (t : List ℕ). t ++ check_texts s y.1) (sym e),
      );
}

none-left : (s : Loosenings) (values : List Value) → [] ≡ map (verdict_of s) values → check_texts s values ≡ []
none-left s [] e = refl
none-left s (v ∷ values) e = cc

pub all_shown : (ws : List told.Verdict) (text : List ℕ) → ShownSoFar ws [] text → AreConfirmations ws text
all_shown ws text so_far s values h =
    let x = so_far.shown s values h in
    sym (x.2 ∙ ap (λ (t : List ℕ). text ++ t) (none-left s x.0 x.1) ∙ append-nil text)

-- ---- the course of a verdict

pub confirmed_course : (ws : Vec told.Verdict Global) (text : List ℕ) → AreConfirmations ws.items text → (v : SessionVerdict) → IsSessionVerdict v (Ok ws) → verdict_course v ≡ says Answered text
confirmed_course ws text is (accepted s values) h = ap (λ (t : List ℕ). says Answered t) (sym (is s values h))
confirmed_course ws text is (refused f n) h = absurd h

refused-text : (fault : CertFault) (text : List ℕ) (v : SessionVerdict) → stop_text (stop_of fault) ≡ Some text → IsRefusal v fault → verdict_course v ≡ says CertRefused text
refused-text fault text (accepted s values) e h = absurd h
refused-text fault text (refused f n) e h =
    let same : ◌≡◌ {A = Option (List ℕ)} (Some (verdict_text (refused f n))) (Some text) = ap stop_text h ∙ e in
    let is : verdict_text (refused f n) ≡ text = cc in ap (λ (t : List ℕ). says CertRefused t) is

pub shown_fault : (fault : CertFault) (text : List ℕ) → stop_text (stop_of fault) ≡ Some text → (v : SessionVerdict) → IsRefusalOrMemory v fault → verdict_course v ≡ says CertRefused text
shown_fault fault text e v (inl m) = absurd (none-some text (sym (ap (λ (f : CertFault). stop_text (stop_of f)) m) ∙ e))
shown_fault fault text e v (inr h) = refused-text fault text v e h

refused-only : (fault : CertFault) (text : List ℕ) (v : SessionVerdict) → stop_text (stop_of fault) ≡ Some text → IsRefusalOrMemory v fault → IsRefused v
refused-only fault text (accepted s values) e (inl m) = absurd (none-some text (sym (ap (λ (f : CertFault). stop_text (stop_of f)) m) ∙ e))
refused-only fault text (accepted s values) e (inr h) = absurd h
refused-only fault text (refused f n) e h = tt

-- its text is told by an answer that refuses
pub refusal_of : (fault : CertFault) (text bytes : List ℕ) (old new : Sight) (result : Status) → stop_text (stop_of fault) ≡ Some text → bytes ≡ text → Ends (says CertRefused bytes) old new result →
    RunEnds (IsRefusalOf fault) [] old new result
refusal_of fault text bytes old new result e same ends =
    on_course (says CertRefused text) (λ v h. (refused-only fault text v e h, sym (shown_fault fault text e v h))) (subst (λ (t : List ℕ). Ends (says CertRefused t) old new result) same ends)

-- the answer that tells a verdict
pub concluded : (v : SessionVerdict) (status : Status) (text bytes : List ℕ) (old new : Sight) (result : Status) → verdict_course v ≡ says status text → bytes ≡ text
    → Ends (says status bytes) old new result → RunEnds (IsCourseOf v) [] old new result
concluded v status text bytes old new result e e' ends =
    on_course (says status text) (sym e) (subst (λ (t : List ℕ). Ends (says status t) old new result) e' ends)

-- ---- the ends of a run behind the start of the certificate's port

module _ (name : List ℕ) (can : List ℕ → Course → Type 0) where
  pub not_started : (old new : Sight) → FailsOn CertIn old new → IfSome old.cert_in (λ cert. RunEnds (can cert) ((CertIn, name) ∷ []) old new InFailed)
  not_started old new fails =
      all_of (λ (cert : List ℕ). RunEnds (can cert) ((CertIn, name) ∷ []) old new InFailed) old.cert_in
      (λ cert. in_failed refl (λ e. cc) fails.side (record {
        starts_made = 0;
        starts_are = ap (λ (d : Sight). d.starts) fails.same ∙ sym (appended-nil old.starts);
        cert = ap (λ (d : Sight). d.cert_out) fails.same;
        answer = ap (λ (d : Sight). d.answer) fails.same;
      }))

  pub no_room : (old new : Sight) → new ≡ old → IfSome old.cert_in (λ cert. RunEnds (can cert) ((CertIn, name) ∷ []) old new NoMemory)
  no_room old new same =
      all_of (λ (cert : List ℕ). RunEnds (can cert) ((CertIn, name) ∷ []) old new NoMemory) old.cert_in
      (λ cert. no_memory_yet refl (record {
        starts_made = 0;
        starts_are = ap (λ (d : Sight). d.starts) same ∙ sym (appended-nil old.starts);
        cert = ap (λ (d : Sight). d.cert_out) same;
        answer = ap (λ (d : Sight). d.answer) same;
      }))

  pub read_failed : (old first new : Sight) → first ≡ with_start CertIn name old → ReadsThenFails CertIn first new
      → IfSome old.cert_in (λ cert. RunEnds (can cert) ((CertIn, name) ∷ []) old new InFailed)
  read_failed old first new started fails =
      all_of (λ (cert : List ℕ). RunEnds (can cert) ((CertIn, name) ∷ []) old new InFailed) old.cert_in
      (λ cert. in_failed refl (λ e. cc) (subst (λ (d : Sight). SideFailed d.in_faults new.in_faults) started fails.side) (record {
        starts_made = 1;
        starts_are = ap (λ (d : Sight). d.starts) fails.rest ∙ ap (λ (d : Sight). d.starts) started;
        cert = ap (λ (d : Sight). d.cert_out) fails.rest ∙ ap (λ (d : Sight). d.cert_out) started;
        answer = ap (λ (d : Sight). d.answer) fails.rest ∙ ap (λ (d : Sight). d.answer) started;
      }))

-- ---- the ends of a run behind its problems

module _ (session : List (Parts × Bool)) (bound : Option ℕ) (name : List ℕ) where
  pub checked : (r : Result (Vec told.Verdict Global) CertFault) (old first mid new : Sight) (status : Status) → first ≡ with_start CertIn name old → ReadsSome CertIn first mid
      → IfSome first.cert_in (λ cert. IsSessionVerdictOrMemory (session_verdict (problems_of session) bound cert) r) → ((v : SessionVerdict) → IsSessionVerdictOrMemory v r → RunEnds (IsCourseOf v) [] mid new status)
      → IfSome old.cert_in (λ cert. RunEnds (CanCheck None (problems_of session) bound name cert) ((CertIn, name) ∷ []) old new status)
  checked r old first mid new status started some tells ends =
      over (λ (cert : List ℕ). IsSessionVerdictOrMemory (session_verdict (problems_of session) bound cert) r) (λ (cert : List ℕ). RunEnds (CanCheck None (problems_of session) bound name cert) ((CertIn, name) ∷ []) old new status) old.cert_in
      (subst (λ (o : Option (List ℕ)). IfSome o (λ cert. IsSessionVerdictOrMemory (session_verdict (problems_of session) bound cert) r)) (ap (λ (d : Sight). d.cert_in) started) tells)
      (λ cert h.
      run_behind (IsCourseOf (session_verdict (problems_of session) bound cert)) (CanCheck None (problems_of session) bound name cert) (CertIn, name) [] old mid new status (after_cert_in name old first mid started some)
      (λ tail can. ap (λ (c : Course). behind ((CertIn, name) ∷ []) c) can) (ends (session_verdict (problems_of session) bound cert) h))
