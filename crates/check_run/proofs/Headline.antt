-- What the answers of a run say of its script.
use Rattle.std.proofs.Common.{◌≡◌, ◌⊎◌, inl, inr, ℕ, List, [], ◌∷◌, ◌++◌, Bool, length, Option, Some, None, IsTrue, refl, ap, sym, subst, ◌∙◌, append-nil}
use Rattle.desk.specs.declared.desk.Port.TheVariants.{CertIn}
use Rattle.desk.specs.Sight.{Sight}
use Rattle.command_line.specs.declared.request.Options.{Options}
use Rattle.command_line.specs.Words.{Solve, Minimize, Check, Upgrade, Demo, Plan, Command, solve, minimize, check, demo, upgrade, plan, resume, join}
use Rattle.gen_script.specs.Demo.{demo_script}
use Rattle.poly_graph.specs.Problem.{Problem}
use Rattle.cover_model.specs.State.{Loosenings, in_version}
use Rattle.cert_model.specs.Due.{CertFault, Standing, Value, at_point, left_open}
use Rattle.cert_model.specs.Accepted.{accepted, refused, IsAccepted}
use Rattle.cert_model.specs.AnswerText.{solve_text, check_text, least_text, unsat_text, verdict_text, has_open}
use Rattle.cert_model.specs.Least.{Least, GoalVerdict, plain, least, goal_verdict, is_lines_version}
use Rattle.goal_limit.specs.Limits.{has_room}
use Rattle.cert_model.proofs.PlainGoal.{plain_accepted}
use Rattle.cert_model.specs.Session.{AreAccepted, SessionVerdict, one_verdict, session_verdict}
use Rattle.cert_upgrade.specs.Upgraded.{upgraded}
use Rattle.headline.proofs.Headline.{unsat_is}
use Rattle.headline.proofs.Least.{lower_means, upper_means}
use Rattle.script_fault.specs.declared.fault.ScriptFault.{ScriptFault}
use Rattle.script_forms.specs.Atoms.{goal_atom}
use Rattle.script_reading.specs.Faults.{script_fault, session_fault}
use Rattle.script_reading.specs.Goals.{goal_in}
use Rattle.script_reading.specs.Session.{HasSession, asked_in}
use Rattle.check_run.specs.declared.status.Status.{Status}
use Rattle.check_run.specs.declared.status.Status.TheVariants.{Answered, CertRefused}
use Rattle.script_reading.specs.Reader.{commands_of, HasProblem, IsBuilt}
use Rattle.check_run.specs.Answer.{demo_text, is_answer_version, loosenings_of}
use Rattle.check_run.specs.Course.{Course, behind, appended}
use Rattle.check_run.specs.Can.{CanSolve, CanCheck, CanUpgrade, CanUpgradeBy, CanUpgradeFor, CanUpgradeOfGoal, CanPlan, CanBy, OfProblem, OfSession, check_texts, goal_course, verdict_course}
use Rattle.check_run.specs.Minimized.{CanMinimize, CanTellLeast, Cause, IsLeastAnswer, near, spent, narrow, no_limit, minimize_text}
use Rattle.check_run.specs.Run.{Run, HasCourse, HasInput, IsShown}
use Rattle.check_run.proofs.Shown.{status_is_shown}
use Rattle.check_run.proofs.Demos.{demo_says_delta_sat, demo_says_unsat}
use Rattle.check_run.proofs.Differ.{apart-left, written-is, says-unsat, says-delta-sat, confirms-unsat, confirms-delta-sat, refused-not, certificate-refused-not, answered-not, script-refused-not, delta-so}
use Rattle.check_run.proofs.Enough.{SessionIsOne, are_enough, texts_one}
use Rattle.check_run.proofs.Joins.{join_so, join_unsat, join_delta, join_refused}
use Rattle.check_run.proofs.Means.{values_true}
use Rattle.check_run.proofs.Resumes.{value-so, resume-so, resume-unsat, resume-delta, resume-refused}
use Rattle.check_run.proofs.Apart.{apart}
use Rattle.check_run.proofs.Single.{goal_has_one, goal_is, one_problem, one_value}
use Rattle.check_run.proofs.Versions.{value_again, values_again}
use Rattle.check_run.specs.Headline.{IsWritten, IsSolved, IsConfirmed, IsConfirmedLeast, IsLeast, IsNoLeast, IsDemonstrated, IsTrueAnswer, AnswersAreTrue, HasOneCheck, IsUnsat, IsTrueUnsat, UnsatIsTrue, IsTrueDeltaSat, DeltaSatIsTrue, IsRefusedCert, IsRefusedForGoal, IsTrueRefusal, RefusalIsTrue, IsUpgraded, IsUpgradedLeast, IsTrueUpgrade, UpgradeIsTrue, IsPlanned, IsTruePlan, PlanIsTrue, delta_sat_word, unsat_word, confirmed_unsat_word, confirmed_delta_sat_word}

-- ---- the courses of a run that answers

-- of a script without fault, whose problems go on so
record Session-goes (bound : Option ℕ) (script : List ℕ) (goes : List (Problem × Bool) → Course → Type 0) (tail : Course) : Type 0 where
  ps : List (Problem × Bool)
  has : HasSession bound ps script
  can : goes ps tail

goes-on : (bound : Option ℕ) (script : List ℕ) (goes : List (Problem × Bool) → Course → Type 0) (f : Option ScriptFault) (tail : Course) → CanBy f (OfSession bound script goes) tail → tail.status ≡ Answered → Session-goes bound script goes tail
goes-on bound script goes (Some f) tail can e = absurd (refused-not tail.status (ap (λ (c : Course). c.status) can) e)
goes-on bound script goes None tail can e = record { ps = can.0; has = can.1; can = can.2 }

-- ---- the answers of solve

solve-so : (words : Solve) (script cert_in : List ℕ) (parts : List (List ℕ)) (old new : Sight) → IsShown (Some (solve words)) script cert_in parts old new Answered → IsSolved words.options script old new
solve-so words script cert_in parts old new (course, can, status, went) =
    let o : Options = words.options in
    let tail : Course = can.0 in
    let status_is : tail.status ≡ Answered = sym (ap (λ (c : Course). c.status) can.2) ∙ status in
    let on = goes-on o.bound script (λ ps. CanSolve ps o words.cert) (session_fault o.bound script) tail can.1 status_is in
    let so = on.can in
    record {
      problems = on.ps;
      session = on.has;
      cert = so.0;
      values = so.1;
      written = went.cert ∙ ap (λ (c : Course). appended old.cert_out c.cert) can.2 ∙ ap (λ (c : Course). appended old.cert_out c.cert) so.3;
      answers = so.2;
      answer = went.answer ∙ ap (λ (c : Course). appended old.answer c.answer) can.2 ∙ ap (λ (c : Course). appended old.answer c.answer) so.3;
      say = values_again o.bound so.2.version (loosenings_of o) (asked_in o.bound script) so.1
          (values_true o.bound script on.ps on.has so.0 (in_version so.2.version (loosenings_of o)) so.1 so.2.accepted);
    }

-- of a script with one check
record Solved-one (o : Options) (script : List ℕ) (old new : Sight) : Type 0 where
  p : Problem
  built : IsBuilt o.bound script p
  cert : List ℕ
  value : Value
  written : new.cert_out ≡ appended old.cert_out cert
  version : ℕ
  is_version : IsTrue (is_lines_version version)
  accepts : IsAccepted p o.bound cert (in_version version (loosenings_of o)) value
  answer : new.answer ≡ appended old.answer (solve_text p o.budget (loosenings_of o) value)

solved-one : (o : Options) (script : List ℕ) (old new : Sight) → HasOneCheck script → IsSolved o script old new → Solved-one o script old new
solved-one o script old new single so =
    let x = one_problem o.bound script single so.problems so.session in
    let v : ℕ = so.answers.version in
    let s : Loosenings = in_version v (loosenings_of o) in
    let accepts = subst (λ (ys : List (Problem × Bool)). AreAccepted ys o.bound so.cert s so.values) x.only so.answers.accepted in
    let y = one_value x.problem x.extends o.bound so.cert s so.values accepts in
    record {
      p = x.problem;
      built = x.built;
      cert = so.cert;
      value = y.value;
      written = so.written;
      version = v;
      is_version = subst (λ (ys : List (Problem × Bool)). IsTrue (is_answer_version (length ys) v)) x.only so.answers.is_version;
      accepts = y.accepts;
      answer = so.answer ∙ ap (appended old.answer) (texts_one o.budget (loosenings_of o) so.problems so.values x.problem x.extends y.value x.only y.only);
    }

-- ---- unsat

unsat-so : (o : Options) (script : List ℕ) (p : Problem) (old new : Sight) (cert : List ℕ) → IsBuilt o.bound script p → new.cert_out ≡ appended old.cert_out cert → (v : ℕ) → IsTrue (is_lines_version v) →
    IsAccepted p o.bound cert (in_version v (loosenings_of o)) (left_open []) → IsUnsat o script old new
unsat-so o script p old new cert built written v is accepts = record {
  no_point = unsat_is o.bound (commands_of o.bound script) p built.whole built.problem cert (in_version v (loosenings_of o)) accepts;
  problem = p;
  built = built;
  cert = cert;
  written = written;
  version = v;
  is_version = is;
  accepted = accepts;
}

solve-unsat : (words : Solve) (script cert_in : List ℕ) (parts : List (List ℕ)) (old new : Sight) → IsShown (Some (solve words)) script cert_in parts old new Answered → IsTrueUnsat (Some (solve words)) script cert_in parts old new
solve-unsat words script cert_in parts old new shows single wrote =
    let o : Options = words.options in
    let s : Loosenings = loosenings_of o in
    let so = solved-one o script old new single (solve-so words script cert_in parts old new shows) in
    let text : unsat_text s ≡ solve_text so.p o.budget s so.value = written-is old.answer new.answer (unsat_text s) (solve_text so.p o.budget s so.value) wrote so.answer in
    unsat-so o script so.p old new so.cert so.built so.written so.version so.is_version
    (subst (λ (v : Value). IsAccepted so.p o.bound so.cert (in_version so.version s) v) (says-unsat so.p s o.budget so.value text) so.accepts)

-- ---- the answers of demo

demo-so : (words : Demo) (script cert_in : List ℕ) (parts : List (List ℕ)) (old new : Sight) → IsShown (Some (demo words)) script cert_in parts old new Answered → IsDemonstrated words.options (demo_script words.seed words.size) old new
demo-so words script cert_in parts old new (course, can, status, went) =
    let so = can.2 in
    record {
      problem = can.0;
      built = can.1;
      cert = so.0;
      value = so.1;
      written = went.cert ∙ ap (λ (c : Course). appended old.cert_out c.cert) so.3;
      answers = so.2;
      answer = went.answer ∙ ap (λ (c : Course). appended old.answer c.answer) so.3;
      say = value_again words.options.bound so.2.version (loosenings_of words.options) (commands_of words.options.bound (demo_script words.seed words.size)) so.1
          (value-so words.options.bound (demo_script words.seed words.size) can.0 so.0 (in_version so.2.version (loosenings_of words.options)) so.1 can.1 so.2.accepted);
    }

demo-unsat : (words : Demo) (script cert_in : List ℕ) (parts : List (List ℕ)) (old new : Sight) → IsShown (Some (demo words)) script cert_in parts old new Answered → IsTrueUnsat (Some (demo words)) script cert_in parts old new
demo-unsat words script cert_in parts old new shows bytes atoms wrote =
    let o : Options = words.options in
    let made : List ℕ = demo_script words.seed words.size in
    let so = demo-so words script cert_in parts old new shows in
    let told : List ℕ = solve_text so.problem o.budget (loosenings_of o) so.value in
    let text = written-is old.answer new.answer (demo_text bytes atoms unsat_word) (demo_text (length made) (length so.problem.atoms) told) wrote so.answer in
    let none = demo_says_unsat bytes atoms (length made) (length so.problem.atoms) so.problem (loosenings_of o) o.budget so.value text in
    unsat-so o made so.problem old new so.cert so.built so.written so.answers.version so.answers.is_version
    (subst (λ (v : Value). IsAccepted so.problem o.bound so.cert (in_version so.answers.version (loosenings_of o)) v) none so.answers.accepted)

demo-delta : (words : Demo) (script cert_in : List ℕ) (parts : List (List ℕ)) (old new : Sight) → IsShown (Some (demo words)) script cert_in parts old new Answered → IsTrueDeltaSat (Some (demo words)) script cert_in parts old new
demo-delta words script cert_in parts old new shows bytes atoms wrote =
    let o : Options = words.options in
    let made : List ℕ = demo_script words.seed words.size in
    let so = demo-so words script cert_in parts old new shows in
    let told : List ℕ = solve_text so.problem o.budget (loosenings_of o) so.value in
    let text = written-is old.answer new.answer (demo_text bytes atoms delta_sat_word) (demo_text (length made) (length so.problem.atoms) told) wrote so.answer in
    let point = demo_says_delta_sat bytes atoms (length made) (length so.problem.atoms) so.problem (loosenings_of o) o.budget so.value text in
    let s : Loosenings = in_version so.answers.version (loosenings_of o) in
    let accepts = subst (λ (v : Value). IsAccepted so.problem o.bound so.cert s v) point.1 so.answers.accepted in (
      point.0,
      so.answers.version,
      so.answers.is_version,
      record {
        point = delta-so o.bound made so.problem so.cert s point.0 so.built accepts;
        problem = so.problem;
        built = so.built;
        cert = so.cert;
        written = so.written;
        accepted = accepts;
      },
    )

-- ---- what is checked

record Checked-so (ps : List (Problem × Bool)) (bound : Option ℕ) (cert_in : List ℕ) (course : Course) : Type 0 where
  s : Loosenings
  values : List Value
  accepts : AreAccepted ps bound cert_in s values
  answer_is : course.answer ≡ check_texts s values

checked-by : (ps : List (Problem × Bool)) (bound : Option ℕ) (name cert_in : List ℕ) (course : Course) (v : SessionVerdict) → session_verdict ps bound cert_in ≡ v → course ≡ behind ((CertIn, name) ∷ []) (verdict_course v) →
    course.status ≡ Answered → Checked-so ps bound cert_in course
checked-by ps bound name cert_in course (accepted s values) e can status = record { s = s; values = values; accepts = e; answer_is = ap (λ (c : Course). c.answer) can }
checked-by ps bound name cert_in course (refused f n) e can status = absurd (certificate-refused-not course.status (ap (λ (c : Course). c.status) can) status)

confirmed-by : (bound : Option ℕ) (script cert_in : List ℕ) (old new : Sight) (ps : List (Problem × Bool)) (course : Course) → HasSession bound ps script → new.answer ≡ appended old.answer course.answer → Checked-so ps bound cert_in course →
    IsConfirmed bound script cert_in old new
confirmed-by bound script cert_in old new ps course has wrote so = record {
  problems = ps;
  session = has;
  loosenings = so.s;
  values = so.values;
  accepted = so.accepts;
  answer = wrote ∙ ap (appended old.answer) so.answer_is;
  say = values_true bound script ps has cert_in so.s so.values so.accepts;
}

-- of a script with a goal
goal-checked : (bound : Option ℕ) (script name cert_in : List ℕ) (old new : Sight) (g : ℕ) → goal_in bound script ≡ Some g → (p : Problem) (e : Bool) → HasSession bound ((p, e) ∷ []) script → IsBuilt bound script p →
    (course : Course) (v : GoalVerdict) → goal_verdict p g (has_room p) bound cert_in ≡ v → course ≡ behind ((CertIn, name) ∷ []) (goal_course p g v) → course.status ≡ Answered → new.answer ≡ appended old.answer course.answer →
    IsConfirmed bound script cert_in old new ⊎ IsConfirmedLeast bound script cert_in old new
goal-checked bound script name cert_in old new g is p e has built course (accepted s (plain v)) accepts can status wrote =
    inl (confirmed-by bound script cert_in old new ((p, e) ∷ []) course has wrote (record {
      s = s;
      values = v ∷ [];
      accepts = ap one_verdict (plain_accepted p g (has_room p) bound cert_in s v accepts);
      answer_is = ap (λ (c : Course). c.answer) can ∙ sym (append-nil (check_text s v));
    }))
goal-checked bound script name cert_in old new g is p e has built course (accepted s (least x)) accepts can status wrote =
    let atom = goal_is bound script g is in
    inr (record {
      problem = p;
      built = built;
      goal = g;
      is_goal = is;
      loosenings = s;
      value = x;
      accepted = accepts;
      answer = wrote ∙ ap (λ (c : Course). appended old.answer c.answer) can;
      lower = lower_means bound (commands_of bound script) p built.whole built.problem g atom (has_room p) cert_in s x accepts;
      upper = λ space kept.
          let h = upper_means bound (commands_of bound script) p built.whole built.problem g atom (has_room p) cert_in s x accepts space kept in
          (record { satisfies = h.0; near = h.1 }, h.2);
    })
goal-checked bound script name cert_in old new g is p e has built course (refused f n) accepts can status wrote = absurd (certificate-refused-not course.status (ap (λ (c : Course). c.status) can) status)

check-by : (bound : Option ℕ) (script name cert_in : List ℕ) (old new : Sight) (goal : Option ℕ) → goal_in bound script ≡ goal → (ps : List (Problem × Bool)) → HasSession bound ps script → (course : Course) → CanCheck goal ps bound name cert_in course →
    course.status ≡ Answered → new.answer ≡ appended old.answer course.answer → IsConfirmed bound script cert_in old new ⊎ IsConfirmedLeast bound script cert_in old new
check-by bound script name cert_in old new None is ps has course can status wrote =
    inl (confirmed-by bound script cert_in old new ps course has wrote (checked-by ps bound name cert_in course (session_verdict ps bound cert_in) refl can status))
check-by bound script name cert_in old new (Some g) is ps has course can status wrote =
    let x = one_problem bound script (goal_has_one bound script g is) ps has in
    let so : CanCheck (Some g) ((x.problem, x.extends) ∷ []) bound name cert_in course = subst (λ (ys : List (Problem × Bool)). CanCheck (Some g) ys bound name cert_in course) x.only can in
    goal-checked bound script name cert_in old new g is x.problem x.extends (subst (λ (ys : List (Problem × Bool)). HasSession bound ys script) x.only has) x.built course
    (goal_verdict x.problem g (has_room x.problem) bound cert_in) refl so status wrote

check-so : (words : Check) (script cert_in : List ℕ) (parts : List (List ℕ)) (old new : Sight) → IsShown (Some (check words)) script cert_in parts old new Answered →
    IsConfirmed words.bound script cert_in old new ⊎ IsConfirmedLeast words.bound script cert_in old new
check-so words script cert_in parts old new (course, can, status, went) =
    let tail : Course = can.0 in
    let status_is : tail.status ≡ Answered = sym (ap (λ (c : Course). c.status) can.2) ∙ status in
    let on = goes-on words.bound script (λ ps. CanCheck (goal_in words.bound script) ps words.bound words.cert cert_in) (session_fault words.bound script) tail can.1 status_is in
    check-by words.bound script words.cert cert_in old new (goal_in words.bound script) refl on.ps on.has tail on.can status_is (went.answer ∙ ap (λ (c : Course). appended old.answer c.answer) can.2)

record Checked-one (bound : Option ℕ) (script cert_in : List ℕ) (old new : Sight) : Type 0 where
  p : Problem
  built : IsBuilt bound script p
  s : Loosenings
  value : Value
  accepts : IsAccepted p bound cert_in s value
  answer : new.answer ≡ appended old.answer (check_text s value)

checked-one : (bound : Option ℕ) (script cert_in : List ℕ) (old new : Sight) → HasOneCheck script → IsConfirmed bound script cert_in old new → Checked-one bound script cert_in old new
checked-one bound script cert_in old new single so =
    let s : Loosenings = so.loosenings in
    let x = one_problem bound script single so.problems so.session in
    let y = one_value x.problem x.extends bound cert_in s so.values (subst (λ (ys : List (Problem × Bool)). AreAccepted ys bound cert_in s so.values) x.only so.accepted) in
    record {
      p = x.problem;
      built = x.built;
      s = s;
      value = y.value;
      accepts = y.accepts;
      answer = so.answer ∙ ap (appended old.answer) (ap (check_texts s) y.only ∙ append-nil (check_text s y.value));
    }

-- a confirmed lower bound is told by another text
least-not-unsat : (p : Problem) (g : ℕ) (x : Least) (rest : List ℕ) → confirmed_unsat_word ++ rest ≡ least_text p g x → ⊥
least-not-unsat p g x rest e = apart _ _ 10 e refl

least-not-delta : (p : Problem) (g : ℕ) (x : Least) (rest : List ℕ) → confirmed_delta_sat_word ++ rest ≡ least_text p g x → ⊥
least-not-delta p g x rest e = apart _ _ 10 e refl

-- so what was confirmed with this text is the check
plain-of : (bound : Option ℕ) (script cert_in : List ℕ) (old new : Sight) (text : List ℕ) → ((p : Problem) (g : ℕ) (x : Least) → text ≡ least_text p g x → ⊥) → IsWritten text old new →
    IsConfirmed bound script cert_in old new ⊎ IsConfirmedLeast bound script cert_in old new → IsConfirmed bound script cert_in old new
plain-of bound script cert_in old new text differs wrote (inl so) = so
plain-of bound script cert_in old new text differs wrote (inr so) =
    absurd (differs so.problem so.goal so.value (written-is old.answer new.answer text (least_text so.problem so.goal so.value) wrote so.answer))

check-unsat : (words : Check) (script cert_in : List ℕ) (parts : List (List ℕ)) (old new : Sight) → IsShown (Some (check words)) script cert_in parts old new Answered → IsTrueUnsat (Some (check words)) script cert_in parts old new
check-unsat words script cert_in parts old new shows single rest wrote =
    let plain-so = plain-of words.bound script cert_in old new (confirmed_unsat_word ++ rest) (λ p g x e. least-not-unsat p g x rest e) wrote (check-so words script cert_in parts old new shows) in
    let so = checked-one words.bound script cert_in old new single plain-so in
    let text : confirmed_unsat_word ++ rest ≡ check_text so.s so.value = written-is old.answer new.answer (confirmed_unsat_word ++ rest) (check_text so.s so.value) wrote so.answer in
    let none : so.value ≡ left_open [] = confirms-unsat so.s rest so.value text in
    let P : Value → Type 0 = λ v. IsAccepted so.p words.bound cert_in so.s v in
    let W : List ℕ → Type 0 = λ t. IsWritten t old new in
    let accepts : P (left_open []) = subst P none so.accepts in (
      so.s,
      subst W (text ∙ ap (λ (v : Value). check_text so.s v) none) wrote,
      record {
        no_point = unsat_is words.bound (commands_of words.bound script) so.p so.built.whole so.built.problem cert_in so.s accepts;
        problem = so.p;
        built = so.built;
        accepted = accepts;
      },
    )

-- ---- the answers of minimize

-- a point was found, with bounds of the goal
least-so : (words : Minimize) (script : List ℕ) (old new : Sight) (p : Problem) → HasProblem words.options.bound p script → (g : ℕ) → goal_atom (commands_of words.options.bound script) ≡ Some g → (cert : List ℕ) (cause : Cause) (x : Least) → IsLeastAnswer p g words cert cause x →
    new.cert_out ≡ appended old.cert_out cert → new.answer ≡ appended old.answer (minimize_text p g words.options.budget cause x) → IsLeast words script old new
least-so words script old new p has g is cert cause x answers written answer =
    let b : Option ℕ = words.options.bound in
    let s : Loosenings = in_version answers.version (loosenings_of words.options) in
    let built = has.built in
    let h = upper_means b (commands_of b script) p built.whole built.problem g is (has_room p) cert s x answers.accepted answers.point answers.has_point in
    record {
      problem = p;
      has = has;
      goal = g;
      is_goal = is;
      cert = cert;
      cause = cause;
      value = x;
      answers = answers;
      written = written;
      answer = answer;
      lower = lower_means b (commands_of b script) p built.whole built.problem g is (has_room p) cert s x answers.accepted;
      point = record { satisfies = h.0; near = h.1 };
      upper = h.2;
    }

minimize-told : (words : Minimize) (script : List ℕ) (old new : Sight) (p : Problem) → HasProblem words.options.bound p script → (g : ℕ) → goal_atom (commands_of words.options.bound script) ≡ Some g → (course : Course) → CanTellLeast p g words course →
    new.cert_out ≡ appended old.cert_out course.cert → new.answer ≡ appended old.answer course.answer → IsLeast words script old new ⊎ IsNoLeast words script old new
minimize-told words script old new p has g is course (inl (cert, left, answers, e)) written answer =
    inr (record {
      problem = p;
      has = has;
      cert = cert;
      left = left;
      answers = answers;
      written = written ∙ ap (λ (c : Course). appended old.cert_out c.cert) e;
      answer = answer ∙ ap (λ (c : Course). appended old.answer c.answer) e;
      say = value_again words.options.bound answers.version (loosenings_of words.options) (commands_of words.options.bound script) (left_open left)
          (value-so words.options.bound script p cert (in_version answers.version (loosenings_of words.options)) (left_open left) has.built answers.accepted);
    })
minimize-told words script old new p has g is course (inr (cert, cause, x, answers, e)) written answer =
    inl (least-so words script old new p has g is cert cause x answers (written ∙ ap (λ (c : Course). appended old.cert_out c.cert) e) (answer ∙ ap (λ (c : Course). appended old.answer c.answer) e))

minimize-by : (words : Minimize) (script : List ℕ) (old new : Sight) (goal : Option ℕ) → goal_atom (commands_of words.options.bound script) ≡ goal → (p : Problem) → HasProblem words.options.bound p script → (course : Course) → CanMinimize goal p words course →
    course.status ≡ Answered → new.cert_out ≡ appended old.cert_out course.cert → new.answer ≡ appended old.answer course.answer → IsLeast words script old new ⊎ IsNoLeast words script old new
minimize-by words script old new None is p has course can status written answer = absurd (refused-not course.status (ap (λ (c : Course). c.status) can) status)
minimize-by words script old new (Some g) is p has course can status written answer = minimize-told words script old new p has g is course can written answer

minimize-of : (words : Minimize) (script : List ℕ) (old new : Sight) (f : Option ScriptFault) (tail : Course) → script_fault words.options.bound script ≡ f →
    CanBy f (OfProblem words.options.bound script (λ p. CanMinimize (goal_atom (commands_of words.options.bound script)) p words)) tail → tail.status ≡ Answered → new.cert_out ≡ appended old.cert_out tail.cert → new.answer ≡ appended old.answer tail.answer →
    IsLeast words script old new ⊎ IsNoLeast words script old new
minimize-of words script old new (Some f) tail e can status written answer = absurd (refused-not tail.status (ap (λ (c : Course). c.status) can) status)
minimize-of words script old new None tail e can status written answer =
    minimize-by words script old new (goal_atom (commands_of words.options.bound script)) refl can.0 (record { clean = e; built = can.1 }) tail can.2 status written answer

minimize-so : (words : Minimize) (script cert_in : List ℕ) (parts : List (List ℕ)) (old new : Sight) → IsShown (Some (minimize words)) script cert_in parts old new Answered → IsLeast words script old new ⊎ IsNoLeast words script old new
minimize-so words script cert_in parts old new (course, can, status, went) =
    minimize-of words script old new (script_fault words.options.bound script) can.0 refl can.1 (sym (ap (λ (c : Course). c.status) can.2) ∙ status)
    (went.cert ∙ ap (λ (c : Course). appended old.cert_out c.cert) can.2) (went.answer ∙ ap (λ (c : Course). appended old.answer c.answer) can.2)

-- bounds are told by other texts than `unsat`
bounds-not-unsat : (p : Problem) (g budget : ℕ) (cause : Cause) (x : Least) (rest : List ℕ) → unsat_word ++ rest ≡ minimize_text p g budget cause x → ⊥
bounds-not-unsat p g budget near x rest e = apart _ _ 0 e refl
bounds-not-unsat p g budget spent x rest e = apart _ _ 2 e refl
bounds-not-unsat p g budget narrow x rest e = apart _ _ 2 e refl
bounds-not-unsat p g budget no_limit x rest e = apart _ _ 2 e refl

unsat-of-left : (words : Minimize) (script : List ℕ) (old new : Sight) (p : Problem) → IsBuilt words.options.bound script p → (cert : List ℕ) (left : List Standing) → new.cert_out ≡ appended old.cert_out cert →
    (v : ℕ) → IsTrue (is_lines_version v) → IsAccepted p words.options.bound cert (in_version v (loosenings_of words.options)) (left_open left) →
    (rest : List ℕ) → unsat_word ++ rest ≡ solve_text p words.options.budget (loosenings_of words.options) (left_open left) → IsUnsat words.options script old new
unsat-of-left words script old new p built cert [] written v is accepts rest e = unsat-so words.options script p old new cert built written v is accepts
unsat-of-left words script old new p built cert (x ∷ left) written v is accepts rest e =
    absurd (apart-left p (loosenings_of words.options) words.options.budget x left (unsat_word ++ rest) 2 e refl (λ j. refl) (has_open (x ∷ left)) refl)

minimize-unsat-of : (words : Minimize) (script : List ℕ) (old new : Sight) → IsLeast words script old new ⊎ IsNoLeast words script old new → (rest : List ℕ) → IsWritten (unsat_word ++ rest) old new → IsUnsat words.options script old new
minimize-unsat-of words script old new (inl so) rest wrote =
    let text : List ℕ = minimize_text so.problem so.goal words.options.budget so.cause so.value in
    absurd (bounds-not-unsat so.problem so.goal words.options.budget so.cause so.value rest (written-is old.answer new.answer (unsat_word ++ rest) text wrote so.answer))
minimize-unsat-of words script old new (inr so) rest wrote =
    let text : List ℕ = solve_text so.problem words.options.budget (loosenings_of words.options) (left_open so.left) in
    unsat-of-left words script old new so.problem so.has.built so.cert so.left so.written so.answers.version so.answers.is_version so.answers.accepted rest (written-is old.answer new.answer (unsat_word ++ rest) text wrote so.answer)

minimize-unsat : (words : Minimize) (script cert_in : List ℕ) (parts : List (List ℕ)) (old new : Sight) → IsShown (Some (minimize words)) script cert_in parts old new Answered → IsTrueUnsat (Some (minimize words)) script cert_in parts old new
minimize-unsat words script cert_in parts old new shows rest wrote = minimize-unsat-of words script old new (minimize-so words script cert_in parts old new shows) rest wrote

-- ---- all answers that say it

unsat-true : (command : Option Command) (script cert_in : List ℕ) (parts : List (List ℕ)) (old new : Sight) → IsShown command script cert_in parts old new Answered → IsTrueUnsat command script cert_in parts old new
unsat-true None script cert_in parts old new shows = tt
unsat-true (Some (solve words)) script cert_in parts old new shows = solve-unsat words script cert_in parts old new shows
unsat-true (Some (minimize words)) script cert_in parts old new shows = minimize-unsat words script cert_in parts old new shows
unsat-true (Some (check words)) script cert_in parts old new shows = check-unsat words script cert_in parts old new shows
unsat-true (Some (upgrade words)) script cert_in parts old new shows = tt
unsat-true (Some (plan words)) script cert_in parts old new shows = tt
unsat-true (Some (demo words)) script cert_in parts old new shows = demo-unsat words script cert_in parts old new shows
unsat-true (Some (resume words)) script cert_in parts old new shows = resume-unsat words script cert_in parts old new shows
unsat-true (Some (join words)) script cert_in parts old new shows = join_unsat words script cert_in parts old new shows

-- ---- delta-sat

solve-delta : (words : Solve) (script cert_in : List ℕ) (parts : List (List ℕ)) (old new : Sight) → IsShown (Some (solve words)) script cert_in parts old new Answered → IsTrueDeltaSat (Some (solve words)) script cert_in parts old new
solve-delta words script cert_in parts old new shows single rest wrote =
    let o : Options = words.options in
    let s : Loosenings = loosenings_of o in
    let so = solved-one o script old new single (solve-so words script cert_in parts old new shows) in
    let text : delta_sat_word ++ rest ≡ solve_text so.p o.budget s so.value = written-is old.answer new.answer (delta_sat_word ++ rest) (solve_text so.p o.budget s so.value) wrote so.answer in
    let point = says-delta-sat so.p s o.budget rest so.value text in
    let P : Value → Type 0 = λ v. IsAccepted so.p o.bound so.cert (in_version so.version s) v in
    let W : List ℕ → Type 0 = λ t. IsWritten t old new in
    let near = delta-so o.bound script so.p so.cert (in_version so.version s) point.0 so.built (subst P point.1 so.accepts) in
    (so.p, point.0, so.built, subst W (text ∙ ap (λ (v : Value). solve_text so.p o.budget s v) point.1) wrote, record { satisfies = near.satisfies; near = near.near })

check-delta : (words : Check) (script cert_in : List ℕ) (parts : List (List ℕ)) (old new : Sight) → IsShown (Some (check words)) script cert_in parts old new Answered → IsTrueDeltaSat (Some (check words)) script cert_in parts old new
check-delta words script cert_in parts old new shows single rest wrote =
    let plain-so = plain-of words.bound script cert_in old new (confirmed_delta_sat_word ++ rest) (λ p g x e. least-not-delta p g x rest e) wrote (check-so words script cert_in parts old new shows) in
    let so = checked-one words.bound script cert_in old new single plain-so in
    let text : confirmed_delta_sat_word ++ rest ≡ check_text so.s so.value = written-is old.answer new.answer (confirmed_delta_sat_word ++ rest) (check_text so.s so.value) wrote so.answer in
    let point = confirms-delta-sat so.s rest so.value text in
    let P : Value → Type 0 = λ v. IsAccepted so.p words.bound cert_in so.s v in
    let W : List ℕ → Type 0 = λ t. IsWritten t old new in
    let accepts : P (at_point point.0) = subst P point.1 so.accepts in (
      so.s,
      point.0,
      subst W (text ∙ ap (λ (v : Value). check_text so.s v) point.1) wrote,
      record {
        point = delta-so words.bound script so.p cert_in so.s point.0 so.built accepts;
        problem = so.p;
        built = so.built;
        accepted = accepts;
      },
    )

delta-sat-true : (command : Option Command) (script cert_in : List ℕ) (parts : List (List ℕ)) (old new : Sight) → IsShown command script cert_in parts old new Answered → IsTrueDeltaSat command script cert_in parts old new
delta-sat-true None script cert_in parts old new shows = tt
delta-sat-true (Some (solve words)) script cert_in parts old new shows = solve-delta words script cert_in parts old new shows
delta-sat-true (Some (minimize words)) script cert_in parts old new shows = tt
delta-sat-true (Some (check words)) script cert_in parts old new shows = check-delta words script cert_in parts old new shows
delta-sat-true (Some (upgrade words)) script cert_in parts old new shows = tt
delta-sat-true (Some (plan words)) script cert_in parts old new shows = tt
delta-sat-true (Some (demo words)) script cert_in parts old new shows = demo-delta words script cert_in parts old new shows
delta-sat-true (Some (resume words)) script cert_in parts old new shows = resume-delta words script cert_in parts old new shows
delta-sat-true (Some (join words)) script cert_in parts old new shows = join_delta words script cert_in parts old new shows

-- ---- certificates that are refused

refused-by : (words : Check) (script cert_in : List ℕ) (old new : Sight) (ps : List (Problem × Bool)) (course : Course) (v : SessionVerdict) → HasSession words.bound ps script → session_verdict ps words.bound cert_in ≡ v →
    course ≡ behind ((CertIn, words.cert) ∷ []) (verdict_course v) → course.status ≡ CertRefused → new.answer ≡ appended old.answer course.answer → IsRefusedCert words.bound script cert_in old new
refused-by words script cert_in old new ps course (accepted s values) has e can status wrote = absurd (answered-not course.status (ap (λ (c : Course). c.status) can) status)
refused-by words script cert_in old new ps course (refused f n) has e can status wrote = record {
  problems = ps;
  session = has;
  fault = f;
  line = n;
  refuses = e;
  written = wrote ∙ ap (λ (c : Course). appended old.answer c.answer) can;
}

-- of a script with a goal
goal-refused : (bound : Option ℕ) (script cert_in : List ℕ) (old new : Sight) (g : ℕ) → goal_in bound script ≡ Some g → (p : Problem) → IsBuilt bound script p → (course : Course) (f : CertFault) (n : ℕ) → goal_verdict p g (has_room p) bound cert_in ≡ refused f n →
    course.answer ≡ verdict_text (refused f n) → new.answer ≡ appended old.answer course.answer → IsRefusedForGoal bound script cert_in old new
goal-refused bound script cert_in old new g is p built course f n e can wrote = record {
  problem = p;
  built = built;
  goal = g;
  is_goal = is;
  fault = f;
  line = n;
  refuses = e;
  written = wrote ∙ ap (appended old.answer) can;
}

goal-refused-by : (words : Check) (script cert_in : List ℕ) (old new : Sight) (g : ℕ) → goal_in words.bound script ≡ Some g → (p : Problem) → IsBuilt words.bound script p → (course : Course) (v : GoalVerdict) → goal_verdict p g (has_room p) words.bound cert_in ≡ v →
    course ≡ behind ((CertIn, words.cert) ∷ []) (goal_course p g v) → course.status ≡ CertRefused → new.answer ≡ appended old.answer course.answer → IsRefusedForGoal words.bound script cert_in old new
goal-refused-by words script cert_in old new g is p built course (accepted s (plain v)) e can status wrote = absurd (answered-not course.status (ap (λ (c : Course). c.status) can) status)
goal-refused-by words script cert_in old new g is p built course (accepted s (least x)) e can status wrote = absurd (answered-not course.status (ap (λ (c : Course). c.status) can) status)
goal-refused-by words script cert_in old new g is p built course (refused f n) e can status wrote =
    goal-refused words.bound script cert_in old new g is p built course f n e (ap (λ (c : Course). c.answer) can) wrote

refused-of : (words : Check) (script cert_in : List ℕ) (old new : Sight) (goal : Option ℕ) → goal_in words.bound script ≡ goal → (ps : List (Problem × Bool)) → HasSession words.bound ps script → (course : Course) → CanCheck goal ps words.bound words.cert cert_in course →
    course.status ≡ CertRefused → new.answer ≡ appended old.answer course.answer → IsRefusedCert words.bound script cert_in old new ⊎ IsRefusedForGoal words.bound script cert_in old new
refused-of words script cert_in old new None is ps has course can status wrote = inl (refused-by words script cert_in old new ps course (session_verdict ps words.bound cert_in) has refl can status wrote)
refused-of words script cert_in old new (Some g) is ps has course can status wrote =
    let x = one_problem words.bound script (goal_has_one words.bound script g is) ps has in
    let so : CanCheck (Some g) ((x.problem, x.extends) ∷ []) words.bound words.cert cert_in course = subst (λ (ys : List (Problem × Bool)). CanCheck (Some g) ys words.bound words.cert cert_in course) x.only can in
    inr (goal-refused-by words script cert_in old new g is x.problem x.built course (goal_verdict x.problem g (has_room x.problem) words.bound cert_in) refl so status wrote)

check-refused : (words : Check) (script cert_in : List ℕ) (old new : Sight) (tail : Course) (f : Option ScriptFault) → CanBy f (OfSession words.bound script (λ ps. CanCheck (goal_in words.bound script) ps words.bound words.cert cert_in)) tail
    → tail.status ≡ CertRefused → new.answer ≡ appended old.answer tail.answer → IsRefusedCert words.bound script cert_in old new ⊎ IsRefusedForGoal words.bound script cert_in old new
check-refused words script cert_in old new tail (Some f) can status wrote = absurd (script-refused-not tail.status (ap (λ (c : Course). c.status) can) status)
check-refused words script cert_in old new tail None can status wrote = refused-of words script cert_in old new (goal_in words.bound script) refl can.0 can.1 tail can.2 status wrote

-- of `upgrade`, which writes nothing then
upgrade-refused-by : (words : Upgrade) (script cert_in : List ℕ) (parts : List (List ℕ)) (old new : Sight) (ps : List (Problem × Bool)) (tail : Course) (v : SessionVerdict) → HasSession words.bound ps script → session_verdict ps words.bound cert_in ≡ v → CanUpgradeBy v ps words.bound words.out cert_in tail
    → tail.status ≡ CertRefused → new.answer ≡ appended old.answer tail.answer → new.cert_out ≡ appended old.cert_out tail.cert → IsTrueRefusal (Some (upgrade words)) script cert_in parts old new
upgrade-refused-by words script cert_in parts old new ps tail (accepted s values) has e can status wrote none = absurd (answered-not tail.status (ap (λ (c : Course). c.status) can.1) status)
upgrade-refused-by words script cert_in parts old new ps tail (refused f n) has e can status wrote none = (
  inl (record { problems = ps; session = has; fault = f; line = n; refuses = e; written = wrote ∙ ap (λ (c : Course). appended old.answer c.answer) can }),
  none ∙ ap (λ (c : Course). appended old.cert_out c.cert) can,
)

upgrade-refused-goal : (words : Upgrade) (script cert_in : List ℕ) (parts : List (List ℕ)) (old new : Sight) (g : ℕ) → goal_in words.bound script ≡ Some g → (p : Problem) → IsBuilt words.bound script p → (tail : Course) (v : GoalVerdict) → goal_verdict p g (has_room p) words.bound cert_in ≡ v
    → CanUpgradeOfGoal v p g words.bound words.out cert_in tail → tail.status ≡ CertRefused → new.answer ≡ appended old.answer tail.answer → new.cert_out ≡ appended old.cert_out tail.cert → IsTrueRefusal (Some (upgrade words)) script cert_in parts old new
upgrade-refused-goal words script cert_in parts old new g is p built tail (accepted s v) e can status wrote none = absurd (answered-not tail.status (ap (λ (c : Course). c.status) can.1) status)
upgrade-refused-goal words script cert_in parts old new g is p built tail (refused f n) e can status wrote none = (
  inr (goal-refused words.bound script cert_in old new g is p built tail f n e (ap (λ (c : Course). c.answer) can) wrote),
  none ∙ ap (λ (c : Course). appended old.cert_out c.cert) can,
)

upgrade-refused-for : (words : Upgrade) (script cert_in : List ℕ) (parts : List (List ℕ)) (old new : Sight) (goal : Option ℕ) → goal_in words.bound script ≡ goal → (ps : List (Problem × Bool)) → HasSession words.bound ps script → (tail : Course) → CanUpgradeFor goal ps words.bound words.out cert_in tail
    → tail.status ≡ CertRefused → new.answer ≡ appended old.answer tail.answer → new.cert_out ≡ appended old.cert_out tail.cert → IsTrueRefusal (Some (upgrade words)) script cert_in parts old new
upgrade-refused-for words script cert_in parts old new None is ps has tail can status wrote none =
    upgrade-refused-by words script cert_in parts old new ps tail (session_verdict ps words.bound cert_in) has refl can status wrote none
upgrade-refused-for words script cert_in parts old new (Some g) is ps has tail can status wrote none =
    let x = one_problem words.bound script (goal_has_one words.bound script g is) ps has in
    let so : CanUpgradeFor (Some g) ((x.problem, x.extends) ∷ []) words.bound words.out cert_in tail = subst (λ (ys : List (Problem × Bool)). CanUpgradeFor (Some g) ys words.bound words.out cert_in tail) x.only can in
    upgrade-refused-goal words script cert_in parts old new g is x.problem x.built tail (goal_verdict x.problem g (has_room x.problem) words.bound cert_in) refl so status wrote none

upgrade-refused : (words : Upgrade) (script cert_in : List ℕ) (parts : List (List ℕ)) (old new : Sight) (tail : Course) (f : Option ScriptFault) → CanBy f (OfSession words.bound script (λ ps. CanUpgrade (goal_in words.bound script) ps words.bound words.cert words.out cert_in)) tail
    → tail.status ≡ CertRefused → new.answer ≡ appended old.answer tail.answer → new.cert_out ≡ appended old.cert_out tail.cert → IsTrueRefusal (Some (upgrade words)) script cert_in parts old new
upgrade-refused words script cert_in parts old new tail (Some f) can status wrote none = absurd (script-refused-not tail.status (ap (λ (c : Course). c.status) can) status)
upgrade-refused words script cert_in parts old new tail None can status wrote none =
    let is = can.2 in
    upgrade-refused-for words script cert_in parts old new (goal_in words.bound script) refl can.0 can.1 is.0 is.1 (sym (ap (λ (c : Course). c.status) is.2) ∙ status)
    (wrote ∙ ap (λ (c : Course). appended old.answer c.answer) is.2) (none ∙ ap (λ (c : Course). appended old.cert_out c.cert) is.2)

refusal-true : (command : Option Command) (script cert_in : List ℕ) (parts : List (List ℕ)) (old new : Sight) → IsShown command script cert_in parts old new CertRefused → IsTrueRefusal command script cert_in parts old new
refusal-true None script cert_in parts old new shows = tt
refusal-true (Some (solve words)) script cert_in parts old new shows = tt
refusal-true (Some (minimize words)) script cert_in parts old new shows = tt
refusal-true (Some (demo words)) script cert_in parts old new shows = tt
refusal-true (Some (plan words)) script cert_in parts old new shows = tt
refusal-true (Some (resume words)) script cert_in parts old new shows = resume-refused words script cert_in parts old new shows
refusal-true (Some (join words)) script cert_in parts old new shows = join_refused words script cert_in parts old new shows
refusal-true (Some (check words)) script cert_in parts old new (course, can, status, went) =
    let tail : Course = can.0 in
    check-refused words script cert_in old new tail (session_fault words.bound script) can.1 (sym (ap (λ (c : Course). c.status) can.2) ∙ status)
    (went.answer ∙ ap (λ (c : Course). appended old.answer c.answer) can.2)
refusal-true (Some (upgrade words)) script cert_in parts old new (course, can, status, went) =
    let tail : Course = can.0 in
    upgrade-refused words script cert_in parts old new tail (session_fault words.bound script) can.1 (sym (ap (λ (c : Course). c.status) can.2) ∙ status)
    (went.answer ∙ ap (λ (c : Course). appended old.answer c.answer) can.2) (went.cert ∙ ap (λ (c : Course). appended old.cert_out c.cert) can.2)

-- ---- certificates that are written anew

upgraded-by : (words : Upgrade) (script cert_in : List ℕ) (old new : Sight) (ps : List (Problem × Bool)) (tail : Course) (v : SessionVerdict) → HasSession words.bound ps script → session_verdict ps words.bound cert_in ≡ v → CanUpgradeBy v ps words.bound words.out cert_in tail
    → tail.status ≡ Answered → new.cert_out ≡ appended old.cert_out tail.cert → IsUpgraded words.bound script cert_in old new
upgraded-by words script cert_in old new ps tail (accepted s values) has e can status wrote = record {
  problems = ps;
  session = has;
  loosenings = s;
  values = values;
  accepted = e;
  written = wrote ∙ ap (λ (c : Course). appended old.cert_out c.cert) can.1;
  again = can.0;
}
upgraded-by words script cert_in old new ps tail (refused f n) has e can status wrote = absurd (certificate-refused-not tail.status (ap (λ (c : Course). c.status) can) status)

-- of a script with a goal
goal-upgraded : (words : Upgrade) (script cert_in : List ℕ) (old new : Sight) (g : ℕ) → goal_in words.bound script ≡ Some g → (p : Problem) (e : Bool) → HasSession words.bound ((p, e) ∷ []) script → IsBuilt words.bound script p → (tail : Course) (v : GoalVerdict)
    → goal_verdict p g (has_room p) words.bound cert_in ≡ v → CanUpgradeOfGoal v p g words.bound words.out cert_in tail → tail.status ≡ Answered → new.cert_out ≡ appended old.cert_out tail.cert
    → IsUpgraded words.bound script cert_in old new ⊎ IsUpgradedLeast words.bound script cert_in old new
goal-upgraded words script cert_in old new g is p e has built tail (accepted s (plain v)) accepts can status wrote =
    inl (record {
      problems = (p, e) ∷ [];
      session = has;
      loosenings = s;
      values = v ∷ [];
      accepted = ap one_verdict (plain_accepted p g (has_room p) words.bound cert_in s v accepts);
      written = wrote ∙ ap (λ (c : Course). appended old.cert_out c.cert) can.1;
      again = ap one_verdict (plain_accepted p g (has_room p) words.bound (upgraded cert_in) (in_version 5 s) v can.0);
    })
goal-upgraded words script cert_in old new g is p e has built tail (accepted s (least x)) accepts can status wrote =
    inr (record {
      problem = p;
      built = built;
      goal = g;
      is_goal = is;
      loosenings = s;
      value = x;
      accepted = accepts;
      written = wrote ∙ ap (λ (c : Course). appended old.cert_out c.cert) can.1;
      again = can.0;
    })
goal-upgraded words script cert_in old new g is p e has built tail (refused f n) accepts can status wrote = absurd (certificate-refused-not tail.status (ap (λ (c : Course). c.status) can) status)

upgraded-for : (words : Upgrade) (script cert_in : List ℕ) (old new : Sight) (goal : Option ℕ) → goal_in words.bound script ≡ goal → (ps : List (Problem × Bool)) → HasSession words.bound ps script → (tail : Course) → CanUpgradeFor goal ps words.bound words.out cert_in tail
    → tail.status ≡ Answered → new.cert_out ≡ appended old.cert_out tail.cert → IsUpgraded words.bound script cert_in old new ⊎ IsUpgradedLeast words.bound script cert_in old new
upgraded-for words script cert_in old new None is ps has tail can status wrote =
    inl (upgraded-by words script cert_in old new ps tail (session_verdict ps words.bound cert_in) has refl can status wrote)
upgraded-for words script cert_in old new (Some g) is ps has tail can status wrote =
    let x = one_problem words.bound script (goal_has_one words.bound script g is) ps has in
    let so : CanUpgradeFor (Some g) ((x.problem, x.extends) ∷ []) words.bound words.out cert_in tail = subst (λ (ys : List (Problem × Bool)). CanUpgradeFor (Some g) ys words.bound words.out cert_in tail) x.only can in
    goal-upgraded words script cert_in old new g is x.problem x.extends (subst (λ (ys : List (Problem × Bool)). HasSession words.bound ys script) x.only has) x.built tail
    (goal_verdict x.problem g (has_room x.problem) words.bound cert_in) refl so status wrote

upgraded-of : (words : Upgrade) (script cert_in : List ℕ) (old new : Sight) (ps : List (Problem × Bool)) (tail : Course) → HasSession words.bound ps script → CanUpgrade (goal_in words.bound script) ps words.bound words.cert words.out cert_in tail
    → tail.status ≡ Answered → new.cert_out ≡ appended old.cert_out tail.cert → IsUpgraded words.bound script cert_in old new ⊎ IsUpgradedLeast words.bound script cert_in old new
upgraded-of words script cert_in old new ps tail has can status wrote =
    upgraded-for words script cert_in old new (goal_in words.bound script) refl ps has can.0 can.1 (sym (ap (λ (c : Course). c.status) can.2) ∙ status)
    (wrote ∙ ap (λ (c : Course). appended old.cert_out c.cert) can.2)

upgrade-true : (command : Option Command) (script cert_in : List ℕ) (parts : List (List ℕ)) (old new : Sight) → IsShown command script cert_in parts old new Answered → IsTrueUpgrade command script cert_in parts old new
upgrade-true None script cert_in parts old new shows = tt
upgrade-true (Some (solve words)) script cert_in parts old new shows = tt
upgrade-true (Some (minimize words)) script cert_in parts old new shows = tt
upgrade-true (Some (check words)) script cert_in parts old new shows = tt
upgrade-true (Some (demo words)) script cert_in parts old new shows = tt
upgrade-true (Some (plan words)) script cert_in parts old new shows = tt
upgrade-true (Some (resume words)) script cert_in parts old new shows = tt
upgrade-true (Some (join words)) script cert_in parts old new shows = tt
upgrade-true (Some (upgrade words)) script cert_in parts old new (course, can, status, went) =
    let tail : Course = can.0 in
    let status_is : tail.status ≡ Answered = sym (ap (λ (c : Course). c.status) can.2) ∙ status in
    let on = goes-on words.bound script (λ ps. CanUpgrade (goal_in words.bound script) ps words.bound words.cert words.out cert_in) (session_fault words.bound script) tail can.1 status_is in
    upgraded-of words script cert_in old new on.ps tail on.has on.can status_is (went.cert ∙ ap (λ (c : Course). appended old.cert_out c.cert) can.2)

-- ---- plans

plan-so : SessionIsOne → (words : Plan) (script cert_in : List ℕ) (parts : List (List ℕ)) (old new : Sight) → IsShown (Some (plan words)) script cert_in parts old new Answered → IsPlanned words script old new
plan-so one words script cert_in parts old new (course, can, status, went) =
    let tail : Course = can.0 in
    let status_is : tail.status ≡ Answered = sym (ap (λ (c : Course). c.status) can.2) ∙ status in
    let on = goes-on words.bound script (λ ps. CanPlan ps words.delta_bits words.margin_bits) (session_fault words.bound script) tail can.1 status_is in
    let is = on.can in
    record {
      problems = on.ps;
      session = on.has;
      answers = is.0;
      plans = is.1;
      written = went.answer ∙ ap (λ (c : Course). appended old.answer c.answer) can.2 ∙ ap (λ (c : Course). appended old.answer c.answer) is.2;
      enough = are_enough one words script on.ps on.has is.0 is.1;
    }

plan-true : SessionIsOne → (command : Option Command) (script cert_in : List ℕ) (parts : List (List ℕ)) (old new : Sight) → IsShown command script cert_in parts old new Answered → IsTruePlan command script cert_in parts old new
plan-true one None script cert_in parts old new shows = tt
plan-true one (Some (solve words)) script cert_in parts old new shows = tt
plan-true one (Some (minimize words)) script cert_in parts old new shows = tt
plan-true one (Some (check words)) script cert_in parts old new shows = tt
plan-true one (Some (demo words)) script cert_in parts old new shows = tt
plan-true one (Some (upgrade words)) script cert_in parts old new shows = tt
plan-true one (Some (resume words)) script cert_in parts old new shows = tt
plan-true one (Some (join words)) script cert_in parts old new shows = tt
plan-true one (Some (plan words)) script cert_in parts old new shows = plan-so one words script cert_in parts old new shows

-- ---- all answers

answer-true : (command : Option Command) (script cert_in : List ℕ) (parts : List (List ℕ)) (old new : Sight) → IsShown command script cert_in parts old new Answered → IsTrueAnswer command script cert_in parts old new
answer-true None script cert_in parts old new shows = tt
answer-true (Some (solve words)) script cert_in parts old new shows = solve-so words script cert_in parts old new shows
answer-true (Some (minimize words)) script cert_in parts old new shows = minimize-so words script cert_in parts old new shows
answer-true (Some (check words)) script cert_in parts old new shows = check-so words script cert_in parts old new shows
answer-true (Some (demo words)) script cert_in parts old new shows = demo-so words script cert_in parts old new shows
answer-true (Some (upgrade words)) script cert_in parts old new shows = tt
answer-true (Some (plan words)) script cert_in parts old new shows = tt
answer-true (Some (resume words)) script cert_in parts old new shows = resume-so words script cert_in parts old new shows
answer-true (Some (join words)) script cert_in parts old new shows = join_so words script cert_in parts old new shows

-- ---- of whole runs

-- the status of a run that ends with it shows what its row says
shown-with : (r : Run) (status : Status) → HasCourse r → (script cert_in : List ℕ) (parts : List (List ℕ)) → HasInput r.command r.old script cert_in parts → r.status ≡ status → IsShown r.command script cert_in parts r.old r.new status
shown-with r status course script cert_in parts tells e = subst (λ (s : Status). IsShown r.command script cert_in parts r.old r.new s) e (status_is_shown r course script cert_in parts tells)

pub answers_are_true : (r : Run) → HasCourse r → AnswersAreTrue r
answers_are_true r course script cert_in parts tells e = answer-true r.command script cert_in parts r.old r.new (shown-with r Answered course script cert_in parts tells e)

pub unsat_is_true : (r : Run) → HasCourse r → UnsatIsTrue r
unsat_is_true r course script cert_in parts tells e = unsat-true r.command script cert_in parts r.old r.new (shown-with r Answered course script cert_in parts tells e)

pub delta_sat_is_true : (r : Run) → HasCourse r → DeltaSatIsTrue r
delta_sat_is_true r course script cert_in parts tells e = delta-sat-true r.command script cert_in parts r.old r.new (shown-with r Answered course script cert_in parts tells e)

pub refusal_is_true : (r : Run) → HasCourse r → RefusalIsTrue r
refusal_is_true r course script cert_in parts tells e = refusal-true r.command script cert_in parts r.old r.new (shown-with r CertRefused course script cert_in parts tells e)

pub upgrade_is_true : (r : Run) → HasCourse r → UpgradeIsTrue r
upgrade_is_true r course script cert_in parts tells e = upgrade-true r.command script cert_in parts r.old r.new (shown-with r Answered course script cert_in parts tells e)

pub plan_is_true : SessionIsOne → (r : Run) → HasCourse r → PlanIsTrue r
plan_is_true one r course script cert_in parts tells e = plan-true one r.command script cert_in parts r.old r.new (shown-with r Answered course script cert_in parts tells e)
