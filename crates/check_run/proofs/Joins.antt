-- What the answers of `join` say of its script and its certificates.
use Rattle.std.proofs.Common.{◌≡◌, ℕ, List, [], ◌++◌, Option, Some, None, refl, ap, sym, subst, ◌∙◌}
use Rattle.desk.specs.Sight.{Sight}
use Rattle.command_line.specs.Words.{Join, join}
use Rattle.poly_graph.specs.Problem.{Problem}
use Rattle.cert_model.specs.Due.{Value, left_open}
use Rattle.cert_model.specs.Accepted.{IsAccepted}
use Rattle.cert_model.specs.AnswerText.{check_text}
use Rattle.headline.proofs.Headline.{unsat_is}
use Rattle.script_fault.specs.declared.fault.ScriptFault.{ScriptFault}
use Rattle.script_reading.specs.Faults.{script_fault}
use Rattle.script_reading.specs.Reader.{commands_of, HasProblem}
use Rattle.check_run.specs.declared.status.Status.TheVariants.{Answered, CertRefused}
use Rattle.check_run.specs.Course.{Course, appended}
use Rattle.check_run.specs.Can.{CanBy, OfProblem}
use Rattle.check_run.specs.Joined.{CanJoin, joins, refuses}
use Rattle.check_run.specs.Run.{IsShown}
use Rattle.check_run.specs.Headline.{IsJoined, IsTrueDeltaSat, IsTrueRefusal, IsTrueUnsat, IsWritten, confirmed_delta_sat_word, confirmed_unsat_word}
use Rattle.check_run.proofs.Differ.{written-is, answered-not, certificate-refused-not, confirms-delta-sat, confirms-unsat, delta-so, refused-not, script-refused-not}
use Rattle.check_run.proofs.Resumes.{value-so}

-- what is done with the problem of a script
abbrev Goes : Option ℕ → List ℕ → List (List ℕ) → Course → Type 0
Goes b script parts course = OfProblem b script (λ p. CanJoin p b parts) course

-- ---- where it answers

joined-by : (b : Option ℕ) (script : List ℕ) (parts : List (List ℕ)) (old new : Sight) (p : Problem) (tail : Course) → HasProblem b p script → CanJoin p b parts tail → tail.status ≡ Answered →
    new.answer ≡ appended old.answer tail.answer → new.cert_out ≡ appended old.cert_out tail.cert → IsJoined b script parts old new
joined-by b script parts old new p tail has (joins cert s v accepts together e) status wrote kept = record {
  problem = p;
  has = has;
  cert = cert;
  loosenings = s;
  value = v;
  written = kept ∙ ap (λ (c : Course). appended old.cert_out c.cert) e;
  accepted = accepts;
  joins = together;
  answer = wrote ∙ ap (λ (c : Course). appended old.answer c.answer) e;
  say = value-so b script p cert s v has.built accepts;
}
joined-by b script parts old new p tail has (refuses text reason e) status wrote kept = absurd (certificate-refused-not tail.status (ap (λ (c : Course). c.status) e) status)

joined-of : (b : Option ℕ) (script : List ℕ) (parts : List (List ℕ)) (old new : Sight) (f : Option ScriptFault) (tail : Course) → script_fault b script ≡ f → CanBy f (Goes b script parts) tail → tail.status ≡ Answered →
    new.answer ≡ appended old.answer tail.answer → new.cert_out ≡ appended old.cert_out tail.cert → IsJoined b script parts old new
joined-of b script parts old new (Some f) tail e can status wrote kept = absurd (refused-not tail.status (ap (λ (c : Course). c.status) can) status)
joined-of b script parts old new None tail e can status wrote kept = joined-by b script parts old new can.0 tail (record { clean = e; built = can.1 }) can.2 status wrote kept

pub join_so : (words : Join) (script cert_in : List ℕ) (parts : List (List ℕ)) (old new : Sight) → IsShown (Some (join words)) script cert_in parts old new Answered → IsJoined words.bound script parts old new
join_so words script cert_in parts old new (course, can, status, went) =
    joined-of words.bound script parts old new (script_fault words.bound script) can.0 refl can.1 (sym (ap (λ (c : Course). c.status) can.2) ∙ status)
    (went.answer ∙ ap (λ (c : Course). appended old.answer c.answer) can.2) (went.cert ∙ ap (λ (c : Course). appended old.cert_out c.cert) can.2)

-- ---- what it answers

pub join_unsat : (words : Join) (script cert_in : List ℕ) (parts : List (List ℕ)) (old new : Sight) → IsShown (Some (join words)) script cert_in parts old new Answered → IsTrueUnsat (Some (join words)) script cert_in parts old new
join_unsat words script cert_in parts old new shows rest wrote =
    let so = join_so words script cert_in parts old new shows in
    let b : Option ℕ = words.bound in
    let text : confirmed_unsat_word ++ rest ≡ check_text so.loosenings so.value = written-is old.answer new.answer (confirmed_unsat_word ++ rest) (check_text so.loosenings so.value) wrote so.answer in
    let none : so.value ≡ left_open [] = confirms-unsat so.loosenings rest so.value text in
    let accepts = subst (λ (v : Value). IsAccepted so.problem b so.cert so.loosenings v) none so.accepted in (
      so.loosenings,
      subst (λ (t : List ℕ). IsWritten t old new) (text ∙ ap (λ (v : Value). check_text so.loosenings v) none) wrote,
      record {
        no_point = unsat_is b (commands_of b script) so.problem so.has.built.whole so.has.built.problem so.cert so.loosenings accepts;
        problem = so.problem;
        built = so.has.built;
        cert = so.cert;
        written = so.written;
        accepted = accepts;
      },
    )

pub join_delta : (words : Join) (script cert_in : List ℕ) (parts : List (List ℕ)) (old new : Sight) → IsShown (Some (join words)) script cert_in parts old new Answered → IsTrueDeltaSat (Some (join words)) script cert_in parts old new
join_delta words script cert_in parts old new shows rest wrote =
    let so = join_so words script cert_in parts old new shows in
    let b : Option ℕ = words.bound in
    let text : confirmed_delta_sat_word ++ rest ≡ check_text so.loosenings so.value = written-is old.answer new.answer (confirmed_delta_sat_word ++ rest) (check_text so.loosenings so.value) wrote so.answer in
    let point = confirms-delta-sat so.loosenings rest so.value text in
    let accepts = subst (λ (v : Value). IsAccepted so.problem b so.cert so.loosenings v) point.1 so.accepted in (
      so.loosenings,
      point.0,
      subst (λ (t : List ℕ). IsWritten t old new) (text ∙ ap (λ (v : Value). check_text so.loosenings v) point.1) wrote,
      record {
        point = delta-so b script so.problem so.cert so.loosenings point.0 so.has.built accepts;
        problem = so.problem;
        built = so.has.built;
        cert = so.cert;
        written = so.written;
        accepted = accepts;
      },
    )

-- ---- where it joins none

refused-by : (words : Join) (script cert_in : List ℕ) (parts : List (List ℕ)) (old new : Sight) (p : Problem) (tail : Course) → HasProblem words.bound p script → CanJoin p words.bound parts tail → tail.status ≡ CertRefused →
    new.answer ≡ appended old.answer tail.answer → new.cert_out ≡ appended old.cert_out tail.cert → IsTrueRefusal (Some (join words)) script cert_in parts old new
refused-by words script cert_in parts old new p tail has (joins cert s v accepts together e) status wrote none = absurd (answered-not tail.status (ap (λ (c : Course). c.status) e) status)
refused-by words script cert_in parts old new p tail has (refuses text reason e) status wrote none = (
  record { problem = p; has = has; text = text; reason = reason; written = wrote ∙ ap (λ (c : Course). appended old.answer c.answer) e },
  none ∙ ap (λ (c : Course). appended old.cert_out c.cert) e,
)

refused-of : (words : Join) (script cert_in : List ℕ) (parts : List (List ℕ)) (old new : Sight) (f : Option ScriptFault) (tail : Course) → script_fault words.bound script ≡ f → CanBy f (Goes words.bound script parts) tail → tail.status ≡ CertRefused →
    new.answer ≡ appended old.answer tail.answer → new.cert_out ≡ appended old.cert_out tail.cert → IsTrueRefusal (Some (join words)) script cert_in parts old new
refused-of words script cert_in parts old new (Some f) tail e can status wrote none = absurd (script-refused-not tail.status (ap (λ (c : Course). c.status) can) status)
refused-of words script cert_in parts old new None tail e can status wrote none = refused-by words script cert_in parts old new can.0 tail (record { clean = e; built = can.1 }) can.2 status wrote none

pub join_refused : (words : Join) (script cert_in : List ℕ) (parts : List (List ℕ)) (old new : Sight) → IsShown (Some (join words)) script cert_in parts old new CertRefused → IsTrueRefusal (Some (join words)) script cert_in parts old new
join_refused words script cert_in parts old new (course, can, status, went) =
    refused-of words script cert_in parts old new (script_fault words.bound script) can.0 refl can.1 (sym (ap (λ (c : Course). c.status) can.2) ∙ status)
    (went.answer ∙ ap (λ (c : Course). appended old.answer c.answer) can.2) (went.cert ∙ ap (λ (c : Course). appended old.cert_out c.cert) can.2)
