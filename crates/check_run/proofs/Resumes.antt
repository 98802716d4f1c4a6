-- What the answers of `resume` say of its script.
use Rattle.std.proofs.Common.{◌≡◌, inl, inr, ℕ, zero, suc, List, [], ◌∷◌, ◌++◌, Bool, true, false, cond, Option, Some, None, refl, ap, sym, subst, ◌∙◌}
use Rattle.desk.specs.Sight.{Sight}
use Rattle.command_line.specs.Words.{Resume, resume}
use Rattle.poly_graph.specs.Problem.{Problem}
use Rattle.interval_model.specs.Space.{Space}
use Rattle.cover_model.specs.State.{Loosenings, in_version}
use Rattle.cert_model.specs.Due.{Standing, Value, at_point, left_open}
use Rattle.cert_model.specs.Accepted.{IsAccepted, Verdict, accepted, refused, verdict}
use Rattle.cert_model.specs.AnswerText.{unsat_text, delta_sat_text, has_open}
use Rattle.cert_resumed.specs.Resumed.{Share, is_own, joined, own_left, others}
use Rattle.headline.proofs.Headline.{unsat_is}
use Rattle.script_fault.specs.declared.fault.ScriptFault.{ScriptFault}
use Rattle.script_reading.specs.Faults.{script_fault}
use Rattle.script_reading.specs.Reader.{commands_of, HasProblem, IsBuilt}
use Rattle.check_run.specs.declared.status.Status.TheVariants.{Answered, CertRefused}
use Rattle.check_run.specs.Course.{Course, appended}
use Rattle.check_run.specs.Can.{CanBy, OfProblem}
use Rattle.check_run.specs.Resumed.{CanResume, CanResumeBy, GoesOn, share_of, share_text, trees_left}
use Rattle.check_run.specs.Run.{IsShown}
use Rattle.check_run.specs.Headline.{IsWritten, IsResumed, IsTrueDeltaSat, IsTrueRefusal, IsTrueUnsat, IsTrueValue, delta_sat_word, unsat_word}
use Rattle.check_run.proofs.Apart.{apart}
use Rattle.check_run.proofs.Differ.{written-is, apart-left, answered-not, certificate-refused-not, refused-not, script-refused-not, delta-so}

-- ---- what is left where a share leaves nothing

both-none : (xs ys : List Standing) → xs ++ ys ≡ [] → (xs ≡ []) × (ys ≡ [])
both-none [] ys e = (refl, e)
both-none (x ∷ xs) ys e = cc

-- of one state, where it is so of the others
one-less : (b : Bool) (xs own rest : List Standing) (n : ℕ) → (own ≡ [] → n ≡ 0 → rest ≡ []) → cond b xs [] ++ own ≡ [] → cond b n (suc n) ≡ 0 → xs ++ rest ≡ []
one-less true xs own rest n h e f = let t = both-none xs own e in ap (λ (ys : List Standing). ys ++ rest) t.0 ∙ h t.1 f
one-less false xs own rest n h e f = cc

-- in no share anything is left, where nothing is in this one and no state is in another
none-left : (h : Share) (k : ℕ) (xss : List (List Standing)) → own_left h k xss ≡ [] → others h k xss ≡ 0 → joined xss ≡ []
none-left h k [] e f = refl
none-left h k (xs ∷ rest) e f = one-less (is_own h k) xs (own_left h (suc k) rest) (joined rest) (others h (suc k) rest) (none-left h (suc k) rest) e f

-- ---- what texts say

-- unsat is said where nothing is left in any share
says-unsat : (p : Problem) (budget : ℕ) (h : Share) (s : Loosenings) (own : List Standing) (n : ℕ) (rest : List ℕ) → unsat_word ++ rest ≡ share_text p budget h s own n →
    (own ≡ []) × (n ≡ 0) × (unsat_word ++ rest ≡ unsat_text s)
says-unsat p budget h s [] zero rest e = (refl, refl, e)
says-unsat p budget h s [] (suc n) rest e = absurd (apart _ _ 0 e refl)
says-unsat p budget h s (x ∷ own) n rest e = absurd (apart-left p s budget x own (unsat_word ++ rest) 2 e refl (λ j. refl) (has_open (x ∷ own)) refl)

never-delta-sat : (p : Problem) (budget : ℕ) (h : Share) (s : Loosenings) (own : List Standing) (n : ℕ) (rest : List ℕ) → delta_sat_word ++ rest ≡ share_text p budget h s own n → ⊥
never-delta-sat p budget h s [] zero rest e = apart _ _ 0 e refl
never-delta-sat p budget h s [] (suc n) rest e = apart _ _ 0 e refl
never-delta-sat p budget h s (x ∷ own) n rest e = apart-left p s budget x own (delta_sat_word ++ rest) 0 e refl (λ j. refl) (has_open (x ∷ own)) refl

-- where a certificate goes on, the answer unsat is that of a cover that leaves nothing
more-unsat : (p : Problem) (b : Option ℕ) (words : Resume) (cert_in cert : List ℕ) (s : Loosenings) (w v : Value) (text rest : List ℕ) → GoesOn p b words cert_in cert s w v text → unsat_word ++ rest ≡ text →
    (v ≡ left_open []) × (text ≡ unsat_text s)
more-unsat p b words cert_in cert s (at_point space) v text rest g e = absurd (apart _ _ 0 (e ∙ g.2) refl)
more-unsat p b words cert_in cert s (left_open []) v text rest g e = (g.1, g.2)
more-unsat p b words cert_in cert s (left_open (x ∷ left)) v text rest (inl g) e = absurd (apart _ _ 0 (e ∙ g.answer) refl)
more-unsat p b words cert_in cert s (left_open (x ∷ left)) v text rest (inr g) e =
    let xss = trees_left p b words cert_in cert g.resumed in
    let u = says-unsat p words.budget (share_of words) s (own_left (share_of words) 0 xss) (others (share_of words) 0 xss) rest (e ∙ g.answer) in
    (g.value ∙ ap left_open (none-left (share_of words) 0 xss u.0 u.1), sym e ∙ u.2)

-- and delta-sat that of a point
more-delta-sat : (p : Problem) (b : Option ℕ) (words : Resume) (cert_in cert : List ℕ) (s : Loosenings) (w v : Value) (text rest : List ℕ) → GoesOn p b words cert_in cert s w v text → delta_sat_word ++ rest ≡ text →
    (space : Space) × (v ≡ at_point space) × (text ≡ delta_sat_text p s space)
more-delta-sat p b words cert_in cert s (at_point space) v text rest g e = (space, g.1, g.2)
more-delta-sat p b words cert_in cert s (left_open []) v text rest g e = absurd (apart _ _ 0 (e ∙ g.2) refl)
more-delta-sat p b words cert_in cert s (left_open (x ∷ left)) v text rest (inl g) e = (g.space, g.value, g.answer)
more-delta-sat p b words cert_in cert s (left_open (x ∷ left)) v text rest (inr g) e = let xss = trees_left p b words cert_in cert g.resumed in
    absurd (never-delta-sat p words.budget (share_of words) s (own_left (share_of words) 0 xss) (others (share_of words) 0 xss) rest (e ∙ g.answer))

-- ---- the courses of a run that answers

pub value-so : (bound : Option ℕ) (script : List ℕ) (p : Problem) (cert : List ℕ) (s : Loosenings) (v : Value) → IsBuilt bound script p → IsAccepted p bound cert s v → IsTrueValue bound s (commands_of bound script) v
value-so bound script p cert s (at_point space) built accepts = delta-so bound script p cert s space built accepts
value-so bound script p cert s (left_open []) built accepts = unsat_is bound (commands_of bound script) p built.whole built.problem cert s accepts
value-so bound script p cert s (left_open (x ∷ left)) built accepts = tt

resumed-by : (words : Resume) (script cert_in : List ℕ) (old new : Sight) (p : Problem) (tail : Course) (v : Verdict) → HasProblem words.bound p script → verdict p words.bound cert_in ≡ v →
    CanResumeBy v p words.bound words cert_in tail → tail.status ≡ Answered → new.answer ≡ appended old.answer tail.answer → new.cert_out ≡ appended old.cert_out tail.cert → IsResumed words script cert_in old new
resumed-by words script cert_in old new p tail (accepted s w) has e can status wrote cert = record {
  problem = p;
  has = has;
  loosenings = s;
  read = w;
  accepted = e;
  cert = can.0;
  text = can.1;
  written = cert ∙ ap (λ (c : Course). appended old.cert_out c.cert) can.3;
  more = can.2;
  answer = wrote ∙ ap (λ (c : Course). appended old.answer c.answer) can.3;
  say = value-so words.bound script p can.0 (in_version can.2.version s) can.2.value has.built can.2.accepted;
}
resumed-by words script cert_in old new p tail (refused f n) has e can status wrote cert = absurd (certificate-refused-not tail.status (ap (λ (c : Course). c.status) can) status)

resumed-of : (words : Resume) (script cert_in : List ℕ) (old new : Sight) (f : Option ScriptFault) (tail : Course) → script_fault words.bound script ≡ f →
    CanBy f (OfProblem words.bound script (λ p. CanResume p words.bound words cert_in)) tail → tail.status ≡ Answered → new.answer ≡ appended old.answer tail.answer → new.cert_out ≡ appended old.cert_out tail.cert →
    IsResumed words script cert_in old new
resumed-of words script cert_in old new (Some f) tail e can status wrote cert = absurd (refused-not tail.status (ap (λ (c : Course). c.status) can) status)
resumed-of words script cert_in old new None tail e can status wrote cert =
    resumed-by words script cert_in old new can.0 tail (verdict can.0 words.bound cert_in) (record { clean = e; built = can.1 }) refl can.2 status wrote cert

pub resume-so : (words : Resume) (script cert_in : List ℕ) (parts : List (List ℕ)) (old new : Sight) → IsShown (Some (resume words)) script cert_in parts old new Answered → IsResumed words script cert_in old new
resume-so words script cert_in parts old new (course, can, status, went) =
    resumed-of words script cert_in old new (script_fault words.bound script) can.0 refl can.1 (sym (ap (λ (c : Course). c.status) can.2) ∙ status)
    (went.answer ∙ ap (λ (c : Course). appended old.answer c.answer) can.2) (went.cert ∙ ap (λ (c : Course). appended old.cert_out c.cert) can.2)

-- ---- what is answered

pub resume-unsat : (words : Resume) (script cert_in : List ℕ) (parts : List (List ℕ)) (old new : Sight) → IsShown (Some (resume words)) script cert_in parts old new Answered → IsTrueUnsat (Some (resume words)) script cert_in parts old new
resume-unsat words script cert_in parts old new shows rest wrote =
    let so = resume-so words script cert_in parts old new shows in
    let b : Option ℕ = words.bound in
    let s : Loosenings = in_version so.more.version so.loosenings in
    let text : unsat_word ++ rest ≡ so.text = written-is old.answer new.answer (unsat_word ++ rest) so.text wrote so.answer in
    let u = more-unsat so.problem b words cert_in so.cert so.loosenings so.read so.more.value so.text rest so.more.goes_on text in
    let accepts = subst (λ (v : Value). IsAccepted so.problem b so.cert s v) u.0 so.more.accepted in (
      s,
      subst (λ (t : List ℕ). IsWritten t old new) (text ∙ u.1) wrote,
      record {
        no_point = unsat_is b (commands_of b script) so.problem so.has.built.whole so.has.built.problem so.cert s accepts;
        problem = so.problem;
        built = so.has.built;
        cert = so.cert;
        written = so.written;
        accepted = accepts;
      },
    )

pub resume-delta : (words : Resume) (script cert_in : List ℕ) (parts : List (List ℕ)) (old new : Sight) → IsShown (Some (resume words)) script cert_in parts old new Answered → IsTrueDeltaSat (Some (resume words)) script cert_in parts old new
resume-delta words script cert_in parts old new shows rest wrote =
    let so = resume-so words script cert_in parts old new shows in
    let b : Option ℕ = words.bound in
    let s : Loosenings = in_version so.more.version so.loosenings in
    let text : delta_sat_word ++ rest ≡ so.text = written-is old.answer new.answer (delta_sat_word ++ rest) so.text wrote so.answer in
    let u = more-delta-sat so.problem b words cert_in so.cert so.loosenings so.read so.more.value so.text rest so.more.goes_on text in (
      so.problem,
      s,
      u.0,
      so.has.built,
      subst (λ (t : List ℕ). IsWritten t old new) (text ∙ u.2) wrote,
      delta-so b script so.problem so.cert s u.0 so.has.built (subst (λ (v : Value). IsAccepted so.problem b so.cert s v) u.1 so.more.accepted),
    )

-- ---- what is refused

refused-by : (words : Resume) (script cert_in : List ℕ) (parts : List (List ℕ)) (old new : Sight) (p : Problem) (tail : Course) (v : Verdict) → HasProblem words.bound p script → verdict p words.bound cert_in ≡ v →
    CanResumeBy v p words.bound words cert_in tail → tail.status ≡ CertRefused → new.answer ≡ appended old.answer tail.answer → new.cert_out ≡ appended old.cert_out tail.cert → IsTrueRefusal (Some (resume words)) script cert_in parts old new
refused-by words script cert_in parts old new p tail (accepted s w) has e can status wrote none = absurd (answered-not tail.status (ap (λ (c : Course). c.status) can.3) status)
refused-by words script cert_in parts old new p tail (refused f n) has e can status wrote none = (
  record { problem = p; has = has; fault = f; line = n; refuses = e; written = wrote ∙ ap (λ (c : Course). appended old.answer c.answer) can },
  none ∙ ap (λ (c : Course). appended old.cert_out c.cert) can,
)

refused-of : (words : Resume) (script cert_in : List ℕ) (parts : List (List ℕ)) (old new : Sight) (f : Option ScriptFault) (tail : Course) → script_fault words.bound script ≡ f →
    CanBy f (OfProblem words.bound script (λ p. CanResume p words.bound words cert_in)) tail → tail.status ≡ CertRefused → new.answer ≡ appended old.answer tail.answer → new.cert_out ≡ appended old.cert_out tail.cert →
    IsTrueRefusal (Some (resume words)) script cert_in parts old new
refused-of words script cert_in parts old new (Some f) tail e can status wrote none = absurd (script-refused-not tail.status (ap (λ (c : Course). c.status) can) status)
refused-of words script cert_in parts old new None tail e can status wrote none =
    refused-by words script cert_in parts old new can.0 tail (verdict can.0 words.bound cert_in) (record { clean = e; built = can.1 }) refl can.2 status wrote none

pub resume-refused : (words : Resume) (script cert_in : List ℕ) (parts : List (List ℕ)) (old new : Sight) → IsShown (Some (resume words)) script cert_in parts old new CertRefused → IsTrueRefusal (Some (resume words)) script cert_in parts old new
resume-refused words script cert_in parts old new (course, can, status, went) =
    refused-of words script cert_in parts old new (script_fault words.bound script) can.0 refl can.1 (sym (ap (λ (c : Course). c.status) can.2) ∙ status)
    (went.answer ∙ ap (λ (c : Course). appended old.answer c.answer) can.2) (went.cert ∙ ap (λ (c : Course). appended old.cert_out c.cert) can.2)
