-- A certificate that comes by pieces.
use Rattle.std.proofs.Common.{◌≡◌, ◌⊎◌, ◌+◌, ◌-◌, ◌<◌, ◌≤◌, ◌++◌, ℕ, List, [], ◌∷◌, map, Bool, false, true, cond, Option, Result, Ok, Err, Vec, length, take, drop, ap, sym, ◌∙◌, subst, inl, inr, arith, append_assoc, length-append, length-take-le, length-drop, take-append-drop}
use Rattle.std.specs.declared.alloc.Global.{Global}
use Rattle.poly_graph.specs.ProblemViews.{Parts, problem_of}
use Rattle.problem_session.specs.Session.{problems_of}
use Rattle.cert_read.specs.CertLine.{parsed}
use Rattle.cert_read.specs.Reading.{lines_ahead, fed}
use Rattle.cert_read.specs.State.{Reading}
use Rattle.cert_model.specs.Accepted.{Verdict, verdict, most_bytes}
use Rattle.cert_model.specs.Session.{SessionVerdict, session_verdict}
use Rattle.cert_check.specs.declared.checker.Verdict as told
use Rattle.cert_check.specs.declared.fault.CertFault.{CertFault}
use Rattle.cert_check.specs.declared.fault.CertFault.TheVariants.{Memory}
use Rattle.cert_check.specs.declared.feed.Feed.{Feed}
use Rattle.cert_check.specs.Checked.{Checked, fresh}
use Rattle.cert_check.specs.Courses.{Takes, Finishes, IsAt, IsCutOff, IsFed, IsVerdict}
use Rattle.cert_check.specs.Feeding.{HasTaken, IsEnded, IsRefusalOrMemory, IsVerdictOrMemory, IsSessionVerdictOrMemory}
use Rattle.cert_check.specs.Sessions.{AreChecksOf, FinishesAll, HasTakenSession, IsSessionVerdict}
use Rattle.cert_check.specs.Work.{Checks, work_verdict}
use Rattle.cert_check.proofs.Fed.{led_nothing, fed_nothing, fed_on}
use Rattle.cert_check.proofs.VerdictAnswers.{verdict_is_told, verdicts_are_told, fault_is_told, too_long_is_told}

-- nothing was taken yet
pub feed_start : (session : List (Parts × Bool)) (bound : Option ℕ) (f : Feed) → AreChecksOf session bound f.checker.checks → f.checker ≡ fresh f.checker.checks
    → f.reader ≡ record { unread = []; ended = false } → f.taken ≡ 0 → HasTakenSession session bound [] f
feed_start session bound f e g e' e'' = record {
  checks = e;
  fed = subst (λ (r : Reading). IsFed [] f.checker r.unread) (sym e') (fed_nothing f.checker g);
  at = inr (led_nothing f.checker g);
  unended = ap (λ (r : Reading). r.ended) e';
  count = e'';
}

fed_open : (r : Reading) (piece : List ℕ) → r.ended ≡ false → fed r piece ≡ record { unread = r.unread ++ piece; ended = false }
fed_open r piece e = ap (λ (t : Bool). cond t r (record { unread = r.unread ++ piece; ended = false })) e

-- the verdict for the checks of a session
session-verdict : (session : List (Parts × Bool)) (bound : Option ℕ) (c : Checks) (bytes : List ℕ) → AreChecksOf session bound c → work_verdict c bytes ≡ session_verdict (problems_of session) bound bytes
session-verdict [] bound c bytes e = absurd e
session-verdict ((p, t) ∷ []) bound c bytes e = ap (λ (k : Checks). work_verdict k bytes) e
session-verdict ((p, t) ∷ x ∷ later) bound c bytes e = ap (λ (k : Checks). work_verdict k bytes) e

-- a piece was fed, and its lines were taken
module _ (session : List (Parts × Bool)) (bound : Option ℕ) (bytes piece : List ℕ) (old new : Feed) (ahead : Reading) where
  is_fed : HasTakenSession session bound bytes old → ahead ≡ fed old.reader piece → IsFed (bytes ++ piece) old.checker ahead.unread
  is_fed has e =
      subst (λ (a : Reading). IsFed (bytes ++ piece) old.checker a.unread) (sym (e ∙ fed_open old.reader piece has.unended)) (fed_on old.checker bytes old.reader.unread piece has.fed)

  is_open : HasTakenSession session bound bytes old → ahead ≡ fed old.reader piece → ahead.ended ≡ false
  is_open has e = ap (λ (a : Reading). a.ended) (e ∙ fed_open old.reader piece has.unended)

  is_at : HasTakenSession session bound bytes old → ahead ≡ fed old.reader piece → ((bs : List ℕ) → IsFed bs old.checker ahead.unread → IsAt new.checker bs ahead.ended)
      → IsAt new.checker (bytes ++ piece) false
  is_at has e at = subst (λ (t : Bool). IsAt new.checker (bytes ++ piece) t) (is_open has e) (at (bytes ++ piece) (is_fed has e))

  pub piece_taken : (x : Unit {0}) → HasTakenSession session bound bytes old → ahead ≡ fed old.reader piece → Takes old.checker (map parsed (lines_ahead ahead)) new.checker (Ok x)
      → ((bs : List ℕ) → IsFed bs old.checker ahead.unread → IsAt new.checker bs ahead.ended)
      → ((bs : List ℕ) → ahead.ended ≡ false → IsFed bs old.checker ahead.unread → IsFed bs new.checker new.reader.unread)
      → new.reader.ended ≡ ahead.ended → new.taken ≡ old.taken + length piece → HasTakenSession session bound (bytes ++ piece) new
  piece_taken x has e t at on ended count = record {
    checks = subst (AreChecksOf session bound) (sym t.checks) has.checks;
    fed = on (bytes ++ piece) (is_open has e) (is_fed has e);
    at = is_at has e at;
    unended = ended ∙ is_open has e;
    count = omega (arith, count, has.count, length-append bytes piece);
  }

  pub piece_faulty : (f : CertFault) → HasTakenSession session bound bytes old → old.taken + length piece ≤ most_bytes → ahead ≡ fed old.reader piece → Takes old.checker (map parsed (lines_ahead ahead)) new.checker (Err f)
      → ((bs : List ℕ) → IsFed bs old.checker ahead.unread → IsAt new.checker bs ahead.ended)
      → (rest : List ℕ) → IsRefusalOrMemory (session_verdict (problems_of session) bound ((bytes ++ piece) ++ rest)) f
  piece_faulty f has few e t at rest =
      let size : length (bytes ++ piece) ≤ most_bytes = omega (arith, few, has.count, length-append bytes piece) in
      subst (λ (v : SessionVerdict). IsRefusalOrMemory v f)
      (session-verdict session bound new.checker.checks ((bytes ++ piece) ++ rest) (subst (AreChecksOf session bound) (sym t.checks) has.checks))
      (fault_is_told new.checker (bytes ++ piece) rest f size (is_at has e at) t.answers)

-- ---- a piece with which the certificate is too long

module _ (session : List (Parts × Bool)) (bound : Option ℕ) (bytes piece : List ℕ) (n : ℕ) where
  parted : (rest : List ℕ) → (bytes ++ take n piece) ++ (drop n piece ++ rest) ≡ (bytes ++ piece) ++ rest
  parted rest =
      append_assoc bytes (take n piece) (drop n piece ++ rest)
      ∙ ap (λ (l : List ℕ). bytes ++ l) (sym (append_assoc (take n piece) (drop n piece) rest) ∙ ap (λ (l : List ℕ). l ++ rest) (take-append-drop n piece))
      ∙ sym (append_assoc bytes piece rest)

  pub first_faulty : (f : CertFault) → ((rest : List ℕ) → IsRefusalOrMemory (session_verdict (problems_of session) bound ((bytes ++ take n piece) ++ rest)) f)
      → (rest : List ℕ) → IsRefusalOrMemory (session_verdict (problems_of session) bound ((bytes ++ piece) ++ rest)) f
  first_faulty f h rest = subst (λ (bs : List ℕ). IsRefusalOrMemory (session_verdict (problems_of session) bound bs) f) (parted rest) (h (drop n piece ++ rest))

  -- the first part of the piece fills the certificate
  pub piece_too_long : (f : CertFault) (old c : Feed) → HasTakenSession session bound bytes old → HasTakenSession session bound (bytes ++ take n piece) c → old.taken ≤ most_bytes → n ≡ most_bytes - old.taken → n < length piece → IsCutOff c.checker.course f
      → (rest : List ℕ) → IsRefusalOrMemory (session_verdict (problems_of session) bound ((bytes ++ piece) ++ rest)) f
  piece_too_long f old c before has few left beyond cut rest =
      let full : length (bytes ++ take n piece) ≡ most_bytes = omega (arith, few, left, before.count, length-append bytes (take n piece), length-take-le n piece (omega (arith, beyond))) in
      let more : 0 < length (drop n piece ++ rest) = omega (arith, beyond, length-drop n piece, length-append (drop n piece) rest) in
      subst (λ (bs : List ℕ). IsRefusalOrMemory (session_verdict (problems_of session) bound bs) f) (parted rest)
      (subst (λ (v : SessionVerdict). IsRefusalOrMemory v f) (session-verdict session bound c.checker.checks ((bytes ++ take n piece) ++ (drop n piece ++ rest)) has.checks)
      (too_long_is_told c.checker (bytes ++ take n piece) (drop n piece ++ rest) f full more has.at cut))

-- ---- the end

-- the lines that were not taken yet are taken
pub rest_taken : (session : List (Parts × Bool)) (bound : Option ℕ) (bytes : List ℕ) (old : Feed) (ahead : Reading) (c : Checked) (x : Result (Unit {0}) CertFault)
    → HasTakenSession session bound bytes old → ahead ≡ record old.reader { ended = true } → Takes old.checker (map parsed (lines_ahead ahead)) c x
    → ((bs : List ℕ) → IsFed bs old.checker ahead.unread → IsAt c bs ahead.ended) → AreChecksOf session bound c.checks × IsAt c bytes true
rest_taken session bound bytes old ahead c x has e t at =
    let fed : IsFed bytes old.checker ahead.unread = subst (λ (a : Reading). IsFed bytes old.checker a.unread) (sym e) has.fed in
    (subst (AreChecksOf session bound) (sym t.checks) has.checks, subst (λ (b : Bool). IsAt c bytes b) (ap (λ (a : Reading). a.ended) e) (at bytes fed))

pub ends_here : (p : Parts) (bound : Option ℕ) (bytes : List ℕ) (old : Feed) (c : Checked) (r : Result told.Verdict CertFault)
    → HasTaken p bound bytes old → old.taken ≤ most_bytes → IsEnded old c → Finishes c.course r → IsVerdictOrMemory (verdict (problem_of p) bound bytes) r
ends_here p bound bytes old c r has few ended finishes =
    let is = ended ((p, true) ∷ []) bound bytes has in
    verdict-or (verdict (problem_of p) bound bytes) r
    (subst (λ (k : Checks). (r ≡ Err Memory) ⊎ IsVerdict (verdict (problem_of k.problem) k.bound bytes) r) is.0
    (verdict_is_told c bytes r (omega (arith, few, has.count)) is.1 (ap (λ (k : Checks). k.later) is.0) finishes))
  where
    verdict-or : (v : Verdict) (r : Result told.Verdict CertFault) → (r ≡ Err Memory) ⊎ IsVerdict v r → IsVerdictOrMemory v r
    verdict-or v (Ok w) (inl e) = cc
    verdict-or v (Ok w) (inr h) = h
    verdict-or v (Err f) (inl e) = inl cc
    verdict-or v (Err f) (inr h) = inr h

pub all_end_here : (session : List (Parts × Bool)) (bound : Option ℕ) (bytes : List ℕ) (old : Feed) (c : Checked) (r : Result (Vec told.Verdict Global) CertFault)
    → HasTakenSession session bound bytes old → old.taken ≤ most_bytes → IsEnded old c → FinishesAll c.course r → IsSessionVerdictOrMemory (session_verdict (problems_of session) bound bytes) r
all_end_here session bound bytes old c r has few ended finishes =
    let is = ended session bound bytes has in
    verdict-or (session_verdict (problems_of session) bound bytes) r
    (subst (λ (v : SessionVerdict). (r ≡ Err Memory) ⊎ IsSessionVerdict v r) (session-verdict session bound c.checks bytes is.0)
    (verdicts_are_told c bytes r (omega (arith, few, has.count)) is.1 finishes))
  where
    verdict-or : (v : SessionVerdict) (r : Result (Vec told.Verdict Global) CertFault) → (r ≡ Err Memory) ⊎ IsSessionVerdict v r → IsSessionVerdictOrMemory v r
    verdict-or v (Ok w) (inl e) = cc
    verdict-or v (Ok w) (inr h) = h
    verdict-or v (Err f) (inl e) = inl cc
    verdict-or v (Err f) (inr h) = inr h
