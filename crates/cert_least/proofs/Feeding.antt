-- A certificate that comes by pieces.
use Rattle.std.proofs.Common.{◌≡◌, ◌⊎◌, ◌+◌, ◌-◌, ◌<◌, ◌≤◌, ◌++◌, ℕ, List, [], map, Bool, false, true, cond, Option, Result, Ok, Err, length, take, drop, ap, sym, ◌∙◌, subst, inl, inr, arith, append_assoc, length-append, length-take-le, length-drop, take-append-drop}
use Rattle.poly_graph.specs.ProblemViews.{Parts, problem_of}
use Rattle.cert_read.specs.CertLine.{parsed}
use Rattle.cert_read.specs.Reading.{lines_ahead, fed}
use Rattle.cert_read.specs.State.{Reading}
use Rattle.cert_model.specs.Accepted.{most_bytes, accepted, refused}
use Rattle.goal_limit.specs.Limits.{has_room}
use Rattle.cert_model.specs.Least.{GoalVerdict, goal_verdict}
use Rattle.cert_check.specs.declared.fault.CertFault.{CertFault}
use Rattle.cert_check.specs.declared.fault.CertFault.TheVariants.{Memory}
use Rattle.cert_check.specs.Courses.{IsRefusal}
use Rattle.cert_check.specs.Feeding.{IsRefusalOrMemory}
use Rattle.cert_least.specs.declared.verdict.GoalVerdict as told
use Rattle.cert_least.specs.declared.feed.GoalFeed.{GoalFeed}
use Rattle.cert_least.specs.Aims.{Aim, aim_verdict}
use Rattle.cert_least.specs.Checked.{GoalChecked, fresh, aim_at}
use Rattle.cert_least.specs.Courses.{Takes, Finishes, IsAt, IsCutOff, IsFed, IsVerdict}
use Rattle.cert_least.specs.Feeding.{HasTaken, HasTakenFor, IsEnded, IsVerdictOrMemory}
use Rattle.cert_least.proofs.Fed.{led_nothing, fed_nothing, fed_on}
use Rattle.cert_least.proofs.Verdicts.{verdict_is_told, fault_is_told, too_long_is_told}

-- nothing was taken yet
pub feed_start : (a : Aim) (f : GoalFeed) → f.checker ≡ fresh a → f.reader ≡ record { unread = []; ended = false } → f.taken ≡ 0 → HasTakenFor a [] f
feed_start a f g e' e'' =
    let same : f.checker.aim ≡ a = ap (λ (c : GoalChecked). c.aim) g in
    let is_fresh : f.checker ≡ fresh f.checker.aim = g ∙ ap fresh (sym same) in
    record {
      aim = same;
      fed = subst (λ (r : Reading). IsFed [] f.checker r.unread) (sym e') (fed_nothing f.checker is_fresh);
      at = inr (led_nothing f.checker is_fresh);
      unended = ap (λ (r : Reading). r.ended) e';
      count = e'';
    }

fed_open : (r : Reading) (piece : List ℕ) → r.ended ≡ false → fed r piece ≡ record { unread = r.unread ++ piece; ended = false }
fed_open r piece e = ap (λ (t : Bool). cond t r (record { unread = r.unread ++ piece; ended = false })) e

-- a piece was fed, and its lines were taken
module _ (a : Aim) (bytes piece : List ℕ) (old new : GoalFeed) (ahead : Reading) where
  is_fed : HasTakenFor a bytes old → ahead ≡ fed old.reader piece → IsFed (bytes ++ piece) old.checker ahead.unread
  is_fed has e =
      subst (λ (r : Reading). IsFed (bytes ++ piece) old.checker r.unread) (sym (e ∙ fed_open old.reader piece has.unended)) (fed_on old.checker bytes old.reader.unread piece has.fed)

  is_open : HasTakenFor a bytes old → ahead ≡ fed old.reader piece → ahead.ended ≡ false
  is_open has e = ap (λ (r : Reading). r.ended) (e ∙ fed_open old.reader piece has.unended)

  is_at : HasTakenFor a bytes old → ahead ≡ fed old.reader piece → ((bs : List ℕ) → IsFed bs old.checker ahead.unread → IsAt new.checker bs ahead.ended)
      → IsAt new.checker (bytes ++ piece) false
  is_at has e at = subst (λ (t : Bool). IsAt new.checker (bytes ++ piece) t) (is_open has e) (at (bytes ++ piece) (is_fed has e))

  pub piece_taken : (x : Unit {0}) → HasTakenFor a bytes old → ahead ≡ fed old.reader piece → Takes old.checker (map parsed (lines_ahead ahead)) new.checker (Ok x)
      → ((bs : List ℕ) → IsFed bs old.checker ahead.unread → IsAt new.checker bs ahead.ended)
      → ((bs : List ℕ) → ahead.ended ≡ false → IsFed bs old.checker ahead.unread → IsFed bs new.checker new.reader.unread)
      → new.reader.ended ≡ ahead.ended → new.taken ≡ old.taken + length piece → HasTakenFor a (bytes ++ piece) new
  piece_taken x has e t at on ended count = record {
    aim = t.aim ∙ has.aim;
    fed = on (bytes ++ piece) (is_open has e) (is_fed has e);
    at = is_at has e at;
    unended = ended ∙ is_open has e;
    count = omega (arith, count, has.count, length-append bytes piece);
  }

  pub piece_faulty : (f : CertFault) → HasTakenFor a bytes old → old.taken + length piece ≤ most_bytes → ahead ≡ fed old.reader piece → Takes old.checker (map parsed (lines_ahead ahead)) new.checker (Err f)
      → ((bs : List ℕ) → IsFed bs old.checker ahead.unread → IsAt new.checker bs ahead.ended)
      → (rest : List ℕ) → IsRefusalOrMemory (aim_verdict a ((bytes ++ piece) ++ rest)) f
  piece_faulty f has few e t at rest =
      let size : length (bytes ++ piece) ≤ most_bytes = omega (arith, few, has.count, length-append bytes piece) in
      subst (λ (k : Aim). IsRefusalOrMemory (aim_verdict k ((bytes ++ piece) ++ rest)) f) (t.aim ∙ has.aim)
      (fault_is_told new.checker (bytes ++ piece) rest f size (is_at has e at) t.answers)

-- ---- a piece with which the certificate is too long

module _ (a : Aim) (bytes piece : List ℕ) (n : ℕ) where
  parted : (rest : List ℕ) → (bytes ++ take n piece) ++ (drop n piece ++ rest) ≡ (bytes ++ piece) ++ rest
  parted rest =
      append_assoc bytes (take n piece) (drop n piece ++ rest)
      ∙ ap (λ (l : List ℕ). bytes ++ l) (sym (append_assoc (take n piece) (drop n piece) rest) ∙ ap (λ (l : List ℕ). l ++ rest) (take-append-drop n piece))
      ∙ sym (append_assoc bytes piece rest)

  pub first_faulty : (f : CertFault) → ((rest : List ℕ) → IsRefusalOrMemory (aim_verdict a ((bytes ++ take n piece) ++ rest)) f)
      → (rest : List ℕ) → IsRefusalOrMemory (aim_verdict a ((bytes ++ piece) ++ rest)) f
  first_faulty f h rest = subst (λ (bs : List ℕ). IsRefusalOrMemory (aim_verdict a bs) f) (parted rest) (h (drop n piece ++ rest))

  -- the first part of the piece fills the certificate
  pub piece_too_long : (f : CertFault) (old c : GoalFeed) → HasTakenFor a bytes old → HasTakenFor a (bytes ++ take n piece) c → old.taken ≤ most_bytes → n ≡ most_bytes - old.taken → n < length piece → IsCutOff c.checker.course f
      → (rest : List ℕ) → IsRefusalOrMemory (aim_verdict a ((bytes ++ piece) ++ rest)) f
  piece_too_long f old c before has few left beyond cut rest =
      let full : length (bytes ++ take n piece) ≡ most_bytes = omega (arith, few, left, before.count, length-append bytes (take n piece), length-take-le n piece (omega (arith, beyond))) in
      let more : 0 < length (drop n piece ++ rest) = omega (arith, beyond, length-drop n piece, length-append (drop n piece) rest) in
      subst (λ (bs : List ℕ). IsRefusalOrMemory (aim_verdict a bs) f) (parted rest)
      (subst (λ (k : Aim). IsRefusalOrMemory (aim_verdict k ((bytes ++ take n piece) ++ (drop n piece ++ rest))) f) has.aim
      (too_long_is_told c.checker (bytes ++ take n piece) (drop n piece ++ rest) f full more has.at cut))

-- ---- the end

-- the lines that were not taken yet are taken
pub rest_taken : (a : Aim) (bytes : List ℕ) (old : GoalFeed) (ahead : Reading) (c : GoalChecked) (x : Result (Unit {0}) CertFault)
    → HasTakenFor a bytes old → ahead ≡ record old.reader { ended = true } → Takes old.checker (map parsed (lines_ahead ahead)) c x
    → ((bs : List ℕ) → IsFed bs old.checker ahead.unread → IsAt c bs ahead.ended) → (c.aim ≡ a) × IsAt c bytes true
rest_taken a bytes old ahead c x has e t at =
    let fed : IsFed bytes old.checker ahead.unread = subst (λ (r : Reading). IsFed bytes old.checker r.unread) (sym e) has.fed in
    (t.aim ∙ has.aim, subst (λ (b : Bool). IsAt c bytes b) (ap (λ (r : Reading). r.ended) e) (at bytes fed))

verdict-or : (a : Aim) (v : GoalVerdict) (r : Result told.GoalVerdict CertFault) → (r ≡ Err Memory) ⊎ IsVerdict a v r → IsVerdictOrMemory a v r
verdict-or a v (Ok w) (inl e) = cc
verdict-or a v (Ok w) (inr h) = h
verdict-or a v (Err f) (inl e) = inl cc
verdict-or a v (Err f) (inr h) = inr (refusal v h) where
  refusal : (v : GoalVerdict) → IsVerdict a v (Err f) → IsRefusal v f
  refusal (accepted s x) h = h
  refusal (refused g n) h = h

pub ends_here : (p : Parts) (g : ℕ) (bound : Option ℕ) (bytes : List ℕ) (old : GoalFeed) (c : GoalChecked) (r : Result told.GoalVerdict CertFault)
    → HasTaken p g bound bytes old → old.taken ≤ most_bytes → IsEnded old c → Finishes c.aim c.course r → IsVerdictOrMemory (aim_at p g bound) (goal_verdict (problem_of p) g (has_room (problem_of p)) bound bytes) r
ends_here p g bound bytes old c r has few ended finishes =
    let a : Aim = aim_at p g bound in
    let is = ended a bytes has in
    verdict-or a (aim_verdict a bytes) r
    (subst (λ (k : Aim). (r ≡ Err Memory) ⊎ IsVerdict k (aim_verdict k bytes) r) is.0
    (verdict_is_told c bytes r (omega (arith, few, has.count)) is.1 finishes))
