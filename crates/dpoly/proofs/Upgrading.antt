-- From a certificate on its port to the same in the newest version.
use Rattle.std.proofs.Common.{◌≡◌, ◌<◌, ◌≤◌, ◌++◌, ℕ, List, [], ◌∷◌, Bool, Option, None, Ok, IfSome, length, take, refl, ap, sym, ◌∙◌, subst}
use Rattle.std.specs.Prelude.{Vec}
use Rattle.std.specs.declared.alloc.Global.{Global}
use Rattle.desk.specs.declared.desk.Port.TheVariants.{CertIn}
use Rattle.desk.specs.Sight.{Sight, ReadStep, with_start}
use Rattle.desk.specs.Texts.{ReadsSome}
use Rattle.desk.proofs.Reading.{read_start, read_step, read_end}
use Rattle.poly_graph.specs.Problem.{Problem}
use Rattle.poly_graph.specs.ProblemViews.{Parts}
use Rattle.problem_session.specs.Session.{problems_of}
use Rattle.cert_model.specs.Accepted.{accepted, refused, most_bytes}
use Rattle.cert_model.specs.Session.{SessionVerdict, session_verdict}
use Rattle.cert_check.specs.declared.checker.Verdict as told
use Rattle.cert_check.specs.declared.fault.CertFault.{CertFault}
use Rattle.cert_check.specs.declared.feed.Feed.{Feed}
use Rattle.cert_check.specs.Feeding.{IsRefusalOrMemory, IsSessionVerdictOrMemory}
use Rattle.cert_check.specs.Sessions.{HasTakenSession, IsSessionVerdict}
use Rattle.cert_upgrade.specs.Upgraded.{upgraded}
use Rattle.cert_upgrade.proofs.Upgrades.{upgraded_is_accepted}
use Rattle.check_run.specs.declared.status.Status.{Status}
use Rattle.check_run.specs.Course.{Course, gives, Ends, RunEnds, on_course}
use Rattle.check_run.specs.Can.{CanUpgrade, CanUpgradeBy, upgraded_text, verdict_course}
use Rattle.check_run.specs.Check.{IsRefused, IsRefusalOf}
use Rattle.dpoly.specs.Upgrade.{IsConfirmed, IsKept, IsUpgradeOf}
use Rattle.check_run.proofs.Ending.{run_behind, over, after_cert_in}
use Rattle.check_run.proofs.Verdicts.{CheckedSoFar}

-- ---- the port, read by pieces and kept

-- the bytes that were read and taken are kept
pub record KeptSoFar (session : List (Parts × Bool)) (bound : Option ℕ) (f : Feed) (kept : List ℕ) (old now : Sight) : Type 0 where
  pub checked : CheckedSoFar session bound f old now
  pub kept_are : checked.bytes ≡ kept

pub kept_start : (session : List (Parts × Bool)) (bound : Option ℕ) (f : Feed) (kept : List ℕ) (d : Sight) → HasTakenSession session bound [] f → kept ≡ [] → KeptSoFar session bound f kept d d
kept_start session bound f kept d has e = record { checked = record { bytes = []; read = read_start CertIn d; has = has }; kept_are = sym e }

confirmed : (v : SessionVerdict) (ws : Vec told.Verdict Global) → IsSessionVerdict v (Ok ws) → IsConfirmed v
confirmed (accepted s values) ws h = tt
confirmed (refused f n) ws h = absurd h

module _ (session : List (Parts × Bool)) (bound : Option ℕ) (f : Feed) (kept : List ℕ) (n : ℕ) (buffer : List ℕ) (old now new : Sight) where
  pub kept_step : (more : Feed) (later : List ℕ) → KeptSoFar session bound f kept old now → ReadStep CertIn n buffer now new
      → ((q : List (Parts × Bool)) (b : Option ℕ) (bs : List ℕ) → HasTakenSession q b bs f → HasTakenSession q b (bs ++ take n buffer) more) → later ≡ kept ++ take n buffer → KeptSoFar session bound more later old new
  kept_step more later so_far step goes e = record {
    checked = record {
      bytes = so_far.checked.bytes ++ take n buffer;
      read = read_step CertIn n so_far.checked.bytes buffer old now new so_far.checked.read step;
      has = goes session bound so_far.checked.bytes so_far.checked.has;
    };
    kept_are = ap (λ (bs : List ℕ). bs ++ take n buffer) so_far.kept_are ∙ sym e;
  }

  pub kept_end : (ws : Vec told.Verdict Global) → n ≡ 0 → 0 < length buffer → KeptSoFar session bound f kept old now → ReadStep CertIn n buffer now new
      → ((q : List (Parts × Bool)) (b : Option ℕ) (bs : List ℕ) → HasTakenSession q b bs f → IsSessionVerdictOrMemory (session_verdict (problems_of q) b bs) (Ok ws)) → IfSome old.cert_in (IsKept (problems_of session) bound kept)
  kept_end ws none room so_far step tells =
      let all = read_end CertIn n so_far.checked.bytes buffer old now new none room so_far.checked.read step in
      over (λ (held : List ℕ). so_far.checked.bytes ≡ held) (IsKept (problems_of session) bound kept) old.cert_in all.all
      (λ held e. record {
        same = sym so_far.kept_are ∙ e;
        confirmed = confirmed (session_verdict (problems_of session) bound held) ws (subst (λ (bs : List ℕ). IsSessionVerdict (session_verdict (problems_of session) bound bs) (Ok ws)) e (tells session bound so_far.checked.bytes so_far.checked.has));
      })

-- ---- the certificate that is written

pub upgrade_of : (name kept text bytes : List ℕ) (old new : Sight) (result : Status) → text ≡ upgraded kept → length text ≤ most_bytes → bytes ≡ text → Ends (gives name bytes upgraded_text) old new result →
    RunEnds (IsUpgradeOf name kept) [] old new result
upgrade_of name kept text bytes old new result e fits same ends =
    on_course (gives name (upgraded kept) upgraded_text) (record { fits = subst (λ (t : List ℕ). length t ≤ most_bytes) e fits; same = refl })
    (subst (λ (t : List ℕ). Ends (gives name t upgraded_text) old new result) (same ∙ e) ends)

-- ---- the ends of a run behind its problems

module _ (ps : List (Problem × Bool)) (bound : Option ℕ) (name out : List ℕ) where
  upgrades-by : (cert : List ℕ) (v : SessionVerdict) → session_verdict ps bound cert ≡ v → IsConfirmed v → (tail : Course) → IsUpgradeOf out cert tail → CanUpgradeBy v ps bound out cert tail
  upgrades-by cert (accepted s values) e is tail one = (upgraded_is_accepted ps bound cert s values e one.fits, one.same)
  upgrades-by cert (refused f n) e is tail one = absurd is

  refuses-by : (cert : List ℕ) (v : SessionVerdict) → IsRefused v → (tail : Course) → tail ≡ verdict_course v → CanUpgradeBy v ps bound out cert tail
  refuses-by cert (accepted s values) is tail e = absurd is
  refuses-by cert (refused f n) is tail e = e

  pub upgraded_ends : (kept : List ℕ) (old first mid new : Sight) (status : Status) → first ≡ with_start CertIn name old → ReadsSome CertIn first mid
      → IfSome first.cert_in (IsKept ps bound kept) → RunEnds (IsUpgradeOf out kept) [] mid new status
      → IfSome old.cert_in (λ cert. RunEnds (CanUpgrade None ps bound name out cert) ((CertIn, name) ∷ []) old new status)
  upgraded_ends kept old first mid new status started some is ends =
      over (IsKept ps bound kept) (λ (cert : List ℕ). RunEnds (CanUpgrade None ps bound name out cert) ((CertIn, name) ∷ []) old new status) old.cert_in
      (subst (λ (o : Option (List ℕ)). IfSome o (IsKept ps bound kept)) (ap (λ (d : Sight). d.cert_in) started) is)
      (λ cert h.
      run_behind (IsUpgradeOf out cert) (CanUpgrade None ps bound name out cert) (CertIn, name) [] old mid new status (after_cert_in name old first mid started some)
      (λ tail can. (tail, upgrades-by cert (session_verdict ps bound cert) refl h.confirmed tail can, refl))
      (subst (λ (bs : List ℕ). RunEnds (IsUpgradeOf out bs) [] mid new status) h.same ends))

  pub refused_ends : (fault : CertFault) (old first mid new : Sight) (status : Status) → first ≡ with_start CertIn name old → ReadsSome CertIn first mid
      → IfSome first.cert_in (λ cert. IsRefusalOrMemory (session_verdict ps bound cert) fault) → RunEnds (IsRefusalOf fault) [] mid new status
      → IfSome old.cert_in (λ cert. RunEnds (CanUpgrade None ps bound name out cert) ((CertIn, name) ∷ []) old new status)
  refused_ends fault old first mid new status started some tells ends =
      over (λ (cert : List ℕ). IsRefusalOrMemory (session_verdict ps bound cert) fault) (λ (cert : List ℕ). RunEnds (CanUpgrade None ps bound name out cert) ((CertIn, name) ∷ []) old new status) old.cert_in
      (subst (λ (o : Option (List ℕ)). IfSome o (λ cert. IsRefusalOrMemory (session_verdict ps bound cert) fault)) (ap (λ (d : Sight). d.cert_in) started) tells)
      (λ cert h.
      run_behind (IsRefusalOf fault) (CanUpgrade None ps bound name out cert) (CertIn, name) [] old mid new status (after_cert_in name old first mid started some)
      (λ tail can. (tail, refuses-by cert (session_verdict ps bound cert) (can (session_verdict ps bound cert) h).0 tail (can (session_verdict ps bound cert) h).1, refl)) ends)
