-- From a certificate of a script with a goal on its port to the same in the newest version.
use Rattle.std.proofs.Common.{◌≡◌, ◌<◌, ◌≤◌, ◌++◌, inl, inr, ℕ, List, [], ◌∷◌, Bool, Option, Some, Ok, IfSome, length, take, map, refl, ap, sym, ◌∙◌, subst}
use Rattle.std.specs.Prelude.{slice_get}
use Rattle.std.proofs.lemmas.Option.{same_Some}
use Rattle.desk.specs.declared.desk.Port.TheVariants.{CertIn}
use Rattle.desk.specs.Sight.{Sight, ReadStep, with_start}
use Rattle.desk.specs.Texts.{ReadsSome}
use Rattle.desk.proofs.Reading.{read_start, read_step, read_end}
use Rattle.poly_graph.specs.Problem.{Problem}
use Rattle.poly_graph.specs.ProblemViews.{Parts, problem_of}
use Rattle.problem_session.specs.Session.{problems_of}
use Rattle.cert_model.specs.Accepted.{accepted, refused, most_bytes}
use Rattle.cert_model.specs.Least.{GoalVerdict, goal_verdict}
use Rattle.cert_model.specs.Session.{SessionVerdict}
use Rattle.goal_limit.specs.Limits.{has_room}
use Rattle.cert_check.specs.declared.fault.CertFault.{CertFault}
use Rattle.cert_check.specs.Feeding.{IsRefusalOrMemory}
use Rattle.cert_least.specs.declared.feed.GoalFeed.{GoalFeed}
use Rattle.cert_least.specs.declared.verdict.GoalVerdict as told
use Rattle.cert_least.specs.Aims.{Aim}
use Rattle.cert_least.specs.Checked.{aim_at}
use Rattle.cert_least.specs.Courses.{IsVerdict}
use Rattle.cert_least.specs.Feeding.{HasTaken, HasTakenFor, IsVerdictOrMemory}
use Rattle.cert_upgrade.specs.Upgraded.{upgraded}
use Rattle.cert_upgrade.proofs.Upgrades.{upgraded_is_accepted_of_goal}
use Rattle.check_run.specs.declared.status.Status.{Status}
use Rattle.check_run.specs.Course.{Course, RunEnds}
use Rattle.check_run.specs.Can.{CanUpgrade, CanUpgradeOfGoal, goal_course, verdict_course}
use Rattle.check_run.specs.Check.{IsGoalOf, IsRefused, IsRefusalOf}
use Rattle.check_run.proofs.Ending.{run_behind, over, widen, after_cert_in}
use Rattle.check_run.proofs.GoalVerdicts.{GoalCheckedSoFar}
use Rattle.dpoly.specs.Upgrade.{CanUpgradeGoal, EndsOnGoalUpgrade, EndsOnUpgrade, IsConfirmed, IsGoalKept, IsUpgradeOf}

-- ---- the port, read by pieces and kept

-- the bytes that were read and taken are kept
pub record GoalKeptSoFar (p : Parts) (g : ℕ) (bound : Option ℕ) (f : GoalFeed) (kept : List ℕ) (old now : Sight) : Type 0 where
  pub checked : GoalCheckedSoFar p g bound f old now
  pub kept_are : checked.bytes ≡ kept

pub goal_kept_start : (p : Parts) (g : ℕ) (bound : Option ℕ) (f : GoalFeed) (kept : List ℕ) (d : Sight) → HasTaken p g bound [] f → kept ≡ [] → GoalKeptSoFar p g bound f kept d d
goal_kept_start p g bound f kept d has e = record { checked = record { bytes = []; read = read_start CertIn d; has = has }; kept_are = sym e }

confirmed : (a : Aim) (v : GoalVerdict) (w : told.GoalVerdict) → IsVerdict a v (Ok w) → IsConfirmed v
confirmed a (accepted s v) w h = tt
confirmed a (refused f n) w h = absurd h

module _ (p : Parts) (g : ℕ) (bound : Option ℕ) (f : GoalFeed) (kept : List ℕ) (n : ℕ) (buffer : List ℕ) (old now new : Sight) where
  pub goal_kept_step : (more : GoalFeed) (later : List ℕ) → GoalKeptSoFar p g bound f kept old now → ReadStep CertIn n buffer now new
      → ((a : Aim) (bs : List ℕ) → HasTakenFor a bs f → HasTakenFor a (bs ++ take n buffer) more) → later ≡ kept ++ take n buffer → GoalKeptSoFar p g bound more later old new
  goal_kept_step more later so_far step goes e = record {
    checked = record {
      bytes = so_far.checked.bytes ++ take n buffer;
      read = read_step CertIn n so_far.checked.bytes buffer old now new so_far.checked.read step;
      has = goes (aim_at p g bound) so_far.checked.bytes so_far.checked.has;
    };
    kept_are = ap (λ (bs : List ℕ). bs ++ take n buffer) so_far.kept_are ∙ sym e;
  }

  pub goal_kept_end : (w : told.GoalVerdict) → n ≡ 0 → 0 < length buffer → GoalKeptSoFar p g bound f kept old now → ReadStep CertIn n buffer now new
      → ((q : Parts) (h : ℕ) (b : Option ℕ) (bs : List ℕ) → HasTaken q h b bs f → IsVerdictOrMemory (aim_at q h b) (goal_verdict (problem_of q) h (has_room (problem_of q)) b bs) (Ok w)) → IfSome old.cert_in (IsGoalKept (problem_of p) g bound kept)
  goal_kept_end w none room so_far step tells =
      let all = read_end CertIn n so_far.checked.bytes buffer old now new none room so_far.checked.read step in
      over (λ (held : List ℕ). so_far.checked.bytes ≡ held) (IsGoalKept (problem_of p) g bound kept) old.cert_in all.all
      (λ held e. record {
        same = sym so_far.kept_are ∙ e;
        confirmed = confirmed (aim_at p g bound) (goal_verdict (problem_of p) g (has_room (problem_of p)) bound held) w
            (subst (λ (bs : List ℕ). IsVerdict (aim_at p g bound) (goal_verdict (problem_of p) g (has_room (problem_of p)) bound bs) (Ok w)) e (tells p g bound so_far.checked.bytes so_far.checked.has));
      })

-- ---- the ends of a run behind its problem

-- a refusal is told as that of any number of checks
as-session : GoalVerdict → SessionVerdict
as-session (accepted s v) = accepted s []
as-session (refused f n) = refused f n

refusal-as : (v : GoalVerdict) (f : CertFault) → IsRefusalOrMemory v f → IsRefusalOrMemory (as-session v) f
unfolding as-session
refusal-as v f (inl e) = inl e
refusal-as (accepted s v) f (inr h) = inr h
refusal-as (refused g n) f (inr h) = inr h

module _ (q : Parts) (g : ℕ) (bound : Option ℕ) (name out : List ℕ) where
  abbrev p : Problem
  p = problem_of q

  upgrades-by : (cert : List ℕ) (v : GoalVerdict) → goal_verdict p g (has_room p) bound cert ≡ v → IsConfirmed v → (tail : Course) → IsUpgradeOf out cert tail → CanUpgradeOfGoal v p g bound out cert tail
  upgrades-by cert (accepted s v) e is tail one = (upgraded_is_accepted_of_goal p g (has_room p) bound cert s v e one.fits, one.same)
  upgrades-by cert (refused f n) e is tail one = absurd is

  refuses-by : (cert : List ℕ) (v : GoalVerdict) → IsRefused (as-session v) → (tail : Course) → tail ≡ verdict_course (as-session v) → CanUpgradeOfGoal v p g bound out cert tail
  unfolding as-session
  refuses-by cert (accepted s v) is tail e = absurd is
  refuses-by cert (refused f n) is tail e = e

  pub goal_upgraded_ends : (kept : List ℕ) (old first mid new : Sight) (status : Status) → first ≡ with_start CertIn name old → ReadsSome CertIn first mid
      → IfSome first.cert_in (IsGoalKept p g bound kept) → RunEnds (IsUpgradeOf out kept) [] mid new status → EndsOnGoalUpgrade q g bound name out old new status
  goal_upgraded_ends kept old first mid new status started some is ends =
      over (IsGoalKept p g bound kept) (λ (cert : List ℕ). RunEnds (CanUpgradeGoal p g bound name out cert) ((CertIn, name) ∷ []) old new status) old.cert_in
      (subst (λ (o : Option (List ℕ)). IfSome o (IsGoalKept p g bound kept)) (ap (λ (d : Sight). d.cert_in) started) is)
      (λ cert h.
      run_behind (IsUpgradeOf out cert) (CanUpgradeGoal p g bound name out cert) (CertIn, name) [] old mid new status (after_cert_in name old first mid started some)
      (λ tail can. (tail, upgrades-by cert (goal_verdict p g (has_room p) bound cert) refl h.confirmed tail can, refl))
      (subst (λ (bs : List ℕ). RunEnds (IsUpgradeOf out bs) [] mid new status) h.same ends))

  pub goal_refused_ends : (fault : CertFault) (old first mid new : Sight) (status : Status) → first ≡ with_start CertIn name old → ReadsSome CertIn first mid
      → IfSome first.cert_in (λ cert. IsRefusalOrMemory (goal_verdict p g (has_room p) bound cert) fault) → RunEnds (IsRefusalOf fault) [] mid new status → EndsOnGoalUpgrade q g bound name out old new status
  goal_refused_ends fault old first mid new status started some tells ends =
      over (λ (cert : List ℕ). IsRefusalOrMemory (goal_verdict p g (has_room p) bound cert) fault) (λ (cert : List ℕ). RunEnds (CanUpgradeGoal p g bound name out cert) ((CertIn, name) ∷ []) old new status) old.cert_in
      (subst (λ (o : Option (List ℕ)). IfSome o (λ cert. IsRefusalOrMemory (goal_verdict p g (has_room p) bound cert) fault)) (ap (λ (d : Sight). d.cert_in) started) tells)
      (λ cert h.
      let v : GoalVerdict = goal_verdict p g (has_room p) bound cert in
      run_behind (IsRefusalOf fault) (CanUpgradeGoal p g bound name out cert) (CertIn, name) [] old mid new status (after_cert_in name old first mid started some)
      (λ tail can. let so = can (as-session v) (refusal-as v fault h) in (tail, refuses-by cert v so.0 tail so.1, refl)) ends)

-- ---- a script with one check

only-upgraded : (q : Parts) (e : Bool) (g : ℕ) (bound : Option ℕ) (name out : List ℕ) (old new : Sight) (status : Status) → EndsOnGoalUpgrade q g bound name out old new status → EndsOnUpgrade (Some g) ((q, e) ∷ []) bound name out old new status
only-upgraded q e g bound name out old new status ends =
    let some : List ℕ → Course → Type 0 = λ cert. CanUpgradeGoal (problem_of q) g bound name out cert in
    let cant : List ℕ → Course → Type 0 = λ cert. CanUpgrade (Some g) ((problem_of q, e) ∷ []) bound name out cert in
    over (λ (cert : List ℕ). RunEnds (some cert) ((CertIn, name) ∷ []) old new status) (λ (cert : List ℕ). RunEnds (cant cert) ((CertIn, name) ∷ []) old new status) old.cert_in ends
    (λ cert h. widen (some cert) (cant cert) ((CertIn, name) ∷ []) old new status (λ course can. can) h)

-- the problem of the only check is the first
pub goal_upgrade_ends : (session : List (Parts × Bool)) (goal : Option ℕ) (g : ℕ) (p : Parts) → goal ≡ Some g → IsGoalOf goal session → slice_get (map (λ (q : Parts × Bool). q.0) session) 0 ≡ Some p
    → (bound : Option ℕ) (name out : List ℕ) (old new : Sight) (status : Status) → EndsOnGoalUpgrade p g bound name out old new status → EndsOnUpgrade goal session bound name out old new status
goal_upgrade_ends session goal g p some is at bound name out old new status ends =
    subst (λ (o : Option ℕ). EndsOnUpgrade o session bound name out old new status) (sym some) (of-session session (subst (λ (o : Option ℕ). IsGoalOf o session) some is) at) where
      of-session : (session : List (Parts × Bool)) → IsGoalOf (Some g) session → slice_get (map (λ (q : Parts × Bool). q.0) session) 0 ≡ Some p → EndsOnUpgrade (Some g) session bound name out old new status
      of-session [] h at = absurd h
      of-session ((q, e) ∷ []) h at = only-upgraded q e g bound name out old new status (subst (λ (r : Parts). EndsOnGoalUpgrade r g bound name out old new status) (sym (same_Some q p at)) ends)
      of-session (q ∷ r ∷ rest) h at = absurd h
