-- An accepted certificate is accepted in the newest version.
use Rattle.std.proofs.Common.{◌≡◌, ◌≤◌, ℕ, List, [], ◌∷◌, Bool, true, false, Option, refl, ap, sym, subst, ◌∙◌, length, nat_le, take}
use Rattle.std.proofs.lemmas.Bool.{le-leb}
use Rattle.poly_graph.specs.Problem.{Problem}
use Rattle.cover_model.specs.State.{Loosenings, in_version}
use Rattle.cert_read.specs.Lines.{lines_of, lines_so_far}
use Rattle.cert_read.proofs.Pieces.{lines_of_text}
use Rattle.cert_model.specs.Due.{Value, version_due}
use Rattle.cert_model.specs.Accepted.{Verdict, accepted, refused, course, ended, verdict, verdict_of, verdict_by, IsAccepted, most_bytes}
use Rattle.cert_model.specs.Session.{SessionVerdict, session_course, session_ended, one_verdict, AreAccepted}
use Rattle.cert_model.specs.Least.{GoalValue, GoalVerdict, goal_course, goal_ended, IsGoalAccepted}
use Rattle.cert_upgrade.specs.Upgraded.{upgraded, newest_line, behind_first}
use Rattle.cert_upgrade.proofs.Breaks.{lines_lack}
use Rattle.cert_upgrade.proofs.GoalRaised
use Rattle.cert_upgrade.proofs.GoalRaised.{RaisesValue}
use Rattle.cert_upgrade.proofs.Raised.{RaisesVerdict, lines_raise, cut_raises}
use Rattle.cert_upgrade.proofs.SessionRaised
use Rattle.cert_upgrade.proofs.SessionRaised.{RaisesValues}

upgraded-lines : (bytes : List ℕ) → lines_of (upgraded bytes) ≡ newest_line ∷ behind_first (lines_of bytes)
upgraded-lines bytes = lines_of_text (newest_line ∷ behind_first (lines_of bytes)) (refl, lines_lack bytes)

-- ---- one check

module _ (p : Problem) (b : Option ℕ) where
  by-raises : (t : Bool) (bytes : List ℕ) → RaisesVerdict p b (verdict_by t p b bytes) (verdict_by true p b (upgraded bytes))
  by-raises true bytes =
      subst (λ (ls : List (List ℕ)). RaisesVerdict p b (ended (course p b 0 version_due (lines_of bytes))) (ended (course p b 0 version_due ls)))
      (sym (upgraded-lines bytes)) (lines_raise p b (lines_of bytes))
  by-raises false bytes = cut_raises p b (course p b 0 version_due (lines_so_far (take most_bytes bytes))) (verdict_by true p b (upgraded bytes))

  one-upgraded : (bytes : List ℕ) (s : Loosenings) (v : Value) → IsAccepted p b bytes s v → length (upgraded bytes) ≤ most_bytes → IsAccepted p b (upgraded bytes) (in_version 5 s) v
  one-upgraded bytes s v e h =
      ap (λ (t : Bool). verdict_by t p b (upgraded bytes)) (le-leb (length (upgraded bytes)) most_bytes h)
      ∙ subst (λ (w : Verdict). RaisesVerdict p b w (verdict_by true p b (upgraded bytes))) e (by-raises (nat_le (length bytes) most_bytes) bytes)

  one-accepted : (bytes : List ℕ) → length (upgraded bytes) ≤ most_bytes → (s : Loosenings) (values : List Value) (w : Verdict) → verdict p b bytes ≡ w → one_verdict w ≡ accepted s values →
      one_verdict (verdict p b (upgraded bytes)) ≡ accepted (in_version 5 s) values
  one-accepted bytes h s values (refused f n) e g = cc
  one-accepted bytes h s values (accepted r v) e g =
      let same : r ≡ s = cc in let one : v ∷ [] ≡ values = cc in
      subst (λ (vs : List Value). one_verdict (verdict p b (upgraded bytes)) ≡ accepted (in_version 5 s) vs) one
      (subst (λ (x : Loosenings). one_verdict (verdict p b (upgraded bytes)) ≡ accepted (in_version 5 x) (v ∷ [])) same (ap one_verdict (one-upgraded bytes r v e h)))

-- ---- several checks

module _ (p : Problem) (later : List (Problem × Bool)) (b : Option ℕ) where
  abbrev verdict_if : Bool → List ℕ → SessionVerdict
  verdict_if few bytes = verdict_of (session_course p later b) session_ended few bytes

  several-raises : (t : Bool) (bytes : List ℕ) → RaisesValues p later b (verdict_if t bytes) (verdict_if true (upgraded bytes))
  several-raises true bytes =
      subst (λ (ls : List (List ℕ)). RaisesValues p later b (verdict_if true bytes) (session_ended (session_course p later b ls)))
      (sym (upgraded-lines bytes)) (SessionRaised.lines_raise p later b (lines_of bytes))
  several-raises false bytes = SessionRaised.cut_raises p later b (session_course p later b (lines_so_far (take most_bytes bytes))) (verdict_if true (upgraded bytes))

  several-accepted : (bytes : List ℕ) (s : Loosenings) (values : List Value) → verdict_if (nat_le (length bytes) most_bytes) bytes ≡ accepted s values → length (upgraded bytes) ≤ most_bytes →
      verdict_if (nat_le (length (upgraded bytes)) most_bytes) (upgraded bytes) ≡ accepted (in_version 5 s) values
  several-accepted bytes s values e h =
      ap (λ (t : Bool). verdict_if t (upgraded bytes)) (le-leb (length (upgraded bytes)) most_bytes h)
      ∙ subst (λ (w : SessionVerdict). RaisesValues p later b w (verdict_if true (upgraded bytes))) e (several-raises (nat_le (length bytes) most_bytes) bytes)

-- ---- any number of checks

pub upgraded_is_accepted : (ps : List (Problem × Bool)) (b : Option ℕ) (bytes : List ℕ) (s : Loosenings) (values : List Value) → AreAccepted ps b bytes s values →
    length (upgraded bytes) ≤ most_bytes → AreAccepted ps b (upgraded bytes) (in_version 5 s) values
upgraded_is_accepted [] b bytes s values e h = cc
upgraded_is_accepted ((p, f) ∷ []) b bytes s values e h = one-accepted p b bytes h s values (verdict p b bytes) refl e
upgraded_is_accepted ((p, f) ∷ next ∷ later) b bytes s values e h = several-accepted p (next ∷ later) b bytes s values e h

-- ---- of a script with a goal

module _ (p : Problem) (g : ℕ) (room : Bool) (b : Option ℕ) where
  abbrev goal_verdict_if : Bool → List ℕ → GoalVerdict
  goal_verdict_if few bytes = verdict_of (goal_course p g room b) goal_ended few bytes

  goal-raises : (t : Bool) (bytes : List ℕ) → RaisesValue p g room b (goal_verdict_if t bytes) (goal_verdict_if true (upgraded bytes))
  goal-raises true bytes =
      subst (λ (ls : List (List ℕ)). RaisesValue p g room b (goal_verdict_if true bytes) (goal_ended (goal_course p g room b ls)))
      (sym (upgraded-lines bytes)) (GoalRaised.lines_raise p g room b (lines_of bytes))
  goal-raises false bytes = GoalRaised.cut_raises p g room b (goal_course p g room b (lines_so_far (take most_bytes bytes))) (goal_verdict_if true (upgraded bytes))

  pub upgraded_is_accepted_of_goal : (bytes : List ℕ) (s : Loosenings) (v : GoalValue) → IsGoalAccepted p g room b bytes s v → length (upgraded bytes) ≤ most_bytes →
      IsGoalAccepted p g room b (upgraded bytes) (in_version 5 s) v
  upgraded_is_accepted_of_goal bytes s v e h =
      ap (λ (t : Bool). goal_verdict_if t (upgraded bytes)) (le-leb (length (upgraded bytes)) most_bytes h)
      ∙ subst (λ (w : GoalVerdict). RaisesValue p g room b w (goal_verdict_if true (upgraded bytes))) e (goal-raises (nat_le (length bytes) most_bytes) bytes)
