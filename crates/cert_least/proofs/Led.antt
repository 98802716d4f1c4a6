-- Lines that are taken one by one lead where all of them do, but for what the code does not keep.
use Rattle.std.proofs.Common.{◌≡◌, ℕ, suc, List, [], ◌∷◌, ◌++◌, map, refl, ap, sym, ◌∙◌}
use Rattle.cert_read.specs.CertLine.{Parsed, parsed}
use Rattle.cert_model.specs.Due.{CertFault, NextOf, on, faulty}
use Rattle.cert_model.specs.Accepted.{stopped, reached, course_by, course_next}
use Rattle.cert_check.specs.Dues.{next_map}
use Rattle.cert_check.specs.Work.{course_map}
use Rattle.cert_model.specs.Least.{GoalDue, GoalCourse}
use Rattle.cert_least.specs.Aims.{Aim, aim_step, aim_course, goal_start, lean_goal}
use Rattle.cert_least.specs.Courses.{leads, after, after_all}
use Rattle.cert_least.proofs.Leans.{step_lean}

module _ (c : Aim) where
  pub stays_stopped : (f : CertFault) (n : ℕ) (ls : List Parsed) → after_all c (stopped f n) ls ≡ stopped f n
  stays_stopped f n [] = refl
  stays_stopped f n (l ∷ ls) = stays_stopped f n ls

  pub after_append : (x : GoalCourse) (xs ys : List Parsed) → after_all c x (xs ++ ys) ≡ after_all c (after_all c x xs) ys
  after_append x [] ys = refl
  after_append x (l ∷ xs) ys = after_append (after c x l) xs ys

  next-led : (n : ℕ) (ls : List (List ℕ)) → ((w : GoalDue) → course_map lean_goal (course_by (aim_step c) (suc n) w ls) ≡ after_all c (reached (lean_goal w) (suc n)) (map parsed ls)) →
      (x : NextOf GoalDue) → course_map lean_goal (course_next x (suc n) (λ w. course_by (aim_step c) (suc n) w ls)) ≡ after_all c (leads (suc n) (next_map lean_goal x)) (map parsed ls)
  next-led n ls h (on w) = h w
  next-led n ls h (faulty f) = sym (stays_stopped f (suc n) (map parsed ls))

  -- where lines lead from n others on
  pub led_from : (n : ℕ) (w : GoalDue) (ls : List (List ℕ)) → course_map lean_goal (course_by (aim_step c) n w ls) ≡ after_all c (reached (lean_goal w) n) (map parsed ls)
  led_from n w [] = refl
  led_from n w (l ∷ ls) =
      next-led n ls (λ w'. led_from (suc n) w' ls) (aim_step c w (parsed l))
      ∙ ap (λ (x : NextOf GoalDue). after_all c (leads (suc n) x) (map parsed ls)) (step_lean c w (parsed l))

  pub led_all : (ls : List (List ℕ)) → course_map lean_goal (aim_course c ls) ≡ after_all c (reached goal_start 0) (map parsed ls)
  led_all ls = led_from 0 goal_start ls
