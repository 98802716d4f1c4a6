-- Lines that are taken one by one lead where all of them do, but for what the code does not keep.
use Rattle.std.proofs.Common.{◌≡◌, ℕ, suc, List, [], ◌∷◌, ◌++◌, map, refl, ap, sym, ◌∙◌}
use Rattle.cert_read.specs.CertLine.{Parsed, parsed}
use Rattle.cert_model.specs.Due.{CertFault, NextOf, on, faulty}
use Rattle.cert_model.specs.Accepted.{stopped, reached, course_by, course_next}
use Rattle.cert_check.specs.Dues.{next_map}
use Rattle.cert_check.specs.Work.{Work, Checks, WorkCourse, course_map, started, work_step, work_course, lean_work}
use Rattle.cert_check.specs.Courses.{leads, after, after_all}
use Rattle.cert_check.proofs.Leans.{step_lean, started_lean}

module _ (c : Checks) where
  pub stays_stopped : (f : CertFault) (n : ℕ) (ls : List Parsed) → after_all c (stopped f n) ls ≡ stopped f n
  stays_stopped f n [] = refl
  stays_stopped f n (l ∷ ls) = stays_stopped f n ls

  pub after_append : (x : WorkCourse) (xs ys : List Parsed) → after_all c x (xs ++ ys) ≡ after_all c (after_all c x xs) ys
  after_append x [] ys = refl
  after_append x (l ∷ xs) ys = after_append (after c x l) xs ys

  next-led : (n : ℕ) (ls : List (List ℕ)) → ((w : Work) → course_map lean_work (course_by (work_step c) (suc n) w ls) ≡ after_all c (reached (lean_work w) (suc n)) (map parsed ls)) →
      (x : NextOf Work) → course_map lean_work (course_next x (suc n) (λ w. course_by (work_step c) (suc n) w ls)) ≡ after_all c (leads (suc n) (next_map lean_work x)) (map parsed ls)
  next-led n ls h (on w) = h w
  next-led n ls h (faulty f) = sym (stays_stopped f (suc n) (map parsed ls))

  -- where lines lead from n others on
  pub led_from : (n : ℕ) (w : Work) (ls : List (List ℕ)) → course_map lean_work (course_by (work_step c) n w ls) ≡ after_all c (reached (lean_work w) n) (map parsed ls)
  led_from n w [] = refl
  led_from n w (l ∷ ls) =
      next-led n ls (λ w'. led_from (suc n) w' ls) (work_step c w (parsed l))
      ∙ ap (λ (x : NextOf Work). after_all c (leads (suc n) x) (map parsed ls)) (step_lean c w (parsed l))

  pub led_all : (ls : List (List ℕ)) → course_map lean_work (work_course c ls) ≡ after_all c (reached (started c.later) 0) (map parsed ls)
  led_all ls = led_from 0 (started c.later) ls ∙ ap (λ (w : Work). after_all c (reached w 0) (map parsed ls)) (started_lean c.later)
