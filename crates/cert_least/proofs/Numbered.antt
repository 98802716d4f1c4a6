-- Where a line leads a checker, with the line's number.
use Rattle.std.proofs.Common.{◌≡◌, ◌⊎◌, ℕ, suc, ◌+◌, Option, Some, None, refl, ap, sym, ◌∙◌, subst, inl, inr, arith}
use Rattle.std.specs.Prelude.{option_map}
use Rattle.poly_graph.specs.ProblemViews.{Parts}
use Rattle.cert_read.specs.CertLine.{CertLine, Parsed, line}
use Rattle.cert_read.specs.declared.fault.LineFault.{LineFault}
use Rattle.cert_read.specs.declared.fault.LineFault.TheVariants as unread
use Rattle.cert_read.specs.LineAnswers.{IsFault}
use Rattle.cert_model.specs.Due as due
use Rattle.cert_model.specs.Due.{Due, on, faulty}
use Rattle.cert_model.specs.Accepted.{stopped, reached}
use Rattle.cert_model.specs.Least.{GoalNext, plain_due, GoalCourse}
use Rattle.cert_check.specs.declared.fault.CertFault.{CertFault}
use Rattle.cert_check.specs.declared.fault.CertFault.TheVariants as numbered
use Rattle.cert_check.specs.Checked.{Checked}
use Rattle.cert_check.specs.Dues.{next_map}
use Rattle.cert_check.specs.Faults.{stop_of, fault_at, refusal_of}
use Rattle.cert_check.specs.Work.{WorkCourse, course_map}
use Rattle.cert_least.specs.declared.phase.Phase.{Phase}
use Rattle.cert_least.specs.declared.phase.Phase.TheVariants as phase
use Rattle.cert_least.specs.Aims.{Aim, aim_next, lean_goal}
use Rattle.cert_least.specs.Courses.{after, leads, stops_at, IsCutOff, IsUnderWay}
use Rattle.cert_least.specs.declared.aim.Aim as code
use Rattle.cert_least.specs.Judging.{aim_of, IsSameAim}
use Rattle.cert_least.proofs.Verdicts.{memory_alone, stops_so, stopped_somewhere}
use Rattle.cert_least.specs.Phases.{goal_due, course_of, due_in, IsDueIn, IsFaultIn, IsPlaced, IsSoundPhase}
use Rattle.cert_least.specs.Steps.{HasLed, IsFaultOrMemory, IsPhaseOn, renumbered}

same-number : (lines : ℕ) → lines + 1 ≡ suc lines
same-number lines = omega arith

-- ---- faults

pub renumbered_stops : (f : CertFault) (g : due.CertFault) (k n : ℕ) → stop_of f ≡ Some (stopped g k) → stop_of (renumbered f n) ≡ Some (stopped g n)
renumbered_stops (numbered.BadHeader j) g k n e = cc
renumbered_stops (numbered.BadNumber j) g k n e = cc
renumbered_stops (numbered.RuleFails w j) g k n e = cc
renumbered_stops (numbered.KeepFails j) g k n e = cc
renumbered_stops (numbered.OverFails j) g k n e = cc
renumbered_stops (numbered.Missing j) g k n e = cc
renumbered_stops (numbered.Extra j) g k n e = cc
renumbered_stops (numbered.WrongBound j) g k n e = cc
renumbered_stops (numbered.NotShown j) g k n e = cc
renumbered_stops (numbered.BadLine j) g k n e = cc
renumbered_stops (numbered.LineTooLong j) g k n e = cc
renumbered_stops (numbered.TooLong j) g k n e = cc
renumbered_stops numbered.Memory g k n e = cc

-- a course that is over stays so
pub stays_over : (a : Aim) (f : CertFault) (l : Parsed) → HasLed a (stops_at f) l (stops_at f)
stays_over a (numbered.BadHeader n) l = inr refl
stays_over a (numbered.BadNumber n) l = inr refl
stays_over a (numbered.RuleFails w n) l = inr refl
stays_over a (numbered.KeepFails n) l = inr refl
stays_over a (numbered.OverFails n) l = inr refl
stays_over a (numbered.Missing n) l = inr refl
stays_over a (numbered.Extra n) l = inr refl
stays_over a (numbered.WrongBound n) l = inr refl
stays_over a (numbered.NotShown n) l = inr refl
stays_over a (numbered.BadLine n) l = inr refl
stays_over a (numbered.LineTooLong n) l = inr refl
stays_over a (numbered.TooLong n) l = inr refl
stays_over a numbered.Memory l = inl refl

-- ---- courses

pub course_here : (x : Phase) (d : Due) (c : Option WorkCourse) (n : ℕ) → IsDueIn x d → due_in c ≡ Some d → course_of x c n ≡ Some (reached (goal_due x d) n)
course_here (phase.Stopped f) d c n h e = absurd h
course_here x d c n h e = ap (option_map (λ (d' : Due). reached (goal_due x d') n)) e

pub sound_on : (a : Aim) (y : GoalNext) (c : Checked) (x : Phase) → IsPhaseOn a y c x → IsSoundPhase a x c
sound_on a y c (phase.Stopped f) h = tt
sound_on a y c x h = record { due = h.due; is_due = h.is_due; fits = h.fits }

module _ (aim : Aim) (x : Phase) (old : Checked) (lines : ℕ) (d : Due) (at : due_in old.course ≡ Some d) (fits : IsDueIn x d) where
  -- by what comes of the line
  led-by : (l : Parsed) → option_map (λ (c : GoalCourse). after aim c l) (course_of x old.course lines) ≡ Some (after aim (reached (goal_due x d) lines) l)
  led-by l = ap (option_map (λ (c : GoalCourse). after aim c l)) (course_here x d old.course lines fits at)

  pub phase_goes : (l : CertLine) (new : Checked) (x' : Phase) (n : ℕ) → n ≡ lines + 1 → IsPhaseOn aim (aim_next aim (goal_due x d) l) new x' →
      HasLed aim (course_of x old.course lines) (line l) (course_of x' new.course n)
  phase_goes l new x' n e h =
      inr (course_here x' h.due new.course n h.fits h.is_due.due
      ∙ ap (λ (k : ℕ). Some (reached (goal_due x' h.due) k)) (e ∙ same-number lines)
      ∙ sym (ap (λ (y : GoalNext). Some (leads (suc lines) y)) h.leads)
      ∙ sym (led-by (line l)))

  pub phase_stops : (l : CertLine) (f : CertFault) → IsFaultOrMemory f (aim_next aim (goal_due x d) l) → HasLed aim (course_of x old.course lines) (line l) (stops_at (renumbered f (lines + 1)))
  phase_stops l f (inl e) = inl (ap (λ (f' : CertFault). stops_at (renumbered f' (lines + 1))) e)
  phase_stops l f (inr h) =
      inr (ap (option_map (course_map plain_due)) (renumbered_stops f h.fault h.told.line (lines + 1) h.told.told)
      ∙ ap (λ (k : ℕ). Some (stopped h.fault k)) (same-number lines)
      ∙ sym (ap (λ (y : GoalNext). Some (leads (suc lines) (next_map lean_goal y))) h.says)
      ∙ sym (led-by (line l)))

  -- a line without a form
  unread-so : (fault : LineFault) (l : Parsed) → IsFault fault l → (stops_at (fault_at (refusal_of fault) (lines + 1)) ≡ None) ⊎ (stops_at (fault_at (refusal_of fault) (lines + 1)) ≡ Some (after aim (reached (goal_due x d) lines) l))
  unread-so unread.BadLine l e = inr (ap (λ (k : ℕ). Some (stopped due.BadLine k)) (same-number lines) ∙ ap (λ (l' : Parsed). Some (after aim (reached (goal_due x d) lines) l')) (sym e))
  unread-so unread.BadNumber l e = inr (ap (λ (k : ℕ). Some (stopped due.BadNumber k)) (same-number lines) ∙ ap (λ (l' : Parsed). Some (after aim (reached (goal_due x d) lines) l')) (sym e))
  unread-so unread.LineTooLong l e = inr (ap (λ (k : ℕ). Some (stopped due.LineTooLong k)) (same-number lines) ∙ ap (λ (l' : Parsed). Some (after aim (reached (goal_due x d) lines) l')) (sym e))
  unread-so unread.Memory l e = inl refl

  pub unread_leads : (fault : LineFault) (l : Parsed) → IsFault fault l → HasLed aim (course_of x old.course lines) l (stops_at (fault_at (refusal_of fault) (lines + 1)))
  unread_leads fault l e = elim (unread-so fault l e) [ inl h ↦ inl h | inr h ↦ inr (h ∙ sym (led-by l)) ]

-- ---- a fault that is answered for good

pub stopped_at : (x : Phase) (f : CertFault) → IsFaultIn x (Some f) → x ≡ phase.Stopped f
stopped_at (phase.Stopped g) f e = let same : f ≡ g = cc in ap (λ (h : CertFault). phase.Stopped h) (sym same)
stopped_at _ f e = cc

pub placed_there : (a : Aim) (x : Phase) (c : Checked) → IsFaultIn x None → IsSoundPhase a x c → IsPlaced a x c
placed_there a (phase.Stopped g) c e h = cc
placed_there a x c e h = h

pub stops_there : (x : Phase) (f : CertFault) (c : Option WorkCourse) (n : ℕ) → IsFaultIn x (Some f) → course_of x c n ≡ stops_at f
stops_there x f c n e = ap (λ (y : Phase). course_of y c n) (stopped_at x f e)

pub goes_there : (a : Aim) (x : Phase) (c : Checked) (n : ℕ) → IsFaultIn x None → IsSoundPhase a x c → IsUnderWay (course_of x c.course n)
goes_there a x c n e h =
    let at = placed_there a x c e h in subst IsUnderWay (sym (course_here x at.due c.course n at.fits at.is_due.due)) tt

-- the input goes on where no more of it is read
cut-stopped : (f : CertFault) (o : Option GoalCourse) → o ≡ stops_at f → IsCutOff o f
cut-stopped f None e = memory_alone f (sym e)
cut-stopped f (Some (stopped g n)) e = stops_so f (stopped g n) (sym e)
cut-stopped f (Some (reached d n)) e = absurd (stopped_somewhere f d n (sym e))

pub cut_there : (x : Phase) (f : CertFault) (c : Option WorkCourse) (n : ℕ) → IsFaultIn x (Some f) → IsCutOff (course_of x c n) f
cut_there x f c n e = cut-stopped f (course_of x c n) (stops_there x f c n e)

pub cut_on : (a : Aim) (x : Phase) (c : Checked) (n : ℕ) → IsFaultIn x None → IsSoundPhase a x c → IsCutOff (course_of x c.course n) (numbered.TooLong 0)
cut_on a x c n e h =
    let at = placed_there a x c e h in subst (λ (o : Option GoalCourse). IsCutOff o (numbered.TooLong 0)) (sym (course_here x at.due c.course n at.fits at.is_due.due)) refl

pub over_there : (a : Aim) (x : Phase) (f : CertFault) (c : Option WorkCourse) (n : ℕ) (l : Parsed) → IsFaultIn x (Some f) → HasLed a (course_of x c n) l (stops_at f)
over_there a x f c n l e = subst (λ (o : Option GoalCourse). HasLed a o l (stops_at f)) (sym (stops_there x f c n e)) (stays_over a f l)

pub unread_there : (a : Aim) (x : Phase) (c : Checked) (n : ℕ) → IsFaultIn x None → IsSoundPhase a x c → (fault : LineFault) (l : Parsed) → IsFault fault l →
    HasLed a (course_of x c.course n) l (stops_at (fault_at (refusal_of fault) (n + 1)))
unread_there a x c n e h fault l k =
    let at = placed_there a x c e h in unread_leads a x c n at.due at.is_due.due at.fits fault l k

-- ---- the code's aim

pub same_aim : (old new : code.Aim) → IsSameAim old new → aim_of new ≡ aim_of old
same_aim old new s =
    ap (λ (x : Parts). record { problem = x; goal = new.goal; bound = new.bound }) s.problem
    ∙ ap (λ (x : ℕ). record { problem = old.problem; goal = x; bound = new.bound }) s.goal
    ∙ ap (λ (x : Option ℕ). record { problem = old.problem; goal = old.goal; bound = x }) s.bound

pub same_sound : (old new : code.Aim) (x : Phase) (c : Checked) → IsSameAim old new → IsSoundPhase (aim_of old) x c → IsSoundPhase (aim_of new) x c
same_sound old new x c s h = subst (λ (a : Aim). IsSoundPhase a x c) (sym (same_aim old new s)) h
