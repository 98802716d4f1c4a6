-- Where one line leads a checker.
use Rattle.std.proofs.Common.{◌≡◌, ℕ, suc, ◌+◌, Some, refl, ap, sym, ◌∙◌, inl, inr, arith}
use Rattle.cert_read.specs.CertLine.{Parsed}
use Rattle.cert_read.specs.declared.fault.LineFault.{LineFault}
use Rattle.cert_read.specs.declared.fault.LineFault.TheVariants as unread
use Rattle.cert_read.specs.LineAnswers.{IsFault}
use Rattle.cert_model.specs.Due as due
use Rattle.cert_model.specs.Due.{NextOf, on, faulty}
use Rattle.cert_model.specs.Accepted.{stopped, reached}
use Rattle.cert_check.specs.declared.part.Part.{Part}
use Rattle.cert_check.specs.declared.work.Work as held
use Rattle.cert_check.specs.declared.refusal.Refusal.{Refusal}
use Rattle.cert_check.specs.declared.refusal.Refusal.TheVariants.{BadHeader, BadNumber, RuleFails, KeepFails, OverFails, Missing, Extra, WrongBound, NotShown, BadLine, LineTooLong, Memory}
use Rattle.cert_check.specs.Dues.{next_map}
use Rattle.cover_line.specs.Views.{rule_word}
use Rattle.cert_check.specs.Faults.{IsRefused, fault_at, refusal_of}
use Rattle.cert_check.specs.Courses.{leads, after, stops_at}
use Rattle.cert_check.specs.Stages.{IsLed, HasLed}
use Rattle.cert_check.specs.Work.{Work, Checks, lean_work, work_step}
use Rattle.cert_check.specs.Works.{work_of}
use Rattle.cert_check.specs.declared.fault.CertFault.{CertFault}
use Rattle.cert_check.specs.declared.fault.CertFault.TheVariants as numbered

same-number : (lines : ℕ) → lines + 1 ≡ suc lines
same-number lines = omega arith

faulty-leads : (lines : ℕ) (x : NextOf Work) (f : due.CertFault) → x ≡ faulty f → IsLed (Some (stopped f (lines + 1))) (leads (suc lines) (next_map lean_work x))
faulty-leads lines x f e = inr (ap (λ (n : ℕ). Some (stopped f n)) (same-number lines) ∙ sym (ap (λ (y : NextOf Work). Some (leads (suc lines) (next_map lean_work y))) e))

pub refused_leads : (lines : ℕ) (x : NextOf Work) (r : Refusal) → IsRefused r x → IsLed (stops_at (fault_at r (lines + 1))) (leads (suc lines) (next_map lean_work x))
refused_leads lines x BadHeader e = faulty-leads lines x due.BadHeader e
refused_leads lines x BadNumber e = faulty-leads lines x due.BadNumber e
refused_leads lines x (RuleFails w) e = faulty-leads lines x (due.RuleFails (rule_word w)) e
refused_leads lines x KeepFails e = faulty-leads lines x due.KeepFails e
refused_leads lines x OverFails e = faulty-leads lines x due.OverFails e
refused_leads lines x Missing e = faulty-leads lines x due.Missing e
refused_leads lines x Extra e = faulty-leads lines x due.Extra e
refused_leads lines x WrongBound e = faulty-leads lines x due.WrongBound e
refused_leads lines x NotShown e = faulty-leads lines x due.NotShown e
refused_leads lines x BadLine e = faulty-leads lines x due.BadLine e
refused_leads lines x LineTooLong e = faulty-leads lines x due.LineTooLong e
refused_leads lines x Memory e = inl refl

pub work_leads : (t : Part) (lines n : ℕ) (x : NextOf Work) (w : held.Work) → next_map lean_work x ≡ on (work_of t w) → n ≡ lines + 1 → IsLed (Some (reached (work_of t w) n)) (leads (suc lines) (next_map lean_work x))
work_leads t lines n x w e f = inr (ap (λ (k : ℕ). Some (reached (work_of t w) k)) (f ∙ same-number lines) ∙ sym (ap (λ (y : NextOf Work). Some (leads (suc lines) y)) e))

pub unread_leads : (c : Checks) (w : Work) (lines : ℕ) (fault : LineFault) (x : Parsed) → IsFault fault x → IsLed (stops_at (fault_at (refusal_of fault) (lines + 1))) (after c (reached w lines) x)
unread_leads c w lines unread.BadLine x e = refused_leads lines (work_step c w x) BadLine (ap (work_step c w) e)
unread_leads c w lines unread.BadNumber x e = refused_leads lines (work_step c w x) BadNumber (ap (work_step c w) e)
unread_leads c w lines unread.LineTooLong x e = refused_leads lines (work_step c w x) LineTooLong (ap (work_step c w) e)
unread_leads c w lines unread.Memory x e = inl refl

-- a course that is over stays so
pub stays_over : (c : Checks) (f : CertFault) (l : Parsed) → HasLed c (stops_at f) l (stops_at f)
stays_over c (numbered.BadHeader n) l = inr refl
stays_over c (numbered.BadNumber n) l = inr refl
stays_over c (numbered.RuleFails w n) l = inr refl
stays_over c (numbered.KeepFails n) l = inr refl
stays_over c (numbered.OverFails n) l = inr refl
stays_over c (numbered.Missing n) l = inr refl
stays_over c (numbered.Extra n) l = inr refl
stays_over c (numbered.WrongBound n) l = inr refl
stays_over c (numbered.NotShown n) l = inr refl
stays_over c (numbered.BadLine n) l = inr refl
stays_over c (numbered.LineTooLong n) l = inr refl
stays_over c (numbered.TooLong n) l = inr refl
stays_over c numbered.Memory l = inl refl
