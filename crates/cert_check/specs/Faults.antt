-- The code's faults as the definitions see them.
use Rattle.std.specs.Prelude.{◌≡◌, ℕ, Option, Some, None}
use Rattle.cover_line.specs.Views.{rule_word}
use Rattle.cert_read.specs.declared.fault.LineFault.{LineFault}
use Rattle.cert_read.specs.declared.fault.LineFault.TheVariants as unread
use Rattle.cert_model.specs.Due as due
use Rattle.cert_model.specs.Due.{NextOf, Next, faulty}
use Rattle.cert_model.specs.Accepted.{Course, stopped}
use Rattle.cert_check.specs.declared.fault.CertFault.{CertFault}
use Rattle.cert_check.specs.declared.fault.CertFault.TheVariants as numbered
use Rattle.cert_check.specs.declared.refusal.Refusal.{Refusal}
use Rattle.cert_check.specs.declared.refusal.Refusal.TheVariants.{BadHeader, BadNumber, RuleFails, KeepFails, OverFails, Missing, Extra, WrongBound, NotShown, BadLine, LineTooLong, Memory}

-- where a certificate stops with the fault; nowhere for out of memory
abbrev pub stop_of : CertFault → Option Course
stop_of (numbered.BadHeader n) = Some (stopped due.BadHeader n)
stop_of (numbered.BadNumber n) = Some (stopped due.BadNumber n)
stop_of (numbered.RuleFails w n) = Some (stopped (due.RuleFails (rule_word w)) n)
stop_of (numbered.KeepFails n) = Some (stopped due.KeepFails n)
stop_of (numbered.OverFails n) = Some (stopped due.OverFails n)
stop_of (numbered.Missing n) = Some (stopped due.Missing n)
stop_of (numbered.Extra n) = Some (stopped due.Extra n)
stop_of (numbered.WrongBound n) = Some (stopped due.WrongBound n)
stop_of (numbered.NotShown n) = Some (stopped due.NotShown n)
stop_of (numbered.BadLine n) = Some (stopped due.BadLine n)
stop_of (numbered.LineTooLong n) = Some (stopped due.LineTooLong n)
stop_of (numbered.TooLong n) = Some (stopped due.TooLong n)
stop_of numbered.Memory = None

-- the fault with the number of its line
abbrev pub fault_at : Refusal → ℕ → CertFault
fault_at BadHeader n = numbered.BadHeader n
fault_at BadNumber n = numbered.BadNumber n
fault_at (RuleFails w) n = numbered.RuleFails w n
fault_at KeepFails n = numbered.KeepFails n
fault_at OverFails n = numbered.OverFails n
fault_at Missing n = numbered.Missing n
fault_at Extra n = numbered.Extra n
fault_at WrongBound n = numbered.WrongBound n
fault_at NotShown n = numbered.NotShown n
fault_at BadLine n = numbered.BadLine n
fault_at LineTooLong n = numbered.LineTooLong n
fault_at Memory n = numbered.Memory

abbrev pub refusal_of : LineFault → Refusal
refusal_of unread.BadLine = BadLine
refusal_of unread.BadNumber = BadNumber
refusal_of unread.LineTooLong = LineTooLong
refusal_of unread.Memory = Memory

-- the line has this fault; of out of memory nothing is said
abbrev pub IsRefused : {D : Type 0} → Refusal → NextOf D → Type 0
IsRefused BadHeader x = x ≡ faulty due.BadHeader
IsRefused BadNumber x = x ≡ faulty due.BadNumber
IsRefused (RuleFails w) x = x ≡ faulty (due.RuleFails (rule_word w))
IsRefused KeepFails x = x ≡ faulty due.KeepFails
IsRefused OverFails x = x ≡ faulty due.OverFails
IsRefused Missing x = x ≡ faulty due.Missing
IsRefused Extra x = x ≡ faulty due.Extra
IsRefused WrongBound x = x ≡ faulty due.WrongBound
IsRefused NotShown x = x ≡ faulty due.NotShown
IsRefused BadLine x = x ≡ faulty due.BadLine
IsRefused LineTooLong x = x ≡ faulty due.LineTooLong
IsRefused Memory x = Unit {0}

-- the same in a certificate of one check
abbrev pub IsLineRefusal : Refusal → Next → Type 0
IsLineRefusal r x = IsRefused r x
