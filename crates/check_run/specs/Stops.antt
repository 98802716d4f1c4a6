-- The text of a certificate's first fault.
use Rattle.std.specs.Prelude.{ℕ, List, Option, Some, None}
use Rattle.cert_model.specs.Accepted.{Course, stopped, refused}
use Rattle.cert_model.specs.AnswerText.{verdict_text}

-- the text where a certificate stops with a fault
abbrev pub stop_text : Option Course → Option (List ℕ)
stop_text (Some (stopped f n)) = Some (verdict_text (refused f n))
stop_text _ = None
