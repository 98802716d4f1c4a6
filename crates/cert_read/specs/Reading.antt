-- What a reader of lines holds and answers.
use Rattle.std.specs.Prelude.{◌≡◌, ◌+◌, ℕ, List, [], ◌∷◌, ◌++◌, false, cond, Option, Some, None, Result, Ok, Err, length, drop}
use Rattle.cert_read.specs.declared.line.Line.{Line}
use Rattle.cert_read.specs.declared.fault.LineFault.{LineFault}
use Rattle.cert_read.specs.CertLine.{parsed}
use Rattle.cert_read.specs.Lines.{lines_of, lines_so_far}
use Rattle.cert_read.specs.State.{Reading}
use Rattle.cert_read.specs.LineAnswers.{IsFault, IsParse}

-- the lines that stand in the bytes: all of them where the input ended, else those that are whole or too long
abbrev pub lines_ahead : Reading → List (List ℕ)
lines_ahead r = cond r.ended (lines_of r.unread) (lines_so_far r.unread)

-- with these bytes behind the others; nothing comes after the end
abbrev pub fed : Reading → List ℕ → Reading
fed r piece = cond r.ended r (record { unread = r.unread ++ piece; ended = false })

-- without this line and its end
abbrev pub behind : List ℕ → Reading → Reading
behind l r = record { unread = drop (length l + 1) r.unread; ended = r.ended }

-- what is answered of a line with these lines after it: what it says, and it is passed; or its fault, and it is not
abbrev pub IsLineAnswer : List ℕ → List (List ℕ) → Reading → Reading → Result (Option Line) LineFault → Type 0
IsLineAnswer l ls old new (Ok None) = ⊥
IsLineAnswer l ls old new (Ok (Some said)) = IsParse (Ok said) (parsed l) × (new ≡ behind l old) × (lines_ahead new ≡ ls)
IsLineAnswer l ls old new (Err f) = IsFault f (parsed l) × (new ≡ old)

-- what is answered of the lines ahead: nothing where there is none
abbrev pub IsNextLine : List (List ℕ) → Reading → Reading → Result (Option Line) LineFault → Type 0
IsNextLine [] old new r = (r ≡ Ok None) × (new ≡ old)
IsNextLine (l ∷ ls) old new r = IsLineAnswer l ls old new r
