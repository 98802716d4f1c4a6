-- What is answered of a line.
use Rattle.std.specs.Prelude.{◌≡◌, ℕ, List, Option, Some, None, Result, Ok, Err}
use Rattle.cert_read.specs.declared.line.BoolSet.{BoolSet}
use Rattle.cert_read.specs.declared.line.Line.{Line}
use Rattle.cert_read.specs.declared.fault.LineFault.{LineFault}
use Rattle.cert_read.specs.declared.fault.LineFault.TheVariants.{BadLine, BadNumber, LineTooLong, Memory}
use Rattle.dyadic.specs.declared.dy.Dy.{Dy}
use Rattle.dyadic.specs.Rounding.{Dyadic}
use Rattle.dyadic.specs.Views.{dyadic_of}
use Rattle.cert_read.specs.CertLine.{CertLine, bool_value, placed, counted, counted_twice, Parsed, line, bad_line, bad_number, too_long}
use Rattle.cert_read.specs.Views.{bool_word_of, line_of}

-- the fault is that of the line; out of memory says nothing of it
abbrev pub IsFault : LineFault → Parsed → Type 0
IsFault BadLine p = p ≡ bad_line
IsFault BadNumber p = p ≡ bad_number
IsFault LineTooLong p = p ≡ too_long
IsFault Memory p = Unit {0}

-- what a line is answered to say
abbrev pub IsParse : Result Line LineFault → Parsed → Type 0
IsParse (Ok l) p = p ≡ line (line_of l)
IsParse (Err f) p = IsFault f p

abbrev pub IsBoolParse : Result BoolSet LineFault → Parsed → Type 0
IsBoolParse (Ok b) p = p ≡ line (bool_value (bool_word_of b))
IsBoolParse (Err f) p = IsFault f p

-- the one plain number of the words, whatever line is made of it
abbrev pub IsOneIn : Result ℕ LineFault → List (List ℕ) → Type 0
IsOneIn (Ok n) ws = (f : ℕ → CertLine) → counted f ws ≡ line (f n)
IsOneIn (Err e) ws = (f : ℕ → CertLine) → IsFault e (counted f ws)

-- the same for two plain numbers
abbrev pub AreTwoIn : Result (ℕ × ℕ) LineFault → List (List ℕ) → Type 0
AreTwoIn (Ok x) ws = (f : ℕ → ℕ → CertLine) → counted_twice f ws ≡ line (f x.0 x.1)
AreTwoIn (Err e) ws = (f : ℕ → ℕ → CertLine) → IsFault e (counted_twice f ws)

-- the same for a number of the grid, beside a plain one
abbrev pub IsPlaceIn : Result (ℕ × Dy) LineFault → List (List ℕ) → Type 0
IsPlaceIn (Ok x) ws = (f : ℕ → Dyadic → CertLine) → placed f ws ≡ line (f x.0 (dyadic_of x.1))
IsPlaceIn (Err e) ws = (f : ℕ → Dyadic → CertLine) → IsFault e (placed f ws)

-- the number of a word, or that it has none
abbrev pub IsCounted : Result ℕ LineFault → Option ℕ → Type 0
IsCounted (Ok n) o = o ≡ Some n
IsCounted (Err f) o = (f ≡ BadNumber) × (o ≡ None)
