-- What is answered of words that are read from the left.
use Rattle.std.specs.Prelude.{◌≡◌, ℕ, List, [], ◌∷◌, Option, Some, None, Result, Ok, Err, Vec, map, option_copied}
use Rattle.std.specs.Borrow.{Bor}
use Rattle.std.specs.declared.alloc.Global.{Global}
use Rattle.dyadic.specs.declared.dy.Dy.{Dy}
use Rattle.dyadic.specs.Rounding.{Dyadic}
use Rattle.dyadic.specs.Views.{dyadic_of}
use Rattle.cover_line.specs.declared.block.Block.{Block as CodeBlock}
use Rattle.cover_line.specs.Line.{Multipliers, Block}
use Rattle.cover_line.specs.Views.{multipliers_of, axes_of, numbers_of, blocks_of}
use Rattle.cert_read.specs.declared.fault.LineFault.{LineFault}
use Rattle.cert_read.specs.declared.fault.LineFault.TheVariants.{BadLine, BadNumber, LineTooLong, Memory}
use Rattle.cert_read.specs.declared.squares.Ahead.{Ahead}
use Rattle.cert_read.specs.CertLine.{CertLine, Taken, taken, ill_formed, no_number, squared, grouped, line}
use Rattle.cert_read.specs.LineAnswers.{IsFault}
use Rattle.cert_read.specs.Words.{words_behind}

-- the words that are still to be read
abbrev pub words_ahead : Ahead → List (List ℕ)
words_ahead a = words_behind (option_copied a.rest)

-- the next word, with those left behind it
abbrev pub IsNextWord : List (List ℕ) → Option (Bor (List ℕ)) → List (List ℕ) → Type 0
IsNextWord ws (Some w) vs = ws ≡ w.now ∷ vs
IsNextWord ws None vs = ws ≡ []

-- ---- what was read, as the definitions see it

abbrev pub itself : ℕ → ℕ
itself n = n

abbrev pub pair_in : (ℕ × Dy) → (ℕ × Dyadic)
pair_in x = (x.0, dyadic_of x.1)

abbrev pub pairs_in : Vec (ℕ × Dy) Global → Multipliers
pairs_in v = multipliers_of v.items

abbrev pub lists_in : Vec (Vec ℕ Global) Global → List (List ℕ)
lists_in v = map axes_of v.items

abbrev pub rows_in : Vec (Vec Dy Global) Global → List (List Dyadic)
rows_in v = map numbers_of v.items

abbrev pub blocks_in : Vec CodeBlock Global → List Block
blocks_in v = blocks_of v.items

-- ---- answers

-- the fault of what is taken; out of memory says nothing of it
abbrev pub IsTakenFault : {A : Type 0} → LineFault → Taken A → Type 0
IsTakenFault BadLine t = t ≡ ill_formed
IsTakenFault BadNumber t = t ≡ no_number
IsTakenFault LineTooLong t = ⊥
IsTakenFault Memory t = Unit {0}

-- what is taken is answered, and these words are left
abbrev pub IsTaken : {A B : Type 0} → (A → B) → Taken B → Result A LineFault → List (List ℕ) → Type 0
IsTaken view t (Ok x) ws = t ≡ taken (view x) ws
IsTaken view t (Err f) ws = IsTakenFault f t

-- the pairs and blocks of the words, whatever line is made of them
abbrev pub AreSquaresIn : Result (Vec (ℕ × Dy) Global × Vec CodeBlock Global) LineFault → List (List ℕ) → Type 0
AreSquaresIn (Ok x) ws = (f : Multipliers → List Block → CertLine) → squared f ws ≡ line (f (pairs_in x.0) (blocks_in x.1))
AreSquaresIn (Err e) ws = (f : Multipliers → List Block → CertLine) → IsFault e (squared f ws)

-- the same for two groups of atoms
abbrev pub AreGroupsIn : Result (Vec ℕ Global × Vec ℕ Global) LineFault → List (List ℕ) → Type 0
AreGroupsIn (Ok x) ws = (f : List ℕ → List ℕ → CertLine) → grouped f ws ≡ line (f x.0.items x.1.items)
AreGroupsIn (Err e) ws = (f : List ℕ → List ℕ → CertLine) → IsFault e (grouped f ws)
