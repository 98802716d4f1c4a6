-- What the readers of numbers answer.
use Rattle.std.specs.Prelude.{◌≡◌, ◌≢◌, ◌<◌, ℕ, false, List, Option, Some, None, Result, Ok, Err, IsTrue, EachIndex, length, slice_index, Vec}
use Rattle.std.specs.Int.{IsInRange}
use Rattle.std.specs.declared.alloc.Global.{Global}
use Rattle.dyadic.specs.declared.dy.Dy.{Dy}
use Rattle.dyadic.specs.Rounding.{Dyadic}
use Rattle.dyadic.specs.Views as dy
use Rattle.cert_read.specs.declared.fault.LineFault.{LineFault}
use Rattle.cert_read.specs.declared.fault.LineFault.TheVariants.{BadLine, BadNumber, Memory}
use Rattle.cert_read.specs.CertLine.{counts_of, has_pairs, pairs_of}
use Rattle.cover_line.specs.Views.{multipliers_of}

-- the number of a word, or that it has none
abbrev pub IsMeasured : Result Dy LineFault → Option Dyadic → Type 0
IsMeasured (Ok d) o = o ≡ Some (dy.dyadic_of d)
IsMeasured (Err f) o = (f ≡ BadNumber) × (o ≡ None)

-- of some numbers, a fault is that one has none, or that memory ran out
abbrev pub IsUncounted : {A : Type 0} → LineFault → Option A → Type 0
IsUncounted BadNumber o = o ≡ None
IsUncounted Memory o = Unit {0}
IsUncounted f o = ⊥

-- the plain numbers of words, or such a fault
abbrev pub AreCounted : Result (Vec ℕ Global) LineFault → List (List ℕ) → Type 0
AreCounted (Ok v) ws = counts_of ws ≡ Some v.items
AreCounted (Err f) ws = IsUncounted f (counts_of ws)

-- atoms with their multipliers; a fault is that the words are no pairs, that a number is none, or that memory ran out
abbrev pub ArePairs : Result (Vec (ℕ × Dy) Global) LineFault → List (List ℕ) → Type 0
ArePairs (Ok v) ws = IsTrue (has_pairs ws) × (pairs_of ws ≡ Some (multipliers_of v.items))
ArePairs (Err BadLine) ws = has_pairs ws ≡ false
ArePairs (Err f) ws = IsTrue (has_pairs ws) × IsUncounted f (pairs_of ws)

abbrev pub AreDigits : List ℕ → Type 0
AreDigits w = EachIndex w (λ k. IsInRange 48 57 (slice_index w k))

-- digits, at least one, without a leading zero
pub record IsPlain (w : List ℕ) : Type 0 where
  pub digits : AreDigits w
  pub some : 0 < length w
  pub leading : 1 < length w → slice_index w 0 ≢ 48
