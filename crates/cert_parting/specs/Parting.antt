-- Where several certificates part: the first whose header has another margin or delta than the first certificate has.
use Rattle.std.specs.Prelude.{◌≡◌, ◌≢◌, ◌+◌, ℕ, List, [], ◌∷◌, ◌++◌, Option, Some, None, cond, length, map, nat_eq, take}
use Rattle.std.specs.List.{AllByRecursion}
use Rattle.cert_read.specs.CertLine.{CertLine, Parsed, line, margin, delta, parsed}
use Rattle.cert_read.specs.Lines.{lines_of}

-- ---- headers

abbrev pub bits_of : CertLine → CertLine → Option (ℕ × ℕ)
bits_of (margin m) (delta d) = Some (m, d)
bits_of l k = None

abbrev pub bits_among : List Parsed → Option (ℕ × ℕ)
bits_among (line v ∷ line l ∷ line k ∷ rest) = bits_of l k
bits_among ls = None

-- the bits of margin and delta in lines 2 and 3, where these stand there
abbrev pub bits_of_lines : List (List ℕ) → Option (ℕ × ℕ)
bits_of_lines ls = bits_among (map parsed ls)

-- the first three lines of a certificate have at most so many bytes
abbrev pub header_room : ℕ
header_room = 64

-- those in the header of a certificate
abbrev pub bits_in : List ℕ → Option (ℕ × ℕ)
bits_in bytes = bits_of_lines (lines_of (take header_room bytes))

-- ---- several

-- all have the margin and the delta of the first
abbrev pub AreAgreed : List (List ℕ) → Type 0
AreAgreed [] = Unit {0}
AreAgreed (first ∷ others) = AllByRecursion (λ (bytes : List ℕ). bits_in bytes ≡ bits_in first) others

-- the line of another header that differs from the first one's: that of delta where the margins are the same, else that of the margin
abbrev pub line_apart : Option (ℕ × ℕ) → Option (ℕ × ℕ) → ℕ
line_apart (Some x) (Some y) = cond (nat_eq x.0 y.0) 3 2
line_apart first other = 2

-- Certificate k, from 1 on, is the first whose margin or delta is not that of certificate 1, and its line n says so.
pub record IsFirstApart (parts : List (List ℕ)) (k n : ℕ) : Type 0 where
  pub first : List ℕ
  pub before : List (List ℕ)
  pub cert : List ℕ
  pub behind : List (List ℕ)
  pub all : parts ≡ (first ∷ before) ++ (cert ∷ behind)
  pub number : k ≡ length before + 2
  pub same : AreAgreed (first ∷ before)
  pub other : bits_in cert ≢ bits_in first
  pub line_is : n ≡ line_apart (bits_in first) (bits_in cert)
