-- A place in a certificate that is read line by line, of which one piece is held.
use Rattle.std.specs.Prelude.{◌≡◌, ◌≢◌, ◌<◌, ◌≤◌, ◌-◌, ℕ, List, [], ◌∷◌, ◌++◌, Bool, Option, Some, None, IsTrue, false, length, take, drop, slice_index}
use Rattle.std.specs.List.{AllByRecursion}
use Rattle.std.specs.Option.{option_map}
use Rattle.cert_model.specs.Accepted.{most_bytes}
use Rattle.cert_read.specs.Lines.{lines_of, longest_line}
use Rattle.cert_join.specs.declared.cursor.Mark.{Mark}

-- the bytes that are held and were not passed; how many bytes of the certificate stand before their end; whether it ends there; how long the
-- next line is, where that is known
pub record Spot : Type 0 where
  pub unread : List ℕ
  pub behind : ℕ
  pub ended : Bool
  pub size : Option ℕ

-- where the next line begins
abbrev pub start : Spot → ℕ
start s = s.behind - length s.unread

abbrev pub or_none : Option (List ℕ) → List ℕ
or_none (Some l) = l
or_none None = []

-- the next line, where it is known
abbrev pub line_in : Spot → Option (List ℕ)
line_in s = option_map (λ n. take n s.unread) s.size

-- the same, and an empty one where there is none
abbrev pub text_in : Spot → List ℕ
text_in s = or_none (line_in s)

-- none is too long
abbrev pub AreShort : List (List ℕ) → Type 0
AreShort ls = AllByRecursion (λ (l : List ℕ). length l ≤ longest_line) ls

-- The place stands in this certificate, before these lines, none of which is too long.
pub record IsBefore (cert : List ℕ) (ls : List (List ℕ)) (s : Spot) : Type 0 where
  pub few : length cert ≤ most_bytes
  pub within : length s.unread ≤ s.behind
  pub reached : s.behind ≤ length cert
  pub held : drop (start s) cert ≡ s.unread ++ drop s.behind cert
  pub ended : IsTrue s.ended → drop s.behind cert ≡ []
  pub lines : lines_of (drop (start s) cert) ≡ ls
  pub short : AreShort ls

-- the next of these lines; none where there is none, or it is too long
abbrev pub IsFirst : List (List ℕ) → Option (List ℕ) → Type 0
IsFirst ls (Some l) = (rest : List (List ℕ)) × (ls ≡ l ∷ rest)
IsFirst [] None = Unit {0}
IsFirst (l ∷ ls) None = longest_line < length l

-- the next line is known, or that there is none
abbrev pub IsReady : Spot → Type 0
IsReady s = (cert : List ℕ) (ls : List (List ℕ)) → IsBefore cert ls s → IsFirst ls (line_in s)

-- the bytes stand at the beginning of these, some where there are any
pub record IsPieceAt (bytes piece : List ℕ) : Type 0 where
  pub within : length piece ≤ length bytes
  pub front : piece ≡ take (length piece) bytes
  pub some : piece ≡ [] → bytes ≡ []

-- ---- how long the next line is

-- a line of so many bytes stands at the beginning of these: a line feed follows it, or it is the last line
pub record IsLineSize (unread : List ℕ) (ended : Bool) (n : ℕ) : Type 0 where
  pub within : n ≤ length unread
  pub before : (k : ℕ) → k < n → slice_index unread k ≢ 10
  pub feed : n < length unread → slice_index unread n ≡ 10
  pub last : n ≡ length unread → IsTrue ended × (0 < n)

-- no line feed is held, nor a last line
pub record HasNoLine (unread : List ℕ) (ended : Bool) : Type 0 where
  pub before : (k : ℕ) → k < length unread → slice_index unread k ≢ 10
  pub none : IsTrue ended → length unread ≡ 0

-- ---- marks

abbrev pub IsMark : Spot → Mark → Type 0
IsMark s m = m.at ≡ start s

-- back at a mark, where nothing is held
abbrev pub rewound : Mark → Spot
rewound m = record { unread = []; behind = m.at; ended = false; size = None }
