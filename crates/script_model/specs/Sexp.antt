-- Scripts as expressions in parentheses.
use Rattle.std.specs.Prelude.{ℕ, List}

-- where a token begins: line and column, both from 1
pub record Place : Type 0 where
  pub line : ℕ
  pub column : ℕ

-- the words that are no symbols unless they are quoted
pub data Reserved : Type 0 where
  bang underscore as_word let_word exists_word forall_word match_word par_word : Reserved

-- an expression without parentheses
pub data Leaf : Type 0 where
  -- the digits before the point, and those after it
  numeral : List ℕ → Leaf
  decimal : List ℕ → List ℕ → Leaf
  -- the name, quoted or not
  symbol : List ℕ → Leaf
  reserved : Reserved → Leaf
  -- the text between the quotes, and the name behind the colon
  string : List ℕ → Leaf
  keyword : List ℕ → Leaf

mutual
  pub data Sexp : Type 0 where
    leaf : Place → Leaf → Sexp
    group : Place → Sexps → Sexp

  pub data Sexps : Type 0 where
    none : Sexps
    more : Sexp → Sexps → Sexps

-- where an expression begins
abbrev pub place_of : Sexp → Place
place_of (leaf at l) = at
place_of (group at items) = at
