-- Expressions that are being written.
use Rattle.std.specs.Prelude.{◌≡◌, ℕ, ◌+◌, ◌<◌, List, [], ◌∷◌, ◌++◌, length, vec_len}
use Rattle.script_model.specs.Sexp.{Sexp}
use Rattle.smt_sexp.specs.Arena.{expression_at}
use Rattle.smt_sexp.specs.Building.{Stands, flat, flat_back, group_of}
use Rattle.smt_sexp.specs.Lexicon.{Unclosed, put}
use Rattle.smt_sexp.specs.declared.sexps.Sexps as code
use Rattle.smt_sexp.specs.declared.writing.Writer.{Writer}

-- what was written so far: what is not closed, the innermost first, and the expressions beside it, the last first
abbrev pub Written : Writer → List Unclosed → List Sexp → Type 0
Written w us tops = Stands w.building us tops

-- how many tokens that is
abbrev pub tokens_in : Writer → ℕ
tokens_in w = vec_len w.building.nodes

-- a group is not closed
abbrev pub HasOpen : Writer → Type 0
HasOpen w = (us : List Unclosed) × (tops : List Sexp) × Written w us tops × (0 < length us)

-- one expression more is written, behind whatever was written before
pub record Writes (old new : Writer) (e : Sexp) : Type 0 where
  pub stands : (us : List Unclosed) (tops : List Sexp) → Written old us tops → Written new (put e us tops).0 (put e us tops).1
  pub count : tokens_in new ≡ tokens_in old + length (flat e)

-- the innermost group is closed: what was written in it is one expression
abbrev pub Shuts : Writer → Writer → Type 0
Shuts old new = (u : Unclosed) (us : List Unclosed) (tops : List Sexp) → Written old (u ∷ us) tops → Written new (put (group_of u) us tops).0 (put (group_of u) us tops).1

-- where nothing is open, each expression is found behind the tokens of those before it
abbrev pub Keeps : Writer → code.Sexps → Type 0
Keeps w s = (later before : List Sexp) (e : Sexp) → Written w [] (later ++ e ∷ before) → expression_at s (length (flat_back before)) ≡ e
