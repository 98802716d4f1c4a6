-- Groups that are being written.
use Rattle.std.specs.Prelude.{◌≡◌, ℕ, ◌+◌, ◌≤◌, ◌^◌, List, [], ◌∷◌, length, codes}
use Rattle.script_model.specs.Sexp.{Place, Sexp, leaf, group, none, more, symbol}
use Rattle.smt_sexp.specs.Building.{flat_back}
use Rattle.smt_sexp.specs.Lexicon.{Unclosed}
use Rattle.smt_sexp.specs.Writing.{Written, tokens_in}
use Rattle.smt_sexp.specs.declared.writing.Writer.{Writer}

-- something was written, at most so many tokens beyond 2^22
pub record CanWrite (w : Writer) (beyond : ℕ) : Type 0 where
  pub us : List Unclosed
  pub tops : List Sexp
  pub written : Written w us tops
  pub room : tokens_in w ≤ 2 ^ 22 + beyond

-- a group is open at this place, with these expressions in it, the last first
pub record IsOpened (old new : Writer) (at : Place) (before : List Sexp) : Type 0 where
  pub stands : (us : List Unclosed) (tops : List Sexp) → Written old us tops → Written new (record { opened = at; before = before } ∷ us) tops
  pub count : tokens_in new ≡ tokens_in old + 1 + length (flat_back before)

abbrev pub symbol_at : Place → List ℕ → Sexp
symbol_at at name = leaf at (symbol name)

abbrev pub negative_at : Place → Sexp → Sexp
negative_at at e = group at (more (symbol_at at (codes "-")) (more e none))
