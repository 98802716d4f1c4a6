-- Groups that are written.
use Rattle.std.proofs.Common.{◌≡◌, ◌+◌, ℕ, List, [], ◌∷◌, subst, sym, arith}
use Rattle.std.specs.Prelude.{codes, OnOk, Result, Ok, Err}
use Rattle.std.specs.Fmt.{decimal as digits_of}
use Rattle.std.proofs.lemmas.Fmt.{decimal_digit}
use Rattle.script_model.specs.Sexp.{Place, symbol, numeral, Sexp, leaf, group, none}
use Rattle.script_roots.specs.Rewritten.{constant_in_place, two_of}
use Rattle.smt_sexp.specs.Lexicon.{Unclosed}
use Rattle.smt_sexp.specs.Writing.{HasOpen, Shuts, Written, Writes, tokens_in}
use Rattle.smt_sexp.specs.declared.writing.Writer.{Writer}
use Rattle.root_rewriting.specs.Spelling.{Heads, IsWriting}

-- an opening parenthesis is written
abbrev pub Opens : Writer → Writer → Place → Type 0
Opens w v at = (us : List Unclosed) (tops : List Sexp) → Written w us tops → Written v (record { opened = at; before = [] } ∷ us) tops

pub heads_written : (w v x : Writer) (at : Place) (name : List ℕ) → Opens w v at → tokens_in v ≡ tokens_in w + 1 → Writes v x (leaf at (symbol name)) → Heads w x at name
heads_written w v x at name opens count writes = record {
  stands = λ us tops h. writes.stands (record { opened = at; before = [] } ∷ us) tops (opens us tops h);
  count = omega (arith, count, writes.count);
}

pub nothing_written : (w v x : Writer) (at : Place) → Opens w v at → tokens_in v ≡ tokens_in w + 1 → Shuts v x → tokens_in x ≡ tokens_in v + 1 → Writes w x (group at none)
nothing_written w v x at opens count shuts shut = record {
  stands = λ us tops h. shuts (record { opened = at; before = [] }) us tops (opens us tops h);
  count = omega (arith, count, shut);
}

-- a name and a number behind `*`
module _ (w v y z : Writer) (at : Place) (name : List ℕ) (heads : Heads w v at (codes "*")) (first : Writes v y (leaf at (symbol name))) (second : Writes y z (leaf at (numeral (codes "1")))) where
  abbrev Inside : List Sexp
  Inside = leaf at (numeral (codes "1")) ∷ leaf at (symbol name) ∷ leaf at (symbol (codes "*")) ∷ []

  stands : (us : List Unclosed) (tops : List Sexp) → Written w us tops → Written z (record { opened = at; before = Inside } ∷ us) tops
  stands us tops h = second.stands _ tops (first.stands _ tops (heads.stands us tops h))

  pub constant_some : IsWriting w → HasOpen z
  constant_some h = (record { opened = at; before = Inside } ∷ h.0, h.1, stands h.0 h.1 h.2, omega arith)

  pub constant_count : tokens_in z ≡ tokens_in w + 4
  constant_count = omega (arith, heads.count, first.count, second.count)

  pub constant_written : (x : Writer) → Shuts z x → tokens_in x ≡ tokens_in z + 1 → Writes w x (constant_in_place at name)
  constant_written x shuts shut =
      let digits : codes "1" ≡ digits_of 1 = sym (decimal_digit 1 (omega arith)) in
      subst (λ (ds : List ℕ). Writes w x (two_of at (codes "*") (leaf at (symbol name)) (leaf at (numeral ds)))) digits (record {
        stands = λ us tops h. shuts (record { opened = at; before = Inside }) us tops (stands us tops h);
        count = omega (arith, constant_count, shut);
      })

-- ---- what holds where a call does not fail

pub on_both : {A E : Type 0} {P Q R : Type 0} (r : Result A E) → (P → Q → R) → OnOk r P → OnOk r Q → OnOk r R
on_both (Ok x) f p q = f p q
on_both (Err e) f p q = tt
