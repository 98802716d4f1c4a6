-- What expressions mean by their forms, whatever kind of meaning it is.
use Rattle.std.proofs.Common.{◌≡◌, List, [], ◌∷◌, ◌++◌, Bool, true, false, cond, Option, Some, None, refl, ap, ◌∙◌, true≢false}
use Rattle.script_model.specs.Sexp.{Place, numeral, decimal, symbol, reserved, string, keyword, Sexp, leaf, group, Sexps, none, more, bang, let_word}
use Rattle.script_model.specs.Reading.{Meanings, Names, value, Label, meaning, meanings, group_meaning, bound_names, binding_meanings, values_bound, let_meaning, malformed}
use Rattle.smt_sexp.specs.Arena.{first_of}
use Rattle.smt_script.specs.Forms.{as_any, is_end}
use Rattle.sort_check.specs.Forms.{as_binding, labels_of}
use Rattle.problem_build.specs.LetParts.{begins, as_let, let_of}

module _ {V : Type 0} (M : Meanings V) where
  -- ---- arguments

  abbrev pub any_meanings : Names V → Option (Sexp × Sexps) → List V
  any_meanings env None = []
  any_meanings env (Some (e, rest)) = meaning M env e ∷ meanings M env rest

  pub meanings_are : (env : Names V) (items : Sexps) → meanings M env items ≡ any_meanings env (as_any items)
  meanings_are env none = refl
  meanings_are env (more e rest) = refl

  pub meanings_none : (env : Names V) (items : Sexps) → as_any items ≡ None → meanings M env items ≡ []
  meanings_none env items h = meanings_are env items ∙ ap (any_meanings env) h

  pub meanings_more : (env : Names V) (items : Sexps) (e : Sexp) (rest : Sexps) → as_any items ≡ Some (e, rest) → meanings M env items ≡ meaning M env e ∷ meanings M env rest
  meanings_more env items e rest h = meanings_are env items ∙ ap (any_meanings env) h

  -- ---- bindings

  abbrev meanings_rest : Names V → Option (Label × Sexp × Sexps) → Names V
  meanings_rest env (Some (x, e, rest)) = (x.name, value (meaning M env e)) ∷ binding_meanings M env rest
  meanings_rest env None = []

  bindings_are : (env : Names V) (items : Sexps) → binding_meanings M env items ≡ meanings_rest env (as_binding items)
  bindings_are env none = refl
  bindings_are env (more (leaf p l) rest) = refl
  bindings_are env (more (group p none) rest) = refl
  bindings_are env (more (group p (more (group q inside) others)) rest) = refl
  bindings_are env (more (group p (more (leaf q (numeral d)) others)) rest) = refl
  bindings_are env (more (group p (more (leaf q (decimal d f)) others)) rest) = refl
  bindings_are env (more (group p (more (leaf q (reserved w)) others)) rest) = refl
  bindings_are env (more (group p (more (leaf q (string t)) others)) rest) = refl
  bindings_are env (more (group p (more (leaf q (keyword k)) others)) rest) = refl
  bindings_are env (more (group p (more (leaf q (symbol x)) none)) rest) = refl
  bindings_are env (more (group p (more (leaf q (symbol x)) (more e none))) rest) = refl
  bindings_are env (more (group p (more (leaf q (symbol x)) (more e (more f others)))) rest) = refl

  pub bindings_none : (env : Names V) (items : Sexps) → as_binding items ≡ None → binding_meanings M env items ≡ []
  bindings_none env items h = bindings_are env items ∙ ap (meanings_rest env) h

  pub bindings_more : (env : Names V) (items rest : Sexps) (x : Label) (e : Sexp) → as_binding items ≡ Some (x, e, rest) →
      binding_meanings M env items ≡ (x.name, value (meaning M env e)) ∷ binding_meanings M env rest
  bindings_more env items rest x e h = bindings_are env items ∙ ap (meanings_rest env) h

  -- ---- groups

  abbrev bind_if : Place → Bool → V → V
  bind_if at true v = v
  bind_if at false v = M.nothing at malformed

  let_begins : (at : Place) (o : Option (List Label)) (vs : List V) (v : V) → let_meaning M at o vs v ≡ bind_if at (begins o) (M.bind at (labels_of o) vs v)
  let_begins at (Some (x ∷ xs)) vs v = refl
  let_begins at (Some []) vs v = refl
  let_begins at None vs v = refl

  let_if : (env : Names V) (at : Place) (b : Bool) (bindings : Sexps) (body : Sexp) →
      bind_if at b (M.bind at (labels_of (bound_names bindings)) (values_bound (binding_meanings M env bindings)) (meaning M (binding_meanings M env bindings ++ env) body)) ≡
      let_of M env at (cond b (Some (bindings, body)) None)
  let_if env at true bindings body = refl
  let_if env at false bindings body = refl

  pub group_let : (env : Names V) (at p : Place) (rest : Sexps) → group_meaning M env at (more (leaf p (reserved let_word)) rest) ≡ let_of M env at (as_let rest)
  group_let env at p none = refl
  group_let env at p (more (leaf q l) rest) = refl
  group_let env at p (more (group q items) none) = refl
  group_let env at p (more (group q items) (more body none)) =
      let_begins at (bound_names items) (values_bound (binding_meanings M env items)) (meaning M (binding_meanings M env items ++ env) body) ∙
      let_if env at (begins (bound_names items)) items body
  group_let env at p (more (group q items) (more body (more e rest))) = refl

  pub group_let_at : (env : Names V) (at p : Place) (items rest : Sexps) → items ≡ more (leaf p (reserved let_word)) rest → group_meaning M env at items ≡ let_of M env at (as_let rest)
  group_let_at env at p items rest h = ap (group_meaning M env at) h ∙ group_let env at p rest

  -- an annotated expression
  pub group_bang_at : (env : Names V) (at p : Place) (items rest : Sexps) → items ≡ more (leaf p (reserved bang)) rest → is_end rest ≡ false →
      group_meaning M env at items ≡ M.annotated at (meaning M env (first_of rest))
  group_bang_at env at p items none h g = absurd (true≢false g)
  group_bang_at env at p items (more e rest) h g = ap (group_meaning M env at) h
