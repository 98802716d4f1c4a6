-- The sorts of expressions by their forms.
use Rattle.std.proofs.Common.{◌≡◌, ℕ, List, [], ◌∷◌, ◌++◌, map, Bool, true, false, cond, Option, Some, None, refl, ap, sym, ◌∙◌, true≢false}
use Rattle.std.specs.Prelude.{is_some}
use Rattle.script_model.specs.Sexp.{Place, numeral, decimal, symbol, reserved, string, keyword, Sexp, leaf, group, Sexps, none, more, bang, let_word}
use Rattle.script_model.specs.Reading.{Names, value, Label, meaning, group_meaning, bound_names, one_name, binding_meanings, values_bound, let_meaning}
use Rattle.smt_sexp.specs.Arena.{first_of}
use Rattle.smt_script.specs.Forms.{as_any, is_end}
use Rattle.smt_script.specs.Views.{sort_of, parameter_of}
use Rattle.smt_script.specs.declared.command.Parameter as code_parameter
use Rattle.sort_check.specs.Sorts.{Sorted, of_sort, ill, sort_mismatch, redeclared, sorting, binding_sort, first_of_two, of_name, is_taken, parameter_names}
use Rattle.sort_check.specs.Forms.{as_binding, let_at, bound_from, labels_of}
use Rattle.sort_check.specs.Views.{around, names_back}

-- ---- groups

pub group_let : (env : Names Sorted) (at p : Place) (rest : Sexps) → group_meaning sorting env at (more (leaf p (reserved let_word)) rest) ≡ let_at env at rest
group_let env at p none = refl
group_let env at p (more (leaf q l) rest) = refl
group_let env at p (more (group q items) none) = refl
group_let env at p (more (group q items) (more body none)) = refl
group_let env at p (more (group q items) (more body (more e rest))) = refl

-- ---- bindings

abbrev pub with_label : Label → Option (List Label) → Option (List Label)
with_label x (Some names) = Some (x ∷ names)
with_label x None = None

abbrev pub bound_rest : Option (Label × Sexp × Sexps) → Sexps → Option (List Label)
bound_rest (Some (x, e, rest)) items = with_label x (bound_names rest)
bound_rest None none = Some []
bound_rest None (more e rest) = None

abbrev pub meanings_rest : Names Sorted → Option (Label × Sexp × Sexps) → Names Sorted
meanings_rest env (Some (x, e, rest)) = (x.name, value (meaning sorting env e)) ∷ binding_meanings sorting env rest
meanings_rest env None = []

one_label : (p q : Place) (x : List ℕ) (e : Sexp) (o : Option (List Label)) →
    one_name (group p (more (leaf q (symbol x)) (more e none))) o ≡ with_label (record { at = q; name = x }) o
one_label p q x e None = refl
one_label p q x e (Some names) = refl

pub bound_is : (items : Sexps) → bound_names items ≡ bound_rest (as_binding items) items
bound_is none = refl
bound_is (more (leaf p l) rest) = refl
bound_is (more (group p none) rest) = refl
bound_is (more (group p (more (group q inside) others)) rest) = refl
bound_is (more (group p (more (leaf q (numeral d)) others)) rest) = refl
bound_is (more (group p (more (leaf q (decimal d f)) others)) rest) = refl
bound_is (more (group p (more (leaf q (reserved w)) others)) rest) = refl
bound_is (more (group p (more (leaf q (string t)) others)) rest) = refl
bound_is (more (group p (more (leaf q (keyword k)) others)) rest) = refl
bound_is (more (group p (more (leaf q (symbol x)) none)) rest) = refl
bound_is (more (group p (more (leaf q (symbol x)) (more e none))) rest) = one_label p q x e (bound_names rest)
bound_is (more (group p (more (leaf q (symbol x)) (more e (more f others)))) rest) = refl

pub meanings_are : (env : Names Sorted) (items : Sexps) → binding_meanings sorting env items ≡ meanings_rest env (as_binding items)
meanings_are env none = refl
meanings_are env (more (leaf p l) rest) = refl
meanings_are env (more (group p none) rest) = refl
meanings_are env (more (group p (more (group q inside) others)) rest) = refl
meanings_are env (more (group p (more (leaf q (numeral d)) others)) rest) = refl
meanings_are env (more (group p (more (leaf q (decimal d f)) others)) rest) = refl
meanings_are env (more (group p (more (leaf q (reserved w)) others)) rest) = refl
meanings_are env (more (group p (more (leaf q (string t)) others)) rest) = refl
meanings_are env (more (group p (more (leaf q (keyword k)) others)) rest) = refl
meanings_are env (more (group p (more (leaf q (symbol x)) none)) rest) = refl
meanings_are env (more (group p (more (leaf q (symbol x)) (more e none))) rest) = refl
meanings_are env (more (group p (more (leaf q (symbol x)) (more e (more f others)))) rest) = refl

some_label : (x : Label) (o : Option (List Label)) → is_some (with_label x o) ≡ is_some o
some_label x None = refl
some_label x (Some names) = refl

labels_more : (x : Label) (o : Option (List Label)) → is_some o ≡ true → labels_of (with_label x o) ≡ x ∷ labels_of o
labels_more x (Some names) h = refl
labels_more x None h = absurd (true≢false (sym h))

-- a binding first
module _ (items rest : Sexps) (x : Label) (e : Sexp) (first : as_binding items ≡ Some (x, e, rest)) where
  names_first : bound_names items ≡ with_label x (bound_names rest)
  names_first = bound_is items ∙ ap (λ o. bound_rest o items) first

  pub some_first : is_some (bound_names items) ≡ is_some (bound_names rest)
  some_first = ap is_some names_first ∙ some_label x (bound_names rest)

  pub meanings_first : (env : Names Sorted) → binding_meanings sorting env items ≡ (x.name, value (meaning sorting env e)) ∷ binding_meanings sorting env rest
  meanings_first env = meanings_are env items ∙ ap (meanings_rest env) first

  pub bound_first : (env : Names Sorted) (before : List (List ℕ)) (body : Sorted) → is_some (bound_names items) ≡ true →
      bound_from before env items body ≡ first_of_two (of_name before x (meaning sorting env e)) (bound_from (x.name ∷ before) env rest body)
  bound_first env before body formed =
      ap (λ o. binding_sort before (labels_of o) (values_bound (binding_meanings sorting env items)) body) names_first ∙
      ap (λ l. binding_sort before l (values_bound (binding_meanings sorting env items)) body) (labels_more x (bound_names rest) (sym some_first ∙ formed)) ∙
      ap (λ ms. binding_sort before (x ∷ labels_of (bound_names rest)) (values_bound ms) body) (meanings_first env)

-- no binding first
pub none_first : (items : Sexps) → as_binding items ≡ None → is_some (bound_names items) ≡ true → items ≡ none
none_first none h g = refl
none_first (more e rest) h g = absurd (true≢false (sym g ∙ ap is_some (bound_is (more e rest)) ∙ ap (λ o. is_some (bound_rest o (more e rest))) h))

-- the name of a binding is taken
pub taken_first : (before : List (List ℕ)) (x : Label) (s : Sorted) (rest : Sorted) → is_taken before x.name ≡ true →
    first_of_two (of_name before x s) rest ≡ ill x.at (redeclared x.name)
taken_first before x s rest h = ap (λ b. first_of_two (cond b (ill x.at (redeclared x.name)) s) rest) h

pub free_first : (before : List (List ℕ)) (x : Label) (s : Sorted) (rest : Sorted) → is_taken before x.name ≡ false →
    first_of_two (of_name before x s) rest ≡ first_of_two s rest
free_first before x s rest h = ap (λ b. first_of_two (cond b (ill x.at (redeclared x.name)) s) rest) h

-- names of bindings before others
pub around_more : (bound locals : List code_parameter.Parameter) (names : Names Sorted) → around (bound ++ locals) names ≡ parameter_names (map parameter_of bound) ++ around locals names
around_more [] locals names = refl
around_more (p ∷ bound) locals names = ap (λ rest. (p.name.now, value (of_sort (sort_of p.sort))) ∷ rest) (around_more bound locals names)

pub names_last : (bound : List code_parameter.Parameter) (p : code_parameter.Parameter) (rest : Names Sorted) →
    parameter_names (map parameter_of (bound ++ p ∷ [])) ++ rest ≡ parameter_names (map parameter_of bound) ++ ((p.name.now, value (of_sort (sort_of p.sort))) ∷ rest)
names_last [] p rest = refl
names_last (q ∷ bound) p rest = ap (λ r. (q.name.now, value (of_sort (sort_of q.sort))) ∷ r) (names_last bound p rest)

pub group_let_at : (env : Names Sorted) (at p : Place) (items rest : Sexps) → items ≡ more (leaf p (reserved let_word)) rest → group_meaning sorting env at items ≡ let_at env at rest
group_let_at env at p items rest h = ap (group_meaning sorting env at) h ∙ group_let env at p rest

-- an annotated expression
pub group_bang_at : (env : Names Sorted) (at p : Place) (items rest : Sexps) → items ≡ more (leaf p (reserved bang)) rest → is_end rest ≡ false →
    group_meaning sorting env at items ≡ meaning sorting env (first_of rest)
group_bang_at env at p items none h g = absurd (true≢false g)
group_bang_at env at p items (more e rest) h g = ap (group_meaning sorting env at) h

pub back_after : (bound : List code_parameter.Parameter) (p : code_parameter.Parameter) → names_back (map parameter_of (bound ++ p ∷ [])) [] ≡ p.name.now ∷ names_back (map parameter_of bound) []
back_after bound p = from [] bound
  where
    from : (before : List (List ℕ)) (bs : List code_parameter.Parameter) → names_back (map parameter_of (bs ++ p ∷ [])) before ≡ p.name.now ∷ names_back (map parameter_of bs) before
    from before [] = refl
    from before (q ∷ bs) = from (q.name.now ∷ before) bs

-- ---- a whole `let`

abbrev let_behind : Names Sorted → Place → Sexps → Option (Sexp × Sexps) → Sorted
let_behind env at bindings (Some (body, none)) =
    let_meaning sorting at (bound_names bindings) (values_bound (binding_meanings sorting env bindings)) (meaning sorting (binding_meanings sorting env bindings ++ env) body)
let_behind env at bindings _ = ill at sort_mismatch

let_group : (env : Names Sorted) (at q : Place) (bindings rest : Sexps) → let_at env at (more (group q bindings) rest) ≡ let_behind env at bindings (as_any rest)
let_group env at q bindings none = refl
let_group env at q bindings (more body none) = refl
let_group env at q bindings (more body (more e rest)) = refl

abbrev begins : Option (List Label) → Bool
begins (Some (x ∷ xs)) = true
begins _ = false

let_begins : (at : Place) (o : Option (List Label)) (vs : List Sorted) (body : Sorted) → begins o ≡ true → let_meaning sorting at o vs body ≡ binding_sort [] (labels_of o) vs body
let_begins at (Some (x ∷ xs)) vs body h = refl
let_begins at (Some []) vs body h = absurd (true≢false (sym h))
let_begins at None vs body h = absurd (true≢false (sym h))

begins_label : (x : Label) (o : Option (List Label)) → begins (with_label x o) ≡ is_some o
begins_label x None = refl
begins_label x (Some names) = refl

begins_rest : (first : Sexp) (rest : Sexps) (o : Option (Label × Sexp × Sexps)) → begins (bound_rest o (more first rest)) ≡ is_some (bound_rest o (more first rest))
begins_rest first rest None = refl
begins_rest first rest (Some (x, e, more_items)) = begins_label x (bound_names more_items) ∙ sym (some_label x (bound_names more_items))

begins_more : (bindings : Sexps) → is_end bindings ≡ false → is_some (bound_names bindings) ≡ true → begins (bound_names bindings) ≡ true
begins_more none h g = absurd (true≢false h)
begins_more (more e rest) h g =
    ap begins (bound_is (more e rest)) ∙ begins_rest e rest (as_binding (more e rest)) ∙ ap is_some (sym (bound_is (more e rest))) ∙ g

at_end : (env : Names Sorted) (at : Place) (bindings : Sexps) (body : Sexp) (rest : Sexps) → is_end rest ≡ true → is_end bindings ≡ false → is_some (bound_names bindings) ≡ true →
    let_behind env at bindings (Some (body, rest)) ≡ bound_from [] env bindings (meaning sorting (binding_meanings sorting env bindings ++ env) body)
at_end env at bindings body none e h g = let_begins at (bound_names bindings) _ _ (begins_more bindings h g)
at_end env at bindings body (more x rest) e h g = absurd (true≢false (sym e))

pub let_is : (env : Names Sorted) (at q : Place) (items bindings rest after : Sexps) (body : Sexp) → items ≡ more (group q bindings) rest → as_any rest ≡ Some (body, after) →
    is_end after ≡ true → is_end bindings ≡ false → is_some (bound_names bindings) ≡ true →
    let_at env at items ≡ bound_from [] env bindings (meaning sorting (binding_meanings sorting env bindings ++ env) body)
let_is env at q items bindings rest after body items_are first e h g =
    ap (let_at env at) items_are ∙ let_group env at q bindings rest ∙ ap (let_behind env at bindings) first ∙ at_end env at bindings body after e h g
