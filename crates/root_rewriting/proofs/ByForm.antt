-- The trees of expressions by their forms.
use Rattle.std.proofs.Common.{◌≡◌, List, [], ◌∷◌, ◌++◌, Bool, true, false, cond, Option, Some, None, refl, ap, sym, ◌∙◌, true≢false, ℕ}
use Rattle.script_model.specs.Sexp.{Place, numeral, decimal, symbol, reserved, string, keyword, Sexp, leaf, group, Sexps, none, more, bang, let_word}
use Rattle.script_model.specs.Reading.{Label, Operator, bound_names}
use Rattle.script_roots.specs.Tree.{Tree, Names, tree, formless, tree_of, group_tree, all_trees, binding_trees, let_tree, application_tree}
use Rattle.smt_sexp.specs.Arena.{first_of}
use Rattle.smt_sexp.specs.Views.{reserved_of}
use Rattle.smt_sexp.specs.declared.leaf.Reserved.{Reserved}
use Rattle.smt_sexp.specs.declared.leaf.Reserved.TheVariants as words
use Rattle.smt_script.specs.Forms.{as_any, is_end}
use Rattle.sort_check.specs.Forms.{as_binding}
use Rattle.root_rewriting.specs.LetParts.{begins, as_let, let_of}

-- ---- arguments

abbrev any_trees : Names → Option (Sexp × Sexps) → List Tree
any_trees names None = []
any_trees names (Some (e, rest)) = tree_of names e ∷ all_trees names rest

trees-are : (names : Names) (items : Sexps) → all_trees names items ≡ any_trees names (as_any items)
trees-are names none = refl
trees-are names (more e rest) = refl

pub trees_none : (names : Names) (items : Sexps) → as_any items ≡ None → all_trees names items ≡ []
trees_none names items h = trees-are names items ∙ ap (any_trees names) h

pub trees_more : (names : Names) (items : Sexps) (e : Sexp) (rest : Sexps) → as_any items ≡ Some (e, rest) → all_trees names items ≡ tree_of names e ∷ all_trees names rest
trees_more names items e rest h = trees-are names items ∙ ap (any_trees names) h

-- ---- bindings

abbrev trees_rest : Names → Option (Label × Sexp × Sexps) → Names
trees_rest names (Some (x, e, rest)) = (x.name, tree (tree_of names e)) ∷ binding_trees names rest
trees_rest names None = []

bindings-are : (names : Names) (items : Sexps) → binding_trees names items ≡ trees_rest names (as_binding items)
bindings-are names none = refl
bindings-are names (more (leaf p l) rest) = refl
bindings-are names (more (group p none) rest) = refl
bindings-are names (more (group p (more (group q inside) others)) rest) = refl
bindings-are names (more (group p (more (leaf q (numeral d)) others)) rest) = refl
bindings-are names (more (group p (more (leaf q (decimal d f)) others)) rest) = refl
bindings-are names (more (group p (more (leaf q (reserved w)) others)) rest) = refl
bindings-are names (more (group p (more (leaf q (string t)) others)) rest) = refl
bindings-are names (more (group p (more (leaf q (keyword k)) others)) rest) = refl
bindings-are names (more (group p (more (leaf q (symbol x)) none)) rest) = refl
bindings-are names (more (group p (more (leaf q (symbol x)) (more e none))) rest) = refl
bindings-are names (more (group p (more (leaf q (symbol x)) (more e (more f others)))) rest) = refl

pub bindings_none : (names : Names) (items : Sexps) → as_binding items ≡ None → binding_trees names items ≡ []
bindings_none names items h = bindings-are names items ∙ ap (trees_rest names) h

pub bindings_more : (names : Names) (items rest : Sexps) (x : Label) (e : Sexp) → as_binding items ≡ Some (x, e, rest) → binding_trees names items ≡ (x.name, tree (tree_of names e)) ∷ binding_trees names rest
bindings_more names items rest x e h = bindings-are names items ∙ ap (trees_rest names) h

-- ---- groups

abbrev tree_if : Place → Bool → Tree → Tree
tree_if at true t = t
tree_if at false t = formless at

let-begins : (at : Place) (o : Option (List Label)) (t : Tree) → let_tree at o t ≡ tree_if at (begins o) t
let-begins at (Some (x ∷ xs)) t = refl
let-begins at (Some []) t = refl
let-begins at None t = refl

let-if : (names : Names) (at : Place) (b : Bool) (bindings : Sexps) (body : Sexp) → tree_if at b (tree_of (binding_trees names bindings ++ names) body) ≡ let_of names at (cond b (Some (bindings, body)) None)
let-if names at true bindings body = refl
let-if names at false bindings body = refl

pub group_let_word : (names : Names) (at p : Place) (rest : Sexps) → group_tree names at (more (leaf p (reserved let_word)) rest) ≡ let_of names at (as_let rest)
group_let_word names at p none = refl
group_let_word names at p (more (leaf q l) rest) = refl
group_let_word names at p (more (group q items) none) = refl
group_let_word names at p (more (group q items) (more body none)) =
    let-begins at (bound_names items) (tree_of (binding_trees names items ++ names) body) ∙ let-if names at (begins (bound_names items)) items body
group_let_word names at p (more (group q items) (more body (more e rest))) = refl

-- an annotated expression
pub group_bang : (names : Names) (at p : Place) (rest : Sexps) → is_end rest ≡ false → group_tree names at (more (leaf p (reserved bang)) rest) ≡ tree_of names (first_of rest)
group_bang names at p none g = absurd (true≢false g)
group_bang names at p (more e rest) g = refl

pub group_bang_end : (names : Names) (at p : Place) (rest : Sexps) → is_end rest ≡ true → group_tree names at (more (leaf p (reserved bang)) rest) ≡ formless at
group_bang_end names at p none g = refl
group_bang_end names at p (more e rest) g = absurd (true≢false (sym g))

-- any other reserved word
pub group_word : (names : Names) (at p : Place) (rest : Sexps) (w : Reserved) → (w ≡ words.Let → ⊥) → (w ≡ words.Bang → ⊥) → group_tree names at (more (leaf p (reserved (reserved_of w))) rest) ≡ formless at
group_word names at p rest words.Bang f g = elim (g refl) [ ]
group_word names at p rest words.Underscore f g = refl
group_word names at p rest words.As f g = refl
group_word names at p rest words.Let f g = elim (f refl) [ ]
group_word names at p rest words.Exists f g = refl
group_word names at p rest words.Forall f g = refl
group_word names at p rest words.Match f g = refl
group_word names at p rest words.Par f g = refl

-- a name in parentheses without arguments
pub applied_bare : (names : Names) (at : Place) (x : List ℕ) (o : Option Operator) (items : Sexps) → is_end items ≡ true → application_tree names at x o (all_trees names items) ≡ formless at
applied_bare names at x o none h = refl
applied_bare names at x o (more e rest) h = absurd (true≢false (sym h))
