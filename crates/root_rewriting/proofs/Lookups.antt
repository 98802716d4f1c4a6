-- What is found under a name.
use Rattle.std.proofs.Common.{◌≡◌, ℕ, zero, suc, List, [], ◌∷◌, ◌++◌, map, Bool, true, false, cond, Option, Some, None, refl, ap, sym, ◌∙◌, subst}
use Rattle.std.specs.Prelude.{slice_get}
use Rattle.std.specs.Str.{bytes_eq}
use Rattle.script_model.specs.Sexp.{Place}
use Rattle.script_model.specs.Reading.{found, operators}
use Rattle.script_roots.specs.Tree as model
use Rattle.script_roots.specs.Tree.{Tree, Names, tree, function, formless, theory_names, sqrt_tree, bound_trees, tree_of, application_tree, symbol_tree, name_tree}
use Rattle.script_model.specs.Script.{Parameter}
use Rattle.smt_sexp.specs.Arena.{expression_at}
use Rattle.smt_sexp.specs.declared.sexps.Sexps as arena
use Rattle.smt_script.specs.Views.{parameter_of}
use Rattle.root_rewriting.specs.Locals.{local_node}
use Rattle.root_rewriting.specs.TreeNames.{if_named, top_known, known_of, entry_by, names_by, top_names, AreLocals, IsHead, Knows}
use Rattle.root_rewriting.specs.Walking.{head_tree}
use Rattle.root_rewriting.specs.declared.unfold.top.Known.{Known}
use Rattle.root_rewriting.specs.declared.unfold.top.Known.TheVariants as known
use Rattle.root_rewriting.specs.declared.unfold.top.Top.{Top}
use Rattle.root_rewriting.specs.declared.unfold.locals.Local.{Local}
use Rattle.root_rewriting.specs.declared.unfold.names.Head.{Head}
use Rattle.root_rewriting.specs.declared.unfold.names.Head.TheVariants as head

-- ---- the top

module _ {V : Type 0} (stands : List (List ℕ × V) → Known → V) (theory : List (List ℕ × V)) (top : List Top) (x : List ℕ) where
  abbrev names : ℕ → List (List ℕ × V)
  names n = names_by stands theory top n

  found-entry : (n : ℕ) (t : Option Top) (before : Option (ℕ × Known)) (i : ℕ) (k : Known) →
      (before ≡ Some (i, k) → found x (names n) ≡ Some (stands (names i) k)) →
      if_named x n t before ≡ Some (i, k) → found x (entry_by stands (names n) t) ≡ Some (stands (names i) k)
  found-entry n None before i k f h = f h
  found-entry n (Some t) before i k f h = go (bytes_eq x t.name.now) h
    where
      go : (b : Bool) → cond b (Some (n, t.known)) before ≡ Some (i, k) → cond b (Some (stands (names n) t.known)) (found x (names n)) ≡ Some (stands (names i) k)
      go true e = ap (λ (o : Option (ℕ × Known)). known_in o) e
        where
          known_in : Option (ℕ × Known) → Option V
          known_in None = None
          known_in (Some (j, l)) = Some (stands (names j) l)
      go false e = f e

  pub found_top : (n i : ℕ) (k : Known) → top_known x top n ≡ Some (i, k) → found x (names n) ≡ Some (stands (names i) k)
  found_top zero i k h = cc
  found_top (suc n) i k h = found-entry n (slice_get top n) (top_known x top n) i k (found_top n i k) h

  none-entry : (n : ℕ) (t : Option Top) (before : Option (ℕ × Known)) → (before ≡ None → found x (names n) ≡ found x theory) → if_named x n t before ≡ None →
      found x (entry_by stands (names n) t) ≡ found x theory
  none-entry n None before f h = f h
  none-entry n (Some t) before f h = go (bytes_eq x t.name.now) h
    where
      go : (b : Bool) → cond b (Some (n, t.known)) before ≡ None → cond b (Some (stands (names n) t.known)) (found x (names n)) ≡ found x theory
      go true e = cc
      go false e = f e

  pub none_top : (n : ℕ) → top_known x top n ≡ None → found x (names n) ≡ found x theory
  none_top zero h = refl
  none_top (suc n) h = none-entry n (slice_get top n) (top_known x top n) (none_top n) h

-- ---- locals

-- a local is found, with its tree
pub record FoundLocal (m : List Tree) (x : List ℕ) (names : Names) (k : ℕ) : Type 0 where
  pub made : Tree
  pub is : found x names ≡ Some (tree made)
  pub there : slice_get m k ≡ Some made

module _ (m : List Tree) (x : List ℕ) (ns : Names) where
  found-first : (c : Bool) (t : Tree) (k o : ℕ) (y l : List ℕ) (near : Names) (rest : Option ℕ) → y ≡ l → slice_get m o ≡ Some t → bytes_eq x l ≡ c →
      (rest ≡ Some k → FoundLocal m x (near ++ ns) k) → cond c (Some o) rest ≡ Some k → FoundLocal m x ((y, tree t) ∷ (near ++ ns)) k
  found-first true t k o y l near rest ye h c f g = record {
    made = t;
    is = ap (λ i. cond i (Some (tree t)) (found x (near ++ ns))) (ap (bytes_eq x) ye ∙ c);
    there = let one : o ≡ k = cc g in subst (λ (j : ℕ). slice_get m j ≡ Some t) one h;
  }
  found-first false t k o y l near rest ye h c f g = let i = f g in record {
    made = i.made;
    is = ap (λ b. cond b (Some (tree t)) (found x (near ++ ns))) (ap (bytes_eq x) ye ∙ c) ∙ i.is;
    there = i.there;
  }

  pub found_local : (locals : List Local) (near : Names) (k : ℕ) → AreLocals m locals near → local_node x locals ≡ Some k → FoundLocal m x (near ++ ns) k
  found_local [] near k h e = cc
  found_local (l ∷ ls) ((y, tree t) ∷ near) k h e = found-first (bytes_eq x l.name.now) t k l.node y l.name.now near (local_node x ls) h.0 h.1 refl (λ g. found_local ls near k h.2 g) e
  found_local (l ∷ ls) _ k h e = elim h [ ]

  none-first : (c : Bool) (t : Tree) (o : ℕ) (y l : List ℕ) (near : Names) (rest : Option ℕ) → y ≡ l → bytes_eq x l ≡ c → (rest ≡ None → found x (near ++ ns) ≡ found x ns) → cond c (Some o) rest ≡ None →
      found x ((y, tree t) ∷ (near ++ ns)) ≡ found x ns
  none-first true t o y l near rest ye c f g = cc
  none-first false t o y l near rest ye c f g = ap (λ i. cond i (Some (tree t)) (found x (near ++ ns))) (ap (bytes_eq x) ye ∙ c) ∙ f g

  pub none_local : (locals : List Local) (near : Names) → AreLocals m locals near → local_node x locals ≡ None → found x (near ++ ns) ≡ found x ns
  none_local [] [] h e = refl
  none_local [] (n ∷ near) h e = elim h [ ]
  none_local (l ∷ ls) ((y, tree t) ∷ near) h e = none-first (bytes_eq x l.name.now) t l.node y l.name.now near (local_node x ls) h.0 refl (λ g. none_local ls near h.2 g) e
  none_local (l ∷ ls) _ h e = elim h [ ]

-- ---- what a name stands for

theory-none : (x : List ℕ) → bytes_eq x model.sqrt_name ≡ false → found x theory_names ≡ None
theory-none x h = ap (λ b. cond b (Some (function sqrt_tree)) None) h

theory-sqrt : (x : List ℕ) → bytes_eq x model.sqrt_name ≡ true → found x theory_names ≡ Some (function sqrt_tree)
theory-sqrt x h = ap (λ b. cond b (Some (function sqrt_tree)) None) h

module _ (m : List Tree) (s : arena.Sexps) (top : List Top) (n : ℕ) (ls : List Local) (names : Names) (knows : Knows m s top n ls names) (x : List ℕ) where
  not-local : local_node x ls ≡ None → found x names ≡ found x (top_names s top n)
  not-local h = ap (found x) knows.are ∙ none_local m x (top_names s top n) ls knows.near knows.stand h

  pub none_known : IsHead x top n ls None → found x names ≡ None
  none_known h = not-local h.1 ∙ none_top (known_of s) theory_names top x n h.2 ∙ theory-none x h.3

  pub sqrt_known : IsHead x top n ls (Some head.Sqrt) → found x names ≡ Some (function sqrt_tree)
  sqrt_known h = not-local h.1 ∙ none_top (known_of s) theory_names top x n h.2 ∙ theory-sqrt x h.3

  pub local_known : (k : ℕ) → local_node x ls ≡ Some k → FoundLocal m x names k
  local_known k h = subst (λ ns. FoundLocal m x ns k) (sym knows.are) (found_local m x (top_names s top n) ls knows.near k knows.stand h)

  pub top_is : (i : ℕ) (k : Known) → local_node x ls ≡ None → top_known x top n ≡ Some (i, k) → found x names ≡ Some (known_of s (top_names s top i) k)
  top_is i k h e = not-local h ∙ found_top (known_of s) theory_names top x n i k e

  module _ (at : Place) where
    named-call : (k : model.Known) (t : Tree) (ts : List Tree) → found x operators ≡ None → found x names ≡ Some k → application_tree names at x (found x operators) (t ∷ ts) ≡ model.call_tree at (Some k) (t ∷ ts)
    named-call k t ts e f = ap (λ o. application_tree names at x o (t ∷ ts)) e ∙ ap (λ o. model.call_tree at o (t ∷ ts)) f

    -- what it makes of arguments
    pub applied_is : (h : Head) (t : Tree) (ts : List Tree) → IsHead x top n ls (Some h) → application_tree names at x (found x operators) (t ∷ ts) ≡ head_tree s top at x h (t ∷ ts)
    applied_is (head.Operator o) t ts h = ap (λ p. application_tree names at x p (t ∷ ts)) h
    applied_is (head.Local k) t ts h = let l = local_known k h.1 in named-call (tree l.made) t ts h.0 l.is
    applied_is (head.Constant place name) t ts h = named-call _ t ts h.0 (top_is h.2.0 (known.Constant place name) h.1 h.2.1)
    applied_is (head.Function i params body) t ts h = named-call _ t ts h.0 (top_is i (known.Function params body) h.1 h.2)
    applied_is head.Sqrt t ts h = named-call (function sqrt_tree) t ts h.0 (sqrt_known h)

    pub applied_unknown : (ts : List Tree) → IsHead x top n ls None → application_tree names at x (found x operators) ts ≡ formless at
    applied_unknown [] h = ap (λ o. application_tree names at x o []) h.0
    applied_unknown (t ∷ ts) h = ap (λ o. application_tree names at x o (t ∷ ts)) h.0 ∙ ap (λ o. model.call_tree at o (t ∷ ts)) (none_known h)

    named-alone : (k : Option model.Known) → found x operators ≡ None → found x names ≡ k → symbol_tree names at x (found x operators) ≡ name_tree at k
    named-alone k e f = ap (symbol_tree names at x) e ∙ ap (name_tree at) f

    -- and alone
    pub alone_unknown : IsHead x top n ls None → symbol_tree names at x (found x operators) ≡ formless at
    alone_unknown h = named-alone None h.0 (none_known h)

    pub alone_sqrt : IsHead x top n ls (Some head.Sqrt) → symbol_tree names at x (found x operators) ≡ formless at
    alone_sqrt h = named-alone (Some (function sqrt_tree)) h.0 (sqrt_known h)

    pub alone_local : (k : ℕ) (h : IsHead x top n ls (Some (head.Local k))) → slice_get m k ≡ Some (symbol_tree names at x (found x operators))
    alone_local k h = let l = local_known k h.1 in l.there ∙ ap Some (sym (named-alone (Some (tree l.made)) h.0 l.is))

    pub alone_constant : (place : _) (name : _) (h : IsHead x top n ls (Some (head.Constant place name))) →
        symbol_tree names at x (found x operators) ≡ name_tree at (Some (known_of s (top_names s top h.2.0) (known.Constant place name)))
    alone_constant place name h = named-alone _ h.0 (top_is h.2.0 (known.Constant place name) h.1 h.2.1)

    bound-none : (ps : List Parameter) → bound_trees ps [] ≡ []
    bound-none [] = refl
    bound-none (p ∷ ps) = refl

    pub alone_function : (i : ℕ) (params : _) (body : ℕ) → IsHead x top n ls (Some (head.Function i params body)) → symbol_tree names at x (found x operators) ≡ tree_of (top_names s top i) (expression_at s body)
    alone_function i params body h =
        named-alone (Some (known_of s (top_names s top i) (known.Function params body))) h.0 (top_is i (known.Function params body) h.1 h.2) ∙
        ap (λ ns. tree_of (ns ++ top_names s top i) (expression_at s body)) (bound-none (map parameter_of params.now))
