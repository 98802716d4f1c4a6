-- Arguments and bindings, one after the other.
use Rattle.std.proofs.Common.{◌≡◌, ℕ, List, [], ◌∷◌, ◌++◌, Some, None, refl, ap, sym, ◌∙◌, append_assoc, append-nil, false, true≢false}
use Rattle.std.specs.Borrow.{Bor}
use Rattle.std.specs.Prelude.{slice_get}
use Rattle.script_model.specs.Sexp.{Place, Sexps, none, more}
use Rattle.script_model.specs.Reading.{found, operators}
use Rattle.script_roots.specs.Tree.{Tree, Names, tree, tree_of, all_trees, binding_trees, application_tree}
use Rattle.smt_sexp.specs.Arena.{expression_at, rest_of}
use Rattle.script_fault.specs.declared.name.Name as names
use Rattle.smt_sexp.specs.declared.sexps.Sexps as arena
use Rattle.smt_script.specs.Forms.{as_any, is_end}
use Rattle.sort_check.specs.Forms.{as_binding}
use Rattle.root_rewriting.specs.TreeNames.{AreLocals, Knows, IsHead}
use Rattle.root_rewriting.specs.Walking.{Calls, Lets, EntersWithin, IsScope, call_tree, head_tree}
use Rattle.root_rewriting.specs.declared.unfold.top.Top.{Top}
use Rattle.root_rewriting.specs.declared.unfold.locals.Local.{Local}
use Rattle.root_rewriting.specs.declared.unfold.names.Head.{Head}
use Rattle.root_rewriting.specs.declared.unfold.frames.Scope.{Scope}
use Rattle.root_rewriting.specs.declared.unfold.frames.Call.{Call}
use Rattle.root_rewriting.specs.declared.unfold.frames.Let.{Let}
use Rattle.root_rewriting.specs.declared.unfold.frames.Frame.TheVariants as frame
use Rattle.root_rewriting.proofs.ByForm as forms
use Rattle.root_rewriting.proofs.Growth.{knows_scope}
use Rattle.root_rewriting.proofs.Lookups.{applied_is}

-- ---- calls

module _ (m : List Tree) (s : arena.Sexps) (top : List Top) (c : Call) (t : Tree) (h : Calls m s top c t) where
  -- its next argument
  pub call_next : (after : ℕ) (scope : Scope) → as_any (rest_of s c.next) ≡ Some (expression_at s c.next, rest_of s after) → IsScope scope c.scope.visible c.scope.locals.value →
      EntersWithin m s top (frame.Call (record c { next = after })) scope c.next t
  call_next after scope is same =
      let here = tree_of h.names (expression_at s c.next) in
      let each = forms.trees_more h.names (rest_of s c.next) (expression_at s c.next) (rest_of s after) is in
      record {
        here = here;
        enters = record { names = h.names; knows = knows_scope m s top c.scope.visible c.scope.locals.value h.names scope same h.knows; is = refl };
        waits = record {
          names = h.names;
          knows = h.knows;
          done = h.done;
          parts = h.parts;
          call = h.call ∙ ap (λ ts. call_tree s top c ts) (ap (λ ts. h.done ++ ts) each ∙ sym (append_assoc h.done (here ∷ []) (all_trees h.names (rest_of s after))));
        };
      }

  -- behind its last argument
  pub call_last : as_any (rest_of s c.next) ≡ None → t ≡ call_tree s top c h.done
  call_last is = h.call ∙ ap (λ ts. call_tree s top c ts) (ap (λ ts. h.done ++ ts) (forms.trees_none h.names (rest_of s c.next) is) ∙ append-nil h.done)

-- a call that is reached
pub applied_begins : (m : List Tree) (s : arena.Sexps) (top : List Top) (n : ℕ) (ls : List Local) (ns : Names) (knows : Knows m s top n ls ns) (x : List ℕ) (at : Place) (h : Head) (items : Sexps) →
    IsHead x top n ls (Some h) → is_end items ≡ false → application_tree ns at x (found x operators) (all_trees ns items) ≡ head_tree s top at x h (all_trees ns items)
applied_begins m s top n ls ns knows x at h none is e = absurd (true≢false e)
applied_begins m s top n ls ns knows x at h (more a rest) is e = applied_is m s top n ls ns knows x at h (tree_of ns a) (all_trees ns rest) is

-- ---- `let`

pub locals_last : (m : List Tree) (x : Bor names.Name) (t : Tree) (k : ℕ) → slice_get m k ≡ Some t → (ls : List Local) (ns : Names) → AreLocals m ls ns →
    AreLocals m (ls ++ (record { name = x; node = k } ∷ [])) (ns ++ ((x.now, tree t) ∷ []))
locals_last m x t k h [] [] i = (refl, h, tt)
locals_last m x t k h (l ∷ ls) ((y, tree u) ∷ ns) i = (i.0, i.1, locals_last m x t k h ls ns i.2)
locals_last m x t k h _ _ i = elim i [ ]

module _ (m : List Tree) (s : arena.Sexps) (top : List Top) (l : Let) (t : Tree) (h : Lets m s top l t) where
  -- its next binding
  pub let_next : (x : Bor names.Name) (p : Place) (at after : ℕ) (scope : Scope) → as_binding (rest_of s l.next) ≡ Some (record { at = p; name = x.now }, expression_at s at, rest_of s after) →
      IsScope scope l.scope.visible l.scope.locals.value → EntersWithin m s top (frame.Let (record l { next = after }) x) scope at t
  let_next x p at after scope is same =
      let here = tree_of h.names (expression_at s at) in
      let each = forms.bindings_more h.names (rest_of s l.next) (rest_of s after) (record { at = p; name = x.now }) (expression_at s at) is in
      record {
        here = here;
        enters = record { names = h.names; knows = knows_scope m s top l.scope.visible l.scope.locals.value h.names scope same h.knows; is = refl };
        waits = record {
          names = h.names;
          knows = h.knows;
          done = h.done;
          stand = h.stand;
          binds = h.binds ∙ ap (λ ns. tree_of (ns ++ h.names) (expression_at s l.body))
              (ap (λ ns. h.done ++ ns) each ∙ sym (append_assoc h.done ((x.now, tree here) ∷ []) (binding_trees h.names (rest_of s after))));
        };
      }

  -- behind its last binding
  pub let_last : as_binding (rest_of s l.next) ≡ None → t ≡ tree_of (h.done ++ h.names) (expression_at s l.body)
  let_last is = h.binds ∙ ap (λ ns. tree_of (ns ++ h.names) (expression_at s l.body)) (ap (λ ns. h.done ++ ns) (forms.bindings_none h.names (rest_of s l.next) is) ∙ append-nil h.done)
