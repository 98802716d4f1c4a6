-- What the walk over an expression answers, and what is left to be done while it goes on.
use Rattle.std.specs.Prelude.{◌≡◌, ℕ, suc, ◌<◌, ◌≤◌, List, [], ◌∷◌, ◌++◌, map, length, Some, Result, Ok, Err, slice_get}
use Rattle.std.specs.declared.alloc.AllocError.{AllocError}
use Rattle.script_model.specs.Sexp.{Place}
use Rattle.script_forms.specs.Walk.{most_size}
use Rattle.script_roots.specs.Tree.{Tree, formless, tree, Names, operator_tree, sqrt_tree, bound_trees, tree_of, all_trees, binding_trees}
use Rattle.smt_sexp.specs.Arena.{expression_at, rest_of}
use Rattle.smt_sexp.specs.Views.{place_of}
use Rattle.smt_sexp.specs.declared.sexps.Sexps as arena
use Rattle.smt_script.specs.Views.{parameter_of}
use Rattle.sort_check.specs.Views.{operator_of}
use Rattle.root_rewriting.specs.Nodes.{AreBelow}
use Rattle.root_rewriting.specs.TreeNames.{top_names, AreLocals, Knows}
use Rattle.root_rewriting.specs.declared.unfold.top.Top.{Top}
use Rattle.root_rewriting.specs.declared.unfold.locals.Local.{Local}
use Rattle.root_rewriting.specs.declared.unfold.trees.Node.{Node}
use Rattle.root_rewriting.specs.declared.unfold.stop.Stop.{Stop}
use Rattle.root_rewriting.specs.declared.unfold.stop.Stop.TheVariants as stop
use Rattle.root_rewriting.specs.declared.unfold.names.Head.{Head}
use Rattle.root_rewriting.specs.declared.unfold.names.Head.TheVariants as head
use Rattle.root_rewriting.specs.declared.unfold.frames.Source.{Source}
use Rattle.root_rewriting.specs.declared.unfold.frames.Scope.{Scope}
use Rattle.root_rewriting.specs.declared.unfold.frames.Call.{Call}
use Rattle.root_rewriting.specs.declared.unfold.frames.Let.{Let}
use Rattle.root_rewriting.specs.declared.unfold.frames.Frame.{Frame}
use Rattle.root_rewriting.specs.declared.unfold.frames.Frame.TheVariants as frame
use Rattle.root_rewriting.specs.declared.unfold.frames.Next.{Next}
use Rattle.root_rewriting.specs.declared.unfold.frames.Next.TheVariants as next

-- ---- what is made

-- what was made stays
abbrev pub Grows : List Tree → List Tree → Type 0
Grows old new = (later : List Tree) × (new ≡ old ++ later)

-- this tree is made, and what was made stays; or memory is out
abbrev pub Makes : {E : Type 0} → List Tree → List Tree → Tree → Result ℕ E → Type 0
Makes old new t (Ok k) = Grows old new × (slice_get new k ≡ Some t)
Makes old new t (Err e) = Unit {0}

-- these trees stand at these places
abbrev pub AreTrees : List Tree → List Tree → List ℕ → Type 0
AreTrees m [] [] = Unit {0}
AreTrees m (t ∷ ts) (k ∷ ks) = (slice_get m k ≡ Some t) × AreTrees m ts ks
AreTrees m _ _ = ⊥

-- a tree that is made goes back
abbrev pub returned : Result ℕ AllocError → Result Next AllocError
returned (Ok k) = Ok (next.Back k)
returned (Err e) = Err e

-- the scope sees so many names of the top, and these locals
abbrev pub IsScope : Scope → ℕ → List Local → Type 0
IsScope scope n ls = (scope.visible ≡ n) × (scope.locals.value ≡ ls)

-- what the names of a scope stand for
abbrev pub KnowsScope : List Tree → arena.Sexps → List Top → Scope → Names → Type 0
KnowsScope m s top scope names = Knows m s top scope.visible scope.locals.value names

-- ---- what is left to be done

-- what a name that stands for this makes of its arguments
abbrev pub head_tree : arena.Sexps → List Top → Place → List ℕ → Head → List Tree → Tree
head_tree s top at x (head.Operator o) ts = operator_tree at x (operator_of o) ts
head_tree s top at x (head.Function i params body) ts = tree_of (bound_trees (map parameter_of params.now) ts ++ top_names s top i) (expression_at s body)
head_tree s top at x head.Sqrt ts = sqrt_tree at ts
head_tree s top at x h ts = formless at

abbrev pub call_tree : arena.Sexps → List Top → Call → List Tree → Tree
call_tree s top c ts = head_tree s top (place_of c.place) c.name.now c.head ts

-- what a call comes to, whose first arguments have trees
pub record Calls (m : List Tree) (s : arena.Sexps) (top : List Top) (c : Call) (t : Tree) : Type 0 where
  pub names : Names
  pub knows : KnowsScope m s top c.scope names
  pub done : List Tree
  pub parts : AreTrees m done c.parts.items
  pub call : t ≡ call_tree s top c (done ++ all_trees names (rest_of s c.next))

-- the same, where one argument more is in work, which gets this tree
pub record CallWaits (m : List Tree) (s : arena.Sexps) (top : List Top) (c : Call) (u t : Tree) : Type 0 where
  pub names : Names
  pub knows : KnowsScope m s top c.scope names
  pub done : List Tree
  pub parts : AreTrees m done c.parts.items
  pub call : t ≡ call_tree s top c ((done ++ (u ∷ [])) ++ all_trees names (rest_of s c.next))

-- what a `let` comes to, whose first names are bound
pub record Lets (m : List Tree) (s : arena.Sexps) (top : List Top) (l : Let) (t : Tree) : Type 0 where
  pub names : Names
  pub knows : KnowsScope m s top l.scope names
  pub done : Names
  pub stand : AreLocals m l.bound done
  pub binds : t ≡ tree_of ((done ++ binding_trees names (rest_of s l.next)) ++ names) (expression_at s l.body)

-- the same, where this name is to be bound to this tree
pub record LetWaits (m : List Tree) (s : arena.Sexps) (top : List Top) (l : Let) (x : List ℕ) (u t : Tree) : Type 0 where
  pub names : Names
  pub knows : KnowsScope m s top l.scope names
  pub done : Names
  pub stand : AreLocals m l.bound done
  pub binds : t ≡ tree_of (((done ++ ((x, tree u) ∷ [])) ++ binding_trees names (rest_of s l.next)) ++ names) (expression_at s l.body)

-- what waits comes to, behind this tree
abbrev pub Waits : List Tree → arena.Sexps → List Top → Frame → Tree → Tree → Type 0
Waits m s top (frame.Call c) u t = CallWaits m s top c u t
Waits m s top (frame.Let l x) u t = LetWaits m s top l x.now u t

-- what waits keeps trees that are there
abbrev pub KnowsNodes : List Node → Frame → Type 0
KnowsNodes m (frame.Call c) = AreBelow (length m) c.parts.items
KnowsNodes m (frame.Let l x) = Unit {0}

-- the tree of an expression
pub record Enters (m : List Tree) (s : arena.Sexps) (top : List Top) (scope : Scope) (at : ℕ) (t : Tree) : Type 0 where
  pub names : Names
  pub knows : KnowsScope m s top scope names
  pub is : t ≡ tree_of names (expression_at s at)

-- the tree of what waits for that of an expression
pub record EntersWithin (m : List Tree) (s : arena.Sexps) (top : List Top) (f : Frame) (scope : Scope) (at : ℕ) (t : Tree) : Type 0 where
  pub here : Tree
  pub enters : Enters m s top scope at here
  pub waits : Waits m s top f here t

-- it comes to this tree where this is done next
abbrev pub Leaves : List Tree → arena.Sexps → List Top → Next → Tree → Type 0
Leaves m s top (next.Back k) t = slice_get m k ≡ Some t
Leaves m s top (next.Enter scope at) t = Enters m s top scope at t
Leaves m s top (next.Wait f scope at) t = EntersWithin m s top f scope at t

-- ---- a turn of the walk

abbrev pub Turns : {E : Type 0} → List Tree → List Tree → arena.Sexps → List Top → Tree → Result Next E → Type 0
Turns old new s top t (Ok n) = Grows old new × Leaves new s top n t
Turns old new s top t (Err e) = Unit {0}

-- the same of what is read in a scope, where its names stand for what they do
abbrev pub TurnsIn : List Tree → List Tree → Source → Scope → (Names → Tree) → Result Next AllocError → Type 0
TurnsIn old new source scope read r =
    (names : Names) → KnowsScope old source.sexps.now source.top.now scope names → Turns old new source.sexps.now source.top.now (read names) r

-- the same of an expression that is reached
abbrev pub Reaches : List Tree → List Tree → Source → Scope → ℕ → Result Next Stop → Type 0
Reaches old new source scope at r = (t : Tree) → Enters old source.sexps.now source.top.now scope at t → Turns old new source.sexps.now source.top.now t r

-- one expression more is reached, of so many that may be
abbrev pub IsReached : ℕ → ℕ → Result Next Stop → Type 0
IsReached old new (Ok n) = (old < most_size) × (new ≡ suc old)
IsReached old new (Err stop.TooLarge) = most_size ≤ old
IsReached old new (Err stop.Memory) = Unit {0}
