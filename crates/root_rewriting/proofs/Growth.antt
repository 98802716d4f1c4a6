-- What was made stays where it stands.
use Rattle.std.proofs.Common.{◌≡◌, ◌<◌, ℕ, List, [], ◌∷◌, ◌++◌, map, length, Some, refl, ap, sym, ◌∙◌, subst, append_assoc, append-nil}
use Rattle.std.specs.Prelude.{OnOk, IfOk, Result, Ok, Err, slice_get}
use Rattle.std.specs.declared.alloc.AllocError.{AllocError}
use Rattle.std.proofs.lemmas.Option.{slice_get_within}
use Rattle.script_roots.specs.Tree.{Tree, Names, tree, bound_trees}
use Rattle.smt_sexp.specs.declared.sexps.Sexps as arena
use Rattle.smt_script.specs.Views.{parameter_of}
use Rattle.smt_script.specs.declared.command.Parameter.{Parameter}
use Rattle.root_rewriting.specs.Nodes.{AreBelow, parts_at, trees_in}
use Rattle.root_rewriting.specs.declared.unfold.trees.Node.{Node}
use Rattle.root_rewriting.specs.declared.unfold.frames.Next.{Next}
use Rattle.root_rewriting.specs.TreeNames.{top_names, bound_locals, AreLocals, Knows}
use Rattle.root_rewriting.specs.Walking.{Grows, Makes, AreTrees, IsScope, KnowsScope, Turns, returned}
use Rattle.root_rewriting.specs.declared.unfold.frames.Scope.{Scope}
use Rattle.root_rewriting.specs.declared.unfold.stop.Stop.{Stop}
use Rattle.root_rewriting.specs.declared.unfold.locals.Local.{Local}
use Rattle.root_rewriting.specs.declared.unfold.top.Top.{Top}
use Rattle.root_rewriting.proofs.Arena.{nodes_length, tree_got}
use Rattle.root_rewriting.proofs.TreeLists.{get_before, get_end}

pub grows_none : (m : List Tree) → Grows m m
grows_none m = ([], sym (append-nil m))

pub grows_then : (a b c : List Tree) → Grows a b → Grows b c → Grows a c
grows_then a b c g h = (g.0 ++ h.0, h.1 ∙ ap (λ ts. ts ++ h.0) g.1 ∙ append_assoc a g.0 h.0)

pub get_stays : (m m1 : List Tree) (k : ℕ) (t : Tree) → Grows m m1 → slice_get m k ≡ Some t → slice_get m1 k ≡ Some t
get_stays m m1 k t g h = subst (λ ts. slice_get ts k ≡ Some t) (sym g.1) (get_before m g.0 k t h)

-- ---- a tree that is added

pub makes_added : {E : Type 0} (ns ms : List Node) (t : Tree) (r : Result ℕ E) → OnOk r (trees_in ms ≡ trees_in ns ++ (t ∷ [])) → IfOk r (λ k. k ≡ length ns) → Makes (trees_in ns) (trees_in ms) t r
makes_added ns ms t (Ok k) added last =
    ((t ∷ [], added), ap (slice_get (trees_in ms)) (last ∙ sym (nodes_length ns)) ∙ ap (λ ts. slice_get ts (length (trees_in ns))) added ∙ get_end (trees_in ns) t)
makes_added ns ms t (Err e) added last = tt

pub turns_back : (s : arena.Sexps) (top : List Top) (old new : List Tree) (t : Tree) (r : Result ℕ AllocError) → Makes old new t r → Turns old new s top t (returned r)
turns_back s top old new t (Ok k) h = h
turns_back s top old new t (Err e) h = tt

-- a tree that is added goes back
pub turns_added : (s : arena.Sexps) (top : List Top) (ns ms : List Node) (t u : Tree) (made : Result ℕ AllocError) (r : Result Next AllocError) → r ≡ returned made →
    OnOk made (trees_in ms ≡ trees_in ns ++ (u ∷ [])) → IfOk made (λ k. k ≡ length ns) → t ≡ u → Turns (trees_in ns) (trees_in ms) s top t r
turns_added s top ns ms t u made r is added last same =
    subst (λ (x : Tree). Turns (trees_in ns) (trees_in ms) s top x r) (sym same)
    (subst (λ (x : Result Next AllocError). Turns (trees_in ns) (trees_in ms) s top u x) (sym is) (turns_back s top (trees_in ns) (trees_in ms) u made (makes_added ns ms u made added last)))

-- the same tree
pub turns_same : (s : arena.Sexps) (top : List Top) (old new : List Tree) (t u : Tree) (r : Result Next AllocError) → t ≡ u → Turns old new s top u r → Turns old new s top t r
turns_same s top old new t u r same h = subst (λ (x : Tree). Turns old new s top x r) (sym same) h

pub node_below : (ns : List Node) (k : ℕ) (t : Tree) → slice_get (trees_in ns) k ≡ Some t → k < length ns
node_below ns k t h = subst (λ (n : ℕ). k < n) (nodes_length ns) (slice_get_within (trees_in ns) k t h)

-- ---- several trees

pub trees_below : (m ts : List Tree) (ks : List ℕ) → AreTrees m ts ks → AreBelow (length m) ks
trees_below m [] [] h = tt
trees_below m (t ∷ ts) (k ∷ ks) h = (slice_get_within m k t h.0, trees_below m ts ks h.1)
trees_below m [] (k ∷ ks) h = elim h [ ]
trees_below m (t ∷ ts) [] h = elim h [ ]

pub parts_are : (m ts : List Tree) (ks : List ℕ) → AreTrees m ts ks → parts_at m ks ≡ ts
parts_are m [] [] h = refl
parts_are m (t ∷ ts) (k ∷ ks) h = ap (λ u. u ∷ parts_at m ks) (tree_got m k t h.0) ∙ ap (λ us. t ∷ us) (parts_are m ts ks h.1)
parts_are m [] (k ∷ ks) h = elim h [ ]
parts_are m (t ∷ ts) [] h = elim h [ ]

pub trees_last : (m : List Tree) (u : Tree) (k : ℕ) → slice_get m k ≡ Some u → (ts : List Tree) (ks : List ℕ) → AreTrees m ts ks → AreTrees m (ts ++ (u ∷ [])) (ks ++ (k ∷ []))
trees_last m u k h [] [] i = (h, tt)
trees_last m u k h (t ∷ ts) (l ∷ ks) i = (i.0, trees_last m u k h ts ks i.1)
trees_last m u k h [] (l ∷ ks) i = elim i [ ]
trees_last m u k h (t ∷ ts) [] i = elim i [ ]

pub below_last : (n k : ℕ) (ks : List ℕ) → k < n → AreBelow n ks → AreBelow n (ks ++ (k ∷ []))
below_last n k [] h i = (h, tt)
below_last n k (l ∷ ks) h i = (i.0, below_last n k ks h i.1)

pub trees_stay : (m m1 : List Tree) → Grows m m1 → (ts : List Tree) (ks : List ℕ) → AreTrees m ts ks → AreTrees m1 ts ks
trees_stay m m1 g [] [] h = tt
trees_stay m m1 g (t ∷ ts) (k ∷ ks) h = (get_stays m m1 k t g h.0, trees_stay m m1 g ts ks h.1)
trees_stay m m1 g [] (k ∷ ks) h = elim h [ ]
trees_stay m m1 g (t ∷ ts) [] h = elim h [ ]

-- ---- locals

pub locals_stay : (m m1 : List Tree) → Grows m m1 → (ls : List Local) (ns : Names) → AreLocals m ls ns → AreLocals m1 ls ns
locals_stay m m1 g [] [] h = tt
locals_stay m m1 g (l ∷ ls) ((x, tree t) ∷ ns) h = (h.0, get_stays m m1 l.node t g h.1, locals_stay m m1 g ls ns h.2)
locals_stay m m1 g _ _ h = elim h [ ]

pub knows_stays : (m m1 : List Tree) (s : arena.Sexps) (top : List Top) (n : ℕ) (ls : List Local) (names : Names) → Grows m m1 → Knows m s top n ls names → Knows m1 s top n ls names
knows_stays m m1 s top n ls names g h = record { near = h.near; stand = locals_stay m m1 g ls h.near h.stand; are = h.are }

-- what a scope sees
pub knows_scope : (m : List Tree) (s : arena.Sexps) (top : List Top) (n : ℕ) (ls : List Local) (names : Names) (scope : Scope) → IsScope scope n ls → Knows m s top n ls names → KnowsScope m s top scope names
knows_scope m s top n ls names scope is h =
    subst (λ (k : ℕ). Knows m s top k scope.locals.value names) (sym is.0) (subst (λ (xs : List Local). Knows m s top n xs names) (sym is.1) h)

locals-both : (m : List Tree) (ls ks : List Local) (ns ms : Names) → AreLocals m ls ns → AreLocals m ks ms → AreLocals m (ls ++ ks) (ns ++ ms)
locals-both m [] ks [] ms h k = k
locals-both m (l ∷ ls) ks ((x, tree t) ∷ ns) ms h k = (h.0, h.1, locals-both m ls ks ns ms h.2 k)
locals-both m _ ks _ ms h k = elim h [ ]

pub knows_more : (m : List Tree) (s : arena.Sexps) (top : List Top) (n : ℕ) (ls ks : List Local) (ns names : Names) → AreLocals m ls ns → Knows m s top n ks names → Knows m s top n (ls ++ ks) (ns ++ names)
knows_more m s top n ls ks ns names h k = record {
  near = ns ++ k.near;
  stand = locals-both m ls ks ns k.near h k.stand;
  are = ap (λ x. ns ++ x) k.are ∙ sym (append_assoc ns k.near (top_names s top n));
}

bound-stand : (m : List Tree) (ps : List Parameter) (ts : List Tree) (ks : List ℕ) → AreTrees m ts ks → AreLocals m (bound_locals ps ks) (bound_trees (map parameter_of ps) ts)
bound-stand m [] ts ks h = tt
bound-stand m (p ∷ ps) [] [] h = tt
bound-stand m (p ∷ ps) (t ∷ ts) (k ∷ ks) h = (refl, h.0, bound-stand m ps ts ks h.1)
bound-stand m (p ∷ ps) [] (k ∷ ks) h = elim h [ ]
bound-stand m (p ∷ ps) (t ∷ ts) [] h = elim h [ ]

-- parameters that stand for trees
pub knows_bound : (m : List Tree) (s : arena.Sexps) (top : List Top) (n : ℕ) (ps : List Parameter) (ks : List ℕ) (ls : List Local) (ts : List Tree) → ls ≡ bound_locals ps ks → AreTrees m ts ks →
    Knows m s top n ls (bound_trees (map parameter_of ps) ts ++ top_names s top n)
knows_bound m s top n ps ks ls ts e h = record {
  near = bound_trees (map parameter_of ps) ts;
  stand = subst (λ (x : List Local). AreLocals m x (bound_trees (map parameter_of ps) ts)) (sym e) (bound-stand m ps ts ks h);
  are = refl;
}

-- no locals
pub knows_none : (m : List Tree) (s : arena.Sexps) (top : List Top) (n : ℕ) → Knows m s top n [] (top_names s top n)
knows_none m s top n = record { near = []; stand = tt; are = refl }

-- an expression that is reached
pub turns_reached : (s : arena.Sexps) (top : List Top) (old new : List Tree) (t u : Tree) (n : Next) → t ≡ u → Turns {E = AllocError} old new s top u (Ok n) → Turns {E = Stop} old new s top t (Ok n)
turns_reached s top old new t u n same h = subst (λ (x : Tree). Turns {E = Stop} old new s top x (Ok n)) (sym same) h
