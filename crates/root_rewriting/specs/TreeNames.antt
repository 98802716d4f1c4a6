-- What names stand for while an expression is walked over.
use Rattle.std.specs.Prelude.{◌≡◌, ℕ, zero, suc, List, [], ◌∷◌, ◌++◌, map, length, Option, Some, None, cond, true, false, option_map, slice_get}
use Rattle.std.specs.Borrow.{Bor}
use Rattle.std.specs.HashMap.{HashMap, get_by}
use Rattle.std.specs.Str.{bytes_eq}
use Rattle.script_model.specs.Sexp.{symbol}
use Rattle.script_model.specs.Reading.{found, operators}
use Rattle.script_roots.specs.Tree as model
use Rattle.script_roots.specs.Tree.{Tree, atomic, tree, definition, sqrt_name, theory_names, tree_of}
use Rattle.smt_sexp.specs.Arena.{expression_at}
use Rattle.smt_sexp.specs.Views.{place_of}
use Rattle.smt_sexp.specs.declared.sexps.Sexps as arena
use Rattle.smt_script.specs.Views.{parameter_of}
use Rattle.smt_script.specs.declared.command.Parameter.{Parameter}
use Rattle.sort_check.specs.Views.{operator_of}
use Rattle.root_rewriting.specs.declared.unfold.top.Known.{Known}
use Rattle.root_rewriting.specs.declared.unfold.top.Known.TheVariants as known
use Rattle.root_rewriting.specs.declared.unfold.top.Entry.{Entry}
use Rattle.root_rewriting.specs.declared.unfold.top.Top.{Top}
use Rattle.root_rewriting.specs.declared.unfold.locals.Local.{Local}
use Rattle.root_rewriting.specs.Locals.{local_node}
use Rattle.root_rewriting.specs.declared.unfold.names.Head.{Head}
use Rattle.root_rewriting.specs.declared.unfold.names.Head.TheVariants as head

-- ---- look-up

abbrev pub if_named : List ℕ → ℕ → Option Top → Option (ℕ × Known) → Option (ℕ × Known)
if_named x n None before = before
if_named x n (Some t) before = cond (bytes_eq x t.name.now) (Some (n, t.known)) before

-- the last of this name among so many names of the top, with the number of those before it
abbrev pub top_known : List ℕ → List Top → ℕ → Option (ℕ × Known)
top_known x top zero = None
top_known x top (suc n) = if_named x n (slice_get top n) (top_known x top n)

abbrev pub top_of : Entry → Top
top_of e = e.top

-- the number of those before it
abbrev pub top_place : List ℕ → List Top → ℕ → Option ℕ
top_place x top n = option_map (λ p. p.0) (top_known x top n)

-- the map has the last place of each name, and each name the last place of its own before it
pub record IsTable {S : Type 0} (entries : List Entry) (last : HashMap (Bor (List ℕ)) ℕ S) : Type 0 where
  pub last_places : (x : List ℕ) → get_by (λ k. bytes_eq x k.now) last ≡ top_place x (map top_of entries) (length entries)
  pub earlier_places : (i : ℕ) (e : Entry) → slice_get entries i ≡ Some e → e.earlier ≡ top_place e.top.name.now (map top_of entries) i

-- what a name stands for
abbrev pub IsHead : List ℕ → List Top → ℕ → List Local → Option Head → Type 0
IsHead x top n locals None = (found x operators ≡ None) × (local_node x locals ≡ None) × (top_known x top n ≡ None) × (bytes_eq x sqrt_name ≡ false)
IsHead x top n locals (Some (head.Operator o)) = found x operators ≡ Some (operator_of o)
IsHead x top n locals (Some (head.Local k)) = (found x operators ≡ None) × (local_node x locals ≡ Some k)
IsHead x top n locals (Some (head.Constant at name)) =
    (found x operators ≡ None) × (local_node x locals ≡ None) × ((i : ℕ) × (top_known x top n ≡ Some (i, known.Constant at name)))
IsHead x top n locals (Some (head.Function i params body)) =
    (found x operators ≡ None) × (local_node x locals ≡ None) × (top_known x top n ≡ Some (i, known.Function params body))
IsHead x top n locals (Some head.Sqrt) =
    (found x operators ≡ None) × (local_node x locals ≡ None) × (top_known x top n ≡ None) × (bytes_eq x sqrt_name ≡ true)

-- parameters that stand for nodes
abbrev pub bound_locals : List Parameter → List ℕ → List Local
bound_locals [] ks = []
bound_locals (p ∷ ps) [] = []
bound_locals (p ∷ ps) (k ∷ ks) = record { name = p.name; node = k } ∷ bound_locals ps ks

-- ---- what they stand for

-- a declared constant stands for itself, a definition for a function
abbrev pub known_of : arena.Sexps → model.Names → Known → model.Known
known_of s names (known.Constant at name) = tree (atomic (place_of at) (symbol name.now))
known_of s names (known.Function params body) = definition names (map parameter_of params.now) (expression_at s body)

abbrev pub entry_by : {V : Type 0} → (List (List ℕ × V) → Known → V) → List (List ℕ × V) → Option Top → List (List ℕ × V)
entry_by stands names None = names
entry_by stands names (Some t) = (t.name.now, stands names t.known) ∷ names

-- so many names of the top, the last first, each of which sees those before it; what one stands for is told by those
abbrev pub names_by : {V : Type 0} → (List (List ℕ × V) → Known → V) → List (List ℕ × V) → List Top → ℕ → List (List ℕ × V)
names_by stands theory top zero = theory
names_by stands theory top (suc n) = entry_by stands (names_by stands theory top n) (slice_get top n)

-- as trees
abbrev pub top_names : arena.Sexps → List Top → ℕ → model.Names
top_names s top n = names_by (known_of s) theory_names top n

-- the tree of the expression at a place, where all names of the top are seen
abbrev pub tree_here : arena.Sexps → List Top → ℕ → Tree
tree_here s top at = tree_of (top_names s top (length top)) (expression_at s at)

-- these locals stand for these names
abbrev pub AreLocals : List Tree → List Local → model.Names → Type 0
AreLocals m [] [] = Unit {0}
AreLocals m (l ∷ ls) ((x, tree t) ∷ ns) = (x ≡ l.name.now) × (slice_get m l.node ≡ Some t) × AreLocals m ls ns
AreLocals m _ _ = ⊥

-- what names stand for
pub record Knows (m : List Tree) (s : arena.Sexps) (top : List Top) (visible : ℕ) (locals : List Local) (names : model.Names) : Type 0 where
  pub near : model.Names
  pub stand : AreLocals m locals near
  pub are : names ≡ near ++ top_names s top visible
