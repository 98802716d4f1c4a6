-- Trees that are written as expressions, in which constants stand for those of a table.
use Rattle.std.specs.Prelude.{◌≡◌, ◌<◌, ◌≤◌, ℕ, suc, ◌+◌, List, [], ◌∷◌, Bool, true, false, Option, Some, None, length, slice_index, slice_index_or}
use Rattle.script_model.specs.Sexp.{Place, symbol, Sexp, leaf, group, more}
use Rattle.script_roots.specs.Tree.{Tree, atomic, applied, root, quotient, formless, Trees, no_trees, more_trees}
use Rattle.script_roots.specs.Fresh.{Table, name_for}
use Rattle.script_roots.specs.Rewritten.{spelled, all_spelled}
use Rattle.script_roots.specs.Refused.{tokens_of, most_tokens}
use Rattle.smt_sexp.specs.Building.{group_of}
use Rattle.smt_sexp.specs.Lexicon.{Unclosed, put}
use Rattle.smt_sexp.specs.Writing.{Written, Writes, tokens_in}
use Rattle.smt_sexp.specs.declared.writing.Writer.{Writer}
use Rattle.root_rewriting.specs.Nodes.{tree_at, trees_in}
use Rattle.root_rewriting.specs.Classes.{AreClasses}
use Rattle.root_rewriting.specs.Table.{name_of}
use Rattle.root_rewriting.specs.declared.constants.Fresh as code
use Rattle.root_rewriting.specs.declared.spelling.Spelling.{Spelling}
use Rattle.root_rewriting.specs.declared.spelling.Stop.{Stop}
use Rattle.root_rewriting.specs.declared.spelling.Stop.TheVariants.{TooLong, Memory}
use Rattle.root_rewriting.specs.declared.walk.Work.{Work}
use Rattle.root_rewriting.specs.declared.walk.Work.TheVariants.{Enter, Leave}

-- ---- the constant that stands for a tree

abbrev pub fresh_name : code.Fresh → List ℕ
fresh_name f = name_of f.kind f.number

-- the name with a number
abbrev pub name_at : List (List ℕ) → Option ℕ → Option (List ℕ)
name_at names None = None
name_at names (Some i) = Some (slice_index_or names i [])

-- numbers of names, of which there are so many
abbrev pub AreNumbers : ℕ → List (Option ℕ) → Type 0
AreNumbers n numbers = (c i : ℕ) → slice_index_or numbers c None ≡ Some i → i < n

-- for each class, the number of the name of the constant that stands for its trees
abbrev pub NameTrees : Table → List Tree → List ℕ → List (Option ℕ) → List (List ℕ) → Type 0
NameTrees table ts classes numbers names =
    (k : ℕ) → k < length classes → name_at names (slice_index_or numbers (slice_index classes k) None) ≡ name_for table (tree_at ts k)

-- a class for each tree, and for each class perhaps a name
pub record IsSpelling (s : Spelling) : Type 0 where
  pub classes : AreClasses (trees_in s.trees.now) s.classes.now
  pub all : length s.classes.now ≡ length s.trees.now
  pub numbers : length s.numbers.now ≡ length s.trees.now
  pub names : AreNumbers (length s.names.now) s.numbers.now

abbrev pub AreNamed : Table → Spelling → Type 0
AreNamed table s = NameTrees table (trees_in s.trees.now) s.classes.now s.numbers.now s.names.now

-- ---- what is written

-- there are expressions that it holds
abbrev pub IsWriting : Writer → Type 0
IsWriting w = (us : List Unclosed) × (tops : List Sexp) × Written w us tops

-- the group of a name is begun: its arguments follow
pub record Heads (old new : Writer) (at : Place) (name : List ℕ) : Type 0 where
  pub stands : (us : List Unclosed) (tops : List Sexp) → Written old us tops →
      Written new (record { opened = at; before = leaf at (symbol name) ∷ [] } ∷ us) tops
  pub count : tokens_in new ≡ tokens_in old + 2

abbrev pub parts_of : Tree → Trees
parts_of (atomic at l) = no_trees
parts_of (applied at name ts) = ts
parts_of (root at t) = more_trees t no_trees
parts_of (quotient at t d) = more_trees t (more_trees d no_trees)
parts_of (formless at) = no_trees

-- a tree's expression is begun: its parts follow
pub record BeginsGroup (table : Table) (old new : Writer) (t : Tree) : Type 0 where
  pub at : Place
  pub name : List ℕ
  pub heads : Heads old new at name
  pub is : spelled table t ≡ group at (more (leaf at (symbol name)) (all_spelled table (parts_of t)))

-- a tree's expression is written whole, or begun
abbrev pub Begins : Table → Writer → Writer → Tree → Bool → Type 0
Begins table old new t true = Writes old new (spelled table t)
Begins table old new t false = BeginsGroup table old new t

-- ---- what is left to be written: a stack, whose top stands last

-- a tree that is entered is written, and where one is left its group is closed
abbrev pub written_by : Table → List Tree → Work → List Unclosed × List Sexp → List Unclosed × List Sexp
written_by table ts (Enter at) s = put (spelled table (tree_at ts at)) s.0 s.1
written_by table ts (Leave at) (u ∷ us, tops) = put (group_of u) us tops
written_by table ts (Leave at) ([], tops) = ([], tops)

abbrev pub written_after : Table → List Tree → List Work → List Unclosed × List Sexp → List Unclosed × List Sexp
written_after table ts [] s = s
written_after table ts (w ∷ above) s = written_by table ts w (written_after table ts above s)

-- how many groups are to be closed
abbrev pub closings : List Work → ℕ
closings [] = 0
closings (Enter at ∷ works) = closings works
closings (Leave at ∷ works) = suc (closings works)

abbrev pub work_tokens : Table → List Tree → Work → ℕ
work_tokens table ts (Enter at) = tokens_of (spelled table (tree_at ts at))
work_tokens table ts (Leave at) = 1

abbrev pub tokens_left : Table → List Tree → List Work → ℕ
tokens_left table ts [] = 0
tokens_left table ts (w ∷ works) = work_tokens table ts w + tokens_left table ts works

-- with these on the stack, this is written in the end, and so many tokens
pub record Spells (table : Table) (ts : List Tree) (w : Writer) (stack : List Work) (end : List Unclosed × List Sexp) (tokens : ℕ) : Type 0 where
  pub us : List Unclosed
  pub tops : List Sexp
  pub stands : Written w us tops
  pub «open» : closings stack ≤ length us
  pub ends : written_after table ts stack (us, tops) ≡ end
  pub count : tokens_in w + tokens_left table ts stack ≡ tokens

-- the constants that stand for trees are known, and what is left on the stack can be done
abbrev pub CanSpell : Spelling → Writer → List Work → Type 0
CanSpell s w stack = (table : Table) × (end : List Unclosed × List Sexp) × (tokens : ℕ) × AreNamed table s × Spells table (trees_in s.trees.now) w stack end tokens

-- ---- why nothing more is written

-- for so many tokens
abbrev pub Stops : Stop → ℕ → Type 0
Stops TooLong tokens = most_tokens < tokens
Stops Memory tokens = Unit {0}
