-- The constants that stand for roots and quotients, as the definitions see them.
use Rattle.std.specs.Prelude.{◌≡◌, ◌<◌, ℕ, List, map}
use Rattle.std.specs.List.{AllByRecursion}
use Rattle.script_roots.specs.Tree.{Tree}
use Rattle.script_roots.specs.Fresh.{quotient_name, root_name}
use Rattle.root_rewriting.specs.Nodes.{tree_at}
use Rattle.root_rewriting.specs.declared.constants.Kind.{Kind}
use Rattle.root_rewriting.specs.declared.constants.Kind.TheVariants.{Root, Quotient}
use Rattle.root_rewriting.specs.declared.constants.Fresh.{Fresh}

abbrev pub name_of : Kind → ℕ → List ℕ
name_of Root k = root_name k
name_of Quotient k = quotient_name k

-- its name and the tree for which it stands
abbrev pub entry_of : List Tree → Fresh → List ℕ × Tree
entry_of ts f = (name_of f.kind f.number, tree_at ts f.tree)

-- so many trees are there
abbrev pub AreEntriesBelow : ℕ → List Fresh → Type 0
AreEntriesBelow n table = AllByRecursion (λ (f : Fresh). f.tree < n) table
