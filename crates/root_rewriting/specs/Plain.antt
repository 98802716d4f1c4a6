-- Trees without roots and quotients.
use Rattle.std.specs.Prelude.{◌≡◌, List, [], Bool, true, false, Option, None}
use Rattle.script_roots.specs.Fresh.{choice_in_root, fresh_in, fresh_place}
use Rattle.script_roots.specs.Ranges.{Ranges}
use Rattle.script_roots.specs.Tree.{Tree}
use Rattle.root_rewriting.specs.declared.unfold.trees.Node.{Node}
use Rattle.root_rewriting.specs.declared.unfold.trees.Node.TheVariants as nodes

abbrev pub is_fresh : Node → Bool
is_fresh (nodes.Root at k) = true
is_fresh (nodes.Quotient at k d) = true
is_fresh node = false

-- nothing in it becomes a constant, and nothing is left out
pub record IsPlain (t : Tree) : Type 0 where
  pub fresh : (ranges : Ranges) → fresh_in ranges t ≡ []
  pub choice : choice_in_root t ≡ None
  pub place : fresh_place t ≡ None
