-- Keys of trees, equal for those that are the same, by the classes of their parts.
use Rattle.std.specs.Prelude.{◌≡◌, ◌<◌, ◌≤◌, ℕ, List, [], ◌∷◌, ◌++◌, Bool, Some, MatchOption, map, length, nat_eq, slice_index}
use Rattle.std.specs.HashMap.{HashMap, IsUnchanged, Updates, get}
use Rattle.script_roots.specs.Tree.{Tree}
use Rattle.script_roots.specs.Fresh.{same_tree}
use Rattle.root_rewriting.specs.Nodes.{ShowsNode, tree_at}
use Rattle.root_rewriting.specs.contracts.classes.KeyPartialEq.TheImpl as key_eq
use Rattle.root_rewriting.specs.declared.classes.Key.{Key}
use Rattle.root_rewriting.specs.declared.classes.Key.TheVariants as keys
use Rattle.root_rewriting.specs.declared.unfold.trees.Atom.{Atom}
use Rattle.root_rewriting.specs.declared.unfold.trees.Atom.TheVariants as atoms
use Rattle.root_rewriting.specs.declared.unfold.trees.Node.{Node}
use Rattle.root_rewriting.specs.declared.unfold.trees.Node.TheVariants as nodes

-- what trees that are the same have in common: their own digits or name, and the classes of their parts
pub data Look : Type 0 where
  numeral symbol : List ℕ → Look
  decimal applied : List ℕ → List ℕ → Look
  root : ℕ → Look
  quotient : ℕ → ℕ → Look
  formless : Look

abbrev pub key_view : Key → Look
key_view (keys.Numeral ds) = numeral ds.now
key_view (keys.Decimal ds fs) = decimal ds.now fs.now
key_view (keys.Symbol x) = symbol x.now
key_view (keys.Applied x cs) = applied x.now cs.items
key_view (keys.Root c) = root c
key_view (keys.Quotient c d) = quotient c d
key_view keys.Formless = formless

abbrev pub atom_key : Atom → Look
atom_key (atoms.Numeral ds) = numeral ds.now
atom_key (atoms.Decimal ds fs) = decimal ds.now fs.now
atom_key (atoms.Symbol x) = symbol x.now

-- the class of the tree at a place
abbrev pub class_at : List ℕ → ℕ → ℕ
class_at cs k = slice_index cs k

abbrev pub classes_at : List ℕ → List ℕ → List ℕ
classes_at cs ks = map (class_at cs) ks

abbrev pub node_key : List ℕ → Node → Look
node_key cs (nodes.Atomic at a) = atom_key a
node_key cs (nodes.Applied at x ks) = applied x.now (classes_at cs ks.items)
node_key cs (nodes.Root at k) = root (class_at cs k)
node_key cs (nodes.Quotient at k d) = quotient (class_at cs k) (class_at cs d)
node_key cs (nodes.Formless at) = formless

-- what `==` of two keys says
abbrev pub same_key : Key → Key → Bool
same_key = (key_eq.ghosts).eq

-- the class of a key, which gets this new one where it has none
abbrev pub Classed : {S : Type 0} → HashMap Key ℕ S → HashMap Key ℕ S → Key → ℕ → ℕ → Type 0
Classed old new key fresh class = MatchOption (get same_key old key)
    ((class ≡ fresh) × Updates same_key old new key (Some fresh))
    (λ c. (class ≡ c) × IsUnchanged old new)

-- each of the first trees has the class of its key, and no other key has one
pub record AreKeyed {S : Type 0} (ts : List Tree) (cs : List ℕ) (of_keys : HashMap Key ℕ S) : Type 0 where
  pub shown : (k : ℕ) → k < length cs → (n : Node) × ShowsNode ts k n
  pub known : (k : ℕ) (n : Node) (q : Key) → k < length cs → ShowsNode ts k n → key_view q ≡ node_key cs n → get same_key of_keys q ≡ Some (class_at cs k)
  pub found : (q : Key) (c : ℕ) → get same_key of_keys q ≡ Some c → (k : ℕ) × (n : Node) × (k < length cs) × ShowsNode ts k n × (key_view q ≡ node_key cs n) × (class_at cs k ≡ c)

-- the class of the next tree, with which the keys go on
pub record IsNextClass {S : Type 0} (ts : List Tree) (cs : List ℕ) (of_keys : HashMap Key ℕ S) (class : ℕ) : Type 0 where
  pub below : class ≤ length cs
  pub same : (k : ℕ) → k < length cs → nat_eq (slice_index cs k) class ≡ same_tree (tree_at ts k) (tree_at ts (length cs))
  pub keyed : AreKeyed ts (cs ++ (class ∷ [])) of_keys
