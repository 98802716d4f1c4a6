-- Atoms by number: each atom once, and a table with the number of each.
use Rattle.std.specs.Prelude.{◌≡◌, ◌⊎◌, ℕ, ◌≤◌, List, [], ◌∷◌, ◌++◌, map, length, Bool, Some, slice_get}
use Rattle.std.specs.HashMap.{HashMap, get}
use Rattle.poly_graph.specs.contracts.node.AtomPartialEq.TheImpl as atom_eq
use Rattle.poly_graph.specs.declared.node.Atom.{Atom}
use Rattle.poly_graph.specs.declared.refused.NoNode.{NoNode}
use Rattle.poly_graph.specs.declared.refused.NoNode.TheVariants.{TooMany, Memory}
use Rattle.poly_graph.specs.declared.refused.Limit.TheVariants.{Nodes, Atoms, Forms}
use Rattle.poly_graph.specs.Term.{Kind}
use Rattle.poly_graph.specs.Views.{atom_of}

-- what `==` of two atoms says
abbrev pub same_atom : Atom → Atom → Bool
same_atom = (atom_eq.ghosts).eq

abbrev pub most_atoms : ℕ
most_atoms = 65536

-- none of the atoms is this one
abbrev pub IsNewAtom : List (ℕ × Kind) → ℕ × Kind → Type 0
IsNewAtom atoms a = (k : ℕ) → slice_get atoms k ≡ Some a → ⊥

-- no more atoms than there may be, and none of them twice
pub record AreAtoms (atoms : List (ℕ × Kind)) : Type 0 where
  pub few : length atoms ≤ most_atoms
  pub once : (j k : ℕ) (a : ℕ × Kind) → slice_get atoms j ≡ Some a → slice_get atoms k ≡ Some a → j ≡ k

-- the table has the number of each atom, and of nothing else
pub record IsAtomTable {S : Type 0} (atoms : List Atom) (numbers : HashMap Atom ℕ S) : Type 0 where
  pub few : length atoms ≤ most_atoms
  pub found : (q : Atom) (k : ℕ) → get same_atom numbers q ≡ Some k → slice_get (map atom_of atoms) k ≡ Some (atom_of q)
  pub known : (q : Atom) (k : ℕ) → slice_get (map atom_of atoms) k ≡ Some (atom_of q) → get same_atom numbers q ≡ Some k

-- number k is that of the atom, which stood there or was added at the end
abbrev pub AtomInterned : List (ℕ × Kind) → List (ℕ × Kind) → ℕ × Kind → ℕ → Type 0
AtomInterned old new a k = (slice_get new k ≡ Some a) × ((new ≡ old) ⊎ ((new ≡ old ++ (a ∷ [])) × (k ≡ length old) × IsNewAtom old a))

-- where an atom is refused the atoms are as they were; it is one too many exactly where it is new and the table is full
abbrev pub AtomRefused : List (ℕ × Kind) → List (ℕ × Kind) → ℕ × Kind → NoNode → Type 0
AtomRefused old new a (TooMany Atoms) = (new ≡ old) × (length old ≡ most_atoms) × IsNewAtom old a
AtomRefused old new a (TooMany Nodes) = ⊥
AtomRefused old new a (TooMany Forms) = ⊥
AtomRefused old new a Memory = new ≡ old
