-- Expressions in a list of beads: a group's opening, what is in it, its closing.
use Rattle.std.specs.Prelude.{ℕ, List, [], ◌∷◌, length, map, slice_index_or}
use Rattle.script_model.specs.Sexp.{Place, Leaf, Sexp, leaf, group, Sexps, none, more}
use Rattle.smt_sexp.specs.Views.{place_of, leaf_of}
use Rattle.smt_sexp.specs.declared.sexps.Node.{Node}
use Rattle.smt_sexp.specs.declared.sexps.Node.TheVariants as nodes
use Rattle.smt_sexp.specs.declared.sexps.Sexps as code

-- an opening says how many beads lie between it and what follows its group
pub data Bead : Type 0 where
  open_bead : Place → ℕ → Bead
  leaf_bead : Place → Leaf → Bead
  shut_bead : Bead

abbrev pub bead_of : Node → Bead
bead_of (nodes.Open at size) = open_bead (place_of at) size
bead_of (nodes.Leaf at l) = leaf_bead (place_of at) (leaf_of l)
bead_of nodes.Close = shut_bead

-- what is left of its group from a bead on, from what is left from each later one on
abbrev pub entry : Bead → List Sexps → Sexps
entry (open_bead at size) later = more (group at (slice_index_or later 0 none)) (slice_index_or later size none)
entry (leaf_bead at l) later = more (leaf at l) (slice_index_or later 0 none)
entry shut_bead later = none

abbrev pub table : List Bead → List Sexps
table [] = []
table (b ∷ bs) = entry b (table bs) ∷ table bs

-- what is left of its group from this place on
unfoldable pub items_at : List Bead → ℕ → Sexps
items_at bs at = slice_index_or (table bs) at none

-- the same of expressions as they are kept; from 0 on all of them
abbrev pub rest_of : code.Sexps → ℕ → Sexps
rest_of s at = items_at (map bead_of s.nodes.items) at

-- how many places there are
abbrev pub places_of : code.Sexps → ℕ
places_of s = length s.nodes.items

abbrev pub listed : Sexps → List Sexp
listed none = []
listed (more e rest) = e ∷ listed rest

-- the first of some expressions, where there is one
abbrev pub first_of : Sexps → Sexp
first_of (more e rest) = e
first_of none = group (record { line = 0; column = 0 }) none

-- the expression at a place
abbrev pub expression_at : code.Sexps → ℕ → Sexp
expression_at s at = first_of (rest_of s at)
