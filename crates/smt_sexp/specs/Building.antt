-- Expressions that are being read, as beads.
use Rattle.std.specs.Prelude.{◌≡◌, ℕ, ◌+◌, ◌<◌, Bool, false, List, [], ◌∷◌, ◌++◌, length, map, codes, nat_eq, ◌&&◌}
use Rattle.std.specs.Str.{bytes_eq}
use Rattle.script_model.specs.Sexp.{Place, Sexp, leaf, group, Sexps, none, more, symbol}
use Rattle.smt_sexp.specs.Lexicon.{Unclosed, backwards, is_exit, put}
use Rattle.smt_sexp.specs.Arena.{Bead, open_bead, leaf_bead, shut_bead, bead_of}
use Rattle.smt_sexp.specs.Views.{place_of}
use Rattle.smt_sexp.specs.declared.building.Building.{Building}
use Rattle.smt_sexp.specs.declared.building.Opened.{Opened}

-- the beads of an expression, and of several
abbrev mutual
  pub flat : Sexp → List Bead
  flat (leaf at l) = leaf_bead at l ∷ []
  flat (group at items) = open_bead at (length (flats items) + 1) ∷ flats items ++ shut_bead ∷ []

  pub flats : Sexps → List Bead
  flats none = []
  flats (more e rest) = flat e ++ flats rest

-- the same of a list whose last expression stands first
abbrev pub flat_back : List Sexp → List Bead
flat_back [] = []
flat_back (e ∷ before) = flat_back before ++ flat e

-- the beads of all that was read: an opening that is not closed has no size yet
abbrev pub spelled : List Unclosed → List Sexp → List Bead
spelled [] tops = flat_back tops
spelled (u ∷ us) tops = spelled us tops ++ open_bead u.opened 0 ∷ flat_back u.before

-- which beads are the openings that are not closed, the outermost first
abbrev pub starts : List Unclosed → List Sexp → List (ℕ × Place)
starts [] tops = []
starts (u ∷ us) tops = starts us tops ++ (length (spelled us tops), u.opened) ∷ []

abbrev pub opened_of : Opened → ℕ × Place
opened_of o = (o.at, place_of o.place)

-- what was read so far
pub record Stands (b : Building) (us : List Unclosed) (tops : List Sexp) : Type 0 where
  pub nodes : map bead_of b.nodes.items ≡ spelled us tops
  pub opened : map opened_of b.open.items ≡ starts us tops

-- a parenthesis is not closed
abbrev pub IsOpen : Building → Type 0
IsOpen b = (us : List Unclosed) × (tops : List Sexp) × Stands b us tops × (0 < length us)

abbrev pub group_of : Unclosed → Sexp
group_of u = group u.opened (backwards u.before none)

-- a group is closed, and with it perhaps the text
pub record Closes (b : Building) (u : Unclosed) (us : List Unclosed) (tops : List Sexp) (ends : Bool) : Type 0 where
  pub stands : Stands b (put (group_of u) us tops).0 (put (group_of u) us tops).1
  pub ends_is : ends ≡ (nat_eq (length us) 0 && is_exit (group_of u))

-- these beads in a group make it the command that ends a script
abbrev pub is_exit_inside : List Bead → Bool
is_exit_inside (leaf_bead at (symbol name) ∷ []) = bytes_eq name (codes "exit")
is_exit_inside beads = false
