-- Places of what is left out, tree by tree.
use Rattle.std.specs.Prelude.{◌≡◌, ◌<◌, ◌≤◌, ℕ, List, [], ◌∷◌, length, Option, None, option_map, slice_index_or}
use Rattle.script_fault.specs.declared.place.Place as code
use Rattle.script_model.specs.Sexp.{Place}
use Rattle.script_roots.specs.Tree.{Tree}
use Rattle.script_roots.specs.Fresh.{first_place}
use Rattle.smt_sexp.specs.Views.{place_of}
use Rattle.root_rewriting.specs.Nodes.{tree_at}

abbrev pub seen_place : Option code.Place → Option Place
seen_place p = option_map place_of p

abbrev pub place_at : List (Option code.Place) → ℕ → Option Place
place_at places k = seen_place (slice_index_or places k None)

abbrev pub first_in : List (Option Place) → Option Place
first_in [] = None
first_in (p ∷ ps) = first_place p (first_in ps)

-- of the first trees the places that f gives
pub record ArePlaces (f : Tree → Option Place) (ts : List Tree) (places : List (Option code.Place)) : Type 0 where
  pub within : length places ≤ length ts
  pub are : (k : ℕ) → k < length places → place_at places k ≡ f (tree_at ts k)
