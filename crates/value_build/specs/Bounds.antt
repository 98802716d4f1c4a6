-- The bounds of comparisons, as lists of the table.
use Rattle.std.specs.Prelude.{◌≡◌, ℕ, ◌<◌, List, [], ◌∷◌, ◌++◌, length, Result, Ok, Err}
use Rattle.std.specs.List.{All}
use Rattle.std.specs.declared.alloc.AllocError.{AllocError}
use Rattle.dyadic.specs.Views.{fraction_of_frac}
use Rattle.script_model.specs.Declared.{Bound, Bounding, known, constant_of, other, at_most_bounds, at_least_bounds, equal_bounds, concat}
use Rattle.script_model.specs.Meaning.{neighbours}
use Rattle.poly_graph.specs.Term.{Term, Kind, le, ge, eq}
use Rattle.declared_box.specs.Table.{list_at, all_of}
use Rattle.value_build.specs.Making.{MoreLists}
use Rattle.value_build.specs.Weights.{weight, term_at}
use Rattle.value_build.specs.declared.bounds.Weight.{Weight}
use Rattle.value_build.specs.declared.bounds.Weight.TheVariants.{Known, Axis, Other}

abbrev pub weight_of : Weight → Bounding
weight_of (Known q) = known (fraction_of_frac q)
weight_of (Axis axis) = constant_of axis
weight_of Other = other

abbrev pub bounds_of_kind : Kind → Bounding → Bounding → List Bound
bounds_of_kind le = at_most_bounds
bounds_of_kind ge = at_least_bounds
bounds_of_kind eq = equal_bounds

-- of a tree and the first of others
abbrev pub first_bounds : Kind → List Term → ℕ → List ℕ → List Bound
first_bounds kind ts k [] = []
first_bounds kind ts k (j ∷ ks) = bounds_of_kind kind (weight (term_at ts k)) (weight (term_at ts j))

-- of each two neighbours
abbrev pub chained_bounds : Kind → List Bounding → List Bound
chained_bounds kind bs = concat (neighbours (bounds_of_kind kind) bs)

-- the lists of these numbers are together these bounds
abbrev pub Give : List (List Bound) → List ℕ → List Bound → Type 0
Give lists parts bs = All (λ (k : ℕ). k < length lists) parts × (all_of lists parts ≡ bs)

-- these bounds are a part more, unless memory is wanting
abbrev pub AddsBounds : {X : Type 0} → List (List Bound) → List (List Bound) → List ℕ → List ℕ → List Bound → Result X AllocError → Type 0
AddsBounds lists lists' parts parts' bs (Ok x) = MoreLists lists lists' × ((cs : List Bound) → Give lists parts cs → Give lists' parts' (cs ++ bs))
AddsBounds lists lists' parts parts' bs (Err e) = Unit {0}

-- a list of these bounds stands under this number, unless memory is wanting
abbrev pub AddsList : List (List Bound) → List (List Bound) → List Bound → Result ℕ AllocError → Type 0
AddsList lists lists' bs (Ok k) = MoreLists lists lists' × (k < length lists') × (list_at lists' k ≡ bs)
AddsList lists lists' bs (Err e) = Unit {0}

-- the parts, with the bounds of what is left, give all
pub record IsListing (kind : Kind) (ts : List Term) (lists lists' : List (List Bound)) (all : List Bound) (parts : List ℕ) (rest : List Bound) : Type 0 where
  pub more : MoreLists lists lists'
  pub so_far : List Bound
  pub given : Give lists' parts so_far
  pub same : so_far ++ rest ≡ all
