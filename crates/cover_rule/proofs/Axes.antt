-- Axes that are set one after the other, and the rows that serve.
use Rattle.std.proofs.Common.{◌≡◌, ℕ, zero, suc, ◌+◌, ◌<◌, List, [], ◌∷◌, length, get_or, set, add-one, Bool, refl, ap, ◌∙◌, arith}
use Rattle.std.proofs.lemmas.List.{get_or-map, length-map}
use Rattle.dyadic.specs.Fraction.{zero_fraction}
use Rattle.interval_model.specs.Interval.{Interval, nothing}
use Rattle.interval_model.specs.Space.{Domain, Space, test_axis}
use Rattle.poly_graph.specs.Term.{constant, graph_terms}
use Rattle.cover_model.specs.Space.{enclosure}
use Rattle.poly_graph.specs.Problem.{Axis, atom_at, no_place}
use Rattle.poly_graph.specs.ProblemViews.{Parts, problem_of, IsWhole}
use Rattle.cover_model.specs.Narrowed.{enclosures}
use Rattle.cover_model.specs.NodeEnclosure.{row}
use Rattle.cover_model.specs.Fits.{FitsAxes}
use Rattle.poly_graph.proofs.Graphs.{length_terms}
use Rattle.form_truth.specs.Truth.{HasRows}

-- the first so many axes of a space, and what stood there before of the others
abbrev pub blend : ℕ → Space → Space → Space
blend zero xs ys = ys
blend (suc i) (x ∷ xs) (y ∷ ys) = x ∷ blend i xs ys
blend (suc i) xs ys = ys

pub blend_step : (i : ℕ) (xs ys : Space) (d : Domain) → i < length xs → i < length ys → set (blend i xs ys) i (get_or xs i d) ≡ blend (suc i) xs ys
blend_step zero (x ∷ xs) (y ∷ ys) d h k = refl
blend_step (suc i) (x ∷ xs) (y ∷ ys) d h k = ap (λ t. x ∷ t) (blend_step i xs ys d (omega (arith, h)) (omega (arith, k)))
blend_step i [] ys d h k = absurd (omega (arith, h))
blend_step i (x ∷ xs) [] d h k = absurd (omega (arith, k))

pub blend_next : (i : ℕ) (xs ys : Space) (d : Domain) → i < length xs → i < length ys → set (blend i xs ys) i (get_or xs i d) ≡ blend (i + 1) xs ys
blend_next i xs ys d h k = rw add-one (blend_step i xs ys d h k)

pub blend_end : (xs ys : Space) → length xs ≡ length ys → blend (length xs) xs ys ≡ xs
blend_end [] [] h = refl
blend_end (x ∷ xs) (y ∷ ys) h = ap (λ t. x ∷ t) (blend_end xs ys (omega (arith, h)))
blend_end [] (y ∷ ys) h = absurd (omega (arith, h))
blend_end (x ∷ xs) [] h = absurd (omega (arith, h))

pub length_blend : (i : ℕ) (xs ys : Space) → length (blend i xs ys) ≡ length ys
length_blend zero xs ys = refl
length_blend (suc i) (x ∷ xs) (y ∷ ys) = let k = length_blend i xs ys in omega (arith, k)
length_blend (suc i) [] ys = refl
length_blend (suc i) (x ∷ xs) [] = refl

pub fits_length : (axes : List Axis) (space : Space) → FitsAxes axes space → length space ≡ length axes
fits_length [] [] h = refl
fits_length (a ∷ axes) (d ∷ space) h = let k = fits_length axes space h.1 in omega (arith, k)
fits_length [] (d ∷ space) h = elim h [ ]
fits_length (a ∷ axes) [] h = elim h [ ]

pub length_enclosures : (p : Parts) (space : Space) (es : List Interval) → es ≡ enclosures space p.nodes → length es ≡ length p.nodes
length_enclosures p space es e = ap length e ∙ length-map (graph_terms p.nodes) (enclosure space) ∙ length_terms p.nodes

-- rows of all nodes have those of the atoms' terms
pub has_rows : (p : Parts) → IsWhole p → (space : Space) (es : List Interval) → es ≡ enclosures space p.nodes → HasRows p space es
has_rows p w space es e = record {
  count = length_enclosures p space es e;
  rows = λ j h.
      let a = (atom_at (problem_of p) j).0 in
      let below : a < length p.nodes = w.problem.atoms j no_place h in
      ap (λ (xs : List Interval). row xs a) e ∙ get_or-map (enclosure space) (graph_terms p.nodes) a (constant zero_fraction) nothing (omega (arith, below, length_terms p.nodes));
}

pub test_is : (f : Domain → Bool) (axis : ℕ) (space : Space) (d : Domain) → axis < length space → test_axis f axis space ≡ f (get_or space axis d)
test_is f axis [] d h = absurd (omega (arith, h))
test_is f zero (e ∷ space) d h = refl
test_is f (suc axis) (e ∷ space) d h = test_is f axis space d (omega (arith, h))
