-- What trees say of bounds.
use Rattle.std.specs.Prelude.{ℕ, List, [], ◌∷◌, map, slice_index_or}
use Rattle.dyadic.specs.Fraction.{zero_fraction}
use Rattle.script_model.specs.Declared.{Bounding, known, constant_of, other}
use Rattle.poly_graph.specs.Term.{Term, constant, variable}
use Rattle.value_build.specs.Values.{Weighs}

abbrev pub weight : Term → Bounding
weight (constant q) = known q
weight (variable axis) = constant_of axis
weight t = other

abbrev pub term_at : List Term → ℕ → Term
term_at ts k = slice_index_or ts k (constant zero_fraction)

-- of the trees of these numbers
abbrev pub weights : List Term → List ℕ → List Bounding
weights ts ks = map (λ k. weight (term_at ts k)) ks

abbrev pub WeighsEach : List Term → List ℕ → List Bounding → Type 0
WeighsEach ts [] [] = Unit {0}
WeighsEach ts (k ∷ ks) (b ∷ bs) = Weighs (term_at ts k) b × WeighsEach ts ks bs
WeighsEach ts _ _ = ⊥
