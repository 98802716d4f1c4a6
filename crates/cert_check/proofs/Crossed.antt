-- Whether the bounds of some axis cross.
use Rattle.std.proofs.Common.{◌≡◌, ℕ, ◌+◌, ◌<◌, ◌≤◌, suc, List, [], ◌∷◌, map, length, drop, get_or, Bool, true, false, cond, Some, refl, ap, ◌∙◌, arith}
use Rattle.std.proofs.lemmas.List.{drop_more, drop_all, length-map, get_or-map}
use Rattle.poly_graph.specs.Problem.{Axis, is_crossed, first_crossed_from}
use Rattle.poly_graph.specs.ProblemViews.{axis_of}
use Rattle.poly_graph.specs.declared.axis.Axis as code
use Rattle.cert_model.specs.Due.{is_some_axis}

-- the bounds of one of these axes cross
abbrev pub some_crossed : List Axis → Bool
some_crossed axes = is_some_axis (first_crossed_from 0 axes)

from-any : (i j : ℕ) (axes : List Axis) → is_some_axis (first_crossed_from i axes) ≡ is_some_axis (first_crossed_from j axes)
from-any i j [] = refl
from-any i j (a ∷ axes) = by-test (is_crossed a.declared) (from-any (suc i) (suc j) axes) where
  by-test : (t : Bool) → is_some_axis (first_crossed_from (suc i) axes) ≡ is_some_axis (first_crossed_from (suc j) axes) →
      is_some_axis (cond t (Some i) (first_crossed_from (suc i) axes)) ≡ is_some_axis (cond t (Some j) (first_crossed_from (suc j) axes))
  by-test true e = refl
  by-test false e = e

here : (axes : List code.Axis) (k : ℕ) (r : code.Axis) → k < length axes → drop k (map axis_of axes) ≡ axis_of (get_or axes k r) ∷ drop (k + 1) (map axis_of axes)
here axes k r h = drop_more (map axis_of axes) k (axis_of r) (omega (arith, h, length-map axes axis_of))
    ∙ ap (λ (x : Axis). x ∷ drop (k + 1) (map axis_of axes)) (get_or-map axis_of axes k r (axis_of r) h)

pub crossed_here : (axes : List code.Axis) (k : ℕ) (r : code.Axis) → k < length axes → is_crossed (axis_of (get_or axes k r)).declared ≡ true → some_crossed (drop k (map axis_of axes)) ≡ true
crossed_here axes k r h e = ap some_crossed (here axes k r h)
    ∙ ap (λ (t : Bool). is_some_axis (cond t (Some 0) (first_crossed_from 1 (drop (k + 1) (map axis_of axes))))) e

pub crossed_next : (axes : List code.Axis) (k : ℕ) (r : code.Axis) → k < length axes → is_crossed (axis_of (get_or axes k r)).declared ≡ false → some_crossed (drop k (map axis_of axes)) ≡ some_crossed (drop (k + 1) (map axis_of axes))
crossed_next axes k r h e = ap some_crossed (here axes k r h)
    ∙ ap (λ (t : Bool). is_some_axis (cond t (Some 0) (first_crossed_from 1 (drop (k + 1) (map axis_of axes))))) e
    ∙ from-any 1 0 (drop (k + 1) (map axis_of axes))

pub crossed_none : (axes : List code.Axis) (k : ℕ) → length axes ≤ k → some_crossed (drop k (map axis_of axes)) ≡ false
crossed_none axes k h = ap some_crossed (drop_all k (map axis_of axes) (omega (arith, h, length-map axes axis_of)))
