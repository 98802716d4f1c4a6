-- One more row.
use Rattle.std.proofs.Common.{◌≡◌, ℕ, List, ◌+◌, ◌<◌, ◌≢◌, ◌∙◌, length, arith, ap, below_more, set, get_or-set_other, get_or-set_same}
use Rattle.interval_model.specs.Interval.{Interval, nothing}
use Rattle.poly_graph.specs.Term.{Node}
use Rattle.interval_model.specs.Space.{Space}
use Rattle.cover_model.specs.Narrowed.{enclosures}
use Rattle.cover_model.specs.NodeEnclosure.{row}

pub filled_next : (space : Space) (nodes : List Node) (n : ℕ) (es es' : List Interval) (i : Interval) → n < length es → es' ≡ set es n i → i ≡ row (enclosures space nodes) n →
    ((k : ℕ) → k < n → row es k ≡ row (enclosures space nodes) k) → (k : ℕ) → k < n + 1 → row es' k ≡ row (enclosures space nodes) k
filled_next space nodes n es es' i inside f e before = below_more _ _
    (λ k h. let other : k ≢ n = omega arith in ap (λ (xs : List Interval). row xs k) f ∙ get_or-set_other es n k i nothing other ∙ before k h)
    (ap (λ (xs : List Interval). row xs n) f ∙ get_or-set_same es n i nothing inside ∙ e)
