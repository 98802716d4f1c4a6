-- What a sweep over the rows gives is the combination's expansion.
use Rattle.std.proofs.Common.{◌≡◌, ℕ, List, [], length, ap, ap₂, ◌∙◌}
use Rattle.dyadic.specs.Rounding.{Dyadic}
use Rattle.interval_model.specs.Interval.{Interval}
use Rattle.interval_model.specs.Space.{Space, middle}
use Rattle.poly_graph.specs.Marks.{Mark}
use Rattle.poly_graph.specs.Problem.{Problem}
use Rattle.cover_model.specs.Narrowed.{enclosures}
use Rattle.cover_model.specs.Combination.{Multipliers, Adjoints, no_adjoints, Expansion, swept, root_adjoints, central_range, allowed_range, marked_range, expansion, left_of_space, combined}
use Rattle.combine.specs.Parts.{expansion_with}
use mathlib.Core.Path.{fun_ext}

pub combined_is : (p : Problem) (m : Dyadic) (marks : List Mark) (s centre : Space) (ms : Multipliers) (es cs : List Interval) (os qs : Adjoints) (e x : Expansion) (allowed : Interval) →
    es ≡ enclosures s p.nodes → centre ≡ middle s → cs ≡ enclosures centre p.nodes → ((k : ℕ) → os k ≡ root_adjoints p ms k) → ((k : ℕ) → qs k ≡ no_adjoints k) →
    e ≡ expansion_with [] (central_range p cs ms) → x ≡ swept p.nodes es cs (length p.nodes) os qs e → allowed ≡ allowed_range (marked_range p m marks) ms →
    left_of_space s centre allowed x ≡ combined p m marks s ms
combined_is p m marks s centre ms es cs os qs e x allowed rows middles centres roots none begun sweeps allows =
    let swept-so : x ≡ expansion p s centre ms =
    sweeps ∙ ap₂ (λ (f g : Adjoints). swept p.nodes es cs (length p.nodes) f g e) (fun_ext roots) (fun_ext none)
    ∙ ap (λ (y : Expansion). swept p.nodes es cs (length p.nodes) (root_adjoints p ms) no_adjoints y) begun
    ∙ ap₂ (λ (a b : List Interval). swept p.nodes a b (length p.nodes) (root_adjoints p ms) no_adjoints (expansion_with [] (central_range p b ms))) rows centres in
    ap₂ (λ (i : Interval) (y : Expansion). left_of_space s centre i y) allows swept-so
    ∙ ap (λ (c : Space). left_of_space s c (allowed_range (marked_range p m marks) ms) (expansion p s c ms)) middles
