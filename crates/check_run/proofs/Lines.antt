-- The lines of the axes, one by one.
use Rattle.std.proofs.Common.{◌≡◌, ℕ, List, [], ◌∷◌, ◌++◌, ◌∙◌, ◌⊎◌, inl, inr, map, refl, sym, ap}
use Rattle.std.proofs.lemmas.List.{append-nil}
use Rattle.poly_graph.specs.declared.axis.Axis.{Axis}
use Rattle.poly_graph.specs.ProblemViews.{axis_of}
use Rattle.interval_model.specs.Space as spaces
use Rattle.ival.specs.declared.domain.Domain.{Domain}
use Rattle.ival.specs.SpaceViews.{domain_of}
use Rattle.cert_model.specs.AnswerText.{axes_text}

-- the lines that are told of these axes
abbrev pub lines : (spaces.Domain → List ℕ) → List Axis → List Domain → List ℕ
lines f axes domains = axes_text f (map axis_of axes) (map domain_of domains)

no_domains : (f : spaces.Domain → List ℕ) (axes : List Axis) → lines f axes [] ≡ []
no_domains f [] = refl
no_domains f (axis ∷ axes) = refl

no_lines : (f : spaces.Domain → List ℕ) (axes : List Axis) (domains : List Domain) → (axes ≡ []) ⊎ (domains ≡ []) → lines f axes domains ≡ []
no_lines f axes domains (inl none) = ap (λ (xs : List Axis). lines f xs domains) none
no_lines f axes domains (inr none) = ap (λ (ds : List Domain). lines f axes ds) none ∙ no_domains f axes

-- All lines were written.
pub all_written : (f : spaces.Domain → List ℕ) (axes : List Axis) (domains : List Domain) (text whole : List ℕ)
    → (axes ≡ []) ⊎ (domains ≡ []) → text ++ lines f axes domains ≡ whole → text ≡ whole
all_written f axes domains text whole ended before =
    sym (append-nil text) ∙ ap (λ (t : List ℕ). text ++ t) (sym (no_lines f axes domains ended)) ∙ before
