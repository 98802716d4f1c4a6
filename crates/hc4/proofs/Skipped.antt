-- Axes of nodes that are passed by, and of nodes that agree at their variables.
use Rattle.std.proofs.Common.{◌≡◌, ℕ, zero, suc, ◌+◌, ◌<◌, ◌≤◌, List, [], ◌∷◌, length, get_or, drop, Option, Some, None, inl, inr, refl, ap, ap₂, sym, ◌∙◌, arith}
use Rattle.std.specs.Prelude.{slice_get}
use Rattle.dyadic.specs.Rounding.{below_all, finite, above_all}
use Rattle.interval_model.specs.Interval.{Interval, nothing, between}
use Rattle.poly_graph.specs.Term.{Node, constant_node, variable_node, negate_node, add_node, multiply_node, square_node}
use Rattle.interval_model.specs.Space.{Domain, real_domain, bool_domain, Space, axis_interval}
use Rattle.cover_model.specs.Narrowed.{set_axis, with_axes}
use Rattle.cover_model.specs.AxisStep.{axis_step}
use Rattle.cover_model.proofs.Axes.{axes_step, axes_next, set_kept}
use Rattle.hc4.specs.Sweeps.{StandsFor}
use Rattle.hc4.proofs.Sweeping.{some_node}

step-none : (n : Node) (space : Space) → axis_step n None space ≡ space
step-none (constant_node q) space = refl
step-none (variable_node a) space = refl
step-none (negate_node a) space = refl
step-none (add_node a b) space = refl
step-none (multiply_node a b) space = refl
step-none (square_node a) space = refl

pub axes_skip : (nodes : List Node) (opts : List (Option Interval)) (space : Space) (d p q : ℕ) → q + d ≡ p → p ≤ length nodes → length opts ≡ length nodes →
    ((k : ℕ) → q ≤ k → k < p → get_or opts k None ≡ None) → with_axes (drop p nodes) (drop p opts) space ≡ with_axes (drop q nodes) (drop q opts) space
axes_skip nodes opts space zero p q e l c f = let same : p ≡ q = omega arith in ap (λ (x : ℕ). with_axes (drop x nodes) (drop x opts) space) same
axes_skip nodes opts space (suc d) p q e l c f =
    let inside : q < length nodes = omega arith in let n = some_node nodes q inside in
    axes_skip nodes opts space d p (q + 1) (omega arith) l c (λ k h j. f k (omega arith) j)
    ∙ sym (step-none n.0 (with_axes (drop (q + 1) nodes) (drop (q + 1) opts) space))
    ∙ axes_next nodes opts space q n.0 None n.1 (omega (arith, inside, c)) (sym (f q (omega arith) (omega arith)))

-- ---- what is set is at that axis alone

head-set : (i : Interval) (d : Domain) (space : Space) → (d' : Domain) × (set_axis zero i (d ∷ space) ≡ d' ∷ space)
head-set nothing d space = (d, refl)
head-set (between below_all e) d space = (d, refl)
head-set (between above_all e) d space = (d, refl)
head-set (between (finite l) below_all) d space = (d, refl)
head-set (between (finite l) above_all) d space = (d, refl)
head-set (between (finite l) (finite h)) d space = (real_domain l h, refl)

set-other : (a j : ℕ) (i : Interval) (space : Space) (d : Domain) → (a ≡ j → ⊥) → get_or (set_axis a i space) j d ≡ get_or space j d
set-other a j i [] d h = refl
set-other zero zero i (e ∷ space) d h = absurd (h refl)
set-other zero (suc j) i (e ∷ space) d h = ap (λ (s : Space). get_or s (suc j) d) (head-set i e space).1
set-other (suc a) zero i (e ∷ space) d h = refl
set-other (suc a) (suc j) i (e ∷ space) d h = set-other a j i space d (λ p. h (ap suc p))

step-other : (n : Node) (o : Option Interval) (space : Space) (j : ℕ) (d : Domain) → (n ≡ variable_node j → ⊥) → get_or (axis_step n o space) j d ≡ get_or space j d
step-other (variable_node a) None space j d h = refl
step-other (variable_node a) (Some i) space j d h = set-other a j i space d (λ e. h (ap variable_node e))
step-other (constant_node q) o space j d h = refl
step-other (negate_node a) o space j d h = refl
step-other (add_node a b) o space j d h = refl
step-other (multiply_node a b) o space j d h = refl
step-other (square_node a) o space j d h = refl

-- an axis of which no node is the variable
untouched : (nodes : List Node) (opts : List (Option Interval)) (space : Space) (j : ℕ) (d : Domain) → length opts ≡ length nodes → ((k : ℕ) → slice_get nodes k ≡ Some (variable_node j) → ⊥) →
    get_or (with_axes nodes opts space) j d ≡ get_or space j d
untouched [] [] space j d l h = refl
untouched [] (o ∷ opts) space j d l h = absurd (omega (arith, l))
untouched (n ∷ nodes) [] space j d l h = absurd (omega (arith, l))
untouched (n ∷ nodes) (o ∷ opts) space j d l h =
    ap (λ (s : Space). get_or s j d) (axes_step n o nodes opts space)
    ∙ step-other n o (with_axes nodes opts space) j d (λ e. h zero (ap (λ (x : Node). Some x) e))
    ∙ untouched nodes opts space j d (omega (arith, l)) (λ k e. h (suc k) e)

-- an axis that is set to what it is
set-same : (a : ℕ) (s t : Space) → ((d : Domain) → get_or t a d ≡ get_or s a d) → set_axis a (axis_interval s a) t ≡ t
set-same a s [] f = refl
set-same a [] (e ∷ t) f = set_kept nothing (λ l h z. cc) a (e ∷ t)
set-same zero (real_domain l h ∷ s) (e ∷ t) f = ap (λ (d : Domain). d ∷ t) (sym (f e))
set-same zero (bool_domain b c ∷ s) (e ∷ t) f = refl
set-same (suc a) (d ∷ s) (e ∷ t) f = ap (λ (u : Space). e ∷ u) (set-same a s t f)

same-step : (n : Node) (o m : Option Interval) (start s t : Space) → ((a : ℕ) → n ≡ variable_node a → StandsFor (axis_interval start a) o m) →
    ((a : ℕ) → n ≡ variable_node a → (d : Domain) → get_or t a d ≡ get_or start a d) → s ≡ t → axis_step n o s ≡ axis_step n m t
same-step (constant_node q) o m start s t f g e = e
same-step (variable_node a) o m start s t f g e = elim (f a refl) [
  | inl same ↦ ap₂ (axis_step (variable_node a)) same e
  | inr h ↦ ap (λ (x : Option Interval). axis_step (variable_node a) x s) h.0 ∙ e ∙ sym (set-same a start t (g a refl)) ∙ sym (ap (λ (x : Option Interval). axis_step (variable_node a) x t) h.1)
]
same-step (negate_node a) o m start s t f g e = e
same-step (add_node a b) o m start s t f g e = e
same-step (multiply_node a b) o m start s t f g e = e
same-step (square_node a) o m start s t f g e = e

-- the variables alone decide, and where nothing stands their axes stay; each is the variable of one node
pub axes_stand : (nodes : List Node) (opts ns : List (Option Interval)) (space : Space) → ((j k : ℕ) (n : Node) → slice_get nodes j ≡ Some n → slice_get nodes k ≡ Some n → j ≡ k) →
    length opts ≡ length nodes → length ns ≡ length nodes →
    ((k a : ℕ) → slice_get nodes k ≡ Some (variable_node a) → StandsFor (axis_interval space a) (get_or opts k None) (get_or ns k None)) → with_axes nodes opts space ≡ with_axes nodes ns space
axes_stand [] [] [] space once l m f = refl
axes_stand [] (o ∷ opts) ns space once l m f = absurd (omega (arith, l))
axes_stand [] [] (o ∷ opts) space once l m f = absurd (omega (arith, m))
axes_stand (n ∷ nodes) [] ns space once l m f = absurd (omega (arith, l))
axes_stand (n ∷ nodes) (o ∷ opts) [] space once l m f = absurd (omega (arith, m))
axes_stand (n ∷ nodes) (o ∷ opts) (u ∷ ns) space once l m f =
    axes_step n o nodes opts space
    ∙ same-step n o u space (with_axes nodes opts space) (with_axes nodes ns space) (λ a e. f zero a (ap (λ (x : Node). Some x) e))
    (λ a e d. untouched nodes ns space a d (omega (arith, m)) (λ k h. let j = once zero (suc k) n refl (h ∙ ap (λ (x : Node). Some x) (sym e)) in absurd (omega (arith, j))))
    (axes_stand nodes opts ns space (λ i j x p q. let e = once (suc i) (suc j) x p q in omega (arith, e)) (omega (arith, l)) (omega (arith, m)) (λ k a e. f (suc k) a e))
    ∙ sym (axes_step n u nodes ns space)
