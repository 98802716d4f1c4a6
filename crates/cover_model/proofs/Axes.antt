-- Axes that are set, one after the other.
use Rattle.std.proofs.Common.{◌≡◌, ◌≢◌, ℕ, zero, suc, ◌+◌, ◌<◌, ◌≤◌, List, [], ◌∷◌, length, get_or, set, drop, Option, Some, None, refl, ap, ap₂, sym, ◌∙◌, subst, arith, Bool, true, false, cond}
use Rattle.std.proofs.lemmas.List.{drop_more}
use Rattle.std.specs.Prelude.{slice_get}
use Rattle.dyadic.specs.Rounding.{Dyadic, below_all, finite, above_all}
use Rattle.interval_model.specs.Interval.{Interval, nothing, between}
use Rattle.poly_graph.specs.Term.{Node, constant_node, variable_node, negate_node, add_node, multiply_node, square_node}
use Rattle.interval_model.specs.Space.{Domain, Space, real_domain}
use Rattle.cover_model.specs.Narrowed.{set_axis, with_axes, some_empty, narrowed_space}
use Rattle.cover_model.specs.AxisStep.{axis_step}
use Rattle.cover_model.proofs.NarrowedAt.{drop_here}

pub set_axis_is : (axis : ℕ) (l h : Dyadic) (space : Space) → set_axis axis (between (finite l) (finite h)) space ≡ set space axis (real_domain l h)
set_axis_is axis l h [] = refl
set_axis_is zero l h (d ∷ space) = refl
set_axis_is (suc axis) l h (d ∷ space) = ap (λ s. d ∷ s) (set_axis_is axis l h space)

pub set_past : (axis : ℕ) (i : Interval) (space : Space) → length space ≤ axis → set_axis axis i space ≡ space
set_past axis i [] h = refl
set_past zero i (d ∷ space) h = absurd (omega arith)
set_past (suc axis) i (d ∷ space) h = ap (λ s. d ∷ s) (set_past axis i space (omega arith))

-- what leaves a first axis as it is does so with each
set-none : (i : Interval) → ((d : Domain) (space : Space) → set_axis zero i (d ∷ space) ≡ d ∷ space) → (axis : ℕ) (space : Space) → set_axis axis i space ≡ space
set-none i f axis [] = refl
set-none i f zero (d ∷ space) = f d space
set-none i f (suc axis) (d ∷ space) = ap (λ s. d ∷ s) (set-none i f axis space)

-- an interval that is empty or unbounded
pub set_kept : (i : Interval) → ((l h : Dyadic) → i ≡ between (finite l) (finite h) → ⊥) → (axis : ℕ) (space : Space) → set_axis axis i space ≡ space
set_kept nothing f = set-none nothing (λ d space. refl)
set_kept (between (finite l) (finite h)) f = absurd (f l h refl)
set_kept (between (finite l) below_all) f = set-none (between (finite l) below_all) (λ d space. refl)
set_kept (between (finite l) above_all) f = set-none (between (finite l) above_all) (λ d space. refl)
set_kept (between below_all h) f = set-none (between below_all h) (λ d space. refl)
set_kept (between above_all h) f = set-none (between above_all h) (λ d space. refl)

-- ---- what is set is at that axis alone

head-set : (i : Interval) (d : Domain) (space : Space) → (d' : Domain) × (set_axis zero i (d ∷ space) ≡ d' ∷ space)
head-set nothing d space = (d, refl)
head-set (between below_all e) d space = (d, refl)
head-set (between above_all e) d space = (d, refl)
head-set (between (finite l) below_all) d space = (d, refl)
head-set (between (finite l) above_all) d space = (d, refl)
head-set (between (finite l) (finite h)) d space = (real_domain l h, refl)

set-other : (a j : ℕ) (i : Interval) (space : Space) (d : Domain) → a ≢ j → get_or (set_axis a i space) j d ≡ get_or space j d
set-other a j i [] d h = refl
set-other zero zero i (e ∷ space) d h = absurd (h refl)
set-other zero (suc j) i (e ∷ space) d h = ap (λ (s : Space). get_or s (suc j) d) (head-set i e space).1
set-other (suc a) zero i (e ∷ space) d h = refl
set-other (suc a) (suc j) i (e ∷ space) d h = set-other a j i space d (λ p. h (ap suc p))

same-entry : (j : ℕ) (i : Interval) (space : Space) → ((d : Domain) → get_or (set_axis j i space) j d ≡ get_or space j d) → set_axis j i space ≡ space
same-entry j i [] h = refl
same-entry zero i (e ∷ space) h = let p = head-set i e space in
    p.1 ∙ ap (λ (d : Domain). d ∷ space) (sym (ap (λ (s : Space). get_or s zero e) p.1) ∙ h e)
same-entry (suc j) i (e ∷ space) h = ap (λ s. e ∷ s) (same-entry j i space h)

-- ---- the variables of a graph, one after the other

pub axes_step : (n : Node) (o : Option Interval) (nodes : List Node) (opts : List (Option Interval)) (space : Space) → with_axes (n ∷ nodes) (o ∷ opts) space ≡ axis_step n o (with_axes nodes opts space)
axes_step (constant_node q) o nodes opts space = refl
axes_step (variable_node a) None nodes opts space = refl
axes_step (variable_node a) (Some i) nodes opts space = refl
axes_step (negate_node a) o nodes opts space = refl
axes_step (add_node a b) o nodes opts space = refl
axes_step (multiply_node a b) o nodes opts space = refl
axes_step (square_node a) o nodes opts space = refl

untouched : (nodes : List Node) (opts : List (Option Interval)) (start : Space) (j : ℕ) (d : Domain) → ((k : ℕ) → slice_get nodes k ≡ Some (variable_node j) → ⊥) → get_or (with_axes nodes opts start) j d ≡ get_or start j d
untouched [] opts start j d h = refl
untouched (constant_node q ∷ nodes) [] start j d h = refl
untouched (variable_node a ∷ nodes) [] start j d h = refl
untouched (negate_node a ∷ nodes) [] start j d h = refl
untouched (add_node a b ∷ nodes) [] start j d h = refl
untouched (multiply_node a b ∷ nodes) [] start j d h = refl
untouched (square_node a ∷ nodes) [] start j d h = refl
untouched (constant_node q ∷ nodes) (o ∷ opts) start j d h = untouched nodes opts start j d (λ k e. h (suc k) e)
untouched (variable_node a ∷ nodes) (None ∷ opts) start j d h = untouched nodes opts start j d (λ k e. h (suc k) e)
untouched (variable_node a ∷ nodes) (Some i ∷ opts) start j d h =
    set-other a j i (with_axes nodes opts start) d (λ p. h zero (ap (λ (x : ℕ). Some (variable_node x)) p)) ∙ untouched nodes opts start j d (λ k e. h (suc k) e)
untouched (negate_node a ∷ nodes) (o ∷ opts) start j d h = untouched nodes opts start j d (λ k e. h (suc k) e)
untouched (add_node a b ∷ nodes) (o ∷ opts) start j d h = untouched nodes opts start j d (λ k e. h (suc k) e)
untouched (multiply_node a b ∷ nodes) (o ∷ opts) start j d h = untouched nodes opts start j d (λ k e. h (suc k) e)
untouched (square_node a ∷ nodes) (o ∷ opts) start j d h = untouched nodes opts start j d (λ k e. h (suc k) e)

pub axes_next : (nodes : List Node) (opts : List (Option Interval)) (space : Space) (k : ℕ) (n : Node) (o : Option Interval) → slice_get nodes k ≡ Some n → k < length opts → o ≡ get_or opts k None →
    axis_step n o (with_axes (drop (k + 1) nodes) (drop (k + 1) opts) space) ≡ with_axes (drop k nodes) (drop k opts) space
axes_next nodes opts space k n o h l e =
    ap (λ (x : Option Interval). axis_step n x (with_axes (drop (k + 1) nodes) (drop (k + 1) opts) space)) e
    ∙ sym (axes_step n (get_or opts k None) (drop (k + 1) nodes) (drop (k + 1) opts) space)
    ∙ sym (ap₂ (λ (xs : List Node) (ys : List (Option Interval)). with_axes xs ys space) (drop_here nodes k n h) (drop_more opts k None l))

later-at : (nodes : List Node) (k m : ℕ) (n : Node) → slice_get (drop k nodes) m ≡ Some n → slice_get nodes (k + m) ≡ Some n
later-at nodes zero m n h = let place : m ≡ 0 + m = omega arith in subst (λ (x : ℕ). slice_get nodes x ≡ Some n) place h
later-at [] (suc k) m n h = cc
later-at (x ∷ nodes) (suc k) m n h = let place : suc (k + m) ≡ suc k + m = omega arith in subst (λ (y : ℕ). slice_get (x ∷ nodes) y ≡ Some n) place (later-at nodes k m n h)

abbrev pub Once : List Node → Type 0
Once nodes = (j k : ℕ) (n : Node) → slice_get nodes j ≡ Some n → slice_get nodes k ≡ Some n → j ≡ k

-- a step that leads back to the start changes nothing, since no later node is the same variable
pub axes_back : (nodes : List Node) → Once nodes → (opts : List (Option Interval)) (start : Space) (k : ℕ) (n : Node) (o : Option Interval) (space : Space) → slice_get nodes k ≡ Some n →
    space ≡ with_axes (drop (k + 1) nodes) opts start → axis_step n o space ≡ start → axis_step n o space ≡ space
axes_back nodes once opts start k (variable_node j) (Some i) space h e b = same-entry j i space
    (λ d. ap (λ (s : Space). get_or s j d) b
    ∙ sym (ap (λ (s : Space). get_or s j d) e ∙ untouched (drop (k + 1) nodes) opts start j d
    (λ m l. let p = once k (k + 1 + m) (variable_node j) h (later-at nodes (k + 1) m (variable_node j) l) in let f : k < k + 1 + m = omega arith in omega arith)))
axes_back nodes once opts start k (variable_node j) None space h e b = refl
axes_back nodes once opts start k (constant_node q) o space h e b = refl
axes_back nodes once opts start k (negate_node a) o space h e b = refl
axes_back nodes once opts start k (add_node a c) o space h e b = refl
axes_back nodes once opts start k (multiply_node a c) o space h e b = refl
axes_back nodes once opts start k (square_node a) o space h e b = refl

-- ---- what is told

pub told_empty : (nodes : List Node) (ns opts : List (Option Interval)) (space : Space) → opts ≡ ns → some_empty opts ≡ true → narrowed_space nodes ns space ≡ None
told_empty nodes ns opts space e h = ap (λ (b : Bool). cond b None (Some (with_axes nodes ns space))) (ap some_empty (sym e) ∙ h)

pub told_space : (nodes : List Node) (ns opts : List (Option Interval)) (space new : Space) → opts ≡ ns → some_empty opts ≡ false → new ≡ with_axes nodes opts space → narrowed_space nodes ns space ≡ Some new
told_space nodes ns opts space new e h f =
    ap (λ (b : Bool). cond b None (Some (with_axes nodes ns space))) (ap some_empty (sym e) ∙ h)
    ∙ ap (λ (s : Space). Some s) (sym (f ∙ ap (λ (xs : List (Option Interval)). with_axes nodes xs space) e))
