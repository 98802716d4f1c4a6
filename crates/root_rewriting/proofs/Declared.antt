-- What constants are, one after the other.
use Rattle.std.proofs.Common.{◌≡◌, ℕ, suc, ◌+◌, List, [], ◌∷◌, ◌++◌, length, Bool, true, false, cond, ◌||◌, refl, ap, ap₂, sym, ◌∙◌, arith, Option, Some, None}
use Rattle.std.specs.Prelude.{option_map}
use Rattle.std.specs.Str.{bytes_eq}
use Rattle.std.specs.Borrow.{Bor}
use Rattle.std.specs.HashMap.{HashMap, get_by}
use Rattle.dyadic.specs.Point.{Sort}
use Rattle.interval_model.specs.Interval.{Interval, is_nothing, nothing}
use Rattle.script_model.specs.Script as script
use Rattle.script_roots.specs.Ranges.{Ranges}
use Rattle.script_roots.specs.TreeBounds.{Axes, axes_from, constant_axis, ends_in, in_box, is_empty_from, or_no_end, ranges_from, TreeBounding}
use Rattle.root_rewriting.specs.Shapes.{KnowsAxes, shape_of}
use Rattle.root_rewriting.specs.Sweep.{SayNothing}
use Rattle.root_rewriting.specs.declared.range.shapes.Shape.{Shape}
use Rattle.root_rewriting.specs.declared.range.shapes.Shape.TheVariants.{Known, Axis, Other}

pub axes_more : (n : ℕ) (A : Axes) (cs : List script.Constant) (c : script.Constant) → axes_from n A (cs ++ (c ∷ [])) ≡ (c.name, constant_axis (n + length cs) c.sort) ∷ axes_from n A cs
axes_more n A [] c = ap (λ (k : ℕ). (c.name, constant_axis k c.sort) ∷ A) (omega arith)
axes_more n A (d ∷ cs) c =
    axes_more (suc n) ((d.name, constant_axis n d.sort) ∷ A) cs c ∙ ap (λ (k : ℕ). (c.name, constant_axis k c.sort) ∷ axes_from (suc n) ((d.name, constant_axis n d.sort) ∷ A) cs) (omega arith)

pub ranges_more : (range : ℕ → Sort → Interval) (n : ℕ) (R : Ranges) (cs : List script.Constant) (c : script.Constant) →
    ranges_from range n R (cs ++ (c ∷ [])) ≡ (c.name, range (n + length cs) c.sort) ∷ ranges_from range n R cs
ranges_more range n R [] c = ap (λ (k : ℕ). (c.name, range k c.sort) ∷ R) (omega arith)
ranges_more range n R (d ∷ cs) c =
    ranges_more range (suc n) ((d.name, range n d.sort) ∷ R) cs c ∙ ap (λ (k : ℕ). (c.name, range k c.sort) ∷ ranges_from range (suc n) ((d.name, range n d.sort) ∷ R) cs) (omega arith)

-- ranges that are the same for each constant
pub ranges_same : (f g : ℕ → Sort → Interval) → ((axis : ℕ) (s : Sort) → f axis s ≡ g axis s) → (n : ℕ) (R : Ranges) (cs : List script.Constant) → ranges_from f n R cs ≡ ranges_from g n R cs
ranges_same f g h n R [] = refl
ranges_same f g h n R (c ∷ cs) = ap (λ (i : Interval). ranges_from f (suc n) ((c.name, i) ∷ R) cs) (h n c.sort) ∙ ranges_same f g h (suc n) ((c.name, g n c.sort) ∷ R) cs

or-none : (b : Bool) → (b || false) ≡ b
or-none true = refl
or-none false = refl

or-assoc : (a b c : Bool) → (a || (b || c)) ≡ ((a || b) || c)
or-assoc true b c = refl
or-assoc false b c = refl

-- with one constant more
pub empty_more : (range : ℕ → Sort → Interval) (n : ℕ) (cs : List script.Constant) (c : script.Constant) →
    is_empty_from range n (cs ++ (c ∷ [])) ≡ (is_empty_from range n cs || is_nothing (range (n + length cs) c.sort))
empty_more range n [] c = or-none (is_nothing (range n c.sort)) ∙ ap (λ (k : ℕ). is_nothing (range k c.sort)) (omega arith)
empty_more range n (d ∷ cs) c =
    ap (λ (b : Bool). is_nothing (range n d.sort) || b)
    (empty_more range (suc n) cs c ∙ ap (λ (k : ℕ). is_empty_from range (suc n) cs || is_nothing (range k c.sort)) (omega arith)) ∙
    or-assoc (is_nothing (range n d.sort)) (is_empty_from range (suc n) cs) (is_nothing (range (n + suc (length cs)) c.sort))

empty-same : (f g : ℕ → Sort → Interval) → ((axis : ℕ) (s : Sort) → f axis s ≡ g axis s) → (n : ℕ) (cs : List script.Constant) → is_empty_from f n cs ≡ is_empty_from g n cs
empty-same f g h n [] = refl
empty-same f g h n (c ∷ cs) = ap₂ (λ (i : Interval) (b : Bool). is_nothing i || b) (h n c.sort) (empty-same f g h (suc n) cs)

-- the ranges of a box are the same by ranges that are the same for each constant
pub box_same : (f g : ℕ → Sort → Interval) → ((axis : ℕ) (s : Sort) → f axis s ≡ g axis s) → (cs : List script.Constant) →
    ranges_from (in_box (is_empty_from f 0 cs) f) 0 [] cs ≡ ranges_from (in_box (is_empty_from g 0 cs) g) 0 [] cs
box_same f g h cs =
    ranges_same (in_box (is_empty_from f 0 cs) f) (in_box (is_empty_from g 0 cs) g)
    (λ axis s. ap₂ (λ (b : Bool) (i : Interval). cond b nothing i) (empty-same f g h 0 cs) (h axis s)) 0 [] cs

nothing-in : (s : Option Shape) → ends_in (or_no_end (option_map shape_of s)) ≡ []
nothing-in None = refl
nothing-in (Some (Known i)) = refl
nothing-in (Some (Axis a)) = refl
nothing-in (Some Other) = refl

-- names give no end by themselves
pub say_nothing : {S : Type 0} (axes : HashMap (Bor (List ℕ)) Shape S) (A : Axes) → KnowsAxes axes A → SayNothing A
say_nothing axes A knows = λ x. ap (λ (b : Option TreeBounding). ends_in (or_no_end b)) (sym (knows x)) ∙ nothing-in (get_by (λ k. bytes_eq x k.now) axes)
