-- What a combination leaves lies within the space.
use Rattle.std.proofs.Common.{◌≡◌, ℕ, List, [], ◌∷◌, Bool, true, false, cond, Option, Some, None, IsTrue, refl, subst}
use Rattle.interval_model.specs.Interval.{Interval, nothing, between, interval_sum, met, is_nothing, within}
use Rattle.interval_model.specs.Space.{Space, axis_interval, space_within}
use Rattle.cover_model.specs.Narrowed.{set_axis}
use Rattle.cover_model.specs.Combination.{Part, Expansion, expansion, range_of, part_range, allowed_range, tightened, with_axis, with_intervals}
use Rattle.cover_model.specs.Laws.{CombiningLiesWithin}
use Rattle.cover_model.proofs.Within.{space_reflexive, met_within, set_within}

some-same : (a b : Space) → Some a ≡ Some b → a ≡ b
some-same a b e = cc

left-some : (t : Bool) (o : Option Space) (narrow : Space) → cond t None o ≡ Some narrow → o ≡ Some narrow
left-some true o narrow e = cc
left-some false o narrow e = e

-- each interval lies within its axis's
abbrev EachWithin : Space → List (ℕ × Interval) → Type 0
EachWithin space [] = Unit {0}
EachWithin space ((axis, i) ∷ is) = IsTrue (within i (axis_interval space axis)) × EachWithin space is

intervals-within : (space : Space) (is : List (ℕ × Interval)) → EachWithin space is → (narrow : Space) → with_intervals is space ≡ Some narrow → IsTrue (space_within narrow space)
intervals-within space [] h narrow e = subst (λ (x : Space). IsTrue (space_within x space)) (some-same space narrow e) (space_reflexive space)
intervals-within space ((axis, i) ∷ is) h narrow e = at (intervals-within space is h.1) i h.0 (with_intervals is space) refl e
  where
    at : ((x : Space) → with_intervals is space ≡ Some x → IsTrue (space_within x space)) → (j : Interval) → IsTrue (within j (axis_interval space axis)) → (o : Option Space) → with_intervals is space ≡ o → with_axis axis j o ≡ Some narrow → IsTrue (space_within narrow space)
    at f nothing w o d k = cc
    at f (between l u) w None d k = cc
    at f (between l u) w (Some x) d k = subst (λ (y : Space). IsTrue (space_within y space)) (some-same (set_axis axis (between l u) x) narrow k) (set_within axis (between l u) x space (f x d) w)

each-within : (space centre : Space) (allowed before : Interval) (ps : List Part) → EachWithin space (tightened space centre allowed before ps)
each-within space centre allowed before [] = tt
each-within space centre allowed before (x ∷ ps) = (met_within (axis_interval space x.axis) _, each-within space centre allowed (interval_sum before (part_range space centre x)) ps)

pub combining_lies_within : CombiningLiesWithin
combining_lies_within p ranges space centre ms narrow e =
    let x : Expansion = expansion p space centre ms in let allowed : Interval = allowed_range ranges ms in let ts : List (ℕ × Interval) = tightened space centre allowed x.rest x.parts in
    intervals-within space ts (each-within space centre allowed x.rest x.parts) narrow (left-some (is_nothing (met (range_of space centre x) allowed)) (with_intervals ts space) narrow e)
