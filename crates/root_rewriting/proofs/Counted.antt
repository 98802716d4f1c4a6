-- Maps from the names of the first constants, with one constant more.
use Rattle.std.proofs.Common.{◌≡◌, ℕ, ◌+◌, ◌<◌, List, [], ◌∷◌, ◌++◌, map, take, length, Bool, ◌||◌, Some, ap, ap₂, sym, ◌∙◌, subst, arith, bytes_eq, slice_index_or}
use Rattle.std.specs.Borrow.{Bor}
use Rattle.std.specs.HashMap.{HashMap, UpdatesBy}
use Rattle.std.proofs.lemmas.List.{length-map, length-take-le, map-append, take_more}
use Rattle.dyadic.specs.Point as point
use Rattle.interval_model.specs.Interval.{Interval, is_nothing}
use Rattle.ival.specs.Views.{interval_of}
use Rattle.ival.specs.declared.ends.Ival.{Ival}
use Rattle.script_model.specs.Script as script
use Rattle.script_roots.specs.TreeBounds.{axes_from, constant_axis, is_empty_from, ranges_from}
use Rattle.smt_script.specs.Views.{sort_of}
use Rattle.root_rewriting.specs.Constants.{constant_of}
use Rattle.root_rewriting.specs.Enclosures.{KnowsRanges}
use Rattle.root_rewriting.specs.Shapes.{KnowsAxes, shape_of}
use Rattle.root_rewriting.specs.declared.range.constants.Constant.{Constant}
use Rattle.root_rewriting.specs.declared.range.shapes.Shape.{Shape}
use Rattle.root_rewriting.proofs.Declared.{axes_more, empty_more, ranges_more}
use Rattle.root_rewriting.proofs.RangeNames.{knows_more}

module _ (cs : List Constant) (k : ℕ) (c : Constant) (within : k < length cs) (is : c ≡ slice_index_or cs k c) where
  abbrev First : List script.Constant
  First = map constant_of (take k cs)

  one-more : map constant_of (take (k + 1) cs) ≡ First ++ (constant_of c ∷ [])
  one-more = ap (map constant_of) (take_more cs k c within ∙ ap (λ (x : Constant). take k cs ++ (x ∷ [])) (sym is)) ∙ map-append constant_of (take k cs) (c ∷ [])

  as-many : 0 + length First ≡ k
  as-many = let n = length-map (take k cs) constant_of in let m = length-take-le k cs (omega (arith, within)) in omega (arith, n, m)

  -- the shape of the next constant
  pub axis_more : {S : Type 0} (old new : HashMap (Bor (List ℕ)) Shape S) (x : List ℕ) (s : Shape) → KnowsAxes old (axes_from 0 [] First) → x ≡ c.name.now →
      UpdatesBy (λ (a b : Bor (List ℕ)). bytes_eq a.now b.now) (λ key. bytes_eq x key.now) old new (Some s) → shape_of s ≡ constant_axis k (sort_of c.sort) →
      KnowsAxes new (axes_from 0 [] (map constant_of (take (k + 1) cs)))
  axis_more old new x s knows e updates shape =
      subst (KnowsAxes new) (sym (ap (axes_from 0 []) one-more ∙ axes_more 0 [] First (constant_of c) ∙
      ap (λ (n : ℕ). (c.name.now, constant_axis n (sort_of c.sort)) ∷ axes_from 0 [] First) as-many ∙
      ap₂ (λ (y : List ℕ) b. (y, b) ∷ axes_from 0 [] First) (sym e) (sym shape)))
      (knows_more shape_of old new (axes_from 0 [] First) x s knows updates)

  -- the range of the next constant
  pub range_more : (range : ℕ → point.Sort → Interval) → {S : Type 0} (old new : HashMap (Bor (List ℕ)) Ival S) (x : List ℕ) (i : Ival) → KnowsRanges old (ranges_from range 0 [] First) → x ≡ c.name.now →
      UpdatesBy (λ (a b : Bor (List ℕ)). bytes_eq a.now b.now) (λ key. bytes_eq x key.now) old new (Some i) → interval_of i ≡ range k (sort_of c.sort) →
      KnowsRanges new (ranges_from range 0 [] (map constant_of (take (k + 1) cs)))
  range_more range old new x i knows e updates same =
      subst (KnowsRanges new) (sym (ap (ranges_from range 0 []) one-more ∙ ranges_more range 0 [] First (constant_of c) ∙
      ap (λ (n : ℕ). (c.name.now, range n (sort_of c.sort)) ∷ ranges_from range 0 [] First) as-many ∙
      ap₂ (λ (y : List ℕ) b. (y, b) ∷ ranges_from range 0 [] First) (sym e) (sym same)))
      (knows_more interval_of old new (ranges_from range 0 [] First) x i knows updates)

  -- whether a range is empty, with that of the next constant
  pub emptiness_more : (range : ℕ → point.Sort → Interval) (old here : Bool) → old ≡ is_empty_from range 0 First → here ≡ is_nothing (range k (sort_of c.sort)) →
      (old || here) ≡ is_empty_from range 0 (map constant_of (take (k + 1) cs))
  emptiness_more range old here e same =
      ap₂ (λ (a b : Bool). a || b) e (same ∙ ap (λ (n : ℕ). is_nothing (range n (sort_of c.sort))) (sym as-many)) ∙
      sym (ap (is_empty_from range 0) one-more ∙ empty_more range 0 First (constant_of c))
