-- Ordered entries that are given to nothing.
use Rattle.std.proofs.Common.{◌≡◌, List, [], ◌∷◌, ◌++◌, map, refl, ap, sym, ◌∙◌, subst, append_assoc}
use Rattle.std.specs.Cmp.Lexicographic.{slice_cmp, nat_list_cmp_total}
use Rattle.std.specs.List.{AllByRecursion}
use Rattle.std.specs.List.Sorted.{IsStrictlySortedBy}
use Rattle.std.specs.Map.{keys_of}
use Rattle.std.specs.Ordering.{nat_cmp, ordering_reverse}
use Rattle.std.specs.declared.cmp.Ordering.{Ordering}
use Rattle.std.specs.declared.cmp.Ordering.TheVariants.{Less}
use Rattle.std.proofs.lemmas.Map.Keys.{sorted_head, sorted_tail}
use Rattle.interval_model.specs.Interval.{Interval, interval_negated}
use Rattle.square_model.specs.Polynomial.{Monomial, Polynomial, placed, given, polynomial_negated, polynomial_sum}
use Rattle.squares.proofs.Giving.{term, by_axes}

module _ {K X : Type 0} (f : K → Monomial) (g : X → Interval) where
  -- the keys come before this monomial
  abbrev Before : List (K × X) → Monomial → Type 0
  Before [] m = Unit {0}
  Before (e ∷ es) m = (slice_cmp nat_cmp (f e.0) m ≡ Less) × Before es m

  given-last : (es : List (K × X)) (m : Monomial) (i : Interval) → Before es m → given m i (map (term f g) es) ≡ map (term f g) es ++ (m, i) ∷ []
  given-last [] m i h = refl
  given-last (e ∷ es) m i h =
      ap (λ (o : Ordering). placed o m i (f e.0) (g e.1) (map (term f g) es) (given m i (map (term f g) es))) (nat_list_cmp_total.antisymm m (f e.0) ∙ ap ordering_reverse h.0)
      ∙ ap (λ (p : Polynomial). term f g e ∷ p) (given-last es m i h.1)

  head-before : (d : K × X) (done : List (K × X)) (e : K × X) (es : List (K × X)) → AllByRecursion (λ y. by_axes f g d.0 y ≡ Less) (keys_of (done ++ e ∷ es)) → slice_cmp nat_cmp (f d.0) (f e.0) ≡ Less
  head-before d [] e es h = h.0
  head-before d (c ∷ done) e es h = head-before d done e es h.1

  before : (done : List (K × X)) (e : K × X) (es : List (K × X)) → IsStrictlySortedBy (by_axes f g) (keys_of (done ++ e ∷ es)) → Before done (f e.0)
  before [] e es s = tt
  before (d ∷ done) e es s = (head-before d done e es (sorted_head (by_axes f g) d.0 (keys_of (done ++ e ∷ es)) s), before done e es (sorted_tail (by_axes f g) d.0 (keys_of (done ++ e ∷ es)) s))

  map-last : (done : List (K × X)) (e : K × X) → map (term f g) (done ++ e ∷ []) ≡ map (term f g) done ++ term f g e ∷ []
  map-last [] e = refl
  map-last (d ∷ done) e = ap (λ (p : Polynomial). term f g d ∷ p) (map-last done e)

  no-more : (done : List (K × X)) → done ++ [] ≡ done
  no-more [] = refl
  no-more (d ∷ done) = ap (λ (es : List (K × X)). d ∷ es) (no-more done)

  given-after : (done es : List (K × X)) → IsStrictlySortedBy (by_axes f g) (keys_of (done ++ es)) → polynomial_sum (map (term f g) done) (map (term f g) es) ≡ map (term f g) (done ++ es)
  given-after done [] s = ap (map (term f g)) (sym (no-more done))
  given-after done (e ∷ es) s =
      let joined : (done ++ e ∷ []) ++ es ≡ done ++ e ∷ es = append_assoc done (e ∷ []) es in
      ap (λ (p : Polynomial). polynomial_sum p (map (term f g) es)) (given-last done (f e.0) (g e.1) (before done e es s) ∙ sym (map-last done e))
      ∙ given-after (done ++ e ∷ []) es (subst (λ (xs : List (K × X)). IsStrictlySortedBy (by_axes f g) (keys_of xs)) (sym joined) s)
      ∙ ap (map (term f g)) joined

  -- are what there is
  pub given_to_nothing : (es : List (K × X)) → IsStrictlySortedBy (by_axes f g) (keys_of es) → polynomial_sum [] (map (term f g) es) ≡ map (term f g) es
  given_to_nothing es s = given-after [] es s

opposites : {K X : Type 0} (f : K → Monomial) (g : X → Interval) (es : List (K × X)) → polynomial_negated (map (term f g) es) ≡ map (term f (λ x. interval_negated (g x))) es
opposites f g [] = refl
opposites f g (e ∷ es) = ap (λ (p : Polynomial). (f e.0, interval_negated (g e.1)) ∷ p) (opposites f g es)

-- and so are their opposites
pub opposites_given_to_nothing : {K X : Type 0} (f : K → Monomial) (g : X → Interval) (es : List (K × X)) → IsStrictlySortedBy (by_axes f g) (keys_of es) →
    polynomial_sum [] (polynomial_negated (map (term f g) es)) ≡ polynomial_negated (map (term f g) es)
opposites_given_to_nothing f g es s = ap (polynomial_sum []) (opposites f g es) ∙ given_to_nothing f (λ x. interval_negated (g x)) es s ∙ sym (opposites f g es)
