-- What a map's entries are after one more is given.
use Rattle.std.proofs.Common.{◌≡◌, List, [], ◌∷◌, map, cond, Option, Some, None, refl, ap, ◌∙◌}
use Rattle.std.specs.BTreeMap.{is_at, insert_entry}
use Rattle.std.specs.Cmp.Lexicographic.{slice_cmp, nat_list_cmp_total}
use Rattle.std.specs.List.{AllByRecursion}
use Rattle.std.specs.List.Sorted.{IsStrictlySortedBy}
use Rattle.std.specs.Map.{keys_of, lookup}
use Rattle.std.specs.Ordering.{nat_cmp, is_eq, match_ordering}
use Rattle.std.specs.declared.cmp.Ordering.{Ordering}
use Rattle.std.specs.declared.cmp.Ordering.TheVariants.{Less, Equal, Greater}
use Rattle.std.proofs.lemmas.Map.Keys.{sorted_head, sorted_tail}
use Rattle.interval_model.specs.Interval.{Interval}
use Rattle.square_model.specs.Polynomial.{Monomial, Polynomial, placed, given}
use Rattle.squares.specs.Views.{total}

module _ {K X : Type 0} (f : K → Monomial) (g : X → Interval) where
  abbrev pub term : K × X → Monomial × Interval
  term e = (f e.0, g e.1)

  abbrev pub by_axes : K → K → Ordering
  by_axes j k = slice_cmp nat_cmp (f j) (f k)

  -- a key before all others is none of them
  none-above : (k : K) (j : K) (es : List (K × X)) → by_axes k j ≡ Less → AllByRecursion (λ y. by_axes j y ≡ Less) (keys_of es) → lookup (is_at (by_axes k)) es ≡ None
  none-above k j [] l h = refl
  none-above k j (e ∷ es) l h = ap (λ (o : Ordering). cond (is_eq o) (Some e.1) (lookup (is_at (by_axes k)) es)) (nat_list_cmp_total.trans (f k) (f j) (f e.0) l h.0) ∙ none-above k j es l h.1

  pub given_inserted : (es : List (K × X)) → IsStrictlySortedBy by_axes (keys_of es) → (k : K) (v : X) (more : Interval) → g v ≡ total g (lookup (is_at (by_axes k)) es) more →
      map term (insert_entry by_axes es k v) ≡ given (f k) more (map term es)
  given_inserted [] s k v more h = ap (λ (i : Interval). (f k, i) ∷ []) h
  given_inserted (e ∷ es) s k v more h = by (by_axes k e.0) refl h (given_inserted es (sorted_tail by_axes e.0 (keys_of es) s) k v more)
    where
      by : (o : Ordering) → by_axes k e.0 ≡ o → g v ≡ total g (cond (is_eq o) (Some e.1) (lookup (is_at (by_axes k)) es)) more →
          (g v ≡ total g (lookup (is_at (by_axes k)) es) more → map term (insert_entry by_axes es k v) ≡ given (f k) more (map term es)) →
          map term (match_ordering o ((k, v) ∷ e ∷ es) ((e.0, v) ∷ es) (e ∷ insert_entry by_axes es k v)) ≡ placed o (f k) more (f e.0) (g e.1) (map term es) (given (f k) more (map term es))
      by Less l h rest = ap (λ (i : Interval). (f k, i) ∷ term e ∷ map term es) (h ∙ ap (λ (o : Option X). total g o more) (none-above k e.0 es l (sorted_head by_axes e.0 (keys_of es) s)))
      by Equal l h rest = ap (λ (i : Interval). (f e.0, i) ∷ map term es) h
      by Greater l h rest = ap (λ (p : Polynomial). term e ∷ p) (rest h)
