-- Pairs in order, place by place.
use Rattle.std.proofs.Common.{◌≡◌, ℕ, ◌+◌, ◌<◌, ◌≤◌, List, [], ◌∷◌, length, drop, Bool, true, false, ◌&&◌, nat_lt, ap, sym, ◌∙◌, arith}
use Rattle.std.specs.Prelude.{slice_index_or}
use Rattle.std.proofs.lemmas.List.{drop_more, drop_all}
use Rattle.dyadic.specs.declared.dy.Dy.{Dy}
use Rattle.dyadic.specs.Views.{dyadic_of}
use Rattle.interval_model.specs.Interval.{misses_nought}
use Rattle.cover_model.specs.Combination.{only}
use Rattle.cover_model.specs.Rules.{are_ordered}
use Rattle.cover_model.specs.Views.{multipliers_of}

abbrev Pair : Type 0
Pair = ℕ × Dy

abbrev other_than_nought : Pair → Bool
other_than_nought x = misses_nought (only (dyadic_of x.1))

abbrev ordered : List Pair → Bool
ordered xs = are_ordered (multipliers_of xs)

first-nought : (x : Pair) (xs : List Pair) → other_than_nought x ≡ false → ordered (x ∷ xs) ≡ false
first-nought x [] e = e
first-nought x (y ∷ xs) e = ap (λ (t : Bool). (t && nat_lt x.0 y.0) && ordered (y ∷ xs)) e

pub nought_here : (xs : List Pair) (k : ℕ) (d : Pair) → k < length xs → other_than_nought (slice_index_or xs k d) ≡ false → ordered (drop k xs) ≡ false
nought_here xs k d h e = ap ordered (drop_more xs k d h) ∙ first-nought (slice_index_or xs k d) (drop (k + 1) xs) e

pub before_next : (xs : List Pair) (k : ℕ) (d d' : Pair) → k + 1 < length xs → other_than_nought (slice_index_or xs k d) ≡ true →
    ordered (drop k xs) ≡ (nat_lt (slice_index_or xs k d).0 (slice_index_or xs (k + 1) d').0 && ordered (drop (k + 1) xs))
before_next xs k d d' h e =
    let next : drop (k + 1) xs ≡ slice_index_or xs (k + 1) d' ∷ drop (k + 1 + 1) xs = drop_more xs (k + 1) d' h in
    ap ordered (drop_more xs k d (omega (arith, h)) ∙ ap (λ (ys : List Pair). slice_index_or xs k d ∷ ys) next)
    ∙ ap (λ (t : Bool). (t && nat_lt (slice_index_or xs k d).0 (slice_index_or xs (k + 1) d').0) && ordered (slice_index_or xs (k + 1) d' ∷ drop (k + 1 + 1) xs)) e
    ∙ ap (λ (ys : List Pair). nat_lt (slice_index_or xs k d).0 (slice_index_or xs (k + 1) d').0 && ordered ys) (sym next)

pub last_here : (xs : List Pair) (k : ℕ) (d : Pair) → k < length xs → length xs ≤ k + 1 → other_than_nought (slice_index_or xs k d) ≡ true → ordered (drop k xs) ≡ ordered (drop (k + 1) xs)
last_here xs k d h l e =
    ap ordered (drop_more xs k d h ∙ ap (λ (ys : List Pair). slice_index_or xs k d ∷ ys) (drop_all (k + 1) xs l)) ∙ e ∙ sym (ap ordered (drop_all (k + 1) xs l))

pub none_left : (xs : List Pair) (k : ℕ) → length xs ≤ k → ordered (drop k xs) ≡ true
none_left xs k h = ap ordered (drop_all k xs h)
