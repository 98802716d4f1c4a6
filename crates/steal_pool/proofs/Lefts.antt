-- One id more is taken of what is left, or none is left.
use Rattle.std.proofs.lemmas.Bool.Decides.{nat_tests}
use Rattle.std.proofs.Common.{rules, Option, MatchOption, IfSome, IfNone, IsNone, ◌≡◌, ℕ, suc, ◌+◌, ◌<◌, ◌≤◌, Some, None, All, List, [], ◌∷◌, ◌++◌, length, get_or, set, map, sum_by, sym, ap, ◌∙◌, subst, arith}
use mathlib.Core.Logic.{dite}
use native.Mathlib.Decide.{ℕ_discrete}
use Rattle.std.proofs.lemmas.List.{length-map, get_or-map}
use Rattle.std.proofs.lemmas.List.Sums.{sum_by-set, sum_by-cons}
use Rattle.steal_pool.specs.declared.hand.Hand.{Hand}
use Rattle.steal_pool.specs.declared.rule.DequeView.{DequeView}
use Rattle.steal_pool.specs.Law.{weigh, weigh_of, TakesLeft}
use Rattle.steal_pool.specs.Gathering.{AllEmptied, TakesLeftAt, TakesFirstLeft}
use Rattle.steal_pool.specs.PoolLaw.{one_at, times, own_view, IsSettled, put_in, taken_from, left_in}
use Rattle.steal_pool.proofs.Lists.{weigh-append}
use Rattle.steal_pool.proofs.Maps.{map_alike, map_one}
use Rattle.steal_pool.proofs.Rows.{get_or-any, some_of}

module _ {A : Type 0} where
  -- sums of two rows, place by place
  sums_le : (f g : A → ℕ) (xs : List A) → ((k : ℕ) (d : A) → k < length xs → f (get_or xs k d) ≤ g (get_or xs k d)) → sum_by f xs ≤ sum_by g xs
  sums_le f g [] each = omega arith
  sums_le f g (x ∷ xs) each =
      let one = sum_by-cons f x xs in let two = sum_by-cons g x xs in
      let a : f x ≤ g x = each 0 x (omega arith) in
      let t = sums_le f g xs (λ k d h. each (suc k) d (omega arith)) in omega (arith, one, two, a, t)

views_at : (hands : List Hand) (k : ℕ) (v : DequeView) (d : Hand) → k < length hands → get_or (map own_view hands) k v ≡ own_view (get_or hands k d)
views_at hands k v d h = get_or-map own_view hands k d v h

within_put : (x : ℕ) (hands : List Hand) → All IsSettled hands → sum_by (taken_from x) (map own_view hands) ≤ sum_by (put_in x) (map own_view hands)
within_put x hands s = sums_le (taken_from x) (put_in x) (map own_view hands) (λ k v h.
    (let low : k < length hands = (let e : length (map own_view hands) ≡ length hands = length-map hands own_view in omega (arith, h, e)) in
    let d = some_of hands (omega arith) in
    subst (λ (u : DequeView). taken_from x u ≤ put_in x u) (sym (views_at hands k v d low)) ((s k d low).bounded (one_at x))))

-- where each deque is found empty, nothing is left
pub none_left : (hands news : List Hand) → AllEmptied hands news → (x : ℕ) → left_in (map own_view hands) x ≡ 0
none_left hands news a x =
    let least = sums_le (put_in x) (taken_from x) (map own_view hands) (λ k v h.
    (let low : k < length hands = (let e : length (map own_view hands) ≡ length hands = length-map hands own_view in omega (arith, h, e)) in
    let d = some_of hands (omega arith) in
    subst (λ (u : DequeView). put_in x u ≤ taken_from x u) (sym (views_at hands k v d low)) (let e = (a.1 k d low).none.0 (one_at x) in omega (arith, e)))) in
    omega (arith, least)

pub same_left : (hands news : List Hand) → AllEmptied hands news → map own_view news ≡ map own_view hands
same_left hands news a = map_alike own_view hands news a.0 (λ j d h. (a.1 j d h).view)

-- the deque from which an id was taken is settled as before, and so are the others
pub settled_less : (x k : ℕ) (hands news : List Hand) → All IsSettled hands → TakesLeftAt x k hands news → All IsSettled news
settled_less x k hands news s t j d h = dite (ℕ_discrete j k)
    (λ is. subst (λ (i : ℕ). IsSettled (get_or news i d)) (sym is) (settled_here (t.here d)))
    (λ ne. (let low : j < length hands = (let e = t.same in omega (arith, h, e)) in let view = t.others j d low ne in let was = s j d low in record {
      whole = ap (λ (v : DequeView). v.parts) view ∙ was.whole;
      bounded = λ f. (let b = was.bounded f in let p = ap (λ (v : DequeView). weigh f v.put) view in let u = ap (λ (v : DequeView). weigh_of f v) view in omega (arith, b, p, u));
    }))
  where
    settled_here : TakesLeft (own_view (get_or hands k d)) (x ∷ []) (own_view (get_or news k d)) → IsSettled (get_or news k d)
    settled_here r = record {
      whole = ap (λ (v : DequeView). v.parts) r.0 ∙ (s k d t.inside).whole;
      bounded = λ f. (let e = r.1.1.0 f in omega (arith, e));
    }

-- one id is left less often, by one
pub one_less_left : (x k : ℕ) (hands news : List Hand) → All IsSettled hands → TakesLeftAt x k hands news → (y : ℕ) → left_in (map own_view hands) y ≡ times y (x ∷ []) + left_in (map own_view news) y
one_less_left x k hands news s t y =
    let d = some_of hands (let i = t.inside in omega (arith, i)) in
    let v : DequeView = own_view (get_or hands k d) in
    let w : DequeView = record v { taken = v.taken ++ x ∷ [] } in
    let views : List DequeView = map own_view hands in
    let at : get_or views k v ≡ v = views_at hands k v d t.inside in
    let now : map own_view news ≡ set views k w = map_one own_view hands news k w t.same t.inside
    (λ d'. (t.here d').0 ∙ ap (λ (u : Hand). record (own_view u) { taken = (own_view u).taken ++ x ∷ [] }) (get_or-any hands k d' d t.inside)) t.others in
    let inside : k < length views = (let e : length (map own_view hands) ≡ length hands = length-map hands own_view in let i = t.inside in omega (arith, e, i)) in
    let put = sum_by-set (put_in y) views k w v inside in
    let taken = sum_by-set (taken_from y) views k w v inside in
    let put_at : put_in y (get_or views k v) ≡ put_in y v = ap (put_in y) at in
    let taken_at : taken_from y (get_or views k v) ≡ taken_from y v = ap (taken_from y) at in
    let more : weigh (one_at y) (v.taken ++ x ∷ []) ≡ weigh (one_at y) v.taken + weigh (one_at y) (x ∷ []) = weigh-append (one_at y) v.taken (x ∷ []) in
    let fits = within_put y news (settled_less x k hands news s t) in
    let sum_put : sum_by (put_in y) (map own_view news) ≡ sum_by (put_in y) (set views k w) = ap (sum_by (put_in y)) now in
    let sum_taken : sum_by (taken_from y) (map own_view news) ≡ sum_by (taken_from y) (set views k w) = ap (sum_by (taken_from y)) now in
    omega (arith, put, taken, put_at, taken_at, more, fits, sum_put, sum_taken)

-- the first id that is left was taken, or none is left
abbrev pub Taken : Option ℕ → List Hand → List Hand → Type 0
Taken o hands news = MatchOption o (AllEmptied hands news) (λ x. TakesFirstLeft x hands news)

-- what is left less, where an id came, and what stays, where none came
abbrev pub OneLess : Option ℕ → List Hand → List Hand → Type 0
OneLess o hands news = IfSome o (λ x. (y : ℕ) → left_in (map own_view hands) y ≡ times y (x ∷ []) + left_in (map own_view news) y)

abbrev pub NoneLess : Option ℕ → List Hand → List Hand → Type 0
NoneLess o hands news = IfNone o ((y : ℕ) → left_in (map own_view news) y ≡ left_in (map own_view hands) y)

pub left_some : (o : Option ℕ) (hands news : List Hand) → All IsSettled hands → Taken o hands news → OneLess o hands news
left_some None hands news s t = tt
left_some (Some x) hands news s t = one_less_left x t.0 hands news s t.1

pub left_same : (o : Option ℕ) (hands news : List Hand) → Taken o hands news → NoneLess o hands news
left_same None hands news t = λ y. ap (λ (vs : List DequeView). left_in vs y) (same_left hands news t)
left_same (Some x) hands news t = tt

one_at_same : (x : ℕ) → 0 < times x (x ∷ [])
one_at_same x = grind (arith, nat_tests)

pub left_none : (o : Option ℕ) (hands news : List Hand) → All IsSettled hands → Taken o hands news → (IsNone o → (y : ℕ) → left_in (map own_view hands) y ≡ 0) × (((y : ℕ) → left_in (map own_view hands) y ≡ 0) → IsNone o)
left_none None hands news s t = (λ _. none_left hands news t, λ _. search rules)
left_none (Some x) hands news s t = (λ e. absurd (some_is_not e), λ all. (let a = all x in let b = one_less_left x t.0 hands news s t.1 x in let c = one_at_same x in absurd (omega (arith, a, b, c))))
  where
    some_is_not : IsNone (Some x) → ⊥
    some_is_not e = search rules
