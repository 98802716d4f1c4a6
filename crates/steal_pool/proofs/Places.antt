-- Hands that stand where they stood are still all hands of their pool.
use mathlib.Core.Logic.{dite}
use native.Mathlib.Decide.{ℕ_discrete}
use Rattle.std.proofs.Common.{◌≡◌, ℕ, ◌<◌, false, List, length, set, get_or, map, sym, ap, ◌∙◌, subst, arith, length-set, get_or-set_same, get_or-set_other}
use Rattle.steal_pool.specs.declared.hand.Hand.{Hand}
use Rattle.steal_pool.specs.Account.{Place, place_of, has_left}
use Rattle.steal_pool.specs.Pool.{own_of, IsPlaceIn, IsPool, SamePlaces, AllStay}
use Rattle.steal_pool.proofs.Maps.{map_alike}
use Rattle.steal_pool.proofs.Rows.{get_or-any}

pub still_pool : (hands news : List Hand) → IsPool hands → SamePlaces hands news → IsPool news
still_pool hands news p s k d h =
    let low : k < length hands = (let e = s.0 in omega (arith, h, e)) in
    let names : map own_of news ≡ map own_of hands = map_alike own_of hands news s.0 (λ j c below. ap (λ (q : Place). q.own) (s.1 j c below)) in
    subst (λ (ds : List _). IsPlaceIn ds (place_of (get_or news k d))) (sym names)
    (subst (λ (q : Place). IsPlaceIn (map own_of hands) q) (sym (s.1 k d low)) (p k d low))

-- one hand is written, which stands where it stood
pub places_set : (hands : List Hand) (k : ℕ) (r m : Hand) → place_of m ≡ place_of (get_or hands k r) → k < length hands → SamePlaces hands (set hands k m)
places_set hands k r m same inside = (
  length-set hands k m,
  λ j d h. dite (ℕ_discrete j k)
      (λ is. subst (λ (i : ℕ). place_of (get_or (set hands k m) i d) ≡ place_of (get_or hands i d)) (sym is)
      (ap place_of (get_or-set_same hands k m d inside) ∙ (same ∙ ap place_of (get_or-any hands k r d inside))))
      (λ ne. ap place_of (get_or-set_other hands k j m d ne)),
)

pub pool_set : (hands : List Hand) (k : ℕ) (r m : Hand) → place_of m ≡ place_of (get_or hands k r) → k < length hands → IsPool hands → IsPool (set hands k m)
pool_set hands k r m same inside p = still_pool hands (set hands k m) p (places_set hands k r m same inside)

pub stay_set : (hands : List Hand) (k : ℕ) (m : Hand) → has_left m ≡ false → k < length hands → AllStay hands → AllStay (set hands k m)
stay_set hands k m stays inside all j d h = dite (ℕ_discrete j k)
    (λ is. subst (λ (i : ℕ). has_left (get_or (set hands k m) i d) ≡ false) (sym is) (ap has_left (get_or-set_same hands k m d inside) ∙ stays))
    (λ ne. ap has_left (get_or-set_other hands k j m d ne) ∙ all j d (let e = length-set hands k m in omega (arith, h, e)))
