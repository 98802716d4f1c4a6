-- A view that takes in a column of others.
use Rattle.std.proofs.Common.{◌≡◌, ℕ, zero, suc, ◌+◌, ◌<◌, List, [], ◌∷◌, ◌++◌, length, get_or, refl, ap, arith}
use Rattle.crossbeam_deque.specs.Handles.{view}
use Rattle.steal_pool.specs.declared.deque.Link.{Link}
use Rattle.steal_pool.specs.declared.hand.Hand.{Hand}
use Rattle.steal_pool.specs.declared.rule.DequeView.{DequeView}
use Rattle.steal_pool.specs.Law.{weigh_all, IsSub, AllSub, total, joined_view}
use Rattle.steal_pool.specs.Gathering.{absorbed, column}
use Rattle.steal_pool.proofs.Lists.{weigh_all-append}
use Rattle.steal_pool.proofs.Sums.{taken_weight}

-- each view of a column has one part, and has taken in no other
abbrev pub AreThieves : List DequeView → Type 0
AreThieves [] = Unit {0}
AreThieves (w ∷ ws) = (w.parts ≡ 1) × (w.joined ≡ []) × AreThieves ws

pub column_thieves : (e : Link) (k : ℕ) (hs : List Hand) → AreThieves (column e k hs)
column_thieves e k [] = tt
column_thieves e k (h ∷ hs) = let l : Link = get_or h.links.items k e in (l.one_part, l.alone, column_thieves e k hs)

pub length-column : (e : Link) (k : ℕ) (hs : List Hand) → length (column e k hs) ≡ length hs
length-column e k [] = refl
length-column e k (h ∷ hs) = let t = length-column e k hs in omega (arith, t)

pub get_or-column : (e : Link) (k : ℕ) (hs : List Hand) (j : ℕ) (d : Hand) (v : DequeView) → j < length hs → get_or (column e k hs) j v ≡ view (get_or (get_or hs j d).links.items k e).pass
get_or-column e k [] j d v h = absurd (omega arith)
get_or-column e k (x ∷ hs) zero d v h = refl
get_or-column e k (x ∷ hs) (suc j) d v h = get_or-column e k hs j d v (omega arith)

pub absorbed_parts : (v : DequeView) (ws : List DequeView) → AreThieves ws → (absorbed v ws).parts ≡ v.parts + length ws
absorbed_parts v [] t = omega arith
absorbed_parts v (w ∷ ws) t = let r = absorbed_parts (joined_view v w) ws t.2 in let p = t.0 in omega (arith, r, p)

pub absorbed_put : (v : DequeView) (ws : List DequeView) → (absorbed v ws).put ≡ v.put
absorbed_put v [] = refl
absorbed_put v (w ∷ ws) = absorbed_put (joined_view v w) ws

pub absorbed_taken : (v : DequeView) (ws : List DequeView) → (absorbed v ws).taken ≡ v.taken
absorbed_taken v [] = refl
absorbed_taken v (w ∷ ws) = absorbed_taken (joined_view v w) ws

pub absorbed_weight : (h : ℕ → ℕ) (v : DequeView) (ws : List DequeView) → AreThieves ws → weigh_all h (absorbed v ws).joined ≡ weigh_all h v.joined + total (taken_weight h) ws
absorbed_weight h v [] t = omega arith
absorbed_weight h v (w ∷ ws) t =
    let r = absorbed_weight h (joined_view v w) ws t.2 in
    let q = weigh_all-append h w.joined v.joined in
    let z : weigh_all h w.joined ≡ 0 = ap (weigh_all h) t.1 in
    omega (arith, r, q, z)

all_behind : (xs ys : List (List ℕ)) (zs : List ℕ) → AllSub (xs ++ ys) zs → AllSub ys zs
all_behind [] ys zs a = a
all_behind (x ∷ xs) ys zs a = all_behind xs ys zs a.1

absorbed_keeps : (v : DequeView) (ws : List DequeView) (zs : List ℕ) → AllSub (absorbed v ws).joined zs → AllSub v.joined zs
absorbed_keeps v [] zs a = a
absorbed_keeps v (w ∷ ws) zs a = all_behind w.joined v.joined zs (absorbed_keeps (joined_view v w) ws zs a).1

-- what each of them took is among what was taken in
pub absorbed_sub : (v : DequeView) (ws : List DequeView) (zs : List ℕ) (j : ℕ) (d : DequeView) → j < length ws → AllSub (absorbed v ws).joined zs → IsSub (get_or ws j d).taken zs
absorbed_sub v [] zs j d h a = absurd (omega arith)
absorbed_sub v (w ∷ ws) zs zero d h a = (absorbed_keeps (joined_view v w) ws zs a).0
absorbed_sub v (w ∷ ws) zs (suc j) d h a = absorbed_sub (joined_view v w) ws zs j d (omega arith) a
