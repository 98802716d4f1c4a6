-- The law of one deque: each id comes out as often as it went in, and what one hand took is a subsequence of what was put.
use Rattle.std.specs.Prelude.{◌≡◌, ◌⊎◌, ℕ, ◌+◌, ◌-◌, true, false, List, [], ◌∷◌, ◌++◌}
use mathlib.Core.Option.{some}
use lib.ListN.{get_elem?}
use Rattle.steal_pool.specs.declared.rule.DequeView.{DequeView}

-- the weights of the ids, added up
abbrev pub weigh : (ℕ → ℕ) → List ℕ → ℕ
weigh h [] = 0
weigh h (x ∷ xs) = h x + weigh h xs

abbrev pub weigh_all : (ℕ → ℕ) → List (List ℕ) → ℕ
weigh_all h [] = 0
weigh_all h (x ∷ xs) = weigh h x + weigh_all h xs

abbrev pub IsSub : List ℕ → List ℕ → Type 0
IsSub [] ys = Unit {0}
IsSub (x ∷ xs) [] = ⊥
IsSub (x ∷ xs) (y ∷ ys) = ((x ≡ y) × IsSub xs ys) ⊎ IsSub (x ∷ xs) ys

abbrev pub AllSub : List (List ℕ) → List ℕ → Type 0
AllSub [] ys = Unit {0}
AllSub (x ∷ xs) ys = IsSub x ys × AllSub xs ys

abbrev pub total : (DequeView → ℕ) → List DequeView → ℕ
total f [] = 0
total f (v ∷ vs) = f v + total f vs

abbrev pub parts_of : DequeView → ℕ
parts_of v = v.parts

abbrev pub weigh_of : (ℕ → ℕ) → DequeView → ℕ
weigh_of h v = weigh h v.taken + weigh_all h v.joined

-- 65 passes at most share a deque
abbrev pub owner_view : DequeView
owner_view = record { parts = 65; owns = true; put = []; taken = []; joined = [] }

abbrev pub guest_view : DequeView
guest_view = record { parts = 0; owns = false; put = []; taken = []; joined = [] }

abbrev pub thief_view : DequeView
thief_view = record { parts = 1; owns = false; put = []; taken = []; joined = [] }

abbrev pub left_view : DequeView → DequeView
left_view v = record v { parts = v.parts - 1 }

abbrev pub joined_view : DequeView → DequeView → DequeView
joined_view v w = record v { parts = v.parts + w.parts; joined = w.taken ∷ w.joined ++ v.joined }

-- what was put is what was taken, by this hand and the others, and what is left. Each took a subsequence
abbrev pub DequeLaw : List ℕ → List ℕ → List (List ℕ) → List ℕ → Type 0
DequeLaw put taken joined items =
    ((h : ℕ → ℕ) → weigh h put ≡ (weigh h taken + weigh_all h joined) + weigh h items) × IsSub taken put × AllSub joined put

pub record Knows (removed items : List ℕ) (owner port : ℕ) (v : DequeView) : Type 0 where
  pub owns : v.owns ≡ true → (port ≡ owner) × (v.put ≡ removed ++ items)
  pub taken : IsSub v.taken removed
  pub joined : AllSub v.joined removed
  pub idle : v.parts ≡ 0 → (v.taken ≡ []) × (v.joined ≡ [])

pub record IsAccounted (items : List ℕ) (views : List DequeView) : Type 0 where
  pub removed : List ℕ
  pub owner : ℕ
  pub whole : total parts_of views ≡ 65
  pub balanced : (h : ℕ → ℕ) → total (weigh_of h) views ≡ weigh h removed
  pub each : (port : ℕ) (v : DequeView) → get_elem? views port ≡ some v → Knows removed items owner port v

-- the owner, which knows the whole, finds no id left
abbrev pub NoneLeft : DequeView → Type 0
NoneLeft v = DequeLaw v.put v.taken v.joined []

-- the owner, which knows the whole, takes ids, and the law holds of what is left then
abbrev pub TakesLeft : DequeView → List ℕ → DequeView → Type 0
TakesLeft v xs w = (w ≡ record v { taken = v.taken ++ xs }) × ((items : List ℕ) × DequeLaw w.put w.taken w.joined items)
