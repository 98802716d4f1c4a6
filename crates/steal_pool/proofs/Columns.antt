-- What all hands know of one deque, hand by hand.
use Rattle.std.proofs.Common.{◌≡◌, ℕ, ◌+◌, ◌<◌, List, [], ◌∷◌, ◌++◌, length, set, get_or, take, sym, ap, ◌∙◌, subst, refl, get_or-set_other, get_or-set_same, add-one}
use Rattle.std.proofs.Math.Seq.{take-suc}
use mathlib.Core.Logic.{dite}
use native.Mathlib.Decide.{ℕ_discrete}
use Rattle.crossbeam_deque.specs.Handles.{view}
use Rattle.steal_pool.specs.declared.deque.Link.{Link}
use Rattle.steal_pool.specs.declared.hand.Hand.{Hand}
use Rattle.steal_pool.specs.declared.rule.DequeView.{DequeView}
use Rattle.steal_pool.specs.Law.{joined_view}
use Rattle.steal_pool.specs.Gathering.{absorbed, column}
use Rattle.steal_pool.proofs.Rows.{get_or-any}

pub absorbed_snoc : (v : DequeView) (ws : List DequeView) (w : DequeView) → absorbed v (ws ++ w ∷ []) ≡ joined_view (absorbed v ws) w
absorbed_snoc v [] w = refl
absorbed_snoc v (x ∷ ws) w = absorbed_snoc (joined_view v x) ws w

column_snoc : (e : Link) (k : ℕ) (hs : List Hand) (h : Hand) → column e k (hs ++ h ∷ []) ≡ column e k hs ++ view (get_or h.links.items k e).pass ∷ []
column_snoc e k [] h = refl
column_snoc e k (x ∷ hs) h = ap (λ l. view (get_or x.links.items k e).pass ∷ l) (column_snoc e k hs h)

pub column_more : (e : Link) (k : ℕ) (hs : List Hand) (j : ℕ) (d : Hand) → j < length hs → column e k (take (j + 1) hs) ≡ column e k (take j hs) ++ view (get_or (get_or hs j d).links.items k e).pass ∷ []
column_more e k hs j d h = ap (λ (n : ℕ). column e k (take n hs)) (add-one j) ∙ (ap (column e k) (take-suc hs j d h) ∙ column_snoc e k (take j hs) (get_or hs j d))

-- a hand that keeps its deque is put back in its place
pub own_at : (now : List Hand) (j : ℕ) (h : Hand) (r : Hand) → j < length now → h.own ≡ (get_or now j r).own → (k : ℕ) (d : Hand) → k < length now → (get_or (set now j h) k d).own ≡ (get_or now k d).own
own_at now j h r inside same k d below = dite (ℕ_discrete k j)
    (λ is. subst (λ (i : ℕ). (get_or (set now j h) i d).own ≡ (get_or now i d).own) (sym is)
    (ap (λ (z : Hand). z.own) (get_or-set_same now j h d inside) ∙ (same ∙ ap (λ (z : Hand). z.own) (get_or-any now j r d inside))))
    (λ ne. ap (λ (z : Hand). z.own) (get_or-set_other now j k h d ne))

-- the same of whether it has left
pub kept_at : (now : List Hand) (j : ℕ) (h : Hand) (r : Hand) → j < length now → h.left ≡ (get_or now j r).left → (k : ℕ) (d : Hand) → k < length now → (get_or (set now j h) k d).left ≡ (get_or now k d).left
kept_at now j h r inside same k d below = dite (ℕ_discrete k j)
    (λ is. subst (λ (i : ℕ). (get_or (set now j h) i d).left ≡ (get_or now i d).left) (sym is)
    (ap (λ (z : Hand). z.left) (get_or-set_same now j h d inside) ∙ (same ∙ ap (λ (z : Hand). z.left) (get_or-any now j r d inside))))
    (λ ne. ap (λ (z : Hand). z.left) (get_or-set_other now j k h d ne))
