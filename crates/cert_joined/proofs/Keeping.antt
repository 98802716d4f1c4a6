-- What a joined tree keeps of each that it joins.
use Rattle.std.proofs.Common.{◌≡◌, List, [], ◌∷◌, Bool, true, false, not, ◌&&◌, cond, IsTrue, refl, sym, ap, ap₂, ◌∙◌, subst, map, true≢false}
use Rattle.std.specs.List.{AllByRecursion}
use Rattle.cover_model.specs.Rules.{Line}
use Rattle.cover_model.specs.Derivation.{Tree, leaf, then, fork}
use Rattle.cert_joined.specs.Joined.{none, one, ends, steps, forks, differ, leaves_at_once, going_on, closes, first_closed, Keeps, goes_on, same_end, same_step, same_fork, closed, dropped}
use Rattle.cert_joined.specs.Laws.{ClosedStaysClosed, KeepsEach}

-- ---- from those that go on to all

by-leaving : (P : Tree → Type 0) (h : (t : Tree) → IsTrue (leaves_at_once t) → P t) (t : Tree) (ts : List Tree) → (AllByRecursion P (going_on ts) → AllByRecursion P ts) →
    (b : Bool) → leaves_at_once t ≡ b → AllByRecursion P (cond b (going_on ts) (t ∷ going_on ts)) → AllByRecursion P (t ∷ ts)
by-leaving P h t ts more true e gs = (h t e, more gs)
by-leaving P h t ts more false e gs = (gs.0, more gs.1)

-- what holds of those that go on, and of each tree that leaves its state at once, holds of all
all-back : (P : Tree → Type 0) → ((t : Tree) → IsTrue (leaves_at_once t) → P t) → (ts : List Tree) → AllByRecursion P (going_on ts) → AllByRecursion P ts
all-back P h [] hs = tt
all-back P h (t ∷ ts) hs = by-leaving P h t ts (all-back P h ts) (leaves_at_once t) refl hs

-- by the equation that says which go on
pub all_of_going : (P : Tree → Type 0) → ((t : Tree) → IsTrue (leaves_at_once t) → P t) → (ts us : List Tree) → going_on ts ≡ us → AllByRecursion P us → AllByRecursion P ts
all_of_going P h ts us e hs = all-back P h ts (subst (λ (xs : List Tree). AllByRecursion P xs) (sym e) hs)

keeps-self : (t : Tree) → Keeps t t
keeps-self (leaf l) = same_end l
keeps-self (then l t) = same_step l t t (keeps-self t)
keeps-self (fork l t u) = same_fork l t u t u (keeps-self t) (keeps-self u)

-- ---- one of several trees that differ

abbrev Closed : Tree → List Tree → Type 0
Closed taken us = AllByRecursion (λ (u : Tree). IsTrue (closes u) → IsTrue (closes taken)) us

closed-all : (t : Tree) → IsTrue (closes t) → (us : List Tree) → Closed t us
closed-all t e [] = tt
closed-all t e (u ∷ us) = ((λ h. e), closed-all t e us)

by-closed : (t other : Tree) (us : List Tree) (b : Bool) → closes t ≡ b → Closed other us → Closed (cond b t other) (t ∷ us)
by-closed t other us true e hs = ((λ h. h), closed-all t e us)
by-closed t other us false e hs = ((λ h. absurd (true≢false (sym h ∙ e))), hs)

-- the tree that is taken leaves nothing where one of them leaves nothing
closes-taken : (first : Tree) (ts : List Tree) → Closed (first_closed first ts) ts
closes-taken first [] = tt
closes-taken first (t ∷ ts) = by-closed t (first_closed first ts) ts (closes t) refl (closes-taken first ts)

-- so each is kept, or leaves something
kept-or-dropped : (t u : Tree) → (IsTrue (closes t) → IsTrue (closes u)) → Keeps t u
kept-or-dropped t u h = by-value (closes t) refl
  where
    by-value : (b : Bool) → closes t ≡ b → Keeps t u
    by-value true e = closed t u (h e)
    by-value false e = dropped t u e

all-kept-or-dropped : (u : Tree) (ts : List Tree) → AllByRecursion (λ (t : Tree). IsTrue (closes t) → IsTrue (closes u)) ts → AllByRecursion (λ (t : Tree). Keeps t u) ts
all-kept-or-dropped u [] hs = tt
all-kept-or-dropped u (t ∷ ts) hs = (kept-or-dropped t u hs.0, all-kept-or-dropped u ts hs.1)

-- ---- trees below a line that all share

ends-kept : (l : Line) (ts : List Tree) → AllByRecursion (λ (t : Tree). t ≡ leaf l) ts → AllByRecursion (λ (t : Tree). Keeps t (leaf l)) ts
ends-kept l [] hs = tt
ends-kept l (t ∷ ts) hs = (subst (λ (x : Tree). Keeps x (leaf l)) (sym hs.0) (same_end l), ends-kept l ts hs.1)

steps-kept : (l : Line) (u : Tree) (us : List Tree) → AllByRecursion (λ (t : Tree). Keeps t u) us → AllByRecursion (λ (t : Tree). Keeps t (then l u)) (map (λ (t : Tree). then l t) us)
steps-kept l u [] hs = tt
steps-kept l u (t ∷ us) hs = (same_step l t u hs.0, steps-kept l u us hs.1)

forks-kept : (l : Line) (u v : Tree) (us : List (Tree × Tree)) → AllByRecursion (λ (t : Tree). Keeps t u) (map (λ (x : Tree × Tree). x.0) us) →
    AllByRecursion (λ (t : Tree). Keeps t v) (map (λ (x : Tree × Tree). x.1) us) →
    AllByRecursion (λ (t : Tree). Keeps t (fork l u v)) (map (λ (x : Tree × Tree). fork l x.0 x.1) us)
forks-kept l u v [] hs hs' = tt
forks-kept l u v (x ∷ us) hs hs' = (same_fork l x.0 x.1 u v hs.0 hs'.0, forks-kept l u v us hs.1 hs'.1)

pub keeps_each : KeepsEach
keeps_each _ _ (none t ts e) = all_of_going (λ (x : Tree). Keeps x t) (λ (x : Tree) h. goes_on x t h) (t ∷ ts) [] e tt
keeps_each _ _ (one t ts e) = all_of_going (λ (x : Tree). Keeps x t) (λ (x : Tree) h. goes_on x t h) ts (t ∷ []) e (keeps-self t, tt)
keeps_each _ _ (ends l more ts e same) = all_of_going (λ (x : Tree). Keeps x (leaf l)) (λ (x : Tree) h. goes_on x (leaf l) h) ts (leaf l ∷ more) e (same_end l, ends-kept l more same)
keeps_each _ _ (steps l us ts u e j) =
    all_of_going (λ (x : Tree). Keeps x (then l u)) (λ (x : Tree) h. goes_on x (then l u) h) ts (map (λ (t : Tree). then l t) us) e (steps-kept l u us (keeps_each us u j))
keeps_each _ _ (forks l us ts u v e j j') =
    all_of_going (λ (x : Tree). Keeps x (fork l u v)) (λ (x : Tree) h. goes_on x (fork l u v) h) ts (map (λ (x : Tree × Tree). fork l x.0 x.1) us) e
    (forks-kept l u v us (keeps_each (map (λ (x : Tree × Tree). x.0) us) u j) (keeps_each (map (λ (x : Tree × Tree). x.1) us) v j'))
keeps_each _ _ (differ t more ts e d) =
    all_of_going (λ (x : Tree). Keeps x (first_closed t (t ∷ more))) (λ (x : Tree) h. goes_on x (first_closed t (t ∷ more)) h) ts (t ∷ more) e
    (all-kept-or-dropped (first_closed t (t ∷ more)) (t ∷ more) (closes-taken t (t ∷ more)))

-- ---- a tree that leaves nothing

and-true : (a b c d : Bool) → (IsTrue a → IsTrue c) → (IsTrue b → IsTrue d) → IsTrue (a && b) → IsTrue (c && d)
and-true true true c d h h' x = ap₂ (λ p q. p && q) (h refl) (h' refl)
and-true true false c d h h' x = absurd (true≢false (sym x))
and-true false b c d h h' x = absurd (true≢false (sym x))

leaving-closes-not : (t : Tree) → IsTrue (leaves_at_once t) → IsTrue (closes t) → ⊥
leaving-closes-not (leaf l) h k = true≢false (sym k ∙ ap not h)
leaving-closes-not (then l t) h k = true≢false (sym h)
leaving-closes-not (fork l t u) h k = true≢false (sym h)

kept-closes : (t u : Tree) → Keeps t u → IsTrue (closes t) → IsTrue (closes u)
kept-closes _ _ (goes_on t u h) k = absurd (leaving-closes-not t h k)
kept-closes _ _ (same_end l) k = k
kept-closes _ _ (same_step l t u h) k = kept-closes t u h k
kept-closes _ _ (same_fork l t t' u u' h h') k = and-true (closes t) (closes t') (closes u) (closes u') (kept-closes t u h) (kept-closes t' u' h') k
kept-closes _ _ (closed t u h) k = h
kept-closes _ _ (dropped t u e) k = absurd (true≢false (sym k ∙ e))

all-closes : (u : Tree) (ts : List Tree) → AllByRecursion (λ (t : Tree). Keeps t u) ts → AllByRecursion (λ (t : Tree). IsTrue (closes t) → IsTrue (closes u)) ts
all-closes u [] hs = tt
all-closes u (t ∷ ts) hs = (kept-closes t u hs.0, all-closes u ts hs.1)

pub closed_stays_closed : ClosedStaysClosed
closed_stays_closed ts u j = all-closes u ts (keeps_each ts u j)
