-- What holds of all trees at a place, and of those that go on there.
use Rattle.std.proofs.Common.{◌≡◌, List, [], ◌∷◌, Bool, true, false, cond, map}
use Rattle.std.specs.List.{AllByRecursion}
use Rattle.cover_model.specs.Derivation.{Tree, leaf, then, fork}
use Rattle.cert_joined.specs.Joined.{Joins, one, ends, steps, forks, differ, leaves_at_once, going_on, closes, first_closed}

going-cond : (P : Tree → Type 0) (b : Bool) (t : Tree) (rest : List Tree) → P t → AllByRecursion P rest → AllByRecursion P (cond b rest (t ∷ rest))
going-cond P true t rest h hs = hs
going-cond P false t rest h hs = (h, hs)

-- of all, so of those that go on
pub all_going : (P : Tree → Type 0) (ts : List Tree) → AllByRecursion P ts → AllByRecursion P (going_on ts)
all_going P [] hs = tt
all_going P (t ∷ ts) hs = going-cond P (leaves_at_once t) t (going_on ts) hs.0 (all_going P ts hs.1)

closed-cond : (P : Tree → Type 0) (b : Bool) (t u : Tree) → P t → P u → P (cond b t u)
closed-cond P true t u h h' = h
closed-cond P false t u h h' = h'

-- of one and all, so of the first that leaves nothing
pub of_first_closed : (P : Tree → Type 0) (first : Tree) (ts : List Tree) → P first → AllByRecursion P ts → P (first_closed first ts)
of_first_closed P first [] h hs = h
of_first_closed P first (t ∷ ts) h hs = closed-cond P (closes t) t (first_closed first ts) hs.0 (of_first_closed P first ts h hs.1)

pub not_more : (t : Tree) (ts : List Tree) → [] ≡ t ∷ ts → ⊥
not_more t ts e = cc

-- nothing joins no trees
pub joins_some : (u : Tree) → Joins [] u → ⊥
joins_some u (one t ts e) = not_more t [] e
joins_some u (ends l more ts e h) = not_more (leaf l) more e
joins_some u (steps l [] ts v e j) = joins_some v j
joins_some u (steps l (t ∷ us) ts v e j) = not_more (then l t) (map (λ (x : Tree). then l x) us) e
joins_some u (forks l [] ts v w e j j') = joins_some v j
joins_some u (forks l (x ∷ us) ts v w e j j') = not_more (fork l x.0 x.1) (map (λ (y : Tree × Tree). fork l y.0 y.1) us) e
joins_some u (differ t more ts e h) = not_more t more e
