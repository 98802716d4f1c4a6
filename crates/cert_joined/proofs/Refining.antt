-- What joins trees that agree refines each of them.
use Rattle.std.proofs.Common.{◌≡◌, List, [], ◌∷◌, ◌++◌, IsTrue, sym, subst, append_assoc, append-nil, map, true≢false}
use Rattle.std.specs.List.{AllByRecursion}
use Rattle.cover_model.specs.Rules.{Line}
use Rattle.cover_model.specs.Derivation.{Tree, leaf, then, fork, tree_lines}
use Rattle.cert_resumed.specs.Resumed.{Refines, none as no_lines, same, grown}
use Rattle.cert_joined.specs.Joined.{none, one, ends, steps, forks, differ, leaves_at_once}
use Rattle.cert_joined.specs.Laws.{JoinsRefines}
use Rattle.cert_joined.proofs.Keeping.{all_of_going}

refines-self : (ls : List Line) → Refines ls ls
refines-self [] = no_lines
refines-self (l ∷ ls) = same (refines-self ls)

refines-append : (a b c d : List Line) → Refines a b → Refines c d → Refines (a ++ c) (b ++ d)
refines-append _ _ c d no_lines r = r
refines-append _ _ c d (same {l = l} {fine = fine} {coarse = coarse} q) r = same (refines-append fine coarse c d q r)
refines-append _ _ c d (grown {l = l} {fine = fine} {coarse = coarse} t h q) r =
    subst (λ (xs : List Line). Refines xs (l ∷ (coarse ++ d))) (sym (append_assoc (tree_lines t) fine c)) (grown t h (refines-append fine coarse c d q r))

abbrev RefinesTree : Tree → Tree → Type 0
RefinesTree u t = Refines (tree_lines u) (tree_lines t)

-- any tree refines a line that leaves its state
refines-leaving : (u t : Tree) → IsTrue (leaves_at_once t) → RefinesTree u t
refines-leaving u (leaf l) h = subst (λ (xs : List Line). Refines xs (l ∷ [])) (append-nil (tree_lines u)) (grown u h no_lines)
refines-leaving u (then l t) h = absurd (true≢false (sym h))
refines-leaving u (fork l t v) h = absurd (true≢false (sym h))

refine-ends : (l : Line) (ts : List Tree) → AllByRecursion (λ (t : Tree). t ≡ leaf l) ts → AllByRecursion (λ (t : Tree). RefinesTree (leaf l) t) ts
refine-ends l [] hs = tt
refine-ends l (t ∷ ts) hs = (subst (λ (x : Tree). RefinesTree (leaf l) x) (sym hs.0) (refines-self (l ∷ [])), refine-ends l ts hs.1)

refine-steps : (l : Line) (u : Tree) (us : List Tree) → AllByRecursion (λ (t : Tree). RefinesTree u t) us → AllByRecursion (λ (t : Tree). RefinesTree (then l u) t) (map (λ (t : Tree). then l t) us)
refine-steps l u [] hs = tt
refine-steps l u (t ∷ us) hs = (same hs.0, refine-steps l u us hs.1)

refine-forks : (l : Line) (u v : Tree) (us : List (Tree × Tree)) → AllByRecursion (λ (t : Tree). RefinesTree u t) (map (λ (x : Tree × Tree). x.0) us) →
    AllByRecursion (λ (t : Tree). RefinesTree v t) (map (λ (x : Tree × Tree). x.1) us) →
    AllByRecursion (λ (t : Tree). RefinesTree (fork l u v) t) (map (λ (x : Tree × Tree). fork l x.0 x.1) us)
refine-forks l u v [] hs hs' = tt
refine-forks l u v (x ∷ us) hs hs' =
    (same (refines-append (tree_lines u) (tree_lines x.0) (tree_lines v) (tree_lines x.1) hs.0 hs'.0), refine-forks l u v us hs.1 hs'.1)

pub joins_refines : JoinsRefines
joins_refines _ _ (none t ts e) a = all_of_going (λ (x : Tree). RefinesTree t x) (λ (x : Tree) h. refines-leaving t x h) (t ∷ ts) [] e tt
joins_refines _ _ (one t ts e) a = all_of_going (λ (x : Tree). RefinesTree t x) (λ (x : Tree) h. refines-leaving t x h) ts (t ∷ []) e (refines-self (tree_lines t), tt)
joins_refines _ _ (ends l more ts e alike) a =
    all_of_going (λ (x : Tree). RefinesTree (leaf l) x) (λ (x : Tree) h. refines-leaving (leaf l) x h) ts (leaf l ∷ more) e (refines-self (l ∷ []), refine-ends l more alike)
joins_refines _ _ (steps l us ts u e j) a =
    all_of_going (λ (x : Tree). RefinesTree (then l u) x) (λ (x : Tree) h. refines-leaving (then l u) x h) ts (map (λ (t : Tree). then l t) us) e (refine-steps l u us (joins_refines us u j a))
joins_refines _ _ (forks l us ts u v e j j') a =
    all_of_going (λ (x : Tree). RefinesTree (fork l u v) x) (λ (x : Tree) h. refines-leaving (fork l u v) x h) ts (map (λ (x : Tree × Tree). fork l x.0 x.1) us) e
    (refine-forks l u v us (joins_refines (map (λ (x : Tree × Tree). x.0) us) u j a.0) (joins_refines (map (λ (x : Tree × Tree). x.1) us) v j' a.1))
joins_refines _ _ (differ t more ts e d) a = absurd a
