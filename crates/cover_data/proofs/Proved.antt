-- The laws.
use Rattle.std.proofs.Common.{◌≡◌, ℕ, List, [], ◌∷◌, Option, Some, subst}
use Rattle.std.specs.Prelude.{IfSome, slice_get}
use Rattle.poly_graph.specs.Problem.{Problem}
use Rattle.cover_model.specs.State.{State, Loosenings}
use Rattle.cover_model.specs.Rules.{Line, Left, two, stuck, rule}
use Rattle.cover_model.specs.Derivation.{leaf, at_closed, at_left, at_fork, KeepsIf, LiesWithinIf}
use Rattle.cover_model.proofs.Proved.{rules_keep, rules_lie_within}
use Rattle.cover_data.specs.declared.margins.Margins.{Margins}
use Rattle.cover_data.specs.Margins.{loosenings_of}
use Rattle.cover_data.specs.Models.{KeptModel}
use Rattle.cover_data.specs.Runs.{AreKept, children, CanBranch, IsEnding, IsLawfulRun}
use Rattle.cover_data.specs.Laws.{StepsBeforeTree, ClosedRunIsTree, StuckRunIsTree, BranchRunIsTree, ClosedRunIsLemma, BranchKeepsPoints, ChildrenLieWithin}
use Rattle.cover_data.proofs.Runs.{covers_through, before_tree, closing_leaves, stuck_stays, branch_leaves}
use Rattle.cover_data.proofs.Children.{children_fit, can_part_of, can_end}

pub steps_before : StepsBeforeTree
steps_before p s lemmas S T steps t rest h w = before_tree p s lemmas S T steps t rest h w

-- the end of a lawful run
ends : (p : Problem) (m : Margins) (k : KeptModel) → IsLawfulRun p m k → (lemmas : List State) → AreKept lemmas k.quoted → (l : Line) → k.end ≡ Some l → IsEnding (rule p (loosenings_of m) lemmas k.reached l)
ends p m k w lemmas h l e = subst (λ (o : Option Line). IfSome o (λ (x : Line). IsEnding (rule p (loosenings_of m) lemmas k.reached x))) e (w.end lemmas h)

pub closed_is_tree : ClosedRunIsTree
closed_is_tree p m k w lemmas h l e c =
    let s = loosenings_of m in
    before_tree p s lemmas k.first k.reached k.steps (leaf l) [] (w.steps lemmas h) (at_closed (closing_leaves p s lemmas k.reached l c (ends p m k w lemmas h l e)))

pub stuck_is_tree : StuckRunIsTree
stuck_is_tree p m k w lemmas h j e =
    let s = loosenings_of m in
    before_tree p s lemmas k.first k.reached k.steps (leaf (stuck j)) (k.reached ∷ []) (w.steps lemmas h) (at_left (stuck_stays p s lemmas k.reached j (ends p m k w lemmas h (stuck j) e)))

pub branch_is_tree : BranchRunIsTree
branch_is_tree p m k w lemmas h l e a b c t u rest rest' x y =
    let s = loosenings_of m in
    before_tree p s lemmas k.first k.reached k.steps _ _ (w.steps lemmas h) (at_fork (branch_leaves p s lemmas k.reached l a b c (ends p m k w lemmas h l e)) x y)

pub closed_is_lemma : ClosedRunIsLemma
closed_is_lemma p m k r c point i f = r.sound.closed c point (r.sound.points point i f) f

-- where a branch can stand, its rule leaves its two states
pub parts : (p : Problem) (s : Loosenings) (lemmas : List State) (S : State) (l : Line) → CanBranch p s l S → (a b : State) → children l S ≡ Some (a, b) → rule p s lemmas S l ≡ Some (two a b)
parts p s lemmas S l h a b e = branch_leaves p s lemmas S l a b e (can_end p s lemmas S l h (a, b) e)

can-branch : (p : Problem) (s : Loosenings) (k : KeptModel) → IfSome k.end (λ (x : Line). CanBranch p s x k.reached) → (l : Line) → k.end ≡ Some l → CanBranch p s l k.reached
can-branch p s k h l e = subst (λ (o : Option Line). IfSome o (λ (x : Line). CanBranch p s x k.reached)) e h

nothing-there : (n : ℕ) (L : State) → slice_get [] n ≡ Some L → ⊥
nothing-there n L e = cc

pub branch_keeps : BranchKeepsPoints
branch_keeps p g m k r l e a b c point i f =
    let s = loosenings_of m in
    subst (λ (o : Option Left). KeepsIf p s o k.reached point) (parts p s [] k.reached l (can-branch p s k r.sound.parts l e) a b c)
    (rules_keep p g s [] (λ n L d. absurd (nothing-there n L d)) k.reached l point (r.sound.points point i f) f)

pub children_within : ChildrenLieWithin
children_within p g m k r l e a b c =
    let s = loosenings_of m in let can = can-branch p s k r.sound.parts l e in
    let w = subst (λ (o : Option Left). LiesWithinIf k.reached o) (parts p s [] k.reached l can a b c) (rules_lie_within p g s [] k.reached l) in
    let f = children_fit p k.reached r.sound.reached l (can_part_of p s k.reached l can) a b c in
    ((covers_through k.first k.reached a r.sound.within w.0, f.0), (covers_through k.first k.reached b r.sound.within w.1, f.1))
