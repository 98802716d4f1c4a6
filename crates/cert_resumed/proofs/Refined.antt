-- Lines whose leaving ones are replaced by trees refine them.
use Rattle.std.proofs.Common.{◌≡◌, List, [], ◌∷◌, ◌++◌, Bool, true, false, cond, refl, drop}
use Rattle.cover_model.specs.Rules.{Line}
use Rattle.cover_model.specs.Derivation.{Tree, leaf}
use Rattle.cert_resumed.specs.Resumed.{is_leaving, Refines, none, same, grown, lines_at, grafted}

at-line : (l : Line) (ls : List Line) (ts : List Tree) (t : Bool) → is_leaving l ≡ t → Refines (grafted ls (drop 1 ts)) ls → Refines (grafted ls ts) ls →
    Refines (cond t (lines_at l ts ++ grafted ls (drop 1 ts)) (l ∷ grafted ls ts)) (l ∷ ls)
at-line l ls [] true e f g = grown (leaf l) e f
at-line l ls (t ∷ ts) true e f g = grown t e f
at-line l ls ts false e f g = same g

pub graft_refines : (ls : List Line) (ts : List Tree) → Refines (grafted ls ts) ls
graft_refines [] ts = none
graft_refines (l ∷ ls) ts = at-line l ls ts (is_leaving l) refl (graft_refines ls (drop 1 ts)) (graft_refines ls ts)
