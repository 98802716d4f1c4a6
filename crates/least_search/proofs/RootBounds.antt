-- The goal over the declared box is not below its lower end there.
use Rattle.std.proofs.Common.{◌≡◌, ℕ, true, false, Option, sym, subst}
use Rattle.dyadic.specs.Rounding.{Dyadic}
use Rattle.poly_graph.specs.Problem.{Problem}
use Rattle.cover_model.specs.State.{atom_enclosure, root_state}
use Rattle.cert_model.specs.Due.{is_crossed_box}
use Rattle.cert_model.specs.Least.{is_over}
use Rattle.least_search.specs.Aims.{IsRootBound}
use Rattle.least_search.proofs.Near.{within_low}

pub root_is_over : (p : Problem) (g : ℕ) (low : Option Dyadic) → IsRootBound p g low → is_crossed_box p ≡ false → is_over p g low (root_state p).space ≡ true
root_is_over p g low h clear = subst (λ (l : Option Dyadic). is_over p g l (root_state p).space ≡ true) (sym (h clear)) (within_low (atom_enclosure p (root_state p).space g))
