use Rattle.std.proofs.Common.{◌-◌, IsTrue, length}
use Rattle.poly_graph.specs.Term.{in_order}
use Rattle.ival.specs.SpaceViews.{space_of}
use Rattle.plain_eval.specs.Renewed.{AreKept}
use Rattle.plain_eval.proofs.Upwards.{Rising}
use Rattle.plain_eval.proofs.following.follow.Given as goal

-- the nodes up to this place are settled, and all others that are not marked
abbrev pub invariant-loop-n : goal.invariant-loop-n
invariant-loop-n l = record {
  climb : (ordered : IsTrue (in_order 0 l.graph)) → Rising l.graph ordered (space_of l.space) l.place l.rows;
  kept : AreKept l.fn.rows l.rows;
}

abbrev pub decreases-loop-n : goal.decreases-loop-n
decreases-loop-n l = length l.graph - l.place
