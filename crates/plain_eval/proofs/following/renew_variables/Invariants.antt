use Rattle.std.proofs.Common.{IsTrue}
use Rattle.poly_graph.specs.Term.{in_order}
use Rattle.ival.specs.SpaceViews.{space_of}
use Rattle.plain_eval.specs.Renewed.{AreKept}
use Rattle.plain_eval.proofs.Upwards.{Starting}
use Rattle.plain_eval.proofs.following.renew_variables.Given as goal

-- so many variables are enclosed again
abbrev pub invariant-loop-v : goal.invariant-loop-v
invariant-loop-v l = record {
  climb : (ordered : IsTrue (in_order 0 l.graph)) → Starting l.graph ordered (space_of l.space) l.v-items l.v-index l.rows;
  kept : AreKept l.initial.rows l.rows;
}
