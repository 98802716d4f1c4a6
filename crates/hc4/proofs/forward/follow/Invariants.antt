use Rattle.ival.specs.RowViews.{rows_of, marks_of}
use Rattle.ival.specs.SpaceViews.{space_of}
use Rattle.hc4.proofs.Reaches.{Renewed}
use Rattle.hc4.proofs.forward.follow.Given as goal

abbrev pub invariant-loop-place : goal.invariant-loop-place
invariant-loop-place l = Renewed l.graph (space_of l.space) (rows_of l.initial.rows) l.place (rows_of l.rows) (marks_of l.rows)
