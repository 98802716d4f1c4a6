use Rattle.cert_join.proofs.Stepping.{copied_read, copied_there}
use Rattle.cert_join.proofs.trees.Trees.step_to_copy.Goals as goal

pub returns-then-part-cursors : goal.returns-then-part-cursors
returns-then-part-cursors c k same is d = absurd (copied_there k _ _ _ _ _ d c.if-part-cursors.true)

pub returns-then-is_there : goal.returns-then-is_there
returns-then-is_there c k same is d =
    c.copying.ensures k _ _ _ (copied_read k _ _ _ _ _ _ _ _ _ _ _ same c.if-part-cursors.false c.numbers_of-own.ensures d c.in_ok-is_there.ensures)

pub returns-else-is_there : goal.returns-else-is_there
returns-else-is_there c k same is d =
    c.copying.ensures k _ _ _ (copied_read k _ _ _ _ _ _ _ _ _ _ _ same c.if-part-cursors.false c.numbers_of-own.ensures d c.in_ok-is_there.ensures)
