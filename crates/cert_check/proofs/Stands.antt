-- The box where the next line of the main tree stands.
use Rattle.std.proofs.Common.{◌≡◌, refl, Option, Some, None}
use Rattle.interval_model.specs.Space.{Space}
use Rattle.cert_model.specs.Due.{Due, root_due, tree_due}
use Rattle.cert_model.specs.Accepted.{reached}
use Rattle.cert_model.specs.Session.{inside_due}
use Rattle.cert_check.specs.Courses.{Stand, at_state, stand_due, stand_in, box_due, box_in}
use Rattle.cert_check.specs.Work.{WorkCourse, alone, together}

abbrev pub boxed : Stand → Option Space
boxed (at_state S) = Some S.space
boxed _ = None

box-stands : (d : Due) → box_due d ≡ boxed (stand_due d)
box-stands (root_due s lemmas) = refl
box-stands (tree_due s lemmas S pending done) = refl
box-stands _ = refl

pub boxes_stand : (c : Option WorkCourse) → box_in c ≡ boxed (stand_in c)
boxes_stand (Some (reached (alone d) n)) = box-stands d
boxes_stand (Some (reached (together (inside_due t d)) n)) = box-stands d
boxes_stand _ = refl
