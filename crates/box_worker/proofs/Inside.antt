-- Points within the box that a patch began at.
use Rattle.std.proofs.Common.{◌≡◌, ◌&&◌, Option, Some, None, IsTrue, sym, subst}
use Rattle.std.specs.Prelude.{Result, Ok, Err, IfOk, IfSome}
use Rattle.std.specs.declared.alloc.AllocError.{AllocError}
use Rattle.interval_model.specs.Space.{Space, space_within, middle}
use Rattle.dyadic.proofs.Equal.{both_true}
use Rattle.poly_graph.specs.Marks.{marks_within}
use Rattle.poly_graph.specs.ProblemViews.{Parts, problem_of}
use Rattle.cover_model.specs.Fits.{IsShownAt}
use Rattle.cover_model.proofs.Middle.{middle_lies_within}
use Rattle.cover_model.proofs.Within.{space_through}
use Rattle.ival.specs.declared.space.Space.{Space as CodeSpace}
use Rattle.ival.specs.SpaceViews.{space_of}
use Rattle.cover_data.specs.declared.margins.Margins.{Margins}
use Rattle.cover_data.specs.Margins.{loosenings_of}
use Rattle.cover_rule.specs.Middle.{IsMiddlePoint}
use Rattle.cover_rule.specs.Models.{PatchModel}
use Rattle.cover_rule.proofs.Points.{code_upright, code_on_grid}
use Rattle.box_worker.specs.Ended.{IsFoundIn}

-- what lies within the space that a patch has reached lies within the box that it began at
pub within_first : (P : PatchModel) (space reached : Space) → reached ≡ P.kept.reached.space → IsTrue (space_within P.kept.reached.space P.kept.first.space && marks_within P.kept.first.marks P.kept.reached.marks) →
    IsTrue (space_within space reached) → IsTrue (space_within space P.kept.first.space)
within_first P space reached e k h = space_through space P.kept.reached.space P.kept.first.space (subst (λ (s : Space). IsTrue (space_within space s)) e h)
    (both_true (space_within P.kept.reached.space P.kept.first.space) (marks_within P.kept.first.marks P.kept.reached.marks) k).0

-- the middle of a space lies within what that space lies within
pub middle_through : (space : CodeSpace) (outer : Space) → IsTrue (space_within (space_of space) outer) → IsTrue (space_within (middle (space_of space)) outer)
middle_through space outer h = space_through (middle (space_of space)) (space_of space) outer (middle_lies_within (space_of space) (code_on_grid space) (code_upright space)).0 h

-- where the form is sure at the middle of a space within the patch's box, that is a point found in it
pub found_in : (P : PatchModel) (q : Parts) (m : Margins) (space : CodeSpace) (r : Result (Option Space) AllocError) → P.problem ≡ q → P.margins ≡ m → IsTrue (space_within (space_of space) P.kept.first.space) →
    IfOk r (IsMiddlePoint (problem_of q) (loosenings_of m) (space_of space)) → IfOk r (λ o. IfSome o (λ x. IsShownAt (problem_of q) (loosenings_of m) x)) → IfOk r (λ o. IfSome o (IsFoundIn P))
found_in P q m space (Err e) a b w mid shown = tt
found_in P q m space (Ok None) a b w mid shown = tt
found_in P q m space (Ok (Some x)) a b w mid shown = (
  subst (λ (y : Space). IsTrue (space_within y P.kept.first.space)) (sym mid) (middle_through space P.kept.first.space w),
  subst (λ (r : Parts). IsShownAt (problem_of r) (loosenings_of P.margins) x) (sym a) (subst (λ (n : Margins). IsShownAt (problem_of q) (loosenings_of n) x) (sym b) shown),
)
