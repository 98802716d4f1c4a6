use Rattle.std.proofs.Common.{◌≡◌, ◌∙◌, Option, Some, ap, sym, subst}
use Rattle.std.specs.Prelude.{IfOk, IfSome, Result, Ok, Err}
use Rattle.cover_model.specs.State.{State}
use Rattle.cover_model.specs.Rules.{Line}
use Rattle.cover_data.specs.declared.step.End.{End}
use Rattle.cover_data.specs.Views.{end_line, end_of, kept_of}
use Rattle.cover_data.specs.Runs.{children, kids_by, kids_of}
use Rattle.cover_book.specs.declared.ending.Ending.{Ending}
use Rattle.cover_book.specs.declared.ending.Ending.TheVariants.{Parted}
use Rattle.cover_book.specs.Ending.{IsEndingOf}
use Rattle.cover_book.proofs.ending.ending_of.Goals as goal

ends-parted : {E : Type 0} (l : Line) (S T U : State) (r : Result Ending E) → IfOk r (λ x. x ≡ Parted T U) → children l S ≡ Some (T, U) → IfOk r (IsEndingOf l S)
ends-parted l S T U (Ok x) e h = subst (IsEndingOf l S) (sym e) h
ends-parted l S T U (Err x) e h = tt

pub returns-in-Some : goal.returns-in-Some
returns-in-Some c = λ e is.
    let k = c.args.patch.now in
    let two : kids_of (kept_of k) ≡ Some (c.in-Some.lower, c.in-Some.upper) = subst (λ (o : Option (State × State)). IfSome o (λ p. kids_of (kept_of k) ≡ Some (p.0, p.1))) c.in-Some.is c.in_ok-lower.ensures.two in
    ends-parted (end_line e) k.reached c.in-Some.lower c.in-Some.upper c.parted.result c.parted.ensures (ap (λ (o : Option End). kids_by (end_of o) k.reached) (sym is) ∙ two)
