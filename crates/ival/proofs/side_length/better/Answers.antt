use Rattle.std.proofs.Common.{◌≡◌, Some, sym, subst, ◌∙◌, true≢false}
use Rattle.std.specs.Prelude.{Option}
use Rattle.ival.specs.declared.best.Best.{Best}
use Rattle.interval_model.specs.Space.{better}
use Rattle.ival.specs.WideViews.{wide_value, side_of_units}
use Rattle.ival.specs.BestViews.{best_of}
use Rattle.ival.proofs.Wides.{found, better_keeps, better_takes}
use Rattle.ival.proofs.side_length.better.Goals as goal

pub returns-then-wide_at_most : goal.returns-then-wide_at_most
returns-then-wide_at_most c =
    let v = wide_value c.in-Some.old.side in let w = wide_value c.args.side in
    subst (λ (b : Option Best). found c.in-Some.old.axis v ≡ better (best_of b) c.args.axis (Some (side_of_units w))) (sym c.in-Some.is)
    (better_keeps c.in-Some.old.axis c.args.axis v w (c.wide_at_most.ensures.0 c.if-wide_at_most.true))

pub returns-else-wide_at_most : goal.returns-else-wide_at_most
returns-else-wide_at_most c =
    let v = wide_value c.in-Some.old.side in let w = wide_value c.args.side in
    subst (λ (b : Option Best). found c.args.axis w ≡ better (best_of b) c.args.axis (Some (side_of_units w))) (sym c.in-Some.is)
    (better_takes c.in-Some.old.axis c.args.axis v w (λ h. true≢false (sym (c.wide_at_most.ensures.1 h) ∙ c.if-wide_at_most.false)))
