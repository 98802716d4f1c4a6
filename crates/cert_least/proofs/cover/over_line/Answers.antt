use Rattle.std.proofs.Common.{◌∙◌}
use Rattle.interval_model.specs.Space.{Space}
use Rattle.ival.specs.Views.{interval_of}
use Rattle.cover_model.specs.State.{atom_enclosure}
use Rattle.cert_check.specs.Stands.{stand_of}
use Rattle.cert_least.specs.Judging.{aim_of}
use Rattle.cert_least.specs.Phases.{lower_of, searched_by, stand_space}
use Rattle.cert_least.proofs.Lines.{over_elsewhere}
use Rattle.cert_least.proofs.Places.{tree_here, no_values, with_values}
use Rattle.cert_least.proofs.cover.over_line.Goals as goal

pub returns-in-None-clause-next : goal.returns-in-None-clause-next
returns-in-None-clause-next c d h fits =
    let a = aim_of c.args.aim.now in let w = c.args.scope in let p = searched_by a w in let stand = stand_of c.stand.result in
    let here = tree_here p c.args.checker.now.course d h.due stand c.stand.ensures in
    over_elsewhere a w d fits (here ∙ no_values (λ (s : Space). atom_enclosure p s a.goal) (stand_space p stand) (c.in-None.ensures.interval (lower_of w) w.bits))
    c.give.new.checker c.give.result (c.give.ensures p a.bound d h)

pub returns-in-Some-clause-next : goal.returns-in-Some-clause-next
returns-in-Some-clause-next c d h fits =
    let a = aim_of c.args.aim.now in let w = c.args.scope in let p = searched_by a w in let stand = stand_of c.stand.result in
    let here = tree_here p c.args.checker.now.course d h.due stand c.stand.ensures in
    let v = with_values (λ (s : Space). atom_enclosure p s a.goal) (stand_space p stand) (interval_of c.in-Some.values) (c.in-Some.ensures.interval (lower_of w) w.bits) in
    c.over_values.ensures a d v.space h fits (here ∙ v.here) v.values_are
