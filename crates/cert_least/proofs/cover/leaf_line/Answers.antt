use Rattle.std.proofs.Common.{Some, None, Option, true, ◌≡◌, ℕ, ◌∙◌, refl, subst}
use Rattle.interval_model.specs.Space.{Space}
use Rattle.ival.specs.Views.{interval_of}
use Rattle.cover_model.specs.State.{atom_enclosure}
use Rattle.cert_read.specs.CertLine.{CertLine}
use Rattle.cert_model.specs.Accepted.{next}
use Rattle.cert_model.specs.Least.{leaves_open}
use Rattle.cert_check.specs.Stands.{stand_of}
use Rattle.cert_least.specs.declared.phase.Phase.TheVariants.{InCover}
use Rattle.cert_least.specs.Aims.{Aim}
use Rattle.cert_least.specs.Judging.{aim_of}
use Rattle.cert_least.specs.Phases.{lower_of, searched_by, stand_space}
use Rattle.cert_least.specs.Said.{leaf_of}
use Rattle.cert_least.specs.Steps.{IsGone, IsToldAs, leaf_refusal}
use Rattle.cert_least.proofs.Lines.{leaf_elsewhere, leaf_fails}
use Rattle.cert_least.proofs.Numbered.{same_aim}
use Rattle.cert_least.proofs.Places.{tree_here, no_values, with_values}
use Rattle.cert_least.proofs.cover.leaf_line.Goals as goal

is-leaf : (j : Option ℕ) → leaves_open (leaf_of j) ≡ true
is-leaf None = refl
is-leaf (Some j) = refl

pub returns-in-None-clause-next : goal.returns-in-None-clause-next
returns-in-None-clause-next c d h fits =
    let a = aim_of c.args.aim.now in let w = c.args.scope in let p = searched_by a w in let stand = stand_of c.stand.result in
    let here = tree_here p c.args.checker.now.course d h.due stand c.stand.ensures in
    leaf_elsewhere a w (leaf_of c.args.stuck) (is-leaf c.args.stuck) d fits
    (here ∙ no_values (λ (s : Space). atom_enclosure p s a.goal) (stand_space p stand) (c.in-None.ensures.interval (lower_of w) w.bits))
    c.give.new.checker c.give.result
    (subst (λ (l : CertLine). IsGone p a.bound (next p a.bound d l) (InCover w) c.give.new.checker c.give.result) c.requires.line (c.give.ensures p a.bound d h))

pub returns-in-Some-clause-next : goal.returns-in-Some-clause-next
returns-in-Some-clause-next c d h fits =
    let a = aim_of c.args.aim.now in let w = c.args.scope in let p = searched_by a w in let stand = stand_of c.stand.result in
    let here = tree_here p c.args.checker.now.course d h.due stand c.stand.ensures in
    let v = with_values (λ (s : Space). atom_enclosure p s a.goal) (stand_space p stand) (interval_of c.in-Some.field-0) (c.in-Some.ensures.interval (lower_of w) w.bits) in
    leaf_fails a w (leaf_of c.args.stuck) (is-leaf c.args.stuck) d v.space (here ∙ v.here) c.leaf_fault.result
    (subst (λ (k : Aim). IsToldAs c.leaf_fault.result (leaf_refusal (searched_by k w) (leaf_of c.args.stuck))) (same_aim c.args.aim.now c.enclosure_at.new.self c.in-Some.ensures.same) c.leaf_fault.ensures)
