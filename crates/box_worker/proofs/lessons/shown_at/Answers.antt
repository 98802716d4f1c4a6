use Rattle.std.proofs.Common.{◌≡◌, ◌∙◌, [], ap, subst}
use Rattle.cover_model.specs.State.{State}
use Rattle.cover_data.specs.declared.margins.Margins.{Margins}
use Rattle.cover_data.specs.Models.{KeptModel}
use Rattle.cover_data.specs.Runs.{IsClosed}
use Rattle.poly_graph.specs.ProblemViews.{Parts}
use Rattle.box_worker.specs.Attempts.{IsOpen}
use Rattle.box_worker.specs.Worked.{margins_of}
use Rattle.box_worker.proofs.Repeated.{is_shown}
use Rattle.box_worker.proofs.lessons.shown_at.Goals as goal

pub returns-in-Ok-clause-shown : goal.returns-in-Ok-clause-shown
returns-in-Ok-clause-shown c =
    let q = c.args.room.now in let m = margins_of c.args.options.now in let S = c.args.state in
    let r = c.in_ok-repeat.ensures in let P = r.0 in let Q = c.repeat.new.patch in
    let n = c.margins-margins.result in
    let e : n ≡ m = c.margins-margins.ensures in
    let B = c.in_ok-patch.patch in let b = c.in_ok-patch.ensures in
    let first : B.kept.first ≡ S = ap (λ (k : KeptModel). k.first) b.kept in
    let opened : IsOpen q m [] S P =
    subst (λ (x : Margins). IsOpen q x [] S P) (b.margins ∙ e) (subst (λ (s : Parts). IsOpen s B.margins [] S P) b.problem (subst (λ (T : State). IsOpen B.problem B.margins [] T P) first r.1)) in
    let kept = c.end-kept.ensures.kept in
    is_shown q m S P Q c.in-Ok.closed opened r.2 c.end-kept.ensures.run (c.in-Ok.ensures.0 ∙ kept) (subst IsClosed kept c.in-Ok.ensures.1) c.requires.root
