use Rattle.std.proofs.Common.{◌≡◌, List, map, refl, ap, sym, ◌∙◌, subst}
use Rattle.std.specs.Prelude.{Vec}
use Rattle.std.specs.Global.{Global}
use Rattle.poly_graph.specs.ProblemViews.{problem_of}
use Rattle.cover_line.specs.declared.rule.Rule.{Rule}
use Rattle.cover_line.specs.Views.{line_of}
use Rattle.cover_model.specs.State.{State}
use Rattle.cert_read.specs.Views.{line_of as read_line}
use Rattle.cert_read.specs.declared.line.Line.{Line}
use Rattle.cover_data.specs.declared.stored.StoredState.{StoredState}
use Rattle.cert_resume.specs.Request.{options_of, share_of}
use Rattle.cert_resume.specs.Text.{whole_text}
use Rattle.cert_resume.specs.declared.going.Going.{Going}
use Rattle.cover_data.specs.declared.margins.Options.{Options}
use Rattle.interval_model.specs.Space.{Space}
use Rattle.cover_data.specs.Margins.{options_in}
use Rattle.cert_text.specs.Means.{IsPointCertificate}
use Rattle.cert_resume.specs.Calls.{HasWalked, IsFoundPoint}
use Rattle.cert_resume.specs.Going.{CanBeResumed, IsBegun, IsBegunWith}
use Rattle.cert_resume.proofs.Matches.{none_of, some_of}
use Rattle.cert_resumed.proofs.Spelled.{read_spelled}
use Rattle.cert_resume.proofs.Whole.{is_begun, can_be_resumed, first_main, gone_of, is_resumed_cover, is_resumed_point}
use Rattle.dpoly.proofs.resumption.resume.Goals as goal

pub walk-requires-clause-begun : goal.walk-requires-clause-begun
walk-requires-clause-begun g c = λ κs lives. subst (λ (u : Options). IsBegun c.args.problem.now u c.begun-going.result) (sym c.options_with-options.ensures)
    (is_begun c.args.problem.now c.is_whole.ensures c.args.base c.args.request c.requires.limits c.requires.read.0 c.requires.read.1 c.begun-going.result
    (subst (λ (u : Options). IsBegunWith c.args.base.lemmas c.args.request.budget u.version c.begun-going.result) c.options_with-options.ensures c.begun-going.ensures))

pub walk-requires-clause-can : goal.walk-requires-clause-can
walk-requires-clause-can g c = λ κs lives.
    let q = c.args.problem.now in let base = c.args.base in let is = c.requires.read.1 in
    let spelled = read_spelled (problem_of q) base.bound c.requires.read.0 is.read is.is_read in
    let main = first_main is.read.lemma_lines is.read.main spelled.1.1.1.1.1 in
    subst (λ (u : Options). CanBeResumed q u c.begun-going.result.lemmas.items (map line_of c.deref.result.now) c.deref-2.result.now) (sym c.options_with-options.ensures)
    (subst (λ (v : Vec StoredState Global). CanBeResumed q (options_of base c.args.request) v.items (map line_of c.deref.result.now) c.deref-2.result.now) (sym c.begun-going.ensures.lemmas)
    (subst (λ (rs : List Rule). CanBeResumed q (options_of base c.args.request) base.lemmas.items (map line_of rs) c.deref-2.result.now) (sym c.deref.ensures.value)
    (subst (λ (Ss : List State). CanBeResumed q (options_of base c.args.request) base.lemmas.items (map line_of base.main.items) Ss) (sym c.deref-2.ensures.value)
    (can_be_resumed q c.is_whole.ensures base c.args.request c.requires.limits c.requires.read.0 is main))))

pub returns : goal.returns
returns g c = λ bytes is.
    let q = c.args.problem.now in let base = c.args.base in let r = c.args.request in let h = share_of r.share in let x : Going = c.walk.new.going in
    let spelled = read_spelled (problem_of q) base.bound bytes is.read is.is_read in
    let walked : HasWalked q (options_of base r) h base.lemmas.items (map line_of base.main.items) base.left.items x =
    subst (λ (Ss : List State). HasWalked q (options_of base r) h base.lemmas.items (map line_of base.main.items) Ss x) c.deref-2.ensures.value
    (subst (λ (rs : List Rule). HasWalked q (options_of base r) h base.lemmas.items (map line_of rs) c.deref-2.result.now x) c.deref.ensures.value
    (subst (λ (v : Vec StoredState Global). HasWalked q (options_of base r) h v.items (map line_of c.deref.result.now) c.deref-2.result.now x) c.begun-going.ensures.lemmas
    (subst (λ (u : Options). HasWalked q u h c.begun-going.result.lemmas.items (map line_of c.deref.result.now) c.deref-2.result.now x) c.options_with-options.ensures
    (none_of _ _ _ c.in-None.is c.in_ok-point.ensures)))) in
    let gone = gone_of q c.is_whole.ensures base r c.requires.limits bytes is h x walked.1 in
    let text : c.in_ok-cert-in-None.cert.items ≡ whole_text (options_of base r) (map read_line base.lemma_lines.items) x =
    c.in_ok-cert-in-None.ensures.text ∙ ap (λ (u : Options). whole_text u (map read_line c.deref-in-None.result.now) x) c.options_with-options.ensures
    ∙ ap (λ (ls : List Line). whole_text (options_of base r) (map read_line ls) x) c.deref-in-None.ensures.value in
    is_resumed_cover q c.is_whole.ensures base r c.requires.limits bytes is (record { cert = c.in_ok-cert-in-None.cert; own = x.own; others = x.others }) x walked.0 gone spelled text c.in_ok-cert-in-None.ensures.fits refl refl

pub returns-in-Some : goal.returns-in-Some
returns-in-Some g c = λ bytes is.
    let q = c.args.problem.now in let base = c.args.base in let r = c.args.request in let o = options_of base r in let x : Going = c.walk.new.going in let point : Space = c.in-Some.point in
    let found : IsFoundPoint q o o.version x point =
    subst (λ (u : Options). IsFoundPoint q u u.version x point) c.options_with-options.ensures (some_of _ _ _ c.in-Some.point c.in-Some.is c.in_ok-point.ensures) in
    let asked = c.in_version-options.ensures ∙ ap (options_in x.version) c.options_with-options.ensures in
    let cert = subst (λ (u : Options). IsPointCertificate (problem_of q) u point c.in_ok-cert-in-Some.cert.items) asked c.in_ok-cert-in-Some.ensures.accepted in
    is_resumed_point q c.is_whole.ensures base r c.requires.limits bytes is x point c.in_ok-cert-in-Some.cert.items found cert
