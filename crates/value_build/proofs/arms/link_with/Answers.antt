use Rattle.std.proofs.Common.{sym, subst, List, Result}
use Rattle.poly_graph.specs.Views.{kind_of}
use Rattle.smt_sexp.specs.Views.{place_of}
use Rattle.term_build.specs.declared.stop.Stop.{Stop}
use Rattle.term_build.proofs.Emits.{err_is}
use Rattle.value_build.specs.Arms.{LinksWith}
use Rattle.value_build.specs.Loops.{IsLinkingWith}
use Rattle.value_build.specs.declared.value.Value.{Value}
use Rattle.value_build.proofs.Arming.{arms_two, first_known}
use Rattle.value_build.proofs.Folds.{nil_of}
use Rattle.value_build.proofs.Loops.{with_begins, with_goes_on, with_stops, with_ends}
use Rattle.value_build.proofs.arms.link_with.Goals as goal

pub loop-other-init : goal.loop-other-init
loop-other-init c = with_begins c.args.comparing.spread (kind_of c.args.comparing.kind) (place_of c.args.comparing.at) c.args.first c.args.maker.now c.args.others.now c.args.links.now.items c.requires.first c.requires.others c.requires.links c.requires.arms

pub link-requires-clause-second : goal.link-requires-clause-second
link-requires-clause-second c =
    let F : List Value → Type 0 = λ vs. IsLinkingWith c.args.comparing.spread (kind_of c.args.comparing.kind) (place_of c.args.comparing.at) c.args.first c.args.maker.now c.loop-other.maker c.args.others.now c.args.links.now.items vs c.loop-other.links.items in
    first_known c.loop-other.maker c.in-Some.other.now c.in-Some.later.now (subst F c.in-Some.ensures.cases.0 c.loop-other.invariant).others

pub link-requires-clause-arms : goal.link-requires-clause-arms
link-requires-clause-arms c =
    let F : List Value → Type 0 = λ vs. IsLinkingWith c.args.comparing.spread (kind_of c.args.comparing.kind) (place_of c.args.comparing.at) c.args.first c.args.maker.now c.loop-other.maker c.args.others.now c.args.links.now.items vs c.loop-other.links.items in
    arms_two c.args.first c.in-Some.other.now c.in-Some.later.now (subst F c.in-Some.ensures.cases.0 c.loop-other.invariant).arms

pub returns-in_err-made-clause-does : goal.returns-in_err-made-clause-does
returns-in_err-made-clause-does c =
    let F : List Value → Type 0 = λ vs. IsLinkingWith c.args.comparing.spread (kind_of c.args.comparing.kind) (place_of c.args.comparing.at) c.args.first c.args.maker.now c.loop-other.maker c.args.others.now c.args.links.now.items vs c.loop-other.links.items in
    let z = c.in_err-made.field-0.0 in
    subst (λ (r : Result (Unit {0}) Stop). LinksWith c.args.maker.now c.link.new.maker c.args.comparing.spread (kind_of c.args.comparing.kind) (place_of c.args.comparing.at) c.args.first c.args.others.now c.args.links.now.items c.loop-other.links.items r) (sym (err_is c.from_residual.result z c.from_residual.ensures))
    (with_stops c.args.comparing.spread (kind_of c.args.comparing.kind) (place_of c.args.comparing.at) c.args.first c.args.maker.now c.args.others.now c.args.links.now.items c.loop-other.maker c.link.new.maker c.in-Some.other.now c.in-Some.later.now c.loop-other.links.items z
    (subst F c.in-Some.ensures.cases.0 c.loop-other.invariant) c.in_err-made.ensures.does)

pub loop-other-preserved : goal.loop-other-preserved
loop-other-preserved c =
    let F : List Value → Type 0 = λ vs. IsLinkingWith c.args.comparing.spread (kind_of c.args.comparing.kind) (place_of c.args.comparing.at) c.args.first c.args.maker.now c.loop-other.maker c.args.others.now c.args.links.now.items vs c.loop-other.links.items in
    with_goes_on c.args.comparing.spread (kind_of c.args.comparing.kind) (place_of c.args.comparing.at) c.args.first c.args.maker.now c.args.others.now c.args.links.now.items c.loop-other.maker c.link.new.maker c.in-Some.other.now c.in_ok-made.made c.in-Some.later.now c.loop-other.links.items c.push.new.self.items
    (subst F c.in-Some.ensures.cases.0 c.loop-other.invariant) c.in_ok-made.ensures.does c.in_ok-push.ensures.items c.in_ok-made.ensures.sorts

pub returns-clause-does : goal.returns-clause-does
returns-clause-does c =
    let F : List Value → Type 0 = λ vs. IsLinkingWith c.args.comparing.spread (kind_of c.args.comparing.kind) (place_of c.args.comparing.at) c.args.first c.args.maker.now c.loop-other.maker c.args.others.now c.args.links.now.items vs c.loop-other.links.items in
    with_ends c.args.comparing.spread (kind_of c.args.comparing.kind) (place_of c.args.comparing.at) c.args.first c.args.maker.now c.args.others.now c.args.links.now.items c.loop-other.maker c.loop-other.links.items
    (subst F (nil_of c.loop-other.left.now c.in_default.ensures.cases) c.loop-other.invariant)
