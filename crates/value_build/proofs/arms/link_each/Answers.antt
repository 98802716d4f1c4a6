use Rattle.std.proofs.Common.{◌≡◌, sym, subst, List, ◌∷◌, true, Ok, Err, Result}
use Rattle.poly_graph.specs.Views.{kind_of}
use Rattle.smt_sexp.specs.Views.{place_of}
use Rattle.term_build.specs.declared.stop.Stop.{Stop}
use Rattle.term_build.proofs.Emits.{err_is}
use Rattle.value_build.specs.Arms.{LinksWith, LinksEach}
use Rattle.value_build.specs.Loops.{IsLinkingEach}
use Rattle.value_build.specs.Operators.{are_arms}
use Rattle.value_build.specs.Values.{AreKnown}
use Rattle.value_build.specs.declared.value.Value.{Value}
use Rattle.value_build.proofs.Arming.{first_known, later_known, others_known, others_arms}
use Rattle.value_build.proofs.Folds.{nil_of}
use Rattle.value_build.proofs.Loops.{each_begins, each_goes_on, each_stops, each_ends}
use Rattle.value_build.proofs.arms.link_each.Goals as goal

pub loop-first-init : goal.loop-first-init
loop-first-init c = each_begins c.args.comparing.spread (kind_of c.args.comparing.kind) (place_of c.args.comparing.at) c.args.maker.now c.args.values.now c.args.links.now.items c.requires.values c.requires.links c.requires.arms

pub link_with-requires-clause-first : goal.link_with-requires-clause-first
link_with-requires-clause-first c =
    let F : List Value → Type 0 = λ vs. IsLinkingEach c.args.comparing.spread (kind_of c.args.comparing.kind) (place_of c.args.comparing.at) c.args.maker.now c.loop-first.maker c.args.values.now c.args.links.now.items vs c.loop-first.links.items in
    first_known c.loop-first.maker c.in-Some.first.now c.in-Some.later.now (subst F c.in-Some.ensures.cases.0 c.loop-first.invariant).values

pub link_with-requires-clause-others : goal.link_with-requires-clause-others
link_with-requires-clause-others c =
    let F : List Value → Type 0 = λ vs. IsLinkingEach c.args.comparing.spread (kind_of c.args.comparing.kind) (place_of c.args.comparing.at) c.args.maker.now c.loop-first.maker c.args.values.now c.args.links.now.items vs c.loop-first.links.items in
    subst (λ (vs : List Value). AreKnown c.loop-first.maker vs) (sym c.others_of-others.ensures)
    (others_known c.loop-first.maker c.args.comparing.spread c.in-Some.later.now (later_known c.loop-first.maker c.in-Some.first.now c.in-Some.later.now (subst F c.in-Some.ensures.cases.0 c.loop-first.invariant).values))

pub link_with-requires-clause-arms : goal.link_with-requires-clause-arms
link_with-requires-clause-arms c =
    let F : List Value → Type 0 = λ vs. IsLinkingEach c.args.comparing.spread (kind_of c.args.comparing.kind) (place_of c.args.comparing.at) c.args.maker.now c.loop-first.maker c.args.values.now c.args.links.now.items vs c.loop-first.links.items in
    subst (λ (vs : List Value). are_arms (c.in-Some.first.now ∷ vs) ≡ true) (sym c.others_of-others.ensures) (others_arms c.args.comparing.spread c.in-Some.first.now c.in-Some.later.now (subst F c.in-Some.ensures.cases.0 c.loop-first.invariant).arms)

pub returns-in_err-link_with-clause-does : goal.returns-in_err-link_with-clause-does
returns-in_err-link_with-clause-does c =
    let F : List Value → Type 0 = λ vs. IsLinkingEach c.args.comparing.spread (kind_of c.args.comparing.kind) (place_of c.args.comparing.at) c.args.maker.now c.loop-first.maker c.args.values.now c.args.links.now.items vs c.loop-first.links.items in
    let z = c.in_err-link_with.field-0.0 in
    subst (λ (r : Result (Unit {0}) Stop). LinksEach c.args.maker.now c.link_with.new.maker c.args.comparing.spread (kind_of c.args.comparing.kind) (place_of c.args.comparing.at) c.args.values.now c.args.links.now.items c.link_with.new.links.items r) (sym (err_is c.from_residual.result z c.from_residual.ensures))
    (each_stops c.args.comparing.spread (kind_of c.args.comparing.kind) (place_of c.args.comparing.at) c.args.maker.now c.args.values.now c.args.links.now.items c.loop-first.maker c.link_with.new.maker c.in-Some.first.now c.in-Some.later.now c.loop-first.links.items c.link_with.new.links.items z
    (subst F c.in-Some.ensures.cases.0 c.loop-first.invariant)
    (subst (λ (vs : List Value). LinksWith {X = Unit {0}} c.loop-first.maker c.link_with.new.maker c.args.comparing.spread (kind_of c.args.comparing.kind) (place_of c.args.comparing.at) c.in-Some.first.now vs c.loop-first.links.items c.link_with.new.links.items (Err z)) c.others_of-others.ensures c.in_err-link_with.ensures.does))

pub loop-first-preserved : goal.loop-first-preserved
loop-first-preserved c =
    let F : List Value → Type 0 = λ vs. IsLinkingEach c.args.comparing.spread (kind_of c.args.comparing.kind) (place_of c.args.comparing.at) c.args.maker.now c.loop-first.maker c.args.values.now c.args.links.now.items vs c.loop-first.links.items in
    each_goes_on c.args.comparing.spread (kind_of c.args.comparing.kind) (place_of c.args.comparing.at) c.args.maker.now c.args.values.now c.args.links.now.items c.loop-first.maker c.link_with.new.maker c.in-Some.first.now c.in-Some.later.now c.loop-first.links.items c.link_with.new.links.items
    (subst F c.in-Some.ensures.cases.0 c.loop-first.invariant)
    (subst (λ (vs : List Value). LinksWith {X = Unit {0}} c.loop-first.maker c.link_with.new.maker c.args.comparing.spread (kind_of c.args.comparing.kind) (place_of c.args.comparing.at) c.in-Some.first.now vs c.loop-first.links.items c.link_with.new.links.items (Ok tt)) c.others_of-others.ensures c.in_ok-link_with.ensures.does)
    c.in_ok-link_with.ensures.sorts

pub returns-clause-does : goal.returns-clause-does
returns-clause-does c =
    let F : List Value → Type 0 = λ vs. IsLinkingEach c.args.comparing.spread (kind_of c.args.comparing.kind) (place_of c.args.comparing.at) c.args.maker.now c.loop-first.maker c.args.values.now c.args.links.now.items vs c.loop-first.links.items in
    each_ends c.args.comparing.spread (kind_of c.args.comparing.kind) (place_of c.args.comparing.at) c.args.maker.now c.args.values.now c.args.links.now.items c.loop-first.maker c.loop-first.links.items
    (subst F (nil_of c.loop-first.left.now c.in_default.ensures.cases) c.loop-first.invariant)
