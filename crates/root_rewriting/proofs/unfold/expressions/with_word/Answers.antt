use Rattle.std.proofs.Common.{ap, sym, ◌∙◌}
use Rattle.script_model.specs.Sexp.{more, leaf, reserved}
use Rattle.script_roots.specs.Tree.{group_tree}
use Rattle.smt_sexp.specs.Arena.{rest_of}
use Rattle.smt_sexp.specs.Views.{place_of, reserved_of}
use Rattle.root_rewriting.specs.Nodes.{trees_in}
use Rattle.root_rewriting.proofs.ByForm as forms
use Rattle.root_rewriting.proofs.Growth as growth
use Rattle.root_rewriting.proofs.Reckoned as reckoned
use Rattle.root_rewriting.specs.Ahead.{scope_bodies}
use Rattle.root_rewriting.specs.LetParts.{as_let, let_parts_reached}
use Rattle.script_roots.specs.Reached.{group_reached}
use Rattle.root_rewriting.proofs.unfold.expressions.with_word.Goals as goal

pub returns-in-Let-clause-walks : goal.returns-in-Let-clause-walks
returns-in-Let-clause-walks c = λ first names knows.
    let rest = rest_of c.args.source.now.sexps.now c.args.after in
    growth.turns_same c.args.source.now.sexps.now c.args.source.now.top.now (trees_in c.args.trees.now) (trees_in c.let_value.new.trees) _ _ c.let_value.result
    (ap (λ w. group_tree names (place_of c.args.place) (more (leaf first (reserved (reserved_of w))) rest)) c.in-Let.is ∙ forms.group_let_word names (place_of c.args.place) first rest) (c.let_value.ensures.walks names knows)

pub returns-then-ends-clause-walks : goal.returns-then-ends-clause-walks
returns-then-ends-clause-walks c = λ first names knows.
    let rest = rest_of c.args.source.now.sexps.now c.args.after in
    growth.turns_same c.args.source.now.sexps.now c.args.source.now.top.now (trees_in c.args.trees.now) (trees_in c.formless.new.trees) _ _ c.formless.result
    (ap (λ w. group_tree names (place_of c.args.place) (more (leaf first (reserved (reserved_of w))) rest)) c.in-Bang.is ∙
    forms.group_bang_end names (place_of c.args.place) first rest (sym c.ends.ensures ∙ c.if-ends.true)) (c.formless.ensures.walks c.args.source.now.sexps.now c.args.source.now.top.now)

pub returns-in-Bang-clause-walks : goal.returns-in-Bang-clause-walks
returns-in-Bang-clause-walks c = λ first names knows.
    let rest = rest_of c.args.source.now.sexps.now c.args.after in (
      growth.grows_none (trees_in c.args.trees.now),
      record {
        names = names;
        knows = knows;
        is = ap (λ w. group_tree names (place_of c.args.place) (more (leaf first (reserved (reserved_of w))) rest)) c.in-Bang.is ∙
            forms.group_bang names (place_of c.args.place) first rest (sym c.ends.ensures ∙ c.if-ends.false);
      },
    )

pub returns-clause-walks : goal.returns-clause-walks
returns-clause-walks c = λ first names knows.
    growth.turns_same c.args.source.now.sexps.now c.args.source.now.top.now (trees_in c.args.trees.now) (trees_in c.formless-in_default.new.trees) _ _ c.formless-in_default.result
    (forms.group_word names (place_of c.args.place) first (rest_of c.args.source.now.sexps.now c.args.after) c.args.word c.in_default.not-Let c.in_default.not-Bang)
    (c.formless-in_default.ensures.walks c.args.source.now.sexps.now c.args.source.now.top.now)

pub returns-in-Let-clause-counts : goal.returns-in-Let-clause-counts
returns-in-Let-clause-counts c = λ first. reckoned.opens_same c.args.source.now c.args.scope (λ bs. group_reached bs (more (leaf first (reserved (reserved_of c.args.word))) (rest_of c.args.source.now.sexps.now c.args.after))) (λ bs. let_parts_reached bs (as_let (rest_of c.args.source.now.sexps.now c.args.after))) c.let_value.result (ap (λ w. group_reached (scope_bodies c.args.source.now.sexps.now c.args.source.now.top.now c.args.scope) (more (leaf first (reserved (reserved_of w))) (rest_of c.args.source.now.sexps.now c.args.after))) c.in-Let.is ∙ reckoned.group_let_word (scope_bodies c.args.source.now.sexps.now c.args.source.now.top.now c.args.scope) first (rest_of c.args.source.now.sexps.now c.args.after)) c.let_value.ensures.counts

pub returns-then-ends-clause-counts : goal.returns-then-ends-clause-counts
returns-then-ends-clause-counts c = λ first. reckoned.opens_goes c.args.source.now c.args.scope (λ bs. group_reached bs (more (leaf first (reserved (reserved_of c.args.word))) (rest_of c.args.source.now.sexps.now c.args.after))) 0 c.formless.result (ap (λ w. group_reached (scope_bodies c.args.source.now.sexps.now c.args.source.now.top.now c.args.scope) (more (leaf first (reserved (reserved_of w))) (rest_of c.args.source.now.sexps.now c.args.after))) c.in-Bang.is ∙ reckoned.group_bang_end (scope_bodies c.args.source.now.sexps.now c.args.source.now.top.now c.args.scope) first (rest_of c.args.source.now.sexps.now c.args.after) (sym c.ends.ensures ∙ c.if-ends.true)) (c.formless.ensures.counts c.args.source.now.sexps.now c.args.source.now.top.now)

pub returns-in-Bang-clause-counts : goal.returns-in-Bang-clause-counts
returns-in-Bang-clause-counts c = λ first. ap (λ w. group_reached (scope_bodies c.args.source.now.sexps.now c.args.source.now.top.now c.args.scope) (more (leaf first (reserved (reserved_of w))) (rest_of c.args.source.now.sexps.now c.args.after))) c.in-Bang.is ∙ reckoned.group_bang (scope_bodies c.args.source.now.sexps.now c.args.source.now.top.now c.args.scope) first (rest_of c.args.source.now.sexps.now c.args.after) (sym c.ends.ensures ∙ c.if-ends.false)

pub returns-clause-counts : goal.returns-clause-counts
returns-clause-counts c = λ first. reckoned.opens_goes c.args.source.now c.args.scope (λ bs. group_reached bs (more (leaf first (reserved (reserved_of c.args.word))) (rest_of c.args.source.now.sexps.now c.args.after))) 0 c.formless-in_default.result (reckoned.group_word (scope_bodies c.args.source.now.sexps.now c.args.source.now.top.now c.args.scope) first (rest_of c.args.source.now.sexps.now c.args.after) c.args.word c.in_default.not-Let c.in_default.not-Bang) (c.formless-in_default.ensures.counts c.args.source.now.sexps.now c.args.source.now.top.now)
