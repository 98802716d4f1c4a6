use Rattle.std.proofs.Common.{◌≡◌, ℕ, ◌-◌, List, [], ◌∷◌, ◌++◌, length, ap, sym, subst, refl}
use Rattle.std.specs.Prelude.{Result, Err}
use Rattle.script_model.specs.Sexp.{Place}
use Rattle.script_forms.specs.Terms.{powers}
use Rattle.script_forms.specs.Work.{powers_events}
use Rattle.script_forms.specs.Walk.{after_events}
use Rattle.term_build.specs.Built.{BuilderModel, stand_of}
use Rattle.term_build.specs.Pairs.{trees_at}
use Rattle.term_build.specs.declared.stop.Stop.{Stop}
use Rattle.term_build.proofs.Emits.{err_is}
use Rattle.value_build.specs.Arithmetic.{AreNodes, IsPowering}
use Rattle.value_build.specs.Calls.{AreTreesOf, MakesPowers, Numbers}
use Rattle.value_build.proofs.Folds.{nil_of}
use Rattle.value_build.proofs.Products.{powering_begun, powering_repeats, powering_some, powering_next, powering_step, powering_stopped, powering_last, powering_done}
use Rattle.value_build.proofs.arithmetic.powers.Goals as goal

pub loop-next-init : goal.loop-next-init
loop-next-init c = subst (λ (ks : List ℕ). IsPowering c.args.builder.now c.args.builder.now c.args.nodes.now c.in-Some.first.now c.args.nodes.now c.in-Some.rest.now ks) (sym c.new-made.ensures.items)
    (powering_begun c.args.builder.now c.args.nodes.now c.in-Some.first.now c.in-Some.rest.now c.in-Some.ensures.cases.0 c.requires.nodes)

pub repeats-requires-clause-first : goal.repeats-requires-clause-first
repeats-requires-clause-first c = (powering_some c.args.builder.now c.loop-next.builder c.args.nodes.now c.loop-next.factor c.loop-next.from.now c.loop-next.left.now c.loop-next.made.items c.loop-next.invariant).2

pub repeats-requires-clause-second : goal.repeats-requires-clause-second
repeats-requires-clause-second c = powering_next c.args.builder.now c.loop-next.builder c.args.nodes.now c.loop-next.factor c.in-Some-split_first.next.now c.loop-next.from.now c.in-Some-split_first.later.now c.loop-next.made.items
    (subst (λ (ks : List ℕ). IsPowering c.args.builder.now c.loop-next.builder c.args.nodes.now c.loop-next.factor c.loop-next.from.now ks c.loop-next.made.items) c.in-Some-split_first.ensures.cases.0 c.loop-next.invariant)

pub power-requires-clause-node : goal.power-requires-clause-node
power-requires-clause-node c = (powering_some c.args.builder.now c.loop-next.builder c.args.nodes.now c.loop-next.factor c.loop-next.from.now c.loop-next.left.now c.loop-next.made.items c.loop-next.invariant).2

pub power-requires-clause-some : goal.power-requires-clause-some
power-requires-clause-some c = (powering_some c.args.builder.now c.loop-next.builder c.args.nodes.now c.loop-next.factor c.loop-next.from.now c.loop-next.left.now c.loop-next.made.items c.loop-next.invariant).1

pub returns-in_err-power-clause-does : goal.returns-in_err-power-clause-does
returns-in_err-power-clause-does c =
    subst (λ (r : Result Numbers Stop). MakesPowers c.args.builder.now c.power.new.self c.args.nodes.now r) (sym (err_is c.from_residual.result c.in_err-power.field-0.0 c.from_residual.ensures))
    (powering_stopped (AreTreesOf c.power.new.self (powers (trees_at (stand_of c.args.builder.now).trees c.args.nodes.now))) c.args.builder.now c.loop-next.builder c.power.new.self c.args.nodes.now c.loop-next.factor c.in-Some-split_first.next.now _ c.in_err-power.field-0.0
    c.loop-next.from.now c.in-Some-split_first.later.now c.loop-next.made.items
    (subst (λ (ks : List ℕ). IsPowering c.args.builder.now c.loop-next.builder c.args.nodes.now c.loop-next.factor c.loop-next.from.now ks c.loop-next.made.items) c.in-Some-split_first.ensures.cases.0 c.loop-next.invariant)
    (sym c.if-not-repeats.ensures) (subst (λ (ks : List ℕ). length c.loop-next.from.now - length c.loop-next.left.now ≡ length c.loop-next.from.now - length ks) c.in-Some-split_first.ensures.cases.0 refl) c.in_err-power.ensures.does)

pub loop-next-preserved-in_ok-push : goal.loop-next-preserved-in_ok-push
loop-next-preserved-in_ok-push c =
    subst (λ (ks : List ℕ). IsPowering c.args.builder.now c.power.new.self c.args.nodes.now c.in-Some-split_first.next.now c.loop-next.left.now c.in-Some-split_first.later.now ks) (sym c.in_ok-push.ensures.items)
    (subst (λ (ks : List ℕ). IsPowering c.args.builder.now c.power.new.self c.args.nodes.now c.in-Some-split_first.next.now ks c.in-Some-split_first.later.now (c.loop-next.made.items ++ (c.in_ok-power.power ∷ []))) (sym c.in-Some-split_first.ensures.cases.0)
    (powering_step c.args.builder.now c.loop-next.builder c.power.new.self c.args.nodes.now c.loop-next.factor c.in-Some-split_first.next.now _ c.in_ok-power.power c.loop-next.from.now c.in-Some-split_first.later.now c.loop-next.made.items
    (subst (λ (ks : List ℕ). IsPowering c.args.builder.now c.loop-next.builder c.args.nodes.now c.loop-next.factor c.loop-next.from.now ks c.loop-next.made.items) c.in-Some-split_first.ensures.cases.0 c.loop-next.invariant)
    (sym c.if-not-repeats.ensures) (subst (λ (ks : List ℕ). length c.loop-next.from.now - length c.loop-next.left.now ≡ length c.loop-next.from.now - length ks) c.in-Some-split_first.ensures.cases.0 refl) c.in_ok-power.ensures.does c.in_ok-power.ensures.sorts))

pub loop-next-preserved : goal.loop-next-preserved
loop-next-preserved c = powering_repeats c.args.builder.now c.loop-next.builder c.args.nodes.now c.loop-next.factor c.in-Some-split_first.next.now c.loop-next.from.now c.in-Some-split_first.later.now c.loop-next.made.items
    (subst (λ (ks : List ℕ). IsPowering c.args.builder.now c.loop-next.builder c.args.nodes.now c.loop-next.factor c.loop-next.from.now ks c.loop-next.made.items) c.in-Some-split_first.ensures.cases.0 c.loop-next.invariant)
    (sym c.if-not-repeats.ensures)

pub power-requires-2-clause-node : goal.power-requires-2-clause-node
power-requires-2-clause-node c = (powering_some c.args.builder.now c.loop-next.builder c.args.nodes.now c.loop-next.factor c.loop-next.from.now c.loop-next.left.now c.loop-next.made.items c.loop-next.invariant).2

pub power-requires-2-clause-some : goal.power-requires-2-clause-some
power-requires-2-clause-some c = (powering_some c.args.builder.now c.loop-next.builder c.args.nodes.now c.loop-next.factor c.loop-next.from.now c.loop-next.left.now c.loop-next.made.items c.loop-next.invariant).1

pub returns-in_err-power-2-clause-does : goal.returns-in_err-power-2-clause-does
returns-in_err-power-2-clause-does c =
    subst (λ (r : Result Numbers Stop). MakesPowers c.args.builder.now c.power-2.new.self c.args.nodes.now r) (sym (err_is c.from_residual-in_err-power-2.result c.in_err-power-2.field-0.0 c.from_residual-in_err-power-2.ensures))
    (powering_last c.args.builder.now c.loop-next.builder c.power-2.new.self c.args.nodes.now c.loop-next.factor _ c.in_err-power-2.field-0.0 c.loop-next.from.now c.loop-next.made.items
    (subst (λ (ks : List ℕ). IsPowering c.args.builder.now c.loop-next.builder c.args.nodes.now c.loop-next.factor c.loop-next.from.now ks c.loop-next.made.items) (nil_of c.loop-next.left.now c.in_default-split_first.ensures.cases) c.loop-next.invariant)
    (ap (λ n. length c.loop-next.from.now - n) c.in_default-split_first.ensures.cases)
    (AreTreesOf c.power-2.new.self (powers (trees_at (stand_of c.args.builder.now).trees c.args.nodes.now))) c.in_err-power-2.ensures.does)

pub returns-clause-does : goal.returns-clause-does
returns-clause-does c =
    subst (λ (ks : List ℕ). ((claim : Place) → after_events claim (stand_of c.args.builder.now) (powers_events (trees_at (stand_of c.args.builder.now).trees c.args.nodes.now)) ≡ after_events claim (stand_of c.power-2.new.self) []) ×
    ((trees_at (stand_of c.power-2.new.self).trees ks ≡ powers (trees_at (stand_of c.args.builder.now).trees c.args.nodes.now)) × AreNodes c.power-2.new.self ks)) (sym c.in_ok-push-2.ensures.items)
    (powering_done c.args.builder.now c.loop-next.builder c.power-2.new.self c.args.nodes.now c.loop-next.factor _ c.in_ok-power-2.power c.loop-next.from.now c.loop-next.made.items
    (subst (λ (ks : List ℕ). IsPowering c.args.builder.now c.loop-next.builder c.args.nodes.now c.loop-next.factor c.loop-next.from.now ks c.loop-next.made.items) (nil_of c.loop-next.left.now c.in_default-split_first.ensures.cases) c.loop-next.invariant)
    (ap (λ n. length c.loop-next.from.now - n) c.in_default-split_first.ensures.cases) c.in_ok-power-2.ensures.does)
