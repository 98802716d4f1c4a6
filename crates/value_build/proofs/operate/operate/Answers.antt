use Rattle.std.proofs.Common.{◌≡◌, sym, ap, ap₂, subst, ◌∙◌, List, ℕ, length, ◌<◌, Bool, true, false}
use Rattle.std.specs.List.{All}
use Rattle.smt_sexp.specs.Views.{place_of}
use Rattle.sort_check.specs.Views.{operator_of}
use Rattle.term_build.specs.Built.{stand_of}
use Rattle.term_build.specs.Pairs.{DrawsEach}
use Rattle.term_build.specs.declared.connectives.Pair.{Pair}
use Rattle.value_build.specs.Operators.{takes_of, are_arms, are_bool, are_picked}
use Rattle.value_build.specs.declared.value.Value.{Value}
use Rattle.value_build.proofs.Operating.{operate_refused, operate_bools, operate_reals, operate_arms, bools_seen, lists_below, nodes_there}
use Rattle.value_build.proofs.Taken.{reals_take, bools_take}
use Rattle.value_build.proofs.operate.operate.Goals as goal

pub returns-then-not-takes-clause-does : goal.returns-then-not-takes-clause-does
returns-then-not-takes-clause-does c = λ us bs h. operate_refused c.args.maker.now (operator_of c.args.operator) c.args.at c.args.values.now us bs (λ (v : Value). Unit {0})
    (sym c.if-not-takes.true ∙ c.takes.ensures ∙ ap₂ (λ r b. takes_of (operator_of c.args.operator) r b c.are_picked-picked.result (length c.args.values.now)) c.are_arms.ensures c.are_bool-bools.ensures ∙ ap (λ p. takes_of (operator_of c.args.operator) (are_arms c.args.values.now) (are_bool c.args.values.now) p (length c.args.values.now)) c.are_picked-picked.ensures) h

pub on_bools-requires-clause-takes : goal.on_bools-requires-clause-takes
on_bools-requires-clause-takes c = subst (λ (ps : List Pair). takes_of (operator_of c.args.operator) false true false (length ps) ≡ true) (sym (c.deref.ensures.value ∙ c.in_ok-pairs.ensures))
    (bools_take (operator_of c.args.operator) c.args.values.now (sym c.are_bool-bools.ensures ∙ c.if-bools.true) (sym (sym c.if-not-takes.false ∙ c.takes.ensures ∙ ap₂ (λ r b. takes_of (operator_of c.args.operator) r b c.are_picked-picked.result (length c.args.values.now)) c.are_arms.ensures c.are_bool-bools.ensures ∙ ap (λ p. takes_of (operator_of c.args.operator) (are_arms c.args.values.now) (are_bool c.args.values.now) p (length c.args.values.now)) c.are_picked-picked.ensures)))

pub on_reals-requires-clause-takes : goal.on_reals-requires-clause-takes
on_reals-requires-clause-takes c = subst (λ (ks : List ℕ). takes_of (operator_of c.args.operator) true false false (length ks) ≡ true) (sym (c.deref-then-are_real.ensures.value ∙ c.in_ok-nodes.ensures))
    (reals_take (operator_of c.args.operator) c.args.values.now (sym c.are_real.ensures ∙ c.if-are_real.true) (sym c.are_bool-bools.ensures ∙ c.if-bools.false) (sym (sym c.if-not-takes.false ∙ c.takes.ensures ∙ ap₂ (λ r b. takes_of (operator_of c.args.operator) r b c.are_picked-picked.result (length c.args.values.now)) c.are_arms.ensures c.are_bool-bools.ensures ∙ ap (λ p. takes_of (operator_of c.args.operator) (are_arms c.args.values.now) (are_bool c.args.values.now) p (length c.args.values.now)) c.are_picked-picked.ensures)))

pub on_arms-requires-clause-takes : goal.on_arms-requires-clause-takes
on_arms-requires-clause-takes c = subst (λ (b : Bool). takes_of (operator_of c.args.operator) (are_arms c.args.values.now) b (are_picked c.args.values.now) (length c.args.values.now) ≡ true) (sym c.are_bool-bools.ensures ∙ c.if-bools.false) (sym (sym c.if-not-takes.false ∙ c.takes.ensures ∙ ap₂ (λ r b. takes_of (operator_of c.args.operator) r b c.are_picked-picked.result (length c.args.values.now)) c.are_arms.ensures c.are_bool-bools.ensures ∙ ap (λ p. takes_of (operator_of c.args.operator) (are_arms c.args.values.now) (are_bool c.args.values.now) p (length c.args.values.now)) c.are_picked-picked.ensures))

pub on_bools-requires-clause-lists : goal.on_bools-requires-clause-lists
on_bools-requires-clause-lists c = subst (λ (ns : List ℕ). All (λ (k : ℕ). k < length c.args.maker.now.bounds) ns) (sym c.in_ok-lists.ensures)
    (lists_below c.args.maker.now.bounds _ c.requires.1 (bools_seen c.args.maker.now.made c.args.maker.now.drawn c.args.maker.now.bounds c.requires.0 c.requires.1 c.args.values.now c.requires.2 (sym c.are_bool-bools.ensures ∙ c.if-bools.true)).1)

pub on_bools-requires-clause-drawn : goal.on_bools-requires-clause-drawn
on_bools-requires-clause-drawn c = (
  c.requires.0,
  subst (λ (ps : List Pair). DrawsEach (stand_of c.args.maker.now.made).trees c.args.maker.now.drawn c.requires.0 ps) (sym (c.deref.ensures.value ∙ c.in_ok-pairs.ensures))
      (bools_seen c.args.maker.now.made c.args.maker.now.drawn c.args.maker.now.bounds c.requires.0 c.requires.1 c.args.values.now c.requires.2 (sym c.are_bool-bools.ensures ∙ c.if-bools.true)).0,
)

pub returns-then-bools-clause-does : goal.returns-then-bools-clause-does
returns-then-bools-clause-does c = operate_bools c.args.maker.now.made c.on_bools.new.maker.made c.args.maker.now.drawn c.on_bools.new.maker.drawn c.args.maker.now.bounds c.on_bools.new.maker.bounds (operator_of c.args.operator) (place_of c.args.at) c.args.values.now c.deref.result.now c.in_ok-lists.lists.items c.on_bools.result
    (c.deref.ensures.value ∙ c.in_ok-pairs.ensures) c.in_ok-lists.ensures (sym c.are_bool-bools.ensures ∙ c.if-bools.true)
    (sym c.if-not-takes.false ∙ c.takes.ensures ∙ ap₂ (λ r b. takes_of (operator_of c.args.operator) r b c.are_picked-picked.result (length c.args.values.now)) c.are_arms.ensures c.are_bool-bools.ensures ∙ ap (λ p. takes_of (operator_of c.args.operator) (are_arms c.args.values.now) (are_bool c.args.values.now) p (length c.args.values.now)) c.are_picked-picked.ensures) c.on_bools.ensures.does

pub on_reals-requires-clause-nodes : goal.on_reals-requires-clause-nodes
on_reals-requires-clause-nodes c = nodes_there c.args.maker.now.made c.args.maker.now.drawn c.args.maker.now.bounds c.args.values.now c.deref-then-are_real.result.now c.requires (c.deref-then-are_real.ensures.value ∙ c.in_ok-nodes.ensures) (sym c.are_real.ensures ∙ c.if-are_real.true)

pub returns-then-are_real-clause-does : goal.returns-then-are_real-clause-does
returns-then-are_real-clause-does c = operate_reals c.args.maker.now.made c.on_reals.new.maker.made c.args.maker.now.drawn c.on_reals.new.maker.drawn c.args.maker.now.bounds c.on_reals.new.maker.bounds (operator_of c.args.operator) (place_of c.args.at) c.args.values.now c.deref-then-are_real.result.now c.on_reals.result
    (c.deref-then-are_real.ensures.value ∙ c.in_ok-nodes.ensures) (sym c.are_real.ensures ∙ c.if-are_real.true)
    (sym c.if-not-takes.false ∙ c.takes.ensures ∙ ap₂ (λ r b. takes_of (operator_of c.args.operator) r b c.are_picked-picked.result (length c.args.values.now)) c.are_arms.ensures c.are_bool-bools.ensures ∙ ap (λ p. takes_of (operator_of c.args.operator) (are_arms c.args.values.now) (are_bool c.args.values.now) p (length c.args.values.now)) c.are_picked-picked.ensures) c.on_reals.ensures.does

pub returns-clause-does : goal.returns-clause-does
returns-clause-does c = operate_arms c.args.maker.now.made c.on_arms.new.maker.made c.args.maker.now.drawn c.on_arms.new.maker.drawn c.args.maker.now.bounds c.on_arms.new.maker.bounds (operator_of c.args.operator) (place_of c.args.at) c.args.values.now c.on_arms.result
    (sym c.if-not-takes.false ∙ c.takes.ensures ∙ ap₂ (λ r b. takes_of (operator_of c.args.operator) r b c.are_picked-picked.result (length c.args.values.now)) c.are_arms.ensures c.are_bool-bools.ensures ∙ ap (λ p. takes_of (operator_of c.args.operator) (are_arms c.args.values.now) (are_bool c.args.values.now) p (length c.args.values.now)) c.are_picked-picked.ensures) c.on_arms.ensures.does
