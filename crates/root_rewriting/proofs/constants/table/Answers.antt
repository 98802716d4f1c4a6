use Rattle.std.proofs.Common.{◌≡◌, ◌∙◌, List, ℕ, [], map, length, ap, subst, sym}
use Rattle.script_roots.specs.Fresh.{fresh_of, named_from, once}
use Rattle.root_rewriting.specs.Nodes.{AreBelow, parts_at, trees_in}
use Rattle.root_rewriting.specs.Asserted.{AreAsserted}
use Rattle.root_rewriting.specs.declared.unfold.assertions.Assertion.{Assertion}
use Rattle.root_rewriting.specs.Found.{AreOwn}
use Rattle.root_rewriting.specs.Table.{entry_of}
use Rattle.std.specs.Prelude.{IfOk}
use Rattle.root_rewriting.proofs.constants.table.Goals as goal

pub order-requires-clause-source : goal.order-requires-clause-source
order-requires-clause-source c = record {
  classes = c.requires.classes;
  all = c.requires.whole;
  own = ap length c.as_slice.ensures.value ∙ c.in_ok-own.ensures.all;
}

pub order-requires-clause-assertions : goal.order-requires-clause-assertions
order-requires-clause-assertions c = (
  c.requires.assertions.0,
  subst (λ (us : List Assertion). AreAsserted (trees_in c.args.asserted.now.trees) us c.requires.assertions.0) (sym c.as_slice-2.ensures.value) c.requires.assertions.1,
)

pub named-requires : goal.named-requires
named-requires c = subst (λ (ks : List ℕ). AreBelow (length c.args.asserted.now.trees) ks) (sym c.as_slice-3.ensures.value) c.in_ok-order.ensures.below

pub returns-clause-table : goal.returns-clause-table
returns-clause-table c = λ names claims e are.
    let ts = trees_in c.args.asserted.now.trees in
    let own : AreOwn names ts c.as_slice.result.now = c.as_slice.ensures.value ∙ c.in_ok-own.ensures.own names e in
    let given = subst (λ (us : List Assertion). AreAsserted ts us claims) (sym c.as_slice-2.ensures.value) are in
    let all : named_from 0 0 (parts_at ts c.as_slice-3.result.now) ≡ named_from 0 0 (once [] (fresh_of names claims)) =
    ap (λ ks. named_from 0 0 (parts_at ts ks)) c.as_slice-3.ensures.value ∙ ap (named_from 0 0) (c.in_ok-order.ensures.once names claims own given) in
    subst (λ entries. IfOk c.named.result (λ table. map (entry_of ts) table.items ≡ entries)) all c.named.ensures.named
