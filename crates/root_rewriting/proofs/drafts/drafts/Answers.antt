use Rattle.std.proofs.Common.{◌≡◌, ◌<◌, List, [], ◌∷◌, length, get_or, map, false, ap, sym, subst, arith}
use Rattle.root_rewriting.specs.Asserted.{AreAsserted}
use Rattle.root_rewriting.specs.Nodes.{trees_in}
use Rattle.root_rewriting.specs.declared.unfold.assertions.Assertion.{Assertion}
use Rattle.root_rewriting.proofs.Arena.{nodes_length}
use Rattle.root_rewriting.specs.Drafts.{IsContentBelow, draft_of}
use Rattle.root_rewriting.specs.Spelling.{fresh_name}
use Rattle.root_rewriting.specs.declared.drafts.Draft.{Draft}
use Rattle.root_rewriting.proofs.Drafted.{all_drafts, below_more, claim_within, next_draft}
use Rattle.root_rewriting.proofs.drafts.drafts.Goals as goal

pub loop-assertion-preserved : goal.loop-assertion-preserved
loop-assertion-preserved c =
    let cs = c.as_slice-assertion-items.result.now in
    let i = c.loop-assertion.assertion-index in
    let d : Assertion = record { place = record { line = 0; column = 0 }; is_goal = false; tree = 0 } in
    let trees = length c.args.asserted.now.trees in
    let names = length c.args.table.now in
    let ts = trees_in c.args.asserted.now.trees in
    let lt : i < length cs = omega arith in
    let are = subst (λ (us : List Assertion). AreAsserted ts us c.requires.assertions.0) (sym c.as_slice-assertion-items.ensures.value) c.requires.assertions.1 in
    let there : (get_or cs i d).tree < trees = omega (arith, claim_within ts cs c.requires.assertions.0 i d are lt, nodes_length c.args.asserted.now.trees) in
    record {
      below = below_more trees names c.loop-assertion.drafts.items c.push.new.self.items (c.assertion_draft.result ∷ []) c.in_ok-push.ensures.items c.loop-assertion.invariant.below
          (subst (λ (x : Draft). IsContentBelow trees names x.content) (sym c.assertion_draft.ensures) there, tt);
      are = next_draft cs i d c.in_ok-drafts.drafts.items c.loop-assertion.drafts.items c.push.new.self.items c.assertion_draft.result lt c.in_ok-push.ensures.items c.assertion_draft.ensures c.loop-assertion.invariant.are;
    }

pub returns-clause-drafts : goal.returns-clause-drafts
returns-clause-drafts c = λ ranged names claims e are.
    let ts = trees_in c.args.asserted.now.trees in
    let cs = c.as_slice-assertion-items.result.now in
    all_drafts (map fresh_name c.args.table.now) names ts cs c.loop-assertion.assertion-index c.in_ok-drafts.drafts.items c.loop-assertion.drafts.items claims _ (omega arith) c.loop-assertion.invariant.are
    (c.in_ok-drafts.ensures.claims ranged names e) (subst (λ (us : List Assertion). AreAsserted ts us claims) (sym c.as_slice-assertion-items.ensures.value) are)
