use Rattle.std.proofs.Common.{◌≡◌, ◌<◌, ◌++◌, ◌∷◌, [], ◌∙◌, List, map, length, get_or, ap, ap₂, sym, subst, arith, append_assoc, append-nil}
use Rattle.std.proofs.lemmas.Result.{on_ok_weaker}
use Rattle.ival.specs.Views.{interval_of}
use Rattle.script_model.specs.Script.{Command}
use Rattle.script_roots.specs.Ranges.{enclosed, quotient_range}
use Rattle.script_roots.specs.Rewritten.{claims_of}
use Rattle.root_rewriting.specs.Nodes.{IsBelow, node_tree, tree_at, trees_in}
use Rattle.root_rewriting.specs.declared.unfold.trees.Node.{Node}
use Rattle.root_rewriting.proofs.Arena.{nodes_length}
use Rattle.root_rewriting.specs.Drafts.{claim_draft, draft_command, drafts_of_range}
use Rattle.root_rewriting.specs.declared.drafts.Content.TheVariants.{Product}
use Rattle.root_rewriting.specs.declared.drafts.Draft.{Draft}
use Rattle.root_rewriting.proofs.Alike.{shown}
use Rattle.root_rewriting.proofs.Drafted.{more_claims, on_ok_then, other_claims, quotient_claims, root_claims}
use Rattle.root_rewriting.proofs.Tables.{enclosed_there}
use Rattle.root_rewriting.proofs.drafts.push_claims.Goals as goal

pub returns-in-Root-clause-claims : goal.returns-in-Root-clause-claims
returns-in-Root-clause-claims c = λ ranged names table e.
    let ts = trees_in c.args.trees.now in
    let k = c.in-Root.argument in
    let old = c.args.drafts.now.items in
    let new = c.extend_from_slice.new.self.items in
    let lt : k < c.args.tree = subst (λ (x : Node). IsBelow c.args.tree x) c.in-Root.is c.look.ensures.1 in
    let is = shown ts c.args.tree c.look.result.now c.look.ensures ∙ ap (node_tree ts) c.in-Root.is in
    let here : interval_of c.index-ranges-argument.result ≡ enclosed ranged (tree_at ts k) =
    enclosed_there ranged ts c.args.ranges.now k c.index-ranges-argument.result e (omega (arith, lt, c.requires.all, c.requires.tree)) (omega (arith, lt, nodes_length c.args.trees.now, c.requires.tree)) c.index-ranges-argument.is in
    let all : map (draft_command names table ts) c.root_drafts.result ≡ claims_of ranged table (get_or names c.args.constant []) (tree_at ts c.args.tree) =
    ap (map (draft_command names table ts)) c.root_drafts.ensures ∙ root_claims names table ts ranged c.in-Root.place c.args.constant k (interval_of c.index-ranges-argument.result) here ∙
    ap (claims_of ranged table (get_or names c.args.constant [])) (sym is) in
    on_ok_weaker c.extend_from_slice.result (λ s. more_claims names table ts old new c.root_drafts.result _ s all) (on_ok_then c.extend_from_slice.result new (old ++ c.root_drafts.result) old c.extend_from_slice.ensures.items)

pub returns-in_ok-push-in-Quotient-clause-claims : goal.returns-in_ok-push-in-Quotient-clause-claims
returns-in_ok-push-in-Quotient-clause-claims c = λ ranged names table e.
    let ts = trees_in c.args.trees.now in
    let k = c.in-Quotient.dividend in
    let d = c.in-Quotient.divisor in
    let i = c.args.constant in
    let old = c.args.drafts.now.items in
    let range = c.quotient_range-range.result in
    let ends = drafts_of_range c.in-Quotient.place i range in
    let last : Draft = claim_draft c.in-Quotient.place (Product i d k) in
    let lt : (k < c.args.tree) × (d < c.args.tree) = subst (λ (x : Node). IsBelow c.args.tree x) c.in-Quotient.is c.look.ensures.1 in
    let is = shown ts c.args.tree c.look.result.now c.look.ensures ∙ ap (node_tree ts) c.in-Quotient.is in
    let over : interval_of c.index-ranges-dividend.result ≡ enclosed ranged (tree_at ts k) =
    enclosed_there ranged ts c.args.ranges.now k c.index-ranges-dividend.result e (omega (arith, lt.0, c.requires.all, c.requires.tree)) (omega (arith, lt.0, nodes_length c.args.trees.now, c.requires.tree)) c.index-ranges-dividend.is in
    let under : interval_of c.index-ranges-divisor.result ≡ enclosed ranged (tree_at ts d) =
    enclosed_there ranged ts c.args.ranges.now d c.index-ranges-divisor.result e (omega (arith, lt.1, c.requires.all, c.requires.tree)) (omega (arith, lt.1, nodes_length c.args.trees.now, c.requires.tree)) c.index-ranges-divisor.is in
    more_claims names table ts old c.push.new.self.items (ends ++ (last ∷ [])) (claims_of ranged table (get_or names i []) (tree_at ts c.args.tree))
    (c.in_ok-push-in-Quotient.ensures.items ∙ ap (λ us. us ++ (last ∷ [])) (c.in_ok-extend_from_slice-in-Quotient.ensures.items ∙ ap (λ us. old ++ us) c.end_drafts.ensures) ∙ append_assoc old ends (last ∷ []))
    (quotient_claims names table ts ranged c.in-Quotient.place i k d range (c.quotient_range-range.ensures ∙ ap₂ quotient_range over under) ∙ ap (claims_of ranged table (get_or names i [])) (sym is))

pub returns-in_default : goal.returns-in_default
returns-in_default c = record {
  below = λ n lt h. h;
  claims = λ ranged names table e.
      let ts = trees_in c.args.trees.now in
      let old : List Command = map (draft_command names table ts) c.args.drafts.now.items in
      let x = get_or names c.args.constant [] in
      sym (append-nil old) ∙ ap (λ us. old ++ us)
      (other_claims names table ts ranged x c.look.result.now c.in_default.not-Root c.in_default.not-Quotient ∙ ap (claims_of ranged table x) (sym (shown ts c.args.tree c.look.result.now c.look.ensures)));
}
