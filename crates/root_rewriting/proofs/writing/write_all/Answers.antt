use Rattle.std.proofs.Common.{◌≡◌, ◌∙◌, ◌-◌, ◌∷◌, List, length, take, drop, map, ap, sym, subst, arith}
use Rattle.script_model.specs.Script.{Command}
use Rattle.root_rewriting.specs.Nodes.{trees_in}
use Rattle.root_rewriting.specs.Drafts.{AreDraftsBelow, draft_command}
use Rattle.root_rewriting.specs.Placing.{InWriting}
use Rattle.root_rewriting.specs.declared.drafts.Draft.{Draft}
use Rattle.root_rewriting.proofs.Listing.{first_there}
use Rattle.root_rewriting.proofs.Placing.{can_go_on}
use Rattle.root_rewriting.proofs.writing.write_all.Goals as goal

pub write-requires-clause-can : goal.write-requires-clause-can
write-requires-clause-can c = can_go_on c.loop-rest.writing.writer c.loop-rest.writing.placed.items _ _ (c.loop-rest.invariant.writes c.requires.named.0 c.requires.named.1)

pub loop-rest-preserved : goal.loop-rest-preserved
loop-rest-preserved c =
    let s = c.args.spelling.now in
    let rest = c.loop-rest.rest.now in
    let item = c.draft-item.result in
    let later : List Draft = take (length rest - 1) (drop 1 rest) in
    let is : rest ≡ item ∷ later = first_there rest item (omega (arith, c.in-len1-up.len_at_least)) ∙ ap (λ (d : Draft). d ∷ later) (sym c.draft-item.is) in
    record {
      below = let all = subst (λ (ds : List Draft). AreDraftsBelow (length s.trees.now) (length s.names.now) ds) is c.loop-rest.invariant.below in all.1;
      writes = λ table named.
          let C = draft_command s.names.now table (trees_in s.trees.now) in
          c.in_ok-write.ensures.writes table (map C c.args.drafts.now) (map C later) named
          (subst (λ (ds : List Draft). InWriting c.loop-rest.writing.writer c.loop-rest.writing.placed.items (map C c.args.drafts.now) (map C ds)) is (c.loop-rest.invariant.writes table named));
    }
