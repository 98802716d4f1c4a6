use Rattle.std.proofs.Common.{length, get_or, map, refl, arith}
use Rattle.root_rewriting.specs.Nodes.{trees_in}
use Rattle.root_rewriting.specs.Spelling.{fresh_name}
use Rattle.root_rewriting.specs.declared.constants.Fresh.{Fresh}
use Rattle.root_rewriting.specs.declared.constants.Kind.TheVariants.{Root}
use Rattle.root_rewriting.proofs.Drafted.{next_claims}
use Rattle.root_rewriting.proofs.drafts.claims.Goals as goal

pub loop-constant-preserved : goal.loop-constant-preserved
loop-constant-preserved c =
    let fs = c.args.table.now in
    let i = c.loop-constant.constant in
    let d : Fresh = record { tree = 0; kind = Root; number = 0 } in
    record {
      below = c.in_ok-push_claims.ensures.below (length fs) (omega arith) c.loop-constant.invariant.below;
      claims = λ ranged names e.
          next_claims (map fresh_name fs) names (trees_in c.args.trees.now) ranged fs i (get_or fs i d) d c.loop-constant.drafts.items c.push_claims.new.drafts.items (omega arith) refl refl
          (c.in_ok-push_claims.ensures.claims ranged (map fresh_name fs) names e) (c.loop-constant.invariant.claims ranged names e);
    }
