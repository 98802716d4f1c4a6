use Rattle.std.proofs.Common.{◌++◌, ◌∷◌, [], ◌∙◌, List, length, ap, subst, arith}
use Rattle.script_roots.specs.Fresh.{fresh_in, once}
use Rattle.root_rewriting.specs.Nodes.{tree_at, trees_in}
use Rattle.root_rewriting.proofs.TreeLists.{none_left}
use Rattle.root_rewriting.specs.Walk.{AreWorks, Walks}
use Rattle.root_rewriting.specs.declared.walk.Work.{Work}
use Rattle.root_rewriting.specs.declared.walk.Work.TheVariants.{Enter}
use Rattle.root_rewriting.proofs.Steps.{walk_begins, walk_ended}
use Rattle.root_rewriting.proofs.walk.walk.Goals as goal

pub works-init : goal.works-init
works-init c =
    walk_begins c.args.source.now c.args.found.now c.args.at c.push.new.self.items (c.in_ok-push.ensures.items ∙ ap (λ us. us ++ (Enter c.args.at ∷ [])) c.new-stack.ensures.items) c.requires.sized c.requires.at

pub step-requires-clause-works : goal.step-requires-clause-works
step-requires-clause-works c = subst (λ (us : List Work). AreWorks (length c.args.source.now.trees.now) us) (c.in-Some.ensures.items) c.works.invariant.works

pub works-preserved : goal.works-preserved
works-preserved c = record {
  sized = c.in_ok-step.ensures.sized;
  works = c.in_ok-step.ensures.works;
  walks = λ ranges seen own found.
      let end = once seen (fresh_in ranges (tree_at (trees_in c.args.source.now.trees.now) c.args.at)) in
      c.in_ok-step.ensures.walks ranges end own
      (subst (λ (us : List Work). Walks ranges c.args.source.now c.works.found us end) c.in-Some.ensures.items (c.works.invariant.walks ranges seen own found));
}

pub returns-clause-found : goal.returns-clause-found
returns-clause-found c = walk_ended c.args.source.now c.args.found.now c.works.found c.args.at c.works.stack.items (none_left c.works.stack.items (omega (arith, c.in_default.ensures.cases.0, c.works.stack.ok.0))) c.works.invariant
