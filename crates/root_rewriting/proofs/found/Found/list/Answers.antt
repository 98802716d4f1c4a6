use Rattle.std.proofs.Common.{◌≡◌, ◌∙◌, List, ℕ, true, false, length, get_or, sym, subst, refl, arith}
use Rattle.std.proofs.lemmas.List.{length-set}
use Rattle.root_rewriting.specs.Nodes.{AreBelow}
use Rattle.root_rewriting.proofs.Listing.{below_end, class_within, found_more, found_same, none_own, own_listed, read_there}
use Rattle.root_rewriting.proofs.found.Found.list.Goals.{else-source-at-via-then-source-at+else-not-index, else-source-at-via-else-source-at}
use Rattle.root_rewriting.proofs.found.Found.list.Goals as goal

pub index-requires : goal.index-requires
index-requires c = let lt = class_within c.args.source.now c.requires.source c.args.at c.requires.at in omega (arith, c.requires.sized.listed, c.args.self.now.listed.ok.0)

pub index_mut-requires : goal.index_mut-requires
index_mut-requires c = let lt = class_within c.args.source.now c.requires.source c.args.at c.requires.at in omega (arith, c.requires.sized.listed, c.args.self.now.listed.ok.0)

pub returns-in_ok-push-clause-sized : goal.returns-in_ok-push-clause-sized
returns-in_ok-push-clause-sized c = record {
  listed = length-set c.args.self.now.listed.items (get_or c.args.source.now.classes.now c.args.at 0) true ∙ c.requires.sized.listed;
  marked = c.requires.sized.marked;
  order = subst (λ (ks : List ℕ). AreBelow (length c.args.source.now.trees.now) ks) (sym c.in_ok-push.ensures.items) (below_end (length c.args.source.now.trees.now) c.args.self.now.order.items c.args.at c.requires.sized.order c.requires.at);
}

pub returns-in_ok-push-clause-found : goal.returns-in_ok-push-clause-found
returns-in_ok-push-clause-found c = λ ranges seen own found.
    let l : get_or c.args.self.now.listed.items (get_or c.args.source.now.classes.now c.args.at 0) false ≡ false =
    let lt = class_within c.args.source.now c.requires.source c.args.at c.requires.at in
    read_there c.args.self.now.listed.items (get_or c.args.source.now.classes.now c.args.at 0) c.index.result.now false false (omega (arith, c.requires.sized.listed)) c.index.ensures c.if-not-index.true in
    found_more ranges c.args.source.now c.requires.source c.args.self.now c.args.at c.requires.at seen own found c.requires.sized c.if-source-at.true l _ c.in_ok-push.ensures.items refl refl

pub returns-else-source-at-clause-found : goal.returns-else-source-at-clause-found
returns-else-source-at-clause-found c = λ ranges seen own found.
    found_same ranges c.args.source.now c.requires.source c.args.self.now c.args.at c.requires.at seen own found
    (elim c.else-source-at.branch [
      | else-source-at-via-then-source-at+else-not-index w ↦
          let l : get_or c.args.self.now.listed.items (get_or c.args.source.now.classes.now c.args.at 0) false ≡ true =
          let lt = class_within c.args.source.now c.requires.source c.args.at c.requires.at in
          read_there c.args.self.now.listed.items (get_or c.args.source.now.classes.now c.args.at 0) w.index.result.now true false (omega (arith, c.requires.sized.listed)) w.index.ensures w.if-not-index.false in
          own_listed ranges c.args.source.now c.requires.source c.args.self.now c.args.at c.requires.at seen own found w.if-source-at.true l
      | else-source-at-via-else-source-at w ↦
          none_own ranges c.args.source.now c.requires.source c.args.self.now c.args.at c.requires.at seen own found w.if-source-at.false
    ])
