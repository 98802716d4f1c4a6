use Rattle.std.proofs.Common.{◌≡◌, ◌<◌, ◌++◌, ◌∷◌, [], ◌∙◌, true, false, length, get_or, sym, ap, subst, arith}
use Rattle.std.proofs.lemmas.Result.{on_ok_weaker}
use Rattle.script_roots.specs.Fresh.{once}
use Rattle.root_rewriting.specs.Nodes.{tree_at, trees_in}
use Rattle.root_rewriting.specs.Found.{own_in}
use Rattle.root_rewriting.specs.Walk.{AreWorks, Walks, enters, node_parts, place_in, weight}
use Rattle.root_rewriting.proofs.Alike.{shown}
use Rattle.root_rewriting.proofs.Listing.{read_there}
use Rattle.root_rewriting.proofs.Steps.{entered_falls, marked_falls, top_within, walk_entered, walk_marked, walk_ready, works_entered, works_split}
use Rattle.root_rewriting.proofs.walk.step.Goals as goal

pub leave-requires-clause-at : goal.leave-requires-clause-at
leave-requires-clause-at c = subst (λ w. place_in w < length c.args.source.now.trees.now) c.in-Leave.is (top_within (length c.args.source.now.trees.now) c.args.stack.now.items c.args.work c.requires.works)

pub index-requires : goal.index-requires
index-requires c = let lt : c.in-Enter.at < length c.args.source.now.trees.now = subst (λ w. place_in w < length c.args.source.now.trees.now) c.in-Enter.is (top_within (length c.args.source.now.trees.now) c.args.stack.now.items c.args.work c.requires.works) in omega (arith, c.requires.sized.marked, c.args.found.now.marked.ok.0)

pub returns-then-index-clause-sized : goal.returns-then-index-clause-sized
returns-then-index-clause-sized c = c.requires.sized

pub returns-then-index-clause-works : goal.returns-then-index-clause-works
returns-then-index-clause-works c = (works_split (length c.args.source.now.trees.now) c.args.stack.now.items (c.args.work ∷ []) c.requires.works).0

pub returns-then-index-clause-falls : goal.returns-then-index-clause-falls
returns-then-index-clause-falls c = marked_falls (trees_in c.args.source.now.trees.now) c.args.stack.now.items c.args.work

pub returns-then-index-clause-walks : goal.returns-then-index-clause-walks
returns-then-index-clause-walks c = λ ranges end own w.
    let lt : c.in-Enter.at < length c.args.source.now.trees.now = subst (λ v. place_in v < length c.args.source.now.trees.now) c.in-Enter.is (top_within (length c.args.source.now.trees.now) c.args.stack.now.items c.args.work c.requires.works) in
    let m : get_or c.args.found.now.marked.items c.in-Enter.at false ≡ true = read_there c.args.found.now.marked.items c.in-Enter.at c.index.result.now true false (omega (arith, c.requires.sized.marked, lt)) c.index.ensures c.if-index.true in
    walk_marked ranges c.args.source.now c.args.found.now c.args.stack.now.items c.in-Enter.at end lt m (subst (λ v. Walks ranges c.args.source.now c.args.found.now (c.args.stack.now.items ++ (v ∷ [])) end) c.in-Enter.is w)

pub look-requires : goal.look-requires
look-requires c = subst (λ w. place_in w < length c.args.source.now.trees.now) c.in-Enter.is (top_within (length c.args.source.now.trees.now) c.args.stack.now.items c.args.work c.requires.works)

pub returns-in-Leave-clause-works : goal.returns-in-Leave-clause-works
returns-in-Leave-clause-works c = on_ok_weaker c.leave.result (λ s. (works_split (length c.args.source.now.trees.now) c.args.stack.now.items (c.args.work ∷ []) c.requires.works).0) c.leave.ensures.sized

pub returns-in-Leave-clause-falls : goal.returns-in-Leave-clause-falls
returns-in-Leave-clause-falls c = on_ok_weaker c.leave.result (λ s. marked_falls (trees_in c.args.source.now.trees.now) c.args.stack.now.items c.args.work) c.leave.ensures.sized

pub returns-in-Leave-clause-walks : goal.returns-in-Leave-clause-walks
returns-in-Leave-clause-walks c = λ ranges end own w.
    let k = walk_ready ranges c.args.source.now c.args.found.now c.args.stack.now.items c.in-Leave.at end (subst (λ v. Walks ranges c.args.source.now c.args.found.now (c.args.stack.now.items ++ (v ∷ [])) end) c.in-Leave.is w) in
    on_ok_weaker c.leave.result (λ found. record { seen = once k.0 (own_in ranges (tree_at (trees_in c.args.source.now.trees.now) c.in-Leave.at)); found = found; done = k.3; ends = k.4 }) (c.leave.ensures.found ranges k.0 own k.1 k.2)

pub returns-in_ok-push-in-Enter-clause-sized : goal.returns-in_ok-push-in-Enter-clause-sized
returns-in_ok-push-in-Enter-clause-sized c = on_ok_weaker c.push_parts.result (λ s. c.requires.sized) c.push_parts.ensures

pub returns-in_ok-push-in-Enter-clause-works : goal.returns-in_ok-push-in-Enter-clause-works
returns-in_ok-push-in-Enter-clause-works c = on_ok_weaker c.push_parts.result
    (λ s. works_entered (length c.args.source.now.trees.now) c.args.stack.now.items c.push_parts.new.stack.items c.in-Enter.at c.look.result.now (s ∙ ap (λ us. us ++ enters (node_parts c.look.result.now)) c.in_ok-push-in-Enter.ensures.items) c.look.ensures.1
    (subst (λ v. AreWorks (length c.args.source.now.trees.now) (c.args.stack.now.items ++ (v ∷ []))) c.in-Enter.is c.requires.works)) c.push_parts.ensures

pub returns-in_ok-push-in-Enter-clause-falls : goal.returns-in_ok-push-in-Enter-clause-falls
returns-in_ok-push-in-Enter-clause-falls c = on_ok_weaker c.push_parts.result
    (λ s. subst (λ v. weight (trees_in c.args.source.now.trees.now) c.push_parts.new.stack.items < weight (trees_in c.args.source.now.trees.now) (c.args.stack.now.items ++ (v ∷ []))) (sym c.in-Enter.is)
    (entered_falls (trees_in c.args.source.now.trees.now) c.args.stack.now.items c.push_parts.new.stack.items c.in-Enter.at c.look.result.now (shown (trees_in c.args.source.now.trees.now) c.in-Enter.at c.look.result.now c.look.ensures) (s ∙ ap (λ us. us ++ enters (node_parts c.look.result.now)) c.in_ok-push-in-Enter.ensures.items))) c.push_parts.ensures

pub returns-in_ok-push-in-Enter-clause-walks : goal.returns-in_ok-push-in-Enter-clause-walks
returns-in_ok-push-in-Enter-clause-walks c = λ ranges end own w. on_ok_weaker c.push_parts.result
    (λ s. walk_entered ranges c.args.source.now c.args.found.now c.args.stack.now.items c.in-Enter.at end c.look.result.now c.push_parts.new.stack.items (shown (trees_in c.args.source.now.trees.now) c.in-Enter.at c.look.result.now c.look.ensures)
    (s ∙ ap (λ us. us ++ enters (node_parts c.look.result.now)) c.in_ok-push-in-Enter.ensures.items) (subst (λ v. Walks ranges c.args.source.now c.args.found.now (c.args.stack.now.items ++ (v ∷ [])) end) c.in-Enter.is w)) c.push_parts.ensures
