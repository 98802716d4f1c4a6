use Rattle.std.proofs.Common.{◌<◌, ◌++◌, ◌∷◌, [], ◌∙◌, length, sym, ap, subst}
use Rattle.std.proofs.lemmas.Result.{on_ok_weaker}
use Rattle.root_rewriting.specs.Nodes.{tree_at, trees_in}
use Rattle.root_rewriting.specs.Spelling.{Begins, CanSpell, Spells}
use Rattle.root_rewriting.specs.Walk.{AreWorks, enters, node_parts, place_in, weight}
use Rattle.root_rewriting.proofs.Alike.{shown}
use Rattle.root_rewriting.proofs.Spelled.{can_close, spells_begun, spells_left, spells_whole}
use Rattle.root_rewriting.proofs.Steps.{entered_falls, marked_falls, top_within, works_entered, works_split}
use Rattle.root_rewriting.proofs.Written.{on_both}
use Rattle.root_rewriting.proofs.spelling.step.Goals as goal

pub close-requires-clause-some : goal.close-requires-clause-some
close-requires-clause-some c = can_close c.args.spelling.now c.args.writer.now c.args.stack.now.items c.in-Leave.field-0
    (subst (λ w. CanSpell c.args.spelling.now c.args.writer.now (c.args.stack.now.items ++ (w ∷ []))) c.in-Leave.is c.requires.can)

pub begin-requires-clause-at : goal.begin-requires-clause-at
begin-requires-clause-at c = subst (λ w. place_in w < length c.args.spelling.now.trees.now) c.in-Enter.is (top_within (length c.args.spelling.now.trees.now) c.args.stack.now.items c.args.work c.requires.works)

pub look-requires : goal.look-requires
look-requires c = subst (λ w. place_in w < length c.args.spelling.now.trees.now) c.in-Enter.is (top_within (length c.args.spelling.now.trees.now) c.args.stack.now.items c.args.work c.requires.works)

-- ---- a tree that is written whole

pub returns-then-branch-clause-works : goal.returns-then-branch-clause-works
returns-then-branch-clause-works c = (works_split (length c.args.spelling.now.trees.now) c.args.stack.now.items (c.args.work ∷ []) c.requires.works).0

pub returns-then-branch-clause-falls : goal.returns-then-branch-clause-falls
returns-then-branch-clause-falls c = marked_falls (trees_in c.args.spelling.now.trees.now) c.args.stack.now.items c.args.work

pub returns-then-branch-clause-spells : goal.returns-then-branch-clause-spells
returns-then-branch-clause-spells c = λ table end tokens named s.
    let ts = trees_in c.args.spelling.now.trees.now in
    spells_whole table ts c.args.writer.now c.begin.new.writer c.args.stack.now.items c.in-Enter.at end tokens
    (subst (Begins table c.args.writer.now c.begin.new.writer (tree_at ts c.in-Enter.at)) c.if-branch.true (c.in_ok-begin-in-Enter.ensures table named))
    (subst (λ w. Spells table ts c.args.writer.now (c.args.stack.now.items ++ (w ∷ [])) end tokens) c.in-Enter.is s)

-- ---- a group that is closed

pub returns-in-Leave-clause-works : goal.returns-in-Leave-clause-works
returns-in-Leave-clause-works c = on_ok_weaker c.close.result (λ s. (works_split (length c.args.spelling.now.trees.now) c.args.stack.now.items (c.args.work ∷ []) c.requires.works).0) c.close.ensures.count

pub returns-in-Leave-clause-falls : goal.returns-in-Leave-clause-falls
returns-in-Leave-clause-falls c = on_ok_weaker c.close.result (λ s. marked_falls (trees_in c.args.spelling.now.trees.now) c.args.stack.now.items c.args.work) c.close.ensures.count

pub returns-in-Leave-clause-spells : goal.returns-in-Leave-clause-spells
returns-in-Leave-clause-spells c = λ table end tokens named s.
    let ts = trees_in c.args.spelling.now.trees.now in
    on_both c.close.result
    (λ shuts count. spells_left table ts c.args.writer.now c.close.new.self c.args.stack.now.items c.in-Leave.field-0 end tokens shuts count
    (subst (λ w. Spells table ts c.args.writer.now (c.args.stack.now.items ++ (w ∷ [])) end tokens) c.in-Leave.is s)) c.close.ensures.written c.close.ensures.count

-- ---- a group that is begun

pub returns-in_ok-push-in-Enter-clause-works : goal.returns-in_ok-push-in-Enter-clause-works
returns-in_ok-push-in-Enter-clause-works c = on_ok_weaker c.push_parts.result
    (λ s. works_entered (length c.args.spelling.now.trees.now) c.args.stack.now.items c.push_parts.new.stack.items c.in-Enter.at c.look.result.now (s ∙ ap (λ us. us ++ enters (node_parts c.look.result.now)) c.in_ok-push-in-Enter.ensures.items) c.look.ensures.1
    (subst (λ w. AreWorks (length c.args.spelling.now.trees.now) (c.args.stack.now.items ++ (w ∷ []))) c.in-Enter.is c.requires.works)) c.push_parts.ensures

pub returns-in_ok-push-in-Enter-clause-falls : goal.returns-in_ok-push-in-Enter-clause-falls
returns-in_ok-push-in-Enter-clause-falls c =
    let ts = trees_in c.args.spelling.now.trees.now in
    on_ok_weaker c.push_parts.result
    (λ s. subst (λ w. weight ts c.push_parts.new.stack.items < weight ts (c.args.stack.now.items ++ (w ∷ []))) (sym c.in-Enter.is)
    (entered_falls ts c.args.stack.now.items c.push_parts.new.stack.items c.in-Enter.at c.look.result.now (shown ts c.in-Enter.at c.look.result.now c.look.ensures)
    (s ∙ ap (λ us. us ++ enters (node_parts c.look.result.now)) c.in_ok-push-in-Enter.ensures.items))) c.push_parts.ensures

pub returns-in_ok-push-in-Enter-clause-spells : goal.returns-in_ok-push-in-Enter-clause-spells
returns-in_ok-push-in-Enter-clause-spells c = λ table end tokens named h.
    let ts = trees_in c.args.spelling.now.trees.now in
    on_ok_weaker c.push_parts.result
    (λ s. spells_begun table ts c.args.writer.now c.begin.new.writer c.args.stack.now.items c.push_parts.new.stack.items c.in-Enter.at c.look.result.now end tokens
    (shown ts c.in-Enter.at c.look.result.now c.look.ensures) (s ∙ ap (λ us. us ++ enters (node_parts c.look.result.now)) c.in_ok-push-in-Enter.ensures.items)
    (subst (Begins table c.args.writer.now c.begin.new.writer (tree_at ts c.in-Enter.at)) c.if-branch.false (c.in_ok-begin-in-Enter.ensures table named))
    (subst (λ w. Spells table ts c.args.writer.now (c.args.stack.now.items ++ (w ∷ [])) end tokens) c.in-Enter.is h)) c.push_parts.ensures
