-- What is written is the commit, so the book stays one.
use Rattle.std.proofs.Common.{◌≡◌, suc, ◌+◌, List, map, length, sym, subst, arith}
use Rattle.std.proofs.lemmas.List.{length-map}
use Rattle.cover_data.specs.Views.{kept_of, end_line}
use Rattle.cover_book.specs.declared.node.Node.{Node}
use Rattle.cover_book.specs.declared.node.Node.TheVariants.{Closed, Parted, Stuck}
use Rattle.cover_book.specs.declared.refusal.Kids.TheVariants as kids
use Rattle.cover_book.specs.declared.calls.Call.TheVariants as call
use Rattle.cover_book.specs.declared.calls.Reply.TheVariants as reply
use Rattle.cover_book.specs.Ending.{IsEndingOf}
use Rattle.cover_book.specs.Model.{BookModel}
use Rattle.cover_book.specs.Views.{first_state, node_of, learned_of}
use Rattle.cover_book.specs.Steps.{MayBeCalled, MayCommit, CommitStep}
use Rattle.cover_book.proofs.Kept.{step_keeps_book}
use Rattle.cover_book.proofs.Stores.{node_written, stored_closed, stored_stuck, stored_parted, parted_written, live_within}
use Rattle.cover_book.proofs.book.Book.store.Goals as goal

pub put-requires : goal.put-requires
put-requires c = let h = live_within c.self.inside.nodes.items c.args.node c.args.patch.first (subst (λ (b : BookModel). MayCommit b c.args.node (kept_of c.args.patch)) (sym c.self.view_is) c.requires.passes).live in omega (arith, h)

pub put-requires-in-Stuck : goal.put-requires-in-Stuck
put-requires-in-Stuck c = let h = live_within c.self.inside.nodes.items c.args.node c.args.patch.first (subst (λ (b : BookModel). MayCommit b c.args.node (kept_of c.args.patch)) (sym c.self.view_is) c.requires.passes).live in omega (arith, h)

pub part-requires-clause-place : goal.part-requires-clause-place
part-requires-clause-place c = let h = live_within c.self.inside.nodes.items c.args.node c.args.patch.first (subst (λ (b : BookModel). MayCommit b c.args.node (kept_of c.args.patch)) (sym c.self.view_is) c.requires.passes).live in omega (arith, h)

pub invariant_of-self : goal.invariant_of-self
invariant_of-self c =
    let lines = c.in-Ok.outcome.0 in
    let passes = subst (λ (b : BookModel). MayCommit b c.args.node (kept_of c.args.patch)) (sym c.self.view_is) c.requires.passes in
    let e = subst (IsEndingOf (end_line lines.end) c.args.patch.reached) c.in-Closed.is c.in-Ok.ensures.2 in
    let new = stored_closed _ c.args.patch c.args.node lines c.in-Ok.ensures.0 c.in-Ok.ensures.1 passes c.on_grid.ensures e.0 e.1 _ (node_written c.self.inside.nodes.items c.put.new.nodes.items c.args.node (Closed lines) c.put.ensures.items) in
    step_keeps_book _ c.self.invariant (call.Commit c.args.node c.args.patch) (subst (λ (b : BookModel). MayBeCalled b (call.Commit c.args.node c.args.patch)) (sym c.self.view_is) c.requires.meets) (reply.Committed kids.None) _ new

pub returns-in-Closed : goal.returns-in-Closed
returns-in-Closed c =
    let lines = c.in-Ok.outcome.0 in
    let passes = subst (λ (b : BookModel). MayCommit b c.args.node (kept_of c.args.patch)) (sym c.self.view_is) c.requires.passes in
    let e = subst (IsEndingOf (end_line lines.end) c.args.patch.reached) c.in-Closed.is c.in-Ok.ensures.2 in
    let new = stored_closed _ c.args.patch c.args.node lines c.in-Ok.ensures.0 c.in-Ok.ensures.1 passes c.on_grid.ensures e.0 e.1 _ (node_written c.self.inside.nodes.items c.put.new.nodes.items c.args.node (Closed lines) c.put.ensures.items) in
    let b' : BookModel = record { problem = c.self.inside.problem; options = c.self.inside.options; root = first_state c.self.inside.problem c.self.inside.root; nodes = map node_of c.put.new.nodes.items; kept = c.self.inside.kept.items; lemmas = map learned_of c.self.inside.lemmas.items; branches = c.self.inside.branches; point = c.self.inside.point } in
    subst (λ (b : BookModel). CommitStep b c.args.node (kept_of c.args.patch) kids.None b') c.self.view_is new

pub invariant_of-self-in-Stuck : goal.invariant_of-self-in-Stuck
invariant_of-self-in-Stuck c =
    let lines = c.in-Ok.outcome.0 in
    let passes = subst (λ (b : BookModel). MayCommit b c.args.node (kept_of c.args.patch)) (sym c.self.view_is) c.requires.passes in
    let e = subst (IsEndingOf (end_line lines.end) c.args.patch.reached) c.in-Stuck.is c.in-Ok.ensures.2 in
    let new = stored_stuck _ c.args.patch c.args.node lines c.in-Ok.ensures.0 c.in-Ok.ensures.1 passes c.on_grid.ensures e.0 e.1 c.in-Stuck.state e.2 _ (node_written c.self.inside.nodes.items c.put-in-Stuck.new.nodes.items c.args.node (Stuck lines c.in-Stuck.state) c.put-in-Stuck.ensures.items) in
    step_keeps_book _ c.self.invariant (call.Commit c.args.node c.args.patch) (subst (λ (b : BookModel). MayBeCalled b (call.Commit c.args.node c.args.patch)) (sym c.self.view_is) c.requires.meets) (reply.Committed kids.None) _ new

pub returns-in-Stuck : goal.returns-in-Stuck
returns-in-Stuck c =
    let lines = c.in-Ok.outcome.0 in
    let passes = subst (λ (b : BookModel). MayCommit b c.args.node (kept_of c.args.patch)) (sym c.self.view_is) c.requires.passes in
    let e = subst (IsEndingOf (end_line lines.end) c.args.patch.reached) c.in-Stuck.is c.in-Ok.ensures.2 in
    let new = stored_stuck _ c.args.patch c.args.node lines c.in-Ok.ensures.0 c.in-Ok.ensures.1 passes c.on_grid.ensures e.0 e.1 c.in-Stuck.state e.2 _ (node_written c.self.inside.nodes.items c.put-in-Stuck.new.nodes.items c.args.node (Stuck lines c.in-Stuck.state) c.put-in-Stuck.ensures.items) in
    let b' : BookModel = record { problem = c.self.inside.problem; options = c.self.inside.options; root = first_state c.self.inside.problem c.self.inside.root; nodes = map node_of c.put-in-Stuck.new.nodes.items; kept = c.self.inside.kept.items; lemmas = map learned_of c.self.inside.lemmas.items; branches = c.self.inside.branches; point = c.self.inside.point } in
    subst (λ (b : BookModel). CommitStep b c.args.node (kept_of c.args.patch) kids.None b') c.self.view_is new

pub invariant_of-self-in-Parted : goal.invariant_of-self-in-Parted
invariant_of-self-in-Parted c =
    let lines = c.in-Ok.outcome.0 in let items : List Node = c.self.inside.nodes.items in
    let passes = subst (λ (b : BookModel). MayCommit b c.args.node (kept_of c.args.patch)) (sym c.self.view_is) c.requires.passes in
    let e = subst (IsEndingOf (end_line lines.end) c.args.patch.reached) c.in-Parted.is c.in-Ok.ensures.2 in
    let kid = c.in-Ok-part.kid in
    let count : kid ≡ length (map node_of items) = omega (arith, c.in-Ok-part.ensures.0, length-map items node_of) in
    let next : kid + 1 ≡ suc (length (map node_of items)) = omega (arith, count) in
    let more : c.self.inside.branches + 1 ≡ suc c.self.inside.branches = omega arith in
    let new = stored_parted _ c.args.patch c.args.node lines c.in-Ok.ensures.0 c.in-Ok.ensures.1 passes c.on_grid.ensures c.in-Parted.lower c.in-Parted.upper e kid (kid + 1) count next
    (map node_of c.part.new.nodes.items) (parted_written items c.part.new.nodes.items c.args.node (Parted lines kid) c.in-Parted.lower c.in-Parted.upper c.in-Ok-part.ensures.1) (c.self.inside.branches + 1) more in
    step_keeps_book _ c.self.invariant (call.Commit c.args.node c.args.patch) (subst (λ (b : BookModel). MayBeCalled b (call.Commit c.args.node c.args.patch)) (sym c.self.view_is) c.requires.meets) (reply.Committed (kids.Two kid (kid + 1))) _ new

pub returns-in-Ok-part : goal.returns-in-Ok-part
returns-in-Ok-part c =
    let lines = c.in-Ok.outcome.0 in let items : List Node = c.self.inside.nodes.items in
    let passes = subst (λ (b : BookModel). MayCommit b c.args.node (kept_of c.args.patch)) (sym c.self.view_is) c.requires.passes in
    let e = subst (IsEndingOf (end_line lines.end) c.args.patch.reached) c.in-Parted.is c.in-Ok.ensures.2 in
    let kid = c.in-Ok-part.kid in
    let count : kid ≡ length (map node_of items) = omega (arith, c.in-Ok-part.ensures.0, length-map items node_of) in
    let next : kid + 1 ≡ suc (length (map node_of items)) = omega (arith, count) in
    let more : c.self.inside.branches + 1 ≡ suc c.self.inside.branches = omega arith in
    let new = stored_parted _ c.args.patch c.args.node lines c.in-Ok.ensures.0 c.in-Ok.ensures.1 passes c.on_grid.ensures c.in-Parted.lower c.in-Parted.upper e kid (kid + 1) count next
    (map node_of c.part.new.nodes.items) (parted_written items c.part.new.nodes.items c.args.node (Parted lines kid) c.in-Parted.lower c.in-Parted.upper c.in-Ok-part.ensures.1) (c.self.inside.branches + 1) more in
    let b' : BookModel = record { problem = c.self.inside.problem; options = c.self.inside.options; root = first_state c.self.inside.problem c.self.inside.root; nodes = map node_of c.part.new.nodes.items; kept = c.self.inside.kept.items; lemmas = map learned_of c.self.inside.lemmas.items; branches = c.self.inside.branches + 1; point = c.self.inside.point } in
    subst (λ (b : BookModel). CommitStep b c.args.node (kept_of c.args.patch) (kids.Two kid (kid + 1)) b') c.self.view_is new
