use Rattle.std.proofs.Common.{◌≡◌, ◌+◌, ◌<◌, arith, List, [], ◌∷◌, ◌++◌, length, length-append, refl, ap, sym, ◌∙◌, subst}
use Rattle.std.proofs.lemmas.Result.{err_from_is_err_and}
use Rattle.root_rewriting.specs.Ahead.{reached_here}
use Rattle.root_rewriting.specs.Nodes.{trees_in}
use Rattle.root_rewriting.specs.TreeNames.{Knows, top_names, tree_here}
use Rattle.root_rewriting.specs.Walking.{Enters, Leaves}
use Rattle.root_rewriting.specs.declared.unfold.locals.Local.{Local}
use Rattle.root_rewriting.specs.declared.unfold.frames.Frame.{Frame}
use Rattle.root_rewriting.specs.declared.unfold.frames.Next.{Next}
use Rattle.root_rewriting.specs.declared.unfold.frames.Next.TheVariants as next
use Rattle.root_rewriting.proofs.Growth as growth
use Rattle.root_rewriting.proofs.Reckoned as reckoned
use Rattle.root_rewriting.proofs.Reckoned.{Reckons}
use Rattle.root_rewriting.proofs.Sizes as sizes
use Rattle.root_rewriting.proofs.Stacked as stacked
use Rattle.root_rewriting.proofs.Stacked.{Within, Resumes}
use Rattle.root_rewriting.proofs.unfold.walk.tree.Goals as goal

pub turns-init : goal.turns-init
turns-init c =
    let s = c.args.source.now.sexps.now in
    let top = c.args.source.now.top.now in
    let m = trees_in c.args.unfolded.now.trees in
    let n = length top in
    let scope = c.in_ok-scope.scope in
    let first = next.Enter scope c.args.at in
    let names = top_names s top n in
    let whole = tree_here s top c.args.at in
    let enters : Enters m s top scope c.args.at whole = record {
      names = names;
      knows = growth.knows_scope m s top n c.new.result names scope (c.in_ok-scope.ensures.0 ∙ c.len.ensures, c.in_ok-scope.ensures.1)
          (subst (λ (xs : List Local). Knows m s top n xs names) (sym c.new.ensures) (growth.knows_none m s top n));
      is = refl;
    } in
    let count = c.args.unfolded.now.reached in
    let n1 = reached_here s top c.args.at in (
      subst (λ (fs : List Frame). Within (Leaves m s top first) m m s top fs whole) (sym c.new-stack.ensures.items) (stacked.within_begins s top whole m first enters),
      subst (λ (fs : List Frame). Reckons count count n1 s top first fs) (sym c.new-stack.ensures.items)
          (reckoned.reckons_begins s top count n1 scope c.args.at c.new.result refl c.new.ensures (c.in_ok-scope.ensures.0 ∙ c.len.ensures, c.in_ok-scope.ensures.1)),
    )

pub resume-requires-clause-there : goal.resume-requires-clause-there
resume-requires-clause-there c =
    let s = c.args.source.now.sexps.now in
    let top = c.args.source.now.top.now in
    let start = trees_in c.args.unfolded.now.trees in
    let now = trees_in c.turns.unfolded.trees in
    let whole = tree_here s top c.args.at in
    let fs = c.turns.stack.items in
    let k = c.in-Back.node in
    let back = subst (λ (x : Next). Within (Leaves now s top x) start now s top fs whole) c.in-Back.is c.turns.invariant.0 in
    growth.node_below c.turns.unfolded.trees k back.here back.inner

pub resume-requires-clause-others : goal.resume-requires-clause-others
resume-requires-clause-others c =
    let s = c.args.source.now.sexps.now in
    let top = c.args.source.now.top.now in
    let start = trees_in c.args.unfolded.now.trees in
    let now = trees_in c.turns.unfolded.trees in
    let whole = tree_here s top c.args.at in
    let fs = c.turns.stack.items in
    let k = c.in-Back.node in
    let back = subst (λ (x : Next). Within (Leaves now s top x) start now s top fs whole) c.in-Back.is c.turns.invariant.0 in
    let f = c.in-Some.frame in
    let left = c.pop.new.self.items in
    let h = stacked.within_resumes s top whole start now left f k (subst (λ (xs : List Frame). Within (Leaves now s top (next.Back k)) start now s top xs whole) c.in-Some.ensures.items back) in
    stacked.keeps_nodes c.turns.unfolded.trees s top f h.inner.0 h.here h.inner.1

pub turns-preserved-in_ok-next-in-Enter : goal.turns-preserved-in_ok-next-in-Enter
turns-preserved-in_ok-next-in-Enter c =
    let s = c.args.source.now.sexps.now in
    let top = c.args.source.now.top.now in
    let start = trees_in c.args.unfolded.now.trees in
    let now = trees_in c.turns.unfolded.trees in
    let whole = tree_here s top c.args.at in
    let fs = c.turns.stack.items in
    let d = c.in-Enter in
    let n = c.in_ok-next-in-Enter.next in
    let h = subst (λ (x : Next). Within (Leaves now s top x) start now s top fs whole) d.is c.turns.invariant.0 in
    let g = c.in_ok-next-in-Enter.ensures.walks h.here h.inner in
    let first = c.args.unfolded.now.reached in
    let a = c.turns.unfolded.reached in
    let k = reached_here s top c.args.at in
    let one = c.in_ok-next-in-Enter.ensures.counts in (
      stacked.within_goes s top whole (Enters now s top d.scope d.at) start now (trees_in c.reach.new.unfolded.trees) fs n h g.0 g.1,
      reckoned.reckons_enters s top first k a fs d.scope d.at c.reach.new.unfolded.reached n (subst (λ (x : Next). Reckons first a k s top x fs) d.is c.turns.invariant.1) one.0 one.1 c.in_ok-next-in-Enter.ensures.opens,
    )

pub turns-preserved-in_ok-next-in-Wait : goal.turns-preserved-in_ok-next-in-Wait
turns-preserved-in_ok-next-in-Wait c =
    let s = c.args.source.now.sexps.now in
    let top = c.args.source.now.top.now in
    let start = trees_in c.args.unfolded.now.trees in
    let now = trees_in c.turns.unfolded.trees in
    let whole = tree_here s top c.args.at in
    let fs = c.turns.stack.items in
    let d = c.in-Wait in
    let n = c.in_ok-next-in-Wait.next in
    let h = stacked.within_waits s top whole start now fs d.frame d.scope d.at (subst (λ (x : Next). Within (Leaves now s top x) start now s top fs whole) d.is c.turns.invariant.0) in
    let new = trees_in c.reach-in-Wait.new.unfolded.trees in
    let g = c.in_ok-next-in-Wait.ensures.walks h.here h.inner in
    let first = c.args.unfolded.now.reached in
    let a = c.turns.unfolded.reached in
    let b = c.reach-in-Wait.new.unfolded.reached in
    let k = reached_here s top c.args.at in
    let one = c.in_ok-next-in-Wait.ensures.counts in
    let more = fs ++ (d.frame ∷ []) in
    let waits = reckoned.reckons_waits s top first k a fs d.frame d.scope d.at (subst (λ (x : Next). Reckons first a k s top x fs) d.is c.turns.invariant.1) in (
      subst (λ (xs : List Frame). Within (Leaves new s top n) start new s top xs whole) (sym c.in_ok-push-in-Wait.ensures.items)
          (stacked.within_goes s top whole (Enters now s top d.scope d.at) start now new more n h g.0 g.1),
      subst (λ (xs : List Frame). Reckons first b k s top n xs) (sym c.in_ok-push-in-Wait.ensures.items)
          (reckoned.reckons_enters s top first k a more d.scope d.at b n waits one.0 one.1 c.in_ok-next-in-Wait.ensures.opens),
    )

pub turns-preserved : goal.turns-preserved
turns-preserved c =
    let s = c.args.source.now.sexps.now in
    let top = c.args.source.now.top.now in
    let start = trees_in c.args.unfolded.now.trees in
    let now = trees_in c.turns.unfolded.trees in
    let whole = tree_here s top c.args.at in
    let fs = c.turns.stack.items in
    let k = c.in-Back.node in
    let back = subst (λ (x : Next). Within (Leaves now s top x) start now s top fs whole) c.in-Back.is c.turns.invariant.0 in
    let f = c.in-Some.frame in
    let left = c.pop.new.self.items in
    let h = stacked.within_resumes s top whole start now left f k (subst (λ (xs : List Frame). Within (Leaves now s top (next.Back k)) start now s top xs whole) c.in-Some.ensures.items back) in
    let n = c.in_ok-next-in-Some.next in
    let g = c.in_ok-next-in-Some.ensures.walks h.inner.0 h.here h.inner.1 h.inner.2 in
    let first = c.args.unfolded.now.reached in
    let a = c.turns.unfolded.reached in
    let count = reached_here s top c.args.at in
    let here = subst (λ (x : Next). Reckons first a count s top x fs) c.in-Back.is c.turns.invariant.1 in (
      stacked.within_goes s top whole (Resumes now s top f k) start now (trees_in c.resume.new.trees) left n h g.0 g.1,
      reckoned.reckons_resumes s top first count a left f k n (subst (λ (xs : List Frame). Reckons first a count s top (next.Back k) xs) c.in-Some.ensures.items here) c.in_ok-next-in-Some.ensures.counts,
    )

pub turns-smaller-in_ok-next-in-Enter : goal.turns-smaller-in_ok-next-in-Enter
turns-smaller-in_ok-next-in-Enter c =
    let d = c.in-Enter in
    let a = c.turns.unfolded.reached in
    let b = c.reach.new.unfolded.reached in
    let n = c.in_ok-next-in-Enter.next in
    let k = length c.turns.stack.items in
    let one = c.in_ok-next-in-Enter.ensures.counts in
    subst (λ (x : Next). sizes.left b k n < sizes.left a k x) (sym d.is) (sizes.enter_falls a b n (next.Enter d.scope d.at) k k one.0 one.1 (omega arith))

pub turns-smaller-in_ok-next-in-Wait : goal.turns-smaller-in_ok-next-in-Wait
turns-smaller-in_ok-next-in-Wait c =
    let d = c.in-Wait in
    let a = c.turns.unfolded.reached in
    let b = c.reach-in-Wait.new.unfolded.reached in
    let n = c.in_ok-next-in-Wait.next in
    let fs = c.turns.stack.items in
    let k = length fs in
    let j = length c.push.new.self.items in
    let one = c.in_ok-next-in-Wait.ensures.counts in
    let higher : j ≡ k + 1 = ap (λ xs. length xs) c.in_ok-push-in-Wait.ensures.items ∙ length-append fs (d.frame ∷ []) in
    subst (λ (x : Next). sizes.left b j n < sizes.left a k x) (sym d.is) (sizes.enter_falls a b n (next.Wait d.frame d.scope d.at) j k one.0 one.1 (omega (arith, higher)))

pub turns-smaller : goal.turns-smaller
turns-smaller c =
    let a = c.turns.unfolded.reached in
    let fs = c.pop.new.self.items in
    let f = c.in-Some.frame in
    let n = c.in_ok-next-in-Some.next in
    let k = length fs in
    let j = length c.turns.stack.items in
    let higher : j ≡ k + 1 = ap (λ xs. length xs) c.in-Some.ensures.items ∙ length-append fs (f ∷ []) in
    subst (λ (x : Next). sizes.left a k n < sizes.left a j x) (sym c.in-Back.is) (sizes.resume_falls a c.in-Back.node n j k higher)

pub returns-in_err-next-in-Enter-clause-counts : goal.returns-in_err-next-in-Enter-clause-counts
returns-in_err-next-in-Enter-clause-counts c =
    let s = c.args.source.now.sexps.now in
    let top = c.args.source.now.top.now in
    let first = c.args.unfolded.now.reached in
    let a = c.turns.unfolded.reached in
    let k = reached_here s top c.args.at in
    let fs = c.turns.stack.items in
    let d = c.in-Enter in
    let e = c.in_err-next-in-Enter in
    let h = subst (λ (x : Next). Reckons first a k s top x fs) d.is c.turns.invariant.1 in
    let p = err_from_is_err_and c.from_residual-in_err-next-in-Enter.result c.from_residual-in_err-next-in-Enter.ensures.1 in
    rw (p.1, p.2) (reckoned.reckons_stops s top first k a fs d.scope d.at e.field-0.0 c.reach.new.unfolded.reached c.reach.new.unfolded.reached h e.ensures.counts)

pub returns-in_err-next-in-Wait-clause-counts : goal.returns-in_err-next-in-Wait-clause-counts
returns-in_err-next-in-Wait-clause-counts c =
    let s = c.args.source.now.sexps.now in
    let top = c.args.source.now.top.now in
    let first = c.args.unfolded.now.reached in
    let a = c.turns.unfolded.reached in
    let k = reached_here s top c.args.at in
    let fs = c.turns.stack.items in
    let d = c.in-Wait in
    let e = c.in_err-next-in-Wait in
    let h = reckoned.reckons_waits s top first k a fs d.frame d.scope d.at (subst (λ (x : Next). Reckons first a k s top x fs) d.is c.turns.invariant.1) in
    let p = err_from_is_err_and c.from_residual-in_err-next-in-Wait.result c.from_residual-in_err-next-in-Wait.ensures.1 in
    rw (p.1, p.2) (reckoned.reckons_stops s top first k a (fs ++ (d.frame ∷ [])) d.scope d.at e.field-0.0 c.reach-in-Wait.new.unfolded.reached c.reach-in-Wait.new.unfolded.reached h e.ensures.counts)
