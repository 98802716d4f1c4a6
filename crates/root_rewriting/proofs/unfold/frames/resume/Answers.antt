use Rattle.std.proofs.Common.{ℕ, List, [], ◌∷◌, ◌++◌, length, sym, subst, ap, ◌∙◌}
use Rattle.script_roots.specs.Tree.{tree}
use Rattle.root_rewriting.specs.Nodes.{AreBelow, trees_in}
use Rattle.root_rewriting.specs.TreeNames.{AreLocals}
use Rattle.root_rewriting.specs.Walking.{AreTrees, CallWaits, LetWaits, Waits, KnowsNodes}
use Rattle.root_rewriting.specs.declared.unfold.locals.Local.{Local}
use Rattle.root_rewriting.specs.declared.unfold.frames.Frame.{Frame}
use Rattle.root_rewriting.proofs.Growth as growth
use Rattle.root_rewriting.proofs.Waiting as waiting
use Rattle.root_rewriting.proofs.Reckoned as reckoned
use Rattle.root_rewriting.specs.Ahead.{call_ahead, frame_ahead, let_ahead, local_bodies}
use Rattle.root_rewriting.proofs.unfold.frames.resume.Goals as goal

pub call_on-requires : goal.call_on-requires
call_on-requires c =
    let n = length c.args.trees.now in
    let ks = c.in-Call.call.parts.items in
    let held : AreBelow n ks = subst (λ (f : Frame). KnowsNodes c.args.trees.now f) c.in-Call.is c.requires.others in
    subst (λ (xs : List ℕ). AreBelow n xs) (sym c.in_ok-push-in-Call.ensures.items) (growth.below_last n c.args.node ks c.requires.there held)

pub returns-in_ok-push-in-Call-clause-walks : goal.returns-in_ok-push-in-Call-clause-walks
returns-in_ok-push-in-Call-clause-walks c = λ u t waits i.
    let m = trees_in c.args.trees.now in
    let s = c.args.source.now.sexps.now in
    let top = c.args.source.now.top.now in
    let h : CallWaits m s top c.in-Call.call u t = subst (λ (f : Frame). Waits m s top f u t) c.in-Call.is waits in
    c.call_on.ensures.walks t (record {
      names = h.names;
      knows = h.knows;
      done = h.done ++ (u ∷ []);
      parts = subst (λ (xs : List ℕ). AreTrees m (h.done ++ (u ∷ [])) xs) (sym c.in_ok-push-in-Call.ensures.items) (growth.trees_last m u c.args.node i h.done c.in-Call.call.parts.items h.parts);
      call = h.call;
    })

pub returns-in_ok-push-in-Let-clause-walks : goal.returns-in_ok-push-in-Let-clause-walks
returns-in_ok-push-in-Let-clause-walks c = λ u t waits i.
    let m = trees_in c.args.trees.now in
    let s = c.args.source.now.sexps.now in
    let top = c.args.source.now.top.now in
    let l = c.in-Let.bindings in
    let x = c.in-Let.name in
    let h : LetWaits m s top l x.now u t = subst (λ (f : Frame). Waits m s top f u t) c.in-Let.is waits in
    c.let_on.ensures.walks m t (record {
      names = h.names;
      knows = h.knows;
      done = h.done ++ ((x.now, tree u) ∷ []);
      stand = subst (λ (xs : List Local). AreLocals m xs (h.done ++ ((x.now, tree u) ∷ []))) (sym c.in_ok-push-in-Let.ensures.added) (waiting.locals_last m x u c.args.node i l.bound h.done h.stand);
      binds = h.binds;
    })

pub returns-in_ok-push-in-Call-clause-counts : goal.returns-in_ok-push-in-Call-clause-counts
returns-in_ok-push-in-Call-clause-counts c =
    let s = c.args.source.now.sexps.now in
    let top = c.args.source.now.top.now in
    let f = c.in-Call.call in
    let more = reckoned.one_longer f.parts.items _ c.args.node c.in_ok-push-in-Call.ensures.items in
    reckoned.goes_same s top _ _ c.call_on.result (ap (frame_ahead s top) c.in-Call.is ∙ ap (call_ahead s top f) more) c.call_on.ensures.counts

pub returns-in_ok-push-in-Let-clause-counts : goal.returns-in_ok-push-in-Let-clause-counts
returns-in_ok-push-in-Let-clause-counts c =
    let s = c.args.source.now.sexps.now in
    let top = c.args.source.now.top.now in
    let l = c.in-Let.bindings in
    let x = c.in-Let.name in
    let one : List Local = record { name = x; node = c.args.node } ∷ [] in
    let bound = sym (reckoned.locals_end l.bound one) ∙ ap local_bodies (sym c.in_ok-push-in-Let.ensures.added) in
    reckoned.goes_same s top _ _ c.let_on.result (ap (frame_ahead s top) c.in-Let.is ∙ ap (let_ahead s top l) bound) c.let_on.ensures.counts
