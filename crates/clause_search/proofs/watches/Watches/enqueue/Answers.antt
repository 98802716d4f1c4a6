use Rattle.std.proofs.Common.{◌++◌, ◌∷◌, [], sym, subst, ap, length, List, IsTrue, ◌≡◌, arith}
use Rattle.std.specs.Prelude.{All}
use Rattle.std.proofs.lemmas.List.{length-append}
use Rattle.clause_search.specs.declared.literal.Literal.{Literal}
use Rattle.clause_search.specs.Table.{is_true}
use Rattle.clause_search.specs.Watches.{IsPending, AllGuarded}
use Rattle.clause_search.proofs.Queue.{pushed_guarded, pushed_true}
use Rattle.clause_search.proofs.watches.Watches.enqueue.Goals as goal

pub returns-in-Ok : goal.returns-in-Ok
returns-in-Ok c d t u h sets free = let w = c.args.self.now in let l = c.args.literal in
    let same : c.push.new.self.items ≡ w.queue.items ++ (l ∷ []) = c.in-Ok.ensures.items in
    record {
      lists_hold = record { firsts = h.lists_hold.firsts; seconds = h.lists_hold.seconds; same_atoms = h.lists_hold.same_atoms; same_axes = h.lists_hold.same_axes; listed = h.lists_hold.listed };
      few = h.few;
      queue_ahead = omega (arith, h.queue_ahead, ap length same, length-append w.queue.items (l ∷ []));
      fresh = λ e. absurd (omega (arith, h.queue_ahead, e, ap length same, length-append w.queue.items (l ∷ [])));
      queued_true = subst (λ (xs : List Literal). All (λ (m : Literal). IsTrue (is_true u m)) xs) (sym same) (pushed_true d w h.lists_hold t u l sets free h);
      guarded = subst (λ (xs : List Literal). AllGuarded d u (IsPending w.lists w.atoms w.axes xs w.next w.at) w.first.items w.second.items w.started) (sym same) (pushed_guarded d w h.lists_hold t u l sets free h);
    }

pub returns-in-Err : goal.returns-in-Err
returns-in-Err c d t u h sets free = c.restart.ensures d u
    (record { firsts = h.lists_hold.firsts; seconds = h.lists_hold.seconds; same_atoms = h.lists_hold.same_atoms; same_axes = h.lists_hold.same_axes; listed = h.lists_hold.listed })
