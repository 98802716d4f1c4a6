use Rattle.std.proofs.Common.{length, drop, ◌++◌, subst}
use Rattle.std.proofs.lemmas.List.Elements.{All-append, All-drop, All-take, All-weaker}
use Rattle.cover_book.specs.Model.{BookModel}
use Rattle.book_lock.specs.Shared.{first_of}
use Rattle.solve_core.specs.Reaches.{Reaches, stays}
use Rattle.solve_core.specs.Members.{IsMemberOf, HasSeatsOf}
use Rattle.solve_core.proofs.Reached.{same_reaches}
use Rattle.solve_core.proofs.Together.{has_seats, history_reaches}
use Rattle.solve_core.proofs.team.search_together.Goals as goal

pub returns-in_default : goal.returns-in_default
returns-in_default g c = stays

pub returns-then-is_empty : goal.returns-then-is_empty
returns-then-is_empty g c = stays

pub returns-in_default-new : goal.returns-in_default-new
returns-in_default-new g c = stays

pub returns-in-Err : goal.returns-in-Err
returns-in-Err g c = same_reaches c.in-Err.ensures.err

pub dismiss-requires-clause-team : goal.dismiss-requires-clause-team
dismiss-requires-clause-team g c =
    let s = c.in-Ok-share.parts.0 in
    let front = c.run_team.new.team in
    let items = c.in-Ok-enlist.team.items in
    All-take (HasSeatsOf s) c.in-Ok-enlist.team.len (front ++ drop (length front) items)
    (All-append (HasSeatsOf s) front (drop (length front) items) c.run_team.ensures (All-drop (HasSeatsOf s) (length front) items (All-weaker (IsMemberOf s) (HasSeatsOf s) (λ m h. has_seats s m h) items c.in-Ok-enlist.ensures.team)))

pub returns : goal.returns
returns g c =
    let s = c.in-Ok-share.parts.0 in
    subst (λ (b : BookModel). Reaches b c.close.result) c.in-Ok-share.ensures.first (history_reaches (first_of s) c.close.result c.close.ensures.outcome.log c.close.ensures.outcome.legal)
