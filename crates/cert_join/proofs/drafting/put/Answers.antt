use Rattle.std.proofs.Common.{ap, Err}
use Rattle.cert_join.proofs.Drafts.{draft_fails, puts_more, refuses_there, stops_there, stops_within}
use Rattle.cert_join.proofs.drafting.put.Goals as goal

pub returns-in-Err-Failed : goal.returns-in-Err-Failed
returns-in-Err-Failed g c s p b before way = draft_fails s p b before _ _ _ _ way (c.in-Err-Failed.ensures.failed (ap (λ e. Err e) c.in-Err-Failed.field-0-is))

pub returns-in-Err-Memory : goal.returns-in-Err-Memory
returns-in-Err-Memory g c s p b before way = stops_within s p b before _ _ _ _ way (c.in-Err-Memory.ensures.memory (ap (λ e. Err e) c.in-Err-Memory.field-0-is))

pub returns-in-Ok-piece : goal.returns-in-Ok-piece
returns-in-Ok-piece g c s p b before way = puts_more s p b before _ _ _ _ _ _ way c.in-Ok.ensures.ok c.in-Ok-piece.ensures.goes

pub returns-in-Err-Memory-piece : goal.returns-in-Err-Memory-piece
returns-in-Err-Memory-piece g c s p b before way = stops_there s p b before _ _ _ _ way c.in-Ok.ensures.ok

pub returns-in-Err : goal.returns-in-Err
returns-in-Err g c s p b before way = refuses_there s p b before _ _ _ c.piece.new.self _ c.in-Err.fault way c.in-Ok.ensures.ok c.in-Err.ensures.goes
