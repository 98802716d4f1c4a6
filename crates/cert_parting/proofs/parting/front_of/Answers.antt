use Rattle.std.proofs.Common.{◌≡◌, ◌<◌, ◌≤◌, length, arith}
use Rattle.std.proofs.lemmas.Grind.{common_steps}
use Rattle.cert_parting.proofs.Partings.{front_long, front_more, front_whole}
use Rattle.cert_parting.proofs.parting.front_of.Goals as goal

pub returns-then-n-eq0-clause-told : goal.returns-then-n-eq0-clause-told
returns-then-n-eq0-clause-told g c =
    let place : c.len-in-loop-buffer.result ≡ length c.loop-buffer.front.items = grind (arith, common_steps) in
    let room : 0 < length c.read_at.new.into = grind (arith, common_steps) in
    let short : length c.loop-buffer.front.items < 64 = grind (arith, common_steps) in
    front_whole _ _ _ _ _ _ _ _ c.loop-buffer.invariant place c.in-Ok.ensures.ok c.if-n-eq0.true room short

pub loop-buffer-preserved : goal.loop-buffer-preserved
loop-buffer-preserved g c =
    let place : c.len-in-loop-buffer.result ≡ length c.loop-buffer.front.items = grind (arith, common_steps) in
    front_more _ _ _ _ _ _ _ _ c.loop-buffer.invariant place c.in-Ok.ensures.ok c.extend_from_slice.new.self.items c.in-Ok-extend_from_slice.ensures.items

pub returns-clause-told : goal.returns-clause-told
returns-clause-told g c =
    let long : 64 ≤ length c.loop-buffer.front.items = grind (arith, common_steps) in
    front_long _ _ _ _ _ c.loop-buffer.invariant long c.truncate.ensures.items
