use Rattle.std.proofs.Common.{◌+◌, ◌≤◌, length, arith}
use Rattle.std.specs.Prelude.{is_ok}
use Rattle.cert_read.proofs.Ahead.{held_on}
use Rattle.cert_read.proofs.reader.LineReader.feed.Goals as goal

pub invariant_of-self : goal.invariant_of-self
invariant_of-self c =
    let old = c.self.inside in
    let bytes = c.compact-self-inside.new.bytes in
    let more = c.extend_from_slice.new.self in
    let within : old.at + old.searched ≤ length old.bytes.items = omega (arith, c.self.invariant.within, old.bytes.ok.0) in
    let begins : c.compact-self-inside.result ≤ length bytes.items = omega (arith, c.compact-self-inside.ensures.within, bytes.ok.0) in
    let held = held_on old.bytes.items bytes.items more.items c.args.piece.now old.at c.compact-self-inside.result old.searched (is_ok c.extend_from_slice.result)
    within c.self.invariant.searched c.compact-self-inside.ensures.same begins c.extend_from_slice.ensures.items in
    record { within = omega (arith, held.0, more.ok.0); searched = held.1 }
