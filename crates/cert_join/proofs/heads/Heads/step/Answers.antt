use Rattle.cert_join.proofs.Headers.{all_read, goes_on, at_part}
use Rattle.cert_join.proofs.heads.Heads.step.Goals as goal

pub returns-then-part-cursors : goal.returns-then-part-cursors
returns-then-part-cursors c = λ certs covers t r.
    let old = c.args.self.now in
    let a = at_part old.part old.row covers certs c.args.cursors.now c.index-cursors-part.result t r.before c.if-part-cursors.true in
    goes_on certs covers old c.args.cursors.now c.index-cursors-part.result a c.read.result c.read.new.self c.read.new.cursor
    (c.read.ensures a.cert covers a.cover a.text a.covers_at r.read a.before)

pub returns-else-part-cursors : goal.returns-else-part-cursors
returns-else-part-cursors c = λ certs covers t r. all_read certs covers c.args.self.now c.args.cursors.now t r c.if-part-cursors.false
