use Rattle.cert_join.proofs.Certificates.{all_numbered, numbers_on, turn_of}
use Rattle.cert_join.proofs.numbering.Numbering.step.Goals as goal

pub returns-then-part-cursors : goal.returns-then-part-cursors
returns-then-part-cursors c = λ certs covers t h. all_numbered certs covers c.args.self.now c.args.cursors.now t h c.if-part-cursors.true

pub returns : goal.returns
returns c = λ certs covers t h.
    let old = c.args.self.now in
    let spots = c.args.cursors.now in
    let d = c.index-cursors-part.result in
    let a = turn_of certs covers h.before old spots d t c.if-part-cursors.false h.here in
    numbers_on certs covers h.before old spots d c.read.result c.read.new.self c.read.new.cursor h.all a (c.read.ensures a.cert h.before a.cover a.text a.reading)
