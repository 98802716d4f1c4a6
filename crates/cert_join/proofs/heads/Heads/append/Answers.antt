use Rattle.cert_join.proofs.Headers.{appends}
use Rattle.cert_join.proofs.heads.Heads.append.Goals as goal

pub returns : goal.returns
returns c =
    appends c.args.self.now c.append_line-3.result c.args.text.now.items c.append_version.new.text.items c.append_line.new.text.items c.append_line-2.new.text.items
    c.append_line-3.new.text.items c.deref.result.now c.deref-2.result.now c.deref-3.result.now c.in-Ok.ensures c.deref.ensures.value c.in-Ok-append_line.ensures
    c.deref-2.ensures.value c.in-Ok-append_line-2.ensures c.deref-3.ensures.value c.append_line-3.ensures
