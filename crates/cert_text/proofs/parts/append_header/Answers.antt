use Rattle.std.proofs.lemmas.Result.{on_ok_weaker}
use Rattle.cover_data.specs.Margins.{loosenings_of}
use Rattle.cover_book.specs.Model.{margins_of}
use Rattle.cert_text.proofs.Items.{header_appended}
use Rattle.cert_text.proofs.parts.append_header.Goals as goal

pub returns-in-None : goal.returns-in-None
returns-in-None c = on_ok_weaker c.append_plain.result
    (λ a. header_appended (record (loosenings_of (margins_of c.args.options.now)) { version = c.args.version }) c.args.options.now.bound _ _ _ _ _ _ c.in-None.is c.in_ok-append_counted.ensures c.in_ok-append_counted-2.ensures c.in_ok-append_counted-3.ensures a)
    c.append_plain.ensures
