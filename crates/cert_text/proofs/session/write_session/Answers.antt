use Rattle.cert_text.proofs.SessionTexts.{first_is, session_written}
use Rattle.cert_text.proofs.session.write_session.Goals as goal

pub returns : goal.returns
returns c = session_written c.args.books.now c.options-options.result.now c.session_version.result c.new-text.result.items c.append_header.new.text.items c.append_counted.new.text.items c.append_parts.new.text.items
    (first_is c.args.books.now c.in-Some.first.now c.options-options.result.now c.in-Some.ensures.value c.options-options.ensures.options) c.session_version.ensures c.new-text.ensures.items c.in_ok-append_header.ensures c.in_ok-append_counted.ensures
    c.in_ok-append_parts.ensures c.fits_certificate.ensures
