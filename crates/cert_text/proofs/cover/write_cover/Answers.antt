use Rattle.cert_text.proofs.Wholes.{certificate}
use Rattle.cert_text.proofs.cover.write_cover.Goals as goal

pub returns : goal.returns
returns c = λ none rooted. certificate c.args.book.now c.options-options.ensures.book none rooted c.append_body.new.text.items c.fits_certificate.ensures c.options-options.result.now c.lemma_count.result c.new-text.result.items c.append_header.new.text.items
    c.append_counted.new.text.items c.new-text.ensures.items c.options-options.ensures.options c.lemma_count.ensures.count c.in_ok-append_header.ensures c.in_ok-append_counted.ensures c.in_ok-append_body.ensures
