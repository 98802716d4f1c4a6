use Rattle.dyadic.specs.Views.{dyadic_of}
use Rattle.ival.specs.SpaceViews.{space_of}
use Rattle.least_text.proofs.Written.{limited_written}
use Rattle.least_text.proofs.limited.write_limited.Goals as goal

pub returns : goal.returns
returns c = λ none rooted unsat. limited_written c.args.book.now c.options.ensures.book c.options.result.now c.args.bits c.lemma_count.result (dyadic_of c.args.lower) (space_of c.args.point.now)
    c.new-text.result.items c.append_least_header.new.text.items c.append_counted.new.text.items c.append_counted-2.new.text.items c.append_body.new.text.items c.append_whole_point.new.text.items
    c.new-text.ensures.items c.options.ensures.options c.lemma_count.ensures.count c.in_ok-append_least_header.ensures c.in_ok-append_counted.ensures c.in_ok-append_counted-2.ensures
    c.in_ok-append_body.ensures c.in_ok-append_whole_point.ensures c.fits_certificate.ensures none rooted unsat
