use Rattle.std.proofs.Common.{option_map}
use Rattle.dyadic.specs.Views.{dyadic_of}
use Rattle.ival.specs.SpaceViews.{space_of}
use Rattle.least_text.proofs.Written.{root_appended, over_written}
use Rattle.least_text.proofs.over.write_over.Goals as goal

pub returns : goal.returns
returns c = over_written c.args.options.now (option_map dyadic_of c.args.lower) (space_of c.args.point.now) c.new-text.result.items c.append_least_header.new.text.items c.append_plain-3.new.text.items
    c.append_whole_point.new.text.items c.new-text.ensures.items c.in_ok-append_least_header.ensures
    (root_appended c.append_least_header.new.text.items c.append_counted.new.text.items c.append_plain.new.text.items c.append_plain-2.new.text.items c.append_plain-3.new.text.items
    c.in_ok-append_counted.ensures c.in_ok-append_plain.ensures c.in_ok-append_plain-2.ensures c.in_ok-append_plain-3.ensures)
    c.in_ok-append_whole_point.ensures c.fits_certificate.ensures
