use Rattle.std.proofs.Common.{◌≤◌, [], length}
use Rattle.ival.specs.SpaceViews.{space_of}
use Rattle.poly_graph.specs.ProblemViews.{problem_of}
use Rattle.cover_data.specs.Margins.{loosenings_of}
use Rattle.cover_book.specs.Model.{margins_of}
use Rattle.cert_model.specs.Accepted.{most_bytes}
use Rattle.cert_model.specs.Written.{point_lines}
use Rattle.cert_text.specs.Lines.{HasAppended}
use Rattle.cert_text.proofs.Wholes.{point_written, point_means}
use Rattle.cert_text.proofs.point.write_point.Goals as goal

pub returns-clause-text : goal.returns-clause-text
returns-clause-text c = (point_written (loosenings_of (margins_of c.args.options.now)) c.args.options.now.bound c.args.point.now (space_of c.space.result.now) _ _ c.append_whole_point.new.text.items
    c.new-text.ensures.items c.space.ensures c.in_ok-append_header.ensures c.in_ok-append_whole_point.ensures).written

pub returns-clause-accepted : goal.returns-clause-accepted
returns-clause-accepted c = λ m h.
    let all : HasAppended [] (point_lines (loosenings_of (margins_of c.args.options.now)) c.args.options.now.bound c.args.point.now) c.append_whole_point.new.text.items =
    point_written (loosenings_of (margins_of c.args.options.now)) c.args.options.now.bound c.args.point.now (space_of c.space.result.now) _ _ c.append_whole_point.new.text.items
    c.new-text.ensures.items c.space.ensures c.in_ok-append_header.ensures c.in_ok-append_whole_point.ensures in
    let short : length c.append_whole_point.new.text.items ≤ most_bytes = c.fits_certificate.ensures in
    point_means (problem_of c.args.problem.now) (margins_of c.args.options.now) c.args.options.now.bound c.args.point.now c.append_whole_point.new.text.items all short m h
