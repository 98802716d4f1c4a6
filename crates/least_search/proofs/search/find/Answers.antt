use Rattle.least_search.proofs.Aims.{bounds_of, same_through}
use Rattle.least_search.proofs.Ends.{ending_of, found_of}
use Rattle.std.proofs.Common.{Some}
use Rattle.least_search.proofs.search.find.Goals as goal

pub returns : goal.returns
returns g c =
    let a = c.args.aim.now in let last = c.begin_low.new.aim in let b = c.improve.new.bounds in let e = c.in_ok-ending.ending in
    let same = same_through a c.bounds_of.new.aim last c.bounds_of.ensures.same c.begin_low.ensures.same in
    found_of a b e (bounds_of a last same b c.improve.ensures.bounds) (ending_of a last same b (Some e) c.in_ok-ending.ensures.ending) c.requires.crossed
