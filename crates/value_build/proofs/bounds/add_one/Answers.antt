use Rattle.value_build.proofs.Listing.{adds_one}
use Rattle.value_build.proofs.bounds.add_one.Goals as goal

pub returns : goal.returns
returns c = adds_one c.args.bounds.now c.one.new.self c.args.parts.now.items c.push.new.self.items _ c.in_ok-number.number c.in_ok-push.field-0 c.in_ok-number.ensures c.in_ok-push.ensures.items
