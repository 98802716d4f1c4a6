use Rattle.value_build.proofs.Listing.{adds_two}
use Rattle.value_build.proofs.bounds.add_bounds.Goals as goal

pub returns-in-Le : goal.returns-in-Le
returns-in-Le c = rw c.in-Le.is c.add_at_most.ensures

pub returns-in-Ge : goal.returns-in-Ge
returns-in-Ge c = rw c.in-Ge.is c.add_at_most-in-Ge.ensures

pub returns-in_ok-add_at_most-in-Eq : goal.returns-in_ok-add_at_most-in-Eq
returns-in_ok-add_at_most-in-Eq c = rw c.in-Eq.is (adds_two c.args.bounds.now c.add_at_most-in-Eq.new.bounds c.add_at_most-in-Eq-2.new.bounds c.args.parts.now.items c.add_at_most-in-Eq.new.parts.items c.add_at_most-in-Eq-2.new.parts.items _ _ c.in_ok-add_at_most-in-Eq.field-0 c.add_at_most-in-Eq-2.result c.in_ok-add_at_most-in-Eq.ensures c.add_at_most-in-Eq-2.ensures)
