use Rattle.std.proofs.Common.{Some, ap, refl, sym, ◌∙◌}
use Rattle.sort_check.proofs.Held.{forgets_name, forgets_none, taken_last}
use Rattle.sort_check.proofs.scope.Scope.forget.Goals as goal

pub returns-in-Some-name_of : goal.returns-in-Some-name_of
returns-in-Some-name_of c =
    let old = c.args.self.now in let last = c.in-Some.command in record {
      rest = taken_last old.force.items c.pop.new.self.items last c.in-Some.ensures.items;
      known = λ theory s k. forgets_name theory s old _ last c.as_slice.result.now c.in-Some.ensures.items (sym (c.in-Some-name_of.ensures s) ∙ ap Some (sym c.as_slice.ensures)) c.remove.ensures.updates k;
      marks = refl;
    }

pub returns-in_default-name_of : goal.returns-in_default-name_of
returns-in_default-name_of c =
    let old = c.args.self.now in let last = c.in-Some.command in record {
      rest = taken_last old.force.items c.pop.new.self.items last c.in-Some.ensures.items;
      known = λ theory s k. forgets_none theory s old _ last c.in-Some.ensures.items (sym (c.in_default-name_of.ensures s)) refl k;
      marks = refl;
    }
