use Rattle.std.proofs.Common.{ℕ, List, Some, cond, nat_eq, ap, sym, ◌∙◌, subst, arith}
use Rattle.std.specs.HashMap.{get}
use Rattle.value_build.specs.Groups.{AddsFactor}
use Rattle.value_build.specs.declared.gather.Group.{Group}
use Rattle.value_build.proofs.Groups.{added_again, added_constant, added_new, group_below, on_ok_then}
use Rattle.value_build.proofs.gather.add.Goals as goal

pub returns-in-Some : goal.returns-in-Some
returns-in-Some c = on_ok_then c.begin.result
    (λ e. subst (λ (gs : List Group). AddsFactor c.args.builder.now c.args.groups.now.items gs c.args.places.now c.args.factor) (sym e)
    (added_constant c.args.builder.now c.args.groups.now.items c.args.places.now c.args.factor _ c.requires.grouped c.requires.factor (sym c.in-Some.ensures)))
    c.begin.ensures

pub raise-requires-clause-place : goal.raise-requires-clause-place
raise-requires-clause-place c = group_below c.args.groups.now.items c.args.factor c.in-Some-copied.place
    (sym (c.requires.grouped.found c.args.factor c.requires.factor (sym c.in_default.ensures)) ∙ sym (sym c.in-Some-copied.is ∙ c.copied.ensures ∙ c.get.ensures.value))

pub returns-in-Some-copied : goal.returns-in-Some-copied
returns-in-Some-copied c = subst (λ (gs : List Group). AddsFactor c.args.builder.now c.args.groups.now.items gs c.args.places.now c.args.factor) (sym c.raise.ensures)
    (added_again c.args.builder.now c.args.groups.now.items c.args.places.now c.args.factor c.in-Some-copied.place c.requires.made c.requires.grouped c.requires.factor (sym c.in_default.ensures)
    (sym c.in-Some-copied.is ∙ c.copied.ensures ∙ c.get.ensures.value))

pub returns : goal.returns
returns c = on_ok_then c.begin-2.result
    (λ e. subst (λ (gs : List Group). AddsFactor c.args.builder.now c.args.groups.now.items gs c.insert.new.self c.args.factor) (sym e)
    (added_new c.args.builder.now c.args.groups.now.items c.args.places.now c.insert.new.self c.args.factor c.requires.made c.requires.grouped c.requires.factor (sym c.in_default.ensures)
    (sym c.in_default-copied.is ∙ c.copied.ensures ∙ c.get.ensures.value)
    (λ q. c.in_ok-insert.ensures.updates.0 q ∙ ap (λ (n : ℕ). cond (nat_eq c.args.factor q) (Some n) (get nat_eq c.args.places.now q)) (grind (arith, c.len.ensures)))))
    c.begin-2.ensures
