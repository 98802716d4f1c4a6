use Rattle.std.proofs.Common.{subst, sym}
use Rattle.term_build.specs.Built.{IsMade}
use Rattle.term_build.proofs.Marks.{undone}
use Rattle.term_build.proofs.builder.Builder.undo.Goals as goal

pub invariant_of-self : goal.invariant_of-self
invariant_of-self c = subst IsMade
    (sym (undone c.args.self.now c.args.mark c.self.inside.sorts.items c.truncate.new.self.items c.self.inside.size c.self.inside.nodes c.truncate-2.new.self c.self.inside.atoms c.truncate-3.new.self c.self.inside.forms c.truncate-4.new.self
    c.self.view_is c.truncate.ensures.items c.truncate-2.ensures c.truncate-3.ensures c.truncate-4.ensures)) c.requires

pub returns : goal.returns
returns c = undone c.args.self.now c.args.mark c.self.inside.sorts.items c.truncate.new.self.items c.self.inside.size c.self.inside.nodes c.truncate-2.new.self c.self.inside.atoms c.truncate-3.new.self c.self.inside.forms c.truncate-4.new.self
    c.self.view_is c.truncate.ensures.items c.truncate-2.ensures c.truncate-3.ensures c.truncate-4.ensures
