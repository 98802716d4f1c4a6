use Rattle.std.proofs.Common.{◌∷◌, [], subst, sym}
use Rattle.std.proofs.lemmas.Slice.{pushed}
use Rattle.std.proofs.Common.{refl}
use Rattle.smt_script.specs.Views.{sort_of}
use Rattle.term_build.specs.Built.{IsMade}
use Rattle.term_build.proofs.Marks.{sort_added, sort_made}
use Rattle.term_build.proofs.builder.Builder.add_sort.Goals as goal

pub invariant_of-self-2 : goal.invariant_of-self-2
invariant_of-self-2 c =
    let added = sort_added _ c.args.sort c.self.inside.sorts.items c.push.new.self.items c.self.inside.size c.self.inside.nodes c.self.inside.atoms c.self.inside.forms refl (pushed (c.args.sort ∷ []) refl c.in_ok-push.was c.push.ensures.items) in
    subst IsMade (sym added) (sort_made _ (sort_of c.args.sort) c.self.invariant)
