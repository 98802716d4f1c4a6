use Rattle.std.proofs.Common.{Bool, refl, subst}
use Rattle.cert_read.specs.Views.{line_of}
use Rattle.cert_check.specs.declared.fault.CertFault.TheVariants.{BadHeader}
use Rattle.cert_least.specs.Phases.{told_of, lower_of, searched_by}
use Rattle.cert_least.specs.Said.{IsCoverIn}
use Rattle.cert_least.proofs.Lines.{cover_on, cover_missing}
use Rattle.cert_least.proofs.header.first_of_cover.Goals as goal

pub returns-then-is_cover : goal.returns-then-is_cover
returns-then-is_cover c a d h e =
    let l = line_of c.args.line.now in let w = c.args.scope in
    cover_on a c.args.told l w (subst (λ (t : Bool). IsCoverIn t l) c.if-is_cover.true c.is_cover.ensures) d e c.give.new.checker c.give.result (c.give.ensures (searched_by a w) a.bound d h)

pub returns : goal.returns
returns c a d h e =
    let l = line_of c.args.line.now in let w = c.args.scope in
    cover_missing a (told_of c.args.told) l (lower_of w) w.bits c.requires (subst (λ (t : Bool). IsCoverIn t l) c.if-is_cover.false c.is_cover.ensures) d e (BadHeader 0) (record { line = 0; told = refl })
