use Rattle.std.proofs.Common.{◌++◌, sym, subst}
use Rattle.cert_resume.specs.Answer.{TellsOfOwn}
use Rattle.cert_resume.specs.declared.answer.Own.{Own}
use Rattle.cert_resume.proofs.going.note_own.Goals as goal

pub returns : goal.returns
returns c = λ t left i xs h.
    subst (λ (z : Own). TellsOfOwn z (xs ++ left)) (sym c.replace.ensures.after)
    (c.joined.ensures xs left (subst (λ (z : Own). TellsOfOwn z xs) (sym c.replace-first.ensures.value) h) (c.in_ok-more.ensures t left i))
