use Rattle.std.proofs.Common.{◌∙◌, ap}
use Rattle.dyadic.specs.NumberText.{number_spelling}
use Rattle.dyadic.proofs.SpelledTexts.{written_is}
use Rattle.dyadic.proofs.writing.write_dy.Goals as goal

pub returns-clause-written : goal.returns-clause-written
returns-clause-written c = c.write_parts.ensures.written ∙ written_is c.parts.result ∙ ap (λ z. number_spelling (record { units = z })) c.parts.ensures
