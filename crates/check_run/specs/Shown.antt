-- What is told of an axis.
use Rattle.std.specs.Prelude.{ℕ, List}
use Rattle.interval_model.specs.Space.{Domain}
use Rattle.cert_model.specs.AnswerText.{value_text, domain_text}
use Rattle.check_run.specs.declared.axes.Shown.{Shown}
use Rattle.check_run.specs.declared.axes.Shown.TheVariants.{Value, Ends}

abbrev pub shown_text : Shown → Domain → List ℕ
shown_text Value = value_text
shown_text Ends = domain_text
