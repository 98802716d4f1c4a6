-- What reading a text answers.
use Rattle.std.specs.Prelude.{Option, Some, None, Result, Ok, Err}
use Rattle.dyadic.specs.declared.dy.Dy.{Dy}
use Rattle.dyadic.specs.declared.dy_text.DyText.{DyText}
use Rattle.dyadic.specs.declared.dy_text.DyText.TheVariants.{NotANumber, NotCanonical, NotRepresentable}
use Rattle.dyadic.specs.NumberText.{NumberText, number, not_a_number, not_canonical, not_representable}
use Rattle.dyadic.specs.Views.{dyadic_of}

abbrev pub text_answer : Result Dy DyText → NumberText
text_answer (Ok v) = number (dyadic_of v)
text_answer (Err NotANumber) = not_a_number
text_answer (Err NotCanonical) = not_canonical
text_answer (Err NotRepresentable) = not_representable

-- a number, or one that is not kept
abbrev pub kept_answer : Option Dy → NumberText
kept_answer (Some v) = number (dyadic_of v)
kept_answer None = not_representable
