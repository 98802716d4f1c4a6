-- The sign that a sign of the code stands for.
use Rattle.dyadic.specs.declared.sign.Sign.{Sign}
use Rattle.dyadic.specs.declared.sign.Sign.TheVariants.{Below, Nought, Above}
use Rattle.dyadic.specs.End.{Sign as EndSign, below, nought, above}

abbrev pub sign_view : Sign → EndSign
sign_view Below = below
sign_view Nought = nought
sign_view Above = above
