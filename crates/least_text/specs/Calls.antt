-- What the calls answer, in values of the code.
use Rattle.std.specs.Prelude.{ℕ, List, Option, Vec, option_map}
use Rattle.std.specs.Global.{Global}
use Rattle.dyadic.specs.Views.{dyadic_of}
use Rattle.dyadic.specs.declared.dy.Dy.{Dy}
use Rattle.ival.specs.SpaceViews.{space_of}
use Rattle.ival.specs.declared.space.Space.{Space}
use Rattle.cover_data.specs.Margins.{loosenings_of, margins_of}
use Rattle.cover_data.specs.declared.margins.Options.{Options}
use Rattle.cover_book.specs.Model.{BookModel}
use Rattle.cert_read.specs.CertLine.{CertLine}
use Rattle.least_text.specs.Lines.{least_header}
use Rattle.least_text.specs.Means.{IsLimitedCertificate, IsOverCertificate}

-- of these options, up to this lower bound of the goal
abbrev pub header_of : Options → Option Dy → List CertLine
header_of o lower = least_header (loosenings_of (margins_of o)) o.bound (option_map dyadic_of lower)

-- at a point, with the root over this bound
abbrev pub IsOverText : Options → Option Dy → Space → Vec ℕ Global → Type 0
IsOverText o lower point text = IsOverCertificate o (option_map dyadic_of lower) (space_of point) text.items

-- at a point, with the cover of a book of the problem with this bound as a limit in so many bits
abbrev pub IsLimitedText : BookModel → ℕ → Dy → Space → Vec ℕ Global → Type 0
IsLimitedText b bits lower point text = IsLimitedCertificate b bits (dyadic_of lower) (space_of point) text.items
