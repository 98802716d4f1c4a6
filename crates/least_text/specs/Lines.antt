-- The lines of certificates of least values.
use Rattle.std.specs.Prelude.{ℕ, List, [], ◌∷◌, ◌++◌, Option, cond, length, nat_eq}
use Rattle.dyadic.specs.Rounding.{Dyadic}
use Rattle.interval_model.specs.Space.{Space}
use Rattle.cover_model.specs.State.{Loosenings}
use Rattle.cert_read.specs.CertLine.{CertLine, version, margin, delta, bound, lower, goal, cover, tree_word, end_word, over}
use Rattle.cert_model.specs.SessionLaws.{WrittenEnd}
use Rattle.cert_model.specs.Written.{LemmaTree}
use Rattle.cert_text.specs.Parts.{whole_point}
use Rattle.cert_text.specs.Session.{body_lines}

-- the version of a certificate of a least value that has the lines of this version
abbrev pub least_version : ℕ → ℕ
least_version v = cond (nat_eq v 2) 4 v

-- up to the lower bound of the goal
abbrev pub least_header : Loosenings → Option ℕ → Option Dyadic → List CertLine
least_header s b low = version (least_version s.version) ∷ margin s.margin_bits ∷ delta s.delta_bits ∷ bound b ∷ lower low ∷ []

-- a cover of no lemmas whose tree is the root, over the bound
abbrev pub root_over : List CertLine
root_over = cover 0 ∷ tree_word ∷ over ∷ end_word ∷ []

abbrev pub over_lines : Loosenings → Option ℕ → Option Dyadic → Space → List CertLine
over_lines s b low x = least_header s b low ++ (root_over ++ whole_point x)

-- a cover of lemmas with their trees and an end, behind the bits of the limit
abbrev pub limited_cover : ℕ → List LemmaTree → WrittenEnd → List CertLine
limited_cover k lemmas end = goal k ∷ cover (length lemmas) ∷ body_lines 0 lemmas end

abbrev pub limited_lines : Loosenings → Option ℕ → Option Dyadic → ℕ → List LemmaTree → WrittenEnd → Space → List CertLine
limited_lines s b low k lemmas end x = least_header s b low ++ (limited_cover k lemmas end ++ whole_point x)
