-- The header of a least value.
use Rattle.std.proofs.Common.{◌≡◌, ℕ, List, Bool, true, false, ◌||◌, IsTrue, Option, Some, None, refl, arith, nat_eq, nat_le, eqb→eq, leb→le}
use Rattle.std.specs.Bool.{passes}
use Rattle.dyadic.specs.Rounding.{Dyadic}
use Rattle.interval_model.specs.Space.{Space}
use Rattle.poly_graph.specs.Problem.{Problem}
use Rattle.cover_model.specs.State.{Loosenings}
use Rattle.cover_model.specs.Rules.{Line, open_line}
use Rattle.cover_line.specs.Words.{word_of}
use Rattle.cert_read.specs.CertLine.{CertLine, lower, goal, cover, point_word, rule_line, over}
use Rattle.cert_model.specs.Due.{is_version, CertFault, Standing, at_point, left_open, Due, kind_due, nothing_due, Next, on, faulty, BadHeader, RuleFails, OverFails, names_well}
use Rattle.cert_model.specs.Accepted.{next, ruled_line, loosenings_fit}
use Rattle.cert_model.specs.Least.{is_lines_version, LeastDue, header_due, lower_due, cover_due, in_cover_due, covered_due, in_point_due, shown_due, Least, least, is_over, tree_space, leaves_open, in_header, in_cover, in_point, searched, can_limit, over_line, leaf_line, cover_line, least_next, IsGoalAccepted}
use Rattle.cert_model.proofs.Invariant.{IfOn, cond_on}
use Rattle.cert_model.proofs.Header.{Fits, FitsDue, next_fits}
use Rattle.cert_model.proofs.LeastCourse.{least_is}

abbrev IsSecond : ℕ → Type 0
IsSecond v = IsTrue (is_lines_version v)

abbrev Second : Loosenings → Type 0
Second s = Fits IsSecond (Some s)

lines-of-five : (v : ℕ) → IsTrue (is_version v) → IsTrue (nat_le 5 v) → IsTrue (is_lines_version v)
lines-of-five v h five = by (nat_eq v 1) refl h
  where
    by : (t : Bool) → nat_eq v 1 ≡ t → IsTrue (t || nat_eq v 2 || nat_eq v 5) → IsTrue (is_lines_version v)
    by true e k = let one = eqb→eq v 1 (passes _ e) in let past = leb→le 5 v (passes _ five) in absurd (omega (arith, one, past))
    by false e k = k

-- the loosenings of what is due, where they are known, are in their limits
abbrev FitsLeast : LeastDue → Type 0
FitsLeast (header_due d) = FitsDue IsSecond d
FitsLeast (lower_due s) = Second s
FitsLeast (cover_due s low bits) = Second s
FitsLeast (in_cover_due low bits d) = FitsDue IsSecond d
FitsLeast (covered_due s low left) = Second s
FitsLeast (in_point_due low left d) = FitsDue IsSecond d
FitsLeast (shown_due s x) = Second s

header-fits : (x : Next) → IfOn (FitsDue IsSecond) x → IfOn FitsLeast (in_header x)
header-fits (on (kind_due s)) h = h
header-fits (on _) h = h
header-fits (faulty f) h = tt

cover-fits : (low : Option Dyadic) (bits : Option ℕ) (x : Next) → IfOn (FitsDue IsSecond) x → IfOn FitsLeast (in_cover low bits x)
cover-fits low bits (on (nothing_due s lemmas (left_open left))) h = h
cover-fits low bits (on _) h = h
cover-fits low bits (faulty f) h = tt

point-fits : (low : Option Dyadic) (left : List Standing) (x : Next) → IfOn (FitsDue IsSecond) x → IfOn FitsLeast (in_point low left x)
point-fits low left (on (nothing_due s lemmas (at_point space))) h = h
point-fits low left (on _) h = h
point-fits low left (faulty f) h = tt

ruled-fits : (low : Option Dyadic) (bits : Option ℕ) (t : Bool) (f : CertFault) → IfOn FitsLeast (in_cover low bits (ruled_line t (faulty f)))
ruled-fits low bits true f = tt
ruled-fits low bits false f = tt

-- ---- a line in the cover of the problem p

module _ (p : Problem) (g : ℕ) (b : Option ℕ) (low : Option Dyadic) (bits : Option ℕ) where
  plain-line : (d : Due) (l : CertLine) → FitsDue IsSecond d → IfOn FitsLeast (in_cover low bits (next p b d l))
  plain-line d l h = cover-fits low bits (next p b d l) (next_fits IsSecond p b d l h)

  leaf-fits : (d : Due) (l : Line) (o : Option Space) → FitsDue IsSecond d → IfOn FitsLeast (leaf_line p b low bits d l o)
  leaf-fits d l None h = plain-line d (rule_line l) h
  leaf-fits d l (Some space) h = ruled-fits low bits (names_well p l) (RuleFails (word_of l))

  over-fits : (d : Due) (o : Option Space) → FitsDue IsSecond d → IfOn FitsLeast (over_line p b g low bits d o)
  over-fits d None h = plain-line d over h
  over-fits d (Some space) h = cond_on FitsLeast (is_over p g low space) (in_cover low bits (next p b d (rule_line open_line))) (faulty OverFails) (λ e. plain-line d (rule_line open_line) h) (tt {0})

  cover-line-fits : (d : Due) (l : CertLine) → FitsDue IsSecond d → IfOn FitsLeast (cover_line p g b low bits d l)
  cover-line-fits d over h = over-fits d (tree_space p d) h
  cover-line-fits d (rule_line l) h = cond_on FitsLeast (leaves_open l) (leaf_line p b low bits d l (tree_space p d)) (in_cover low bits (next p b d (rule_line l)))
      (λ e. leaf-fits d l (tree_space p d) h) (plain-line d (rule_line l) h)
  cover-line-fits d l h = plain-line d l h

-- ---- each line

module _ (p : Problem) (g : ℕ) (room : Bool) (b : Option ℕ) where
  point-line : (low : Option Dyadic) (left : List Standing) (d : Due) (l : CertLine) → FitsDue IsSecond d → IfOn FitsLeast (in_point low left (next p b d l))
  point-line low left d l h = point-fits low left (next p b d l) (next_fits IsSecond p b d l h)

  line-fits : (d : LeastDue) (l : CertLine) → FitsLeast d → IfOn FitsLeast (least_next p g room b d l)
  line-fits (header_due d) l h = header-fits (next p b d l) (next_fits IsSecond p b d l h)
  line-fits (lower_due s) (lower low) h = h
  line-fits (lower_due s) _ h = tt
  line-fits (cover_due s low None) (goal k) h = cond_on FitsLeast (can_limit p room low k) (on (cover_due s low (Some k))) (faulty BadHeader) (λ e. h) (tt {0})
  line-fits (cover_due s low None) (cover n) h = plain-line (searched p g low None) g b low None (kind_due s) (cover n) h
  line-fits (cover_due s low (Some k)) (cover n) h = plain-line (searched p g low (Some k)) g b low (Some k) (kind_due s) (cover n) h
  line-fits (cover_due s low None) _ h = tt
  line-fits (cover_due s low (Some k)) _ h = tt
  line-fits (in_cover_due low bits d) l h = cover-line-fits (searched p g low bits) g b low bits d l h
  line-fits (covered_due s low left) point_word h = point-line low left (kind_due s) point_word h
  line-fits (covered_due s low left) _ h = tt
  line-fits (in_point_due low left d) l h = point-line low left d l h
  line-fits (shown_due s x) l h = tt

  pub least_header_fits : (bytes : List ℕ) (s : Loosenings) (x : Least) → IsGoalAccepted p g room b bytes s (least x) → IsTrue (loosenings_fit s.margin_bits s.delta_bits) × IsTrue (is_lines_version s.version)
  least_header_fits bytes s x e = let h : Second s = least_is p g room b FitsLeast refl line-fits (λ s low fits five. (lines-of-five s.version fits.0 five, fits.1)) (λ s x. Second s) (λ s low left h. h) (λ s x h. h) bytes s x e in (h.1, h.0)
