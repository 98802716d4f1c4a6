-- What the code gathers of a certificate as the definitions see it.
use Rattle.std.specs.Prelude.{◌≡◌, ℕ, List, Option, Some, map, length}
use Rattle.poly_graph.specs.Problem.{Problem}
use Rattle.cover_line.specs.Views.{line_of as rule_of}
use Rattle.cert_read.specs.CertLine.{CertLine, Parsed, line}
use Rattle.cert_read.specs.Views.{line_of}
use Rattle.cert_model.specs.Due.{Due, version_due}
use Rattle.cert_model.specs.Accepted.{reached, course_of_lines}
use Rattle.cert_check.specs.Dues.{lean}
use Rattle.cert_check.specs.Work.{WorkCourse, alone}
use Rattle.cert_base.specs.declared.base.Base.{Base}
use Rattle.cert_base.specs.declared.gathered.Gathered as code
use Rattle.cert_base.specs.declared.place.Place as code-place
use Rattle.cert_base.specs.declared.place.Place.TheVariants as places
use Rattle.cert_base.specs.Gathered.{Gathered, Gathers, Place, nowhere, in_lemmas, in_tree}

abbrev pub gathered_of : code.Gathered → Gathered
gathered_of g = record { lemma_lines = map line_of g.lemma_lines.items; main = map rule_of g.main.items; left = g.left.items }

abbrev pub place_of : code-place.Place → Place
place_of places.Nowhere = nowhere
place_of places.Lemmas = in_lemmas
place_of (places.Tree o) = in_tree o

-- The lines lead, with the states that stay, to what is due where a checker stands, which keeps none of these; and this was gathered of them.
pub record IsGathered (p : Problem) (b : Option ℕ) (ls : List Parsed) (o : Option WorkCourse) (g : Gathered) : Type 0 where
  pub taken : List CertLine
  pub lines : ls ≡ map line taken
  pub due : Due
  pub led : course_of_lines p b 0 version_due taken ≡ reached due (length taken)
  pub stands : o ≡ Some (reached (alone (lean due)) (length taken))
  pub gathers : Gathers b due taken g

-- what a base has of what was gathered
abbrev pub base_gathered : Base → Gathered
base_gathered x = record { lemma_lines = map line_of x.lemma_lines.items; main = map rule_of x.main.items; left = x.left.items }
