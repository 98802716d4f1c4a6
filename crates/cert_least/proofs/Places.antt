-- Where a line of the main tree stands.
use Rattle.std.proofs.Common.{◌≡◌, Option, Some, None, refl, ap, sym, ◌∙◌}
use Rattle.std.specs.Prelude.{option_map}
use Rattle.interval_model.specs.Interval.{Interval}
use Rattle.interval_model.specs.Space.{Space}
use Rattle.poly_graph.specs.Problem.{Problem}
use Rattle.cert_model.specs.Due.{Due, root_due, tree_due}
use Rattle.cert_model.specs.Least.{tree_space}
use Rattle.cert_check.specs.Courses.{Stand, stand_due, stand_in}
use Rattle.cert_check.specs.Work.{WorkCourse}
use Rattle.cert_least.specs.Phases.{due_in, stand_space}
use Rattle.cert_least.proofs.Advancing.{reached_where}

some-same : {A : Type 0} {x y : A} → Some x ≡ Some y → x ≡ y
some-same e = cc

space-is : (p : Problem) (d : Due) → tree_space p d ≡ stand_space p (stand_due d)
space-is p (root_due s lemmas) = refl
space-is p (tree_due s lemmas S pending done) = refl
space-is p _ = refl

pub tree_here : (p : Problem) (c : Option WorkCourse) (d : Due) → due_in c ≡ Some d → (stand : Stand) → stand ≡ stand_in c → tree_space p d ≡ stand_space p stand
tree_here p c d e stand h = space-is p d ∙ ap (stand_space p) (sym (h ∙ ap stand_in (reached_where c d e).course))

module _ (f : Space → Interval) where
  pub no_values : (o : Option Space) → None ≡ option_map f o → o ≡ None
  no_values None e = refl
  no_values (Some space) e = cc

  pub record Valued (o : Option Space) (values : Interval) : Type 0 where
    pub space : Space
    pub here : o ≡ Some space
    pub values_are : values ≡ f space

  pub with_values : (o : Option Space) (values : Interval) → Some values ≡ option_map f o → Valued o values
  with_values None values e = cc
  with_values (Some space) values e = record { space = space; here = refl; values_are = some-same e }
