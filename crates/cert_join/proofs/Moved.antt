-- What is held is drafted, and nothing is held then.
use Rattle.std.proofs.Common.{ℕ, List, [], ◌++◌, ap, sym, ◌∙◌, subst, append_assoc, append-nil}
use Rattle.cert_joined.specs.Covers.{Cover}
use Rattle.cert_join.specs.declared.joiner.Stage.{Stage}
use Rattle.cert_join.specs.declared.joiner.Stage.TheVariants.{Heads, Point, Numbering, Lemmas, Trees, Ends}
use Rattle.cert_join.specs.declared.trees.Task.{Task}
use Rattle.cert_join.specs.declared.trees.Task.TheVariants.{Compare, Copy, Weigh}
use Rattle.cert_join.specs.Due.{Course, IsNextDue, IsWhole, stacked}
use Rattle.cert_join.specs.Joining.{AreAtLemmas, IsAt, IsJoinText}
use Rattle.cert_join.specs.Spot.{Spot}

-- the same course, where more was written before
abbrev further : Course → List ℕ → Course
further k text = record k { done = k.done ++ text }

whole-further : (k : Course) (text out : List ℕ) → IsWhole k (text ++ out) → IsWhole (further k text) ([] ++ out)
whole-further k text out w = (w.0, w.1, append_assoc k.done text out ∙ w.2)

due-further : (k : Course) (task : Task) (parts : List (List ℕ)) (text : List ℕ) (spots : List Spot) → IsNextDue k task parts text spots → IsNextDue (further k text) task parts [] spots
due-further k Compare parts text spots d = record { due = d.due; places = d.places; there = d.there; good = d.good; stand = d.stand; whole = λ out y. whole-further k text out (d.whole out y) }
due-further k (Copy part waiting) parts text spots d = record {
  lines = d.lines;
  trees = d.trees;
  spelled = d.spelled;
  due = d.due;
  places = d.places;
  there = d.there;
  good = d.good;
  stand = d.stand;
  whole = λ out y. whole-further k text _ (d.whole out y);
}
due-further k (Weigh w) parts text spots d = record {
  certs = d.certs;
  ends = d.ends;
  taken = d.taken;
  due = d.due;
  weighing = d.weighing;
  certs_are = d.certs_are;
  ends_are = d.ends_are;
  behind = d.behind;
  shaped = d.shaped;
  spelled = d.spelled;
  places = d.places;
  there = d.there;
  good = d.good;
  whole = λ out y. whole-further k text _ (d.whole out y);
}

pub at_moved : (certs : List (List ℕ)) (first : Cover) (covers : List Cover) (done text : List ℕ) (numbers : List (List ℕ)) (stage : Stage) (spots : List Spot) →
    IsAt certs first covers done text numbers stage spots → IsAt certs first covers (done ++ text) [] numbers stage spots
at_moved certs first covers done text numbers (Heads h) spots at = (append-nil (done ++ text) ∙ at.0, at.1)
at_moved certs first covers done text numbers (Point part) spots at = absurd at
at_moved certs first covers done text numbers (Numbering h n) spots at = (append-nil (done ++ text) ∙ at.0, at.1, at.2)
at_moved certs first covers done text numbers (Lemmas s) spots at = subst (λ (x : List ℕ). AreAtLemmas certs first covers x numbers s spots) (sym (append-nil (done ++ text))) at
at_moved certs first covers done text numbers (Trees t) spots at = record {
  settled = at.settled;
  course = further at.course text;
  is = record {
    cert_is = at.is.cert_is;
    numbers_are = at.is.numbers_are;
    trees_are = at.is.trees_are;
    done_is = ap (λ (x : List ℕ). x ++ text) at.is.done_is;
    front_is = at.is.front_is;
  };
  due = due-further at.course t.task (stacked t.places.items) text spots at.due;
}
at_moved certs first covers done text numbers (Ends part is_read) spots at = subst (λ (x : List ℕ). IsJoinText covers x) (sym (append-nil (done ++ text))) at
