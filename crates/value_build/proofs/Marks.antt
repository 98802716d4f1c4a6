-- A maker that goes back has what it had.
use Rattle.std.proofs.Common.{◌≡◌, ℕ, List, [], ◌++◌, length, take, ap, sym, ◌∙◌, subst}
use Rattle.std.proofs.Math.Seq.{take-append_seam}
use Rattle.std.specs.Prelude.{Result, Ok, Err, OnOk, OnErr}
use Rattle.std.specs.declared.alloc.AllocError.{AllocError}
use Rattle.script_model.specs.Sexp.{Place}
use Rattle.dyadic.specs.Point.{Sort, bool_sort}
use Rattle.poly_graph.specs.FormGraph.{FormNode, graph_forms, node_form}
use Rattle.term_build.specs.Built.{BuilderModel, IsMade, stand_of}
use Rattle.term_build.specs.Calls.{MakesForm}
use Rattle.term_build.specs.Marks as builder
use Rattle.term_build.specs.Settled.{Extends}
use Rattle.term_build.specs.Sketch.{SketchNode, yes_sketch, no_sketch, comparison_sketch, bool_sketch, all_sketch, any_sketch, choice_sketch, equal_sketch, crowd_sketch, IsDrawn, IsSketch}
use Rattle.term_build.specs.declared.stop.Stop.{Stop}
use Rattle.term_build.proofs.Marks as made
use Rattle.term_build.proofs.Marks.{has_sort_more}
use Rattle.term_build.proofs.Shaping.{form_extends}
use Rattle.value_build.specs.Making.{Making, MoreLists}
use Rattle.value_build.specs.Marks.{counts_of, taken}

-- what has grown, its earlier state having nothing drawn, has that where it goes back
pub taken_back : (old new : Making) → IsMade old.made → IsMade new.made → Extends (stand_of old.made) (stand_of new.made) → MoreLists old.bounds new.bounds → (more : List Sort) → new.made.sorts ≡ old.made.sorts ++ more → old.drawn ≡ [] →
    taken (counts_of old) new ≡ old
taken_back old new h i e lists more sorts none =
    let built = made.taken_back old.made new.made h i e more sorts in
    let bounds : take (length old.bounds) new.bounds ≡ old.bounds = ap (take (length old.bounds)) lists.1 ∙ take-append_seam old.bounds lists.0 in
    λ j. record { made = built j; drawn = sym none j; bounds = bounds j }

-- ---- one more constant

drawn-more : (m : BuilderModel) (t : Sort) (d : SketchNode) → IsDrawn m d → IsDrawn (builder.with_sort m t) d
drawn-more m t yes_sketch h = h
drawn-more m t no_sketch h = h
drawn-more m t (comparison_sketch at l r kind) h = h
drawn-more m t (bool_sketch axis v) h = has_sort_more bool_sort t m.sorts axis h
drawn-more m t (all_sketch ks) h = h
drawn-more m t (any_sketch ks) h = h
drawn-more m t (equal_sketch at ks) h = h
drawn-more m t (crowd_sketch v ks) h = h
drawn-more m t (choice_sketch p x y) h = h

sketch-more : (m : BuilderModel) (t : Sort) (ds : List SketchNode) → IsSketch m ds → IsSketch (builder.with_sort m t) ds
sketch-more m t ds h = record { ordered = h.ordered; drawn = λ k d e. drawn-more m t d (h.drawn k d e) }

pub sort_sketch : {X : Type 0} (m m' : BuilderModel) (t : Sort) (ds : List SketchNode) (r : Result X AllocError) → OnOk r (m' ≡ builder.with_sort m t) → OnErr r (m' ≡ m) → IsSketch m ds → IsSketch m' ds
sort_sketch m m' t ds (Ok x) e f h = subst (λ (b : BuilderModel). IsSketch b ds) (sym e) (sketch-more m t ds h)
sort_sketch m m' t ds (Err x) e f h = subst (λ (b : BuilderModel). IsSketch b ds) (sym f) h

-- ---- a form

pub form_stands : (m m' : BuilderModel) (n : FormNode) (r : Result ℕ Stop) → MakesForm m m' n r → OnOk r (Extends (stand_of m) (stand_of m'))
form_stands m m' n (Ok k) h = form_extends here (stand_of m) (stand_of m') (node_form (graph_forms m.forms) n) (h.0 here)
  where
    here : Place
    here = record { line = 0; column = 0 }
form_stands m m' n (Err e) h = tt
