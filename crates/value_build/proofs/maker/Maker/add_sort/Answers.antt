use Rattle.std.proofs.Common.{map}
use Rattle.smt_script.specs.Views.{sort_of}
use Rattle.term_build.specs.Shapes.{sketch_of}
use Rattle.value_build.proofs.Marks.{sort_sketch}
use Rattle.value_build.proofs.maker.Maker.add_sort.Goals as goal

pub invariant_of-self : goal.invariant_of-self
invariant_of-self c = sort_sketch c.self.inside.builder c.add_sort.new.self (sort_of c.args.sort) (map sketch_of c.self.inside.sketch.items) c.add_sort.result c.add_sort.ensures.added c.add_sort.ensures.stays c.self.invariant
