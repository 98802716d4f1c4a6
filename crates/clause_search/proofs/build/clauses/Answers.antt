use Rattle.std.proofs.Common.{◌≡◌, arith}
use Rattle.poly_graph.specs.ProblemViews.{axis_of}
use Rattle.poly_graph.specs.Views.{atom_of}
use Rattle.clause_search.proofs.Encodes.{root_within, gathered, gathered_named, made_encodes, as_many}
use Rattle.clause_search.proofs.build.clauses.Goals as goal

pub variable_at-requires : goal.variable_at-requires
variable_at-requires c = root_within c.args.problem.now c.root-root.result c.axes.ensures.whole c.root-root.ensures.root

pub new-requires : goal.new-requires
new-requires c =
    let last : c.loop-k.k ≡ c.len-count.result = omega arith in
    gathered_named c.args.problem.now c.forms.result.now c.add_unit.new.made c.in_ok-atoms.atoms c.in_ok-axes.axes c.len-count.result c.axes.ensures.whole c.len-count.ensures.graph.ordered c.forms.ensures.forms
    (gathered c.args.problem.now c.forms.result.now c.loop-k.made c.add_unit.new.made c.loop-k.k c.in_ok-atoms.atoms c.in_ok-axes.axes c.len-count.result c.root-root.result c.variable_at.result
    c.forms.ensures.forms c.len-count.ensures.len last c.loop-k.invariant c.root-root.ensures.root c.variable_at.ensures c.in_ok-add_unit.ensures
    (as_many atom_of c.atoms.result.now c.args.problem.now.atoms c.in_ok-atoms.atoms c.in_ok-atoms.ensures c.atoms.ensures.atoms)
    (as_many axis_of c.axes.result.now c.args.problem.now.axes c.in_ok-axes.axes c.in_ok-axes.ensures c.axes.ensures.axes))

pub returns : goal.returns
returns c =
    let last : c.loop-k.k ≡ c.len-count.result = omega arith in
    made_encodes c.args.problem.now c.forms.result.now c.add_unit.new.made c.in_ok-atoms.atoms c.in_ok-axes.axes c.len-count.result c.new.result c.axes.ensures.whole c.len-count.ensures.graph.ordered c.forms.ensures.forms
    (gathered c.args.problem.now c.forms.result.now c.loop-k.made c.add_unit.new.made c.loop-k.k c.in_ok-atoms.atoms c.in_ok-axes.axes c.len-count.result c.root-root.result c.variable_at.result
    c.forms.ensures.forms c.len-count.ensures.len last c.loop-k.invariant c.root-root.ensures.root c.variable_at.ensures c.in_ok-add_unit.ensures
    (as_many atom_of c.atoms.result.now c.args.problem.now.atoms c.in_ok-atoms.atoms c.in_ok-atoms.ensures c.atoms.ensures.atoms)
    (as_many axis_of c.axes.result.now c.args.problem.now.axes c.in_ok-axes.axes c.in_ok-axes.ensures c.axes.ensures.axes))
    c.new.ensures
