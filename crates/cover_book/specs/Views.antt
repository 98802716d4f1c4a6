-- The book's parts in code as the definitions see them.
use Rattle.std.specs.Prelude.{Option, Some, None, map}
use Rattle.poly_graph.specs.ProblemViews.{Parts, problem_of}
use Rattle.cover_model.specs.State.{State, root_state}
use Rattle.cover_data.specs.Views.{step_line, end_line}
use Rattle.cover_book.specs.declared.node.Node.{Node}
use Rattle.cover_book.specs.declared.node.Node.TheVariants.{Live, Crossed, Closed, Parted, Stuck}
use Rattle.cover_book.specs.declared.node.Learned.{Learned}
use Rattle.cover_book.specs.Model.{LearnedLemma, NodeModel, live_node, crossed_node, closed_node, parted_node, stuck_node}

abbrev pub node_of : Node → NodeModel
node_of (Live s) = live_node s
node_of (Crossed axis) = crossed_node axis
node_of (Closed lines) = closed_node (map step_line lines.steps.items) (end_line lines.end)
node_of (Parted lines lower) = parted_node (map step_line lines.steps.items) (end_line lines.end) lower
node_of (Stuck lines s) = stuck_node (map step_line lines.steps.items) (end_line lines.end) s

abbrev pub learned_of : Learned → LearnedLemma
learned_of l = record { state = l.state; steps = map step_line l.lines.steps.items; end = end_line l.lines.end }

-- the state that a book keeps as its first one; it keeps none where that is the root state of its problem
abbrev pub first_state : Parts → Option State → State
first_state p None = root_state (problem_of p)
first_state p (Some S) = S
