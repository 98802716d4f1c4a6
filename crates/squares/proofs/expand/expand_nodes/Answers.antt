use Rattle.std.proofs.Common.{◌≡◌, ℕ, ◌+◌, ◌<◌, List, Option, IsTrue, false, length, map, get_or, ap, sym, subst, ◌∙◌, arith}
use Rattle.std.proofs.lemmas.List.{length-map}
use Rattle.ival.specs.SpaceViews.{space_of}
use Rattle.poly_graph.specs.Term.{comes_after}
use Rattle.poly_graph.specs.Views.{node_of}
use Rattle.poly_graph.proofs.Graphs.{in_order_at}
use Rattle.square_model.specs.Polynomial as model
use Rattle.squares.specs.Expanding.{IsNextIf, IsExpandedTo}
use Rattle.squares.specs.Views.{terms_of}
use Rattle.squares.specs.declared.polynomial.Polynomial.{Polynomial}
use Rattle.squares.proofs.Advancing.{one_more, advanced, stopped}
use Rattle.squares.proofs.expand.expand_nodes.Goals as goal

pub next_if-requires : goal.next_if-requires
next_if-requires c =
    let n = c.loop-n.n in let node = node_of c.node-node.result in
    let zero-on : 0 + n ≡ n = omega arith in
    let count : length c.deref.result.now ≡ n = ap length c.deref.ensures.value ∙ sym (length-map c.loop-n.polynomials.items terms_of) ∙ c.loop-n.invariant.count in
    subst (λ (k : ℕ). IsTrue (comes_after k node)) (zero-on ∙ sym count) (in_order_at 0 c.args.graph.now c.len-count.ensures.graph.ordered n node c.node-node.ensures).0

pub returns-in-None : goal.returns-in-None
returns-in-None c =
    let n = c.loop-n.n in let node = node_of c.node-node.result in let centre = space_of c.args.centre.now in let nodes = c.args.graph.now in let marks = c.args.marks.now in
    let old = c.loop-n.budget in let new = c.next_if.new.budget in
    let inside : n < length nodes = omega (arith, c.loop-n-test.true, c.len-count.ensures.len) in
    stopped centre nodes c.len-count.ensures.graph.ordered marks c.requires.closed n (map terms_of c.loop-n.polynomials.items) c.args.budget.now.left node old new c.loop-n.invariant inside c.node-node.ensures
    (subst (λ (o : Option Polynomial). IsNextIf (get_or marks n false) centre (map terms_of c.loop-n.polynomials.items) node old new o) c.in-None.is
    (subst (λ (qs : List Polynomial). IsNextIf (get_or marks n false) centre (map terms_of qs) node old new c.in_ok-next_if.field-0) c.deref.ensures.value c.in_ok-next_if.ensures))

pub loop-n-preserved : goal.loop-n-preserved
loop-n-preserved c =
    let n = c.loop-n.n in let node = node_of c.node-node.result in let centre = space_of c.args.centre.now in let nodes = c.args.graph.now in let marks = c.args.marks.now in
    let old = c.loop-n.budget in let new = c.next_if.new.budget in let all = c.args.budget.now.left in let p = c.in-Some.polynomial in
    subst (λ (ts : List model.Polynomial). IsExpandedTo centre nodes marks (n + 1) ts new.left all) (sym (ap (map terms_of) c.in_ok-push-in-Some.ensures.items ∙ one_more c.loop-n.polynomials.items p))
    (advanced centre nodes c.len-count.ensures.graph.ordered marks c.requires.closed n (map terms_of c.loop-n.polynomials.items) all node old new p c.loop-n.invariant c.node-node.ensures
    (subst (λ (o : Option Polynomial). IsNextIf (get_or marks n false) centre (map terms_of c.loop-n.polynomials.items) node old new o) c.in-Some.is
    (subst (λ (qs : List Polynomial). IsNextIf (get_or marks n false) centre (map terms_of qs) node old new c.in_ok-next_if.field-0) c.deref.ensures.value c.in_ok-next_if.ensures)))
