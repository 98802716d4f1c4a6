use Rattle.std.proofs.Common.{◌≡◌, ℕ, ◌+◌, List, [], ◌∷◌, ◌++◌, map, refl, ap, sym, ◌∙◌, subst, arith}
use Rattle.std.proofs.lemmas.List.{length-map}
use Rattle.cover_model.specs.Rules.{stuck}
use Rattle.cover_book.specs.Model.{NodeModel}
use Rattle.cover_book.specs.Views.{node_of}
use Rattle.cert_text.specs.Parts.{IsNextTaken}
use Rattle.cert_text.proofs.Searched.{Searched, first_searched, node_searched, nothing_searched, all_searched, stuck_reached, some_stuck}
use Rattle.cert_text.proofs.stuck.first_stuck_node.Goals as goal

pub loop-taken-init : goal.loop-taken-init
loop-taken-init c = λ t ns xs w h.
    let nodes : List NodeModel = map node_of c.args.nodes.now in
    let first : c.push.new.self.items ≡ 0 ∷ [] = c.in_ok-push.ensures.items ∙ ap (λ (is : List ℕ). is ++ (0 ∷ [])) c.new-waiting.ensures.items in
    subst (λ (stack : List ℕ). Searched nodes stack 0 xs) (sym first) (first_searched nodes t ns xs w h)

pub returns-in-None : goal.returns-in-None
returns-in-None c = λ t ns xs w h.
    nothing_searched (map node_of c.args.nodes.now) c.loop-taken.waiting.items c.loop-taken._taken xs (c.loop-taken.invariant t ns xs w h) c.in-None.ensures

pub returns-in-Some-stuck_box : goal.returns-in-Some-stuck_box
returns-in-Some-stuck_box c =
    let nodes : List NodeModel = map node_of c.args.nodes.now in let is = c.in-Some-stuck_box.ensures in
    record {
      some = some_stuck nodes c.loop-taken.waiting.items c.take_next.new.waiting.items (node_of c.in-Some.node.now) is.0 (stuck c.in-Some-stuck_box.found.atom) c.in-Some-stuck_box.found.state.now c.in-Some.ensures is.1;
      first = λ t ns xs w h.
          stuck_reached nodes c.loop-taken.waiting.items c.take_next.new.waiting.items c.loop-taken._taken xs is.0 c.in-Some-stuck_box.found.atom c.in-Some-stuck_box.found.state.now (c.loop-taken.invariant t ns xs w h)
          (subst (IsNextTaken nodes c.loop-taken.waiting.items c.take_next.new.waiting.items) is.1 c.in-Some.ensures);
    }

pub loop-taken-preserved : goal.loop-taken-preserved
loop-taken-preserved c = λ t ns xs w h.
    node_searched (map node_of c.args.nodes.now) c.loop-taken.waiting.items c.take_next.new.waiting.items c.push_kids.new.waiting.items c.loop-taken._taken (c.loop-taken._taken + 1) xs (node_of c.in-Some.node.now)
    (c.loop-taken.invariant t ns xs w h) c.in-Some.ensures c.in-None-stuck_box.ensures c.in_ok-push_kids-in-None-stuck_box.ensures refl

pub returns : goal.returns
returns c = λ t ns xs w h.
    all_searched (map node_of c.args.nodes.now) c.loop-taken.waiting.items c.loop-taken._taken xs (c.loop-taken.invariant t ns xs w h)
    (omega (arith, c.loop-taken-test.false, length-map c.args.nodes.now node_of))
