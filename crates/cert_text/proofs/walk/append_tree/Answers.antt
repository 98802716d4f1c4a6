use Rattle.std.proofs.Common.{◌≡◌, ℕ, ◌+◌, List, [], ◌∷◌, ◌++◌, map, refl, ap, sym, ◌∙◌, subst, arith}
use Rattle.std.proofs.lemmas.List.{length-map}
use Rattle.cover_book.specs.Model.{NodeModel}
use Rattle.cover_book.specs.Views.{node_of}
use Rattle.cert_text.proofs.GroupWords.{short_there}
use Rattle.cert_text.proofs.Appended.{Progress, first_waits, node_written, nothing_waits, all_written}
use Rattle.cert_text.proofs.walk.append_tree.Goals as goal

pub loop-taken-init : goal.loop-taken-init
loop-taken-init c = λ t ns xs w h.
    let nodes : List NodeModel = map node_of c.args.nodes.now in
    let first : c.push.new.self.items ≡ 0 ∷ [] = c.in_ok-push.ensures.items ∙ ap (λ (is : List ℕ). is ++ (0 ∷ [])) c.new-waiting.ensures.items in
    subst (λ (stack : List ℕ). Progress nodes c.args.text.now.items c.args.text.now.items stack 0 t) (sym first) (first_waits nodes c.args.text.now.items t ns xs w h)

pub returns-in-None : goal.returns-in-None
returns-in-None c = λ t ns xs w h.
    nothing_waits (map node_of c.args.nodes.now) c.args.text.now.items c.loop-taken.text.items c.loop-taken.waiting.items c.loop-taken._taken t (c.loop-taken.invariant t ns xs w h) c.in-None.ensures

pub append_node-requires : goal.append_node-requires
append_node-requires c =
    let taken = c.in-Some.ensures in
    short_there (map node_of c.args.nodes.now) taken.number (node_of c.in-Some.node.now) taken.there c.requires

pub loop-taken-preserved : goal.loop-taken-preserved
loop-taken-preserved c = λ t ns xs w h.
    node_written (map node_of c.args.nodes.now) c.args.text.now.items c.loop-taken.text.items c.append_node.new.text.items c.loop-taken.waiting.items c.take_next.new.waiting.items c.push_kids.new.waiting.items c.loop-taken._taken
    (c.loop-taken._taken + 1) t (node_of c.in-Some.node.now) (c.loop-taken.invariant t ns xs w h) c.in-Some.ensures c.in_ok-append_node-in-Some.ensures c.in_ok-push_kids-in-Some.ensures refl

pub returns : goal.returns
returns c = λ t ns xs w h.
    all_written (map node_of c.args.nodes.now) c.args.text.now.items c.loop-taken.text.items c.loop-taken.waiting.items c.loop-taken._taken t (c.loop-taken.invariant t ns xs w h)
    (omega (arith, c.loop-taken-test.false, length-map c.args.nodes.now node_of))
