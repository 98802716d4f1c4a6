use Rattle.std.proofs.Common.{◌≡◌, ℕ, ◌<◌, ◌≤◌, ◌∙◌, List, Bool, length, get_or, set, true, ap, sym, subst, arith}
use Rattle.std.proofs.lemmas.List.{length-set, set-get_or}
use Rattle.interval_model.specs.Interval.{nothing}
use Rattle.poly_graph.specs.Parents.{parents_of}
use Rattle.poly_graph.specs.Views.{node_of}
use Rattle.cover_model.specs.NodeEnclosure.{row, node_enclosure}
use Rattle.cover_model.proofs.NodeEnclosures.{comes_at, comes_later}
use Rattle.ival.specs.Views.{interval_of}
use Rattle.ival.specs.RowViews.{rows_of, marks_of, is_marked}
use Rattle.ival.specs.SpaceViews.{space_of}
use Rattle.ival.proofs.MarkWords.{length_marks}
use Rattle.ival.proofs.Equality.{same_interval}
use Rattle.plain_eval.proofs.Upwards.{node_inside, parents_inside, parent_listed, marked_more}
use Rattle.plain_eval.proofs.following.renew.Goals as goal

pub value-interval-requires : goal.value-interval-requires
value-interval-requires c =
    let nodes = c.args.graph.now in let n = c.args.n in let node = node_of c.args.node in
    let low : n ≤ length (rows_of c.args.rows.now) = omega (arith, c.requires.count, node_inside nodes n node c.requires.node) in
    comes_later n (length (rows_of c.args.rows.now)) node low (comes_at nodes c.len.ensures.graph.ordered n node c.requires.node)

pub returns-then-eq : goal.returns-then-eq
returns-then-eq c =
    let es = rows_of c.args.rows.now in let n = c.args.n in
    let same : row es n ≡ node_enclosure (space_of c.args.space.now) es (node_of c.args.node) =
    sym c.get.ensures ∙ sym (same_interval c.value-interval.result c.get.result (sym c.eq.ensures ∙ c.if-eq.true)) ∙ c.value-interval.ensures in
    record {
      rows = sym (set-get_or es n nothing) ∙ ap (set es n) same;
      here = λ h. same;
      marks = λ k h. h;
      parents = λ k q e h m. same;
    }

pub mark_all-requires : goal.mark_all-requires
mark_all-requires c k d h =
    let nodes = c.args.graph.now in let n = c.args.n in
    let is : c.of.result.now ≡ parents_of nodes n = c.of.ensures ∙ c.requires.parents.each n in
    let below = parents_inside n 0 nodes k d (subst (λ (xs : List ℕ). k < length xs) is h) in
    let count : length (rows_of c.mark.new.self) ≡ length nodes =
    ap length c.mark.ensures.rows ∙ ap length c.set.ensures.rows ∙ length-set (rows_of c.args.rows.now) n (interval_of c.value-interval.result) ∙ c.requires.count in
    subst (λ (xs : List ℕ). get_or xs k d < length (rows_of c.mark.new.self)) (sym is) (omega (arith, below, count))

pub returns : goal.returns
returns c =
    let nodes = c.args.graph.now in let es = rows_of c.args.rows.now in let n = c.args.n in let new = c.mark_all.new.rows in let set_at = c.set.new.self in let marked_at = c.mark.new.self in
    let is : parents_of nodes n ≡ c.of.result.now = sym (c.of.ensures ∙ c.requires.parents.each n) in
    let inside : n < length (marks_of set_at) = omega (arith, length_marks set_at, ap length c.set.ensures.rows, length-set es n (interval_of c.value-interval.result), c.requires.count, node_inside nodes n (node_of c.args.node) c.requires.node) in
    let more = marked_more (marks_of set_at) (marks_of marked_at) n c.mark.ensures.marks inside in
    record {
      rows = c.mark_all.ensures.rows ∙ c.mark.ensures.rows ∙ c.set.ensures.rows ∙ ap (set es n) c.value-interval.ensures;
      here = λ h. let f = c.mark_all.ensures.others n h in let t = more.1 in cc;
      marks = λ k h. ap (λ (ms : List Bool). is_marked ms k) (sym c.set.ensures.marks) ∙ more.0 k (c.mark_all.ensures.others k h);
      parents = λ k q e h m.
          let listed = parent_listed n 0 nodes k q e h in
          let here : get_or c.of.result.now listed.0 0 ≡ k = ap (λ (xs : List ℕ). get_or xs listed.0 0) (sym is) ∙ listed.2 ∙ omega arith in
          let marked : is_marked (marks_of new) k ≡ true =
          subst (λ (x : ℕ). is_marked (marks_of new) x ≡ true) here (c.mark_all.ensures.all listed.0 (subst (λ (xs : List ℕ). listed.0 < length xs) is listed.1)) in
          cc;
    }
