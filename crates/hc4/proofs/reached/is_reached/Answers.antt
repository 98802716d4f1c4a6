use Rattle.std.proofs.Common.{◌≡◌, ℕ, Bool, true, false, not, refl, sym, ◌∙◌, subst}
use Rattle.interval_model.specs.Space.{axis_interval}
use Rattle.ival.specs.RowViews.{rows_of}
use Rattle.ival.specs.SpaceViews.{space_of}
use Rattle.ival.proofs.Equality.{same_interval}
use Rattle.poly_graph.specs.Views.{node_of}
use Rattle.poly_graph.specs.declared.node.Node.{Node}
use Rattle.cover_model.specs.NodeEnclosure.{row}
use Rattle.hc4.specs.Reached.{IsCalm}
use Rattle.hc4.proofs.reached.is_reached.Goals as goal

no-less : (b : Bool) → not b ≡ false → b ≡ true
no-less true h = refl
no-less false h = cc

pub returns-in-Var : goal.returns-in-Var
returns-in-Var c h =
    let s = space_of c.args.space.now in let rows = rows_of c.args.rows.now in
    let same : axis_interval s c.in-Var.axis ≡ row rows c.args.n = sym c.interval.ensures ∙ same_interval c.interval.result c.get.result (no-less _ (sym c.ne.ensures ∙ h)) ∙ c.get.ensures in
    subst (λ (m : Node). IsCalm c.args.space.now c.args.rows.now c.args.n (node_of m)) (sym c.in-Var.is) (record {
      axis = λ a e. let i : c.in-Var.axis ≡ a = cc in subst (λ (k : ℕ). axis_interval s k ≡ row rows c.args.n) i same;
      children = λ k e. cc;
    })
