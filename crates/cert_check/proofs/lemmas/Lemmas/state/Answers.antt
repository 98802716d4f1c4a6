use Rattle.std.proofs.Common.{ℕ, List, Some, length, map, max, ap, ap₂, sym, ◌∙◌, arith}
use Rattle.std.specs.Prelude.{slice_get}
use Rattle.std.proofs.Math.Nat.{le-max_left}
use Rattle.std.proofs.lemmas.List.{length-map}
use Rattle.interval_model.specs.Space.{Space}
use Rattle.poly_graph.specs.Marks.{Mark, marks_of}
use Rattle.ival.specs.SpaceViews.{space_of}
use Rattle.cover_model.specs.State.{State, state_of}
use Rattle.cert_check.specs.declared.standing.Lemma.{Lemma}
use Rattle.cert_check.specs.States.{lengthened_lemma}
use Rattle.cert_check.proofs.Carried.{state_at}
use Rattle.cert_check.proofs.lemmas.Lemmas.state.Goals as goal

pub index-lemma-requires : goal.index-lemma-requires
index-lemma-requires c =
    let t = c.self.inside in omega (arith, c.requires, t.written.ok.0, length-map t.written.items (lengthened_lemma (space_of t.beyond) t.atoms), ap length c.self.view_is)

pub marks_for-requires : goal.marks_for-requires
marks_for-requires c = omega (arith, c.max.ensures, le-max_left c.index-lemma.result.now.atoms c.self.inside.atoms)

pub returns : goal.returns
returns c =
    let t = c.self.inside in let f = lengthened_lemma (space_of t.beyond) t.atoms in let L = c.index-lemma.result.now in
    ap (λ (Ss : List State). slice_get Ss c.args.i) (sym c.self.view_is)
    ∙ state_at f t.written.items c.args.i L (omega (arith, c.requires, length-map t.written.items f, ap length c.self.view_is))
    ∙ ap (λ (M : Lemma). Some (f M)) (sym c.index-lemma.ensures)
    ∙ ap₂ (λ (x : Space) (ms : List Mark). Some (state_of x ms)) (sym c.in_ok-space.ensures) (ap (λ (n : ℕ). marks_of n L.yes.items L.no.items) (sym c.max.ensures) ∙ sym c.in_ok-marks.ensures)
