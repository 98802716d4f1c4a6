use Rattle.std.proofs.Common.{length, ap, sym, ◌∙◌, arith}
use Rattle.std.proofs.lemmas.List.{length-map}
use Rattle.ival.specs.SpaceViews.{space_of}
use Rattle.cert_check.specs.States.{lengthened_lemma, state_of}
use Rattle.cert_check.proofs.Covered.{covers_none}
use Rattle.cert_check.proofs.Table.{few_atoms, same_axes, space_inside, space_outside}
use Rattle.cert_check.proofs.lemmas.Lemmas.covers.Goals as goal

pub returns-then-i-len : goal.returns-then-i-len
returns-then-i-len c =
    let t = c.self.inside in
    sym (covers_none c.args.self.now c.args.i (state_of c.args.state.now)
    (omega (arith, c.if-i-len.true, c.len.ensures, t.written.ok.0, length-map t.written.items (lengthened_lemma (space_of t.beyond) t.atoms), ap length c.self.view_is)))

pub within-requires : goal.within-requires
within-requires c =
    let t = c.self.inside in
    same_axes (space_of t.beyond) t.atoms t.written.items c.args.self.now c.self.view_is c.args.i c.index-lemma.result.now (omega (arith, c.if-i-len.false, c.len.ensures, t.written.ok.0)) c.index-lemma.ensures
    (state_of c.args.state.now) c.requires

pub marks_cover-requires : goal.marks_cover-requires
marks_cover-requires c =
    let t = c.self.inside in
    few_atoms (space_of t.beyond) t.atoms t.written.items c.args.self.now c.self.view_is c.args.i c.index-lemma.result.now (omega (arith, c.if-i-len.false, c.len.ensures, t.written.ok.0)) c.index-lemma.ensures
    (state_of c.args.state.now) c.requires

pub returns-then-not-branch : goal.returns-then-not-branch
returns-then-not-branch c =
    let t = c.self.inside in
    space_outside (space_of t.beyond) t.atoms t.written.items c.args.self.now c.self.view_is c.args.i c.index-lemma.result.now (omega (arith, c.if-i-len.false, c.len.ensures, t.written.ok.0)) c.index-lemma.ensures
    (state_of c.args.state.now) c.requires c.in_ok-within.field-0 c.in_ok-within.ensures c.if-not-branch.true

pub returns : goal.returns
returns c =
    let t = c.self.inside in
    space_inside (space_of t.beyond) t.atoms t.written.items c.args.self.now c.self.view_is c.args.i c.index-lemma.result.now (omega (arith, c.if-i-len.false, c.len.ensures, t.written.ok.0)) c.index-lemma.ensures
    (state_of c.args.state.now) c.requires c.in_ok-within.field-0 c.marks_cover.result c.in_ok-within.ensures c.if-not-branch.false c.marks_cover.ensures
