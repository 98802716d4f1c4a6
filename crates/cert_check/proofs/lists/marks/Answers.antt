use Rattle.std.proofs.Common.{◌≡◌, ℕ, length, ap, sym, ◌∙◌, subst, IsTrue, List}
use Rattle.poly_graph.specs.Marks.{Mark, marked_yes}
use Rattle.cert_model.specs.Due.{all_below}
use Rattle.cert_check.specs.Lists.{marked}
use Rattle.cert_check.proofs.Marking.{length_marked, length_none, marks_meet, marks_part}
use Rattle.cert_check.proofs.lists.marks.Goals as goal

pub all_unmarked-requires : goal.all_unmarked-requires
all_unmarked-requires c =
    let count : length c.mark_all.new.lits ≡ c.args.count = ap length c.mark_all.ensures ∙ length_marked c.in_ok-lits.lits c.args.yes.now marked_yes ∙ ap length c.in_ok-lits.ensures ∙ length_none c.args.count in
    subst (λ (n : ℕ). IsTrue (all_below n c.args.no.now)) (sym count) c.requires.no

pub mark_all-requires-2 : goal.mark_all-requires-2
mark_all-requires-2 c =
    let count : length c.mark_all.new.lits ≡ c.args.count = ap length c.mark_all.ensures ∙ length_marked c.in_ok-lits.lits c.args.yes.now marked_yes ∙ ap length c.in_ok-lits.ensures ∙ length_none c.args.count in
    subst (λ (n : ℕ). IsTrue (all_below n c.args.no.now)) (sym count) c.requires.no

pub returns-then-not-all_unmarked : goal.returns-then-not-all_unmarked
returns-then-not-all_unmarked c =
    marks_meet c.args.count c.args.yes.now c.args.no.now c.mark_all.new.lits c.all_unmarked.result c.requires.no
    (c.mark_all.ensures ∙ ap (λ (ms : List Mark). marked ms c.args.yes.now marked_yes) c.in_ok-lits.ensures) c.all_unmarked.ensures c.if-not-all_unmarked.true

pub returns : goal.returns
returns c =
    marks_part c.args.count c.args.yes.now c.args.no.now c.mark_all.new.lits c.mark_all-2.new.lits c.all_unmarked.result c.requires.no
    (c.mark_all.ensures ∙ ap (λ (ms : List Mark). marked ms c.args.yes.now marked_yes) c.in_ok-lits.ensures) c.all_unmarked.ensures c.if-not-all_unmarked.false c.mark_all-2.ensures
