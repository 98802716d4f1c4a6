use Rattle.std.proofs.Common.{ℕ, List, IsTrue, sym, subst}
use Rattle.cert_model.specs.Due.{all_below}
use Rattle.cert_check.proofs.Carried.{below_more}
use Rattle.cert_check.proofs.lemmas.marks_for.Goals as goal

pub marks-requires-clause-yes : goal.marks-requires-clause-yes
marks-requires-clause-yes c =
    let L = c.args.lemma.now in
    subst (λ (js : List ℕ). IsTrue (all_below c.args.count js)) (sym c.deref.ensures.value) (below_more L.atoms c.args.count L.yes.items c.requires L.yes_below)

pub marks-requires-clause-no : goal.marks-requires-clause-no
marks-requires-clause-no c =
    let L = c.args.lemma.now in
    subst (λ (js : List ℕ). IsTrue (all_below c.args.count js)) (sym c.deref-2.ensures.value) (below_more L.atoms c.args.count L.no.items c.requires L.no_below)
