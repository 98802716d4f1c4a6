use Rattle.std.proofs.Common.{◌≡◌, ℕ, ◌∙◌, ◌&&◌, ap, ap₂, length, refl, sym, Bool}
use Rattle.std.specs.List.{list_all}
use Rattle.poly_graph.specs.Marks.{is_yes, is_no, mark_at}
use Rattle.cert_check.proofs.Carried.{below_more}
use Rattle.cert_check.proofs.Covered.{lists_cover}
use Rattle.cert_check.proofs.covering.marks_cover.Goals as goal

pub returns-then-all_yes : goal.returns-then-all_yes
returns-then-all_yes c =
    let L = c.args.lemma.now in let ms = c.args.lits.now in
    let yes : list_all (λ (j : ℕ). is_yes (mark_at ms j)) L.yes.items ≡ c.all_yes.result = ap (list_all (λ (j : ℕ). is_yes (mark_at ms j))) (sym c.deref.ensures.value) ∙ sym c.all_yes.ensures in
    let no : list_all (λ (j : ℕ). is_no (mark_at ms j)) L.no.items ≡ c.all_no.result = ap (list_all (λ (j : ℕ). is_no (mark_at ms j))) (sym c.deref-then-all_yes.ensures.value) ∙ sym c.all_no.ensures in
    sym (lists_cover (length ms) L.yes.items L.no.items ms refl (below_more L.atoms (length ms) L.yes.items c.requires L.yes_below) (below_more L.atoms (length ms) L.no.items c.requires L.no_below) L.apart ∙ ap₂ (λ (s : Bool) (t : Bool). s && t) (yes ∙ c.if-all_yes.true) no)

pub returns-else-all_yes : goal.returns-else-all_yes
returns-else-all_yes c =
    let L = c.args.lemma.now in let ms = c.args.lits.now in
    let yes : list_all (λ (j : ℕ). is_yes (mark_at ms j)) L.yes.items ≡ c.all_yes.result = ap (list_all (λ (j : ℕ). is_yes (mark_at ms j))) (sym c.deref.ensures.value) ∙ sym c.all_yes.ensures in
    c.if-all_yes.false ∙ sym (lists_cover (length ms) L.yes.items L.no.items ms refl (below_more L.atoms (length ms) L.yes.items c.requires L.yes_below) (below_more L.atoms (length ms) L.no.items c.requires L.no_below) L.apart
    ∙ ap (λ (t : Bool). t && list_all (λ (j : ℕ). is_no (mark_at ms j)) L.no.items) (yes ∙ c.if-all_yes.false))
