use Rattle.std.proofs.Common.{sym, subst, drop, get_or, ◌∙◌}
use Rattle.std.proofs.lemmas.List.{drop_more}
use Rattle.smt_sexp.specs.FrontOf.{IsFrontOf, front_of}
use Rattle.smt_sexp.proofs.Fronts.{bad_first}
use Rattle.smt_sexp.proofs.Strings.{other_test}
use Rattle.smt_sexp.proofs.tokens.front.Goals as goal

pub returns : goal.returns
returns c =
    let bytes = c.args.bytes.now in
    subst (λ xs. IsFrontOf xs (front_of xs) c.new-2.result) (sym (drop_more bytes 0 0 c.requires))
    (bad_first (get_or bytes 0 0) (drop 1 bytes) c.new-2.result (sym c.has.ensures ∙ c.if-has.false) (other_test _ _ c.if-first-eq59.false) (other_test _ _ c.if-first-eq40.false)
    (other_test _ _ c.if-first-eq41.false) (sym c.has-2.ensures ∙ c.if-has-2.false) (sym c.has-3.ensures ∙ c.if-has-3.false) (other_test _ _ c.if-first-eq124.false)
    (other_test _ _ c.if-first-eq34.false) (other_test _ _ c.if-first-eq58.false) c.new-2.ensures)
