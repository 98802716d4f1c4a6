use Rattle.std.proofs.Common.{sym, ◌∙◌}
use Rattle.std.proofs.lemmas.List.{take_rest}
use Rattle.smt_sexp.proofs.Fronts.{keyword_none}
use Rattle.smt_sexp.proofs.tokens.keyword.Goals as goal

pub returns-then-n-eq0 : goal.returns-then-n-eq0
returns-then-n-eq0 c =
    let len = rw (take_rest c.args.bytes.now 1) at c.run_len-n.ensures.length in
    keyword_none c.args.bytes.now _ c.requires (sym len ∙ c.if-n-eq0.true) c.new.ensures
