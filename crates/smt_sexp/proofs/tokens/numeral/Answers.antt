use Rattle.std.proofs.Common.{[], sym, ap, subst, take, ◌∙◌}
use Rattle.std.specs.Prelude.{All}
use Rattle.smt_sexp.specs.Classes.{IsDigit, is_wide, begins_symbol}
use Rattle.smt_sexp.specs.Lexicon.{is_digit}
use Rattle.smt_sexp.proofs.Fronts.{digits_within, numeral_wide, numeral_clash}
use Rattle.smt_sexp.proofs.Runs.{run_digits, take_run}
use Rattle.smt_sexp.proofs.tokens.numeral.Goals as goal

pub split_at-requires : goal.split_at-requires
split_at-requires c = digits_within c.args.bytes.now c.args.n c.requires.digits

pub is_wide-requires-clause-digits : goal.is_wide-requires-clause-digits
is_wide-requires-clause-digits c =
    subst (All IsDigit) (sym (c.split_at.ensures.front ∙ ap (λ m. take m c.args.bytes.now) c.requires.digits ∙ take_run is_digit c.args.bytes.now)) (run_digits c.args.bytes.now)

pub returns-then-is_wide : goal.returns-then-is_wide
returns-then-is_wide c =
    numeral_wide c.args.bytes.now c.args.n _ c.requires.some c.requires.digits (ap (λ d. is_wide d []) (sym c.split_at.ensures.front) ∙ sym c.is_wide.ensures ∙ c.if-is_wide.true) c.new.ensures

pub returns-then-begins_symbol : goal.returns-then-begins_symbol
returns-then-begins_symbol c =
    numeral_clash c.args.bytes.now c.args.n _ c.requires.some c.requires.digits (ap (λ d. is_wide d []) (sym c.split_at.ensures.front) ∙ sym c.is_wide.ensures ∙ c.if-is_wide.false)
    (ap begins_symbol (sym c.split_at.ensures.back) ∙ sym c.begins_symbol.ensures ∙ c.if-begins_symbol.true) c.new-then-begins_symbol.ensures
