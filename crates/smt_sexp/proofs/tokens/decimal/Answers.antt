use Rattle.std.proofs.Common.{◌≡◌, ◌+◌, length, sym, ap, subst, take, drop, ◌∙◌}
use Rattle.std.specs.Prelude.{All}
use Rattle.std.proofs.lemmas.List.{take_rest}
use Rattle.smt_sexp.specs.Classes.{IsDigit, is_wide, begins_symbol}
use Rattle.smt_sexp.specs.Lexicon.{is_digit, run}
use Rattle.smt_sexp.proofs.Fronts.{decimal_wide, decimal_clash}
use Rattle.smt_sexp.proofs.Runs.{run_digits, take_run}
use Rattle.smt_sexp.proofs.tokens.decimal.Goals as goal
use Rattle.smt_sexp.proofs.tokens.decimal.Goals.{After-split_at}

-- the bytes behind the point
part : (c : After-split_at) → c.run_len-k.result ≡ length (run is_digit (drop (c.args.n + 1) c.args.bytes.now))
part c = rw (take_rest c.args.bytes.now (c.args.n + 1)) at c.run_len-k.ensures.length

decimals : (c : After-split_at) → c.split_at.result.0.now ≡ run is_digit (drop (c.args.n + 1) c.args.bytes.now)
decimals c = c.split_at.ensures.front ∙ c.run_len-k.ensures.text ∙ ap (run is_digit) (take_rest c.args.bytes.now (c.args.n + 1))

rest : (c : After-split_at) → c.split_at.result.1.now ≡ drop (length (run is_digit (drop (c.args.n + 1) c.args.bytes.now))) (drop (c.args.n + 1) c.args.bytes.now)
rest c =
    c.split_at.ensures.back ∙ ap (drop c.run_len-k.result) (take_rest c.args.bytes.now (c.args.n + 1)) ∙ ap (λ m. drop m (drop (c.args.n + 1) c.args.bytes.now)) (part c)

pub is_wide-requires-clause-digits : goal.is_wide-requires-clause-digits
is_wide-requires-clause-digits c =
    subst (All IsDigit) (sym (ap (λ m. take m c.args.bytes.now) c.requires.digits ∙ take_run is_digit c.args.bytes.now)) (run_digits c.args.bytes.now)

pub is_wide-requires-clause-decimals : goal.is_wide-requires-clause-decimals
is_wide-requires-clause-decimals c =
    subst (All IsDigit) (sym (decimals (goal.at.is_wide-requires-clause-decimals c).After-split_at)) (run_digits (drop (c.args.n + 1) c.args.bytes.now))

pub returns-then-is_wide : goal.returns-then-is_wide
returns-then-is_wide c =
    let before = (goal.at.returns-then-is_wide c).After-split_at in
    decimal_wide c.args.bytes.now c.args.n c.run_len-k.result c.requires.some c.requires.digits (part before) _
    (ap (is_wide (take c.args.n c.args.bytes.now)) (sym (decimals before)) ∙ sym c.is_wide.ensures ∙ c.if-is_wide.true) c.new.ensures

pub returns-then-begins_symbol : goal.returns-then-begins_symbol
returns-then-begins_symbol c =
    let before = (goal.at.returns-then-begins_symbol c).After-split_at in
    decimal_clash c.args.bytes.now c.args.n c.run_len-k.result c.requires.some c.requires.digits (part before) _
    (ap (is_wide (take c.args.n c.args.bytes.now)) (sym (decimals before)) ∙ sym c.is_wide.ensures ∙ c.if-is_wide.false)
    (ap begins_symbol (sym (rest before)) ∙ sym c.begins_symbol.ensures ∙ c.if-begins_symbol.true) c.new-then-begins_symbol.ensures
