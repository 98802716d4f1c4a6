use Rattle.std.proofs.Common.{◌≡◌, ◌<◌, ◌^◌, subst, sym, ◌∙◌, arith, rules}
use Rattle.std.specs.Prelude.{List, ℕ}
use Rattle.std.specs.Str.{IsAscii}
use Rattle.std.proofs.lemmas.Fmt.{parse-decimal, IsAscii-decimal}
use Rattle.std.proofs.lemmas.Str.{IsUtf8-from_ascii}
use Rattle.cert_join.proofs.line.number_of.Goals as goal

pub returns-in_default-clause-found : goal.returns-in_default-clause-found
returns-in_default-clause-found c n h e =
    let P : List ℕ → Type 0 = λ xs. IsAscii xs in
    absurd (c.in_default.ensures.cases.0 (IsUtf8-from_ascii _ (subst P (sym e) (IsAscii-decimal n (omega (arith, h))))))

pub returns-then-eq-clause-found : goal.returns-then-eq-clause-found
returns-then-eq-clause-found c n h e =
    let wide : n < 2 ^ 64 = omega (arith, h) in
    let read = parse-decimal 32 n _ _ h wide (c.in-Ok.ensures.cases.0 ∙ e) c.parse.ensures.value.0 in cc

pub returns-else-eq-clause-found : goal.returns-else-eq-clause-found
returns-else-eq-clause-found c n h e =
    let wide : n < 2 ^ 64 = omega (arith, h) in
    let read = parse-decimal 32 n _ _ h wide (c.in-Ok.ensures.cases.0 ∙ e) c.parse.ensures.value.0 in
    let same : n ≡ c.in-Ok-parse.number = cc in
    let text : c.format.result.now ≡ c.in-Ok.text.now = cc (c.in-Ok.ensures.cases.0, e) in search rules

pub returns-in-Err-clause-found : goal.returns-in-Err-clause-found
returns-in-Err-clause-found c n h e =
    let wide : n < 2 ^ 64 = omega (arith, h) in
    absurd (cc (parse-decimal 32 n _ _ h wide (c.in-Ok.ensures.cases.0 ∙ e) c.parse.ensures.value.0))
