-- The digits of a number by those of its quotient by 10^5.
use Rattle.std.proofs.Common.{◌≡◌, ℕ, ◌+◌, ◌*◌, ◌/◌, ◌%◌, ◌^◌, ◌<◌, List, [], ◌∷◌, ◌++◌, ap, sym, ◌∙◌, arith, append_assoc}
use Rattle.std.proofs.lemmas.Fmt.{decimal_step_wide}
use Rattle.std.specs.Fmt.{decimal}
use Rattle.root_rewriting.specs.Digits.{five_digits}

-- one digit more
one-more : (n h d : ℕ) → n ≡ h * 10 + d → d < 10 → 0 < h → n < 10 ^ 64 → decimal n ≡ decimal h ++ ((48 + d) ∷ [])
one-more n h d e few some small =
    let over : n / 10 ≡ h = omega (arith, e, few) in
    let rest : n % 10 ≡ d = omega (arith, e, few) in
    decimal_step_wide n (omega (arith, e, some)) small ∙ ap (λ k. decimal k ++ ((48 + n % 10) ∷ [])) over ∙ ap (λ k. decimal h ++ ((48 + k) ∷ [])) rest

pub five_more : (h l : ℕ) → 0 < h → l < 100000 → h * 100000 + l < 10 ^ 64 → decimal (h * 100000 + l) ≡ decimal h ++ five_digits l
five_more h l some few small =
    let a : ℕ = h * 10 + l / 10000 in
    let b : ℕ = a * 10 + l / 1000 % 10 in
    let c : ℕ = b * 10 + l / 100 % 10 in
    let d : ℕ = c * 10 + l / 10 % 10 in
    let d1 : ℕ = 48 + l / 10000 in
    let d2 : ℕ = 48 + l / 1000 % 10 in
    let d3 : ℕ = 48 + l / 100 % 10 in
    let d4 : ℕ = 48 + l / 10 % 10 in
    let d5 : ℕ = 48 + l % 10 in
    let five : decimal (h * 100000 + l) ≡ decimal d ++ (d5 ∷ []) = one-more (h * 100000 + l) d (l % 10) (omega arith) (omega arith) (omega arith) small in
    let four : decimal d ≡ decimal c ++ (d4 ∷ []) = one-more d c (l / 10 % 10) (omega arith) (omega arith) (omega arith) (omega (arith, small)) in
    let three : decimal c ≡ decimal b ++ (d3 ∷ []) = one-more c b (l / 100 % 10) (omega arith) (omega arith) (omega arith) (omega (arith, small)) in
    let two : decimal b ≡ decimal a ++ (d2 ∷ []) = one-more b a (l / 1000 % 10) (omega arith) (omega arith) (omega arith) (omega (arith, small)) in
    let one : decimal a ≡ decimal h ++ (d1 ∷ []) = one-more a h (l / 10000) (omega arith) (omega (arith, few)) some (omega (arith, small)) in
    five ∙ ap (λ xs. xs ++ (d5 ∷ [])) (four ∙ ap (λ xs. xs ++ (d4 ∷ [])) (three ∙ ap (λ xs. xs ++ (d3 ∷ [])) (two ∙ ap (λ xs. xs ++ (d2 ∷ [])) one ∙ append_assoc (decimal h) (d1 ∷ []) (d2 ∷ []))
    ∙ append_assoc (decimal h) (d1 ∷ d2 ∷ []) (d3 ∷ [])) ∙ append_assoc (decimal h) (d1 ∷ d2 ∷ d3 ∷ []) (d4 ∷ [])) ∙ append_assoc (decimal h) (d1 ∷ d2 ∷ d3 ∷ d4 ∷ []) (d5 ∷ [])
