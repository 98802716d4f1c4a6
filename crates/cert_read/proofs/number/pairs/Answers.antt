use Rattle.std.proofs.Common.{◌≡◌, ◌∷◌, List, ℕ, ap, sym, ◌∙◌}
use Rattle.dyadic.specs.Rounding.{Dyadic}
use Rattle.cert_read.specs.CertLine.{pairs_of}
use Rattle.cert_read.specs.Lines.{words_of}
use Rattle.cover_line.specs.Views.{multipliers_of}
use Rattle.cert_read.proofs.Paired.{pair_of, joined_pairs, pairs_on, one_more_pair}
use Rattle.cert_read.proofs.number.pairs.Goals as goal

pub loop-behind-preserved : goal.loop-behind-preserved
loop-behind-preserved c =
    let rest = c.loop-behind.rest.now in
    let behind = c.in-Some.behind.now in
    let more = c.in-Some-behind.behind.now in
    let ps = multipliers_of c.loop-behind.pairs.items in
    let v = c.cut.result.0.now in
    let w = c.cut-in-loop-behind.result.0.now in
    let e : words_of rest ≡ v ∷ words_of behind = rw c.in-Some.is at c.cut.ensures.words in
    let f : words_of behind ≡ w ∷ words_of more = rw c.in-Some-behind.is at c.cut-in-loop-behind.ensures.words in
    c.loop-behind.invariant
    ∙ ap (λ (ws : List (List ℕ)). joined_pairs ps (pairs_of ws)) (e ∙ ap (λ (ws : List (List ℕ)). v ∷ ws) f)
    ∙ pairs_on ps v w (words_of more) c.in_ok-count.field-0 (pair_of (c.in_ok-count.field-0, c.in_ok-dyadic.field-0)).1 c.in_ok-count.ensures c.in_ok-dyadic.ensures
    ∙ ap (λ (qs : List (ℕ × Dyadic)). joined_pairs qs (pairs_of (words_of more)))
    (sym (ap multipliers_of c.in_ok-push.ensures.items ∙ one_more_pair c.loop-behind.pairs.items (c.in_ok-count.field-0, c.in_ok-dyadic.field-0)))
