use Rattle.std.proofs.Common.{ℕ, ◌++◌, ◌∙◌, ap, sym, codes, decimal, Vec, Global}
use Rattle.check_run.proofs.solved.part.Goals as goal

pub returns : goal.returns
returns c s e =
    ap (λ (v : Vec ℕ Global). v.items) c.into_bytes.ensures.value ∙ c.in_ok-text.ensures.ok
    ∙ ap (λ (n : ℕ). codes "part " ++ (decimal c.args.number ++ (codes "/" ++ (decimal c.args.count ++ (codes "\nopen " ++ (decimal c.args.others ++ (codes "\nmargin 1b-" ++ (decimal n ++ codes "\n")))))))) (sym e)
