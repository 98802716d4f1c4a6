use Rattle.std.proofs.Common.{◌∷◌, [], length, length-append, cond, Some, Option, ℕ, List, ap, ◌∙◌, arith}
use Rattle.std.specs.HashMap.{get}
use Rattle.std.specs.Str.{bytes_eq}
use Rattle.std.specs.declared.alloc.Global.{Global}
use Rattle.std.specs.declared.vec.Vec.{Vec}
use Rattle.cert_join.proofs.Numbers.{place_more}
use Rattle.cert_join.proofs.numbering.Known.add.Goals as goal

pub returns : goal.returns
returns c = λ texts known new few.
    let key = c.in-Ok.key.items in
    let state = c.args.state.now in
    let one = length-append texts (state ∷ []) in (
      known.count,
      record {
        count = omega (arith, c.saturating_add-self.ensures, known.count, few, one);
        found = λ v.
            c.in-Ok-insert.ensures.updates.0 v
            ∙ ap (λ (k : List ℕ). cond (bytes_eq k v.items) (Some c.args.self.now.count) (get (λ (x y : Vec ℕ Global). bytes_eq x.items y.items) c.args.self.now.map v)) c.in-Ok.ensures.items
            ∙ ap (λ (n : ℕ). cond (bytes_eq state v.items) (Some n) (get (λ (x y : Vec ℕ Global). bytes_eq x.items y.items) c.args.self.now.map v)) known.count
            ∙ ap (λ (o : Option ℕ). cond (bytes_eq state v.items) (Some (length texts)) o) (known.found v)
            ∙ place_more texts state v.items new;
      },
    )
