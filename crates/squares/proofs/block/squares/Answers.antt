use Rattle.std.proofs.Common.{◌≡◌, ℕ, ◌+◌, ◌<◌, ◌≤◌, List, Vec, [], map, length, get_or, drop, ap, ap₂, sym, subst, ◌∙◌, arith}
use Rattle.std.proofs.lemmas.List.{take_rest}
use Rattle.std.specs.declared.alloc.Global.{Global}
use Rattle.cover_line.specs.Views.{axes_of, numbers_of}
use Rattle.dyadic.specs.Views.{dyadic_of}
use Rattle.dyadic.specs.declared.dy.Dy.{Dy}
use Rattle.square_model.specs.Polynomial.{Polynomial, polynomial_sum, polynomial_product}
use Rattle.square_model.specs.Block.{row_given, squares_with}
use Rattle.square_model.specs.Steps.{Counted, counted}
use Rattle.squares.specs.Views.{terms_of}
use Rattle.squares.proofs.Rowing.{squares_done, squares_next, squares_grow, with_square, over_product, over_sum, balanced}
use Rattle.squares.proofs.block.squares.Goals as goal

pub returns-then-not-take_product : goal.returns-then-not-take_product
returns-then-not-take_product c =
    let ms = c.args.block.now.monomials.items in let rows = c.args.block.now.rows.items in let k = c.loop-place.place in let r = c.index.result.now in let before = c.loop-place.invariant in
    let sum = terms_of c.loop-place.sum in
    let q : Counted = record { polynomial = sum; steps = before.0 } in
    let root : Polynomial = row_given (map axes_of (drop k ms)) (numbers_of (get_or rows k r)) [] in
    let l : k < length ms = omega (arith, c.loop-place-test.true, c.min-count.ensures, c.len.ensures, c.len-2.ensures) in
    let l' : k < length rows = omega (arith, c.loop-place-test.true, c.min-count.ensures, c.len.ensures, c.len-2.ensures) in
    let is : terms_of c.in_ok-root.root ≡ root = c.in_ok-root.ensures ∙ ap (λ (ns : List (Vec ℕ Global)). row_given (map axes_of ns) (map dyadic_of c.deref-in-loop-place.result.now) []) (take_rest c.deref.result.now k)
    ∙ ap₂ (λ (ns : List (Vec ℕ Global)) (vs : List Dy). row_given (map axes_of (drop k ns)) (map dyadic_of vs) []) c.deref.ensures.value (c.deref-in-loop-place.ensures.value ∙ ap (λ (v : Vec Dy Global). v.items) c.index.ensures) in
    let next = with_square (map axes_of (drop k ms)) (numbers_of (get_or rows k r)) q in
    let grown : next.steps ≤ (squares_with (map axes_of ms) (map numbers_of rows) (counted [])).steps = subst (λ (a : Counted). next.steps ≤ a.steps) (sym (squares_next ms rows k r q l l') ∙ before.2) (squares_grow (map axes_of (drop (k + 1) ms)) (map numbers_of (drop (k + 1) rows)) next) in
    over_product _ _ before.0 _ _ (length root) (length sum + length (polynomial_product root root)) _ before.1 c.if-not-take_product.ensures (c.len-in-loop-place.ensures ∙ ap length is) (c.len-in-loop-place-2.ensures ∙ ap length is) grown

pub returns-then-not-take_sum : goal.returns-then-not-take_sum
returns-then-not-take_sum c =
    let ms = c.args.block.now.monomials.items in let rows = c.args.block.now.rows.items in let k = c.loop-place.place in let r = c.index.result.now in let before = c.loop-place.invariant in
    let sum = terms_of c.loop-place.sum in
    let q : Counted = record { polynomial = sum; steps = before.0 } in
    let root : Polynomial = row_given (map axes_of (drop k ms)) (numbers_of (get_or rows k r)) [] in
    let l : k < length ms = omega (arith, c.loop-place-test.true, c.min-count.ensures, c.len.ensures, c.len-2.ensures) in
    let l' : k < length rows = omega (arith, c.loop-place-test.true, c.min-count.ensures, c.len.ensures, c.len-2.ensures) in
    let is : terms_of c.in_ok-root.root ≡ root = c.in_ok-root.ensures ∙ ap (λ (ns : List (Vec ℕ Global)). row_given (map axes_of ns) (map dyadic_of c.deref-in-loop-place.result.now) []) (take_rest c.deref.result.now k)
    ∙ ap₂ (λ (ns : List (Vec ℕ Global)) (vs : List Dy). row_given (map axes_of (drop k ns)) (map dyadic_of vs) []) c.deref.ensures.value (c.deref-in-loop-place.ensures.value ∙ ap (λ (v : Vec Dy Global). v.items) c.index.ensures) in
    let square : terms_of c.in_ok-square.square ≡ polynomial_product root root = c.in_ok-square.ensures ∙ ap (λ (p : Polynomial). polynomial_product p p) is in
    let next = with_square (map axes_of (drop k ms)) (numbers_of (get_or rows k r)) q in
    let grown : next.steps ≤ (squares_with (map axes_of ms) (map numbers_of rows) (counted [])).steps = subst (λ (a : Counted). next.steps ≤ a.steps) (sym (squares_next ms rows k r q l l') ∙ before.2) (squares_grow (map axes_of (drop (k + 1) ms)) (map numbers_of (drop (k + 1) rows)) next) in
    over_sum _ _ before.0 _ _ _ (length root) (length sum) (length (polynomial_product root root)) _ _ _ before.1 c.if-not-take_product.ensures c.if-not-take_sum.ensures (c.len-in-loop-place.ensures ∙ ap length is) (c.len-in-loop-place-2.ensures ∙ ap length is)
    c.len-in-loop-place-3.ensures (c.len-in-loop-place-4.ensures ∙ ap length square) grown

pub loop-place-preserved : goal.loop-place-preserved
loop-place-preserved c =
    let ms = c.args.block.now.monomials.items in let rows = c.args.block.now.rows.items in let k = c.loop-place.place in let r = c.index.result.now in let before = c.loop-place.invariant in
    let sum = terms_of c.loop-place.sum in
    let q : Counted = record { polynomial = sum; steps = before.0 } in
    let root : Polynomial = row_given (map axes_of (drop k ms)) (numbers_of (get_or rows k r)) [] in
    let l : k < length ms = omega (arith, c.loop-place-test.true, c.min-count.ensures, c.len.ensures, c.len-2.ensures) in
    let l' : k < length rows = omega (arith, c.loop-place-test.true, c.min-count.ensures, c.len.ensures, c.len-2.ensures) in
    let is : terms_of c.in_ok-root.root ≡ root = c.in_ok-root.ensures ∙ ap (λ (ns : List (Vec ℕ Global)). row_given (map axes_of ns) (map dyadic_of c.deref-in-loop-place.result.now) []) (take_rest c.deref.result.now k)
    ∙ ap₂ (λ (ns : List (Vec ℕ Global)) (vs : List Dy). row_given (map axes_of (drop k ns)) (map dyadic_of vs) []) c.deref.ensures.value (c.deref-in-loop-place.ensures.value ∙ ap (λ (v : Vec Dy Global). v.items) c.index.ensures) in
    let square : terms_of c.in_ok-square.square ≡ polynomial_product root root = c.in_ok-square.ensures ∙ ap (λ (p : Polynomial). polynomial_product p p) is in
    let next = with_square (map axes_of (drop k ms)) (numbers_of (get_or rows k r)) q in (
      next.steps,
      balanced _ _ before.0 _ _ _ _ (length root) (length sum) (length (polynomial_product root root)) _ _ before.1 c.if-not-take_product.ensures c.if-not-take_sum.ensures (c.len-in-loop-place.ensures ∙ ap length is) (c.len-in-loop-place-2.ensures ∙ ap length is)
          c.len-in-loop-place-3.ensures (c.len-in-loop-place-4.ensures ∙ ap length square),
      ap (λ (p : Polynomial). squares_with (map axes_of (drop (k + 1) ms)) (map numbers_of (drop (k + 1) rows)) (record { polynomial = p; steps = next.steps })) (c.in_ok-add.ensures ∙ ap (polynomial_sum sum) square)
          ∙ sym (squares_next ms rows k r q l l') ∙ before.2,
    )

pub returns : goal.returns
returns c =
    let ms = c.args.block.now.monomials.items in let rows = c.args.block.now.rows.items in let before = c.loop-place.invariant in
    let q : Counted = record { polynomial = terms_of c.loop-place.sum; steps = before.0 } in
    let whole : squares_with (map axes_of ms) (map numbers_of rows) (counted []) ≡ q = sym before.2 ∙ squares_done ms rows c.loop-place.place q (omega (arith, c.loop-place-test.false, c.min-count.ensures, c.len.ensures, c.len-2.ensures)) in
    (ap (λ (a : Counted). a.polynomial) (sym whole), subst (λ (a : Counted). c.loop-place.budget.left + a.steps ≡ c.args.budget.now.left) (sym whole) before.1)
