-- Walks over the nodes of a graph and of a form.
use Rattle.std.proofs.Common.{◌≡◌, ℕ, suc, zero, ◌+◌, List, [], ◌∷◌, Bool, true, false, ◌||◌, Some, ap, sym, ◌∙◌, arith, drop}
use Rattle.std.specs.Prelude.{slice_get}
use Rattle.dyadic.specs.Fraction.{Fraction}
use Rattle.poly_graph.specs.Term.{Node}
use Rattle.poly_graph.specs.FormGraph.{FormNode, node_size, forms_size}
use Rattle.cert_model.specs.Limited.{is_constant, has_constant}

drop-at : {X : Type 0} (xs : List X) (k : ℕ) (x : X) → slice_get xs k ≡ Some x → drop k xs ≡ x ∷ drop (suc k) xs
drop-at [] k x h = cc
drop-at (y ∷ xs) zero x h = let e : y ≡ x = cc in ap (λ z. z ∷ xs) e
drop-at (y ∷ xs) (suc k) x h = drop-at xs k x h

drop-next : {X : Type 0} (xs : List X) (k : ℕ) (x : X) → slice_get xs k ≡ Some x → drop k xs ≡ x ∷ drop (k + 1) xs
drop-next xs k x h = drop-at xs k x h ∙ (let e : suc k ≡ k + 1 = omega arith in ap (λ j. x ∷ drop j xs) e)

or-true : (x y : Bool) → x ≡ true → (x || y) ≡ true
or-true x y e = ap (λ b. b || y) e

or-false : (x y : Bool) → x ≡ false → y ≡ (x || y)
or-false x y e = ap (λ b. b || y) (sym e)

pub constant_found : (ns : List Node) (q : Fraction) (k : ℕ) (n : Node) → has_constant (drop k ns) q ≡ has_constant ns q → slice_get ns k ≡ Some n → true ≡ is_constant q n → true ≡ has_constant ns q
constant_found ns q k n h e t = sym (sym h ∙ ap (λ ms. has_constant ms q) (drop-next ns k n e) ∙ or-true (is_constant q n) (has_constant (drop (k + 1) ns) q) (sym t))

pub constant_passed : (ns : List Node) (q : Fraction) (k : ℕ) (n : Node) → has_constant (drop k ns) q ≡ has_constant ns q → slice_get ns k ≡ Some n → false ≡ is_constant q n → has_constant (drop (k + 1) ns) q ≡ has_constant ns q
constant_passed ns q k n h e t = or-false (is_constant q n) (has_constant (drop (k + 1) ns) q) (sym t) ∙ sym (ap (λ ms. has_constant ms q) (drop-next ns k n e)) ∙ h

pub size_next : (ns : List FormNode) (k size more : ℕ) (n : FormNode) → size + forms_size (drop k ns) ≡ forms_size ns → slice_get ns k ≡ Some n → more ≡ node_size n → size + more + forms_size (drop (k + 1) ns) ≡ forms_size ns
size_next ns k size more n h e m = omega (arith, h, m, ap forms_size (drop-next ns k n e))
