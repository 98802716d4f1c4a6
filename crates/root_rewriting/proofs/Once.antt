-- Each tree once.
use Rattle.std.proofs.Common.{◌≡◌, List, [], ◌∷◌, ◌++◌, Bool, true, false, cond, ◌||◌, refl, ap, sym, ◌∙◌, subst}
use Rattle.std.proofs.lemmas.List.{append-nil}
use Rattle.script_roots.specs.Tree.{Tree, atomic, applied, root, quotient, formless}
use Rattle.script_roots.specs.Ranges.{Ranges}
use Rattle.script_roots.specs.Fresh.{same_tree, fresh_in, all_fresh, has_tree, once}
use Rattle.script_roots.proofs.Table.{all_join, all_weaken}
use Rattle.root_rewriting.specs.Found.{AllHave, inner_in, own_in}
use Rattle.root_rewriting.proofs.Same.{same_itself}

or_assoc : (a b c : Bool) → a || (b || c) ≡ (a || b) || c
or_assoc true b c = refl
or_assoc false b c = refl

or_false : (a : Bool) → a || false ≡ a
or_false true = refl
or_false false = refl

or_left : (a b : Bool) → a ≡ true → a || b ≡ true
or_left a b h = ap (λ c. c || b) h

or_right : (a b : Bool) → b ≡ true → a || b ≡ true
or_right true b h = refl
or_right false b h = h

pub once_join : (seen ts us : List Tree) → once seen (ts ++ us) ≡ once (once seen ts) us
once_join seen [] us = refl
once_join seen (t ∷ ts) us = once_join (cond (has_tree t seen) seen (seen ++ t ∷ [])) ts us

pub has_end : (t : Tree) (seen : List Tree) (u : Tree) → has_tree t (seen ++ u ∷ []) ≡ has_tree t seen || same_tree t u
has_end t [] u = or_false (same_tree t u)
has_end t (v ∷ seen) u = ap (λ b. same_tree t v || b) (has_end t seen u) ∙ or_assoc (same_tree t v) (has_tree t seen) (same_tree t u)

-- ---- what is known stays known

has-put : (t u : Tree) (seen : List Tree) (b : Bool) → has_tree t seen ≡ true → has_tree t (cond b seen (seen ++ u ∷ [])) ≡ true
has-put t u seen true h = h
has-put t u seen false h = has_end t seen u ∙ or_left (has_tree t seen) (same_tree t u) h

pub has_once : (t : Tree) (seen us : List Tree) → has_tree t seen ≡ true → has_tree t (once seen us) ≡ true
has_once t seen [] h = h
has_once t seen (u ∷ us) h = has_once t (cond (has_tree u seen) seen (seen ++ u ∷ [])) us (has-put t u seen (has_tree u seen) h)

pub all_have_once : (ts seen us : List Tree) → AllHave seen ts → AllHave (once seen us) ts
all_have_once ts seen us h = all_weaken (λ t. has_tree t seen ≡ true) (λ t. has_tree t (once seen us) ≡ true) (λ t k. has_once t seen us k) ts h

-- what was put in is known
put-has : (t : Tree) (seen : List Tree) (b : Bool) → has_tree t seen ≡ b → has_tree t (cond b seen (seen ++ t ∷ [])) ≡ true
put-has t seen true h = h
put-has t seen false h = has_end t seen t ∙ or_right (has_tree t seen) (same_tree t t) (same_itself t)

pub once_has : (seen ts : List Tree) → AllHave (once seen ts) ts
once_has seen [] = tt
once_has seen (t ∷ ts) =
    let next = cond (has_tree t seen) seen (seen ++ t ∷ []) in
    (has_once t next ts (put-has t seen (has_tree t seen) refl), once_has next ts)

-- and is not put in again
pub once_known : (seen ts : List Tree) → AllHave seen ts → once seen ts ≡ seen
once_known seen [] h = refl
once_known seen (t ∷ ts) h = ap (λ b. once (cond b seen (seen ++ t ∷ [])) ts) h.0 ∙ once_known seen ts h.1

-- ---- a tree by its parts

pub fresh_split : (ranges : Ranges) (t : Tree) → fresh_in ranges t ≡ inner_in ranges t ++ own_in ranges t
fresh_split ranges (atomic at l) = refl
fresh_split ranges (applied at x ts) = sym (append-nil (all_fresh ranges ts))
fresh_split ranges (root at t) = refl
fresh_split ranges (quotient at t d) = refl
fresh_split ranges (formless at) = refl

pub once_split : (ranges : Ranges) (t : Tree) (seen : List Tree) → once seen (fresh_in ranges t) ≡ once (once seen (inner_in ranges t)) (own_in ranges t)
once_split ranges t seen = ap (once seen) (fresh_split ranges t) ∙ once_join seen (inner_in ranges t) (own_in ranges t)

-- where what is in the parts is known, and then the tree itself, all in the tree is known
pub all_known : (ranges : Ranges) (t : Tree) (seen : List Tree) → AllHave seen (inner_in ranges t) → AllHave (once seen (own_in ranges t)) (fresh_in ranges t)
all_known ranges t seen h =
    let end = once seen (own_in ranges t) in
    subst (λ ts. AllHave end ts) (sym (fresh_split ranges t))
    (all_join (λ u. has_tree u end ≡ true) (inner_in ranges t) (own_in ranges t) (all_have_once (inner_in ranges t) seen (own_in ranges t) h) (once_has seen (own_in ranges t)))
