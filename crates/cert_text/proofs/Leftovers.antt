-- What is left of a book's tree tells of its nodes.
use Rattle.std.proofs.Common.{◌≡◌, ◌⊎◌, inl, inr, ℕ, zero, suc, ◌+◌, ◌<◌, List, [], ◌∷◌, ◌++◌, Bool, true, false, ◌||◌, true≢false, length, Some, None, refl, ap, sym, ◌∙◌, subst, arith}
use Rattle.std.specs.Prelude.{slice_get}
use Rattle.std.specs.List.{list_any}
use Rattle.std.proofs.lemmas.Option.{slice_get_within}
use Rattle.std.proofs.lemmas.List.Folds.{list_any-append}
use Rattle.poly_graph.specs.Problem.{Problem, first_crossed}
use Rattle.cover_model.specs.Rules.{Line, open_line, narrow_by, end_by, mark_by, branch_by, stay_by, open_state, stuck_atom}
use Rattle.cover_model.specs.Derivation.{Tree}
use Rattle.cert_model.specs.Due.{Standing}
use Rattle.cert_model.specs.AnswerText.{is_open, has_open}
use Rattle.cover_book.specs.Model.{NodeModel, live_node, crossed_node, closed_node, parted_node, stuck_node, BookModel, problem_in}
use Rattle.cover_book.specs.Verdict.{is_live, is_stuck, has_live, has_stuck}
use Rattle.cover_book.specs.Tree.{TreeOf, of_live, of_closed, of_stuck, of_parted, occurrences}
use Rattle.cover_book.specs.Keeps.{IsBook, IsCovered}
use Rattle.cover_book.proofs.Lists.{some_at, occurs_append, occurs_other, same_or_other}
use Rattle.cert_text.specs.Parts.{node_left}
use Rattle.cert_text.specs.Laws.{LeftMatchesNodes}

-- ---- tests of lists

or-cases : (a b : Bool) → (a || b) ≡ true → (a ≡ true) ⊎ (b ≡ true)
or-cases true b h = inl refl
or-cases false b h = inr h

or-right : (a b : Bool) → b ≡ true → (a || b) ≡ true
or-right true b h = refl
or-right false b h = h

or-none : (a b : Bool) → (a || b) ≡ false → (a ≡ false) × (b ≡ false)
or-none true b h = absurd (true≢false h)
or-none false b h = (refl, h)

or-false : (a : Bool) → a ≡ false → (a || false) ≡ false
or-false true h = h
or-false false h = refl

no-true : {X : Type 0} → false ≡ true → X
no-true h = absurd (true≢false (sym h))

both-ways : (a b : Bool) → (a ≡ true → b ≡ true) → (b ≡ true → a ≡ true) → a ≡ b
both-ways true b f g = sym (f refl)
both-ways false true f g = g refl
both-ways false false f g = refl

-- an element that passes, with its place
pub record Passing (q : NodeModel → Bool) (xs : List NodeModel) : Type 0 where
  pub place : ℕ
  pub node : NodeModel
  pub there : slice_get xs place ≡ Some node
  pub passes : q node ≡ true

one-later : (q : NodeModel → Bool) (x : NodeModel) (xs : List NodeModel) → Passing q xs → Passing q (x ∷ xs)
one-later q x xs f = record { place = suc f.place; node = f.node; there = f.there; passes = f.passes }

any-passing : (q : NodeModel → Bool) (xs : List NodeModel) → list_any q xs ≡ true → Passing q xs
any-passing q [] h = no-true h
any-passing q (x ∷ xs) h = elim (or-cases (q x) (list_any q xs) h) [
  | inl e ↦ record { place = 0; node = x; there = refl; passes = e }
  | inr e ↦ one-later q x xs (any-passing q xs e)
]

pub passing_any : (q : NodeModel → Bool) (xs : List NodeModel) (i : ℕ) (x : NodeModel) → slice_get xs i ≡ Some x → q x ≡ true → list_any q xs ≡ true
passing_any q [] i x e h = cc
passing_any q (y ∷ xs) zero x e h = let s : y ≡ x = cc in ap (λ (t : Bool). t || list_any q xs) (subst (λ (z : NodeModel). q z ≡ true) (sym s) h)
passing_any q (y ∷ xs) (suc i) x e h = or-right (q y) (list_any q xs) (passing_any q xs i x e h)

pub any_alike : (q r : NodeModel → Bool) (xs : List NodeModel) → ((i : ℕ) (x : NodeModel) → slice_get xs i ≡ Some x → q x ≡ r x) → list_any q xs ≡ list_any r xs
any_alike q r [] h = refl
any_alike q r (x ∷ xs) h = ap (λ (t : Bool). t || list_any q xs) (h 0 x refl) ∙ ap (λ (t : Bool). r x || t) (any_alike q r xs (λ i y e. h (suc i) y e))

any-either : (q r : NodeModel → Bool) (xs : List NodeModel) → list_any (λ x. q x || r x) xs ≡ (list_any q xs || list_any r xs)
any-either q r [] = refl
any-either q r (x ∷ xs) = ap (λ (t : Bool). (q x || r x) || t) (any-either q r xs) ∙ regroup (q x) (r x) (list_any q xs) (list_any r xs) where
  regroup : (a b c d : Bool) → ((a || b) || (c || d)) ≡ ((a || c) || (b || d))
  regroup true b c d = refl
  regroup false true true d = refl
  regroup false true false d = refl
  regroup false false c d = refl

-- ---- one test of what is left, and of what the nodes leave

some-sum : (a b : ℕ) → 0 < a + b → (0 < a) ⊎ (0 < b)
some-sum zero b h = inr (omega (arith, h))
some-sum (suc a) b h = inl (omega arith)

occurs-where : (j n : ℕ) (ns ms : List ℕ) → 0 < occurrences j (n ∷ (ns ++ ms)) → (n ≡ j) ⊎ ((0 < occurrences j ns) ⊎ (0 < occurrences j ms))
occurs-where j n ns ms h = elim (same_or_other n j) [
  | inl e ↦ inl e.0
  | inr e ↦ inr (some-sum (occurrences j ns) (occurrences j ms) (omega (arith, h, occurs_other j n (ns ++ ms) e.0, occurs_append j ns ms)))
]

occurs-only : (j n : ℕ) → 0 < occurrences j (n ∷ []) → n ≡ j
occurs-only j n h = elim (same_or_other n j) [ inl e ↦ e.0 | inr e ↦ absurd (omega (arith, h, occurs_other j n [] e.0)) ]

module _ (nodes : List NodeModel) (p : Standing → Bool) where
  abbrev pub leaves : NodeModel → Bool
  leaves x = list_any p (node_left x)

  same-node : (n j : ℕ) (x y : NodeModel) → n ≡ j → slice_get nodes n ≡ Some y → slice_get nodes j ≡ Some x → leaves x ≡ true → leaves y ≡ true
  same-node n j x y q e f g = let s : x ≡ y = cc in subst (λ (z : NodeModel). leaves z ≡ true) s g

  node-tells : {n : ℕ} {t : Tree} {ns : List ℕ} {xs : List Standing} → TreeOf nodes n t ns xs → (j : ℕ) (x : NodeModel) → 0 < occurrences j ns → slice_get nodes j ≡ Some x → leaves x ≡ true → list_any p xs ≡ true
  node-tells (of_live {n = n} {S = S} e) j x h f g = same-node n j x (live_node S) (occurs-only j n h) e f g
  node-tells (of_closed {n = n} {steps = steps} {l = l} e) j x h f g = same-node n j x (closed_node steps l) (occurs-only j n h) e f g
  node-tells (of_stuck {n = n} {steps = steps} {l = l} {S = S} e) j x h f g = same-node n j x (stuck_node steps l S) (occurs-only j n h) e f g
  node-tells (of_parted {n = n} {c = c} {steps = steps} {l = l} {ns = ns} {ms = ms} {xs = xs} {ys = ys} e a b) j x h f g = elim (occurs-where j n ns ms h) [
    | inl q ↦ no-true (same-node n j x (parted_node steps l c) q e f g)
    | inr (inl q) ↦ list_any-append p xs ys ∙ ap (λ (t : Bool). t || list_any p ys) (node-tells a j x q f g)
    | inr (inr q) ↦ list_any-append p xs ys ∙ or-right (list_any p xs) (list_any p ys) (node-tells b j x q f g)
  ]

  left-tells : {n : ℕ} {t : Tree} {ns : List ℕ} {xs : List Standing} → TreeOf nodes n t ns xs → list_any p xs ≡ true → Passing leaves nodes
  left-tells (of_live {n = n} {S = S} e) h = record { place = n; node = live_node S; there = e; passes = h }
  left-tells (of_closed e) h = no-true h
  left-tells (of_stuck {n = n} {steps = steps} {l = l} {S = S} e) h = record { place = n; node = stuck_node steps l S; there = e; passes = h }
  left-tells (of_parted {xs = xs} {ys = ys} e a b) h = elim (or-cases (list_any p xs) (list_any p ys) (sym (list_any-append p xs ys) ∙ h)) [
    | inl q ↦ left-tells a q
    | inr q ↦ left-tells b q
  ]

  pub told : {n : ℕ} {t : Tree} {ns : List ℕ} {xs : List Standing} → TreeOf nodes n t ns xs → ((j : ℕ) → j < length nodes → occurrences j ns ≡ 1) → list_any p xs ≡ list_any leaves nodes
  told {xs = xs} w once = both-ways (list_any p xs) (list_any leaves nodes)
      (λ h. let f = left-tells w h in passing_any leaves nodes f.place f.node f.there f.passes)
      (λ h. let f = any-passing leaves nodes h in node-tells w f.place f.node (omega (arith, once f.place (slice_get_within nodes f.place f.node f.there))) f.there f.passes)

-- ---- a book's nodes

crossed-or-not : (p : Problem) (i : ℕ) → first_crossed p ≡ Some i → first_crossed p ≡ None → ⊥
crossed-or-not p i e f = cc

pub covered : (b : BookModel) → IsBook b → first_crossed (problem_in b) ≡ None → IsCovered b
covered b w e = elim w.nodes [ inl c ↦ absurd (crossed-or-not (problem_in b) c.axis c.first e) | inr h ↦ h ]

not-open : (l : Line) → (l ≡ open_line → ⊥) → is_open l ≡ false
not-open (narrow_by n) h = refl
not-open (end_by e) h = refl
not-open (mark_by m) h = refl
not-open (branch_by b) h = refl
not-open (stay_by open_state) h = absurd (h refl)
not-open (stay_by (stuck_atom j)) h = refl

abbrev pub stays_open : Standing → Bool
stays_open x = is_open x.does

leaves-open : (b : BookModel) (h : IsCovered b) (n : ℕ) (x : NodeModel) → slice_get b.nodes n ≡ Some x → leaves b.nodes stays_open x ≡ is_live x
leaves-open b h n (live_node S) e = refl
leaves-open b h n (crossed_node i) e = refl
leaves-open b h n (closed_node steps l) e = refl
leaves-open b h n (parted_node steps l c) e = refl
leaves-open b h n (stuck_node steps l S) e =
    let f = some_at h.firsts n (omega (arith, h.count, slice_get_within b.nodes n (stuck_node steps l S) e)) in
    let k = h.each n f.0 (stuck_node steps l S) f.1 e in
    or-false (is_open l) (not-open l k.0.not_open)

open-any : (xs : List Standing) → has_open xs ≡ list_any stays_open xs
open-any [] = refl
open-any (x ∷ xs) = ap (λ (t : Bool). is_open x.does || t) (open-any xs)

abbrev anything : Standing → Bool
anything x = true

leaves-anything : (nodes : List NodeModel) (n : ℕ) (x : NodeModel) → slice_get nodes n ≡ Some x → leaves nodes anything x ≡ (is_live x || is_stuck x)
leaves-anything nodes n (live_node S) e = refl
leaves-anything nodes n (crossed_node i) e = refl
leaves-anything nodes n (closed_node steps l) e = refl
leaves-anything nodes n (parted_node steps l c) e = refl
leaves-anything nodes n (stuck_node steps l S) e = refl

none-is : (xs : List Standing) → list_any anything xs ≡ false → xs ≡ []
none-is [] h = refl
none-is (x ∷ xs) h = absurd (true≢false h)

pub left_tells_of_nodes : LeftMatchesNodes
left_tells_of_nodes b w t left i =
    let h : IsCovered b = covered b w i.not_crossed in
    let some : list_any anything left ≡ (has_live b || has_stuck b) = told b.nodes anything i.is_tree i.once
    ∙ any_alike (leaves b.nodes anything) (λ x. is_live x || is_stuck x) b.nodes (leaves-anything b.nodes) ∙ any-either is_live is_stuck b.nodes in
    record {
      live = open-any left ∙ told b.nodes stays_open i.is_tree i.once ∙ any_alike (leaves b.nodes stays_open) is_live b.nodes (leaves-open b h);
      nothing = (
        λ e. or-none (has_live b) (has_stuck b) (sym some ∙ ap (list_any anything) e),
        λ e. none-is left (some ∙ ap (λ (u : Bool). u || has_stuck b) e.0 ∙ e.1),
      );
    }
