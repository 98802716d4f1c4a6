-- Marks among marks, and states that cover each other.
use Rattle.std.proofs.Common.{◌≡◌, ℕ, zero, suc, ◌<◌, ◌≤◌, List, [], ◌∷◌, length, map, get_or, drop, Bool, true, false, not, ◌&&◌, ◌||◌, IsTrue, refl, sym, ap, ap₂, arith, true≢false}
use Rattle.std.proofs.lemmas.List.{length-map}
use Rattle.dyadic.specs.Fraction.{at_most}
use Rattle.dyadic.specs.Rounding.{Dyadic, exact}
use Rattle.dyadic.proofs.Rounds.{exact_read, same_units}
use Rattle.dyadic.proofs.Equal.{both_true, both_pass}
use Rattle.interval_model.specs.Space.{Domain, real_domain, bool_domain, Space, strictly_inside, holds_number, is_undecided, allows, test_axis, domain_within, space_within}
use Rattle.poly_graph.specs.declared.mark.Mark.{Mark as CodeMark}
use Rattle.poly_graph.specs.MarkViews.{mark_of}
use Rattle.poly_graph.specs.Marks.{Mark, marked_yes, marked_no, unmarked, is_unmarked, is_no, mark_at, undecided_in, mark_within, marks_within}
use Rattle.cover_model.specs.State.{State, covers}
use Rattle.cover_data.proofs.Children.{above_if_not}

-- ---- marks

pub undecided_at : (ms : List Mark) (j : ℕ) → j < length ms → undecided_in ms j ≡ is_unmarked (mark_at ms j)
undecided_at [] j h = absurd (omega (arith, h))
undecided_at (m ∷ ms) zero h = refl
undecided_at (m ∷ ms) (suc j) h = undecided_at ms j (omega (arith, h))

pub within_step : (xs ys : List CodeMark) (j : ℕ) (d : CodeMark) → j < length xs → j < length ys →
    marks_within (drop j (map mark_of xs)) (drop j (map mark_of ys)) ≡ (mark_within (mark_of (get_or xs j d)) (mark_of (get_or ys j d)) && marks_within (drop (suc j) (map mark_of xs)) (drop (suc j) (map mark_of ys)))
within_step [] ys j d h k = absurd (omega (arith, h))
within_step (x ∷ xs) [] j d h k = absurd (omega (arith, k))
within_step (x ∷ xs) (y ∷ ys) zero d h k = refl
within_step (x ∷ xs) (y ∷ ys) (suc j) d h k = within_step xs ys j d (omega (arith, h)) (omega (arith, k))

nothing-left : (ms : List Mark) (j : ℕ) → length ms ≤ j → drop j ms ≡ []
nothing-left [] zero h = refl
nothing-left [] (suc j) h = refl
nothing-left (m ∷ ms) zero h = absurd (omega (arith, h))
nothing-left (m ∷ ms) (suc j) h = nothing-left ms j (omega (arith, h))

pub within_end : (xs ys : List CodeMark) (j : ℕ) → length xs ≤ j → marks_within (drop j (map mark_of xs)) (drop j (map mark_of ys)) ≡ true
within_end xs ys j h = ap (λ (ms : List Mark). marks_within ms (drop j (map mark_of ys))) (nothing-left (map mark_of xs) j (let e = length-map xs mark_of in omega (arith, h, e)))

-- ---- states that cover each other are the same

same-bools : (a b : Bool) → IsTrue (not a || b) → IsTrue (not b || a) → a ≡ b
same-bools true true h k = refl
same-bools false false h k = refl
same-bools true false h k = absurd (true≢false (sym h))
same-bools false true h k = absurd (true≢false (sym k))

same-domains : (d e : Domain) → IsTrue (domain_within d e) → IsTrue (domain_within e d) → d ≡ e
same-domains (real_domain l h) (real_domain l' h') a b =
    let x = both_true (at_most (exact l') (exact l)) (at_most (exact h) (exact h')) a in
    let y = both_true (at_most (exact l) (exact l')) (at_most (exact h') (exact h)) b in
    ap₂ real_domain (same_units l l' (exact_read l l' y.0) (exact_read l' l x.0)) (same_units h h' (exact_read h h' x.1) (exact_read h' h y.1))
same-domains (bool_domain f t) (bool_domain f' t') a b =
    let x = both_true (not f || f') (not t || t') a in let y = both_true (not f' || f) (not t' || t) b in
    ap₂ bool_domain (same-bools f f' x.0 y.0) (same-bools t t' x.1 y.1)
same-domains (real_domain l h) (bool_domain f t) a b = absurd (true≢false (sym a))
same-domains (bool_domain f t) (real_domain l h) a b = absurd (true≢false (sym a))

pub same_spaces : (s t : Space) → IsTrue (space_within s t) → IsTrue (space_within t s) → s ≡ t
same_spaces [] [] a b = refl
same_spaces (d ∷ s) (e ∷ t) a b = let x = both_true (domain_within d e) (space_within s t) a in let y = both_true (domain_within e d) (space_within t s) b in ap₂ (λ (f : Domain) (u : Space). f ∷ u) (same-domains d e x.0 y.0) (same_spaces s t x.1 y.1)
same_spaces [] (e ∷ t) a b = absurd (true≢false (sym a))
same_spaces (d ∷ s) [] a b = absurd (true≢false (sym a))

same-mark : (m n : Mark) → IsTrue (mark_within m n) → IsTrue (mark_within n m) → m ≡ n
same-mark marked_yes marked_yes a b = refl
same-mark marked_no marked_no a b = refl
same-mark unmarked unmarked a b = refl
same-mark marked_yes marked_no a b = absurd (true≢false (sym a))
same-mark marked_yes unmarked a b = absurd (true≢false (sym a))
same-mark marked_no marked_yes a b = absurd (true≢false (sym a))
same-mark marked_no unmarked a b = absurd (true≢false (sym a))
same-mark unmarked marked_yes a b = absurd (true≢false (sym b))
same-mark unmarked marked_no a b = absurd (true≢false (sym b))

pub same_marks : (ms ns : List Mark) → IsTrue (marks_within ms ns) → IsTrue (marks_within ns ms) → ms ≡ ns
same_marks [] [] a b = refl
same_marks (m ∷ ms) (n ∷ ns) a b = let x = both_true (mark_within m n) (marks_within ms ns) a in let y = both_true (mark_within n m) (marks_within ns ms) b in ap₂ (λ (k : Mark) (u : List Mark). k ∷ u) (same-mark m n x.0 y.0) (same_marks ms ns x.1 y.1)
same_marks [] (n ∷ ns) a b = absurd (true≢false (sym b))
same_marks (m ∷ ms) [] a b = absurd (true≢false (sym a))

pub same_states : (S T : State) → IsTrue (covers S T) → IsTrue (covers T S) → S ≡ T
same_states S T a b =
    let x = both_true (space_within T.space S.space) (marks_within S.marks T.marks) a in
    let y = both_true (space_within S.space T.space) (marks_within T.marks S.marks) b in
    ap₂ (λ (s : Space) (ms : List Mark). record { space = s; marks = ms }) (same_spaces S.space T.space y.0 x.0) (same_marks S.marks T.marks x.1 y.1)

-- ---- where a part can be kept

holds-inside : (c : Dyadic) (d : Domain) → IsTrue (strictly_inside c d) → IsTrue (holds_number c d)
holds-inside c (real_domain l h) t =
    let x = both_true (not (at_most (exact c) (exact l))) (not (at_most (exact h) (exact c))) t in
    both_pass (at_most (exact l) (exact c)) (at_most (exact c) (exact h)) (above_if_not l c x.0) (above_if_not c h x.1)
holds-inside c (bool_domain f u) t = absurd (true≢false (sym t))

allows-undecided : (v : Bool) (d : Domain) → IsTrue (is_undecided d) → IsTrue (allows d v)
allows-undecided true (bool_domain f t) h = (both_true f t h).1
allows-undecided false (bool_domain f t) h = (both_true f t h).0
allows-undecided v (real_domain l h) e = absurd (true≢false (sym e))

test-more : (f g : Domain → Bool) → ((d : Domain) → IsTrue (f d) → IsTrue (g d)) → (axis : ℕ) (space : Space) → IsTrue (test_axis f axis space) → IsTrue (test_axis g axis space)
test-more f g k axis [] h = h
test-more f g k zero (d ∷ space) h = k d h
test-more f g k (suc axis) (d ∷ space) h = test-more f g k axis space h

pub number_held : (c : Dyadic) (axis : ℕ) (space : Space) → IsTrue (test_axis (strictly_inside c) axis space) → IsTrue (test_axis (holds_number c) axis space)
number_held c axis space h = test-more (strictly_inside c) (holds_number c) (holds-inside c) axis space h

pub value_allowed : (v : Bool) (axis : ℕ) (space : Space) → IsTrue (test_axis is_undecided axis space) → IsTrue (test_axis (λ (d : Domain). allows d v) axis space)
value_allowed v axis space h = test-more is_undecided (λ (d : Domain). allows d v) (allows-undecided v) axis space h

pub not_no : (ms : List Mark) (j : ℕ) → IsTrue (undecided_in ms j) → is_no (mark_at ms j) ≡ false
not_no [] j h = absurd (true≢false (sym h))
not_no (unmarked ∷ ms) zero h = refl
not_no (marked_yes ∷ ms) zero h = refl
not_no (marked_no ∷ ms) zero h = absurd (true≢false (sym h))
not_no (m ∷ ms) (suc j) h = not_no ms j h

pub undecided_below : (ms : List Mark) (j : ℕ) → IsTrue (undecided_in ms j) → j < length ms
undecided_below [] j h = absurd (true≢false (sym h))
undecided_below (m ∷ ms) zero h = omega arith
undecided_below (m ∷ ms) (suc j) h = let k = undecided_below ms j h in omega (arith, k)
