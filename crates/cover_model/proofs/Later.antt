-- What a line leaves in a version of the format it leaves in each later one, and an honest line is honest there.
use Rattle.std.proofs.Common.{◌≡◌, ◌⊎◌, inl, inr, ℕ, zero, suc, ◌+◌, ◌≤◌, List, [], ◌∷◌, length, Bool, true, false, cond, not, ◌&&◌, ◌||◌, IsTrue, Option, Some, None, refl, sym, ap, ◌∙◌, subst, arith, true≢false}
use Rattle.std.specs.Prelude.{nat_eq, nat_le, nat_lt}
use Rattle.std.proofs.lemmas.Bool.{eqb-true, leb-true, le-leb}
use Rattle.dyadic.specs.Fraction.{Fraction, at_most, difference_of}
use Rattle.dyadic.specs.Rounding.{exact, two_to_minus}
use Rattle.dyadic.proofs.Equal.{both_true, both_pass}
use Rattle.interval_model.specs.Space.{Domain, real_domain, bool_domain, Space, can_be_halved, middle, side, better, widest_from, widest, test_axis}
use Rattle.poly_graph.specs.Problem.{Problem}
use Rattle.cover_model.specs.State.{State, Loosenings, margin_of, in_version}
use Rattle.cover_model.specs.Combination.{Multipliers, marked_range}
use Rattle.square_model.specs.Positive.{is_positive}
use Rattle.cover_model.specs.Honest.{is_small_domain, is_wide_domain, is_wide, may_be_cut, is_middle_at, not_shown, settled, is_honest}
use Rattle.cover_model.specs.Rules.{Line, narrow_by, end_by, mark_by, branch_by, stay_by, Narrowing, by_range, by_off_range, by_combination, Ending, void_by, by_squares, false_form, by_lemma, Branching, cut_axis, flip_axis, case_atom, either_group, Staying, open_state, stuck_atom, Block, Left, closed, when, pulled, voided, has_version_2, has_version_5, in_no_one_sided, most_pairs, is_combination, are_ordered, are_combinable, can_combine, is_void_by_squares, can_narrow, narrowed_to, ending, are_groups, one_holds, can_part, is_parted, can_branch, first_child, second_child, two, rule}

le-later : (a u v : ℕ) → u ≤ v → IsTrue (nat_le a u) → IsTrue (nat_le a v)
le-later a u v h e = let k : a ≤ u = leb-true a u e in le-leb a v (omega (arith, h, k))

-- ---- rules

module _ (p : Problem) (s : Loosenings) (v : ℕ) (later : s.version ≤ v) where
  few-later : (n : ℕ) → IsTrue (nat_le n (most_pairs s)) → IsTrue (nat_le n (most_pairs (in_version v s)))
  few-later n e = go (has_version_5 s) refl e
    where
      up : (b : Bool) → IsTrue (nat_le n 64) → IsTrue (nat_le n (cond b 512 64))
      up true h = le-later n 64 512 (omega arith) h
      up false h = h

      go : (b : Bool) → has_version_5 s ≡ b → IsTrue (nat_le n (cond b 512 64)) → IsTrue (nat_le n (most_pairs (in_version v s)))
      go true five h = subst (λ (b : Bool). IsTrue (nat_le n (cond b 512 64))) (sym (le-later 5 s.version v later five)) h
      go false five h = up (has_version_5 (in_version v s)) h

  pub narrows_later : (S : State) (n : Narrowing) → IsTrue (can_narrow p s S n) → IsTrue (can_narrow p (in_version v s) S n)
  narrows_later S (by_range j) e = e
  narrows_later S (by_off_range j) e = let k = both_true (has_version_2 s) (in_no_one_sided p S j) e in
      both_pass (has_version_2 (in_version v s)) (in_no_one_sided p S j) (le-later 2 s.version v later k.0) k.1
  narrows_later S (by_combination ms) e =
      let a = both_true (has_version_2 s && is_combination s ms) (are_combinable p S ms) e in
      let b = both_true (has_version_2 s) (is_combination s ms) a.0 in
      let c = both_true (nat_lt 0 (length ms) && nat_le (length ms) (most_pairs s)) (are_ordered ms) b.1 in
      let d = both_true (nat_lt 0 (length ms)) (nat_le (length ms) (most_pairs s)) c.0 in
      both_pass (has_version_2 (in_version v s) && is_combination (in_version v s) ms) (are_combinable p S ms)
      (both_pass (has_version_2 (in_version v s)) (is_combination (in_version v s) ms) (le-later 2 s.version v later b.0)
      (both_pass (nat_lt 0 (length ms) && nat_le (length ms) (most_pairs (in_version v s))) (are_ordered ms)
      (both_pass (nat_lt 0 (length ms)) (nat_le (length ms) (most_pairs (in_version v s))) d.0 (few-later (length ms) d.1)) c.1)) a.1

  cond-later : (b c : Bool) (o : Option Left) (x : Left) → (IsTrue b → IsTrue c) → cond b o None ≡ Some x → cond c o None ≡ Some x
  cond-later true c o x f e = ap (λ (t : Bool). cond t o None) (f refl) ∙ e
  cond-later false c o x f e = cc

  squares-later : (S : State) (ms : Multipliers) (bs : List Block) → IsTrue (is_void_by_squares p s S ms bs) → IsTrue (is_void_by_squares p (in_version v s) S ms bs)
  squares-later S ms bs e =
      let above = is_positive p (marked_range p (margin_of s) S.marks) S.space (middle S.space) ms bs in
      let a = both_true (has_version_5 s && can_combine p s S ms) above e in
      let b = both_true (has_version_5 s) (can_combine p s S ms) a.0 in
      both_pass (has_version_5 (in_version v s) && can_combine p (in_version v s) S ms) above
      (both_pass (has_version_5 (in_version v s)) (can_combine p (in_version v s) S ms) (le-later 5 s.version v later b.0) (narrows_later S (by_combination ms) b.1)) a.1

  when-later : (b c : Bool) (l x : Left) → (IsTrue b → IsTrue c) → when b l ≡ Some x → when c l ≡ Some x
  when-later true c l x f e = ap (λ (t : Bool). when t l) (f refl) ∙ e
  when-later false c l x f e = cc

  ends-later : (lemmas : List State) (S : State) (e : Ending) (x : Left) → ending p s lemmas S e ≡ Some x → ending p (in_version v s) lemmas S e ≡ Some x
  ends-later lemmas S (void_by n) x h = cond-later (can_narrow p s S n) (can_narrow p (in_version v s) S n) (voided (narrowed_to p s S n)) x (narrows_later S n) h
  ends-later lemmas S (by_squares ms bs) x h = when-later (is_void_by_squares p s S ms bs) (is_void_by_squares p (in_version v s) S ms bs) closed x (squares-later S ms bs) h
  ends-later lemmas S false_form x h = h
  ends-later lemmas S (by_lemma i) x h = h

  parted-later : (S : State) (b : Branching) → IsTrue (is_parted p s S b) → IsTrue (is_parted p (in_version v s) S b)
  parted-later S (either_group js ks) e =
      let a = both_true (has_version_5 s && are_groups js ks) (one_holds p s S js ks) e in
      let b = both_true (has_version_5 s) (are_groups js ks) a.0 in
      both_pass (has_version_5 (in_version v s) && are_groups js ks) (one_holds p (in_version v s) S js ks)
      (both_pass (has_version_5 (in_version v s)) (are_groups js ks) (le-later 5 s.version v later b.0) b.1) a.1
  parted-later S (cut_axis axis c) e = refl
  parted-later S (flip_axis axis) e = refl
  parted-later S (case_atom j) e = refl

  branches-later : (S : State) (b : Branching) (x : Left) → rule p s [] S (branch_by b) ≡ Some x → rule p (in_version v s) [] S (branch_by b) ≡ Some x
  branches-later S b x h = when-later (can_branch p s S b) (can_branch p (in_version v s) S b) (two (first_child S b) (second_child S b)) x
      (λ e. let d = both_true (can_part S b) (is_parted p s S b) e in both_pass (can_part S b) (is_parted p (in_version v s) S b) d.0 (parted-later S b d.1)) h

  pub rule_later : (lemmas : List State) (S : State) (l : Line) (x : Left) → rule p s lemmas S l ≡ Some x → rule p (in_version v s) lemmas S l ≡ Some x
  rule_later lemmas S (narrow_by n) x h = cond-later (can_narrow p s S n) (can_narrow p (in_version v s) S n) (pulled S (narrowed_to p s S n)) x (narrows_later S n) h
  rule_later lemmas S (end_by e) x h = ends-later lemmas S e x h
  rule_later lemmas S (mark_by m) x h = h
  rule_later lemmas S (branch_by b) x h = branches-later S b x h
  rule_later lemmas S (stay_by t) x h = h

-- ---- the widest axis is one with a wide side

abbrev side-at : Space → ℕ → Option Fraction
side-at [] i = None
side-at (d ∷ space) zero = side d
side-at (d ∷ space) (suc i) = side-at space i

axis-or : Option (ℕ × Fraction) → ℕ
axis-or None = 0
axis-or (Some x) = x.0

side-or : Fraction → Option (ℕ × Fraction) → Fraction
side-or w None = w
side-or w (Some x) = x.1

none-some : (v : Fraction) → (let o : Option Fraction = None in o) ≡ Some v → ⊥
none-some v e = cc

module _ (axis : ℕ) (v : Fraction) where
  same-axis : (n : ℕ) (w : Fraction) → (let o : Option (ℕ × Fraction) = Some (n, w) in o) ≡ Some (axis, v) → axis ≡ n
  unfolding axis-or
  same-axis n w e = sym (ap axis-or e)

  same-side : (n : ℕ) (w : Fraction) → (let o : Option (ℕ × Fraction) = Some (n, w) in o) ≡ Some (axis, v) → (let o : Option Fraction = Some w in o) ≡ Some v
  unfolding side-or
  same-side n w e = ap (λ (o : Option (ℕ × Fraction)). Some (side-or w o)) e

  abbrev here : Option (ℕ × Fraction)
  here = Some (axis, v)

  better-if : (t : Bool) (best : ℕ) (u : Fraction) (n : ℕ) (w : Fraction) → cond t (let o : Option (ℕ × Fraction) = Some (best, u) in o) (Some (n, w)) ≡ here →
      ((let o : Option (ℕ × Fraction) = Some (best, u) in o) ≡ here) ⊎ ((axis ≡ n) × ((let o : Option Fraction = Some w in o) ≡ Some v))
  better-if true best u n w e = inl e
  better-if false best u n w e = inr (same-axis n w e, same-side n w e)

  better-is : (b : Option (ℕ × Fraction)) (n : ℕ) (o : Option Fraction) → better b n o ≡ here → (b ≡ here) ⊎ ((axis ≡ n) × (o ≡ Some v))
  better-is b n None e = inl e
  better-is None n (Some w) e = inr (same-axis n w e, same-side n w e)
  better-is (Some (best, u)) n (Some w) e = better-if (at_most w u) best u n w e

  found-from : (n : ℕ) (b : Option (ℕ × Fraction)) (space : Space) → widest_from n b space ≡ here → (b ≡ here) ⊎ ((i : ℕ) × (axis ≡ n + i) × (side-at space i ≡ Some v))
  found-from n b [] e = inl e
  found-from n b (d ∷ space) e = elim (found-from (suc n) (better b n (side d)) space e) [
    | inl h ↦ elim (better-is b n (side d) h) [ inl k ↦ inl k | inr k ↦ inr (0, omega (arith, k.0), k.1) ]
    | inr k ↦ inr (suc k.0, omega (arith, k.1), k.2)
  ]

  found : (space : Space) → widest space ≡ here → side-at space axis ≡ Some v
  found space e = elim (found-from 0 None space e) [
    | inl h ↦ cc
    | inr k ↦ let f : k.0 ≡ axis = omega (arith, k.1) in subst (λ (i : ℕ). side-at space i ≡ Some v) f k.2
  ]

module _ (w : ℕ) (v : Fraction) (above : IsTrue (not (at_most v (exact (two_to_minus w))))) where
  wide-domain : (d : Domain) → side d ≡ Some v → IsTrue (is_wide_domain w d)
  wide-domain (bool_domain f t) e = cc
  wide-domain (real_domain l u) e = go (can_be_halved (real_domain l u)) refl e
    where
      same : (a b : Fraction) → Some a ≡ Some b → b ≡ a
      same a b q = cc

      go : (t : Bool) → can_be_halved (real_domain l u) ≡ t → cond t (Some (difference_of (exact u) (exact l))) None ≡ Some v → IsTrue (is_wide_domain w (real_domain l u))
      go true c f = ap (λ (t : Bool). not (not t || at_most (difference_of (exact u) (exact l)) (exact (two_to_minus w)))) c
          ∙ subst (λ (z : Fraction). not (at_most z (exact (two_to_minus w))) ≡ true) (same (difference_of (exact u) (exact l)) v f) above
      go false c f = cc

  wide-at : (space : Space) (i : ℕ) → side-at space i ≡ Some v → IsTrue (test_axis (is_wide_domain w) i space)
  wide-at [] i e = absurd (none-some v e)
  wide-at (d ∷ space) zero e = wide-domain d e
  wide-at (d ∷ space) (suc i) e = wide-at space i e

widest_is_wide : (w axis : ℕ) (space : Space) → IsTrue (is_wide w axis (widest space)) → IsTrue (test_axis (is_wide_domain w) axis space)
widest_is_wide w axis space e = go (widest space) refl e
  where
    go : (o : Option (ℕ × Fraction)) → widest space ≡ o → IsTrue (is_wide w axis o) → IsTrue (test_axis (is_wide_domain w) axis space)
    go None f h = absurd (true≢false (sym h))
    go (Some (best, v)) f h =
        let k = both_true (nat_eq axis best) (not (at_most v (exact (two_to_minus w)))) h in
        let at : axis ≡ best = eqb-true axis best k.0 in
        wide-at w v k.1 space axis (found axis v space (f ∙ ap (λ (n : ℕ). let o : Option (ℕ × Fraction) = Some (n, v) in o) (sym at)))

-- ---- honest lines

module _ (p : Problem) (s : Loosenings) (v : ℕ) (later : s.version ≤ v) (w : ℕ) where
  cuts-later : (axis : ℕ) (space : Space) → IsTrue (may_be_cut w s axis space) → IsTrue (may_be_cut w (in_version v s) axis space)
  cuts-later axis space e = go (has_version_5 s) refl e
    where
      up : (b : Bool) → IsTrue (is_wide w axis (widest space)) → IsTrue (cond b (test_axis (is_wide_domain w) axis space) (is_wide w axis (widest space)))
      up true h = widest_is_wide w axis space h
      up false h = h

      go : (b : Bool) → has_version_5 s ≡ b → IsTrue (cond b (test_axis (is_wide_domain w) axis space) (is_wide w axis (widest space))) → IsTrue (may_be_cut w (in_version v s) axis space)
      go true five h = subst (λ (b : Bool). IsTrue (cond b (test_axis (is_wide_domain w) axis space) (is_wide w axis (widest space)))) (sym (le-later 5 s.version v later five)) h
      go false five h = up (has_version_5 (in_version v s)) h

  pub honest_later : (S : State) (l : Line) → IsTrue (is_honest p w s S l) → IsTrue (is_honest p w (in_version v s) S l)
  honest_later S (branch_by (cut_axis axis c)) e =
      let due = not_shown p s S && settled p s S in
      let a = both_true (due && may_be_cut w s axis S.space) (is_middle_at axis c S.space) e in
      let b = both_true due (may_be_cut w s axis S.space) a.0 in
      both_pass (due && may_be_cut w (in_version v s) axis S.space) (is_middle_at axis c S.space)
      (both_pass due (may_be_cut w (in_version v s) axis S.space) b.0 (cuts-later axis S.space b.1)) a.1
  honest_later S (branch_by (flip_axis axis)) e = e
  honest_later S (branch_by (case_atom j)) e = e
  honest_later S (branch_by (either_group js ks)) e = e
  honest_later S (stay_by open_state) e = e
  honest_later S (stay_by (stuck_atom j)) e = e
  honest_later S (narrow_by n) e = refl
  honest_later S (end_by x) e = refl
  honest_later S (mark_by m) e = refl
