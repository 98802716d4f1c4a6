-- Narrow enclosures leave no atom stuck.
use Rattle.std.proofs.Common.{◌≡◌, ◌⊎◌, inl, inr, ℕ, ◌*◌, ◌^◌, arith, refl, sym, ap, ◌∙◌, subst, Bool, true, false, cond, not, ◌&&◌, IsTrue, true≢false, Option, None, ℤ, pos, neg_ℤ, ◌+ℤ◌, ◌*ℤ◌, ◌≤ℤ◌}
use Rattle.std.proofs.lemmas.Int.{ints}
use Rattle.dyadic.specs.Fraction.{Fraction, IsFraction, at_most, sum_of, difference_of}
use Rattle.dyadic.specs.Rounding.{Dyadic, exact, Ext, below_all, finite, above_all, end_of, ext_at_most, two_to_minus}
use Rattle.dyadic.specs.End.{negated_dyadic, greater_ext, lesser_ext}
use Rattle.dyadic.proofs.Equal.{both_pass}
use Rattle.dyadic.proofs.Ring
use Rattle.dyadic.proofs.Ring.{atom, natural, plus, minus, times, read_below}
use Rattle.dyadic.proofs.Rounds.{at_most_from, at_most_trans, exact_read, exact_from}
use Rattle.interval_model.specs.Interval.{Interval, nothing, between, met, is_nothing, within}
use Rattle.interval_model.proofs.Ends.{◌⊑◌, end_trans}
use Rattle.interval_model.proofs.EndsProducts.{end_refl}
use Rattle.interval_model.proofs.EndsSums.{good_ext, exact_negated}
use Rattle.interval_model.proofs.Holds.{greater_ext_above, lesser_ext_below}
use Rattle.poly_graph.specs.Term.{Kind, le, ge, eq}
use Rattle.poly_graph.specs.Problem.{sorts_of_problem, atom_at, term_of}
use Rattle.poly_graph.proofs.Bools.{not_both}
use Rattle.poly_graph.proofs.Graphs.{terms_are}
use Rattle.cover_model.specs.Space.{enclosure, range}
use Rattle.cover_model.specs.State.{in_no, misses, sure_at, atom_enclosure, margin_of, delta_of}
use Rattle.cover_model.specs.Root.{root_space}
use Rattle.width_plan.specs.Width.{width}
use Rattle.width_plan.specs.Plan.{gap, is_below_gap, is_narrower, IsPlanBy, least_bits}
use Rattle.width_plan.specs.Laws.{EnclosureIsNarrow, SmallIsFine, NothingIsStuck}
use Rattle.width_plan.proofs.Ends.{fine, fine_is_fraction, sum_is_fine}
use Rattle.width_plan.proofs.Narrow.{IsNarrow, IsWide}
use Rattle.width_plan.proofs.Terms.{term_wide}
use Rattle.width_plan.proofs.Sides.{small_is_fine_in}

difference-is : (h l : Dyadic) → difference_of (exact h) (exact l) ≡ fine ((h.units *ℤ pos (2 ^ 120)) +ℤ (neg_ℤ l.units *ℤ pos (2 ^ 120)))
difference-is h l = ap (sum_of (exact h)) (exact_negated l) ∙ sum_is_fine h (negated_dyadic l)

-- ends at most v apart are so as fractions
side-at-most : (l h v : Dyadic) → (h.units +ℤ neg_ℤ l.units) ≤ℤ v.units → IsTrue (at_most (difference_of (exact h) (exact l)) (exact v))
side-at-most l h v k = subst (λ (q : Fraction). IsTrue (at_most q (exact v))) (sym (difference-is h l))
    (at_most_from (fine ((h.units *ℤ pos (2 ^ 120)) +ℤ (neg_ℤ l.units *ℤ pos (2 ^ 120)))) (exact v) (numbers l.units h.units v.units k))
  where
    numbers : (l h v : ℤ) → (h +ℤ neg_ℤ l) ≤ℤ v → (((h *ℤ pos (2 ^ 120)) +ℤ (neg_ℤ l *ℤ pos (2 ^ 120))) *ℤ pos (2 ^ 120)) ≤ℤ (v *ℤ pos (2 ^ 120 * 2 ^ 120))
    numbers l h v k = Ring.below (times (plus (times (atom h) (natural (2 ^ 120))) (times (minus (atom l)) (natural (2 ^ 120)))) (natural (2 ^ 120))) (times (atom v) (natural (2 ^ 120 * 2 ^ 120)))
        (omega (arith, read_below (plus (atom h) (minus (atom l))) (atom v) k))

side-is-fraction : (l h : Dyadic) → IsFraction (difference_of (exact h) (exact l))
side-is-fraction l h = subst (λ (q : Fraction). IsFraction q) (sym (difference-is h l)) (fine_is_fraction ((h.units *ℤ pos (2 ^ 120)) +ℤ (neg_ℤ l.units *ℤ pos (2 ^ 120))))

falls : (a b : Bool) → (IsTrue a → IsTrue b) → IsTrue (not b) → IsTrue (not a)
falls false b f h = refl
falls true b f h = absurd (not_both b (f refl) h)

narrower-from : (d m : ℕ) (i : Interval) (v : Dyadic) → IsNarrow i (finite v) → IsTrue (not (at_most (gap d m) (exact v))) → IsTrue (is_narrower d m i)
narrower-from d m nothing v n b = refl
narrower-from d m (between (finite l) (finite h)) v n b =
    falls (at_most (gap d m) (difference_of (exact h) (exact l))) (at_most (gap d m) (exact v))
    (λ k. at_most_trans (gap d m) (difference_of (exact h) (exact l)) (exact v) (side-is-fraction l h) k (side-at-most l h v n)) b
narrower-from d m (between (finite l) below_all) v n b = absurd n
narrower-from d m (between (finite l) above_all) v n b = absurd n
narrower-from d m (between below_all h) v n b = absurd n
narrower-from d m (between above_all h) v n b = absurd n

narrower-by : (d m : ℕ) (here box : Interval) (w : Ext) → IsWide here box w → IsTrue (is_below_gap d m w) → IsTrue (is_narrower d m here)
narrower-by d m here box below_all x b = absurd x.plus
narrower-by d m here box above_all x b = absurd (true≢false (sym b))
narrower-by d m here box (finite v) x b = narrower-from d m here v x.narrow b

pub enclosure_is_narrow : EnclosureIsNarrow
enclosure_is_narrow p g d m bits space up w f j fit =
    narrower-by d m (atom_enclosure p space j) (enclosure (root_space p) (term_of p j)) (width (root_space p) bits (term_of p j))
    (term_wide (sorts_of_problem p) bits space (root_space p) up w f (term_of p j) (terms_are (sorts_of_problem p) p.nodes g.nodes (atom_at p j).0)) fit

pub small_is_fine : SmallIsFine
small_is_fine p bits few near space up w small = small_is_fine_in bits few space (root_space p) near up w small

-- ---- an atom that may hold and is narrow surely holds

meets : (l h x y : Ext) → IsTrue (not (is_nothing (met (between l h) (between x y)))) → ◌⊑◌ (end_of l) (end_of y) × ◌⊑◌ (end_of x) (end_of h)
meets l h x y n = go (ext_at_most (greater_ext l x) (lesser_ext h y)) refl n
  where
    go : (t : Bool) → ext_at_most (greater_ext l x) (lesser_ext h y) ≡ t → IsTrue (not (is_nothing (cond t (between (greater_ext l x) (lesser_ext h y)) nothing))) → ◌⊑◌ (end_of l) (end_of y) × ◌⊑◌ (end_of x) (end_of h)
    go true e k = (
      end_trans (end_of l) (end_of (greater_ext l x)) (end_of y) (good_ext (greater_ext l x)) (greater_ext_above l x (end_of l) (inl (end_refl (end_of l))))
          (end_trans (end_of (greater_ext l x)) (end_of (lesser_ext h y)) (end_of y) (good_ext (lesser_ext h y)) e (lesser_ext_below h y (end_of y) (inr (end_refl (end_of y))))),
      end_trans (end_of x) (end_of (greater_ext l x)) (end_of h) (good_ext (greater_ext l x)) (greater_ext_above l x (end_of x) (inr (end_refl (end_of x))))
          (end_trans (end_of (greater_ext l x)) (end_of (lesser_ext h y)) (end_of h) (good_ext (lesser_ext h y)) e (lesser_ext_below h y (end_of h) (inl (end_refl (end_of h))))),
    )
    go false e k = absurd (true≢false (sym k))

-- narrower than the difference of two numbers
narrow-units : (m d l h : Dyadic) → IsTrue (not (at_most (difference_of (exact d) (exact m)) (difference_of (exact h) (exact l)))) → (h.units +ℤ m.units) ≤ℤ (l.units +ℤ d.units)
narrow-units m d l h n = elim (order (h.units +ℤ m.units) (l.units +ℤ d.units)) [
  | inl k ↦ k
  | inr k ↦ absurd (not_both (at_most (difference_of (exact d) (exact m)) (difference_of (exact h) (exact l))) (reach k) n)
]
  where
    order : (a b : ℤ) → (a ≤ℤ b) ⊎ (b ≤ℤ a)
    order a b = grind (arith, ints)

    numbers : (m d l h : ℤ) → (l +ℤ d) ≤ℤ (h +ℤ m) →
        (((d *ℤ pos (2 ^ 120)) +ℤ (neg_ℤ m *ℤ pos (2 ^ 120))) *ℤ pos (2 ^ 120 * 2 ^ 120)) ≤ℤ (((h *ℤ pos (2 ^ 120)) +ℤ (neg_ℤ l *ℤ pos (2 ^ 120))) *ℤ pos (2 ^ 120 * 2 ^ 120))
    numbers m d l h k = Ring.below (times (plus (times (atom d) (natural (2 ^ 120))) (times (minus (atom m)) (natural (2 ^ 120)))) (natural (2 ^ 120 * 2 ^ 120)))
        (times (plus (times (atom h) (natural (2 ^ 120))) (times (minus (atom l)) (natural (2 ^ 120)))) (natural (2 ^ 120 * 2 ^ 120)))
        (omega (arith, read_below (plus (atom l) (atom d)) (plus (atom h) (atom m)) k))

    reach : (l.units +ℤ d.units) ≤ℤ (h.units +ℤ m.units) → IsTrue (at_most (difference_of (exact d) (exact m)) (difference_of (exact h) (exact l)))
    reach k = subst (λ (q : Fraction). IsTrue (at_most q (difference_of (exact h) (exact l)))) (sym (difference-is d m))
        (subst (λ (q : Fraction). IsTrue (at_most (fine ((d.units *ℤ pos (2 ^ 120)) +ℤ (neg_ℤ m.units *ℤ pos (2 ^ 120)))) q)) (sym (difference-is h l))
        (at_most_from (fine ((d.units *ℤ pos (2 ^ 120)) +ℤ (neg_ℤ m.units *ℤ pos (2 ^ 120)))) (fine ((h.units *ℤ pos (2 ^ 120)) +ℤ (neg_ℤ l.units *ℤ pos (2 ^ 120)))) (numbers m.units d.units l.units h.units k)))

under : (m d l h : Dyadic) → (h.units +ℤ m.units) ≤ℤ (l.units +ℤ d.units) → IsTrue (ext_at_most (finite l) (finite m)) → IsTrue (ext_at_most (finite h) (finite d))
under m d l h n k = exact_from h d (numbers m.units d.units l.units h.units n (exact_read l m k))
  where
    numbers : (m d l h : ℤ) → (h +ℤ m) ≤ℤ (l +ℤ d) → l ≤ℤ m → h ≤ℤ d
    numbers m d l h n k = Ring.below (atom h) (atom d) (omega (arith, read_below (plus (atom h) (atom m)) (plus (atom l) (atom d)) n, read_below (atom l) (atom m) k))

over : (m d l h : Dyadic) → (h.units +ℤ m.units) ≤ℤ (l.units +ℤ d.units) → IsTrue (ext_at_most (finite (negated_dyadic m)) (finite h)) → IsTrue (ext_at_most (finite (negated_dyadic d)) (finite l))
over m d l h n k = exact_from (negated_dyadic d) l (numbers m.units d.units l.units h.units n (exact_read (negated_dyadic m) h k))
  where
    numbers : (m d l h : ℤ) → (h +ℤ m) ≤ℤ (l +ℤ d) → neg_ℤ m ≤ℤ h → neg_ℤ d ≤ℤ l
    numbers m d l h n k = Ring.below (minus (atom d)) (atom l) (omega (arith, read_below (plus (atom h) (atom m)) (plus (atom l) (atom d)) n, read_below (minus (atom m)) (atom h) k))

surely-in : (m d : Dyadic) (i : Interval) (k : Kind) → ((l h : Dyadic) → i ≡ between (finite l) (finite h) → (h.units +ℤ m.units) ≤ℤ (l.units +ℤ d.units)) →
    IsTrue (not (is_nothing (met i (range m k)))) → (l h : Dyadic) → i ≡ between (finite l) (finite h) → IsTrue (within (between (finite l) (finite h)) (range d k))
surely-in m d i le f n l h e =
    let k = meets (finite l) (finite h) below_all (finite m) (subst (λ (x : Interval). IsTrue (not (is_nothing (met x (range m le))))) e n) in
    both_pass (ext_at_most below_all (finite l)) (ext_at_most (finite h) (finite d)) refl (under m d l h (f l h e) k.0)
surely-in m d i ge f n l h e =
    let k = meets (finite l) (finite h) (finite (negated_dyadic m)) above_all (subst (λ (x : Interval). IsTrue (not (is_nothing (met x (range m ge))))) e n) in
    both_pass (ext_at_most (finite (negated_dyadic d)) (finite l)) (ext_at_most (finite h) above_all) (over m d l h (f l h e) k.1) refl
surely-in m d i eq f n l h e =
    let k = meets (finite l) (finite h) (finite (negated_dyadic m)) (finite m) (subst (λ (x : Interval). IsTrue (not (is_nothing (met x (range m eq))))) e n) in
    both_pass (ext_at_most (finite (negated_dyadic d)) (finite l)) (ext_at_most (finite h) (finite d)) (over m d l h (f l h e) k.1) (under m d l h (f l h e) k.0)

-- what is narrower than delta minus margin and meets the range at margin lies within the range at delta
narrow-is-sure : (d m : ℕ) (i : Interval) (k : Kind) → IsTrue (is_narrower d m i) → IsTrue (not (is_nothing (met i (range (two_to_minus m) k)))) → IsTrue (within i (range (two_to_minus d) k))
narrow-is-sure d m nothing k b n = refl
narrow-is-sure d m (between (finite l) (finite h)) k b n =
    surely-in (two_to_minus m) (two_to_minus d) (between (finite l) (finite h)) k
    (λ l' h' e. let x = ends l h l' h' e in rw (sym x.0, sym x.1) (narrow-units (two_to_minus m) (two_to_minus d) l h b)) n l h refl
  where
    ends : (l h l' h' : Dyadic) → between (finite l) (finite h) ≡ between (finite l') (finite h') → (l ≡ l') × (h ≡ h')
    ends l h l' h' e = (cc, cc)
narrow-is-sure d m (between (finite l) below_all) k b n = absurd (true≢false (sym b))
narrow-is-sure d m (between (finite l) above_all) k b n = absurd (true≢false (sym b))
narrow-is-sure d m (between below_all h) k b n = absurd (true≢false (sym b))
narrow-is-sure d m (between above_all h) k b n = absurd (true≢false (sym b))

not-stuck : (n x s : Bool) → (IsTrue (not x) → IsTrue s) → IsTrue (not (not n && not x && not s))
not-stuck true x s f = refl
not-stuck false true s f = refl
not-stuck false false true f = refl
not-stuck false false false f = absurd (true≢false (sym (f refl)))

pub nothing_is_stuck : NothingIsStuck
nothing_is_stuck p g crossed s bits plan S up w small j inside =
    let q : IsPlanBy None p s.delta_bits s.margin_bits (least_bits bits) = subst (λ (o : Option ℕ). IsPlanBy o p s.delta_bits s.margin_bits (least_bits bits)) crossed plan in
    let f = small_is_fine p bits q.0.most q.1 S.space up w small in
    let n = enclosure_is_narrow p g s.delta_bits s.margin_bits bits S.space up w f j (q.0.fit j inside) in
    not-stuck (in_no S j) (misses p (margin_of s) S.space j) (sure_at p (delta_of s) S.space j)
    (narrow-is-sure s.delta_bits s.margin_bits (atom_enclosure p S.space j) (atom_at p j).1 n)
