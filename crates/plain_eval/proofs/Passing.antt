-- The passes over parts, node by node: nodes without a coefficient are passed over.
use Rattle.std.proofs.Common.{◌≡◌, ◌≢◌, ℕ, zero, suc, ◌+◌, ◌-◌, ◌<◌, ◌≤◌, List, [], ◌∷◌, length, set, Option, Some, None, inl, inr, refl, ap, ap₂, sym, ◌∙◌, arith, get_or-set_same, get_or-set_other}
use Rattle.std.specs.Prelude.{slice_get}
use Rattle.std.proofs.lemmas.Bool.{cases_lt}
use Rattle.interval_model.specs.Interval.{Interval, nothing, interval_sum}
use Rattle.interval_model.specs.Space.{Space}
use Rattle.poly_graph.specs.Term.{Node}
use Rattle.cover_model.specs.Combination.{Part, part_range, parts_range, nought_alone}
use Rattle.cover_model.specs.NodeEnclosure.{row}
use Rattle.ival.specs.declared.row_parts.Rows.{Rows}
use Rattle.ival.specs.Options.{option_at}
use Rattle.ival.proofs.Optional.{drop_all}
use Rattle.plain_eval.specs.Passes.{IsPut}
use Rattle.plain_eval.specs.Parts.{Setting, part_at, part_in, part_in_setting, before_parts, parts_from, parts_on, range_on, before_sum, behind_sum, behind_range, range_before, left_to_part, left_at}
use Rattle.plain_eval.proofs.CombinedSweeps.{no_part_in, parts_next, parts_skipped, some_node}

one-more : (space centre : Space) (o : Option Part) (parts : List Part) → parts_range space centre (before_parts o parts) ≡ before_sum space centre o (parts_range space centre parts)
one-more space centre None parts = refl
one-more space centre (Some x) parts = refl

pub no_part : (s : Setting) → ((k : ℕ) → s.linear k ≡ None → s.square k ≡ None) → (k : ℕ) → s.linear k ≡ None → part_in_setting s k ≡ None
no_part s u k h = ap₂ (λ (o q : Option Interval). part_in (slice_get s.nodes k) o q) h (u k h) ∙ no_part_in (slice_get s.nodes k)

pub range_next : (s : Setting) (k : ℕ) → k < length s.nodes → range_on s k ≡ before_sum s.space s.centre (part_in_setting s k) (range_on s (suc k))
range_next s k l =
    let n = some_node s.nodes k l in
    ap (parts_range s.space s.centre) (parts_next s.nodes s.linear s.square k n.0 n.1)
    ∙ one-more s.space s.centre (part_at n.0 (s.linear k) (s.square k)) (parts_on s.nodes s.linear s.square (suc k))
    ∙ ap (λ (m : Option Node). before_sum s.space s.centre (part_in m (s.linear k) (s.square k)) (range_on s (suc k))) (sym n.1)

pub range_skipped : (s : Setting) → ((k : ℕ) → s.linear k ≡ None → s.square k ≡ None) → (p q : ℕ) → q ≤ p → p ≤ length s.nodes → ((k : ℕ) → q ≤ k → k < p → s.linear k ≡ None) → range_on s q ≡ range_on s p
range_skipped s u p q l m f =
    let d : (d : ℕ) × (q + d ≡ p) = (p - q, omega arith) in
    ap (parts_range s.space s.centre) (parts_skipped s.nodes s.linear s.square d.0 p q d.1 m f (λ k a b. u k (f k a b)))

pub range_none : (s : Setting) (k : ℕ) → k ≡ length s.nodes → range_on s k ≡ nought_alone
range_none s k h = ap (λ (ns : List Node). parts_range s.space s.centre (parts_from s.linear s.square k ns)) (drop_all s.nodes k (omega (arith, h)))

-- ---- ranges before

before-skip : (s : Setting) (rest : Interval) → ((k : ℕ) → s.linear k ≡ None → s.square k ≡ None) → (d q : ℕ) → ((k : ℕ) → q ≤ k → k < q + d → s.linear k ≡ None) → range_before s rest (q + d) ≡ range_before s rest q
before-skip s rest u zero q f = let same : q + zero ≡ q = omega arith in ap (range_before s rest) same
before-skip s rest u (suc d) q f =
    let same : q + suc d ≡ suc (q + d) = omega arith in
    ap (range_before s rest) same
    ∙ ap (λ (o : Option Part). behind_sum s.space s.centre o (range_before s rest (q + d))) (no_part s u (q + d) (f (q + d) (omega arith) (omega arith)))
    ∙ before-skip s rest u d q (λ k a b. f k a (omega (arith, b)))

pub before_skipped : (s : Setting) (rest : Interval) → ((k : ℕ) → s.linear k ≡ None → s.square k ≡ None) → (p q : ℕ) → q ≤ p → ((k : ℕ) → q ≤ k → k < p → s.linear k ≡ None) → range_before s rest p ≡ range_before s rest q
before_skipped s rest u p q l f =
    let d : (d : ℕ) × (p ≡ q + d) = (p - q, omega arith) in
    ap (range_before s rest) d.1 ∙ before-skip s rest u d.0 q (λ k a b. f k a (omega (arith, b, d.1)))

pub none_left : (s : Setting) (allowed rest : Interval) → ((k : ℕ) → s.linear k ≡ None → s.square k ≡ None) → (k : ℕ) → s.linear k ≡ None → left_at s allowed rest k ≡ None
none_left s allowed rest u k h = ap (left_to_part s.space s.centre allowed (range_before s rest k) (range_on s (suc k))) (no_part s u k h)

-- ---- the downward pass: node n, and none between it and place p

pub behind_next : (s : Setting) → ((k : ℕ) → s.linear k ≡ None → s.square k ≡ None) → (n p : ℕ) (es es' : List Interval) (i : Interval) → n < p → p ≤ length s.nodes → n < length es → es' ≡ set es n i → i ≡ range_on s p →
    ((k : ℕ) → n < k → k < p → s.linear k ≡ None) → ((k : ℕ) (x : Part) → p ≤ k → part_in_setting s k ≡ Some x → row es k ≡ range_on s (suc k)) →
    (k : ℕ) (x : Part) → n ≤ k → part_in_setting s k ≡ Some x → row es' k ≡ range_on s (suc k)
behind_next s u n p es es' i l m inside e sum none before k x a h =
    elim (cases_lt n k) [
      | inl more ↦ elim (cases_lt k p) [
        | inl low ↦ absurd (let t = no_part s u k (none k more low) in let f : None ≡ Some x = sym t ∙ h in cc)
        | inr high ↦ let other : k ≢ n = omega arith in ap (λ (xs : List Interval). row xs k) e ∙ get_or-set_other es n k i nothing other ∙ before k x high h
      ]
      | inr not_more ↦ let same : k ≡ n = omega arith in
          ap (λ (j : ℕ). row es' j) same ∙ ap (λ (xs : List Interval). row xs n) e ∙ get_or-set_same es n i nothing inside ∙ sum
          ∙ sym (range_skipped s u p (suc n) (omega arith) m (λ j b c. none j (omega (arith, b)) c)) ∙ ap (λ (j : ℕ). range_on s (suc j)) (sym same)
    ]

pub behind_all : (s : Setting) → ((k : ℕ) → s.linear k ≡ None → s.square k ≡ None) → (p : ℕ) (es : List Interval) → ((k : ℕ) → k < p → s.linear k ≡ None) →
    ((k : ℕ) (x : Part) → p ≤ k → part_in_setting s k ≡ Some x → row es k ≡ range_on s (suc k)) → (k : ℕ) (x : Part) → part_in_setting s k ≡ Some x → row es k ≡ range_on s (suc k)
behind_all s u p es none before k x h = elim (cases_lt k p) [
  | inl low ↦ absurd (let t = no_part s u k (none k low) in let f : None ≡ Some x = sym t ∙ h in cc)
  | inr high ↦ before k x high h
]

pub range_put : (s : Setting) → ((k : ℕ) → s.linear k ≡ None → s.square k ≡ None) → (n p : ℕ) (es es' : List Interval) → ((k : ℕ) → n < k → k < p → s.linear k ≡ None) →
    ((x : Part) → part_in_setting s n ≡ Some x → row es' n ≡ part_range s.space s.centre x) → ((k : ℕ) → k ≢ n → row es' k ≡ row es k) →
    ((k : ℕ) (x : Part) → p ≤ k → part_in_setting s k ≡ Some x → row es k ≡ part_range s.space s.centre x) →
    (k : ℕ) (x : Part) → n ≤ k → part_in_setting s k ≡ Some x → row es' k ≡ part_range s.space s.centre x
range_put s u n p es es' none here others before k x a h =
    elim (cases_lt n k) [
      | inl more ↦ elim (cases_lt k p) [
        | inl low ↦ absurd (let t = no_part s u k (none k more low) in let f : None ≡ Some x = sym t ∙ h in cc)
        | inr high ↦ others k (λ e. omega (arith, more, e)) ∙ before k x high h
      ]
      | inr not_more ↦ let same : k ≡ n = omega arith in ap (row es') same ∙ here x (ap (part_in_setting s) (sym same) ∙ h)
    ]

pub ranges_all : (s : Setting) → ((k : ℕ) → s.linear k ≡ None → s.square k ≡ None) → (p : ℕ) (es : List Interval) → ((k : ℕ) → k < p → s.linear k ≡ None) →
    ((k : ℕ) (x : Part) → p ≤ k → part_in_setting s k ≡ Some x → row es k ≡ part_range s.space s.centre x) → (k : ℕ) (x : Part) → part_in_setting s k ≡ Some x → row es k ≡ part_range s.space s.centre x
ranges_all s u p es none before k x h = elim (cases_lt k p) [
  | inl low ↦ absurd (let t = no_part s u k (none k low) in let f : None ≡ Some x = sym t ∙ h in cc)
  | inr high ↦ before k x high h
]

-- a part whose range stands in its row, behind a sum
pub behind_row : (s : Setting) (o : Option Part) (r i : Interval) → ((x : Part) → o ≡ Some x → r ≡ part_range s.space s.centre x) → behind_range o r i ≡ behind_sum s.space s.centre o i
behind_row s None r i f = refl
behind_row s (Some x) r i f = ap (interval_sum i) (f x refl)

pub past : (nodes : List Node) (k : ℕ) → length nodes ≤ k → slice_get nodes k ≡ None
past [] k h = refl
past (n ∷ nodes) zero h = absurd (omega arith)
past (n ∷ nodes) (suc k) h = past nodes k (omega arith)

-- ---- what is left to a node past the last one, and to one that was passed over

pub left_past : (s : Setting) (allowed rest : Interval) (k : ℕ) → length s.nodes ≤ k → left_at s allowed rest k ≡ None
left_past s allowed rest k h =
    ap (λ (m : Option Node). left_to_part s.space s.centre allowed (range_before s rest k) (range_on s (suc k)) (part_in m (s.linear k) (s.square k))) (past s.nodes k h)

pub left_same : (space centre : Space) (allowed b b' e a : Interval) (o o' : Option Part) → o ≡ o' → b ≡ b' → ((x : Part) → o' ≡ Some x → e ≡ a) →
    left_to_part space centre allowed b e o ≡ left_to_part space centre allowed b' a o'
left_same space centre allowed b b' e a o o' h f g = ap₂ (λ (x : Option Part) (i : Interval). left_to_part space centre allowed i e x) h f ∙ go o' g
  where
    go : (x : Option Part) → ((y : Part) → x ≡ Some y → e ≡ a) → left_to_part space centre allowed b' e x ≡ left_to_part space centre allowed b' a x
    go None k = refl
    go (Some y) k = ap (λ (i : Interval). left_to_part space centre allowed b' i (Some y)) (k y refl)

-- ---- the upward pass: at place p, where no node from there to k has a coefficient

pub put_each : (s : Setting) (allowed rest : Interval) → ((k : ℕ) → s.linear k ≡ None → s.square k ≡ None) → (old new : Rows) (p : ℕ) → IsPut p (left_at s allowed rest p) old new →
    ((k : ℕ) → k < p → option_at old k ≡ left_at s allowed rest k) → ((k : ℕ) → p ≤ k → option_at old k ≡ None) → (k : ℕ) → (p < k → s.linear k ≡ None) → option_at new k ≡ left_at s allowed rest k
put_each s allowed rest u old new p put each ahead k none = elim (cases_lt k p) [
  | inl low ↦ put.others k (λ e. omega (arith, low, e)) ∙ each k low
  | inr high ↦ elim (cases_lt p k) [
    | inl more ↦ put.others k (λ e. omega (arith, more, e)) ∙ ahead k high ∙ sym (none_left s allowed rest u k (none more))
    | inr not_more ↦ let same : k ≡ p = omega arith in ap (option_at new) same ∙ put.at ∙ ap (left_at s allowed rest) (sym same)
  ]
]

pub put_full : (s : Setting) (allowed rest : Interval) → ((k : ℕ) → s.linear k ≡ None → s.square k ≡ None) → (p : ℕ) → left_at s allowed rest p ≢ Some nothing →
    ((k : ℕ) → k < p → left_at s allowed rest k ≢ Some nothing) → (k : ℕ) → (p < k → s.linear k ≡ None) → left_at s allowed rest k ≢ Some nothing
put_full s allowed rest u p here before k none e = elim (cases_lt k p) [
  | inl low ↦ before k low e
  | inr high ↦ elim (cases_lt p k) [
    | inl more ↦ absurd (let t = none_left s allowed rest u k (none more) in let f : None ≡ Some nothing = sym t ∙ e in cc)
    | inr not_more ↦ let same : k ≡ p = omega arith in here (ap (left_at s allowed rest) (sym same) ∙ e)
  ]
]
