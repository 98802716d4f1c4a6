-- What is left to the parts' axes, one part after the other.
use Rattle.std.proofs.Common.{◌≡◌, ℕ, zero, suc, ◌+◌, ◌<◌, ◌≤◌, List, [], ◌∷◌, ◌++◌, length, get_or, set, take, drop, map, append_assoc, true, false, Option, Some, None, refl, ap, ap₂, sym, subst, ◌∙◌, arith}
use Rattle.std.proofs.lemmas.List.{drop_more}
use Rattle.interval_model.specs.Interval.{Interval, nothing, between, interval_sum, is_nothing}
use Rattle.interval_model.specs.Space.{Space}
use Rattle.cover_model.specs.Narrowed.{set_axis}
use Rattle.cover_model.specs.Combination.{left_to, parts_range, tightened, with_axis, with_intervals}
use Rattle.ival.specs.declared.ends.Ival.{Ival}
use Rattle.ival.specs.Views.{interval_of}
use Rattle.combine.specs.declared.part.Part.{Part}
use Rattle.combine.specs.Parts.{part_of, IsPart, AreParts}
use Rattle.combine.specs.Lefts.{pairs}

-- ---- pairs

pub pairs_here : (ps : List Part) (ls : List Ival) (k : ℕ) (x : Part) (i : Ival) → k < length ps → length ps ≤ length ls →
    drop k (pairs ps ls) ≡ ((get_or ps k x).axis, interval_of (get_or ls k i)) ∷ drop (suc k) (pairs ps ls)
pairs_here [] ls k x i h l = absurd (omega arith)
pairs_here (p ∷ ps) [] k x i h l = absurd (omega arith)
pairs_here (p ∷ ps) (j ∷ ls) zero x i h l = refl
pairs_here (p ∷ ps) (j ∷ ls) (suc k) x i h l = pairs_here ps ls k x i (omega arith) (omega arith)

pub pairs_end : (ps : List Part) (ls : List Ival) → drop (length ps) (pairs ps ls) ≡ []
pairs_end [] ls = refl
pairs_end (p ∷ ps) [] = refl
pairs_end (p ∷ ps) (j ∷ ls) = pairs_end ps ls

pub pairs_more : (ps : List Part) (ls : List Ival) (k : ℕ) (x : Part) (i : Ival) → k < length ps → length ps ≤ length ls →
    pairs (take (suc k) ps) (take (suc k) (set ls k i)) ≡ pairs (take k ps) (take k ls) ++ (((get_or ps k x).axis, interval_of i) ∷ [])
pairs_more [] ls k x i h l = absurd (omega arith)
pairs_more (p ∷ ps) [] k x i h l = absurd (omega arith)
pairs_more (p ∷ ps) (j ∷ ls) zero x i h l = refl
pairs_more (p ∷ ps) (j ∷ ls) (suc k) x i h l = ap (λ (xs : List (ℕ × Interval)). (p.axis, interval_of j) ∷ xs) (pairs_more ps ls k x i (omega arith) (omega arith))

-- the pairs of all parts need no more places than there are parts
pub pairs_all : (ps : List Part) (ls : List Ival) → length ps ≤ length ls → pairs (take (length ps) ps) (take (length ps) ls) ≡ pairs ps ls
pairs_all [] [] l = refl
pairs_all [] (j ∷ ls) l = refl
pairs_all (p ∷ ps) [] l = absurd (omega arith)
pairs_all (p ∷ ps) (j ∷ ls) l = ap (λ (xs : List (ℕ × Interval)). (p.axis, interval_of j) ∷ xs) (pairs_all ps ls (omega arith))

-- ---- an axis after the others

pub axis_set : (axis : ℕ) (i : Interval) (s : Space) → is_nothing i ≡ false → with_axis axis i (Some s) ≡ Some (set_axis axis i s)
axis_set axis nothing s h = cc
axis_set axis (between l u) s h = refl

axis-none : (axis : ℕ) (i : Interval) → with_axis axis i None ≡ None
axis-none axis nothing = refl
axis-none axis (between l u) = refl

pub none_left : (before : List (ℕ × Interval)) (axis : ℕ) (after : List (ℕ × Interval)) (s : Space) → with_intervals (before ++ ((axis, nothing) ∷ after)) s ≡ None
none_left [] axis after s = refl
none_left ((a, i) ∷ before) axis after s = ap (λ (o : Option Space). with_axis a i o) (none_left before axis after s) ∙ axis-none a i

is-empty : (i : Interval) → is_nothing i ≡ true → i ≡ nothing
is-empty nothing h = refl
is-empty (between l u) h = cc

-- ---- a part after the others

module _ (space centre : Space) (allowed rest : Interval) (ps : List Part) where
  -- the parts from the kth on
  abbrev pub from : ℕ → Interval → List (ℕ × Interval)
  from k before = tightened space centre allowed before (map part_of (drop k ps))

  abbrev pub IsLeftBy : Part → Interval → Ival → Type 0
  IsLeftBy x before left = (later : List Part) → IsPart space centre x later → interval_of left ≡ left_to space centre allowed (interval_sum before (parts_range space centre (map part_of later))) (part_of x)

  next : (k : ℕ) (x : Part) → k < length ps → x ≡ get_or ps k x → drop k ps ≡ x ∷ drop (k + 1) ps
  next k x h e = drop_more ps k x h ∙ ap (λ (y : Part). y ∷ drop (k + 1) ps) (sym e)

  one-more : (k : ℕ) (x : Part) (left : Ival) (before before' : Interval) → k < length ps → x ≡ get_or ps k x → AreParts space centre (drop k ps) → IsLeftBy x before left →
      before' ≡ interval_sum before (interval_of x.range) → from k before ≡ (x.axis, interval_of left) ∷ from (k + 1) before'
  one-more k x left before before' h e parts given b =
      let later = drop (k + 1) ps in let p = subst (AreParts space centre) (next k x h e) parts in
      ap (λ (ys : List Part). tightened space centre allowed before (map part_of ys)) (next k x h e)
      ∙ ap₂ (λ (i b : Interval). (x.axis, i) ∷ tightened space centre allowed b (map part_of later)) (sym (given later p.0)) (sym (b ∙ ap (interval_sum before) p.0.range))

  pub later_parts : (k : ℕ) (x : Part) → k < length ps → x ≡ get_or ps k x → AreParts space centre (drop k ps) → AreParts space centre (drop (k + 1) ps)
  later_parts k x h e parts = (subst (AreParts space centre) (next k x h e) parts).1

  pub done_more : (ls : List Ival) (k : ℕ) (x : Part) (left : Ival) (before before' : Interval) → k < length ps → length ps ≤ length ls → x ≡ get_or ps k x → AreParts space centre (drop k ps) →
      IsLeftBy x before left → before' ≡ interval_sum before (interval_of x.range) →
      tightened space centre allowed rest (map part_of ps) ≡ pairs (take k ps) (take k ls) ++ from k before →
      tightened space centre allowed rest (map part_of ps) ≡ pairs (take (k + 1) ps) (take (k + 1) (set ls k left)) ++ from (k + 1) before'
  done_more ls k x left before before' h l e parts given b done =
      let suc-k : suc k ≡ k + 1 = omega arith in
      let put : pairs (take (k + 1) ps) (take (k + 1) (set ls k left)) ≡ pairs (take k ps) (take k ls) ++ ((x.axis, interval_of left) ∷ []) =
      ap (λ (n : ℕ). pairs (take n ps) (take n (set ls k left))) (sym suc-k) ∙ pairs_more ps ls k x left h l
      ∙ ap (λ (y : Part). pairs (take k ps) (take k ls) ++ ((y.axis, interval_of left) ∷ [])) (sym e) in
      done ∙ ap (λ (ys : List (ℕ × Interval)). pairs (take k ps) (take k ls) ++ ys) (one-more k x left before before' h e parts given b)
      ∙ sym (append_assoc (pairs (take k ps) (take k ls)) ((x.axis, interval_of left) ∷ []) (from (k + 1) before'))
      ∙ ap (λ (ys : List (ℕ × Interval)). ys ++ from (k + 1) before') (sym put)

  pub done_none : (ls : List Ival) (k : ℕ) (x : Part) (left : Ival) (before : Interval) → k < length ps → x ≡ get_or ps k x → AreParts space centre (drop k ps) →
      IsLeftBy x before left → is_nothing (interval_of left) ≡ true →
      tightened space centre allowed rest (map part_of ps) ≡ pairs (take k ps) (take k ls) ++ from k before → (s : Space) → with_intervals (tightened space centre allowed rest (map part_of ps)) s ≡ None
  done_none ls k x left before h e parts given n done s =
      let before' = interval_sum before (interval_of x.range) in
      ap (λ (ys : List (ℕ × Interval)). with_intervals ys s)
      (done ∙ ap (λ (ys : List (ℕ × Interval)). pairs (take k ps) (take k ls) ++ ys)
      (one-more k x left before before' h e parts given refl ∙ ap (λ (i : Interval). (x.axis, i) ∷ from (k + 1) before') (is-empty (interval_of left) n)))
      ∙ none_left (pairs (take k ps) (take k ls)) x.axis (from (k + 1) before') s
