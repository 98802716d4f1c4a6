-- Where a script's bounds have no fault, the declared ends of its problem are bounds of problems.
use Rattle.std.proofs.Common.{◌≡◌, ℕ, suc, zero, ◌*◌, ◌^◌, ◌<◌, List, [], ◌∷◌, Bool, true, false, not, ◌&&◌, ◌||◌, cond, inl, inr, Option, Some, None, IsTrue, length, slice_index_or, refl, ap, sym, ◌∙◌, arith, mul-pos, ℤ, pos, negsuc, ◌*ℤ◌, ◌≤ℤ◌, nat_abs}
use Rattle.std.specs.List.{All}
use borrow.Author.Differences.{ints}
use Rattle.dyadic.specs.Fraction.{Fraction, IsFraction, whole, at_most}
use Rattle.dyadic.specs.Point.{Sort, real_sort, bool_sort}
use Rattle.dyadic.specs.Rounding.{exact, Ext, below_all, finite, above_all, IsDown, down}
use Rattle.dyadic.proofs.Equal.{◌≈◌, through, holds_le, at_most_same}
use Rattle.dyadic.proofs.Ring.{natural, minus, read}
use Rattle.dyadic.proofs.Rounds.{down_is}
use Rattle.script_model.specs.Script.{Command, Constant, constants_of}
use Rattle.script_model.specs.Declared.{DeclaredInterval, declared_interval, BoundFault, bound_too_wide, is_exactly, is_kept, is_far, too_wide_end, ends_fault, axis_fault, or_later, bound_fault_from}
use Rattle.script_model.proofs.Bounds.{IfFraction, ends_are_fractions}
use Rattle.poly_graph.specs.Problem.{Problem, Axis, Declared, real_between, any_bool, size_of, IsKeptFraction, IsBound, IsDeclared}
use Rattle.script_forms.specs.ProblemOf.{IsEnd, IsDeclaredBy, AreAxes, IsProblemOf}

-- ---- equal numbers have one size

le-antisymmetric : (a b : ℤ) → a ≤ℤ b → b ≤ℤ a → a ≡ b
le-antisymmetric a b h k = grind (arith, ints, h, k)

pub same_number : (p q : Fraction) → IsTrue (at_most p q) → IsTrue (at_most q p) → p ≈ q
unfolding at_most
same_number p q h k = record { same = le-antisymmetric _ _ (holds_le _ _ h) (holds_le _ _ k) }

same-size-at : (a c : ℤ) (b d : ℕ) → 0 < b → 0 < d → a *ℤ pos d ≡ c *ℤ pos b → nat_abs a * d ≡ nat_abs c * b
same-size-at (pos a) (pos c) b d f g h = omega (arith, read (natural (a * d)) (natural (c * b)) h)
same-size-at (negsuc a) (negsuc c) b d f g h = omega (arith, read (minus (natural (suc a * d))) (minus (natural (suc c * b))) h)
same-size-at (pos a) (negsuc c) b d f g h = absurd (omega (arith, mul-pos {m = suc c} {n = b} (omega arith) f, read (natural (a * d)) (minus (natural (suc c * b))) h))
same-size-at (negsuc a) (pos c) b d f g h = absurd (omega (arith, mul-pos {m = suc a} {n = d} (omega arith) g, read (minus (natural (suc a * d))) (natural (c * b)) h))

pub same_size : (p q : Fraction) → IsFraction p → IsFraction q → p ≈ q → size_of p ≈ size_of q
same_size p q f g h = record { same = ap pos (same-size-at p.num q.num p.den q.den f g h.same) }

-- ---- one end

-- an end that is exactly what it is rounded to
kept-end : (q l : Fraction) (e : Ext) → IsFraction q → IsFraction l → IsTrue (at_most q l) → IsTrue (at_most l q) → IsDown q e → is_exactly q e ≡ true → IsKeptFraction l
kept-end q l (finite d) f g h k r x = (d, r.0, through (exact d) q l f r.1 h, through l q (exact d) f k x)
kept-end q l below_all f g h k r x = cc
kept-end q l above_all f g h k r x = cc

not-far : (b : Bool) → not b ≡ false → b ≡ true
not-far true h = refl
not-far false h = cc

end-bound : (q l : Fraction) (kept far : Bool) → is_kept q ≡ kept → is_far q ≡ far → not kept && far ≡ false → IsFraction q → IsEnd (Some q) l → IsBound l
end-bound q l true far x y e f h = (h.0, inl (kept-end q l (down q) f h.0 h.1 h.2 (down_is q f) x))
end-bound q l false false x y e f h = (h.0, inr (sym (at_most_same (whole (pos (2 ^ 32))) f h.0 (same_size q l f h.0 (same_number q l h.1 h.2))) ∙ not-far _ y))
end-bound q l false true x y e f h = cc

neither : (x y : Bool) (f : BoundFault) → cond (x || y) (Some f) None ≡ None → (x ≡ false) × (y ≡ false)
neither false false f h = (refl, refl)
neither false true f h = cc
neither true y f h = cc

ends-bound : (i : DeclaredInterval) (l h : Fraction) → ends_fault i.low i.high ≡ None → IfFraction i.low × IfFraction i.high → IsEnd i.low l × IsEnd i.high h → IsBound l × IsBound h
ends-bound i l h = go i.low i.high
  where
    go : (x y : Option Fraction) → ends_fault x y ≡ None → IfFraction x × IfFraction y → IsEnd x l × IsEnd y h → IsBound l × IsBound h
    go (Some p) (Some q) e f b = let n = neither (too_wide_end p) (too_wide_end q) bound_too_wide e in
        (end-bound p l (is_kept p) (is_far p) refl refl n.0 f.0 b.0, end-bound q h (is_kept q) (is_far q) refl refl n.1 f.1 b.1)
    go (Some p) None e f b = cc
    go None y e f b = cc

axis-bound : (s : Sort) (i : DeclaredInterval) (d : Declared) → axis_fault s i ≡ None → IfFraction i.low × IfFraction i.high → IsDeclaredBy s i d → IsDeclared d
axis-bound real_sort i (real_between l h) e f b = ends-bound i l h e f b
axis-bound bool_sort i any_bool e f b = tt
axis-bound real_sort i any_bool e f b = elim b [ ]
axis-bound bool_sort i (real_between l h) e f b = elim b [ ]

-- ---- all axes

none-later : (c : Constant) (x : Option BoundFault) (later : Option (Constant × BoundFault)) → or_later c x later ≡ None → (x ≡ None) × (later ≡ None)
none-later c None later h = (refl, h)
none-later c (Some f) later h = cc

axes-bound : (box : ℕ → DeclaredInterval) (axis : ℕ) (constants : List Constant) (axes : List Axis) → ((k : ℕ) → IfFraction (box k).low × IfFraction (box k).high) →
    bound_fault_from box axis constants ≡ None → AreAxes box axis constants axes → (k : ℕ) (x : Axis) → k < length axes → IsDeclared (slice_index_or axes k x).declared
axes-bound box axis (c ∷ constants) (a ∷ axes) f e h zero x b =
    axis-bound c.sort (box axis) a.declared (none-later c (axis_fault c.sort (box axis)) (bound_fault_from box (suc axis) constants) e).0 (f axis) h.1
axes-bound box axis (c ∷ constants) (a ∷ axes) f e h (suc k) x b =
    axes-bound box (suc axis) constants axes f (none-later c (axis_fault c.sort (box axis)) (bound_fault_from box (suc axis) constants) e).1 h.2 k x (omega (arith, b))
axes-bound box axis constants [] f e h k x b = absurd (omega (arith, b))
axes-bound box axis [] (a ∷ axes) f e h k x b = elim h [ ]

pub axes_bounds : (bound : Option ℕ) (script : List Command) (p : Problem) → IsProblemOf bound script p → All (λ (a : Axis). IsDeclared a.declared) p.axes
axes_bounds bound script p t k x b =
    axes-bound (declared_interval bound script) 0 (constants_of script) p.axes (λ n. ends_are_fractions bound script n) t.bounded t.axes k x b
