-- A problem of a script has its form and its declared box.
use Rattle.std.proofs.Common.{◌≡◌, ℕ, suc, ◌<◌, List, [], ◌∷◌, map, true, ◌&&◌, Option, Some, None, IsTrue, refl, ap, ap₂, sym, ◌∙◌, subst}
use Rattle.dyadic.specs.Fraction.{Fraction, IsFraction, at_most}
use Rattle.dyadic.specs.Point.{Sort, real_sort, bool_sort, Coordinate, at_fraction, at_bool, IsPoint}
use Rattle.script_model.specs.Script.{Command, Constant, constants_of, sort_of_constant, sorts_of, Satisfies}
use Rattle.script_model.specs.Declared.{DeclaredInterval, declared_interval, IfBelow, IfAbove, InDeclared, InBox, InDeclaredBox}
use Rattle.script_model.proofs.Bounds.{IfFraction, ends_are_fractions}
use Rattle.poly_graph.specs.Term.{Atom, atom_holds}
use Rattle.poly_graph.specs.Form.{Form, form_truth}
use Rattle.poly_graph.specs.Problem.{Problem, Axis, Declared, real_between, any_bool, sort_of, sorts_of_axes, sorts_of_problem, in_declared, in_declared_axes, in_declared_box, full_atom, bool_holds}
use Rattle.script_forms.specs.Atoms.{script_atoms, already, number_in}
use Rattle.script_forms.specs.ProblemOf.{IsEnd, IsDeclaredBy, AreAxes, IsProblemOf}
use Rattle.script_forms.specs.Laws.{ProblemHolds}
use Rattle.dyadic.proofs.Equal.{through, both_true}
use Rattle.script_forms.proofs.Numbered.{Both, read_means, leads, number_below}

-- ---- one axis

below-in : (o : Option Fraction) (l v : Fraction) → IfFraction o → IsEnd o l → Both (IfBelow o v) (IsTrue (at_most l v))
below-in None l v f e = elim e [ ]
below-in (Some q) l v f e = (λ h. through l q v f e.2 h, λ h. through q l v e.0 e.1 h)

above-in : (o : Option Fraction) (h v : Fraction) → IfFraction o → IsEnd o h → Both (IfAbove o v) (IsTrue (at_most v h))
above-in None h v f e = elim e [ ]
above-in (Some q) h v f e = (λ b. through v q h f b e.1, λ b. through v h q e.0 b e.2)

-- a coordinate of a sort
abbrev IsOf : Sort → Coordinate → Type 0
IsOf real_sort (at_fraction q) = IsFraction q
IsOf bool_sort (at_bool b) = Unit {0}
IsOf _ _ = ⊥

abbrev EndsAre : DeclaredInterval → Type 0
EndsAre i = IfFraction i.low × IfFraction i.high

axis-in : (s : Sort) (i : DeclaredInterval) (d : Declared) (c : Coordinate) → EndsAre i → IsDeclaredBy s i d →
    Both (InDeclared i s c) (IsOf (sort_of d) c × IsTrue (in_declared d c))
axis-in real_sort i (real_between l h) (at_fraction q) f e =
    let below = below-in i.low l q f.0 e.0 in let above = above-in i.high h q f.1 e.1 in
    (λ b. (b.0, ap₂ (λ x y. x && y) (below.0 b.1) (above.0 b.2)), λ b. let k = both_true (at_most l q) (at_most q h) b.1 in (b.0, below.1 k.0, above.1 k.1))
axis-in bool_sort i any_bool (at_bool b) f e = (λ h. (tt, refl), λ h. tt)
axis-in real_sort i (real_between l h) (at_bool b) f e = (λ k. elim k [ ], λ k. elim k.0 [ ])
axis-in bool_sort i any_bool (at_fraction q) f e = (λ k. elim k [ ], λ k. elim k.0 [ ])
axis-in real_sort i any_bool c f e = elim e [ ]
axis-in bool_sort i (real_between l h) c f e = elim e [ ]

-- ---- all axes

point-first : (s : Sort) (sorts : List Sort) (c : Coordinate) (point : List Coordinate) → Both (IsPoint (s ∷ sorts) (c ∷ point)) (IsOf s c × IsPoint sorts point)
point-first real_sort sorts (at_fraction q) point = (λ h. h, λ h. h)
point-first bool_sort sorts (at_bool b) point = (λ h. (tt, h), λ h. h.1)
point-first real_sort sorts (at_bool b) point = (λ h. elim h [ ], λ h. elim h.0 [ ])
point-first bool_sort sorts (at_fraction q) point = (λ h. elim h [ ], λ h. elim h.0 [ ])

no-point : (s : Sort) (sorts : List Sort) → IsPoint (s ∷ sorts) [] → ⊥
no-point real_sort sorts h = h
no-point bool_sort sorts h = h

axes-in : (box : ℕ → DeclaredInterval) (axis : ℕ) (constants : List Constant) (axes : List Axis) (point : List Coordinate) → ((k : ℕ) → EndsAre (box k)) → AreAxes box axis constants axes →
    Both (InBox box axis (map sort_of_constant constants) point) (IsPoint (sorts_of_axes axes) point × IsTrue (in_declared_axes axes point))
axes-in box axis [] [] [] f a = (λ h. (tt, refl), λ h. tt)
axes-in box axis [] [] (c ∷ point) f a = (λ h. elim h [ ], λ h. elim h.0 [ ])
axes-in box axis (k ∷ constants) (x ∷ axes) [] f a = (λ h. elim h [ ], λ h. absurd (no-point (sort_of x.declared) (sorts_of_axes axes) h.0))
axes-in box axis (k ∷ constants) (x ∷ axes) (c ∷ point) f a =
    let one = axis-in k.sort (box axis) x.declared c (f axis) a.1 in
    let rest = axes-in box (suc axis) constants axes point f a.2 in
    let split = point-first (sort_of x.declared) (sorts_of_axes axes) c point in (
      λ h. let u = one.0 h.0 in let v = rest.0 h.1 in (split.1 (u.0, v.0), ap₂ (λ x y. x && y) u.1 v.1),
      λ h. let u = split.0 h.0 in let v = both_true (in_declared x.declared c) (in_declared_axes axes point) h.1 in (one.1 (u.0, v.0), rest.1 (u.1, v.1)),
    )
axes-in box axis [] (x ∷ axes) point f a = elim a [ ]
axes-in box axis (k ∷ constants) [] point f a = elim a [ ]

pub box_declared : (bound : Option ℕ) (script : List Command) (p : Problem) → IsProblemOf bound script p → (point : List Coordinate) →
    Both (InDeclaredBox bound script point) (IsPoint (sorts_of_problem p) point × IsTrue (in_declared_box p point))
box_declared bound script p t point = axes-in (declared_interval bound script) 0 (constants_of script) p.axes point (λ k. ends_are_fractions bound script k) t.axes

-- ---- the form

same-sort : (s : Sort) (i : DeclaredInterval) (d : Declared) → IsDeclaredBy s i d → sort_of d ≡ s
same-sort real_sort i (real_between l h) e = refl
same-sort bool_sort i any_bool e = refl
same-sort real_sort i any_bool e = elim e [ ]
same-sort bool_sort i (real_between l h) e = elim e [ ]

same-sorts : (box : ℕ → DeclaredInterval) (axis : ℕ) (constants : List Constant) (axes : List Axis) → AreAxes box axis constants axes → sorts_of_axes axes ≡ map sort_of_constant constants
same-sorts box axis [] [] a = refl
same-sorts box axis (k ∷ constants) (x ∷ axes) a = ap₂ (λ (s : Sort) (ss : List Sort). s ∷ ss) (same-sort k.sort (box axis) x.declared a.1) (same-sorts box (suc axis) constants axes a.2)
same-sorts box axis [] (x ∷ axes) a = elim a [ ]
same-sorts box axis (k ∷ constants) [] a = elim a [ ]

-- the sorts of a script's problem are the script's
pub problem_sorts : (bound : Option ℕ) (script : List Command) (p : Problem) → IsProblemOf bound script p → sorts_of_problem p ≡ sorts_of script
problem_sorts bound script p t = same-sorts (declared_interval bound script) 0 (constants_of script) p.axes t.axes

-- the atom of a number that the script's form holds
full_is : (bound : Option ℕ) (script : List Command) (p : Problem) → IsProblemOf bound script p → (a : Atom) → already a (script_atoms script) ≡ true →
    full_atom p (number_in (script_atoms script) a) ≡ a
full_is bound script p t a h =
    t.atoms (number_in (script_atoms script) a) (subst (λ (n : ℕ). number_in (script_atoms script) a < n) (sym t.count) (number_below a (script_atoms script) h))
    ∙ leads a (script_atoms script) h

pub problem_means : (bound : Option ℕ) (script : List Command) (p : Problem) → IsProblemOf bound script p → (m : Fraction) (point : List Coordinate) → IsPoint (sorts_of_problem p) point →
    Both (ProblemHolds m point p) (Satisfies m point script)
problem_means bound script p t m point i =
    let h = read_means script t.unfolds m point (subst (λ (s : List Sort). IsPoint s point) (problem_sorts bound script p t) i) (full_atom p) (full_is bound script p t) in
    let e = ap (λ (f : Form ℕ). form_truth (λ j. atom_holds m point (full_atom p j)) (bool_holds point) f) t.form in
    (λ x. h.0 (sym e ∙ x), λ x. e ∙ h.1 x)
