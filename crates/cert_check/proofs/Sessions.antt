-- The problems of a session, one after the other.
use Rattle.std.proofs.Common.{◌≡◌, ℕ, zero, suc, ◌+◌, ◌≤◌, List, [], ◌∷◌, length, map, drop, Bool, true, Option, Some, ap, ap₂, sym, ◌∙◌, subst, arith, length-append}
use Rattle.std.specs.Prelude.{slice_get}
use Rattle.std.proofs.lemmas.List.{length-map}
use Rattle.poly_graph.specs.Problem.{Axis, Problem, sort_of, sorts_of_problem}
use Rattle.poly_graph.specs.ProblemViews.{Parts, problem_of}
use Rattle.problem_session.specs.Session.{problems_of}
use Rattle.cover_model.specs.Carried.{GoesOnFrom}
use Rattle.cert_model.specs.SessionLaws.{GoOn, IsSession}

pub some_same : {A : Type 0} {x y : A} → Some x ≡ Some y → x ≡ y
some_same e = cc

abbrev pub problem_at : List (Parts × Bool) → ℕ → Option Parts
problem_at cs k = slice_get (map (λ (c : Parts × Bool). c.0) cs) k

abbrev pub extends_at : List (Parts × Bool) → ℕ → Option Bool
extends_at cs k = slice_get (map (λ (c : Parts × Bool). c.1) cs) k

-- the checks from one on
pub from_check : (cs : List (Parts × Bool)) (k : ℕ) (q : Parts) (e : Bool) → problem_at cs k ≡ Some q → extends_at cs k ≡ Some e → drop k cs ≡ (q, e) ∷ drop (suc k) cs
from_check [] k q e f g = cc
from_check ((p, t) ∷ cs) zero q e f g = ap₂ (λ (x : Parts) (y : Bool). (x, y) ∷ cs) (some_same f) (some_same g)
from_check (c ∷ cs) (suc k) q e f g = from_check cs k q e f g

-- a problem goes on from the one before, where all of its commands are in force
go-on : (p : Problem) (cs : List (Parts × Bool)) (k : ℕ) (q r : Parts) (e : Bool) → GoOn p (problems_of cs) → problem_at cs k ≡ Some q → problem_at cs (suc k) ≡ Some r → extends_at cs (suc k) ≡ Some e →
    e ≡ true → GoesOnFrom (problem_of q) (problem_of r)
go-on p [] k q r e h f g i t = cc
go-on p ((a, u) ∷ []) zero q r e h f g i t = cc
go-on p ((a, u) ∷ (b, v) ∷ cs) zero q r e h f g i t =
    subst (λ (x : Parts). GoesOnFrom (problem_of x) (problem_of r)) (some_same f) (subst (λ (x : Parts). GoesOnFrom (problem_of a) (problem_of x)) (some_same g) (h.2.1 (some_same i ∙ t)))
go-on p ((a, u) ∷ cs) (suc k) q r e h f g i t = go-on (problem_of a) cs k q r e h.2 f g i t

pub goes_on : (cs : List (Parts × Bool)) (k : ℕ) (q r : Parts) (e : Bool) → IsSession (problems_of cs) → problem_at cs k ≡ Some q → problem_at cs (suc k) ≡ Some r → extends_at cs (suc k) ≡ Some e →
    e ≡ true → GoesOnFrom (problem_of q) (problem_of r)
goes_on [] k q r e h f g i t = absurd h
goes_on ((a, u) ∷ []) zero q r e h f g i t = cc
goes_on ((a, u) ∷ (b, v) ∷ cs) zero q r e h f g i t =
    subst (λ (x : Parts). GoesOnFrom (problem_of x) (problem_of r)) (some_same f) (subst (λ (x : Parts). GoesOnFrom (problem_of a) (problem_of x)) (some_same g) (h.1 (some_same i ∙ t)))
goes_on ((a, u) ∷ cs) (suc k) q r e h f g i t = go-on (problem_of a) cs k q r e h f g i t

-- it has no fewer axes and atoms
pub more_axes : (p q : Parts) → GoesOnFrom (problem_of p) (problem_of q) → length p.axes ≤ length q.axes
more_axes p q g = omega (arith, ap length g.sorts, length-append (sorts_of_problem (problem_of p)) g.new_sorts, length-map p.axes (λ (a : Axis). sort_of a.declared), length-map q.axes (λ (a : Axis). sort_of a.declared))

pub more_atoms : (p q : Parts) → GoesOnFrom (problem_of p) (problem_of q) → length p.atoms ≤ length q.atoms
more_atoms p q g = omega (arith, ap length g.atoms, length-append p.atoms g.new_atoms)

-- the same where the later one is the next
pub goes_on_next : (cs : List (Parts × Bool)) (k : ℕ) (q r : Parts) (e : Bool) → IsSession (problems_of cs) → problem_at cs k ≡ Some q → problem_at cs (k + 1) ≡ Some r → extends_at cs (k + 1) ≡ Some e →
    e ≡ true → GoesOnFrom (problem_of q) (problem_of r)
goes_on_next cs k q r e h f g i t =
    let same : k + 1 ≡ suc k = omega arith in
    goes_on cs k q r e h f (ap (problem_at cs) (sym same) ∙ g) (ap (extends_at cs) (sym same) ∙ i) t
