-- Levels that are opened and closed by marks, and names that are forgotten.
use Rattle.std.proofs.Common.{◌≡◌, ℕ, ◌≤◌, List, [], ◌∷◌, ◌++◌, true, false, Option, Some, None, take, length, refl, ap, sym, ◌∙◌, subst, arith}
use Rattle.std.specs.Prelude.{reverse}
use Rattle.std.proofs.Math.Seq.{take-length}
use Rattle.std.proofs.lemmas.List.{length-append, reverse-append, take-append-le}
use Rattle.std.specs.Str.{bytes_eq}
use Rattle.std.specs.Borrow.{Bor}
use Rattle.std.specs.HashMap.{HashMap, UpdatesBy}
use Rattle.script_model.specs.Reading.{Names, value, found}
use Rattle.script_model.specs.Script.{Command, declare, define, claim, minimize, check, ineffective}
use Rattle.smt_script.specs.Levels.{Levels, closed, with_command}
use Rattle.sort_check.specs.Levels.{names_of}
use Rattle.sort_check.specs.Scopes.{AreMarks, command_name, count_of, stays}
use Rattle.sort_check.specs.Sorts.{Sorted, of_sort, signature, sort_fault_in}
use Rattle.sort_check.specs.Steps.{count_after, named_after}
use Rattle.sort_check.specs.Views.{Knows}
use Rattle.sort_check.specs.declared.names.Known.{Known}
use Rattle.sort_check.specs.declared.scope.Mark.{Mark}
use Rattle.sort_check.proofs.Scopes.{fresh_last, knows_less, names_last}

-- ---- marks

pub marked : (m : Mark) (ms : List Mark) (inner : List Command) (outer : List (List Command)) → m.commands ≡ length inner → m.constants ≡ count_of inner → m.constants ≤ 1024 →
    AreMarks (reverse ms) inner outer → AreMarks (reverse (ms ++ m ∷ [])) inner (inner ∷ outer)
marked m ms inner outer n k few h =
    subst (λ xs. AreMarks xs inner (inner ∷ outer)) (sym (reverse-append ms (m ∷ [])))
    (record { within = omega (arith, n); taken = sym (ap (λ x. take x inner) n ∙ take-length inner); counted = k; few = few }, h)

-- one command more leaves the marks
pub marks_longer : (ms : List Mark) (inner : List Command) (c : Command) (outer : List (List Command)) → AreMarks ms inner outer → AreMarks ms (inner ++ c ∷ []) outer
marks_longer [] inner c [] h = tt
marks_longer [] inner c (cs ∷ outer) h = absurd h
marks_longer (m ∷ ms) inner c [] h = absurd h
marks_longer (m ∷ ms) inner c (cs ∷ outer) h = (
  record {
    within = omega (arith, h.0.within, length-append inner (c ∷ []));
    taken = h.0.taken ∙ sym (take-append-le m.commands inner (c ∷ []) h.0.within);
    counted = h.0.counted;
    few = h.0.few;
  },
  h.1,
)

-- where no mark is, no level is open
pub unmarked : (inner : List Command) (outer : List (List Command)) → AreMarks [] inner outer → closed 1 (record { inner = inner; outer = outer }) ≡ record { inner = inner; outer = outer }
unmarked inner [] h = refl
unmarked inner (cs ∷ outer) h = absurd h

-- the last mark tells what is in force once the level is closed
pub record ClosesTo (m : Mark) (ms : List Mark) (l : Levels) : Type 0 where
  pub outer : List (List Command)
  pub closed_so : closed 1 l ≡ record { inner = take m.commands l.inner; outer = outer }
  pub counted : m.constants ≡ count_of (take m.commands l.inner)
  pub few : m.constants ≤ 1024
  pub marks : AreMarks ms (take m.commands l.inner) outer

closes_here : (m : Mark) (ms : List Mark) (inner : List Command) (outer : List (List Command)) → AreMarks (m ∷ ms) inner outer → ClosesTo m ms (record { inner = inner; outer = outer })
closes_here m ms inner [] h = absurd h
closes_here m ms inner (cs ∷ outer) h = record {
  outer = outer;
  closed_so = ap (λ (xs : List Command). let l : Levels = record { inner = xs; outer = outer } in l) h.0.taken;
  counted = h.0.counted ∙ ap count_of h.0.taken;
  few = h.0.few;
  marks = subst (λ xs. AreMarks ms xs outer) h.0.taken h.1;
}

pub closes_mark : (m : Mark) (old new : List Mark) (l : Levels) → old ≡ new ++ m ∷ [] → AreMarks (reverse old) l.inner l.outer → ClosesTo m (reverse new) l
closes_mark m old new l is h =
    closes_here m (reverse new) l.inner l.outer (subst (λ xs. AreMarks xs l.inner l.outer) (ap reverse is ∙ reverse-append new (m ∷ [])) h)

-- ---- commands in force

pub with_stays : (l : Levels) (c : Command) → stays c ≡ true → with_command l c ≡ record { inner = l.inner ++ c ∷ []; outer = l.outer }
with_stays l (declare at x s) e = refl
with_stays l (define at f params s body) e = refl
with_stays l (claim at e) h = refl
with_stays l (minimize at t) h = refl
with_stays l (check at) e = cc
with_stays l (ineffective at) e = cc

pub without_stays : (l : Levels) (c : Command) → stays c ≡ false → with_command l c ≡ l
without_stays l (declare at x s) e = cc
without_stays l (define at f params s body) e = cc
without_stays l (claim at e) h = cc
without_stays l (minimize at t) h = cc
without_stays l (check at) e = refl
without_stays l (ineffective at) e = refl

-- a command that does not hold changes no name and no count
pub unnamed : (c : Command) (names : Names Sorted) → stays c ≡ false → named_after c names ≡ names
unnamed (declare at x s) names e = cc
unnamed (define at f params s body) names e = cc
unnamed (claim at e) names h = cc
unnamed (minimize at t) names h = cc
unnamed (check at) names e = refl
unnamed (ineffective at) names e = refl

pub uncounted : (c : Command) (n : ℕ) → stays c ≡ false → count_after c n ≡ n
uncounted (declare at x s) n e = cc
uncounted (define at f params s body) n e = cc
uncounted (claim at e) n h = cc
uncounted (minimize at t) n h = cc
uncounted (check at) n e = refl
uncounted (ineffective at) n e = refl

-- ---- names

abbrev or_nil : Option (List ℕ) → List ℕ
or_nil None = []
or_nil (Some x) = x

pub name_forgotten : {S : Type 0} (theory : Names Sorted) (old new : HashMap (Bor (List ℕ)) Known S) (cs : List Command) (c : Command) (x : List ℕ) → command_name c ≡ Some x → sort_fault_in theory (cs ++ c ∷ []) ≡ None →
    Knows old (names_of theory (cs ++ c ∷ [])) → UpdatesBy (λ a b. bytes_eq a.now b.now) (λ k. bytes_eq x k.now) old new None → Knows new (names_of theory cs)
name_forgotten theory old new cs (declare at y s) x e sorted knows updates =
    let same = ap or_nil e in
    knows_less old new (names_of theory cs) x (value (of_sort s)) (subst (λ z. Knows old ((z, value (of_sort s)) ∷ names_of theory cs)) same (subst (Knows old) (names_last theory cs (declare at y s)) knows))
    (subst (λ z. found z (names_of theory cs) ≡ None) same (fresh_last theory cs (declare at y s) sorted)) updates
name_forgotten theory old new cs (define at y params s body) x e sorted knows updates =
    let same = ap or_nil e in
    knows_less old new (names_of theory cs) x (signature params s) (subst (λ z. Knows old ((z, signature params s) ∷ names_of theory cs)) same (subst (Knows old) (names_last theory cs (define at y params s body)) knows))
    (subst (λ z. found z (names_of theory cs) ≡ None) same (fresh_last theory cs (define at y params s body) sorted)) updates
name_forgotten theory old new cs (claim at h) x e sorted knows updates = cc
name_forgotten theory old new cs (minimize at t) x e sorted knows updates = cc
name_forgotten theory old new cs (check at) x e sorted knows updates = cc
name_forgotten theory old new cs (ineffective at) x e sorted knows updates = cc

pub nothing_forgotten : {S : Type 0} (theory : Names Sorted) (top : HashMap (Bor (List ℕ)) Known S) (cs : List Command) (c : Command) → command_name c ≡ None → Knows top (names_of theory (cs ++ c ∷ [])) → Knows top (names_of theory cs)
nothing_forgotten theory top cs (declare at y s) e knows = cc
nothing_forgotten theory top cs (define at y params s body) e knows = cc
nothing_forgotten theory top cs (claim at h) e knows = subst (Knows top) (names_last theory cs (claim at h)) knows
nothing_forgotten theory top cs (minimize at t) e knows = subst (Knows top) (names_last theory cs (minimize at t)) knows
nothing_forgotten theory top cs (check at) e knows = subst (Knows top) (names_last theory cs (check at)) knows
nothing_forgotten theory top cs (ineffective at) e knows = subst (Knows top) (names_last theory cs (ineffective at)) knows
