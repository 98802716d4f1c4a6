-- Works one after the other.
use Rattle.std.proofs.Common.{◌≡◌, ℕ, List, [], ◌∷◌, ◌++◌, map, refl, ap, sym, ◌∙◌, subst, append_assoc}
use Rattle.std.specs.Prelude.{Ok, Err}
use Rattle.script_model.specs.Reading.{Names, value}
use Rattle.script_model.specs.Script.{bound_to}
use Rattle.script_model.specs.Declared.{Bounding}
use Rattle.script_forms.specs.Terms.{ill_formed, refused}
use Rattle.script_forms.specs.Work.{Event, met, Work, outcome_of}
use Rattle.smt_sexp.specs.Views.{place_of}
use Rattle.script_fault.specs.declared.place.Place as code
use Rattle.smt_sexp.specs.declared.sexps.Sexps as arena
use Rattle.smt_script.specs.Views.{parameter_of}
use Rattle.smt_script.specs.declared.command.Parameter.{Parameter}
use Rattle.term_build.specs.declared.stop.Stop.{Stop}
use Rattle.term_build.specs.declared.stop.Stop.TheVariants as stop
use Rattle.term_build.specs.declared.stop.Fault.TheVariants.{IllFormed}
use Rattle.term_build.proofs.Emits.{emits_fault, emits_stop}
use Rattle.value_build.specs.Making.{Making, Grows, Steps}
use Rattle.value_build.specs.Values.{AreValues}
use Rattle.value_build.specs.declared.value.Value.{Value}
use Rattle.value_build.proofs.Growth.{value_stays, steps_then}
use Rattle.problem_build.specs.Names.{work_names, bound_names_of, bound_locals, AreLocals, Knows}
use Rattle.problem_build.specs.Walking.{Fails, IsScope, KnowsScope}
use Rattle.problem_build.specs.declared.frames.Scope.{Scope}
use Rattle.problem_build.specs.declared.locals.Local.{Local}
use Rattle.problem_build.specs.declared.top.Top.{Top}

-- an expression without a sort
pub steps_ill : (m : Making) (at : code.Place) → Fails m (met (ill_formed (place_of at)) ∷ []) (stop.Fault at IllFormed)
steps_ill m at = emits_fault (λ (x : Unit {0}). Unit {0}) m.made m.made (refused (ill_formed (place_of at))) at IllFormed refl

-- events behind a stop
pub fails_on : (m : Making) (es fs : List Event) (e : Stop) → Fails m es e → Fails m (es ++ fs) e
fails_on m es fs e h = emits_stop (λ (x : Unit {0}). Unit {0}) (λ (x : Unit {0}). Unit {0}) m.made m.made m.made es fs e h

-- events before it
pub fails_then : {X : Type 0} (P : X → Type 0) (m m1 : Making) (es fs : List Event) (x : X) (e : Stop) → Steps m m1 es (Ok x) P → Fails m1 fs e → Fails m (es ++ fs) e
fails_then P m m1 es fs x e h i = steps_then P (λ (y : Unit {0}). Unit {0}) m m1 m1 es fs x (Err e) h i

-- ---- locals stay

pub locals_stay : (m m1 : Making) → Grows m m1 → (ls : List Local) (ns : Names Work) (bs : Names Bounding) → AreLocals m ls ns bs → AreLocals m1 ls ns bs
locals_stay m m1 g [] [] [] h = tt
locals_stay m m1 g (l ∷ ls) ((x, value w) ∷ ns) ((y, value b) ∷ bs) h = (h.0, h.1, value_stays m m1 w.outcome b l.value g h.2, locals_stay m m1 g ls ns bs h.3)
locals_stay m m1 g _ _ _ h = elim h [ ]

pub knows_stays : (m m1 : Making) (s : arena.Sexps) (top : List Top) (n : ℕ) (ls : List Local) (names : Names Work) (bnames : Names Bounding) → Grows m m1 → Knows m s top n ls names bnames → Knows m1 s top n ls names bnames
knows_stays m m1 s top n ls names bnames g h = record {
  near = h.near;
  bounded = h.bounded;
  stand = locals_stay m m1 g ls h.near h.bounded h.stand;
  works = h.works;
  bounds = h.bounds;
}

-- what a scope sees
pub knows_scope : (m : Making) (s : arena.Sexps) (top : List Top) (n : ℕ) (ls : List Local) (names : Names Work) (bnames : Names Bounding) (scope : Scope) → IsScope scope n ls → Knows m s top n ls names bnames →
    KnowsScope m s top scope names bnames
knows_scope m s top n ls names bnames scope is h =
    subst (λ (k : ℕ). Knows m s top k scope.locals.value names bnames) (sym is.0) (subst (λ (xs : List Local). Knows m s top n xs names bnames) (sym is.1) h)

-- ---- more locals

pub locals_both : (m : Making) (ls ks : List Local) (ns ms : Names Work) (bs cs : Names Bounding) → AreLocals m ls ns bs → AreLocals m ks ms cs → AreLocals m (ls ++ ks) (ns ++ ms) (bs ++ cs)
locals_both m [] ks [] ms [] cs h k = k
locals_both m (l ∷ ls) ks ((x, value w) ∷ ns) ms ((y, value b) ∷ bs) cs h k = (h.0, h.1, h.2, locals_both m ls ks ns ms bs cs h.3 k)
locals_both m _ ks _ ms _ cs h k = elim h [ ]

pub knows_more : (m : Making) (s : arena.Sexps) (top : List Top) (n : ℕ) (ls ks : List Local) (ns names : Names Work) (bs bnames : Names Bounding) → AreLocals m ls ns bs → Knows m s top n ks names bnames →
    Knows m s top n (ls ++ ks) (ns ++ names) (bs ++ bnames)
knows_more m s top n ls ks ns names bs bnames h k = record {
  near = ns ++ k.near;
  bounded = bs ++ k.bounded;
  stand = locals_both m ls ks ns k.near bs k.bounded h k.stand;
  works = ap (λ x. ns ++ x) k.works ∙ sym (append_assoc ns k.near (work_names s top n));
  bounds = ap (λ x. bs ++ x) k.bounds ∙ sym (append_assoc bs k.bounded (bound_names_of s top n));
}

-- ---- parameters that stand for values

pub bound_stand : (m : Making) (ps : List Parameter) (ws : List Work) (bs : List Bounding) (vs : List Value) → AreValues m (map outcome_of ws) bs vs →
    AreLocals m (bound_locals ps vs) (bound_to (map parameter_of ps) ws) (bound_to (map parameter_of ps) bs)
bound_stand m [] ws bs vs h = tt
bound_stand m (p ∷ ps) [] [] [] h = tt
bound_stand m (p ∷ ps) (w ∷ ws) (b ∷ bs) (v ∷ vs) h = (refl, refl, h.0, bound_stand m ps ws bs vs h.1)
bound_stand m (p ∷ ps) [] [] (v ∷ vs) h = elim h [ ]
bound_stand m (p ∷ ps) [] (b ∷ bs) vs h = elim h [ ]
bound_stand m (p ∷ ps) (w ∷ ws) [] vs h = elim h [ ]
bound_stand m (p ∷ ps) (w ∷ ws) (b ∷ bs) [] h = elim h [ ]

pub knows_bound : (m : Making) (s : arena.Sexps) (top : List Top) (n : ℕ) (ps : List Parameter) (vs : List Value) (ls : List Local) (ws : List Work) (bs : List Bounding) → ls ≡ bound_locals ps vs → AreValues m (map outcome_of ws) bs vs →
    Knows m s top n ls (bound_to (map parameter_of ps) ws ++ work_names s top n) (bound_to (map parameter_of ps) bs ++ bound_names_of s top n)
knows_bound m s top n ps vs ls ws bs e h = record {
  near = bound_to (map parameter_of ps) ws;
  bounded = bound_to (map parameter_of ps) bs;
  stand = subst (λ (x : List Local). AreLocals m x (bound_to (map parameter_of ps) ws) (bound_to (map parameter_of ps) bs)) (sym e) (bound_stand m ps ws bs vs h);
  works = refl;
  bounds = refl;
}

-- no locals
pub knows_none : (m : Making) (s : arena.Sexps) (top : List Top) (n : ℕ) → Knows m s top n [] (work_names s top n) (bound_names_of s top n)
knows_none m s top n = record { near = []; bounded = []; stand = tt; works = refl; bounds = refl }
