-- Turns of the walk.
use Rattle.std.proofs.Common.{◌≡◌, List, [], ◌∷◌, refl, sym, ◌∙◌, subst, append-nil}
use Rattle.std.specs.Prelude.{Result, Ok, Err}
use Rattle.script_model.specs.Reading.{malformed}
use Rattle.script_model.specs.Declared.{Bounding}
use Rattle.script_forms.specs.Work.{Event, reached, Work, as_work}
use Rattle.smt_sexp.specs.Views.{place_of}
use Rattle.script_fault.specs.declared.place.Place as code
use Rattle.smt_sexp.specs.declared.sexps.Sexps as arena
use Rattle.term_build.specs.declared.stop.Stop.{Stop}
use Rattle.value_build.specs.Making.{Making, Steps}
use Rattle.value_build.specs.Values.{IsValue}
use Rattle.value_build.specs.declared.value.Value.{Value}
use Rattle.value_build.proofs.Growth.{steps_none}
use Rattle.problem_build.specs.Walking.{Fails, IsIll, returned, Leaves, WorkStep, Turns, Reaches}
use Rattle.problem_build.specs.declared.top.Top.{Top}
use Rattle.problem_build.specs.declared.frames.Next.{Next}
use Rattle.problem_build.proofs.Steps.{steps_ill, fails_on, fails_then}

module _ (s : arena.Sexps) (top : List Top) where
  -- ---- turns

  -- nothing is done yet
  pub goes_none : (m : Making) (w : Work) (b : Bounding) (n : Next) → Leaves m s top n w b → WorkStep m m s top w b n
  goes_none m w b n h = record {
    done = [];
    left = w;
    steps = steps_none (λ (x : Unit {0}). Unit {0}) m (tt {0}) (tt {0});
    leaves = h;
    events = refl;
    outcome = refl;
  }

  -- a value that is made goes back
  pub turns_back : (m m1 : Making) (w : Work) (b : Bounding) (r : Result Value Stop) → Steps m m1 w.events r (IsValue m1 w.outcome b) → Turns m m1 s top w b (returned r)
  turns_back m m1 w b (Ok v) h = record {
    done = w.events;
    left = record { events = []; outcome = w.outcome };
    steps = (h.0, (h.1.0, tt {0}));
    leaves = (refl, h.1.1);
    events = sym (append-nil w.events);
    outcome = refl;
  }
  turns_back m m1 w b (Err e) h = h

  -- the same work, by its parts
  pub turns_same : (m m1 : Making) (w w' : Work) (b b' : Bounding) (r : Result Next Stop) → w.events ≡ w'.events → w.outcome ≡ w'.outcome → b ≡ b' → Turns m m1 s top w' b' r → Turns m m1 s top w b r
  turns_same m m1 w w' b b' (Ok n) e o f h =
      let goes : WorkStep m m1 s top w b' n = record { done = h.done; left = h.left; steps = h.steps; leaves = h.leaves; events = e ∙ h.events; outcome = o ∙ h.outcome } in
      subst (λ (x : Bounding). WorkStep m m1 s top w x n) (sym f) goes
  turns_same m m1 w w' b b' (Err x) e o f h = subst (λ (es : List Event). Fails m es x) (sym e) h

  -- ---- turns of an expression that is reached

  pub reaches_same : (m m1 : Making) (w w' : Work) (b b' : Bounding) (r : Result Next Stop) → w ≡ w' → b ≡ b' → Reaches m m1 s top w' b' r → Reaches m m1 s top w b r
  reaches_same m m1 w w' b b' r e f h = subst (λ (x : Work). Reaches m m1 s top x b r) (sym e) (subst (λ (x : Bounding). Reaches m m1 s top w' x r) (sym f) h)

  pub reaches_ill : (m m1 : Making) (w : Work) (b : Bounding) (at : code.Place) (r : Result Next Stop) → w ≡ as_work.nothing (place_of at) malformed → IsIll at r → Reaches m m1 s top w b r
  reaches_ill m m1 w b at r e i = subst (λ (x : Work). Reaches m m1 s top x b r) (sym e)
      (subst (λ (x : Result Next Stop). Reaches m m1 s top (as_work.nothing (place_of at) malformed) b x) (sym i) (steps_ill m at))

  pub reaches_then : (m m1 m2 : Making) (u : Unit {0}) (w after : Work) (b : Bounding) (r : Result Next Stop) → w.events ≡ reached ∷ after.events → w.outcome ≡ after.outcome →
      Steps {X = Unit {0}} m m1 (reached ∷ []) (Ok u) (λ _. Unit {0}) → Turns m1 m2 s top after b r → Reaches m m2 s top w b r
  reaches_then m m1 m2 u w after b (Ok n) e o reach h = record { middle = m1; after = after; reach = reach; goes = h; events = e; outcome = o }
  reaches_then m m1 m2 u w after b (Err x) e o reach h =
      subst (λ (es : List Event). Fails m es x) (sym e) (fails_then (λ (y : Unit {0}). Unit {0}) m m1 (reached ∷ []) after.events u x reach h)

-- the expression was not reached
pub reach_fails : (m : Making) (es rest : List Event) (e : Stop) → es ≡ reached ∷ rest → Fails m (reached ∷ []) e → Fails m es e
reach_fails m es rest e f h = subst (λ (x : List Event). Fails m x e) (sym f) (fails_on m (reached ∷ []) rest e h)
