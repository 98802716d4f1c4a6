-- What a stack of frames stands for, and how it goes on.
use Rattle.std.proofs.Common.{◌≡◌, ℕ, List, [], ◌∷◌, ◌++◌, map, refl, ap, sym, ◌∙◌, subst, append_assoc, append-nil}
use Rattle.std.specs.Prelude.{Result, Ok}
use Rattle.script_model.specs.Reading.{meaning}
use Rattle.script_model.specs.Declared.{Bounding, bounding}
use Rattle.script_forms.specs.Terms.{Unfolded}
use Rattle.script_forms.specs.Work.{Event, reached, Work, as_work, outcome_of}
use Rattle.smt_sexp.specs.Arena.{expression_at}
use Rattle.smt_sexp.specs.declared.sexps.Sexps as arena
use Rattle.term_build.specs.declared.stop.Stop.{Stop}
use Rattle.value_build.specs.Making.{Making, Grows, Steps}
use Rattle.value_build.specs.Values.{IsValue}
use Rattle.value_build.specs.declared.value.Value.{Value}
use Rattle.value_build.proofs.Growth.{steps_then, steps_none, values_stay}
use Rattle.problem_build.specs.Walking.{Fails, Waits, KnowsValues, Enters, Leaves, WorkStep, ReachedWorkStep, Reaches, ReachesMeaning}
use Rattle.problem_build.specs.declared.top.Top.{Top}
use Rattle.problem_build.specs.declared.frames.Scope.{Scope}
use Rattle.problem_build.specs.declared.frames.Frame.{Frame}
use Rattle.problem_build.specs.declared.frames.Frame.TheVariants as frame
use Rattle.problem_build.specs.declared.frames.Next.{Next}
use Rattle.problem_build.specs.declared.frames.Next.TheVariants as next
use Rattle.problem_build.proofs.Steps.{fails_on, fails_then, locals_stay, knows_stays}
use Rattle.problem_build.proofs.Turns.{reaches_same}

-- ---- stacks

-- Behind a value of this outcome and bound, which goes to the last frame, these events are left, and then the whole has
-- that outcome and bound.
abbrev pub Stacked : Making → arena.Sexps → List Top → List Frame → Unfolded → Bounding → List Event → Unfolded → Bounding → Type 0
Stacked m s top [] u d es whole bound = (es ≡ []) × (whole ≡ u) × (bound ≡ d)
Stacked m s top (f ∷ above) u d es whole bound =
    (mid : Unfolded) × (held : Bounding) × (first : List Event) × (after : Work) × Stacked m s top above u d first mid held × Waits m s top f mid held after bound × (es ≡ first ++ after.events) × (whole ≡ after.outcome)

module _ (m m1 : Making) (s : arena.Sexps) (top : List Top) (g : Grows m m1) where
  waits-stay : (f : Frame) (u : Unfolded) (d : Bounding) (w : Work) (b : Bounding) → Waits m s top f u d w b → Waits m1 s top f u d w b
  waits-stay (frame.Call c) u d w b h = record {
    names = h.names;
    bnames = h.bnames;
    knows = knows_stays m m1 s top c.scope.visible c.scope.locals.value h.names h.bnames g h.knows;
    done = h.done;
    bounded = h.bounded;
    values = values_stay m m1 (map outcome_of h.done) h.bounded c.values.items g h.values;
    here = h.here;
    is = h.is;
    call = h.call;
  }
  waits-stay (frame.Let l x) u d w b h = record {
    names = h.names;
    bnames = h.bnames;
    knows = knows_stays m m1 s top l.scope.visible l.scope.locals.value h.names h.bnames g h.knows;
    done = h.done;
    bounded = h.bounded;
    stand = locals_stay m m1 g l.bound h.done h.bounded h.stand;
    here = h.here;
    is = h.is;
    binds = h.binds;
  }

  stacked-stays : (fs : List Frame) (u : Unfolded) (d : Bounding) (es : List Event) (whole : Unfolded) (bound : Bounding) → Stacked m s top fs u d es whole bound → Stacked m1 s top fs u d es whole bound
  stacked-stays [] u d es whole bound h = h
  stacked-stays (f ∷ above) u d es whole bound h =
      (h.0, h.1, h.2, h.3, stacked-stays above u d h.2 h.0 h.1 h.4, waits-stay f h.0 h.1 h.3 bound h.5, h.6, h.7)

module _ (m : Making) (s : arena.Sexps) (top : List Top) (f : Frame) where
  stacked-push : (fs : List Frame) (u : Unfolded) (d : Bounding) (after : Work) (held : Bounding) (es : List Event) (whole : Unfolded) (bound : Bounding) →
      Waits m s top f u d after held → Stacked m s top fs after.outcome held es whole bound → Stacked m s top (fs ++ (f ∷ [])) u d (after.events ++ es) whole bound
  stacked-push [] u d after held es whole bound w h =
      (u, d, [], after, (refl, refl, refl), subst (λ (x : Bounding). Waits m s top f u d after x) (sym h.2) w, ap (λ xs. after.events ++ xs) h.0 ∙ append-nil after.events, h.1)
  stacked-push (g ∷ above) u d after held es whole bound w h =
      (h.0, h.1, after.events ++ h.2, h.3, stacked-push above u d after held h.2 h.0 h.1 w h.4, h.5, ap (λ xs. after.events ++ xs) h.6 ∙ sym (append_assoc after.events h.2 h.3.events), h.7)

  abbrev Popped : List Frame → Unfolded → Bounding → List Event → Unfolded → Bounding → Type 0
  Popped fs u d es whole bound = (after : Work) × (held : Bounding) × (rest : List Event) × Waits m s top f u d after held × Stacked m s top fs after.outcome held rest whole bound × (es ≡ after.events ++ rest)

  stacked-pop : (fs : List Frame) (u : Unfolded) (d : Bounding) (es : List Event) (whole : Unfolded) (bound : Bounding) → Stacked m s top (fs ++ (f ∷ [])) u d es whole bound → Popped fs u d es whole bound
  stacked-pop [] u d es whole bound h = (
    h.3,
    bound,
    [],
    subst (λ (x : Unfolded). Waits m s top f x d h.3 bound) h.4.1 (subst (λ (x : Bounding). Waits m s top f h.0 x h.3 bound) h.4.2 h.5),
    (refl, h.7, refl),
    h.6 ∙ ap (λ xs. xs ++ h.3.events) h.4.0 ∙ sym (append-nil h.3.events),
  )
  stacked-pop (g ∷ above) u d es whole bound h =
      let p = stacked-pop above u d h.2 h.0 h.1 h.4 in
      (p.0, p.1, p.2 ++ h.3.events, p.3, (h.0, h.1, p.2, h.3, p.4, h.5, refl, h.7), h.6 ∙ ap (λ xs. xs ++ h.3.events) p.5 ∙ append_assoc p.0.events p.2 h.3.events)

-- ---- a walk that goes on

-- some events of the whole are done; this work is in hand, and the stack stands for the rest
pub record Within (InHand : Work → Bounding → Type 0) (start now : Making) (s : arena.Sexps) (top : List Top) (stack : List Frame) (whole : Work) (bound : Bounding) : Type 0 where
  pub done : List Event
  pub here : Work
  pub held : Bounding
  pub after : List Event
  pub steps : Steps {X = Unit {0}} start now done (Ok tt) (λ _. Unit {0})
  pub inner : InHand here held
  pub stacked : Stacked now s top stack here.outcome held after whole.outcome bound
  pub events : whole.events ≡ done ++ (here.events ++ after)

-- a frame goes on with a value
abbrev pub Resumes : Making → arena.Sexps → List Top → Frame → Value → Work → Bounding → Type 0
Resumes m s top f v w b = (u : Unfolded) × (d : Bounding) × Waits m s top f u d w b × IsValue m u d v

pub keeps_values : (m : Making) (s : arena.Sexps) (top : List Top) (f : Frame) (u : Unfolded) (d : Bounding) (w : Work) (b : Bounding) → Waits m s top f u d w b → KnowsValues m f
keeps_values m s top (frame.Call c) u d w b h = (map outcome_of h.done, h.bounded, h.values)
keeps_values m s top (frame.Let l x) u d w b h = tt

pub goes_reached : (m m1 : Making) (s : arena.Sexps) (top : List Top) (w : Work) (b : Bounding) (n : Next) → ReachedWorkStep m m1 s top w b n → WorkStep m m1 s top w b n
goes_reached m m1 s top w b n h = record {
  done = reached ∷ h.goes.done;
  left = h.goes.left;
  steps = steps_then (λ (x : Unit {0}). Unit {0}) (λ (x : Unit {0}). Unit {0}) m h.middle m1 (reached ∷ []) h.goes.done (tt {0}) (Ok (tt {0})) h.reach h.goes.steps;
  leaves = h.goes.leaves;
  events = h.events ∙ ap (λ es. reached ∷ es) h.goes.events;
  outcome = h.outcome ∙ h.goes.outcome;
}

-- an expression whose work is in hand is entered
pub enters_reach : (m m1 : Making) (s : arena.Sexps) (top : List Top) (scope : Scope) (at : ℕ) (w : Work) (b : Bounding) (r : Result Next Stop) → Enters m s top scope at w b →
    ReachesMeaning m m1 s top scope (λ V M names. meaning M names (expression_at s at)) r → Reaches m m1 s top w b r
enters_reach m m1 s top scope at w b r h f = reaches_same s top m m1 w (meaning as_work h.names (expression_at s at)) b (meaning bounding h.bnames (expression_at s at)) r h.work h.bound (f h.names h.bnames h.knows)

module _ (s : arena.Sexps) (top : List Top) (whole : Work) (bound : Bounding) where
  pub within_begins : (m : Making) (n : Next) → Leaves m s top n whole bound → Within (Leaves m s top n) m m s top [] whole bound
  within_begins m n h = record {
    done = [];
    here = whole;
    held = bound;
    after = [];
    steps = steps_none (λ (x : Unit {0}). Unit {0}) m (tt {0}) (tt {0});
    inner = h;
    stacked = (refl, refl, refl);
    events = sym (append-nil whole.events);
  }

  pub within_goes : (InHand : Work → Bounding → Type 0) (start now new : Making) (stack : List Frame) (n : Next) (h : Within InHand start now s top stack whole bound) → WorkStep now new s top h.here h.held n →
      Within (Leaves new s top n) start new s top stack whole bound
  within_goes InHand start now new stack n h g = record {
    done = h.done ++ g.done;
    here = g.left;
    held = h.held;
    after = h.after;
    steps = steps_then (λ (x : Unit {0}). Unit {0}) (λ (x : Unit {0}). Unit {0}) start now new h.done g.done (tt {0}) (Ok (tt {0})) h.steps g.steps;
    inner = g.leaves;
    stacked = subst (λ (u : Unfolded). Stacked new s top stack u h.held h.after whole.outcome bound) g.outcome
        (stacked-stays now new s top g.steps.1.0 stack h.here.outcome h.held h.after whole.outcome bound h.stacked);
    events = h.events ∙ ap (λ es. h.done ++ (es ++ h.after)) g.events ∙ ap (λ es. h.done ++ es) (append_assoc g.done g.left.events h.after) ∙ sym (append_assoc h.done g.done (g.left.events ++ h.after));
  }

  pub within_fails : (InHand : Work → Bounding → Type 0) (start now : Making) (stack : List Frame) (e : Stop) (h : Within InHand start now s top stack whole bound) → Fails now h.here.events e → Fails start whole.events e
  within_fails InHand start now stack e h f = subst (λ (es : List Event). Fails start es e) (sym h.events)
      (fails_then (λ (x : Unit {0}). Unit {0}) start now h.done (h.here.events ++ h.after) (tt {0}) e h.steps (fails_on now h.here.events h.after e f))

  module _ (start now : Making) (stack : List Frame) where
    -- a frame comes onto the stack
    pub within_waits : (f : Frame) (scope : Scope) (at : ℕ) → Within (Leaves now s top (next.Wait f scope at)) start now s top stack whole bound →
        Within (Enters now s top scope at) start now s top (stack ++ (f ∷ [])) whole bound
    within_waits f scope at h = let i = h.inner in record {
      done = h.done;
      here = i.here;
      held = i.held;
      after = i.after.events ++ h.after;
      steps = h.steps;
      inner = i.enters;
      stacked = stacked-push now s top f stack i.here.outcome i.held i.after h.held h.after whole.outcome bound i.waits
          (subst (λ (u : Unfolded). Stacked now s top stack u h.held h.after whole.outcome bound) i.outcome h.stacked);
      events = h.events ∙ ap (λ es. h.done ++ (es ++ h.after)) i.events ∙ ap (λ es. h.done ++ es) (append_assoc i.here.events i.after.events h.after);
    }

    -- the last frame gets a value
    pub within_resumes : (f : Frame) (v : Value) → Within (Leaves now s top (next.Back v)) start now s top (stack ++ (f ∷ [])) whole bound → Within (Resumes now s top f v) start now s top stack whole bound
    within_resumes f v h = let p = stacked-pop now s top f stack h.here.outcome h.held h.after whole.outcome bound h.stacked in record {
      done = h.done;
      here = p.0;
      held = p.1;
      after = p.2;
      steps = h.steps;
      inner = (h.here.outcome, h.held, p.3, h.inner.1);
      stacked = p.4;
      events = h.events ∙ ap (λ es. h.done ++ (es ++ h.after)) h.inner.0 ∙ ap (λ es. h.done ++ es) p.5;
    }
