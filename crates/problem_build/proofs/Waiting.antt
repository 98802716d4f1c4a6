-- Arguments and bindings, one after the other.
use Rattle.std.proofs.Common.{◌≡◌, ℕ, List, [], ◌∷◌, ◌++◌, map, Some, None, refl, ap, sym, ◌∙◌, subst, append_assoc, append-nil}
use Rattle.std.proofs.lemmas.List.{map-append}
use Rattle.std.specs.Borrow.{Bor}
use Rattle.std.specs.Prelude.{Result}
use Rattle.script_model.specs.Sexp.{Place}
use Rattle.script_model.specs.Reading.{Names, value, meaning, meanings, binding_meanings, values_bound}
use Rattle.script_model.specs.Declared.{Bounding, bounding}
use Rattle.script_forms.specs.Terms.{Unfolded}
use Rattle.script_forms.specs.Unfolded.{first_fault}
use Rattle.script_forms.specs.Work.{Work, as_work, outcome_of, events_of}
use Rattle.smt_sexp.specs.Arena.{expression_at, rest_of}
use Rattle.smt_sexp.specs.Views.{place_of}
use Rattle.script_fault.specs.declared.name.Name as names
use Rattle.smt_sexp.specs.declared.sexps.Sexps as arena
use Rattle.smt_script.specs.Forms.{as_any}
use Rattle.sort_check.specs.Forms.{as_binding}
use Rattle.term_build.specs.declared.stop.Stop.{Stop}
use Rattle.value_build.specs.Making.{Making}
use Rattle.value_build.specs.Values.{IsValue, AreValues, IsKnown, AreKnown}
use Rattle.value_build.specs.declared.value.Value.{Value}
use Rattle.problem_build.specs.Names.{AreLocals}
use Rattle.problem_build.specs.Walking.{Calls, CallWaits, Lets, LetWaits, EntersWithin, IsScope, Turns, call_work, call_bounds}
use Rattle.problem_build.specs.declared.top.Top.{Top}
use Rattle.problem_build.specs.declared.locals.Local.{Local}
use Rattle.problem_build.specs.declared.frames.Scope.{Scope}
use Rattle.problem_build.specs.declared.frames.Call.{Call}
use Rattle.problem_build.specs.declared.frames.Let.{Let}
use Rattle.problem_build.specs.declared.frames.Frame.TheVariants as frame
use Rattle.problem_build.specs.declared.frames.Next.{Next}
use Rattle.problem_build.proofs.ByForm as forms
use Rattle.problem_build.proofs.Reached.{values_free, locals_free}
use Rattle.problem_build.proofs.Steps.{knows_scope}
use Rattle.problem_build.proofs.Turns.{turns_same}

-- ---- one more value

pub values_last : (m : Making) (u : Unfolded) (b : Bounding) (v : Value) → IsValue m u b v → (us : List Unfolded) (bs : List Bounding) (vs : List Value) → AreValues m us bs vs →
    AreValues m (us ++ (u ∷ [])) (bs ++ (b ∷ [])) (vs ++ (v ∷ []))
values_last m u b v h [] [] [] k = (h, tt)
values_last m u b v h (x ∷ us) (c ∷ bs) (o ∷ vs) k = (k.0, values_last m u b v h us bs vs k.1)
values_last m u b v h [] [] (o ∷ vs) k = elim k [ ]
values_last m u b v h [] (c ∷ bs) vs k = elim k [ ]
values_last m u b v h (x ∷ us) [] vs k = elim k [ ]
values_last m u b v h (x ∷ us) (c ∷ bs) [] k = elim k [ ]

pub known_last : (m : Making) (v : Value) (vs : List Value) → IsKnown m v → AreKnown m vs → AreKnown m (vs ++ (v ∷ []))
known_last m v vs h k = (k.0 ++ (h.0 ∷ []), k.1 ++ (h.1 ∷ []), values_last m h.0 h.1 v h.2 k.0 k.1 vs k.2)

locals-last : (m : Making) (x : Bor names.Name) (w : Work) (b : Bounding) (v : Value) → IsValue m w.outcome b v → (ls : List Local) (ns : Names Work) (bs : Names Bounding) → AreLocals m ls ns bs →
    AreLocals m (ls ++ (record { name = x; value = v } ∷ [])) (ns ++ ((x.now, value w) ∷ [])) (bs ++ ((x.now, value b) ∷ []))
locals-last m x w b v h [] [] [] k = (refl, refl, h, tt)
locals-last m x w b v h (l ∷ ls) ((y, value u) ∷ ns) ((z, value c) ∷ bs) k = (k.0, k.1, k.2, locals-last m x w b v h ls ns bs k.3)
locals-last m x w b v h _ _ _ k = elim k [ ]

-- ---- calls

-- the value of an argument comes back
pub call_back : (m : Making) (s : arena.Sexps) (top : List Top) (c : Call) (u : Unfolded) (d : Bounding) (w : Work) (b : Bounding) (v : Value) (h : CallWaits m s top c u d w b) → IsValue m u d v →
    AreValues m (map outcome_of (h.done ++ (h.here ∷ []))) (h.bounded ++ (d ∷ [])) (c.values.items ++ (v ∷ []))
call_back m s top c u d w b v h i = subst (λ (us : List Unfolded). AreValues m us (h.bounded ++ (d ∷ [])) (c.values.items ++ (v ∷ []))) (sym (map-append outcome_of h.done (h.here ∷ [])))
    (values_last m h.here.outcome d v (subst (λ (x : Unfolded). IsValue m x d v) (sym h.is) i) (map outcome_of h.done) h.bounded c.values.items h.values)

module _ (m : Making) (s : arena.Sexps) (top : List Top) (c : Call) (w : Work) (b : Bounding) (h : Calls m s top c w b) where
  -- its next argument
  pub call_next : (after : ℕ) (scope : Scope) → as_any (rest_of s c.next) ≡ Some (expression_at s c.next, rest_of s after) → IsScope scope c.scope.visible c.scope.locals.value →
      EntersWithin m s top (frame.Call (record c { next = after })) scope c.next w b
  call_next after scope is same =
      let here = meaning as_work h.names (expression_at s c.next) in
      let held = meaning bounding h.bnames (expression_at s c.next) in
      let left = meanings as_work h.names (rest_of s after) in
      let bleft = meanings bounding h.bnames (rest_of s after) in
      let each = forms.meanings_more as_work h.names (rest_of s c.next) (expression_at s c.next) (rest_of s after) is in
      let joined = ap (λ ws. h.done ++ ws) each ∙ sym (append_assoc h.done (here ∷ []) left) in
      let bjoined = ap (λ bs. h.bounded ++ bs) (forms.meanings_more bounding h.bnames (rest_of s c.next) (expression_at s c.next) (rest_of s after) is) ∙ sym (append_assoc h.bounded (held ∷ []) bleft) in
      record {
        here = here;
        held = held;
        after = record { events = events_of left ++ (call_work s top (place_of c.place) c.head ((h.done ++ (here ∷ [])) ++ left)).events; outcome = w.outcome };
        enters = record {
          names = h.names;
          bnames = h.bnames;
          knows = knows_scope m s top c.scope.visible c.scope.locals.value h.names h.bnames scope same h.knows;
          work = refl;
          bound = refl;
        };
        waits = record {
          names = h.names;
          bnames = h.bnames;
          knows = h.knows;
          done = h.done;
          bounded = h.bounded;
          values = h.values;
          here = here;
          is = refl;
          call = record {
            events = refl;
            outcome = λ free. h.call.outcome (ap (λ ws. first_fault (map outcome_of ws)) joined ∙ free) ∙ ap (λ ws. (call_work s top (place_of c.place) c.head ws).outcome) joined;
            bound = h.call.bound ∙ ap (λ bs. call_bounds s top c.head bs) bjoined;
          };
        };
        events = h.call.events ∙
            ap (λ ws. events_of ws ++ (call_work s top (place_of c.place) c.head (h.done ++ meanings as_work h.names (rest_of s c.next))).events) each ∙
            ap (λ ws. events_of (here ∷ left) ++ (call_work s top (place_of c.place) c.head ws).events) joined ∙
            append_assoc here.events (events_of left) (call_work s top (place_of c.place) c.head ((h.done ++ (here ∷ [])) ++ left)).events;
        outcome = refl;
      }

  -- behind its last argument
  pub call_last : (m1 : Making) (r : Result Next Stop) → as_any (rest_of s c.next) ≡ None →
      Turns m m1 s top (call_work s top (place_of c.place) c.head h.done) (call_bounds s top c.head h.bounded) r → Turns m m1 s top w b r
  call_last m1 r is t =
      let gone = forms.meanings_none as_work h.names (rest_of s c.next) is in
      let all = ap (λ ws. h.done ++ ws) gone ∙ append-nil h.done in
      let ball = ap (λ bs. h.bounded ++ bs) (forms.meanings_none bounding h.bnames (rest_of s c.next) is) ∙ append-nil h.bounded in
      turns_same s top m m1 w (call_work s top (place_of c.place) c.head h.done) b (call_bounds s top c.head h.bounded) r
      (h.call.events ∙ ap (λ ws. events_of ws ++ (call_work s top (place_of c.place) c.head (h.done ++ meanings as_work h.names (rest_of s c.next))).events) gone ∙
      ap (λ ws. (call_work s top (place_of c.place) c.head ws).events) all)
      (h.call.outcome (ap (λ ws. first_fault (map outcome_of ws)) all ∙ values_free m (map outcome_of h.done) h.bounded c.values.items h.values) ∙
      ap (λ ws. (call_work s top (place_of c.place) c.head ws).outcome) all)
      (h.call.bound ∙ ap (λ bs. call_bounds s top c.head bs) ball) t

-- ---- `let`

-- the value of a name comes back
pub let_back : (m : Making) (s : arena.Sexps) (top : List Top) (l : Let) (x : Bor names.Name) (u : Unfolded) (d : Bounding) (w : Work) (b : Bounding) (v : Value) (h : LetWaits m s top l x.now u d w b) → IsValue m u d v →
    AreLocals m (l.bound ++ (record { name = x; value = v } ∷ [])) (h.done ++ ((x.now, value h.here) ∷ [])) (h.bounded ++ ((x.now, value d) ∷ []))
let_back m s top l x u d w b v h i = locals-last m x h.here d v (subst (λ (o : Unfolded). IsValue m o d v) (sym h.is) i) l.bound h.done h.bounded h.stand

module _ (m : Making) (s : arena.Sexps) (top : List Top) (l : Let) (w : Work) (b : Bounding) (h : Lets m s top l w b) where
  -- its next binding
  pub let_next : (x : Bor names.Name) (p : Place) (at after : ℕ) (scope : Scope) → as_binding (rest_of s l.next) ≡ Some (record { at = p; name = x.now }, expression_at s at, rest_of s after) →
      IsScope scope l.scope.visible l.scope.locals.value → EntersWithin m s top (frame.Let (record l { next = after }) x) scope at w b
  let_next x p at after scope is same =
      let here = meaning as_work h.names (expression_at s at) in
      let held = meaning bounding h.bnames (expression_at s at) in
      let left = binding_meanings as_work h.names (rest_of s after) in
      let bleft = binding_meanings bounding h.bnames (rest_of s after) in
      let each = forms.bindings_more as_work h.names (rest_of s l.next) (rest_of s after) (record { at = p; name = x.now }) (expression_at s at) is in
      let joined = ap (λ ns. h.done ++ ns) each ∙ sym (append_assoc h.done ((x.now, value here) ∷ []) left) in
      let bjoined = ap (λ bs. h.bounded ++ bs) (forms.bindings_more bounding h.bnames (rest_of s l.next) (rest_of s after) (record { at = p; name = x.now }) (expression_at s at) is) ∙
      sym (append_assoc h.bounded ((x.now, value held) ∷ []) bleft) in
      record {
        here = here;
        held = held;
        after = record { events = events_of (values_bound left) ++ (meaning as_work (((h.done ++ ((x.now, value here) ∷ [])) ++ left) ++ h.names) (expression_at s l.body)).events; outcome = w.outcome };
        enters = record {
          names = h.names;
          bnames = h.bnames;
          knows = knows_scope m s top l.scope.visible l.scope.locals.value h.names h.bnames scope same h.knows;
          work = refl;
          bound = refl;
        };
        waits = record {
          names = h.names;
          bnames = h.bnames;
          knows = h.knows;
          done = h.done;
          bounded = h.bounded;
          stand = h.stand;
          here = here;
          is = refl;
          binds = record {
            events = refl;
            outcome = λ free. h.binds.outcome (ap (λ ns. first_fault (map outcome_of (values_bound ns))) joined ∙ free) ∙ ap (λ ns. (meaning as_work (ns ++ h.names) (expression_at s l.body)).outcome) joined;
            bound = h.binds.bound ∙ ap (λ bs. meaning bounding (bs ++ h.bnames) (expression_at s l.body)) bjoined;
          };
        };
        events = h.binds.events ∙
            ap (λ ns. events_of (values_bound ns) ++ (meaning as_work ((h.done ++ binding_meanings as_work h.names (rest_of s l.next)) ++ h.names) (expression_at s l.body)).events) each ∙
            ap (λ ns. events_of (here ∷ values_bound left) ++ (meaning as_work (ns ++ h.names) (expression_at s l.body)).events) joined ∙
            append_assoc here.events (events_of (values_bound left)) (meaning as_work (((h.done ++ ((x.now, value here) ∷ [])) ++ left) ++ h.names) (expression_at s l.body)).events;
        outcome = refl;
      }

  -- behind its last binding
  pub let_last : (m1 : Making) (r : Result Next Stop) → as_binding (rest_of s l.next) ≡ None →
      Turns m m1 s top (meaning as_work (h.done ++ h.names) (expression_at s l.body)) (meaning bounding (h.bounded ++ h.bnames) (expression_at s l.body)) r → Turns m m1 s top w b r
  let_last m1 r is t =
      let gone = forms.bindings_none as_work h.names (rest_of s l.next) is in
      let all = ap (λ ns. h.done ++ ns) gone ∙ append-nil h.done in
      let ball = ap (λ bs. h.bounded ++ bs) (forms.bindings_none bounding h.bnames (rest_of s l.next) is) ∙ append-nil h.bounded in
      turns_same s top m m1 w (meaning as_work (h.done ++ h.names) (expression_at s l.body)) b (meaning bounding (h.bounded ++ h.bnames) (expression_at s l.body)) r
      (h.binds.events ∙ ap (λ ns. events_of (values_bound ns) ++ (meaning as_work ((h.done ++ binding_meanings as_work h.names (rest_of s l.next)) ++ h.names) (expression_at s l.body)).events) gone ∙
      ap (λ ns. (meaning as_work (ns ++ h.names) (expression_at s l.body)).events) all)
      (h.binds.outcome (ap (λ ns. first_fault (map outcome_of (values_bound ns))) all ∙ locals_free m l.bound h.done h.bounded h.stand) ∙
      ap (λ ns. (meaning as_work (ns ++ h.names) (expression_at s l.body)).outcome) all)
      (h.binds.bound ∙ ap (λ bs. meaning bounding (bs ++ h.bnames) (expression_at s l.body)) ball) t
