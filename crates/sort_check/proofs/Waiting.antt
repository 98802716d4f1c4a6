-- Arguments and bindings, one after the other.
use Rattle.std.proofs.Common.{◌≡◌, ℕ, List, [], ◌∷◌, ◌++◌, map, true, false, Some, None, ap, sym, subst, ◌∙◌, append-nil}
use Rattle.std.specs.Prelude.{Result, Ok, Err}
use Rattle.std.specs.Borrow.{Bor}
use Rattle.script_model.specs.Sexp.{Place}
use Rattle.script_model.specs.Reading.{Names, Label, value, meaning, binding_meanings}
use Rattle.script_fault.specs.declared.name.Name as names
use Rattle.smt_sexp.specs.Arena.{expression_at, rest_of}
use Rattle.smt_sexp.specs.Views.{place_of}
use Rattle.smt_sexp.specs.declared.sexps.Sexps as arena
use Rattle.smt_script.specs.Forms.{as_any}
use Rattle.smt_script.specs.Views.{parameter_of, sort_of}
use Rattle.smt_script.specs.declared.command.Parameter.{Parameter}
use Rattle.smt_script.specs.declared.command.Sort as code_sort
use Rattle.sort_check.specs.Forms.{as_binding, bound_from}
use Rattle.sort_check.specs.Sorts.{Sorted, SortFault, of_sort, ill, redeclared, sorting, or_first, first_of_two, is_taken}
use Rattle.sort_check.specs.Views.{IsSortAnswer, around, head_sort, names_back, sorts_seen}
use Rattle.sort_check.specs.Walking.{call_sort, arguments_left, Calls, CallWaits, bindings_left, body_sort, names_bound, bound_before, Lets, LetWaits, Waits, Turns, returned}
use Rattle.sort_check.specs.declared.stop.Stop.{Stop}
use Rattle.sort_check.specs.declared.stop.Stop.TheVariants as stops
use Rattle.sort_check.specs.declared.frames.Call.{Call}
use Rattle.sort_check.specs.declared.frames.Let.{Let}
use Rattle.sort_check.specs.declared.frames.Frame.{Frame}
use Rattle.sort_check.specs.declared.frames.Frame.TheVariants as frame
use Rattle.sort_check.specs.declared.frames.Next.{Next}
use Rattle.sort_check.proofs.Bindings as bindings
use Rattle.sort_check.proofs.Calls.{meanings_are, any_meanings, seen_last}
use Rattle.sort_check.proofs.Lists.{first_ill-seen, first_ill-none}

-- ---- a sort or a fault goes back

module _ (s : arena.Sexps) (ns : Names Sorted) where
  pub turns_back : (t : Sorted) (r : Result code_sort.Sort Stop) → IsSortAnswer r t → Turns s ns t (returned r)
  turns_back t (Ok sort) h = h
  turns_back t (Err (stops.Fault at f)) h = h
  turns_back t (Err stops.Memory) h = tt

  pub turns_same : (t u : Sorted) (r : Result Next Stop) → t ≡ u → Turns s ns u r → Turns s ns t r
  turns_same t u r e h = subst (λ (x : Sorted). Turns s ns x r) (sym e) h

  -- ---- calls

  module _ (c : Call) (t : Sorted) where
    -- its next argument
    pub call_next : (after : ℕ) → Calls s ns c t → as_any (rest_of s c.next) ≡ Some (expression_at s c.next, rest_of s after) →
        CallWaits s ns (record c { next = after }) (meaning sorting (around c.locals.value ns) (expression_at s c.next)) t
    call_next after h is =
        h ∙ ap (λ ms. call_sort (place_of c.place) c.head (sorts_seen c.sorts.items ++ ms)) (meanings_are (around c.locals.value ns) (rest_of s c.next) ∙ ap (any_meanings (around c.locals.value ns)) is)

    -- behind its last argument
    pub call_last : Calls s ns c t → as_any (rest_of s c.next) ≡ None → t ≡ head_sort (place_of c.place) c.head (sorts_seen c.sorts.items)
    call_last h is =
        h ∙ ap (λ ms. call_sort (place_of c.place) c.head (sorts_seen c.sorts.items ++ ms)) (meanings_are (around c.locals.value ns) (rest_of s c.next) ∙ ap (any_meanings (around c.locals.value ns)) is) ∙
        ap (call_sort (place_of c.place) c.head) (append-nil (sorts_seen c.sorts.items)) ∙ ap (λ i. or_first i (head_sort (place_of c.place) c.head (sorts_seen c.sorts.items))) (first_ill-none c.sorts.items)

    -- an argument has this sort
    pub call_resumes : (sort : code_sort.Sort) (ss : List code_sort.Sort) → CallWaits s ns c (of_sort (sort_of sort)) t → ss ≡ c.sorts.items ++ (sort ∷ []) →
        t ≡ call_sort (place_of c.place) c.head (sorts_seen ss ++ arguments_left s ns c)
    call_resumes sort ss h is =
        h ∙ ap (call_sort (place_of c.place) c.head) (seen_last c.sorts.items sort (arguments_left s ns c)) ∙ ap (λ xs. call_sort (place_of c.place) c.head (sorts_seen xs ++ arguments_left s ns c)) (sym is)

  -- ---- `let`

  module _ (l : Let) (t : Sorted) where
    -- its next binding
    pub let_next : (x : Bor names.Name) (p : Place) (at after : ℕ) → Lets s ns l t → as_binding (rest_of s l.next) ≡ Some (record { at = p; name = x.now }, expression_at s at, rest_of s after) →
        is_taken (bound_before l) x.now ≡ false → LetWaits s ns (record l { next = after }) x.now (meaning sorting (around l.locals.value ns) (expression_at s at)) t
    let_next x p at after h first free =
        let items = rest_of s l.next in
        let rest = rest_of s after in
        let env = around l.locals.value ns in
        let label : Label = record { at = p; name = x.now } in
        let e = expression_at s at in
        let here = meaning sorting env e in (
          sym (bindings.some_first items rest label e first) ∙ h.0,
          h.1 ∙ bindings.bound_first items rest label e first env (bound_before l) _ h.0 ∙ bindings.free_first (bound_before l) label here _ free ∙
              ap (λ bs. first_of_two here (bound_from (x.now ∷ bound_before l) env rest (body_sort s ns l (names_bound l.bound ++ bs)))) (bindings.meanings_first items rest label e first env),
        )

    -- the name of its next binding is taken
    pub let_taken : (x : Bor names.Name) (p : Place) (at after : ℕ) → Lets s ns l t → as_binding (rest_of s l.next) ≡ Some (record { at = p; name = x.now }, expression_at s at, rest_of s after) →
        is_taken (bound_before l) x.now ≡ true → t ≡ ill p (redeclared x.now)
    let_taken x p at after h first taken =
        let label : Label = record { at = p; name = x.now } in
        h.1 ∙ bindings.bound_first (rest_of s l.next) (rest_of s after) label (expression_at s at) first (around l.locals.value ns) (bound_before l) _ h.0 ∙ bindings.taken_first (bound_before l) label _ _ taken

    -- behind its last binding
    pub let_last : (inner : List Parameter) → Lets s ns l t → as_binding (rest_of s l.next) ≡ None → inner ≡ l.bound ++ l.locals.value → t ≡ meaning sorting (around inner ns) (expression_at s l.body)
    let_last inner h is all =
        let env = around l.locals.value ns in
        h.1 ∙ ap (λ items. bound_from (bound_before l) env items (body_sort s ns l (names_bound l.bound ++ binding_meanings sorting env items))) (bindings.none_first (rest_of s l.next) is h.0) ∙
        ap (body_sort s ns l) (append-nil (names_bound l.bound)) ∙
        ap (λ e. meaning sorting e (expression_at s l.body)) (sym (ap (λ ps. around ps ns) all ∙ bindings.around_more l.bound l.locals.value ns))

    -- a name is bound to this sort
    pub let_resumes : (p : Parameter) (bound : List Parameter) → LetWaits s ns l p.name.now (of_sort (sort_of p.sort)) t → bound ≡ l.bound ++ (p ∷ []) →
        t ≡ bound_from (names_back (map parameter_of bound) []) (around l.locals.value ns) (rest_of s l.next) (body_sort s ns l (names_bound bound ++ bindings_left s ns l))
    let_resumes p bound h is =
        let env = around l.locals.value ns in
        let rest = rest_of s l.next in
        h.1 ∙ ap (λ bs. bound_from (p.name.now ∷ bound_before l) env rest (body_sort s ns l bs)) (sym (bindings.names_last l.bound p (bindings_left s ns l))) ∙
        ap (λ before. bound_from before env rest (body_sort s ns l (names_bound (l.bound ++ (p ∷ [])) ++ bindings_left s ns l))) (sym (bindings.back_after l.bound p)) ∙
        ap (λ ps. bound_from (names_back (map parameter_of ps) []) env rest (body_sort s ns l (names_bound ps ++ bindings_left s ns l))) (sym is)

  -- ---- what waits

  -- a fault of a part is one of what waits for it
  pub waits_fail : (f : Frame) (u t : Sorted) (at : Place) (x : SortFault) → Waits s ns f u t → u ≡ ill at x → t ≡ ill at x
  waits_fail (frame.Call c) u t at x h e =
      h ∙ ap (λ y. call_sort (place_of c.place) c.head (sorts_seen c.sorts.items ++ (y ∷ arguments_left s ns c))) e ∙
      ap (λ i. or_first i (head_sort (place_of c.place) c.head (sorts_seen c.sorts.items ++ (ill at x ∷ arguments_left s ns c)))) (first_ill-seen c.sorts.items (ill at x ∷ arguments_left s ns c))
  waits_fail (frame.Let l p name) u t at x h e =
      h.1 ∙ ap (λ y. first_of_two y (bound_from (name.now ∷ bound_before l) (around l.locals.value ns) (rest_of s l.next) (body_sort s ns l (names_bound l.bound ++ ((name.now, value y) ∷ bindings_left s ns l))))) e
