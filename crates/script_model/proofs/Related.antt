-- Two meanings that are related at each operator are related at every expression.
use Rattle.std.proofs.Common.{◌≡◌, ℕ, List, [], ◌∷◌, ◌++◌, Option, Some, None, Bool, true, false, cond, bytes_eq, refl}
use Rattle.script_model.specs.Sexp.{Place, Leaf, numeral, decimal, symbol, reserved, Sexp, leaf, group, Sexps, none, more, bang, let_word}
use Rattle.script_model.specs.Reading.{Reason, malformed, unknown, reserved_reason, bound_names, let_meaning, Operator, operators, found, literal_value, Meanings, Named, value, function, Names, meaning, group_meaning, meanings, binding_meanings, values_bound, named_value, leaf_meaning, name_meaning, application, value_named, call_named, bare_named, Label}
use Rattle.script_model.specs.Script.{Command, declare, define, claim, minimize, check, ineffective, goal_claim, Parameter, bound_to, defined, claims, goals}

module _ {V W : Type 0} (R : V → W → Type 0) where
  abbrev pub Each : List V → List W → Type 0
  Each [] [] = Unit {0}
  Each (v ∷ vs) (w ∷ ws) = R v w × Each vs ws
  Each _ _ = ⊥

  abbrev pub Alike : Named V → Named W → Type 0
  Alike (value v) (value w) = R v w
  Alike (function f) (function g) = (vs : List V) (ws : List W) → Each vs ws → R (f vs) (g ws)
  Alike _ _ = ⊥

  abbrev pub AlikeNames : Names V → Names W → Type 0
  AlikeNames [] [] = Unit {0}
  AlikeNames (n ∷ ns) (m ∷ ms) = (n.0 ≡ m.0) × Alike n.1 m.1 × AlikeNames ns ms
  AlikeNames _ _ = ⊥

  pub record Respects (M : Meanings V) (N : Meanings W) : Type 0 where
    pub literal : (at : Place) (digits more_digits : List ℕ) → R (M.literal at (literal_value digits more_digits)) (N.literal at (literal_value digits more_digits))
    pub named : (at : Place) (v : V) (w : W) → R v w → R (M.named at v) (N.named at w)
    pub annotated : (at : Place) (v : V) (w : W) → R v w → R (M.annotated at v) (N.annotated at w)
    pub apply : (at : Place) (op : Operator) (vs : List V) (ws : List W) → Each vs ws → R (M.apply at op vs) (N.apply at op ws)
    pub bind : (at : Place) (names : List Label) (vs : List V) (ws : List W) (v : V) (w : W) → Each vs ws → R v w → R (M.bind at names vs v) (N.bind at names ws w)
    pub call : (at : Place) (vs : List V) (ws : List W) (v : V) (w : W) → Each vs ws → R v w → R (M.call at vs v) (N.call at ws w)
    pub nothing : (at : Place) (why : Reason) → R (M.nothing at why) (N.nothing at why)

  abbrev AlikeOptions : Option (Named V) → Option (Named W) → Type 0
  AlikeOptions None None = Unit {0}
  AlikeOptions (Some n) (Some m) = Alike n m
  AlikeOptions _ _ = ⊥

  found-step : (name : List ℕ) (b : Bool) (n : Named V) (m : Named W) (x : Option (Named V)) (y : Option (Named W)) →
      Alike n m → AlikeOptions x y → AlikeOptions (cond b (Some n) x) (cond b (Some m) y)
  found-step name true n m x y h k = h
  found-step name false n m x y h k = k

  found_alike : (name : List ℕ) (ns : Names V) (ms : Names W) → AlikeNames ns ms → AlikeOptions (found name ns) (found name ms)
  found_alike name [] [] h = tt
  found_alike name (n ∷ ns) (m ∷ ms) h =
      rw (← h.0) (found-step name (bytes_eq name n.0) n.1 m.1 (found name ns) (found name ms) h.1 (found_alike name ns ms h.2))
  found_alike name [] (m ∷ ms) h = elim h [ ]
  found_alike name (n ∷ ns) [] h = elim h [ ]

  pub append_alike : (ns ns' : Names V) (ms ms' : Names W) → AlikeNames ns ms → AlikeNames ns' ms' → AlikeNames (ns ++ ns') (ms ++ ms')
  append_alike [] ns' [] ms' h k = k
  append_alike (n ∷ ns) ns' (m ∷ ms) ms' h k = (h.0, h.1, append_alike ns ns' ms ms' h.2 k)
  append_alike [] ns' (m ∷ ms) ms' h k = elim h [ ]
  append_alike (n ∷ ns) ns' [] ms' h k = elim h [ ]

  append_each : (vs vs' : List V) (ws ws' : List W) → Each vs ws → Each vs' ws' → Each (vs ++ vs') (ws ++ ws')
  append_each [] vs' [] ws' h k = k
  append_each (v ∷ vs) vs' (w ∷ ws) ws' h k = (h.0, append_each vs vs' ws ws' h.1 k)
  append_each [] vs' (w ∷ ws) ws' h k = elim h [ ]
  append_each (v ∷ vs) vs' [] ws' h k = elim h [ ]

  named_each : (n : List ℕ × Named V) (m : List ℕ × Named W) → Alike n.1 m.1 → Each (named_value n) (named_value m)
  named_each (x, value v) (y, value w) h = (h, tt)
  named_each (x, function f) (y, function g) h = tt
  named_each (x, value v) (y, function g) h = elim h [ ]
  named_each (x, function f) (y, value w) h = elim h [ ]

  bound_each : (ns : Names V) (ms : Names W) → AlikeNames ns ms → Each (values_bound ns) (values_bound ms)
  bound_each [] [] h = tt
  bound_each (n ∷ ns) (m ∷ ms) h = append_each (named_value n) (values_bound ns) (named_value m) (values_bound ms) (named_each n m h.1) (bound_each ns ms h.2)
  bound_each [] (m ∷ ms) h = elim h [ ]
  bound_each (n ∷ ns) [] h = elim h [ ]

  module _ (M : Meanings V) (N : Meanings W) (S : Respects M N) where
    value_alike : (at : Place) (name : List ℕ) (x : Option (Named V)) (y : Option (Named W)) → AlikeOptions x y → R (value_named M at name x) (value_named N at name y)
    value_alike at name None None h = S.nothing at (unknown name)
    value_alike at name (Some (value v)) (Some (value w)) h = S.named at v w h
    value_alike at name (Some (function f)) (Some (function g)) h = S.call at [] [] (f []) (g []) tt (h [] [] tt)
    value_alike at name (Some (value v)) (Some (function g)) h = elim h [ ]
    value_alike at name (Some (function f)) (Some (value w)) h = elim h [ ]
    value_alike at name None (Some m) h = elim h [ ]
    value_alike at name (Some n) None h = elim h [ ]

    call_alike : (at : Place) (name : List ℕ) (x : Option (Named V)) (y : Option (Named W)) (vs : List V) (ws : List W) → AlikeOptions x y → Each vs ws →
        R (call_named M at name x vs) (call_named N at name y ws)
    call_alike at name None None vs ws h k = S.nothing at (unknown name)
    call_alike at name (Some (value v)) (Some (value w)) vs ws h k = S.call at vs ws (M.nothing at malformed) (N.nothing at malformed) k (S.nothing at malformed)
    call_alike at name (Some (function f)) (Some (function g)) vs ws h k = S.call at vs ws (f vs) (g ws) k (h vs ws k)
    call_alike at name (Some (value v)) (Some (function g)) vs ws h k = elim h [ ]
    call_alike at name (Some (function f)) (Some (value w)) vs ws h k = elim h [ ]
    call_alike at name None (Some m) vs ws h k = elim h [ ]
    call_alike at name (Some n) None vs ws h k = elim h [ ]

    bare_alike : (at : Place) (name : List ℕ) (x : Option (Named V)) (y : Option (Named W)) → AlikeOptions x y → R (bare_named M at name x) (bare_named N at name y)
    bare_alike at name None None h = S.nothing at (unknown name)
    bare_alike at name (Some n) (Some m) h = S.nothing at malformed
    bare_alike at name None (Some m) h = elim h [ ]
    bare_alike at name (Some n) None h = elim h [ ]

    let_alike : (at : Place) (o : Option (List Label)) (vs : List V) (ws : List W) (v : V) (w : W) → Each vs ws → R v w → R (let_meaning M at o vs v) (let_meaning N at o ws w)
    let_alike at None vs ws v w h k = S.nothing at malformed
    let_alike at (Some []) vs ws v w h k = S.nothing at malformed
    let_alike at (Some (name ∷ names)) vs ws v w h k = S.bind at (name ∷ names) vs ws v w h k

    name_alike : (ns : Names V) (ms : Names W) (at : Place) (name : List ℕ) (op : Option Operator) → AlikeNames ns ms →
        R (name_meaning M ns at name op) (name_meaning N ms at name op)
    name_alike ns ms at name (Some op) h = S.apply at op [] [] tt
    name_alike ns ms at name None h = value_alike at name (found name ns) (found name ms) (found_alike name ns ms h)

    application_alike : (ns : Names V) (ms : Names W) (at : Place) (name : List ℕ) (op : Option Operator) (vs : List V) (ws : List W) → AlikeNames ns ms → Each vs ws →
        R (application M ns at name op vs) (application N ms at name op ws)
    application_alike ns ms at name (Some op) [] [] h k = S.nothing at malformed
    application_alike ns ms at name (Some op) (v ∷ vs) (w ∷ ws) h k = S.apply at op (v ∷ vs) (w ∷ ws) k
    application_alike ns ms at name None [] [] h k = bare_alike at name (found name ns) (found name ms) (found_alike name ns ms h)
    application_alike ns ms at name None (v ∷ vs) (w ∷ ws) h k = call_alike at name (found name ns) (found name ms) (v ∷ vs) (w ∷ ws) (found_alike name ns ms h) k
    application_alike ns ms at name op [] (w ∷ ws) h k = elim k [ ]
    application_alike ns ms at name op (v ∷ vs) [] h k = elim k [ ]

    leaf_alike : (ns : Names V) (ms : Names W) (at : Place) (l : Leaf) → AlikeNames ns ms → R (leaf_meaning M ns at l) (leaf_meaning N ms at l)
    leaf_alike ns ms at (numeral digits) h = S.literal at digits []
    leaf_alike ns ms at (decimal digits more_digits) h = S.literal at digits more_digits
    leaf_alike ns ms at (symbol name) h = name_alike ns ms at name (found name operators) h
    leaf_alike ns ms at _ h = S.nothing at malformed

    mutual
      pub meaning_alike : (ns : Names V) (ms : Names W) (e : Sexp) → AlikeNames ns ms → R (meaning M ns e) (meaning N ms e)
      meaning_alike ns ms (leaf at l) h = leaf_alike ns ms at l h
      meaning_alike ns ms (group at items) h = group_alike ns ms at items h

      group_alike : (ns : Names V) (ms : Names W) (at : Place) (items : Sexps) → AlikeNames ns ms → R (group_meaning M ns at items) (group_meaning N ms at items)
      group_alike ns ms at (more (leaf _ (reserved let_word)) (more (group _ bindings) (more body none))) h =
          let_alike at (bound_names bindings) (values_bound (binding_meanings M ns bindings)) (values_bound (binding_meanings N ms bindings))
          (meaning M (binding_meanings M ns bindings ++ ns) body) (meaning N (binding_meanings N ms bindings ++ ms) body)
          (bound_each (binding_meanings M ns bindings) (binding_meanings N ms bindings) (bindings_alike ns ms bindings h))
          (meaning_alike (binding_meanings M ns bindings ++ ns) (binding_meanings N ms bindings ++ ms) body
          (append_alike (binding_meanings M ns bindings) ns (binding_meanings N ms bindings) ms (bindings_alike ns ms bindings h) h))
      group_alike ns ms at (more (leaf _ (reserved bang)) (more e attributes)) h = S.annotated at (meaning M ns e) (meaning N ms e) (meaning_alike ns ms e h)
      group_alike ns ms at (more (leaf _ (reserved word)) args) h = S.nothing at (reserved_reason word)
      group_alike ns ms at (more (leaf _ (symbol name)) args) h =
          application_alike ns ms at name (found name operators) (meanings M ns args) (meanings N ms args) h (meanings_alike ns ms args h)
      group_alike ns ms at _ h = S.nothing at malformed

      meanings_alike : (ns : Names V) (ms : Names W) (es : Sexps) → AlikeNames ns ms → Each (meanings M ns es) (meanings N ms es)
      meanings_alike ns ms none h = tt
      meanings_alike ns ms (more e rest) h = (meaning_alike ns ms e h, meanings_alike ns ms rest h)

      bindings_alike : (ns : Names V) (ms : Names W) (es : Sexps) → AlikeNames ns ms → AlikeNames (binding_meanings M ns es) (binding_meanings N ms es)
      bindings_alike ns ms (more (group _ (more (leaf _ (symbol name)) (more e none))) rest) h = (refl, meaning_alike ns ms e h, bindings_alike ns ms rest h)
      bindings_alike ns ms _ h = tt

    bound_alike : (params : List Parameter) (vs : List V) (ws : List W) → Each vs ws → AlikeNames (bound_to params vs) (bound_to params ws)
    bound_alike [] vs ws h = tt
    bound_alike (p ∷ params) [] [] h = tt
    bound_alike (p ∷ params) (v ∷ vs) (w ∷ ws) h = (refl, h.0, bound_alike params vs ws h.1)
    bound_alike (p ∷ params) [] (w ∷ ws) h = elim h [ ]
    bound_alike (p ∷ params) (v ∷ vs) [] h = elim h [ ]

    -- the assertions of a script, where its constants are alike
    pub claims_alike : (ns : Names V) (ms : Names W) → AlikeNames ns ms → (vs : List V) (ws : List W) → Each vs ws → (script : List Command) →
        Each (claims M ns vs script) (claims N ms ws script)
    claims_alike ns ms h vs ws k [] = tt
    claims_alike ns ms h [] [] k (declare at x sort ∷ rest) = claims_alike ((x, value (M.nothing at (unknown x))) ∷ ns) ((x, value (N.nothing at (unknown x))) ∷ ms) (refl, S.nothing at (unknown x), h) [] [] tt rest
    claims_alike ns ms h (v ∷ vs) (w ∷ ws) k (declare at x sort ∷ rest) = claims_alike ((x, value v) ∷ ns) ((x, value w) ∷ ms) (refl, k.0, h) vs ws k.1 rest
    claims_alike ns ms h vs ws k (define at f params sort body ∷ rest) =
        claims_alike ((f, defined M ns params body) ∷ ns) ((f, defined N ms params body) ∷ ms)
        (refl, (λ xs ys l. meaning_alike (bound_to params xs ++ ns) (bound_to params ys ++ ms) body (append_alike (bound_to params xs) ns (bound_to params ys) ms (bound_alike params xs ys l) h)), h)
        vs ws k rest
    claims_alike ns ms h vs ws k (claim at e ∷ rest) = (meaning_alike ns ms e h, claims_alike ns ms h vs ws k rest)
    claims_alike ns ms h vs ws k (minimize at t ∷ rest) = (meaning_alike ns ms (goal_claim at t) h, claims_alike ns ms h vs ws k rest)
    claims_alike ns ms h vs ws k (check at ∷ rest) = claims_alike ns ms h vs ws k rest
    claims_alike ns ms h vs ws k (ineffective at ∷ rest) = claims_alike ns ms h vs ws k rest
    claims_alike ns ms h [] (w ∷ ws) k (declare at x sort ∷ rest) = elim k [ ]
    claims_alike ns ms h (v ∷ vs) [] k (declare at x sort ∷ rest) = elim k [ ]

    -- the goals of a script, in the same way
    pub goals_alike : (ns : Names V) (ms : Names W) → AlikeNames ns ms → (vs : List V) (ws : List W) → Each vs ws → (script : List Command) →
        Each (goals M ns vs script) (goals N ms ws script)
    goals_alike ns ms h vs ws k [] = tt
    goals_alike ns ms h [] [] k (declare at x sort ∷ rest) = goals_alike ((x, value (M.nothing at (unknown x))) ∷ ns) ((x, value (N.nothing at (unknown x))) ∷ ms) (refl, S.nothing at (unknown x), h) [] [] tt rest
    goals_alike ns ms h (v ∷ vs) (w ∷ ws) k (declare at x sort ∷ rest) = goals_alike ((x, value v) ∷ ns) ((x, value w) ∷ ms) (refl, k.0, h) vs ws k.1 rest
    goals_alike ns ms h vs ws k (define at f params sort body ∷ rest) =
        goals_alike ((f, defined M ns params body) ∷ ns) ((f, defined N ms params body) ∷ ms)
        (refl, (λ xs ys l. meaning_alike (bound_to params xs ++ ns) (bound_to params ys ++ ms) body (append_alike (bound_to params xs) ns (bound_to params ys) ms (bound_alike params xs ys l) h)), h)
        vs ws k rest
    goals_alike ns ms h vs ws k (claim at e ∷ rest) = goals_alike ns ms h vs ws k rest
    goals_alike ns ms h vs ws k (minimize at t ∷ rest) = (meaning_alike ns ms t h, goals_alike ns ms h vs ws k rest)
    goals_alike ns ms h vs ws k (check at ∷ rest) = goals_alike ns ms h vs ws k rest
    goals_alike ns ms h vs ws k (ineffective at ∷ rest) = goals_alike ns ms h vs ws k rest
    goals_alike ns ms h [] (w ∷ ws) k (declare at x sort ∷ rest) = elim k [ ]
    goals_alike ns ms h (v ∷ vs) [] k (declare at x sort ∷ rest) = elim k [ ]

-- the meaning that says nothing: an invariant of one meaning is a relation with it
pub data Nothing : Type 0 where
  said : Nothing

abbrev pub silent : Meanings Nothing
silent = record { literal = λ at q. said; named = λ at v. said; annotated = λ at v. said; apply = λ at op vs. said; bind = λ at names vs v. said; call = λ at vs v. said; nothing = λ at why. said }
