-- How many expressions are reached: by names, by forms, and what is ahead.
use Rattle.std.proofs.Common.{◌≡◌, ℕ, suc, ◌+◌, ◌<◌, ◌≤◌, arith, List, [], ◌∷◌, ◌++◌, map, length, length-append, Bool, true, false, cond, Option, Some, None, refl, ap, sym, ◌∙◌, subst, append_assoc, append-nil, true≢false}
use Rattle.std.specs.Prelude.{Result, Ok, Err}
use Rattle.std.specs.Borrow.{Bor}
use Rattle.std.specs.declared.alloc.AllocError.{AllocError}
use Rattle.std.specs.Str.{bytes_eq}
use Rattle.script_model.specs.Sexp.{Place, Leaf, numeral, decimal, symbol, reserved, string, keyword, Sexp, leaf, group, Sexps, none, more, bang, let_word, underscore, as_word, exists_word, forall_word, match_word, par_word}
use Rattle.script_model.specs.Reading.{Label, Operator, found, operators, bound_names}
use Rattle.script_forms.specs.Walk.{most_size}
use Rattle.script_roots.specs.Tree.{sqrt_name}
use Rattle.script_fault.specs.declared.name.Name as names
use Rattle.smt_sexp.specs.Arena.{expression_at, first_of, rest_of}
use Rattle.smt_sexp.specs.Views.{reserved_of}
use Rattle.smt_sexp.specs.declared.sexps.Sexps as arena
use Rattle.smt_sexp.specs.declared.leaf.Reserved.{Reserved}
use Rattle.smt_sexp.specs.declared.leaf.Reserved.TheVariants as words
use Rattle.smt_script.specs.Forms.{as_any, is_end}
use Rattle.smt_script.specs.Views.{parameter_of}
use Rattle.smt_script.specs.declared.command.Parameter.{Parameter}
use Rattle.sort_check.specs.Forms.{as_binding}
use Rattle.root_rewriting.specs.Ahead.{Counts, GoesOn, Opens, ahead, reached_here, known_body, top_bodies, local_bodies, scope_bodies, head_body, arguments_ahead, call_ahead, let_ahead, frame_ahead}
use Rattle.root_rewriting.specs.LetParts.{begins, as_let, let_parts_reached}
use Rattle.root_rewriting.specs.Locals.{local_node}
use Rattle.root_rewriting.specs.TreeNames.{bound_locals, IsHead, top_known}
use Rattle.script_roots.specs.Reached.{Bodies, no_body, total, theory_bodies, named_reached, symbol_reached, leaf_reached, call_reached, application_reached, let_reached, binding_bodies, reached_in, group_reached, all_reached, bindings_reached, parameter_bodies}
use Rattle.root_rewriting.specs.Walking.{IsReached, IsScope, returned}
use Rattle.root_rewriting.specs.declared.unfold.locals.Local.{Local}
use Rattle.root_rewriting.specs.declared.unfold.names.Head.{Head}
use Rattle.root_rewriting.specs.declared.unfold.names.Head.TheVariants as head
use Rattle.root_rewriting.specs.declared.unfold.top.Known.{Known}
use Rattle.root_rewriting.specs.declared.unfold.top.Known.TheVariants as known
use Rattle.root_rewriting.specs.declared.unfold.top.Top.{Top}
use Rattle.root_rewriting.specs.declared.unfold.stop.Stop.{Stop}
use Rattle.root_rewriting.specs.declared.unfold.stop.Stop.TheVariants as stop
use Rattle.root_rewriting.specs.declared.unfold.frames.Source.{Source}
use Rattle.root_rewriting.specs.declared.unfold.frames.Scope.{Scope}
use Rattle.root_rewriting.specs.declared.unfold.frames.Call.{Call}
use Rattle.root_rewriting.specs.declared.unfold.frames.Let.{Let}
use Rattle.root_rewriting.specs.declared.unfold.frames.Frame.{Frame}
use Rattle.root_rewriting.specs.declared.unfold.frames.Frame.TheVariants as frame
use Rattle.root_rewriting.specs.declared.unfold.frames.Next.{Next}
use Rattle.root_rewriting.specs.declared.unfold.frames.Next.TheVariants as next
use Rattle.root_rewriting.proofs.Lookups.{found_top, none_top}

-- ---- numbers

none-more : (n : ℕ) → n ≡ n + 0
none-more n = omega arith

more-none : (n : ℕ) → n ≡ 0 + n
more-none n = omega arith

numbers-call : (a n t h g r : ℕ) → a ≡ (n + t) + h → h ≡ g → r ≡ n → a ≡ r + (t + g)
numbers-call a n t h g r e f i = omega arith

numbers-later : (d n : ℕ) → d + suc n ≡ suc d + n
numbers-later d n = omega arith

numbers-let : (b r n t q m : ℕ) → b ≡ n + t → r ≡ q → m ≡ n → b + r ≡ m + (t + q)
numbers-let b r n t q m e f i = omega arith

numbers-end : (g a b f : ℕ) → a ≡ b + f → g + a ≡ (g + b) + f
numbers-end g a b f e = omega arith

numbers-begin : (a n m : ℕ) → n ≡ m → a + n ≡ a + (m + 0)
numbers-begin a n m e = omega arith

numbers-wait : (a b r f t e : ℕ) → a ≡ b + ((r + f) + t) → e ≡ t + f → a ≡ b + (r + e)
numbers-wait a b r f t e g h = omega arith

numbers-enter : (a b r t x c : ℕ) → a ≡ b + (r + t) → r ≡ suc x → c ≡ suc b → a ≡ c + (x + t)
numbers-enter a b r t x c e f g = omega arith

numbers-resume : (a b e t f x : ℕ) → a ≡ b + (0 + e) → e ≡ t + f → f ≡ x → a ≡ b + (x + t)
numbers-resume a b e t f x g h i = omega arith

numbers-beyond : (most a b r t : ℕ) → a ≡ b + (r + t) → 1 ≤ r → most ≤ b → most < a
numbers-beyond most a b r t e f g = omega arith

numbers-last : (a b : ℕ) → a ≡ b + (0 + 0) → b ≡ a
numbers-last a b e = omega arith

numbers-below : (most a b : ℕ) → a < most → b ≡ suc a → b ≤ most
numbers-below most a b h e = omega arith

pub one_longer : (xs ys : List ℕ) (k : ℕ) → ys ≡ xs ++ (k ∷ []) → suc (length xs) ≡ length ys
one_longer xs ys k e = let n = ap (λ zs. length zs) e in let m = length-append xs (k ∷ []) in omega (arith, n, m)

-- ---- locals

module _ (x : List ℕ) (bs : Bodies) where
  local-found : (ls : List Local) (k : ℕ) → local_node x ls ≡ Some k → found x (local_bodies ls ++ bs) ≡ Some no_body
  local-found [] k h = cc
  local-found (l ∷ ls) k h = go (bytes_eq x l.name.now) h (λ e. local-found ls k e)
    where
      go : (b : Bool) → cond b (Some l.node) (local_node x ls) ≡ Some k → (local_node x ls ≡ Some k → found x (local_bodies ls ++ bs) ≡ Some no_body) →
          cond b (Some no_body) (found x (local_bodies ls ++ bs)) ≡ Some no_body
      go true e f = refl
      go false e f = f e

  local-none : (ls : List Local) → local_node x ls ≡ None → found x (local_bodies ls ++ bs) ≡ found x bs
  local-none [] h = refl
  local-none (l ∷ ls) h = go (bytes_eq x l.name.now) h (λ e. local-none ls e)
    where
      go : (b : Bool) → cond b (Some l.node) (local_node x ls) ≡ None → (local_node x ls ≡ None → found x (local_bodies ls ++ bs) ≡ found x bs) →
          cond b (Some no_body) (found x (local_bodies ls ++ bs)) ≡ found x bs
      go true e f = cc
      go false e f = f e

pub locals_end : (ls ks : List Local) → local_bodies (ls ++ ks) ≡ local_bodies ls ++ local_bodies ks
locals_end [] ks = refl
locals_end (l ∷ ls) ks = ap (λ bs. (l.name.now, no_body) ∷ bs) (locals_end ls ks)

-- parameters that are bound
pub bound_bodies : (ps : List Parameter) (ks : List ℕ) → local_bodies (bound_locals ps ks) ≡ parameter_bodies (map parameter_of ps) (length ks)
bound_bodies [] ks = refl
bound_bodies (p ∷ ps) [] = refl
bound_bodies (p ∷ ps) (k ∷ ks) = ap (λ bs. (p.name.now, no_body) ∷ bs) (bound_bodies ps ks)

bound-none : (ps : List _) → parameter_bodies ps 0 ≡ []
bound-none [] = refl
bound-none (p ∷ ps) = refl

-- ---- names

theory-none : (x : List ℕ) → bytes_eq x sqrt_name ≡ false → found x theory_bodies ≡ None
theory-none x h = ap (λ b. cond b (Some no_body) None) h

theory-sqrt : (x : List ℕ) → bytes_eq x sqrt_name ≡ true → found x theory_bodies ≡ Some no_body
theory-sqrt x h = ap (λ b. cond b (Some no_body) None) h

module _ (s : arena.Sexps) (top : List Top) (scope : Scope) (x : List ℕ) where
  abbrev bodies : Bodies
  bodies = scope_bodies s top scope

  abbrev ls : List Local
  ls = scope.locals.value

  not-local : local_node x ls ≡ None → found x bodies ≡ found x (top_bodies s top scope.visible)
  not-local h = local-none x (top_bodies s top scope.visible) ls h

  top-is : (i : ℕ) (k : Known) → local_node x ls ≡ None → top_known x top scope.visible ≡ Some (i, k) → found x bodies ≡ Some (known_body s (top_bodies s top i) k)
  top-is i k h e = not-local h ∙ found_top (known_body s) theory_bodies top x scope.visible i k e

  none-known : IsHead x top scope.visible ls None → found x bodies ≡ None
  none-known h = not-local h.1 ∙ none_top (known_body s) theory_bodies top x scope.visible h.2 ∙ theory-none x h.3

  sqrt-known : IsHead x top scope.visible ls (Some head.Sqrt) → found x bodies ≡ Some no_body
  sqrt-known h = not-local h.1 ∙ none_top (known_body s) theory_bodies top x scope.visible h.2 ∙ theory-sqrt x h.3

  local-known : (k : ℕ) → local_node x ls ≡ Some k → found x bodies ≡ Some no_body
  local-known k h = local-found x (top_bodies s top scope.visible) ls k h

  -- alone
  named-alone : (f : Option (ℕ → ℕ)) → found x operators ≡ None → found x bodies ≡ f → symbol_reached bodies x (found x operators) ≡ named_reached f
  named-alone f e g = ap (symbol_reached bodies x) e ∙ ap named_reached g

  pub alone_unknown : IsHead x top scope.visible ls None → symbol_reached bodies x (found x operators) ≡ 1
  alone_unknown h = named-alone None h.0 (none-known h)

  pub alone_reached : (h : Head) → IsHead x top scope.visible ls (Some h) → symbol_reached bodies x (found x operators) ≡ suc (head_body s top h 0)
  alone_reached (head.Operator o) h = ap (symbol_reached bodies x) h
  alone_reached (head.Local k) h = named-alone (Some no_body) h.0 (local-known k h.1)
  alone_reached (head.Constant place name) h = named-alone _ h.0 (top-is h.2.0 (known.Constant place name) h.1 h.2.1)
  alone_reached (head.Function i params body) h = named-alone _ h.0 (top-is i (known.Function params body) h.1 h.2)
  alone_reached head.Sqrt h = named-alone (Some no_body) h.0 (sqrt-known h)

  -- of a definition: its body, where no parameter is bound
  pub alone_function : (i : ℕ) (params : Bor (List Parameter)) (body : ℕ) → IsHead x top scope.visible ls (Some (head.Function i params body)) → (inner : Scope) (none : List Local) → none ≡ [] → IsScope inner i none →
      symbol_reached bodies x (found x operators) ≡ suc (reached_in (scope_bodies s top inner) (expression_at s body))
  alone_function i params body h inner xs empty is =
      let names = ap (λ n. local_bodies inner.locals.value ++ top_bodies s top n) is.0 ∙ ap (λ ys. local_bodies ys ++ top_bodies s top i) (is.1 ∙ empty) in
      alone_reached (head.Function i params body) h ∙ ap (λ bs. suc (reached_in (bs ++ top_bodies s top i) (expression_at s body))) (bound-none (map parameter_of params.now)) ∙
      ap (λ bs. suc (reached_in bs (expression_at s body))) (sym names)

  -- at arguments
  named-call : (f : Option (ℕ → ℕ)) (n : ℕ) (ns : List ℕ) → found x operators ≡ None → found x bodies ≡ f → application_reached bodies x (found x operators) (n ∷ ns) ≡ call_reached f (n ∷ ns)
  named-call f n ns e g = ap (λ o. application_reached bodies x o (n ∷ ns)) e ∙ ap (λ o. call_reached o (n ∷ ns)) g

  pub applied_unknown : (ns : List ℕ) → IsHead x top scope.visible ls None → application_reached bodies x (found x operators) ns ≡ 1
  applied_unknown [] h = ap (λ o. application_reached bodies x o []) h.0
  applied_unknown (n ∷ ns) h = named-call None n ns h.0 (none-known h)

  applied-reached : (h : Head) (n : ℕ) (ns : List ℕ) → IsHead x top scope.visible ls (Some h) →
      application_reached bodies x (found x operators) (n ∷ ns) ≡ suc (total (n ∷ ns) + head_body s top h (length (n ∷ ns)))
  applied-reached (head.Operator o) n ns h = ap (λ p. application_reached bodies x p (n ∷ ns)) h ∙ ap suc (none-more (total (n ∷ ns)))
  applied-reached (head.Local k) n ns h = named-call (Some no_body) n ns h.0 (local-known k h.1)
  applied-reached (head.Constant place name) n ns h = named-call _ n ns h.0 (top-is h.2.0 (known.Constant place name) h.1 h.2.1)
  applied-reached (head.Function i params body) n ns h = named-call _ n ns h.0 (top-is i (known.Function params body) h.1 h.2)
  applied-reached head.Sqrt n ns h = named-call (Some no_body) n ns h.0 (sqrt-known h)

  pub applied_begins : (h : Head) (items : Sexps) → is_end items ≡ false → IsHead x top scope.visible ls (Some h) →
      application_reached bodies x (found x operators) (all_reached bodies items) ≡ suc (total (all_reached bodies items) + head_body s top h (0 + length (all_reached bodies items)))
  applied_begins h none e is = absurd (true≢false e)
  applied_begins h (more a rest) e is =
      let ns = all_reached bodies (more a rest) in
      applied-reached h (reached_in bodies a) (all_reached bodies rest) is ∙ ap (λ k. suc (total ns + head_body s top h k)) (more-none (length ns))

pub applied_bare : (bs : Bodies) (x : List ℕ) (o : Option Operator) (items : Sexps) → is_end items ≡ true → application_reached bs x o (all_reached bs items) ≡ 1
applied_bare bs x o none h = refl
applied_bare bs x o (more e rest) h = absurd (true≢false (sym h))

-- ---- forms

module _ (bs : Bodies) where
  abbrev any-reached : Option (Sexp × Sexps) → List ℕ
  any-reached None = []
  any-reached (Some (e, rest)) = reached_in bs e ∷ all_reached bs rest

  pub reached_are : (items : Sexps) → all_reached bs items ≡ any-reached (as_any items)
  reached_are none = refl
  reached_are (more e rest) = refl

  abbrev rest-reached : Option (Label × Sexp × Sexps) → ℕ
  rest-reached None = 0
  rest-reached (Some (x, e, rest)) = reached_in bs e + bindings_reached bs rest

  pub bindings_are : (items : Sexps) → bindings_reached bs items ≡ rest-reached (as_binding items)
  bindings_are none = refl
  bindings_are (more (leaf p l) rest) = refl
  bindings_are (more (group p none) rest) = refl
  bindings_are (more (group p (more (group q inside) others)) rest) = refl
  bindings_are (more (group p (more (leaf q (numeral d)) others)) rest) = refl
  bindings_are (more (group p (more (leaf q (decimal d f)) others)) rest) = refl
  bindings_are (more (group p (more (leaf q (reserved w)) others)) rest) = refl
  bindings_are (more (group p (more (leaf q (string t)) others)) rest) = refl
  bindings_are (more (group p (more (leaf q (keyword k)) others)) rest) = refl
  bindings_are (more (group p (more (leaf q (symbol x)) none)) rest) = refl
  bindings_are (more (group p (more (leaf q (symbol x)) (more e none))) rest) = refl
  bindings_are (more (group p (more (leaf q (symbol x)) (more e (more f others)))) rest) = refl

  let-begins : (o : Option (List Label)) (n : ℕ) → let_reached o n ≡ cond (begins o) (suc n) 1
  let-begins (Some (x ∷ xs)) n = refl
  let-begins (Some []) n = refl
  let-begins None n = refl

  let-if : (b : Bool) (bindings : Sexps) (body : Sexp) →
      cond b (suc (bindings_reached bs bindings + reached_in (binding_bodies bindings ++ bs) body)) 1 ≡ let_parts_reached bs (cond b (Some (bindings, body)) None)
  let-if true bindings body = refl
  let-if false bindings body = refl

  pub group_let_word : (p : Place) (rest : Sexps) → group_reached bs (more (leaf p (reserved let_word)) rest) ≡ let_parts_reached bs (as_let rest)
  group_let_word p none = refl
  group_let_word p (more (leaf q l) rest) = refl
  group_let_word p (more (group q items) none) = refl
  group_let_word p (more (group q items) (more body none)) =
      let-begins (bound_names items) (bindings_reached bs items + reached_in (binding_bodies items ++ bs) body) ∙ let-if (begins (bound_names items)) items body
  group_let_word p (more (group q items) (more body (more e rest))) = refl

  pub group_bang : (p : Place) (rest : Sexps) → is_end rest ≡ false → group_reached bs (more (leaf p (reserved bang)) rest) ≡ suc (reached_in bs (first_of rest))
  group_bang p none g = absurd (true≢false g)
  group_bang p (more e rest) g = refl

  pub group_bang_end : (p : Place) (rest : Sexps) → is_end rest ≡ true → group_reached bs (more (leaf p (reserved bang)) rest) ≡ 1
  group_bang_end p none g = refl
  group_bang_end p (more e rest) g = absurd (true≢false (sym g))

  pub group_word : (p : Place) (rest : Sexps) (w : Reserved) → (w ≡ words.Let → ⊥) → (w ≡ words.Bang → ⊥) → group_reached bs (more (leaf p (reserved (reserved_of w))) rest) ≡ 1
  group_word p rest words.Bang f g = elim (g refl) [ ]
  group_word p rest words.Underscore f g = refl
  group_word p rest words.As f g = refl
  group_word p rest words.Let f g = elim (f refl) [ ]
  group_word p rest words.Exists f g = refl
  group_word p rest words.Forall f g = refl
  group_word p rest words.Match f g = refl
  group_word p rest words.Par f g = refl

abbrev rest-bodies : Option (Label × Sexp × Sexps) → Bodies
rest-bodies None = []
rest-bodies (Some (x, e, rest)) = (x.name, no_body) ∷ binding_bodies rest

bodies-are : (items : Sexps) → binding_bodies items ≡ rest-bodies (as_binding items)
bodies-are none = refl
bodies-are (more (leaf p l) rest) = refl
bodies-are (more (group p none) rest) = refl
bodies-are (more (group p (more (group q inside) others)) rest) = refl
bodies-are (more (group p (more (leaf q (numeral d)) others)) rest) = refl
bodies-are (more (group p (more (leaf q (decimal d f)) others)) rest) = refl
bodies-are (more (group p (more (leaf q (reserved w)) others)) rest) = refl
bodies-are (more (group p (more (leaf q (string t)) others)) rest) = refl
bodies-are (more (group p (more (leaf q (keyword k)) others)) rest) = refl
bodies-are (more (group p (more (leaf q (symbol x)) none)) rest) = refl
bodies-are (more (group p (more (leaf q (symbol x)) (more e none))) rest) = refl
bodies-are (more (group p (more (leaf q (symbol x)) (more e (more f others)))) rest) = refl

-- ---- what is ahead

module _ (s : arena.Sexps) (top : List Top) where
  pub scope_same : (scope other : Scope) → IsScope scope other.visible other.locals.value → scope_bodies s top scope ≡ scope_bodies s top other
  scope_same scope other is = ap (λ n. local_bodies scope.locals.value ++ top_bodies s top n) is.0 ∙ ap (λ xs. local_bodies xs ++ top_bodies s top other.visible) is.1

  -- of a scope of so many names and these locals
  pub scope_is : (scope : Scope) (n : ℕ) (xs : List Local) → IsScope scope n xs → scope_bodies s top scope ≡ local_bodies xs ++ top_bodies s top n
  scope_is scope n xs is = ap (λ k. local_bodies scope.locals.value ++ top_bodies s top k) is.0 ∙ ap (λ ys. local_bodies ys ++ top_bodies s top n) is.1

  module _ (c : Call) where
    abbrev here : Bodies
    here = scope_bodies s top c.scope

    pub call_next : (after : ℕ) (scope : Scope) → as_any (rest_of s c.next) ≡ Some (expression_at s c.next, rest_of s after) → IsScope scope c.scope.visible c.scope.locals.value →
        call_ahead s top c (length c.parts.items) ≡ reached_in (scope_bodies s top scope) (expression_at s c.next) + frame_ahead s top (frame.Call (record c { next = after }))
    call_next after scope is same =
        let n = reached_in here (expression_at s c.next) in
        let ns = all_reached here (rest_of s after) in
        let done = length c.parts.items in
        let each = ap (arguments_ahead s top c done) (reached_are here (rest_of s c.next) ∙ ap (any-reached here) is) in
        numbers-call (call_ahead s top c done) n (total ns) (head_body s top c.head (done + suc (length ns))) (head_body s top c.head (suc done + length ns)) (reached_in (scope_bodies s top scope) (expression_at s c.next)) each
        (ap (head_body s top c.head) (numbers-later done (length ns))) (ap (λ bs. reached_in bs (expression_at s c.next)) (scope_same scope c.scope same))

    pub call_last : as_any (rest_of s c.next) ≡ None → call_ahead s top c (length c.parts.items) ≡ head_body s top c.head (length c.parts.items)
    call_last is =
        let done = length c.parts.items in
        ap (arguments_ahead s top c done) (reached_are here (rest_of s c.next) ∙ ap (any-reached here) is) ∙ sym (more-none (head_body s top c.head (done + 0))) ∙ ap (head_body s top c.head) (sym (none-more done))

  module _ (l : Let) (done : Bodies) where
    abbrev around : Bodies
    around = scope_bodies s top l.scope

    pub let_next : (x : Bor names.Name) (p : Place) (at after : ℕ) (scope : Scope) → as_binding (rest_of s l.next) ≡ Some (record { at = p; name = x.now }, expression_at s at, rest_of s after) →
        IsScope scope l.scope.visible l.scope.locals.value → let_ahead s top l done ≡ reached_in (scope_bodies s top scope) (expression_at s at) + let_ahead s top (record l { next = after }) (done ++ ((x.now, no_body) ∷ []))
    let_next x p at after scope is same =
        let rest = rest_of s after in
        let longer = done ++ ((x.now, no_body) ∷ []) in
        let bound = ap (λ bs. reached_in ((done ++ bs) ++ around) (expression_at s l.body)) (bodies-are (rest_of s l.next) ∙ ap rest-bodies is) in
        let later = ap (λ bs. reached_in (bs ++ around) (expression_at s l.body)) (sym (append_assoc done ((x.now, no_body) ∷ []) (binding_bodies rest))) in
        numbers-let (bindings_reached around (rest_of s l.next)) (reached_in ((done ++ binding_bodies (rest_of s l.next)) ++ around) (expression_at s l.body)) (reached_in around (expression_at s at)) (bindings_reached around rest)
        (reached_in ((longer ++ binding_bodies rest) ++ around) (expression_at s l.body)) (reached_in (scope_bodies s top scope) (expression_at s at)) (bindings_are around (rest_of s l.next) ∙ ap (rest-reached around) is) (bound ∙ later)
        (ap (λ bs. reached_in bs (expression_at s at)) (scope_same scope l.scope same))

    pub let_last : as_binding (rest_of s l.next) ≡ None → let_ahead s top l done ≡ reached_in (done ++ around) (expression_at s l.body)
    let_last is =
        ap (λ n. n + reached_in ((done ++ binding_bodies (rest_of s l.next)) ++ around) (expression_at s l.body)) (bindings_are around (rest_of s l.next) ∙ ap (rest-reached around) is) ∙
        sym (more-none (reached_in ((done ++ binding_bodies (rest_of s l.next)) ++ around) (expression_at s l.body))) ∙
        ap (λ bs. reached_in ((done ++ bs) ++ around) (expression_at s l.body)) (bodies-are (rest_of s l.next) ∙ ap rest-bodies is) ∙
        ap (λ bs. reached_in (bs ++ around) (expression_at s l.body)) (append-nil done)

  -- the body of a `let`
  pub let_enters : (l : Let) (ls : List Local) (inner : Scope) → as_binding (rest_of s l.next) ≡ None → ls ≡ l.bound ++ l.scope.locals.value → IsScope inner l.scope.visible ls →
      let_ahead s top l (local_bodies l.bound) ≡ reached_in (scope_bodies s top inner) (expression_at s l.body)
  let_enters l ls inner last all is =
      let before = local_bodies l.bound in
      let names = scope_is inner l.scope.visible ls is ∙ ap (λ xs. local_bodies xs ++ top_bodies s top l.scope.visible) all ∙ ap (λ bs. bs ++ top_bodies s top l.scope.visible) (locals_end l.bound l.scope.locals.value)
      ∙ append_assoc before (local_bodies l.scope.locals.value) (top_bodies s top l.scope.visible) in
      let_last l before last ∙ ap (λ bs. reached_in bs (expression_at s l.body)) (sym names)

  -- that of a definition, where it is called
  pub body_enters : (i : ℕ) (ps : List Parameter) (body : ℕ) (ks : List ℕ) (ls : List Local) (scope : Scope) → ls ≡ bound_locals ps ks → IsScope scope i ls →
      reached_in (parameter_bodies (map parameter_of ps) (length ks) ++ top_bodies s top i) (expression_at s body) ≡ reached_in (scope_bodies s top scope) (expression_at s body)
  body_enters i ps body ks ls scope bound is =
      ap (λ bs. reached_in bs (expression_at s body)) (sym (scope_is scope i ls is ∙ ap (λ xs. local_bodies xs ++ top_bodies s top i) bound ∙ ap (λ bs. bs ++ top_bodies s top i) (bound_bodies ps ks)))

  -- behind a stack of frames
  abbrev pub stack_ahead : List Frame → ℕ
  stack_ahead [] = 0
  stack_ahead (f ∷ fs) = frame_ahead s top f + stack_ahead fs

  pub stack_end : (fs : List Frame) (f : Frame) → stack_ahead (fs ++ (f ∷ [])) ≡ stack_ahead fs + frame_ahead s top f
  stack_end [] f = sym (none-more (frame_ahead s top f)) ∙ more-none (frame_ahead s top f)
  stack_end (g ∷ fs) f = numbers-end (frame_ahead s top g) (stack_ahead (fs ++ (f ∷ []))) (stack_ahead fs) (frame_ahead s top f) (stack_end fs f)

-- ---- each expression counts

symbol-some : (bs : Bodies) (x : List ℕ) (o : Option Operator) → 1 ≤ symbol_reached bs x o
symbol-some bs x (Some op) = omega arith
symbol-some bs x None = go (found x bs)
  where
    go : (f : Option (ℕ → ℕ)) → 1 ≤ named_reached f
    go None = omega arith
    go (Some f) = omega arith

leaf-some : (bs : Bodies) (l : Leaf) → 1 ≤ leaf_reached bs l
leaf-some bs (symbol x) = symbol-some bs x (found x operators)
leaf-some bs (numeral d) = omega arith
leaf-some bs (decimal d f) = omega arith
leaf-some bs (reserved w) = omega arith
leaf-some bs (string t) = omega arith
leaf-some bs (keyword k) = omega arith

application-some : (bs : Bodies) (x : List ℕ) (o : Option Operator) (ns : List ℕ) → 1 ≤ application_reached bs x o ns
application-some bs x o [] = omega arith
application-some bs x (Some op) (n ∷ ns) = omega arith
application-some bs x None (n ∷ ns) = go (found x bs)
  where
    go : (f : Option (ℕ → ℕ)) → 1 ≤ call_reached f (n ∷ ns)
    go None = omega arith
    go (Some f) = omega arith

let-some : (bs : Bodies) (o : Option (Sexps × Sexp)) → 1 ≤ let_parts_reached bs o
let-some bs None = omega arith
let-some bs (Some p) = omega arith

group-some : (bs : Bodies) (items : Sexps) → 1 ≤ group_reached bs items
group-some bs none = omega arith
group-some bs (more (group p items) args) = omega arith
group-some bs (more (leaf p (symbol x)) args) = application-some bs x (found x operators) (all_reached bs args)
group-some bs (more (leaf p (numeral d)) args) = omega arith
group-some bs (more (leaf p (decimal d f)) args) = omega arith
group-some bs (more (leaf p (string t)) args) = omega arith
group-some bs (more (leaf p (keyword k)) args) = omega arith
group-some bs (more (leaf p (reserved let_word)) args) = subst (λ n. 1 ≤ n) (sym (group_let_word bs p args)) (let-some bs (as_let args))
group-some bs (more (leaf p (reserved bang)) none) = omega arith
group-some bs (more (leaf p (reserved bang)) (more e rest)) = omega arith
group-some bs (more (leaf p (reserved underscore)) args) = omega arith
group-some bs (more (leaf p (reserved as_word)) args) = omega arith
group-some bs (more (leaf p (reserved exists_word)) args) = omega arith
group-some bs (more (leaf p (reserved forall_word)) args) = omega arith
group-some bs (more (leaf p (reserved match_word)) args) = omega arith
group-some bs (more (leaf p (reserved par_word)) args) = omega arith

pub some_reached : (bs : Bodies) (e : Sexp) → 1 ≤ reached_in bs e
some_reached bs (leaf p l) = leaf-some bs l
some_reached bs (group p items) = group-some bs items

-- ---- answers

-- a tree that goes back
pub goes_back : (s : arena.Sexps) (top : List Top) (made : Result ℕ AllocError) (r : Result Next AllocError) → r ≡ returned made → GoesOn s top 0 r
goes_back s top made r is = subst (λ (x : Result Next AllocError). GoesOn s top 0 x) (sym is) (go made)
  where
    go : (m : Result ℕ AllocError) → GoesOn s top 0 (returned m)
    go (Ok k) = refl
    go (Err e) = tt

module _ (s : arena.Sexps) (top : List Top) where
  pub goes_same : (n m : ℕ) (r : Result Next AllocError) → n ≡ m → GoesOn s top m r → GoesOn s top n r
  goes_same n m r same h = subst (λ k. GoesOn s top k r) (sym same) h

module _ (source : Source) (scope : Scope) where
  abbrev in-scope : Bodies
  in-scope = scope_bodies source.sexps.now source.top.now scope

  pub opens_goes : (read : Bodies → ℕ) (n : ℕ) (r : Result Next AllocError) → read in-scope ≡ suc n → GoesOn source.sexps.now source.top.now n r → Opens source scope read r
  opens_goes read n (Ok x) is h = is ∙ ap suc h
  opens_goes read n (Err e) is h = tt

  pub opens_same : (read other : Bodies → ℕ) (r : Result Next AllocError) → read in-scope ≡ other in-scope → Opens source scope other r → Opens source scope read r
  opens_same read other (Ok x) is h = is ∙ h
  opens_same read other (Err e) is h = tt

-- ---- the walk

-- so many are reached of so many from a start on, and these are ahead
pub record Reckons (start now n : ℕ) (s : arena.Sexps) (top : List Top) (x : Next) (stack : List Frame) : Type 0 where
  pub sum : start + n ≡ now + (ahead s top x + stack_ahead s top stack)
  pub within : start ≤ most_size → now ≤ most_size

module _ (s : arena.Sexps) (top : List Top) (start n : ℕ) where
  pub reckons_begins : (scope : Scope) (at : ℕ) (none : List Local) → n ≡ reached_here s top at → none ≡ [] → IsScope scope (length top) none → Reckons start start n s top (next.Enter scope at) []
  reckons_begins scope at xs whole empty is =
      let names = ap (λ k. local_bodies scope.locals.value ++ top_bodies s top k) is.0 ∙ ap (λ ys. local_bodies ys ++ top_bodies s top (length top)) (is.1 ∙ empty) in
      let same = whole ∙ ap (λ bs. reached_in bs (expression_at s at)) (sym names) in
      record { sum = numbers-begin start n (reached_in (scope_bodies s top scope) (expression_at s at)) same; within = λ h. h }

  module _ (now : ℕ) (stack : List Frame) where
    -- a frame comes onto the stack
    pub reckons_waits : (f : Frame) (scope : Scope) (at : ℕ) → Reckons start now n s top (next.Wait f scope at) stack → Reckons start now n s top (next.Enter scope at) (stack ++ (f ∷ []))
    reckons_waits f scope at h = record {
      sum = numbers-wait (start + n) now (reached_in (scope_bodies s top scope) (expression_at s at)) (frame_ahead s top f) (stack_ahead s top stack) (stack_ahead s top (stack ++ (f ∷ []))) h.sum (stack_end s top stack f);
      within = h.within;
    }

    -- an expression is entered
    pub reckons_enters : (scope : Scope) (at new : ℕ) (x : Next) → Reckons start now n s top (next.Enter scope at) stack → now < most_size → new ≡ suc now →
        reached_in (scope_bodies s top scope) (expression_at s at) ≡ suc (ahead s top x) → Reckons start new n s top x stack
    reckons_enters scope at new x h below one opens = record {
      sum = numbers-enter (start + n) now (reached_in (scope_bodies s top scope) (expression_at s at)) (stack_ahead s top stack) (ahead s top x) new h.sum opens one;
      within = λ g. numbers-below most_size now new below one;
    }

    -- the last frame gets a tree
    pub reckons_resumes : (f : Frame) (k : ℕ) (x : Next) → Reckons start now n s top (next.Back k) (stack ++ (f ∷ [])) → frame_ahead s top f ≡ ahead s top x → Reckons start now n s top x stack
    reckons_resumes f k x h goes = record {
      sum = numbers-resume (start + n) now (stack_ahead s top (stack ++ (f ∷ []))) (stack_ahead s top stack) (frame_ahead s top f) (ahead s top x) h.sum (stack_end s top stack f) goes;
      within = h.within;
    }

    -- no more may be reached
    pub reckons_beyond : (scope : Scope) (at : ℕ) → Reckons start now n s top (next.Enter scope at) stack → most_size ≤ now → most_size < start + n
    reckons_beyond scope at h full =
        numbers-beyond most_size (start + n) now (reached_in (scope_bodies s top scope) (expression_at s at)) (stack_ahead s top stack) h.sum (some_reached (scope_bodies s top scope) (expression_at s at)) full

    -- where the walk stops
    pub reckons_stops : (scope : Scope) (at : ℕ) (e : Stop) (m k : ℕ) → Reckons start now n s top (next.Enter scope at) stack → IsReached now m (Err e) → Counts start k n (Err e)
    reckons_stops scope at stop.TooLarge m k h full = reckons_beyond scope at h full
    reckons_stops scope at stop.Memory m k h full = tt

  pub reckons_ends : (now k : ℕ) → Reckons start now n s top (next.Back k) [] → (now ≡ start + n) × (start ≤ most_size → now ≤ most_size)
  reckons_ends now k h = (numbers-last (start + n) now h.sum, h.within)
