-- What stays known while levels are opened and closed.
use Rattle.std.proofs.Common.{◌≡◌, ℕ, suc, zero, List, [], ◌∷◌, ◌++◌, Bool, true, false, cond, Option, Some, None, refl, ap, sym, ◌∙◌, append_assoc, map, ◌+◌, add-one}
use Rattle.std.specs.Prelude.{◌||◌, is_some, option_map}
use Rattle.std.specs.Str.{bytes_eq}
use Rattle.std.specs.Borrow.{Bor}
use Rattle.std.specs.HashMap.{HashMap, get_by, UpdatesBy}
use Rattle.std.proofs.lemmas.Map.Text.{hash_map_updates_str}
use Rattle.std.proofs.lemmas.Slice.Eq.{bytes_eq-Decides}
use Rattle.script_model.specs.Sexp.{Place, place_of}
use Rattle.script_model.specs.Reading.{Names, Named, value, found, operators, meaning}
use Rattle.script_model.specs.Script.{Command, declare, define, claim, minimize, check, ineffective}
use Rattle.dyadic.specs.Point.{bool_sort, real_sort}
use Rattle.smt_script.specs.Levels.{Levels, command, opened, closed, closed_to}
use Rattle.sort_check.specs.Levels.{course_fault_from, names_of}
use Rattle.sort_check.specs.Scopes.{count_from, count_of}
use Rattle.sort_check.specs.Sorts.{Finding, SortFault, Sorted, of_sort, is_operator, known, new_name, redeclared, room_for, signature, sort_fault, sort_fault_from, sort_fault_in, sorting, parameter_names, taken_parameter, then_on, wants}
use Rattle.sort_check.specs.Steps.{named_after, count_after}
use Rattle.sort_check.specs.Views.{Knows, named_of}
use Rattle.sort_check.specs.declared.names.Known.{Known}
use Rattle.sort_check.proofs.Known.{bytes_symm, known_is}

-- ---- one command more

pub names_last : (names : Names Sorted) (cs : List Command) (c : Command) → names_of names (cs ++ (c ∷ [])) ≡ named_after c (names_of names cs)
names_last names [] c = refl
names_last names (d ∷ cs) c = names_last (named_after d names) cs c

pub count_last : (n : ℕ) (cs : List Command) (c : Command) → count_from n (cs ++ (c ∷ [])) ≡ count_after c (count_from n cs)
count_last n [] c = refl
count_last n (d ∷ cs) c = count_last (count_after d n) cs c

pub then_none : (a b : Finding) → then_on a b ≡ None → (a ≡ None) × (b ≡ None)
then_none None b e = (refl, e)
then_none (Some x) b e = cc

-- behind commands without a fault the others go on
pub goes_on : (n : ℕ) (names : Names Sorted) (cs rest : List Command) → sort_fault_from n names cs ≡ None →
    sort_fault_from n names (cs ++ rest) ≡ sort_fault_from (count_from n cs) (names_of names cs) rest
goes_on n names [] rest e = refl
goes_on n names (declare at x s ∷ cs) rest e =
    let later : Finding = sort_fault_from (suc n) ((x, value (of_sort s)) ∷ names) (cs ++ rest) in
    let a = then_none (new_name at x names) _ e in let b = then_none (room_for n at) _ a.1 in
    ap (λ f. then_on f (then_on (room_for n at) later)) a.0 ∙ ap (λ f. then_on f later) b.0 ∙ goes_on (suc n) ((x, value (of_sort s)) ∷ names) cs rest b.1
goes_on n names (define at f params s body ∷ cs) rest e =
    let wanted : Finding = wants (place_of body) s (meaning sorting (parameter_names params ++ names) body) in
    let later : Finding = sort_fault_from n ((f, signature params s) ∷ names) (cs ++ rest) in
    let a = then_none (new_name at f names) _ e in let b = then_none (taken_parameter [] params) _ a.1 in let d = then_none wanted _ b.1 in
    ap (λ g. then_on g (then_on (taken_parameter [] params) (then_on wanted later))) a.0 ∙ ap (λ g. then_on g (then_on wanted later)) b.0 ∙
    ap (λ g. then_on g later) d.0 ∙ goes_on n ((f, signature params s) ∷ names) cs rest d.1
goes_on n names (claim at e ∷ cs) rest h =
    let a = then_none (wants (place_of e) bool_sort (meaning sorting names e)) _ h in
    ap (λ g. then_on g (sort_fault_from n names (cs ++ rest))) a.0 ∙ goes_on n names cs rest a.1
goes_on n names (minimize at t ∷ cs) rest h =
    let a = then_none (wants (place_of t) real_sort (meaning sorting names t)) _ h in
    ap (λ g. then_on g (sort_fault_from n names (cs ++ rest))) a.0 ∙ goes_on n names cs rest a.1
goes_on n names (check at ∷ cs) rest e = goes_on n names cs rest e
goes_on n names (ineffective at ∷ cs) rest e = goes_on n names cs rest e

-- the first of commands without a fault have none
pub front : (n : ℕ) (names : Names Sorted) (cs rest : List Command) → sort_fault_from n names (cs ++ rest) ≡ None → sort_fault_from n names cs ≡ None
front n names [] rest e = refl
front n names (declare at x s ∷ cs) rest e =
    let later : Finding = sort_fault_from (suc n) ((x, value (of_sort s)) ∷ names) cs in
    let a = then_none (new_name at x names) _ e in let b = then_none (room_for n at) _ a.1 in
    ap (λ f. then_on f (then_on (room_for n at) later)) a.0 ∙ ap (λ f. then_on f later) b.0 ∙ front (suc n) ((x, value (of_sort s)) ∷ names) cs rest b.1
front n names (define at f params s body ∷ cs) rest e =
    let wanted : Finding = wants (place_of body) s (meaning sorting (parameter_names params ++ names) body) in
    let later : Finding = sort_fault_from n ((f, signature params s) ∷ names) cs in
    let a = then_none (new_name at f names) _ e in let b = then_none (taken_parameter [] params) _ a.1 in let d = then_none wanted _ b.1 in
    ap (λ g. then_on g (then_on (taken_parameter [] params) (then_on wanted later))) a.0 ∙ ap (λ g. then_on g (then_on wanted later)) b.0 ∙
    ap (λ g. then_on g later) d.0 ∙ front n ((f, signature params s) ∷ names) cs rest d.1
front n names (claim at e ∷ cs) rest h =
    let a = then_none (wants (place_of e) bool_sort (meaning sorting names e)) _ h in
    ap (λ g. then_on g (sort_fault_from n names cs)) a.0 ∙ front n names cs rest a.1
front n names (minimize at t ∷ cs) rest h =
    let a = then_none (wants (place_of t) real_sort (meaning sorting names t)) _ h in
    ap (λ g. then_on g (sort_fault_from n names cs)) a.0 ∙ front n names cs rest a.1
front n names (check at ∷ cs) rest e = front n names cs rest e
front n names (ineffective at ∷ cs) rest e = front n names cs rest e

module _ (theory : Names Sorted) where
  skipped : (cs rest : List Command) (c : Command) → ((n : ℕ) (names : Names Sorted) → sort_fault_from n names (c ∷ rest) ≡ sort_fault_from n names rest) →
      sort_fault_in theory (cs ++ c ∷ rest) ≡ None → sort_fault_in theory (cs ++ rest) ≡ None
  skipped cs rest c same e =
      let none = front 0 theory cs (c ∷ rest) e in
      goes_on 0 theory cs rest none ∙ sym (same (count_of cs) (names_of theory cs)) ∙ sym (goes_on 0 theory cs (c ∷ rest) none) ∙ e

  first_of : (cs rest : List Command) (c : Command) → sort_fault_in theory (cs ++ c ∷ rest) ≡ None → sort_fault_in theory ((cs ++ c ∷ []) ++ rest) ≡ None
  first_of cs rest c e = ap (sort_fault_in theory) (append_assoc cs (c ∷ []) rest) ∙ e

  fault_first : (cs rest : List Command) (c : Command) → sort_fault_in theory (cs ++ c ∷ rest) ≡ None → sort_fault_in theory (cs ++ c ∷ []) ≡ None
  fault_first cs rest c e = front 0 theory (cs ++ c ∷ []) rest (first_of cs rest c e)

  kept_fault : (cs : List Command) (outer : List (List Command)) (d : Command) (ds : List Command) → sort_fault_in theory (cs ++ d ∷ ds) ≡ None →
      course_fault_from theory (record { inner = cs ++ d ∷ []; outer = outer }) (map command ds) ≡ None →
      then_on (sort_fault_in theory (cs ++ d ∷ [])) (course_fault_from theory (record { inner = cs ++ d ∷ []; outer = outer }) (map command ds)) ≡ None
  kept_fault cs outer d ds e later =
      ap (λ f. then_on f (course_fault_from theory (record { inner = cs ++ d ∷ []; outer = outer }) (map command ds))) (fault_first cs ds d e) ∙ later

  -- commands without levels have no fault as steps where they have none as a script
  pub plain_fault_in : (cs : List Command) (outer : List (List Command)) (ds : List Command) → sort_fault_in theory (cs ++ ds) ≡ None → course_fault_from theory (record { inner = cs; outer = outer }) (map command ds) ≡ None
  plain_fault_in cs outer [] e = refl
  plain_fault_in cs outer (declare at x s ∷ ds) e = let d = declare at x s in kept_fault cs outer d ds e (plain_fault_in (cs ++ d ∷ []) outer ds (first_of cs ds d e))
  plain_fault_in cs outer (define at f params s body ∷ ds) e = let d = define at f params s body in kept_fault cs outer d ds e (plain_fault_in (cs ++ d ∷ []) outer ds (first_of cs ds d e))
  plain_fault_in cs outer (claim at x ∷ ds) e = let d = claim at x in kept_fault cs outer d ds e (plain_fault_in (cs ++ d ∷ []) outer ds (first_of cs ds d e))
  plain_fault_in cs outer (minimize at t ∷ ds) e = let d = minimize at t in kept_fault cs outer d ds e (plain_fault_in (cs ++ d ∷ []) outer ds (first_of cs ds d e))
  plain_fault_in cs outer (check at ∷ ds) e =
      ap (λ f. then_on f (course_fault_from theory (record { inner = cs; outer = outer }) (map command ds))) (fault_first cs ds (check at) e) ∙ plain_fault_in cs outer ds (skipped cs ds (check at) (λ n names. refl) e)
  plain_fault_in cs outer (ineffective at ∷ ds) e =
      ap (λ f. then_on f (course_fault_from theory (record { inner = cs; outer = outer }) (map command ds))) (fault_first cs ds (ineffective at) e) ∙ plain_fault_in cs outer ds (skipped cs ds (ineffective at) (λ n names. refl) e)

pub plain_fault : (cs : List Command) (outer : List (List Command)) (ds : List Command) → sort_fault (cs ++ ds) ≡ None → course_fault_from [] (record { inner = cs; outer = outer }) (map command ds) ≡ None
plain_fault = plain_fault_in []

-- ---- names that are new

new_none : (b : Bool) (f : Place × SortFault) → cond b (Some f) None ≡ None → b ≡ false
new_none false f e = refl
new_none true f e = cc

none_of : (p : Bool) (o : Option (Named Sorted)) → (p || is_some o) ≡ false → o ≡ None
none_of true o e = cc
none_of false None e = refl
none_of false (Some v) e = cc

fresh_name : (at : Place) (x : List ℕ) (names : Names Sorted) → new_name at x names ≡ None → found x names ≡ None
fresh_name at x names e = none_of (is_operator (found x operators)) (found x names) (sym (known_is x names) ∙ new_none (known x names) (at, redeclared x) e)

-- the name of a command stands for nothing before it
abbrev pub IsFresh : Command → Names Sorted → Type 0
IsFresh (declare at x s) names = found x names ≡ None
IsFresh (define at f params s body) names = found f names ≡ None
IsFresh c names = Unit {0}

fresh_here : (n : ℕ) (names : Names Sorted) (c : Command) → sort_fault_from n names (c ∷ []) ≡ None → IsFresh c names
fresh_here n names (declare at x s) e = fresh_name at x names (then_none (new_name at x names) _ e).0
fresh_here n names (define at f params s body) e = fresh_name at f names (then_none (new_name at f names) _ e).0
fresh_here n names (claim at e) h = tt
fresh_here n names (minimize at t) h = tt
fresh_here n names (check at) e = tt
fresh_here n names (ineffective at) e = tt

pub fresh_last : (theory : Names Sorted) (cs : List Command) (c : Command) → sort_fault_in theory (cs ++ (c ∷ [])) ≡ None → IsFresh c (names_of theory cs)
fresh_last theory cs c e = fresh_here (count_of cs) (names_of theory cs) c (sym (goes_on 0 theory cs (c ∷ []) (front 0 theory cs (c ∷ []) e)) ∙ e)

-- ---- names that are forgotten

less : (b : Bool) (o : Option Known) (v : Named Sorted) (f : Option (Named Sorted)) → (b ≡ true → f ≡ None) → option_map named_of o ≡ cond b (Some v) f → option_map named_of (cond b None o) ≡ f
less true o v f h k = sym (h refl)
less false o v f h k = k

pub knows_less : {S : Type 0} (old new : HashMap (Bor (List ℕ)) Known S) (names : Names Sorted) (x : List ℕ) (v : Named Sorted) → Knows old ((x, v) ∷ names) → found x names ≡ None →
    UpdatesBy (λ a b. bytes_eq a.now b.now) (λ k. bytes_eq x k.now) old new None → Knows new names
knows_less old new names x v knows fresh updates = λ y.
    ap (option_map named_of) (hash_map_updates_str x old new None updates y) ∙
    less (bytes_eq x y) (get_by (λ k. bytes_eq y k.now) old) v (found y names)
    (λ same. ap (λ z. found z names) (sym ((bytes_eq-Decides x y).0 same)) ∙ fresh)
    (knows y ∙ ap (λ b. cond b (Some v) (found y names)) (bytes_symm y x))

-- ---- levels

pub opened_more : (n : ℕ) (l : Levels) → opened (suc n) l ≡ opened 1 (opened n l)
opened_more zero l = refl
opened_more (suc n) l = opened_more n (record { inner = l.inner; outer = l.inner ∷ l.outer })

pub opened_next : (n : ℕ) (l : Levels) → opened (n + 1) l ≡ opened 1 (opened n l)
opened_next n l = ap (λ k. opened k l) (add-one n) ∙ opened_more n l

none_closed : (n : ℕ) (inner : List Command) → closed_to n inner [] ≡ record { inner = inner; outer = [] }
none_closed zero inner = refl
none_closed (suc n) inner = refl

closed_to_more : (n : ℕ) (inner : List Command) (outer : List (List Command)) → closed_to (suc n) inner outer ≡ closed 1 (closed_to n inner outer)
closed_to_more n inner [] = sym (ap (closed 1) (none_closed n inner))
closed_to_more zero inner (cs ∷ outer) = refl
closed_to_more (suc n) inner (cs ∷ outer) = closed_to_more n cs outer

pub closed_more : (n : ℕ) (l : Levels) → closed (suc n) l ≡ closed 1 (closed n l)
closed_more n l = closed_to_more n l.inner l.outer

pub closed_next : (n : ℕ) (l : Levels) → closed (n + 1) l ≡ closed 1 (closed n l)
closed_next n l = ap (λ k. closed k l) (add-one n) ∙ closed_more n l
