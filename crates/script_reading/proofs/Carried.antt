-- What was in force and was not taken away begins what is in force.
use Rattle.std.proofs.Common.{◌≡◌, ◌∙◌, ℕ, zero, suc, ◌≤◌, length-take-le, List, [], ◌∷◌, ◌++◌, Bool, true, false, ◌&&◌, length, nat_le, Option, Some, None, map, refl, ap, sym, take, drop, arith, take-append-drop, take-take}
use Rattle.std.proofs.Math.Seq.{take-length}
use Rattle.std.proofs.lemmas.Bool.{leb-true}
use Rattle.std.proofs.lemmas.List.{take-append-le}
use Rattle.script_model.specs.Script.{Command, declare, define, claim, minimize, check, ineffective}
use Rattle.smt_script.specs.Levels.{Asked, Levels, Step, command, opens, closes, resets, asks_values, after_step, asked_from, checks_of, closed_to, no_levels, opened}
use Rattle.sort_check.specs.Single.{AreLengths}
use Rattle.sort_check.proofs.Lengths.{lengths_longer}
use Rattle.script_fault.specs.declared.fault.ScriptFault.{ScriptFault}
use Rattle.script_reading.specs.Faults.{plain_session_fault}
use Rattle.script_reading.specs.Session.{AreCarried, BeginsNext, IfSaid, asked_by, asked_in, carried_by, carried_from, carried_in, not_carried, rewritten_at, steps_of_text, stay_in_force}

-- ---- the levels that are open

-- by lengths, what is in force once a level is closed is a part of what is in force
abbrev pub Stacked : Levels → Type 0
Stacked l = (ns : List ℕ) × AreLengths ns l.inner l.outer

stacked_opened : (n : ℕ) (l : Levels) → Stacked l → Stacked (opened n l)
stacked_opened zero l h = h
stacked_opened (suc n) l h =
    stacked_opened n (record { inner = l.inner; outer = l.inner ∷ l.outer }) (length l.inner ∷ h.0, (omega arith, sym (take-length l.inner), h.1))

stacked_closed : (n : ℕ) (inner : List Command) (outer : List (List Command)) (ns : List ℕ) → AreLengths ns inner outer → Stacked (closed_to n inner outer)
stacked_closed zero inner outer ns h = (ns, h)
stacked_closed (suc n) inner [] [] h = ([], tt)
stacked_closed (suc n) inner [] (k ∷ ks) h = absurd h
stacked_closed (suc n) inner (cs ∷ outer) [] h = absurd h
stacked_closed (suc n) inner (cs ∷ outer) (k ∷ ks) h = stacked_closed n cs outer ks h.2

stacked_step : (l : Levels) (s : Step) → Stacked l → Stacked (after_step l s)
stacked_step l (command (declare at x t)) h = (h.0, lengths_longer h.0 l.inner (declare at x t) l.outer h.1)
stacked_step l (command (define at f params t body)) h = (h.0, lengths_longer h.0 l.inner (define at f params t body) l.outer h.1)
stacked_step l (command (claim at e)) h = (h.0, lengths_longer h.0 l.inner (claim at e) l.outer h.1)
stacked_step l (command (minimize at t)) h = (h.0, lengths_longer h.0 l.inner (minimize at t) l.outer h.1)
stacked_step l (command (check at)) h = h
stacked_step l (command (ineffective at)) h = h
stacked_step l (opens at n) h = stacked_opened n l h
stacked_step l (closes at n) h = stacked_closed n l.inner l.outer h.0 h.1
stacked_step l (resets at) h = ([], tt)
stacked_step l (asks_values at es) h = h

-- ---- the first commands

opened_same : (n : ℕ) (l : Levels) → (opened n l).inner ≡ l.inner
opened_same zero l = refl
opened_same (suc n) l = opened_same n (record { inner = l.inner; outer = l.inner ∷ l.outer })

closed_shorter : (n : ℕ) (inner : List Command) (outer : List (List Command)) (ns : List ℕ) → AreLengths ns inner outer → length (closed_to n inner outer).inner ≤ length inner
closed_shorter zero inner outer ns h = omega arith
closed_shorter (suc n) inner [] ns h = omega arith
closed_shorter (suc n) inner (cs ∷ outer) [] h = absurd h
closed_shorter (suc n) inner (cs ∷ outer) (k ∷ ks) h =
    let less = closed_shorter n cs outer ks h.2 in
    let taken : length cs ≡ length (take k inner) = ap length h.1 in
    let cut = length-take-le k inner h.0 in
    omega (arith, less, taken, cut, h.0)

closed_first : (m n : ℕ) (inner : List Command) (outer : List (List Command)) (ns : List ℕ) → AreLengths ns inner outer → m ≤ length (closed_to n inner outer).inner → take m (closed_to n inner outer).inner ≡ take m inner
closed_first m zero inner outer ns h few = refl
closed_first m (suc n) inner [] ns h few = refl
closed_first m (suc n) inner (cs ∷ outer) [] h few = absurd h
closed_first m (suc n) inner (cs ∷ outer) (k ∷ ks) h few =
    let less = closed_shorter n cs outer ks h.2 in
    let taken : length cs ≡ length (take k inner) = ap length h.1 in
    let cut = length-take-le k inner h.0 in
    let within : m ≤ k = omega (arith, few, less, taken, cut) in
    closed_first m n cs outer ks h.2 few ∙ ap (take m) h.1 ∙ take-take m k inner within

reset_first : (m : ℕ) (xs : List Command) → m ≤ 0 → take m [] ≡ take m xs
reset_first zero xs h = refl
reset_first (suc m) xs h = absurd (omega (arith, h))

pub step_first : (m : ℕ) (l : Levels) (s : Step) → Stacked l → m ≤ length l.inner → m ≤ length (after_step l s).inner → take m (after_step l s).inner ≡ take m l.inner
step_first m l (command (declare at x t)) h few still = take-append-le m l.inner (declare at x t ∷ []) few
step_first m l (command (define at f params t body)) h few still = take-append-le m l.inner (define at f params t body ∷ []) few
step_first m l (command (claim at e)) h few still = take-append-le m l.inner (claim at e ∷ []) few
step_first m l (command (minimize at t)) h few still = take-append-le m l.inner (minimize at t ∷ []) few
step_first m l (command (check at)) h few still = refl
step_first m l (command (ineffective at)) h few still = refl
step_first m l (opens at n) h few still = ap (take m) (opened_same n l)
step_first m l (closes at n) h few still = closed_first m n l.inner l.outer h.0 h.1 still
step_first m l (resets at) h few still = reset_first m l.inner still
step_first m l (asks_values at es) h few still = refl

-- ---- from check to check

both : (a b : Bool) → (a && b) ≡ true → (a ≡ true) × (b ≡ true)
both true b e = (refl, e)
both false b e = cc

-- these commands, so many, are the first of those in force, and stay so up to the next check
pub record Holds (commands : List Command) (l : Levels) (left : List Step) : Type 0 where
  pub few : length commands ≤ length l.inner
  pub first : take (length commands) l.inner ≡ commands
  pub stay : stay_in_force (length commands) l left ≡ true

holds_behind : (commands : List Command) (l : Levels) (s : Step) (left : List Step) → Stacked l → length commands ≤ length l.inner → take (length commands) l.inner ≡ commands →
    (nat_le (length commands) (length (after_step l s).inner) && stay_in_force (length commands) (after_step l s) left) ≡ true → Holds commands (after_step l s) left
holds_behind commands l s left h few first still =
    let two = both (nat_le (length commands) (length (after_step l s).inner)) (stay_in_force (length commands) (after_step l s) left) still in
    let many : length commands ≤ length (after_step l s).inner = leb-true (length commands) (length (after_step l s).inner) two.0 in
    record { few = many; first = step_first (length commands) l s h few many ∙ first; stay = two.1 }

said_here : (y : Bool) (a next : Asked) (commands : List Command) (l : Levels) (left : List Step) → a.script ≡ commands ++ check a.at ∷ [] → next.script ≡ l.inner ++ check next.at ∷ [] →
    (y ≡ true → Holds commands l left) → IfSaid y (BeginsNext a next)
said_here false a next commands l left here behind h = tt
said_here true a next commands l left here behind h =
    let held = h refl in record {
      commands = commands;
      later = drop (length commands) l.inner;
      here = here;
      behind = behind ∙ ap (λ xs. xs ++ check next.at ∷ []) (sym (take-append-drop (length commands) l.inner) ∙ ap (λ xs. xs ++ drop (length commands) l.inner) held.first);
    }

carried_left : (x y : Bool) (a : Asked) (commands : List Command) (l : Levels) (left : List Step) → Stacked l → a.script ≡ commands ++ check a.at ∷ [] → (y ≡ true → Holds commands l left) →
    AreCarried (a ∷ asked_from l left) (x ∷ carried_from y l left)
carried_left x y a commands l [] st here h = tt
carried_left x y a commands l (command (check at) ∷ left) st here h =
    let next : Asked = record { at = at; script = l.inner ++ check at ∷ [] } in (
      said_here y a next commands l (command (check at) ∷ left) here refl h,
      carried_left y (stay_in_force (length l.inner) l left) next l.inner l left st refl (λ e. record { few = omega arith; first = take-length l.inner; stay = e }),
    )
carried_left x y a commands l (command (declare at f t) ∷ left) st here h = carried_left x y a commands _ left (stacked_step l (command (declare at f t)) st) here
    (λ e. holds_behind commands l (command (declare at f t)) left st (h e).few (h e).first (h e).stay)
carried_left x y a commands l (command (define at f params t body) ∷ left) st here h = carried_left x y a commands _ left (stacked_step l (command (define at f params t body)) st) here
    (λ e. holds_behind commands l (command (define at f params t body)) left st (h e).few (h e).first (h e).stay)
carried_left x y a commands l (command (claim at t) ∷ left) st here h = carried_left x y a commands _ left (stacked_step l (command (claim at t)) st) here
    (λ e. holds_behind commands l (command (claim at t)) left st (h e).few (h e).first (h e).stay)
carried_left x y a commands l (command (minimize at t) ∷ left) st here h = carried_left x y a commands _ left (stacked_step l (command (minimize at t)) st) here
    (λ e. holds_behind commands l (command (minimize at t)) left st (h e).few (h e).first (h e).stay)
carried_left x y a commands l (command (ineffective at) ∷ left) st here h = carried_left x y a commands l left st here
    (λ e. holds_behind commands l (command (ineffective at)) left st (h e).few (h e).first (h e).stay)
carried_left x y a commands l (opens at n ∷ left) st here h = carried_left x y a commands _ left (stacked_step l (opens at n) st) here
    (λ e. holds_behind commands l (opens at n) left st (h e).few (h e).first (h e).stay)
carried_left x y a commands l (closes at n ∷ left) st here h = carried_left x y a commands _ left (stacked_step l (closes at n) st) here
    (λ e. holds_behind commands l (closes at n) left st (h e).few (h e).first (h e).stay)
carried_left x y a commands l (resets at ∷ left) st here h = carried_left x y a commands _ left (stacked_step l (resets at) st) here
    (λ e. holds_behind commands l (resets at) left st (h e).few (h e).first (h e).stay)
carried_left x y a commands l (asks_values at es ∷ left) st here h = carried_left x y a commands l left st here
    (λ e. holds_behind commands l (asks_values at es) left st (h e).few (h e).first (h e).stay)

-- up to the first check
first_left : (x : Bool) (l : Levels) (left : List Step) → Stacked l → AreCarried (asked_from l left) (carried_from x l left)
first_left x l [] st = tt
first_left x l (command (check at) ∷ left) st =
    let a : Asked = record { at = at; script = l.inner ++ check at ∷ [] } in
    carried_left x (stay_in_force (length l.inner) l left) a l.inner l left st refl (λ e. record { few = omega arith; first = take-length l.inner; stay = e })
first_left x l (command (declare at f t) ∷ left) st = first_left x _ left (stacked_step l (command (declare at f t)) st)
first_left x l (command (define at f params t body) ∷ left) st = first_left x _ left (stacked_step l (command (define at f params t body)) st)
first_left x l (command (claim at t) ∷ left) st = first_left x _ left (stacked_step l (command (claim at t)) st)
first_left x l (command (minimize at t) ∷ left) st = first_left x _ left (stacked_step l (command (minimize at t)) st)
first_left x l (command (ineffective at) ∷ left) st = first_left x l left st
first_left x l (opens at n ∷ left) st = first_left x _ left (stacked_step l (opens at n) st)
first_left x l (closes at n ∷ left) st = first_left x _ left (stacked_step l (closes at n) st)
first_left x l (resets at ∷ left) st = first_left x _ left (stacked_step l (resets at) st)
first_left x l (asks_values at es ∷ left) st = first_left x l left st

-- ---- of a script that is read with roots nothing is said

none-said : (bound : Option ℕ) (asked : List Asked) → AreCarried (map (rewritten_at bound) asked) (map not_carried asked)
none-said bound [] = tt
none-said bound (a ∷ []) = tt
none-said bound (a ∷ b ∷ later) = (tt, none-said bound (b ∷ later))

carried-by : (bound : Option ℕ) (steps : List Step) (fault : Option ScriptFault) → AreCarried (asked_by bound steps fault) (carried_by steps fault)
carried-by bound steps None = first_left false no_levels steps ([], tt)
carried-by bound steps (Some x) = none-said bound (checks_of steps)

pub carried_begins : (bound : Option ℕ) (text : List ℕ) → AreCarried (asked_in bound text) (carried_in bound text)
carried_begins bound text = carried-by bound (steps_of_text text) (plain_session_fault bound text)
