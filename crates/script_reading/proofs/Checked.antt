-- A script that is read without a fault of its commands has a check.
use Rattle.std.proofs.Common.{◌≡◌, ℕ, suc, ◌+◌, ◌-◌, ◌⊎◌, inl, inr, List, [], ◌∷◌, ◌++◌, Bool, true, false, cond, Option, Some, None, nat_le, true≢false, refl, ap, sym, ◌∙◌, subst}
use Rattle.script_model.specs.Sexp.{Place, Sexp, leaf, group, Sexps, none, more, symbol, numeral, string, place_of}
use Rattle.script_model.specs.Script.{declare, define, claim, minimize, check, ineffective}
use Rattle.script_model.specs.Reading.{found}
use Rattle.std.specs.Str.Parse.{digits_value}
use Rattle.smt_script.specs.Commands.{Word, sets_logic, informs, echoes, gets_model, gets_values, declares, declares_function, defines, asserts, minimizes, checks, exits, pushes, pops, assumes, drops, restarts, command_words, logics, SortForm, no_sort, other_sort, one_sort, sort_form, Arguments, no_arguments, some_arguments, wrong_arguments, arguments, Parameters, known_parameters, other_parameters, wrong_parameters, parameters, Before, Said, says, fails, one_step, with_logic, is_logic, declaration, definition, checking, with_check, with_goal, with_levels, has_room, most_levels, assumptions, assumed, assuming, by_word, by_head, one_command, CommandsRead, steps, command_fault, at_end, no_check, nowhere, joined, next_before, steps_from, steps_of, at_start, bad_command, left_out, too_many_checks, too_many_levels}
use Rattle.smt_script.specs.Forms.{is_end}
use Rattle.smt_script.specs.Levels.{Asked, Levels, Step, command, opens, closes, resets, asks_values, after_step, asked_from, checks_of, no_levels}
use Rattle.script_reading.specs.Session.{is_check}

abbrev has_check : List Step → Bool
has_check [] = false
has_check (s ∷ rest) = cond (is_check s) true (has_check rest)

later-check : (b x : Bool) → x ≡ true → cond b true x ≡ true
later-check true x h = refl
later-check false x h = h

check-behind : (xs ys : List Step) → has_check ys ≡ true → has_check (xs ++ ys) ≡ true
check-behind [] ys h = h
check-behind (x ∷ xs) ys h = later-check (is_check x) (has_check (xs ++ ys)) (check-behind xs ys h)

kept-check : (b x y : Bool) → (x ≡ true → y ≡ true) → cond b true x ≡ true → cond b true y ≡ true
kept-check true x y f h = refl
kept-check false x y f h = f h

check-before : (xs ys : List Step) → has_check xs ≡ true → has_check (xs ++ ys) ≡ true
check-before [] ys h = cc
check-before (x ∷ xs) ys h = kept-check (is_check x) (has_check xs) (has_check (xs ++ ys)) (check-before xs ys) h

-- ---- a command that is counted as a check has one

abbrev Counts : Before → Said → Type 0
Counts b (says b' ss) = (b'.checks ≡ b.checks) ⊎ (has_check ss ≡ true)
Counts b (fails f) = Unit {0}

counts-cond : (t : Bool) (b : Before) (x y : Said) → Counts b x → Counts b y → Counts b (cond t x y)
counts-cond true b x y h k = h
counts-cond false b x y h k = k

counts-logic : (b : Before) (at : Place) (t : Bool) → Counts b (with_logic b at t)
counts-logic b at true = inl refl
counts-logic b at false = tt

counts-declaration : (b : Before) (at : Place) (f : List ℕ) (args : Arguments) (s : SortForm) → Counts b (declaration b at f args s)
counts-declaration b at f wrong_arguments s = tt
counts-declaration b at f no_arguments (one_sort s) = inl refl
counts-declaration b at f no_arguments no_sort = tt
counts-declaration b at f no_arguments other_sort = tt
counts-declaration b at f some_arguments no_sort = tt
counts-declaration b at f some_arguments other_sort = tt
counts-declaration b at f some_arguments (one_sort s) = tt

counts-definition : (b : Before) (at : Place) (f : List ℕ) (params : Parameters) (s : SortForm) (body : Sexp) → Counts b (definition b at f params s body)
counts-definition b at f wrong_parameters s body = tt
counts-definition b at f (known_parameters params) (one_sort s) body = inl refl
counts-definition b at f (known_parameters params) no_sort body = tt
counts-definition b at f (known_parameters params) other_sort body = tt
counts-definition b at f other_parameters no_sort body = tt
counts-definition b at f other_parameters other_sort body = tt
counts-definition b at f other_parameters (one_sort s) body = tt

counts-checking : (b : Before) (at : Place) → Counts b (checking b at)
counts-checking b at = counts-cond (has_room b) b (says (with_check b) (one_step (command (check at)))) (fails too_many_checks) (inr refl) tt

counts-assuming : (b : Before) (at : Place) (es : Sexps) → Counts b (assuming b at es)
counts-assuming b at es =
    let there : has_check (assumed at es) ≡ true = check-behind (opens at 1 ∷ []) (assumptions at es ++ command (check at) ∷ closes at 1 ∷ []) (check-behind (assumptions at es) (command (check at) ∷ closes at 1 ∷ []) refl) in
    counts-cond (is_end es) b (checking b at) _ (counts-checking b at)
    (counts-cond (nat_le (suc b.levels) most_levels) b _ (fails too_many_levels)
    (counts-cond (has_room b) b (says (with_check b) (assumed at es)) (fails too_many_checks) (inr there) tt) tt)

counts-word : (b : Before) (at : Place) (w : Word) (args : Sexps) → Counts b (by_word b at w args)
counts-word b at sets_logic (more (leaf _ (symbol l)) none) = counts-cond b.logic b (fails bad_command) (with_logic b at (is_logic (found l logics))) tt (counts-logic b at (is_logic (found l logics)))
counts-word b at informs args = inl refl
counts-word b at echoes (more (leaf _ (string t)) none) = inl refl
counts-word b at gets_model none = inl refl
counts-word b at gets_values (more (group _ (more e es)) none) = inl refl
counts-word b at declares (more (leaf _ (symbol f)) (more s none)) = counts-declaration b at f no_arguments (sort_form s)
counts-word b at declares_function (more (leaf _ (symbol f)) (more (group _ args) (more s none))) = counts-declaration b at f (arguments args) (sort_form s)
counts-word b at defines (more (leaf _ (symbol f)) (more (group _ params) (more s (more body none)))) = counts-definition b at f (parameters params) (sort_form s) body
counts-word b at asserts (more e none) = inl refl
counts-word b at minimizes (more t none) = counts-cond b.goal b (fails left_out) (says (with_goal b) (one_step (command (minimize at t)))) tt (inl refl)
counts-word b at checks none = counts-checking b at
counts-word b at exits none = inl refl
counts-word b at pushes (more (leaf _ (numeral digits)) none) =
    counts-cond (nat_le (b.levels + digits_value 10 digits) most_levels) b (says (with_levels b (b.levels + digits_value 10 digits)) (one_step (opens at (digits_value 10 digits)))) (fails too_many_levels) (inl refl) tt
counts-word b at pops (more (leaf _ (numeral digits)) none) =
    counts-cond (nat_le (digits_value 10 digits) b.levels) b (says (with_levels b (b.levels - digits_value 10 digits)) (one_step (closes at (digits_value 10 digits)))) (fails bad_command) (inl refl) tt
counts-word b at assumes (more (group _ es) none) = counts-assuming b at es
counts-word b at drops none = inl refl
counts-word b at restarts none = inl refl
counts-word b at _ _ = tt

counts-head : (b : Before) (at : Place) (w : Option Word) (args : Sexps) → Counts b (by_head b at w args)
counts-head b at None args = tt
counts-head b at (Some w) args = counts-word b at w args

counts-command : (b : Before) (e : Sexp) → Counts b (one_command b e)
counts-command b (group at (more (leaf _ (symbol w)) args)) = counts-head b at (found w command_words) args
counts-command b _ = tt

-- ---- all commands

abbrev Checked : Before → CommandsRead → Type 0
Checked b (steps ss) = b.checks ≡ 0 → has_check ss ≡ true
Checked b (command_fault at f) = Unit {0}

checked-end : (b : Before) (t : Bool) → nat_le b.checks 0 ≡ t → Checked b (cond t (command_fault nowhere no_check) (steps []))
checked-end b true h = tt
checked-end b false h = λ e. absurd (true≢false (sym (ap (λ (n : ℕ). nat_le n 0) e) ∙ h))

checked-joined : (b : Before) (at : Place) (x : Said) (r : CommandsRead) → Counts b x → Checked (next_before b x) r → Checked b (joined at x r)
checked-joined b at (fails f) r h k = tt
checked-joined b at (says b' ss) (steps rest) (inl same) k = λ e. check-behind ss rest (k (same ∙ e))
checked-joined b at (says b' ss) (steps rest) (inr there) k = λ e. check-before ss rest there
checked-joined b at (says b' ss) (command_fault at' f) h k = tt

checked-next : (b : Before) (e : Sexp) (rest : List Sexp) → Checked (next_before b (one_command b e)) (steps_from (next_before b (one_command b e)) rest) → (t : Bool) →
    Checked b (cond t (at_end b) (joined (place_of e) (one_command b e) (steps_from (next_before b (one_command b e)) rest)))
checked-next b e rest h true = checked-end b (nat_le b.checks 0) refl
checked-next b e rest h false = checked-joined b (place_of e) (one_command b e) (steps_from (next_before b (one_command b e)) rest) (counts-command b e) h

checked-from : (b : Before) (es : List Sexp) → Checked b (steps_from b es)
checked-from b [] = checked-end b (nat_le b.checks 0) refl
checked-from b (e ∷ rest) = checked-next b e rest (checked-from (next_before b (one_command b e)) rest) b.ended

-- ---- and asks something

asked-left : (l : Levels) (ss : List Step) → has_check ss ≡ true → (a : Asked) × (later : List Asked) × (asked_from l ss ≡ a ∷ later)
asked-left l [] h = cc
asked-left l (command (check at) ∷ rest) h = (record { at = at; script = l.inner ++ (check at ∷ []) }, asked_from l rest, refl)
asked-left l (command (declare at x s) ∷ rest) h = asked-left (after_step l (command (declare at x s))) rest h
asked-left l (command (define at f params s body) ∷ rest) h = asked-left (after_step l (command (define at f params s body))) rest h
asked-left l (command (claim at e) ∷ rest) h = asked-left (after_step l (command (claim at e))) rest h
asked-left l (command (minimize at t) ∷ rest) h = asked-left (after_step l (command (minimize at t))) rest h
asked-left l (command (ineffective at) ∷ rest) h = asked-left l rest h
asked-left l (opens at n ∷ rest) h = asked-left (after_step l (opens at n)) rest h
asked-left l (closes at n ∷ rest) h = asked-left (after_step l (closes at n)) rest h
asked-left l (resets at ∷ rest) h = asked-left (after_step l (resets at)) rest h
asked-left l (asks_values at es ∷ rest) h = asked-left l rest h

pub has_asked : (es : List Sexp) (ss : List Step) → steps_of es ≡ steps ss → (a : Asked) × (later : List Asked) × (checks_of ss ≡ a ∷ later)
has_asked es ss e = asked-left no_levels ss (subst (λ (r : CommandsRead). Checked at_start r) e (checked-from at_start es) refl)
