-- A script without a fault of its sorts declares few constants.
use Rattle.std.proofs.Common.{◌≡◌, ◌≤◌, ◌<◌, ◌+◌, ◌∷◌, ◌++◌, [], ℕ, suc, List, Bool, true, false, cond, nat_lt, Some, None, length, refl, ap, ◌∙◌, arith, length-append}
use Rattle.std.proofs.lemmas.Bool.{ltb-true}
use Rattle.std.proofs.lemmas.List.{length-map}
use Rattle.script_model.specs.Sexp.{Place}
use Rattle.script_model.specs.Reading.{Names, value}
use Rattle.script_model.specs.Script.{Command, declare, define, claim, minimize, check, ineffective, constants_of, sorts_of, sort_of_constant}
use Rattle.sort_check.specs.Sorts.{Sorted, of_sort, Finding, too_many_axes, then_on, new_name, room_for, signature, sort_fault_from, sort_fault}
use Rattle.problem_build.proofs.Standing.{sorts_more}

then-none : (x y : Finding) → then_on x y ≡ None → (x ≡ None) × (y ≡ None)
then-none None y e = (refl, e)
then-none (Some x) y e = cc

within-room : (n : ℕ) (at : Place) → room_for n at ≡ None → n < 1024
within-room n at e = by (nat_lt n 1024) refl e
  where
    by : (b : Bool) → nat_lt n 1024 ≡ b → cond {A = Finding} b None (Some (at, too_many_axes)) ≡ None → n < 1024
    by true h e' = ltb-true n 1024 h
    by false h e' = cc

few-from : (n : ℕ) (names : Names Sorted) (cs : List Command) → n ≤ 1024 → sort_fault_from n names cs ≡ None → n + length (constants_of cs) ≤ 1024
few-from n names [] h e = omega (arith, h)
few-from n names (declare at x s ∷ rest) h e =
    let one = then-none (new_name at x names) _ e in
    let two = then-none (room_for n at) _ one.1 in
    let room : n < 1024 = within-room n at two.0 in
    let more = few-from (suc n) ((x, value (of_sort s)) ∷ names) rest (omega (arith, room)) two.1 in
    omega (arith, more)
few-from n names (define at f params s body ∷ rest) h e =
    few-from n ((f, signature params s) ∷ names) rest h (then-none _ _ (then-none _ _ (then-none (new_name at f names) _ e).1).1).1
few-from n names (claim at e' ∷ rest) h e = few-from n names rest h (then-none _ _ e).1
few-from n names (minimize at t ∷ rest) h e = few-from n names rest h (then-none _ _ e).1
few-from n names (check at ∷ rest) h e = few-from n names rest h e
few-from n names (ineffective at ∷ rest) h e = few-from n names rest h e

pub few_constants : (cs : List Command) → sort_fault cs ≡ None → length (constants_of cs) ≤ 1024
few_constants cs e = let h = few-from 0 [] cs (omega arith) e in omega (arith, h)

-- so do its first commands
pub few_before : (cs done rest : List Command) → sort_fault cs ≡ None → cs ≡ done ++ rest → length (sorts_of done) ≤ 1024
few_before cs done rest e split =
    let more : length (sorts_of cs) ≡ length (sorts_of done) + length (sorts_of rest) = ap (λ xs. length (sorts_of xs)) split ∙ ap length (sorts_more done rest) ∙ length-append (sorts_of done) (sorts_of rest) in
    omega (arith, more, few_constants cs e, length-map (constants_of cs) sort_of_constant)
