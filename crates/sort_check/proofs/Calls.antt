-- The sorts of calls, of their arguments and of bindings.
use Rattle.std.proofs.Common.{◌≡◌, ℕ, List, [], ◌∷◌, ◌++◌, map, Bool, true, false, cond, Option, Some, None, refl, ap, ◌∙◌, true≢false}
use Rattle.dyadic.specs.Point.{Sort, real_sort}
use Rattle.script_model.specs.Sexp.{Place, Sexp, Sexps, none, more}
use Rattle.script_model.specs.Reading.{Names, found, operators, meaning, meanings, application, call_named, name_meaning, value_named, unknown}
use Rattle.smt_script.specs.Forms.{as_any, is_end}
use Rattle.smt_script.specs.Views.{sort_of, parameter_of}
use Rattle.smt_script.specs.declared.command.Sort as code_sort
use Rattle.sort_check.specs.declared.names.Known.TheVariants as known
use Rattle.sort_check.specs.declared.names.Head.{Head}
use Rattle.sort_check.specs.declared.names.Head.TheVariants as head
use Rattle.sort_check.specs.Sorts.{Sorted, of_sort, mismatched, sorting, first_ill, or_first, placed_call, fit, if_takes, because, one_real}
use Rattle.sort_check.specs.Views.{Heads, bare_sort, sort_seen, sorts_seen}
use Rattle.sort_check.specs.Walking.{call_sort}

-- ---- arguments

abbrev pub any_meanings : Names Sorted → Option (Sexp × Sexps) → List Sorted
any_meanings env None = []
any_meanings env (Some (e, rest)) = meaning sorting env e ∷ meanings sorting env rest

pub meanings_are : (env : Names Sorted) (items : Sexps) → meanings sorting env items ≡ any_meanings env (as_any items)
meanings_are env none = refl
meanings_are env (more e rest) = refl

pub seen_last : (ss : List code_sort.Sort) (s : code_sort.Sort) (rest : List Sorted) → sorts_seen ss ++ (sort_seen s ∷ rest) ≡ sorts_seen (ss ++ s ∷ []) ++ rest
seen_last [] s rest = refl
seen_last (t ∷ ss) s rest = ap (λ r. sort_seen t ∷ r) (seen_last ss s rest)

-- ---- calls

placed : (at : Place) (b : Bool) (s : Sort) → placed_call at (cond b (of_sort s) mismatched) ≡ if_takes at b s
placed at true s = refl
placed at false s = refl

app : (env : Names Sorted) (at : Place) (x : List ℕ) (h : Head) (m : Sorted) (ms : List Sorted) → Heads (Some h) x env →
    application sorting env at x (found x operators) (m ∷ ms) ≡ call_sort at h (m ∷ ms)
app env at x (head.Operator o) m ms e = ap (λ f. application sorting env at x f (m ∷ ms)) e
app env at x (head.Known (known.Value v)) m ms (e, f) = ap (λ o. application sorting env at x o (m ∷ ms)) e ∙ ap (λ n. call_named sorting at x n (m ∷ ms)) f
app env at x (head.Known (known.Function ps r)) m ms (e, f) =
    ap (λ o. application sorting env at x o (m ∷ ms)) e ∙ ap (λ n. call_named sorting at x n (m ∷ ms)) f ∙
    ap (or_first (first_ill (m ∷ ms))) (placed at (fit (map parameter_of ps.now) (m ∷ ms)) (sort_of r))
app env at x (head.Known known.Root) m ms (e, f) =
    ap (λ o. application sorting env at x o (m ∷ ms)) e ∙ ap (λ n. call_named sorting at x n (m ∷ ms)) f ∙ ap (or_first (first_ill (m ∷ ms))) (placed at (one_real (m ∷ ms)) real_sort)

-- a call that is entered
pub call_begins : (env : Names Sorted) (at : Place) (x : List ℕ) (h : Head) (items : Sexps) → Heads (Some h) x env → is_end items ≡ false →
    application sorting env at x (found x operators) (meanings sorting env items) ≡ call_sort at h (meanings sorting env items)
call_begins env at x h none heads e = absurd (true≢false e)
call_begins env at x h (more a rest) heads e = app env at x h (meaning sorting env a) (meanings sorting env rest) heads

-- ---- a name alone

pub alone_is : (env : Names Sorted) (at : Place) (x : List ℕ) (h : Head) → Heads (Some h) x env → name_meaning sorting env at x (found x operators) ≡ bare_sort at h
alone_is env at x (head.Operator o) e = ap (name_meaning sorting env at x) e
alone_is env at x (head.Known (known.Value v)) (e, f) = ap (name_meaning sorting env at x) e ∙ ap (value_named sorting at x) f
alone_is env at x (head.Known (known.Function ps r)) (e, f) = ap (name_meaning sorting env at x) e ∙ ap (value_named sorting at x) f ∙ placed at (fit (map parameter_of ps.now) []) (sort_of r)
alone_is env at x (head.Known known.Root) (e, f) = ap (name_meaning sorting env at x) e ∙ ap (value_named sorting at x) f

pub unknown_alone : (env : Names Sorted) (at : Place) (x : List ℕ) → Heads None x env → name_meaning sorting env at x (found x operators) ≡ because at (unknown x)
unknown_alone env at x (e, f) = ap (name_meaning sorting env at x) e ∙ ap (value_named sorting at x) f
