-- How many states a line leaves is told by the line alone, so lawful trees are shaped.
use Rattle.std.proofs.Common.{◌≡◌, List, Bool, true, false, not, cond, Option, Some, None, refl, subst}
use Rattle.poly_graph.specs.Problem.{Problem}
use Rattle.interval_model.specs.Space.{Space}
use Rattle.cover_model.specs.State.{State, Loosenings, may}
use Rattle.cover_model.specs.Rules.{is_void_by_squares, Line, narrow_by, end_by, mark_by, branch_by, stay_by, Ending, void_by, by_squares, false_form, by_lemma, Left, closed, one, two, stays, rule, ending, when, pulled, voided, can_narrow, narrowed_to, can_mark, marked, can_branch, first_child, second_child, can_stay, lemma_covers}
use Rattle.cover_model.specs.Derivation.{at_closed, at_left, at_step, at_fork}
use Rattle.cert_joined.specs.Covers.{Arity, ends, goes_on, splits, arity}
use Rattle.cert_joined.specs.Laws.{LawfulIsShaped}

abbrev pub left_arity : Left → Arity
left_arity closed = ends
left_arity stays = ends
left_arity (one S) = goes_on
left_arity (two S T) = splits

-- what the rule leaves, if anything, are so many
abbrev HasArity : Arity → Option Left → Type 0
HasArity a None = Unit {0}
HasArity a (Some x) = a ≡ left_arity x

when-has : (t : Bool) (x : Left) → HasArity (left_arity x) (when t x)
when-has true x = refl
when-has false x = tt

pulled-has : (S : State) (o : Option Space) → HasArity goes_on (pulled S o)
pulled-has S None = tt
pulled-has S (Some space) = refl

voided-has : (o : Option Space) → HasArity ends (voided o)
voided-has None = refl
voided-has (Some space) = tt

cond-has : (a : Arity) (t : Bool) (o : Option Left) → HasArity a o → HasArity a (cond t o None)
cond-has a true o h = h
cond-has a false o h = tt

ending-has : (p : Problem) (s : Loosenings) (lemmas : List State) (S : State) (e : Ending) → HasArity ends (ending p s lemmas S e)
ending-has p s lemmas S (void_by n) = cond-has ends (can_narrow p s S n) (voided (narrowed_to p s S n)) (voided-has (narrowed_to p s S n))
ending-has p s lemmas S (by_squares ms bs) = when-has (is_void_by_squares p s S ms bs) closed
ending-has p s lemmas S false_form = when-has (not (may p s S)) closed
ending-has p s lemmas S (by_lemma i) = when-has (lemma_covers lemmas i S) closed

rule-has : (p : Problem) (s : Loosenings) (lemmas : List State) (S : State) (l : Line) → HasArity (arity l) (rule p s lemmas S l)
rule-has p s lemmas S (narrow_by n) = cond-has goes_on (can_narrow p s S n) (pulled S (narrowed_to p s S n)) (pulled-has S (narrowed_to p s S n))
rule-has p s lemmas S (end_by e) = ending-has p s lemmas S e
rule-has p s lemmas S (mark_by m) = when-has (can_mark p s lemmas S m) (one (marked S m))
rule-has p s lemmas S (branch_by b) = when-has (can_branch p s S b) (two (first_child S b) (second_child S b))
rule-has p s lemmas S (stay_by t) = when-has (can_stay p s S t) stays

pub arity_is : (p : Problem) (s : Loosenings) (lemmas : List State) (S : State) (l : Line) (x : Left) → rule p s lemmas S l ≡ Some x → arity l ≡ left_arity x
arity_is p s lemmas S l x e = subst (λ (o : Option Left). HasArity (arity l) o) e (rule-has p s lemmas S l)

pub lawful_is_shaped : LawfulIsShaped
lawful_is_shaped p s lemmas _ _ _ (at_closed {S = S} {l = l} e) = arity_is p s lemmas S l closed e
lawful_is_shaped p s lemmas _ _ _ (at_left {S = S} {l = l} e) = arity_is p s lemmas S l stays e
lawful_is_shaped p s lemmas _ _ _ (at_step {S = S} {S' = S'} {l = l} {t = t} {rest = rest} e r) = (arity_is p s lemmas S l (one S') e, lawful_is_shaped p s lemmas S' t rest r)
lawful_is_shaped p s lemmas _ _ _ (at_fork {S = S} {S' = S'} {S'' = S''} {l = l} {t = t} {u = u} {rest = rest} {rest' = rest'} e r r') =
    (arity_is p s lemmas S l (two S' S'') e, lawful_is_shaped p s lemmas S' t rest r, lawful_is_shaped p s lemmas S'' u rest' r')
