-- The script that is made, and what refuses it.
use Rattle.std.proofs.Common.{◌≡◌, ◌≢◌, ◌<◌, ◌≤◌, ◌+◌, ℕ, List, [], ◌∷◌, ◌++◌, map, take, length, get_or, add-one, Option, Some, None, refl, ap, ap₂, sym, ◌∙◌, subst, append_assoc, append-nil}
use Rattle.std.proofs.Math.Seq.{take-suc}
use Rattle.std.proofs.lemmas.List.{length-map, map-append, take_all}
use Rattle.script_fault.specs.Answers.{IsFaultOrMemory}
use Rattle.script_fault.specs.declared.fault.FaultKind.{FaultKind}
use Rattle.script_fault.specs.declared.fault.FaultKind.TheVariants.{TooMany, LeftOut}
use Rattle.script_fault.specs.declared.fault.ReadError.{ReadError}
use Rattle.script_fault.specs.declared.fault.ReadError.TheVariants.{Fault, Memory}
use Rattle.script_fault.specs.declared.fault.ScriptFault.{ScriptFault}
use Rattle.script_fault.specs.declared.limit.Limit.TheVariants.{Size}
use Rattle.script_model.specs.Sexp.{Place, Sexp}
use Rattle.script_model.specs.Script.{Command, declare, define, claim, minimize, check, ineffective}
use Rattle.script_roots.specs.Fresh.{Table, asserted, fresh_of, left_out, left_out_of, named_from, once}
use Rattle.script_roots.specs.Ranges.{Ranges, enclosed}
use Rattle.script_roots.specs.Tree.{Tree}
use Rattle.ival.specs.Views.{interval_of}
use Rattle.ival.specs.declared.ends.Ival.{Ival}
use Rattle.smt_sexp.specs.Writing.{Keeps, Written}
use Rattle.smt_sexp.specs.declared.sexps.Sexps as arena
use Rattle.smt_sexp.specs.declared.writing.Writer.{Writer}
use Rattle.script_roots.specs.Reached.{first_beyond, too_many}
use Rattle.script_roots.specs.Refused.{beyond_unless_empty, left_out_form, most_tokens, refusal, refused_at, too_large, too_long, tokens_from, command_tokens}
use Rattle.script_roots.specs.Rewritten.{assertion, claims_of_all, declaration, declarations, rewritten, rewritten_by, script_table, unless_empty}
use Rattle.script_roots.specs.TreeBounds.{declared_ranges}
use Rattle.smt_sexp.specs.Views.{place_of}
use Rattle.root_rewriting.specs.Asserted.{IsAtFirst, IsRefusal}
use Rattle.root_rewriting.specs.Placing.{InWriting, IsTooLarge, placed_command}
use Rattle.root_rewriting.specs.Rewriting.{refusal_fault, refused_later}
use Rattle.root_rewriting.specs.Enclosures.{AreEnclosures}
use Rattle.root_rewriting.specs.Table.{entry_of}
use Rattle.root_rewriting.specs.declared.constants.Fresh.{Fresh}
use Rattle.root_rewriting.specs.declared.placed.Placed.{Placed}
use Rattle.root_rewriting.proofs.Rootless.{ArePlainClaims}

-- ---- the tokens of its assertions

tokens-join : (xs ys : List Command) → tokens_from (xs ++ ys) ≡ tokens_from xs ++ tokens_from ys
tokens-join [] ys = refl
tokens-join (c ∷ xs) ys = ap (λ ns. command_tokens c ++ ns) (tokens-join xs ys) ∙ sym (append_assoc (command_tokens c) (tokens_from xs) (tokens_from ys))

none-declared : (script : List Command) → tokens_from (declarations script) ≡ []
none-declared [] = refl
none-declared (declare at x sort ∷ rest) = none-declared rest
none-declared (define at f params sort body ∷ rest) = none-declared rest
none-declared (claim at e ∷ rest) = none-declared rest
none-declared (minimize at t ∷ rest) = none-declared rest
none-declared (check at ∷ rest) = none-declared rest
none-declared (ineffective at ∷ rest) = none-declared rest

none-introduced : (table : Table) → tokens_from (map declaration table) ≡ []
none-introduced [] = refl
none-introduced (entry ∷ rest) = none-introduced rest

abbrev pub claims_in : Ranges → Table → List Command → List Command
claims_in ranged table script = claims_of_all ranged table table ++ map (assertion table) (asserted script)

apart : (ranged : Ranges) (table : Table) (script : List Command) → rewritten_by ranged table script ≡ (declarations script ++ map declaration table) ++ claims_in ranged table script
apart ranged table script = append_assoc (declarations script ++ map declaration table) (claims_of_all ranged table table) (map (assertion table) (asserted script))

pub rewritten_tokens : (ranged : Ranges) (table : Table) (script : List Command) → tokens_from (rewritten_by ranged table script) ≡ tokens_from (claims_in ranged table script)
rewritten_tokens ranged table script =
    ap tokens_from (apart ranged table script) ∙ tokens-join (declarations script ++ map declaration table) (claims_in ranged table script) ∙
    ap (λ ns. ns ++ tokens_from (claims_in ranged table script)) (tokens-join (declarations script) (map declaration table) ∙ ap₂ (λ ms ns. ms ++ ns) (none-declared script) (none-introduced table))

-- its commands, by their parts
pub made_of : (ranged : Ranges) (table : Table) (script declared introduced claims : List Command) → declared ≡ declarations script → introduced ≡ map declaration table → claims ≡ claims_in ranged table script →
    declared ++ introduced ++ claims ≡ rewritten_by ranged table script
made_of ranged table script declared introduced claims d i c =
    ap₂ (λ xs ys. xs ++ ys) (ap₂ (λ xs ys. xs ++ ys) d i) c ∙ sym (apart ranged table script)

-- ---- a table that is not empty

unless-some : (table : Table) (script other : List Command) → table ≢ [] → unless_empty table script other ≡ other
unless-some [] script other some = absurd (some refl)
unless-some (entry ∷ rest) script other some = refl

beyond-some : (table : Table) (script : List Command) → table ≢ [] → beyond_unless_empty table script ≡ first_beyond most_tokens 0 (tokens_from script)
beyond-some [] script some = absurd (some refl)
beyond-some (entry ∷ rest) script some = refl

module _ (bound : Option ℕ) (script : List Command) (some : script_table bound script ≢ []) where
  pub rewritten_is : rewritten bound script ≡ rewritten_by (declared_ranges bound script) (script_table bound script) script
  rewritten_is = unless-some (script_table bound script) script (rewritten_by (declared_ranges bound script) (script_table bound script) script) some

  pub too_long_is : too_long bound script ≡ first_beyond most_tokens 0 (tokens_from (rewritten_by (declared_ranges bound script) (script_table bound script) script))
  too_long_is = beyond-some (script_table bound script) (rewritten bound script) some ∙ ap (λ s. first_beyond most_tokens 0 (tokens_from s)) rewritten_is

-- or is empty
pub too_long_none : (bound : Option ℕ) (script : List Command) → script_table bound script ≡ [] → too_long bound script ≡ None
too_long_none bound script e = ap (λ t. beyond_unless_empty t (rewritten bound script)) e

-- ---- refusals

fault-is : (f : ScriptFault) (kind : FaultKind) → f.kind ≡ kind → record { at = f.at; kind = kind } ≡ f
fault-is f kind e = ap (λ k. record { at = f.at; kind = k }) (sym e)

pub too_many_refused : (bound : Option ℕ) (script : List Command) (e : ReadError) → IsRefusal e → IsAtFirst (too_many script) e → IsFaultOrMemory e (refusal_fault (refusal bound script))
too_many_refused bound script (Fault f) kind first =
    ap (λ o. refusal_fault (refused_at too_large o (refused_later bound script))) first ∙ ap (λ g. Some g) (fault-is f (TooMany Size) kind)
too_many_refused bound script Memory kind first = tt

pub later_refused : (bound : Option ℕ) (script : List Command) (e : ReadError) → too_many script ≡ None → IsFaultOrMemory e (refusal_fault (refused_later bound script)) → IsFaultOrMemory e (refusal_fault (refusal bound script))
later_refused bound script (Fault f) none h = ap (λ o. refusal_fault (refused_at too_large o (refused_later bound script))) none ∙ h
later_refused bound script Memory none h = tt

pub too_long_refused : (bound : Option ℕ) (script : List Command) (e : ReadError) → left_out script ≡ None → IsTooLarge e (too_long bound script) → IsFaultOrMemory e (refusal_fault (refused_later bound script))
too_long_refused bound script (Fault f) none h =
    ap (λ o. refusal_fault (refused_at left_out_form o (refused_at too_large (too_long bound script) None))) none ∙ ap (λ o. refusal_fault (refused_at too_large o None)) h.1 ∙
    ap (λ g. Some g) (fault-is f (TooMany Size) h.0)
too_long_refused bound script Memory none h = tt

pub accepted_later : (bound : Option ℕ) (script : List Command) → left_out script ≡ None → too_long bound script ≡ None → refused_later bound script ≡ None
accepted_later bound script l t = ap₂ (λ o p. refused_at left_out_form o (refused_at too_large p None)) l t

pub accepted : (bound : Option ℕ) (script : List Command) → too_many script ≡ None → refused_later bound script ≡ None → refusal bound script ≡ None
accepted bound script m l = ap₂ (λ o r. refused_at too_large o r) m l

-- ---- a script without roots and quotients

pub plain_table : (bound : Option ℕ) (script : List Command) → ArePlainClaims (asserted script) → script_table bound script ≡ []
plain_table bound script p = ap (λ us. named_from 0 0 (once [] us)) (p.fresh (declared_ranges bound script))

-- ---- lists that grow

pub next_mapped : {A B C : Type 0} (f : A → C) (g : B → C) (first : List C) (old new : List A) (x : A) (xs : List B) (i : ℕ) (y : B) → i < length xs → y ≡ get_or xs i y → new ≡ old ++ (x ∷ []) → f x ≡ g y →
    map f old ≡ first ++ map g (take i xs) → map f new ≡ first ++ map g (take (i + 1) xs)
next_mapped f g first old new x xs i y lt is added same h =
    let taken : take (i + 1) xs ≡ take i xs ++ (y ∷ []) = ap (λ n. take n xs) (add-one i) ∙ take-suc xs i y lt ∙ ap (λ z. take i xs ++ (z ∷ [])) (sym is) in
    ap (map f) added ∙ map-append f old (x ∷ []) ∙ ap₂ (λ us z. us ++ (z ∷ [])) h same ∙ append_assoc first (map g (take i xs)) (g y ∷ []) ∙
    ap (λ us. first ++ us) (sym (map-append g (take i xs) (y ∷ []))) ∙ ap (λ us. first ++ map g us) (sym taken)

pub all_mapped : {A B C : Type 0} (f : A → C) (g : B → C) (first : List C) (old : List A) (xs : List B) (i : ℕ) → length xs ≤ i → map f old ≡ first ++ map g (take i xs) → map f old ≡ first ++ map g xs
all_mapped f g first old xs i le h = h ∙ ap (λ us. first ++ map g us) (take_all i xs le)

-- ---- what was written

pub kept_all : (w : Writer) (s : arena.Sexps) (ps : List Placed) (all : List Command) → InWriting w ps all [] → Keeps w s → map (placed_command s) ps ≡ all
kept_all w s ps all i keeps =
    i.kept s (λ later before e is. keeps later before e (subst (λ (us : List Sexp). Written w [] us) is i.stands)) ∙ sym (i.split ∙ append-nil i.done)

pub too_large_same : (e : ReadError) (o p : Option Place) → o ≡ p → IsTooLarge e p → IsTooLarge e o
too_large_same (Fault f) o p same h = (h.0, same ∙ h.1)
too_large_same Memory o p same h = tt

-- ---- a table

pub some_entries : (ts : List Tree) (fs : List Fresh) (table : Table) → (length fs ≡ 0 → ⊥) → map (entry_of ts) fs ≡ table → table ≢ []
some_entries ts [] table some is = absurd (some refl)
some_entries ts (f ∷ fs) table some is = λ none. go (is ∙ none)
  where
    go : entry_of ts f ∷ map (entry_of ts) fs ≡ [] → ⊥
    go e = cc

pub enclosed_length : (names : Ranges) (ts : List Tree) (ranges : List Ival) → AreEnclosures names ts ranges → length ranges ≡ length ts
enclosed_length names ts ranges e = sym (length-map ranges interval_of) ∙ ap length e ∙ length-map ts (enclosed names)
