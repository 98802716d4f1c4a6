-- What names stand for while a script is built: in both meanings, by what is kept of them.
use Rattle.std.specs.Prelude.{◌≡◌, ℕ, zero, suc, ◌<◌, List, [], ◌∷◌, ◌++◌, map, length, Option, Some, None, cond, option_map, slice_get}
use Rattle.std.specs.Borrow.{Bor}
use Rattle.std.specs.HashMap.{HashMap, get_by}
use Rattle.std.specs.Str.{bytes_eq}
use Rattle.dyadic.specs.Point.{Sort}
use Rattle.poly_graph.specs.Problem.{HasSort}
use Rattle.script_model.specs.Reading.{Meanings, Names, Named, meaning, value, found, operators}
use Rattle.script_model.specs.Script.{defined}
use Rattle.script_model.specs.Declared.{Bounding, bounding, constant_bounding}
use Rattle.script_forms.specs.Work.{Work, as_work}
use Rattle.script_forms.specs.Walk.{constant_work}
use Rattle.smt_sexp.specs.Arena.{expression_at}
use Rattle.smt_sexp.specs.declared.sexps.Sexps as arena
use Rattle.smt_script.specs.Views.{parameter_of, sort_of}
use Rattle.value_build.specs.Making.{Making}
use Rattle.value_build.specs.Values.{IsValue}
use Rattle.value_build.specs.declared.value.Value.{Value}
use Rattle.problem_build.specs.declared.top.Known.{Known}
use Rattle.problem_build.specs.declared.top.Known.TheVariants as known
use Rattle.problem_build.specs.declared.top.Entry.{Entry}
use Rattle.problem_build.specs.declared.top.Top.{Top}
use Rattle.problem_build.specs.declared.locals.Local.{Local}
use Rattle.problem_build.specs.Locals.{local_value}
use Rattle.problem_build.specs.declared.names.Head.{Head}
use Rattle.problem_build.specs.declared.names.Head.TheVariants as head
use Rattle.smt_script.specs.declared.command.Parameter.{Parameter}
use Rattle.sort_check.specs.Views.{operator_of}

-- ---- look-up

abbrev pub if_named : List ℕ → ℕ → Option Top → Option (ℕ × Known) → Option (ℕ × Known)
if_named x n None before = before
if_named x n (Some t) before = cond (bytes_eq x t.name.now) (Some (n, t.known)) before

-- the last of this name among so many names of the top, with the number of those before it
abbrev pub top_known : List ℕ → List Top → ℕ → Option (ℕ × Known)
top_known x top zero = None
top_known x top (suc n) = if_named x n (slice_get top n) (top_known x top n)

abbrev pub top_of : Entry → Top
top_of e = e.top

-- the number of those before it
abbrev pub top_place : List ℕ → List Top → ℕ → Option ℕ
top_place x top n = option_map (λ p. p.0) (top_known x top n)

-- the map has the last place of each name, and each name the last place of its own before it
pub record IsTable {S : Type 0} (entries : List Entry) (last : HashMap (Bor (List ℕ)) ℕ S) : Type 0 where
  pub last_places : (x : List ℕ) → get_by (λ k. bytes_eq x k.now) last ≡ top_place x (map top_of entries) (length entries)
  pub earlier_places : (i : ℕ) (e : Entry) → slice_get entries i ≡ Some e → e.earlier ≡ top_place e.top.name.now (map top_of entries) i

-- what a name stands for
abbrev pub IsHead : List ℕ → List Top → ℕ → List Local → Option Head → Type 0
IsHead x top n locals None = (found x operators ≡ None) × (local_value x locals ≡ None) × (top_known x top n ≡ None)
IsHead x top n locals (Some (head.Operator o)) = found x operators ≡ Some (operator_of o)
IsHead x top n locals (Some (head.Local v)) = (found x operators ≡ None) × (local_value x locals ≡ Some v)
IsHead x top n locals (Some (head.Constant i axis sort)) = (found x operators ≡ None) × (local_value x locals ≡ None) × (top_known x top n ≡ Some (i, known.Constant axis sort))
IsHead x top n locals (Some (head.Function i params body)) = (found x operators ≡ None) × (local_value x locals ≡ None) × (top_known x top n ≡ Some (i, known.Function params body))

-- parameters that stand for values
abbrev pub bound_locals : List Parameter → List Value → List Local
bound_locals [] vs = []
bound_locals (p ∷ ps) [] = []
bound_locals (p ∷ ps) (v ∷ vs) = record { name = p.name; value = v } ∷ bound_locals ps vs

-- ---- what they stand for

-- a declared constant stands for what is made of its number and sort, a definition for a function
abbrev pub known_of : {V : Type 0} → Meanings V → (ℕ → Sort → V) → arena.Sexps → Names V → Known → Named V
known_of M constant s names (known.Constant axis sort) = value (constant axis (sort_of sort))
known_of M constant s names (known.Function params body) = defined M names (map parameter_of params.now) (expression_at s body)

abbrev pub entry_of : {V : Type 0} → Meanings V → (ℕ → Sort → V) → arena.Sexps → Names V → Option Top → Names V
entry_of M constant s names None = names
entry_of M constant s names (Some t) = (t.name.now, known_of M constant s names t.known) ∷ names

-- so many names of the top, the last first, each of which sees those before it
abbrev pub top_names : {V : Type 0} → Meanings V → (ℕ → Sort → V) → arena.Sexps → List Top → ℕ → Names V
top_names M constant s top zero = []
top_names M constant s top (suc n) = entry_of M constant s (top_names M constant s top n) (slice_get top n)

abbrev pub work_names : arena.Sexps → List Top → ℕ → Names Work
work_names s top n = top_names as_work constant_work s top n

abbrev pub bound_names_of : arena.Sexps → List Top → ℕ → Names Bounding
bound_names_of s top n = top_names bounding constant_bounding s top n

-- the work and the bounds of the expression at a place, where all names of the top are seen
abbrev pub work_at : arena.Sexps → List Top → ℕ → Work
work_at s top at = meaning as_work (work_names s top (length top)) (expression_at s at)

abbrev pub bounding_at : arena.Sexps → List Top → ℕ → Bounding
bounding_at s top at = meaning bounding (bound_names_of s top (length top)) (expression_at s at)

-- these locals stand for these names: values, with what is made of them
abbrev pub AreLocals : Making → List Local → Names Work → Names Bounding → Type 0
AreLocals m [] [] [] = Unit {0}
AreLocals m (l ∷ ls) ((x, value w) ∷ ns) ((y, value b) ∷ bs) = (x ≡ l.name.now) × (y ≡ l.name.now) × IsValue m w.outcome b l.value × AreLocals m ls ns bs
AreLocals m _ _ _ = ⊥

-- the constants of the top have their sorts
abbrev pub KnownFits : List Sort → Known → Type 0
KnownFits sorts (known.Constant axis sort) = HasSort (sort_of sort) sorts axis × (axis < length sorts)
KnownFits sorts (known.Function params body) = Unit {0}

abbrev pub TopFits : List Sort → List Top → Type 0
TopFits sorts top = (i : ℕ) (t : Top) → slice_get top i ≡ Some t → KnownFits sorts t.known

-- what names stand for, in both meanings
pub record Knows (m : Making) (s : arena.Sexps) (top : List Top) (visible : ℕ) (locals : List Local) (names : Names Work) (bnames : Names Bounding) : Type 0 where
  pub near : Names Work
  pub bounded : Names Bounding
  pub stand : AreLocals m locals near bounded
  pub works : names ≡ near ++ work_names s top visible
  pub bounds : bnames ≡ bounded ++ bound_names_of s top visible
