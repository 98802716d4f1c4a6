-- How many expressions are still to be reached while an expression is walked over.
use Rattle.std.specs.Prelude.{◌≡◌, ℕ, suc, ◌+◌, ◌<◌, ◌≤◌, List, [], ◌∷◌, ◌++◌, map, length, Result, Ok, Err}
use Rattle.script_forms.specs.Walk.{most_size}
use Rattle.smt_sexp.specs.Arena.{expression_at, rest_of}
use Rattle.smt_sexp.specs.declared.sexps.Sexps as arena
use Rattle.smt_script.specs.Views.{parameter_of}
use Rattle.root_rewriting.specs.TreeNames.{names_by}
use Rattle.script_roots.specs.Reached.{Bodies, no_body, total, theory_bodies, reached_in, all_reached, bindings_reached, binding_bodies, definition_body}
use Rattle.root_rewriting.specs.declared.unfold.top.Known.{Known}
use Rattle.root_rewriting.specs.declared.unfold.top.Known.TheVariants as known
use Rattle.root_rewriting.specs.declared.unfold.top.Top.{Top}
use Rattle.root_rewriting.specs.declared.unfold.locals.Local.{Local}
use Rattle.root_rewriting.specs.declared.unfold.stop.Stop.{Stop}
use Rattle.root_rewriting.specs.declared.unfold.stop.Stop.TheVariants as stop
use Rattle.root_rewriting.specs.declared.unfold.names.Head.{Head}
use Rattle.root_rewriting.specs.declared.unfold.names.Head.TheVariants as head
use Rattle.root_rewriting.specs.declared.unfold.frames.Source.{Source}
use Rattle.root_rewriting.specs.declared.unfold.frames.Scope.{Scope}
use Rattle.root_rewriting.specs.declared.unfold.frames.Call.{Call}
use Rattle.root_rewriting.specs.declared.unfold.frames.Let.{Let}
use Rattle.root_rewriting.specs.declared.unfold.frames.Frame.{Frame}
use Rattle.root_rewriting.specs.declared.unfold.frames.Frame.TheVariants as frame
use Rattle.root_rewriting.specs.declared.unfold.frames.Next.{Next}
use Rattle.root_rewriting.specs.declared.unfold.frames.Next.TheVariants as next

-- ---- bodies of names

abbrev pub known_body : arena.Sexps → Bodies → Known → ℕ → ℕ
known_body s names (known.Constant at name) = no_body
known_body s names (known.Function params body) = definition_body names (map parameter_of params.now) (expression_at s body)

-- of so many names of the top
abbrev pub top_bodies : arena.Sexps → List Top → ℕ → Bodies
top_bodies s top n = names_by (known_body s) theory_bodies top n

abbrev pub local_bodies : List Local → Bodies
local_bodies [] = []
local_bodies (l ∷ ls) = (l.name.now, no_body) ∷ local_bodies ls

abbrev pub scope_bodies : arena.Sexps → List Top → Scope → Bodies
scope_bodies s top scope = local_bodies scope.locals.value ++ top_bodies s top scope.visible

-- of what a name stands for
abbrev pub head_body : arena.Sexps → List Top → Head → ℕ → ℕ
head_body s top (head.Function i params body) args = definition_body (top_bodies s top i) (map parameter_of params.now) (expression_at s body) args
head_body s top h args = 0

-- in the expression at a place, where all names of the top are seen
abbrev pub reached_here : arena.Sexps → List Top → ℕ → ℕ
reached_here s top at = reached_in (top_bodies s top (length top)) (expression_at s at)

-- ---- what is ahead

-- of a call, so many of whose arguments are done: the others, and the body
abbrev pub arguments_ahead : arena.Sexps → List Top → Call → ℕ → List ℕ → ℕ
arguments_ahead s top c done left = total left + head_body s top c.head (done + length left)

abbrev pub call_ahead : arena.Sexps → List Top → Call → ℕ → ℕ
call_ahead s top c done = arguments_ahead s top c done (all_reached (scope_bodies s top c.scope) (rest_of s c.next))

-- of a `let`, whose first bindings bind this: the other bindings, and the body
abbrev pub let_ahead : arena.Sexps → List Top → Let → Bodies → ℕ
let_ahead s top l done =
    bindings_reached (scope_bodies s top l.scope) (rest_of s l.next) +
    reached_in ((done ++ binding_bodies (rest_of s l.next)) ++ scope_bodies s top l.scope) (expression_at s l.body)

-- behind the tree for which a frame waits
abbrev pub frame_ahead : arena.Sexps → List Top → Frame → ℕ
frame_ahead s top (frame.Call c) = call_ahead s top c (suc (length c.parts.items))
frame_ahead s top (frame.Let l x) = let_ahead s top l (local_bodies l.bound ++ ((x.now, no_body) ∷ []))

abbrev pub ahead : arena.Sexps → List Top → Next → ℕ
ahead s top (next.Back k) = 0
ahead s top (next.Enter scope at) = reached_in (scope_bodies s top scope) (expression_at s at)
ahead s top (next.Wait f scope at) = reached_in (scope_bodies s top scope) (expression_at s at) + frame_ahead s top f

-- ---- a turn of the walk

-- so many are ahead of what is done next
abbrev pub GoesOn : {E : Type 0} → arena.Sexps → List Top → ℕ → Result Next E → Type 0
GoesOn s top n (Ok x) = n ≡ ahead s top x
GoesOn s top n (Err e) = Unit {0}

-- so many are reached in a scope, the first of them now
abbrev pub Opens : {E : Type 0} → Source → Scope → (Bodies → ℕ) → Result Next E → Type 0
Opens source scope read (Ok x) = read (scope_bodies source.sexps.now source.top.now scope) ≡ suc (ahead source.sexps.now source.top.now x)
Opens source scope read (Err e) = Unit {0}

-- so many more are reached, which may be; or they may not
abbrev pub Counts : ℕ → ℕ → ℕ → Result ℕ Stop → Type 0
Counts old new n (Ok k) = (new ≡ old + n) × (old ≤ most_size → new ≤ most_size)
Counts old new n (Err stop.TooLarge) = most_size < old + n
Counts old new n (Err stop.Memory) = Unit {0}
