-- Some tree joins those at a place, and so what is joined can be finished.
use Rattle.std.proofs.Common.{◌≡◌, ◌<◌, ◌≤◌, ◌+◌, ◌⊎◌, inl, inr, ℕ, zero, suc, List, [], ◌∷◌, ◌++◌, append_assoc, append-nil, length, length-append, map, refl, ap, ap₂, sym, ◌∙◌, subst, cond, Bool, true, false, arith}
use Rattle.std.specs.List.{AllByRecursion}
use Rattle.std.specs.Str.{bytes_eq}
use Rattle.std.proofs.lemmas.Bool.{cases_Bool}
use Rattle.std.proofs.lemmas.List.{length-map}
use Rattle.cover_model.specs.Rules.{Line}
use Rattle.cover_model.specs.Derivation.{Tree, leaf, then, fork, tree_lines}
use Rattle.cert_read.specs.CertLine.{end_word, rule_line, tree_word}
use Rattle.cert_read.specs.LineText.{IsSpelled}
use Rattle.cert_joined.specs.Joined.{Joins, none, one, ends, steps, forks, differ, first_closed, first_line, going_on, leaves_at_once}
use Rattle.cert_joined.specs.Covers.{Arity, AreTextsOf, Cover, IsShaped, arity, goes_on, line_by, numbered, splits, tree_by, trees_by}
use Rattle.cert_joined.specs.Covers.{ends as no_more}
use Rattle.cert_joined.proofs.Members.{all_going}
use Rattle.cert_join.specs.declared.joiner.Joiner.{Joiner}
use Rattle.cert_join.specs.declared.joiner.Stage.{Stage}
use Rattle.cert_join.specs.declared.joiner.Stage.TheVariants.{Heads, Point, Numbering, Lemmas, Trees, Ends}
use Rattle.cert_join.specs.declared.trees.Task.{Task}
use Rattle.cert_join.specs.declared.trees.Task.TheVariants.{Compare, Copy, Weigh}
use Rattle.cert_join.specs.Due.{AreSpelled, Course, IsMeeting, IsNextDue, IsWhole, Yields, stacked, text_by, tree_text, trees_at}
use Rattle.cert_join.specs.Gathered.{Meeting, lists_of, numbers_at}
use Rattle.cert_join.specs.Joining.{AreSettled, IsAt, IsJoinText, IsJoining, lines_before_tree}
use Rattle.cert_join.specs.Kinds.{rule_text}
use Rattle.cert_join.specs.LemmasDue.{lemmas_due}
use Rattle.cert_join.specs.Spot.{Spot}
use Rattle.cert_join.specs.Written.{text_of, written_from}
use Rattle.cert_join.proofs.Meetings.{below, second}
use Rattle.cert_join.proofs.Passed.{other_bytes, same_bytes}
use Rattle.cert_join.proofs.Stages.{joined_text, main_trees, some_main, spelled_by, spelled_main, shaped_main, trees_main}
use Rattle.cert_join.proofs.Standing.{shaped_below, spelled_below, text_tells}
use Rattle.cert_join.proofs.Yielding.{arity_by}

-- ---- trees whose lines can be spelled

abbrev IsFit : Tree → Type 0
IsFit t = IsShaped t × AreSpelled (tree_lines t)

abbrev AllFit : List Tree → Type 0
AllFit ts = AllByRecursion IsFit ts

first-spelled : (t : Tree) → IsFit t → IsSpelled (rule_line (first_line t))
first-spelled (leaf l) h = h.1.0
first-spelled (then l t) h = h.1.0
first-spelled (fork l t u) h = h.1.0

fit-below : (t : Tree) → IsFit t → IsFit (below t) × IsFit (second t)
fit-below t h = let a = shaped_below t h.0 in let b = spelled_below t h.1 in ((a.0, b.0), (a.1, b.1))

all-below : (ts : List Tree) → AllFit ts → AllFit (map below ts) × AllFit (map second ts)
all-below [] h = (tt, tt)
all-below (t ∷ ts) h = let q = fit-below t h.0 in let r = all-below ts h.1 in ((q.0, r.0), (q.1, r.1))

-- how many lines they have
lines-in : List Tree → ℕ
lines-in [] = 0
lines-in (t ∷ ts) = length (tree_lines t) + lines-in ts

some-lines : (t : Tree) → 0 < length (tree_lines t)
some-lines (leaf l) = omega arith
some-lines (then l t) = omega arith
some-lines (fork l t u) = omega arith

fewer-cond : (b : Bool) (t : Tree) (gs : List Tree) (n : ℕ) → lines-in gs ≤ n → lines-in (cond b gs (t ∷ gs)) ≤ length (tree_lines t) + n
unfolding lines-in
fewer-cond true t gs n h = omega (arith, h)
fewer-cond false t gs n h = omega (arith, h)

fewer-going : (ts : List Tree) → lines-in (going_on ts) ≤ lines-in ts
unfolding lines-in
fewer-going [] = omega arith
fewer-going (t ∷ ts) = fewer-cond (leaves_at_once t) t (going_on ts) (lines-in ts) (fewer-going ts)

abbrev GoesOn : Tree → Type 0
GoesOn t = arity (first_line t) ≡ no_more → ⊥

less-below : (t : Tree) → IsShaped t → GoesOn t → (length (tree_lines (below t)) < length (tree_lines t)) × (length (tree_lines (second t)) < length (tree_lines t))
less-below (leaf l) s g = absurd (g s)
less-below (then l t) s g = (omega arith, omega arith)
less-below (fork l t u) s g = let e = length-append (tree_lines t) (tree_lines u) in (omega (arith, e), omega (arith, e))

less-all : (ts : List Tree) → AllFit ts → AllByRecursion GoesOn ts → (lines-in (map below ts) + length ts ≤ lines-in ts) × (lines-in (map second ts) + length ts ≤ lines-in ts)
unfolding lines-in
less-all [] h g = (omega arith, omega arith)
less-all (t ∷ ts) h g = let q = less-below t h.0.0 g.0 in let r = less-all ts h.1 g.1 in (omega (arith, q.0, r.0), omega (arith, q.1, r.1))

-- ---- trees with the same first line

same-or-not : (l m : Line) → IsSpelled (rule_line l) → IsSpelled (rule_line m) → (l ≡ m) ⊎ (l ≡ m → ⊥)
same-or-not l m h k = elim (cases_Bool (bytes_eq (rule_text l) (rule_text m))) [
  | inl e ↦ inl (text_tells l m h k (same_bytes (rule_text l) (rule_text m) e))
  | inr e ↦ inr (λ q. other_bytes (rule_text l) (rule_text m) e (ap rule_text q))
]

abbrev AllBegin : Line → List Tree → Type 0
AllBegin l ts = AllByRecursion (λ (t : Tree). first_line t ≡ l) ts

alike-or-not : (l : Line) (ts : List Tree) → IsSpelled (rule_line l) → AllFit ts → AllBegin l ts ⊎ (AllBegin l ts → ⊥)
alike-or-not l [] s h = inl tt
alike-or-not l (t ∷ ts) s h = elim (same-or-not (first_line t) l (first-spelled t h.0) s) [
  | inl e ↦ elim (alike-or-not l ts s h.1) [ inl all ↦ inl (e, all) | inr differs ↦ inr (λ all. differs all.1) ]
  | inr ne ↦ inr (λ all. ne all.0)
]

ends-not-goes : no_more ≡ goes_on → ⊥
ends-not-goes e = cc

ends-not-splits : no_more ≡ splits → ⊥
ends-not-splits e = cc

goes-not-splits : goes_on ≡ splits → ⊥
goes-not-splits e = cc

as-leaf : (l : Line) (t : Tree) → IsShaped t → first_line t ≡ l → arity l ≡ no_more → t ≡ leaf l
as-leaf l (leaf m) s e a = ap leaf e
as-leaf l (then m t) s e a = absurd (ends-not-goes (sym a ∙ ap arity (sym e) ∙ s.0))
as-leaf l (fork m t u) s e a = absurd (ends-not-splits (sym a ∙ ap arity (sym e) ∙ s.0))

as-then : (l : Line) (t : Tree) → IsShaped t → first_line t ≡ l → arity l ≡ goes_on → t ≡ then l (below t)
as-then l (leaf m) s e a = absurd (ends-not-goes (sym s ∙ ap arity e ∙ a))
as-then l (then m t) s e a = ap (λ (k : Line). then k t) e
as-then l (fork m t u) s e a = absurd (goes-not-splits (sym a ∙ ap arity (sym e) ∙ s.0))

as-fork : (l : Line) (t : Tree) → IsShaped t → first_line t ≡ l → arity l ≡ splits → t ≡ fork l (below t) (second t)
as-fork l (leaf m) s e a = absurd (ends-not-splits (sym s ∙ ap arity e ∙ a))
as-fork l (then m t) s e a = absurd (goes-not-splits (sym s.0 ∙ ap arity e ∙ a))
as-fork l (fork m t u) s e a = ap (λ (k : Line). fork k t u) e

all-leaves : (l : Line) (ts : List Tree) → AllFit ts → AllBegin l ts → arity l ≡ no_more → AllByRecursion (λ (t : Tree). t ≡ leaf l) ts
all-leaves l [] h b a = tt
all-leaves l (t ∷ ts) h b a = (as-leaf l t h.0.0 b.0 a, all-leaves l ts h.1 b.1 a)

all-then : (l : Line) (ts : List Tree) → AllFit ts → AllBegin l ts → arity l ≡ goes_on → ts ≡ map (λ (t : Tree). then l t) (map below ts)
all-then l [] h b a = refl
all-then l (t ∷ ts) h b a = ap₂ (λ (x : Tree) (xs : List Tree). x ∷ xs) (as-then l t h.0.0 b.0 a) (all-then l ts h.1 b.1 a)

both-below : List Tree → List (Tree × Tree)
both-below [] = []
both-below (t ∷ ts) = (below t, second t) ∷ both-below ts

all-fork : (l : Line) (ts : List Tree) → AllFit ts → AllBegin l ts → arity l ≡ splits → ts ≡ map (λ (x : Tree × Tree). fork l x.0 x.1) (both-below ts)
unfolding both-below
all-fork l [] h b a = refl
all-fork l (t ∷ ts) h b a = ap₂ (λ (x : Tree) (xs : List Tree). x ∷ xs) (as-fork l t h.0.0 b.0 a) (all-fork l ts h.1 b.1 a)

firsts-below : (ts : List Tree) → map (λ (x : Tree × Tree). x.0) (both-below ts) ≡ map below ts
unfolding both-below
firsts-below [] = refl
firsts-below (t ∷ ts) = ap (λ (xs : List Tree). below t ∷ xs) (firsts-below ts)

seconds-below : (ts : List Tree) → map (λ (x : Tree × Tree). x.1) (both-below ts) ≡ map second ts
unfolding both-below
seconds-below [] = refl
seconds-below (t ∷ ts) = ap (λ (xs : List Tree). second t ∷ xs) (seconds-below ts)

all-go : (l : Line) (ts : List Tree) → AllBegin l ts → (arity l ≡ no_more → ⊥) → AllByRecursion GoesOn ts
all-go l [] b n = tt
all-go l (t ∷ ts) b n = ((λ e. n (ap arity (sym b.0) ∙ e)), all-go l ts b.1 n)

-- ---- what joins them

abbrev Joinable : List Tree → Type 0
Joinable ts = (u : Tree) × Joins ts u

none-goes : (ts : List Tree) → 0 < length ts → going_on ts ≡ [] → Joinable ts
none-goes [] some e = absurd (omega (arith, some))
none-goes (t ∷ ts) some e = (t, none t ts e)

-- where those of fewer lines are joined
module _ (n : ℕ) (fewer : (ts : List Tree) → lines-in ts ≤ n → 0 < length ts → AllFit ts → Joinable ts) (ts : List Tree) (some : 0 < length ts) where
  alike : (l : Line) (t : Tree) (more : List Tree) (a : Arity) → going_on ts ≡ t ∷ more → lines-in (t ∷ more) ≤ suc n → AllFit (t ∷ more) → AllBegin l (t ∷ more) → arity l ≡ a → Joinable ts
  alike l t more no_more e few fit b k =
      (leaf l, ends l more ts (e ∙ ap (λ (x : Tree). x ∷ more) (as-leaf l t fit.0.0 b.0 k)) (all-leaves l more fit.1 b.1 k))
  alike l t more goes_on e few fit b k =
      let gs : List Tree = t ∷ more in
      let less = less-all gs fit (all-go l gs b (λ z. ends-not-goes (sym z ∙ k))) in
      let u = fewer (map below gs) (omega (arith, less.0, few)) (omega arith) (all-below gs fit).0 in
      (then l u.0, steps l (map below gs) ts u.0 (e ∙ all-then l gs fit b k) u.1)
  alike l t more splits e few fit b k =
      let gs : List Tree = t ∷ more in
      let less = less-all gs fit (all-go l gs b (λ z. ends-not-splits (sym z ∙ k))) in
      let u = fewer (map below gs) (omega (arith, less.0, few)) (omega arith) (all-below gs fit).0 in
      let v = fewer (map second gs) (omega (arith, less.1, few)) (omega arith) (all-below gs fit).1 in
      (fork l u.0 v.0, forks l (both-below gs) ts u.0 v.0 (e ∙ all-fork l gs fit b k) (subst (λ (xs : List Tree). Joins xs u.0) (sym (firsts-below gs)) u.1) (subst (λ (xs : List Tree). Joins xs v.0) (sym (seconds-below gs)) v.1))

  by-going : (gs : List Tree) → going_on ts ≡ gs → lines-in gs ≤ suc n → AllFit gs → Joinable ts
  by-going [] e few fit = none-goes ts some e
  by-going (t ∷ []) e few fit = (t, one t ts e)
  by-going (t ∷ v ∷ more) e few fit = elim (alike-or-not (first_line t) (v ∷ more) (first-spelled t fit.0) fit.1) [
    | inl same ↦ alike (first_line t) t (v ∷ more) (arity (first_line t)) e few fit (refl, same) refl
    | inr differs ↦ (first_closed t (t ∷ v ∷ more), differ t (v ∷ more) ts e differs)
  ]

no-trees : (ts : List Tree) → lines-in ts ≤ 0 → 0 < length ts → ⊥
unfolding lines-in
no-trees [] few some = omega (arith, some)
no-trees (t ∷ ts) few some = omega (arith, few, some-lines t)

total : (n : ℕ) (ts : List Tree) → lines-in ts ≤ n → 0 < length ts → AllFit ts → Joinable ts
total zero ts few some fit = absurd (no-trees ts few some)
total (suc n) ts few some fit =
    by-going n (total n) ts some (going_on ts) refl (let h = fewer-going ts in omega (arith, h, few)) (all_going IsFit ts fit)

-- ---- at places

shaped-by : (f : ℕ → ℕ) (t : Tree) → IsShaped t → IsShaped (tree_by f t)
shaped-by f (leaf l) s = arity_by f l ∙ s
shaped-by f (then l t) s = (arity_by f l ∙ s.0, shaped-by f t s.1)
shaped-by f (fork l t u) s = (arity_by f l ∙ s.0, shaped-by f t s.1, shaped-by f u s.2)

abbrev Spells : (ℕ → ℕ) → Type 0
Spells f = (l : Line) → IsSpelled (rule_line l) → IsSpelled (rule_line (line_by f l))

both-spelled : (xs ys : List Line) → AreSpelled xs → AreSpelled ys → AreSpelled (xs ++ ys)
both-spelled [] ys h k = k
both-spelled (x ∷ xs) ys h k = (h.0, both-spelled xs ys h.1 k)

parts-spelled : (xs ys : List Line) → AreSpelled (xs ++ ys) → AreSpelled xs × AreSpelled ys
parts-spelled [] ys h = (tt, h)
parts-spelled (x ∷ xs) ys h = let r = parts-spelled xs ys h.1 in ((h.0, r.0), r.1)

spelled-by : (f : ℕ → ℕ) → Spells f → (t : Tree) → AreSpelled (tree_lines t) → AreSpelled (tree_lines (tree_by f t))
spelled-by f k (leaf l) h = (k l h.0, tt)
spelled-by f k (then l t) h = (k l h.0, spelled-by f k t h.1)
spelled-by f k (fork l t u) h =
    let r = parts-spelled (tree_lines t) (tree_lines u) h.1 in
    (k l h.0, both-spelled (tree_lines (tree_by f t)) (tree_lines (tree_by f u)) (spelled-by f k t r.0) (spelled-by f k u r.1))

all-by : (numbers : List (List ℕ)) → ((i : ℕ) → Spells (numbered (numbers_at numbers i))) → (place : Meeting) → AllByRecursion (λ (x : ℕ × Tree). IsShaped x.1) place →
    AllByRecursion (λ (x : ℕ × Tree). AreSpelled (tree_lines x.1)) place → AllFit (trees_at numbers place)
all-by numbers k [] s h = tt
all-by numbers k (x ∷ place) s h =
    let f = numbered (numbers_at numbers x.0) in ((shaped-by f x.1 s.0, spelled-by f (k x.0) x.1 h.0), all-by numbers k place s.1 h.1)

place-joinable : (numbers : List (List ℕ)) → ((i : ℕ) → Spells (numbered (numbers_at numbers i))) → (place : Meeting) → 0 < length place →
    AllByRecursion (λ (x : ℕ × Tree). IsShaped x.1) place → AllByRecursion (λ (x : ℕ × Tree). AreSpelled (tree_lines x.1)) place → Joinable (trees_at numbers place)
place-joinable numbers k place some s h =
    let ts : List Tree = trees_at numbers place in
    total (lines-in ts) ts (omega arith) (omega (arith, some, length-map {A = ℕ × Tree} {B = Tree} place (λ (x : ℕ × Tree). tree_by (numbered (numbers_at numbers x.0)) x.1))) (all-by numbers k place s h)

yields-some : (numbers : List (List ℕ)) → ((i : ℕ) → Spells (numbered (numbers_at numbers i))) → (due : List Meeting) → AllByRecursion IsMeeting due → (out : List ℕ) × Yields numbers due out
yields-some numbers k [] good = ([], refl)
yields-some numbers k (place ∷ due) good =
    let j = place-joinable numbers k place good.0.some good.0.shaped good.0.spelled in
    let r = yields-some numbers k due good.1 in
    (tree_text j.0 ++ r.0, (j.0, r.0, j.1, r.1, refl))

-- ---- what is under way

due-finished : (k : Course) (task : Task) (parts : List (List ℕ)) (text : List ℕ) (spots : List Spot) → IsNextDue k task parts text spots → (rest : List ℕ) × IsWhole k (text ++ rest)
due-finished k Compare parts text spots d = let y = yields-some k.numbers k.spelled d.due d.good in (y.0, d.whole y.0 y.1)
due-finished k (Copy part waiting) parts text spots d = let y = yields-some k.numbers k.spelled d.due d.good in (text_by (numbers_at k.numbers part) d.lines ++ y.0, d.whole y.0 y.1)
due-finished k (Weigh w) parts text spots d = let y = yields-some k.numbers k.spelled d.due d.good in (text_by (numbers_at k.numbers d.taken.part) (tree_lines d.taken.tree) ++ y.0, d.whole y.0 y.1)

main-joinable : (first : Cover) (others : List Cover) (certs numbers : List (List ℕ)) → AreTextsOf (first ∷ others) certs → AreSettled first (first ∷ others) numbers → Joinable (trees_by numbers (first ∷ others))
main-joinable first others certs numbers texts s =
    let covers : List Cover = first ∷ others in
    subst Joinable (trees_main numbers 0 numbers covers refl s.many)
    (place-joinable numbers (λ i l h. spelled_by (numbered (numbers_at numbers i)) (s.few i) l h) (main_trees 0 covers) (some_main covers (omega arith)) (shaped_main 0 covers certs texts) (spelled_main 0 covers certs texts))

abbrev Finishes : List Cover → List ℕ → Type 0
Finishes covers text = (rest : List ℕ) × IsJoinText covers (text ++ rest)

finished : (first : Cover) (covers : List Cover) (numbers : List (List ℕ)) (u : Tree) (text more : List ℕ) → AreSettled first covers numbers → Joins (trees_by numbers covers) u →
    text ++ more ≡ (text_of (lines_before_tree covers first (written_from 0 numbers covers)) ++ text_of (tree_word ∷ [])) ++ tree_text u → Finishes covers text
finished first covers numbers u text more s j e =
    let last = text_of (end_word ∷ []) in
    (more ++ last, joined_text first covers numbers u text more (more ++ last) s j e refl)

-- something was written, so what is joined has its front
at-finished : (certs : List (List ℕ)) (first : Cover) (others : List Cover) (done text : List ℕ) (numbers : List (List ℕ)) (stage : Stage) (spots : List Spot) → AreTextsOf (first ∷ others) certs →
    IsAt certs first (first ∷ others) done text numbers stage spots → 0 < length (done ++ text) → Finishes (first ∷ others) (done ++ text)
at-finished certs first others done text numbers (Heads h) spots texts at some = absurd (omega (arith, some, ap length at.0))
at-finished certs first others done text numbers (Point part) spots texts at some = absurd at
at-finished certs first others done text numbers (Numbering h n) spots texts at some = absurd (omega (arith, some, ap length at.0))
at-finished certs first others done text numbers (Lemmas s) spots texts at some =
    let u = main-joinable first others certs numbers texts at.settled in
    let due = text_of (lemmas_due numbers s at.left) in
    let word = text_of (tree_word ∷ []) in
    finished first (first ∷ others) numbers u.0 (done ++ text) (due ++ (word ++ tree_text u.0)) at.settled u.1
    (sym (append_assoc (done ++ text) due (word ++ tree_text u.0)) ∙ ap (λ (x : List ℕ). x ++ (word ++ tree_text u.0)) (sym at.whole)
    ∙ sym (append_assoc (text_of (lines_before_tree (first ∷ others) first (written_from 0 numbers (first ∷ others)))) word (tree_text u.0)))
at-finished certs first others done text numbers (Trees t) spots texts at some =
    let w = due-finished at.course t.task (stacked t.places.items) text spots at.due in
    finished first (first ∷ others) numbers w.1.0 (done ++ text) w.0 at.settled (subst (λ (ts : List Tree). Joins ts w.1.0) at.is.trees_are w.1.1)
    (append_assoc done text w.0 ∙ ap (λ (x : List ℕ). x ++ (text ++ w.0)) (sym at.is.done_is) ∙ w.1.2 ∙ ap (λ (x : List ℕ). x ++ tree_text w.1.0) at.is.front_is)
at-finished certs first others done text numbers (Ends part is_read) spots texts at some = ([], subst (λ (x : List ℕ). IsJoinText (first ∷ others) x) (sym (append-nil (done ++ text))) at)

pub joining_finished : (certs : List (List ℕ)) (first : Cover) (others : List Cover) (done text : List ℕ) (j : Joiner) → AreTextsOf (first ∷ others) certs → IsJoining certs first (first ∷ others) done text j →
    0 < length (done ++ text) → (rest : List ℕ) × IsJoinText (first ∷ others) ((done ++ text) ++ rest)
joining_finished certs first others done text j texts h some = at-finished certs first others done text (lists_of j.numbers.items) j.stage j.cursors.items texts h.at some
