-- What the trees at a place yield, by their first lines.
use Rattle.std.proofs.Common.{◌≡◌, ℕ, List, [], ◌∷◌, ◌++◌, map, Bool, true, false, cond, refl, sym, ap, subst, ◌∙◌, append_assoc}
use Rattle.std.specs.List.{AllByRecursion}
use Rattle.cover_model.specs.Rules.{Line, narrow_by, end_by, void_by, by_squares, false_form, by_lemma, mark_by, unit_atom, ban_atom, branch_by, stay_by}
use Rattle.cover_model.specs.Derivation.{Tree, leaf, then, fork, tree_lines}
use Rattle.cert_read.specs.LineText.{text_of_lines}
use Rattle.cert_joined.specs.Joined.{Joins, none, one, ends, steps, forks, differ, first_line, going_on, leaves_at_once}
use Rattle.cert_joined.specs.Covers.{Arity, arity, line_by, tree_by, numbered, IsShaped}
use Rattle.cert_joined.specs.Covers.{ends as no_more, goes_on, splits}
use Rattle.cert_joined.proofs.Members.{not_more}
use Rattle.cert_join.specs.Kinds.{rule_text}
use Rattle.cert_join.specs.Gathered.{leaves, Meeting, does_leave, going, numbers_at, text_at}
use Rattle.cert_join.specs.Due.{rule_texts, text_by, tree_text, trees_at, AllGo, AllLeave, Yields}
use Rattle.cert_join.proofs.Meetings.{below, second, all_below, all_second, behind_first, AllOf, AllShaped, leaving_ends}

-- ---- lines with other numbers

pub arity_by : (f : ℕ → ℕ) (l : Line) → arity (line_by f l) ≡ arity l
arity_by f (narrow_by n) = refl
arity_by f (end_by (void_by n)) = refl
arity_by f (end_by (by_squares ms bs)) = refl
arity_by f (end_by false_form) = refl
arity_by f (end_by (by_lemma i)) = refl
arity_by f (mark_by (unit_atom j)) = refl
arity_by f (mark_by (ban_atom j i)) = refl
arity_by f (branch_by b) = refl
arity_by f (stay_by t) = refl

pub leaves_by : (f : ℕ → ℕ) (l : Line) → leaves (line_by f l) ≡ leaves l
leaves_by f (narrow_by n) = refl
leaves_by f (end_by (void_by n)) = refl
leaves_by f (end_by (by_squares ms bs)) = refl
leaves_by f (end_by false_form) = refl
leaves_by f (end_by (by_lemma i)) = refl
leaves_by f (mark_by (unit_atom j)) = refl
leaves_by f (mark_by (ban_atom j i)) = refl
leaves_by f (branch_by b) = refl
leaves_by f (stay_by t) = refl

renumbered-append : (f : ℕ → ℕ) (xs ys : List Line) → map (λ (l : Line). rule_text (line_by f l)) (xs ++ ys) ≡ map (λ (l : Line). rule_text (line_by f l)) xs ++ map (λ (l : Line). rule_text (line_by f l)) ys
renumbered-append f [] ys = refl
renumbered-append f (x ∷ xs) ys = ap (λ z. rule_text (line_by f x) ∷ z) (renumbered-append f xs ys)

pub lines_append : (xs ys : List Line) → rule_texts (xs ++ ys) ≡ rule_texts xs ++ rule_texts ys
lines_append [] ys = refl
lines_append (x ∷ xs) ys = ap (λ z. rule_text x ∷ z) (lines_append xs ys)

pub text_append : (xs ys : List (List ℕ)) → text_of_lines (xs ++ ys) ≡ text_of_lines xs ++ text_of_lines ys
text_append [] ys = refl
text_append (x ∷ xs) ys = ap (λ z. x ++ (10 ∷ z)) (text_append xs ys) ∙ sym (append_assoc x (10 ∷ text_of_lines xs) (text_of_lines ys))

texts-by : (f : ℕ → ℕ) (t : Tree) → rule_texts (tree_lines (tree_by f t)) ≡ map (λ (l : Line). rule_text (line_by f l)) (tree_lines t)
texts-by f (leaf l) = refl
texts-by f (then l t) = ap (λ z. rule_text (line_by f l) ∷ z) (texts-by f t)
texts-by f (fork l t u) =
    ap (λ z. rule_text (line_by f l) ∷ z) (lines_append (tree_lines (tree_by f t)) (tree_lines (tree_by f u)) ∙ ap (λ z. z ++ rule_texts (tree_lines (tree_by f u))) (texts-by f t)
    ∙ ap (λ z. map (λ (m : Line). rule_text (line_by f m)) (tree_lines t) ++ z) (texts-by f u) ∙ sym (renumbered-append f (tree_lines t) (tree_lines u)))

-- the text of a tree whose lemmas have these numbers
pub tree_text_by : (numbers : List ℕ) (t : Tree) → tree_text (tree_by (numbered numbers) t) ≡ text_by numbers (tree_lines t)
tree_text_by numbers t = ap text_of_lines (texts-by (numbered numbers) t)

-- ---- those that go on

not-at-once : (l : Line) (a : Arity) (b : Bool) → arity l ≡ a → (no_more ≡ a → ⊥) → leaves l ≡ b → false ≡ b
not-at-once l a true e ne q = absurd (ne (sym (leaving_ends l q) ∙ e))
not-at-once l a false e ne q = refl

at-once : (f : ℕ → ℕ) (t : Tree) → IsShaped t → leaves_at_once (tree_by f t) ≡ leaves (first_line t)
at-once f (leaf l) s = leaves_by f l
at-once f (then l t) s = not-at-once l goes_on (leaves l) s.0 (λ e. cc) refl
at-once f (fork l t u) s = not-at-once l splits (leaves l) s.0 (λ e. cc) refl

cond-trees : (numbers : List (List ℕ)) (b : Bool) (x : ℕ × Tree) (place : Meeting) →
    cond b (trees_at numbers place) (tree_by (numbered (numbers_at numbers x.0)) x.1 ∷ trees_at numbers place) ≡ trees_at numbers (cond b place (x ∷ place))
cond-trees numbers true x place = refl
cond-trees numbers false x place = refl

pub trees_going : (numbers : List (List ℕ)) (place : Meeting) → AllShaped place → going_on (trees_at numbers place) ≡ trees_at numbers (going place)
trees_going numbers [] s = refl
trees_going numbers (x ∷ place) s =
    let f : ℕ → ℕ = numbered (numbers_at numbers x.0) in
    ap (λ z. cond (leaves_at_once (tree_by f x.1)) z (tree_by f x.1 ∷ z)) (trees_going numbers place s.1)
    ∙ ap (λ b. cond b (trees_at numbers (going place)) (tree_by f x.1 ∷ trees_at numbers (going place))) (at-once f x.1 s.0)
    ∙ cond-trees numbers (does_leave x) x (going place)

pub going_same : (place : Meeting) → AllGo place → going place ≡ place
going_same [] h = refl
going_same (x ∷ place) h = ap (λ b. cond b (going place) (x ∷ going place)) h.0 ∙ ap (λ z. x ∷ z) (going_same place h.1)

pub going_none : (place : Meeting) → AllLeave place → going place ≡ []
going_none [] h = refl
going_none (x ∷ place) h = ap (λ b. cond b (going place) (x ∷ going place)) h.0 ∙ going_none place h.1

go-cond : (b : Bool) (x : ℕ × Tree) (place : Meeting) → does_leave x ≡ b → AllGo place → AllGo (cond b place (x ∷ place))
go-cond true x place e h = h
go-cond false x place e h = (e, h)

pub all_go : (place : Meeting) → AllGo (going place)
all_go [] = tt
all_go (x ∷ place) = go-cond (does_leave x) x (going place) refl (all_go place)

leave-cond : (b : Bool) (x : ℕ × Tree) (place rest : Meeting) → does_leave x ≡ b → (rest ≡ [] → AllLeave place) → cond b rest (x ∷ rest) ≡ [] → AllLeave (x ∷ place)
leave-cond true x place rest e h q = (e, h q)
leave-cond false x place rest e h q = cc

pub all_leave : (place : Meeting) → going place ≡ [] → AllLeave place
all_leave [] e = tt
all_leave (x ∷ place) e = leave-cond (does_leave x) x place (going place) refl (all_leave place) e

-- what joins those that go on joins all
pub joins_from : (ts ts' : List Tree) (u : Tree) → Joins ts' u → going_on ts ≡ ts' → going_on ts' ≡ ts' → Joins ts u
joins_from ts _ _ (none t us q) e e' = absurd (not_more t us (sym q ∙ e'))
joins_from ts _ _ (one t us q) e e' = one t ts (e ∙ sym e' ∙ q)
joins_from ts _ _ (ends l more us q h) e e' = ends l more ts (e ∙ sym e' ∙ q) h
joins_from ts _ _ (steps l us vs u q j) e e' = steps l us ts u (e ∙ sym e' ∙ q) j
joins_from ts _ _ (forks l us vs u v q j j') e e' = forks l us ts u v (e ∙ sym e' ∙ q) j j'
joins_from ts _ _ (differ t more us q h) e e' = differ t more ts (e ∙ sym e' ∙ q) h

-- so what is yielded from those that go on is from all
pub yields_going : (numbers : List (List ℕ)) (place : Meeting) (due : List Meeting) (out : List ℕ) → AllShaped place → AllShaped (going place) →
    Yields numbers (going place ∷ due) out → Yields numbers (place ∷ due) out
yields_going numbers place due out s s' y =
    let g : going_on (trees_at numbers (going place)) ≡ trees_at numbers (going place) = trees_going numbers (going place) s' ∙ ap (trees_at numbers) (going_same (going place) (all_go place)) in
    (y.0, y.1, joins_from _ _ _ y.2 (trees_going numbers place s) g, y.3, y.4)

-- ---- behind a line that all share

clash : {A : Type 0} (a b : Arity) (l : Line) → arity l ≡ a → arity l ≡ b → (a ≡ b → ⊥) → A
clash a b l e e' ne = absurd (ne (sym e ∙ e'))

one-end : (f : ℕ → ℕ) (m : Line) (t : Tree) → arity (first_line t) ≡ no_more → IsShaped t → line_by f (first_line t) ≡ m → tree_by f t ≡ leaf m
one-end f m (leaf l) e s q = ap (λ z. leaf z) q
one-end f m (then l t) e s q = clash goes_on no_more l s.0 e (λ h. cc)
one-end f m (fork l t u) e s q = clash splits no_more l s.0 e (λ h. cc)

one-step : (f : ℕ → ℕ) (m : Line) (t : Tree) → arity (first_line t) ≡ goes_on → IsShaped t → line_by f (first_line t) ≡ m → tree_by f t ≡ then m (tree_by f (below t))
one-step f m (leaf l) e s q = clash no_more goes_on l s e (λ h. cc)
one-step f m (then l t) e s q = ap (λ z. then z (tree_by f t)) q
one-step f m (fork l t u) e s q = clash splits goes_on l s.0 e (λ h. cc)

one-fork : (f : ℕ → ℕ) (m : Line) (t : Tree) → arity (first_line t) ≡ splits → IsShaped t → line_by f (first_line t) ≡ m → tree_by f t ≡ fork m (tree_by f (below t)) (tree_by f (second t))
one-fork f m (leaf l) e s q = clash no_more splits l s e (λ h. cc)
one-fork f m (then l t) e s q = clash goes_on splits l s.0 e (λ h. cc)
one-fork f m (fork l t u) e s q = ap (λ z. fork z (tree_by f t) (tree_by f u)) q

-- all have this first line
abbrev pub ShareLine : List (List ℕ) → Line → Meeting → Type 0
ShareLine numbers m place = AllByRecursion (λ (x : ℕ × Tree). line_by (numbered (numbers_at numbers x.0)) (first_line x.1) ≡ m) place

module _ (numbers : List (List ℕ)) (m : Line) where
  all-end : (place : Meeting) → AllOf no_more place → AllShaped place → ShareLine numbers m place → AllByRecursion (λ (t : Tree). t ≡ leaf m) (trees_at numbers place)
  all-end [] a s q = tt
  all-end (x ∷ place) a s q = (one-end (numbered (numbers_at numbers x.0)) m x.1 a.0 s.0 q.0, all-end place a.1 s.1 q.1)

  all-step : (place : Meeting) → AllOf goes_on place → AllShaped place → ShareLine numbers m place → trees_at numbers place ≡ map (λ (t : Tree). then m t) (trees_at numbers (all_below place))
  all-step [] a s q = refl
  all-step (x ∷ place) a s q =
      let f : ℕ → ℕ = numbered (numbers_at numbers x.0) in
      ap (λ z. z ∷ trees_at numbers place) (one-step f m x.1 a.0 s.0 q.0) ∙ ap (λ z. then m (tree_by f (below x.1)) ∷ z) (all-step place a.1 s.1 q.1)

  pairs-at : Meeting → List (Tree × Tree)
  pairs-at place = map (λ (x : ℕ × Tree). (tree_by (numbered (numbers_at numbers x.0)) (below x.1), tree_by (numbered (numbers_at numbers x.0)) (second x.1))) place

  all-fork : (place : Meeting) → AllOf splits place → AllShaped place → ShareLine numbers m place → trees_at numbers place ≡ map (λ (x : Tree × Tree). fork m x.0 x.1) (pairs-at place)
  unfolding pairs-at
  all-fork [] a s q = refl
  all-fork (x ∷ place) a s q =
      let f : ℕ → ℕ = numbered (numbers_at numbers x.0) in
      ap (λ z. z ∷ trees_at numbers place) (one-fork f m x.1 a.0 s.0 q.0) ∙ ap (λ z. fork m (tree_by f (below x.1)) (tree_by f (second x.1)) ∷ z) (all-fork place a.1 s.1 q.1)

  firsts : (place : Meeting) → map (λ (x : Tree × Tree). x.0) (pairs-at place) ≡ trees_at numbers (all_below place)
  unfolding pairs-at
  firsts [] = refl
  firsts (x ∷ place) = ap (λ z. tree_by (numbered (numbers_at numbers x.0)) (below x.1) ∷ z) (firsts place)

  seconds : (place : Meeting) → map (λ (x : Tree × Tree). x.1) (pairs-at place) ≡ trees_at numbers (all_second place)
  unfolding pairs-at
  seconds [] = refl
  seconds (x ∷ place) = ap (λ z. tree_by (numbered (numbers_at numbers x.0)) (second x.1) ∷ z) (seconds place)

  go-on : (place : Meeting) → AllGo place → AllShaped place → going_on (trees_at numbers place) ≡ trees_at numbers place
  go-on place g s = trees_going numbers place s ∙ ap (trees_at numbers) (going_same place g)

  -- the line, and then what the places behind it yield
  pub yields_behind : (a : Arity) (x : ℕ × Tree) (others : Meeting) (due : List Meeting) (out : List ℕ) → AllOf a (x ∷ others) → AllShaped (x ∷ others) → AllGo (x ∷ others) → ShareLine numbers m (x ∷ others) →
      Yields numbers (behind_first a (x ∷ others) ++ due) out → Yields numbers ((x ∷ others) ∷ due) (rule_text m ++ (10 ∷ out))
  yields_behind no_more x others due out a s g q y =
      let h : AllByRecursion (λ (t : Tree). t ≡ leaf m) (trees_at numbers (x ∷ others)) = all-end (x ∷ others) a s q in
      let e : going_on (trees_at numbers (x ∷ others)) ≡ leaf m ∷ trees_at numbers others = go-on (x ∷ others) g s ∙ ap (λ z. z ∷ trees_at numbers others) h.0 in
      (leaf m, out, ends m (trees_at numbers others) (trees_at numbers (x ∷ others)) e h.1, y, sym (append_assoc (rule_text m) (10 ∷ []) out))
  yields_behind goes_on x others due out a s g q y = (
    then m y.0,
    y.1,
    steps m (trees_at numbers (all_below (x ∷ others))) (trees_at numbers (x ∷ others)) y.0 (go-on (x ∷ others) g s ∙ all-step (x ∷ others) a s q) y.2,
    y.3,
    ap (λ z. rule_text m ++ (10 ∷ z)) y.4 ∙ sym (append_assoc (rule_text m) (10 ∷ tree_text y.0) y.1),
  )
  yields_behind splits x others due out a s g q y =
      let P : List Tree → Type 0 = λ ts. Joins ts y.0 in
      let Q : List Tree → Type 0 = λ ts. Joins ts y.3.0 in
      let both : tree_text y.0 ++ tree_text y.3.0 ≡ text_of_lines (rule_texts (tree_lines y.0 ++ tree_lines y.3.0)) =
      sym (ap text_of_lines (lines_append (tree_lines y.0) (tree_lines y.3.0)) ∙ text_append (rule_texts (tree_lines y.0)) (rule_texts (tree_lines y.3.0))) in
      let e : out ≡ text_of_lines (rule_texts (tree_lines y.0 ++ tree_lines y.3.0)) ++ y.3.1 =
      y.4 ∙ ap (λ z. tree_text y.0 ++ z) y.3.4 ∙ sym (append_assoc (tree_text y.0) (tree_text y.3.0) y.3.1) ∙ ap (λ z. z ++ y.3.1) both in (
        fork m y.0 y.3.0,
        y.3.1,
        forks m (pairs-at (x ∷ others)) (trees_at numbers (x ∷ others)) y.0 y.3.0 (go-on (x ∷ others) g s ∙ all-fork (x ∷ others) a s q)
            (subst P (sym (firsts (x ∷ others))) y.2) (subst Q (sym (seconds (x ∷ others))) y.3.2),
        y.3.3,
        ap (λ z. rule_text m ++ (10 ∷ z)) e ∙ sym (append_assoc (rule_text m) (10 ∷ text_of_lines (rule_texts (tree_lines y.0 ++ tree_lines y.3.0))) y.3.1),
      )

-- ---- one tree

-- all leave their states
pub yields_leave : (numbers : List (List ℕ)) (x : ℕ × Tree) (others : Meeting) (due : List Meeting) (out : List ℕ) → AllLeave (x ∷ others) → AllOf no_more (x ∷ others) → AllShaped (x ∷ others) →
    Yields numbers due out → Yields numbers ((x ∷ others) ∷ due) (text_at numbers x.0 (first_line x.1) ++ (10 ∷ out))
yields_leave numbers x others due out l a s y =
    let f : ℕ → ℕ = numbered (numbers_at numbers x.0) in
    let m : Line = line_by f (first_line x.1) in
    let e : tree_by f x.1 ≡ leaf m = one-end f m x.1 a.0 s.0 refl in
    let q : going_on (trees_at numbers (x ∷ others)) ≡ [] = trees_going numbers (x ∷ others) s ∙ ap (trees_at numbers) (going_none (x ∷ others) l) in
    (tree_by f x.1, out, none (tree_by f x.1) (trees_at numbers others) q, y, sym (append_assoc (rule_text m) (10 ∷ []) out) ∙ ap (λ z. tree_text z ++ out) (sym e))

-- one goes on
pub yields_one : (numbers : List (List ℕ)) (x : ℕ × Tree) (due : List Meeting) (out : List ℕ) → AllGo (x ∷ []) → IsShaped x.1 →
    Yields numbers due out → Yields numbers ((x ∷ []) ∷ due) (text_by (numbers_at numbers x.0) (tree_lines x.1) ++ out)
yields_one numbers x due out g s y =
    let f : ℕ → ℕ = numbered (numbers_at numbers x.0) in
    let q : going_on (trees_at numbers (x ∷ [])) ≡ tree_by f x.1 ∷ [] = trees_going numbers (x ∷ []) (s, tt) ∙ ap (trees_at numbers) (going_same (x ∷ []) g) in
    (tree_by f x.1, out, one (tree_by f x.1) (trees_at numbers (x ∷ [])) q, y, ap (λ z. z ++ out) (sym (tree_text_by (numbers_at numbers x.0) x.1)))
