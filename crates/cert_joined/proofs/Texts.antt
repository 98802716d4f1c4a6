-- An accepted certificate that ends as a cover is the text of a cover, or that of crossed bounds.
use Rattle.std.proofs.Common.{◌≡◌, ℕ, suc, ◌+◌, List, [], ◌∷◌, ◌++◌, map, Bool, true, false, not, cond, Option, Some, None, refl, ap, ap₂, sym, subst, ◌∙◌, nat_eq, nat_le, nat_lt, length, take, append_assoc, append-nil, arith, true≢false}
use Rattle.std.proofs.lemmas.Bool.{eqb-true, leb-true}
use Rattle.std.proofs.lemmas.List.{length-append}
use Rattle.std.specs.List.{AllByRecursion}
use Rattle.poly_graph.specs.Problem.{Declared, real_between, any_bool, Axis, Problem, crosses}
use Rattle.interval_model.specs.Space.{real_domain, bool_domain, Space}
use Rattle.cover_model.specs.State.{State, Loosenings, root_state}
use Rattle.cover_model.specs.Rules.{Line, Left, closed, one, two, stays, rule}
use Rattle.cover_model.specs.Derivation.{Tree, leaf, then, fork, tree_lines}
use Rattle.cover_line.specs.Words.{word_of}
use Rattle.cert_read.specs.CertLine.{says_both, says_false, says_true, CertLine, version, margin, delta, bound, cover, point_word, tree_word, end_word, lemma, real_interval, real_value, bool_value, yes_list, no_list, rule_line, crossing, Parsed, too_long, bad_line, bad_number, line, parsed}
use Rattle.cert_read.specs.Lines.{lines_of, lines_so_far}
use Rattle.cert_model.proofs.Carries.{none_crossed}
use Rattle.cert_resumed.proofs.Spelled.{said_spelled}
use Rattle.cert_joined.specs.Laws.{AcceptedIsText}
use Rattle.dyadic.specs.Fraction.{at_most}
use Rattle.dyadic.specs.Rounding.{exact}
use Rattle.cert_model.specs.Due.{bool_domain_of, coordinate_next, CertFault, BadHeader, BadNumber, WrongBound, Missing, NotShown, RuleFails, is_version, same_bound, Standing, Value, at_point, left_open, Due, version_due, margin_due, delta_due, bound_due, kind_due, next_due, axis_due, yes_due, no_due, lemma_due, root_due, tree_due, coordinate_due, end_due, nothing_due, Next, on, faulty, given, names_well, after_rule, after_lemma_rule, tree_goes_on, lemma_goes_on, axis_next, is_crossed_box}
use Rattle.cert_model.specs.Accepted.{accepted, at_end, ended, cut_off, verdict_by, course, stopped, most_bytes, most_lemmas, next_parsed, IsAccepted, next, loosenings_fit, ruled_line, root_line, no_crossing, axis_line, coordinate_line, Course, reached, course_next, course_of_lines}
use Rattle.cert_model.specs.Written.{rule_lines}
use Rattle.cert_joined.specs.Covers.{Cover, IsTextOf, Lemma, IsShaped, IsBoxLine, arity, ends, goes_on, splits, lemmas_lines, cover_lines}
use Rattle.cert_joined.proofs.Arities.{arity_is}

-- ---- trees, one after the other

abbrev forest_lines : List Tree → List Line
forest_lines [] = []
forest_lines (t ∷ ts) = tree_lines t ++ forest_lines ts

-- so many shaped trees stand at the beginning of the lines
record IsForest (n : ℕ) (ls rest : List CertLine) : Type 0 where
  trees : List Tree
  many : length trees ≡ n
  shaped : AllByRecursion IsShaped trees
  lines : ls ≡ rule_lines (forest_lines trees) ++ rest

no-trees : (ls : List CertLine) → IsForest 0 ls ls
no-trees ls = record { trees = []; many = refl; shaped = tt; lines = refl }

-- one more line before them
ends-forest : (n : ℕ) (l : Line) (ls rest : List CertLine) → arity l ≡ ends → IsForest n ls rest → IsForest (suc n) (rule_line l ∷ ls) rest
ends-forest n l ls rest e f = record {
  trees = leaf l ∷ f.trees;
  many = ap suc f.many;
  shaped = (e, f.shaped);
  lines = ap (λ (ks : List CertLine). rule_line l ∷ ks) f.lines;
}

steps-forest : (n : ℕ) (l : Line) (ls rest : List CertLine) → arity l ≡ goes_on → IsForest (suc n) ls rest → IsForest (suc n) (rule_line l ∷ ls) rest
steps-forest n l ls rest e f = by f.trees f.many f.shaped f.lines where
  by : (ts : List Tree) → length ts ≡ suc n → AllByRecursion IsShaped ts → ls ≡ rule_lines (forest_lines ts) ++ rest → IsForest (suc n) (rule_line l ∷ ls) rest
  by [] m h k = absurd (omega (arith, m))
  by (t ∷ ts) m h k = record { trees = then l t ∷ ts; many = m; shaped = ((e, h.0), h.1); lines = ap (λ (ks : List CertLine). rule_line l ∷ ks) k }

forks-forest : (n : ℕ) (l : Line) (ls rest : List CertLine) → arity l ≡ splits → IsForest (suc (suc n)) ls rest → IsForest (suc n) (rule_line l ∷ ls) rest
forks-forest n l ls rest e f = by f.trees f.many f.shaped f.lines where
  by : (ts : List Tree) → length ts ≡ suc (suc n) → AllByRecursion IsShaped ts → ls ≡ rule_lines (forest_lines ts) ++ rest → IsForest (suc n) (rule_line l ∷ ls) rest
  by [] m h k = absurd (omega (arith, m))
  by (t ∷ []) m h k = absurd (omega (arith, m))
  by (t ∷ u ∷ ts) m h k = record {
    trees = fork l t u ∷ ts;
    many = omega (arith, m);
    shaped = ((e, h.0, h.1.0), h.1.1);
    lines = ap (λ (ks : List CertLine). rule_line l ∷ ks) (k ∙ ap (λ (xs : List Line). rule_lines xs ++ rest) (sym (append_assoc (tree_lines t) (tree_lines u) (forest_lines ts))));
  }

-- how many trees stand behind a line that leaves this, with as many as waited behind its own
abbrev waiting : Left → ℕ → ℕ
waiting closed n = n
waiting stays n = n
waiting (one S) n = suc n
waiting (two S T) n = suc (suc n)

-- a line of a tree, by what its rule leaves
line-forest : (p : Problem) (s : Loosenings) (lemmas : List State) (S : State) (n : ℕ) (l : Line) (ls rest : List CertLine) (x : Left) → rule p s lemmas S l ≡ Some x →
    IsForest (waiting x n) ls rest → IsForest (suc n) (rule_line l ∷ ls) rest
line-forest p s lemmas S n l ls rest closed e f = ends-forest n l ls rest (arity_is p s lemmas S l closed e) f
line-forest p s lemmas S n l ls rest stays e f = ends-forest n l ls rest (arity_is p s lemmas S l stays e) f
line-forest p s lemmas S n l ls rest (one S') e f = steps-forest n l ls rest (arity_is p s lemmas S l (one S') e) f
line-forest p s lemmas S n l ls rest (two S' S'') e f = forks-forest n l ls rest (arity_is p s lemmas S l (two S' S'') e) f

-- one tree
first-tree : (ls rest : List CertLine) → IsForest 1 ls rest → (t : Tree) × IsShaped t × (ls ≡ rule_lines (tree_lines t) ++ rest)
first-tree ls rest f = by f.trees f.many f.shaped f.lines where
  by : (ts : List Tree) → length ts ≡ 1 → AllByRecursion IsShaped ts → ls ≡ rule_lines (forest_lines ts) ++ rest → (t : Tree) × IsShaped t × (ls ≡ rule_lines (tree_lines t) ++ rest)
  by [] m h k = absurd (omega (arith, m))
  by (t ∷ []) m h k = (t, h.0, k ∙ ap (λ (xs : List Line). rule_lines xs ++ rest) (append-nil (tree_lines t)))
  by (t ∷ u ∷ ts) m h k = absurd (omega (arith, m))

-- ---- what is ahead where something is due

-- the main tree
record IsRootAhead (ls : List CertLine) : Type 0 where
  tree : Tree
  shaped : IsShaped tree
  lines : ls ≡ rule_lines (tree_lines tree) ++ (end_word ∷ [])

abbrev IsWell : Lemma → Type 0
IsWell x = IsShaped x.tree × AllByRecursion IsBoxLine x.box_lines

-- the lemmas from number i on, k in all, and the main tree
record AreLemmasAhead (i k : ℕ) (ls : List CertLine) : Type 0 where
  lemmas : List Lemma
  many : i + length lemmas ≡ k
  well : AllByRecursion IsWell lemmas
  behind : List CertLine
  tree : IsRootAhead behind
  lines : ls ≡ lemmas_lines i lemmas ++ (tree_word ∷ behind)

-- the rest of lemma i, and those behind it: its tree; before that its atoms that fail; those that hold; its box
record IsTreeAhead (i k : ℕ) (ls : List CertLine) : Type 0 where
  behind : List CertLine
  tree : IsForest 1 ls behind
  later : AreLemmasAhead (suc i) k behind

abbrev IsNoAhead : ℕ → ℕ → List CertLine → Type 0
IsNoAhead i k ls = (js : List ℕ) × (behind : List CertLine) × (ls ≡ no_list js ∷ behind) × IsTreeAhead i k behind

abbrev IsYesAhead : ℕ → ℕ → List CertLine → Type 0
IsYesAhead i k ls = (js : List ℕ) × (behind : List CertLine) × (ls ≡ yes_list js ∷ behind) × IsNoAhead i k behind

record IsBoxAhead (i k : ℕ) (ls : List CertLine) : Type 0 where
  box : List CertLine
  boxed : AllByRecursion IsBoxLine box
  behind : List CertLine
  lines : ls ≡ box ++ behind
  later : IsYesAhead i k behind

all-firsts : (xs : List Lemma) → AllByRecursion IsWell xs → AllByRecursion (λ (x : Lemma). IsShaped x.tree) xs
all-firsts [] h = tt
all-firsts (x ∷ xs) h = (h.0.0, all-firsts xs h.1)

all-seconds : (xs : List Lemma) → AllByRecursion IsWell xs → AllByRecursion (λ (x : Lemma). AllByRecursion IsBoxLine x.box_lines) xs
all-seconds [] h = tt
all-seconds (x ∷ xs) h = (h.0.1, all-seconds xs h.1)

-- lines of a cover
record IsCoverAhead (ls : List CertLine) : Type 0 where
  cover : Cover
  shaped : IsShaped cover.tree
  well : AllByRecursion IsWell cover.lemmas
  lines : ls ≡ cover_lines cover

-- trees of a lemma, and the lemmas behind it
abbrev IsForestAhead : ℕ → ℕ → ℕ → List CertLine → Type 0
IsForestAhead n i k ls = (behind : List CertLine) × IsForest n ls behind × AreLemmasAhead i k behind

abbrev Ahead : Due → List CertLine → Type 0
Ahead version_due ls = IsCoverAhead ls
Ahead (margin_due v) ls = IsCoverAhead (version v ∷ ls)
Ahead (delta_due v m) ls = IsCoverAhead (version v ∷ margin m ∷ ls)
Ahead (bound_due s) ls = IsCoverAhead (version s.version ∷ margin s.margin_bits ∷ delta s.delta_bits ∷ ls)
Ahead (kind_due s) ls = (n : Option ℕ) → IsCoverAhead (version s.version ∷ margin s.margin_bits ∷ delta s.delta_bits ∷ bound n ∷ ls)
Ahead (next_due s k lemmas) ls = AreLemmasAhead (length lemmas) k ls
Ahead (axis_due s k lemmas a axes space) ls = IsBoxAhead (length lemmas) k ls
Ahead (yes_due s k lemmas space) ls = IsYesAhead (length lemmas) k ls
Ahead (no_due s k lemmas space js) ls = IsNoAhead (length lemmas) k ls
Ahead (lemma_due s k lemmas L S pending) ls = IsForestAhead (suc (length pending)) (suc (length lemmas)) k ls
Ahead (root_due s lemmas) ls = IsRootAhead ls
Ahead (tree_due s lemmas S pending done) ls = IsForest (suc (length pending)) ls (end_word ∷ [])
Ahead (coordinate_due s a axes space) ls = ⊥
Ahead (end_due s lemmas (at_point space)) ls = ⊥
Ahead (end_due s lemmas (left_open left)) ls = ls ≡ end_word ∷ []
Ahead (nothing_due s lemmas (at_point space)) ls = ⊥
Ahead (nothing_due s lemmas (left_open left)) ls = ls ≡ []

-- ---- one line more

-- what a line leads to
given-on : (t : Bool) (d d' : Due) (f : CertFault) → given t d f ≡ on d' → (t ≡ true) × (d ≡ d')
given-on true d d' f e = (refl, cc)
given-on false d d' f e = cc

on-same : (d d' : Due) → ◌≡◌ {A = Next} (on d) (on d') → d ≡ d'
on-same d d' e = cc

not-on : {X : Type 0} (f : CertFault) (d : Due) → ◌≡◌ {A = Next} (faulty f) (on d) → X
not-on f d e = absurd (cc)

cond-on : (t : Bool) (x : Next) (f : CertFault) (d : Due) → cond t x (faulty f) ≡ on d → x ≡ on d
cond-on true x f d e = e
cond-on false x f d e = not-on f d e

eq-of : (i j : ℕ) → nat_eq i j ≡ true → i ≡ j
eq-of i j e = eqb-true i j e

-- where points are due no cover is ahead
no-coordinate : (s : Loosenings) (axes : List Axis) (space : Space) (ls : List CertLine) → Ahead (coordinate_next s axes space) ls → ⊥
no-coordinate s [] space ls h = h
no-coordinate s (a ∷ axes) space ls h = h

coordinate-back : (s : Loosenings) (a : Declared) (axes : List Axis) (space : Space) (l : CertLine) (ls : List CertLine) (d : Due) → coordinate_line s a axes space l ≡ on d → Ahead d ls → ⊥
coordinate-back s (real_between lo hi) axes space (real_value v) ls d e h = no-coordinate s axes (space ++ (real_domain v v ∷ [])) ls (subst (λ x. Ahead x ls) (sym (on-same _ d e)) h)
coordinate-back s (real_between lo hi) axes space _ ls d e h = not-on _ d e
coordinate-back s any_bool axes space (bool_value says_both) ls d e h = not-on _ d e
coordinate-back s any_bool axes space (bool_value says_false) ls d e h = no-coordinate s axes (space ++ (bool_domain true false ∷ [])) ls (subst (λ x. Ahead x ls) (sym (on-same _ d e)) h)
coordinate-back s any_bool axes space (bool_value says_true) ls d e h = no-coordinate s axes (space ++ (bool_domain false true ∷ [])) ls (subst (λ x. Ahead x ls) (sym (on-same _ d e)) h)
coordinate-back s any_bool axes space _ ls d e h = not-on _ d e

-- an axis of a lemma's box
box-next : (s : Loosenings) (k : ℕ) (lemmas : List State) (axes : List Axis) (space : Space) (ls : List CertLine) → Ahead (axis_next s k lemmas axes space) ls → IsBoxAhead (length lemmas) k ls
box-next s k lemmas [] space ls h = record { box = []; boxed = tt; behind = ls; lines = refl; later = h }
box-next s k lemmas (a ∷ axes) space ls h = h

more-box : (i k : ℕ) (l : CertLine) (ls : List CertLine) → IsBoxLine l → IsBoxAhead i k ls → IsBoxAhead i k (l ∷ ls)
more-box i k l ls is h = record { box = l ∷ h.box; boxed = (is, h.boxed); behind = h.behind; lines = ap (λ (ks : List CertLine). l ∷ ks) h.lines; later = h.later }

axis-back : (p : Problem) (s : Loosenings) (k : ℕ) (lemmas : List State) (a : Declared) (axes : List Axis) (space : Space) (l : CertLine) (ls : List CertLine) (d : Due) →
    axis_line p s k lemmas a axes space l ≡ on d → Ahead d ls → IsBoxAhead (length lemmas) k (l ∷ ls)
axis-back p s k lemmas (real_between lo hi) axes space (real_interval l h) ls d e f =
    let g = given-on (at_most (exact l) (exact h)) _ d BadNumber e in
    more-box (length lemmas) k (real_interval l h) ls tt (box-next s k lemmas axes (space ++ (real_domain l h ∷ [])) ls (subst (λ x. Ahead x ls) (sym g.1) f))
axis-back p s k lemmas (real_between lo hi) axes space _ ls d e f = not-on _ d e
axis-back p s k lemmas any_bool axes space (bool_value w) ls d e f =
    more-box (length lemmas) k (bool_value w) ls tt (box-next s k lemmas axes (space ++ (bool_domain_of w ∷ [])) ls (subst (λ x. Ahead x ls) (sym (on-same _ d e)) f))
axis-back p s k lemmas any_bool axes space _ ls d e f = not-on _ d e

-- a whole lemma, and those behind it
five-parts : (u v w x y : List CertLine) → (((u ++ v) ++ w) ++ x) ++ y ≡ u ++ (v ++ (w ++ (x ++ y)))
five-parts u v w x y = append_assoc ((u ++ v) ++ w) x y ∙ append_assoc (u ++ v) w (x ++ y) ∙ append_assoc u v (w ++ (x ++ y))

whole-lemma : (i k : ℕ) (ls : List CertLine) → IsBoxAhead i k ls → AreLemmasAhead i k (lemma i ∷ ls)
whole-lemma i k ls h =
    let yes = h.later in
    let no = yes.3 in
    let rest = no.3 in
    let first = first-tree no.1 rest.behind rest.tree in
    let later = rest.later in
    let x : Lemma = record { box_lines = h.box; yes = yes.0; no = no.0; tree = first.0 } in
    let marks : List CertLine = yes_list yes.0 ∷ no_list no.0 ∷ [] in
    let tree : List CertLine = rule_lines (tree_lines first.0) in
    let others : List CertLine = lemmas_lines (suc i) later.lemmas in
    let end : List CertLine = tree_word ∷ later.behind in
    record {
      lemmas = x ∷ later.lemmas;
      many = omega (arith, later.many);
      well = ((first.1, h.boxed), later.well);
      behind = later.behind;
      tree = later.tree;
      lines = ap (λ (ks : List CertLine). lemma i ∷ ks) (h.lines
          ∙ ap (λ (ks : List CertLine). h.box ++ ks) (yes.2 ∙ ap (λ (ks : List CertLine). yes_list yes.0 ∷ ks) (no.2 ∙ ap (λ (ks : List CertLine). no_list no.0 ∷ ks) (first.2 ∙ ap (λ (ks : List CertLine). tree ++ ks) later.lines)))
          ∙ sym (five-parts h.box marks tree others end));
    }

-- ---- trees

-- behind a line of a lemma's tree
lemma-next : (s : Loosenings) (k : ℕ) (lemmas : List State) (L : State) (pending : List State) (ls : List CertLine) →
    Ahead (lemma_goes_on s k lemmas L pending) ls → IsForestAhead (length pending) (suc (length lemmas)) k ls
lemma-next s k lemmas L [] ls h = (ls, no-trees ls, subst (λ (n : ℕ). AreLemmasAhead n k ls) (length-append lemmas (L ∷ []) ∙ omega arith) h)
lemma-next s k lemmas L (S ∷ pending) ls h = h

more-forest : (p : Problem) (s : Loosenings) (lemmas : List State) (S : State) (n i k : ℕ) (l : Line) (ls : List CertLine) (x : Left) → rule p s lemmas S l ≡ Some x →
    IsForestAhead (waiting x n) i k ls → IsForestAhead (suc n) i k (rule_line l ∷ ls)
more-forest p s lemmas S n i k l ls x e h = (h.0, line-forest p s lemmas S n l ls h.0 x e h.1, h.2)

lemma-ruled : (p : Problem) (s : Loosenings) (k : ℕ) (lemmas : List State) (L S : State) (pending : List State) (l : Line) (ls : List CertLine) (o : Option Left) (f : CertFault) (d : Due) → rule p s lemmas S l ≡ o →
    after_lemma_rule o f pending (lemma_goes_on s k lemmas L) ≡ on d → Ahead d ls → IsForestAhead (suc (length pending)) (suc (length lemmas)) k (rule_line l ∷ ls)
lemma-ruled p s k lemmas L S pending l ls None f d e g h = not-on f d g
lemma-ruled p s k lemmas L S pending l ls (Some stays) f d e g h = not-on f d g
lemma-ruled p s k lemmas L S pending l ls (Some closed) f d e g h =
    more-forest p s lemmas S (length pending) (suc (length lemmas)) k l ls closed e (lemma-next s k lemmas L pending ls (subst (λ x. Ahead x ls) (sym (on-same _ d g)) h))
lemma-ruled p s k lemmas L S pending l ls (Some (one S')) f d e g h =
    more-forest p s lemmas S (length pending) (suc (length lemmas)) k l ls (one S') e (lemma-next s k lemmas L (S' ∷ pending) ls (subst (λ x. Ahead x ls) (sym (on-same _ d g)) h))
lemma-ruled p s k lemmas L S pending l ls (Some (two S' S'')) f d e g h =
    more-forest p s lemmas S (length pending) (suc (length lemmas)) k l ls (two S' S'') e (lemma-next s k lemmas L (S' ∷ S'' ∷ pending) ls (subst (λ x. Ahead x ls) (sym (on-same _ d g)) h))

-- behind a line of the main tree
tree-next : (s : Loosenings) (lemmas pending : List State) (done : List Standing) (ls : List CertLine) → Ahead (tree_goes_on s lemmas pending done) ls → IsForest (length pending) ls (end_word ∷ [])
tree-next s lemmas [] done ls h = subst (λ (ks : List CertLine). IsForest 0 ks (end_word ∷ [])) (sym h) (no-trees (end_word ∷ []))
tree-next s lemmas (S ∷ pending) done ls h = h

tree-ruled : (p : Problem) (s : Loosenings) (lemmas : List State) (S : State) (pending : List State) (done : List Standing) (l : Line) (ls : List CertLine) (o : Option Left) (f : CertFault) (d : Due) → rule p s lemmas S l ≡ o →
    after_rule o f (record { state = S; does = l }) pending done (tree_goes_on s lemmas) ≡ on d → Ahead d ls → IsForest (suc (length pending)) (rule_line l ∷ ls) (end_word ∷ [])
tree-ruled p s lemmas S pending done l ls None f d e g h = not-on f d g
tree-ruled p s lemmas S pending done l ls (Some closed) f d e g h =
    line-forest p s lemmas S (length pending) l ls (end_word ∷ []) closed e (tree-next s lemmas pending done ls (subst (λ x. Ahead x ls) (sym (on-same _ d g)) h))
tree-ruled p s lemmas S pending done l ls (Some stays) f d e g h =
    line-forest p s lemmas S (length pending) l ls (end_word ∷ []) stays e (tree-next s lemmas pending (done ++ (record { state = S; does = l } ∷ [])) ls (subst (λ x. Ahead x ls) (sym (on-same _ d g)) h))
tree-ruled p s lemmas S pending done l ls (Some (one S')) f d e g h =
    line-forest p s lemmas S (length pending) l ls (end_word ∷ []) (one S') e (tree-next s lemmas (S' ∷ pending) done ls (subst (λ x. Ahead x ls) (sym (on-same _ d g)) h))
tree-ruled p s lemmas S pending done l ls (Some (two S' S'')) f d e g h =
    line-forest p s lemmas S (length pending) l ls (end_word ∷ []) (two S' S'') e (tree-next s lemmas (S' ∷ S'' ∷ pending) done ls (subst (λ x. Ahead x ls) (sym (on-same _ d g)) h))

-- the line names what is there
ruled-on : (t : Bool) (x : Next) (d : Due) → ruled_line t x ≡ on d → x ≡ on d
ruled-on true x d e = e
ruled-on false x d e = not-on BadNumber d e

-- the main tree from its forest
root-of : (ls : List CertLine) → IsForest 1 ls (end_word ∷ []) → IsRootAhead ls
root-of ls f = let t = first-tree ls (end_word ∷ []) f in record { tree = t.0; shaped = t.1; lines = t.2 }

-- a whole cover from its lemmas and its tree
with-header : (s : Loosenings) (n : Option ℕ) (k : ℕ) (ls : List CertLine) → AreLemmasAhead 0 k ls → IsCoverAhead (version s.version ∷ margin s.margin_bits ∷ delta s.delta_bits ∷ bound n ∷ cover k ∷ ls)
with-header s n k ls x = record {
  cover = record { version = s.version; margin_bits = s.margin_bits; delta_bits = s.delta_bits; bound = n; lemmas = x.lemmas; tree = x.tree.tree };
  shaped = x.tree.shaped;
  well = x.well;
  lines = ap₂ (λ (i : ℕ) (ks : List CertLine). version s.version ∷ margin s.margin_bits ∷ delta s.delta_bits ∷ bound n ∷ cover i ∷ ks) (omega (arith, x.many))
      (x.lines ∙ ap (λ (ks : List CertLine). lemmas_lines 0 x.lemmas ++ (tree_word ∷ ks)) x.tree.lines);
}

-- ---- one line before what is ahead

module _ (p : Problem) (b : Option ℕ) (no-crossing : (i : ℕ) → crosses p i ≡ true → ⊥) where
  root-ruled : (t : Bool) (s : Loosenings) (lemmas : List State) (l : Line) (ls : List CertLine) (d : Due) → root_line t p s lemmas l ≡ on d → Ahead d ls → IsRootAhead (rule_line l ∷ ls)
  root-ruled true s lemmas l ls d e h = not-on _ d (ruled-on (names_well p l) _ d e)
  root-ruled false s lemmas l ls d e h = root-of (rule_line l ∷ ls) (tree-ruled p s lemmas (root_state p) [] [] l ls (rule p s lemmas (root_state p) l) (RuleFails (word_of l)) d refl (ruled-on (names_well p l) _ d e) h)

  root-crossed : (t : Bool) (s : Loosenings) (lemmas : List State) (i : ℕ) (ls : List CertLine) (d : Due) → crosses p i ≡ t → cond t (on (end_due s lemmas (left_open []))) (no_crossing p i) ≡ on d → IsRootAhead (crossing i ∷ ls)
  root-crossed true s lemmas i ls d e g = absurd (no-crossing i e)
  root-crossed false s lemmas i ls d e g = not-on _ d g

  next-lemma : (s : Loosenings) (k : ℕ) (lemmas : List State) (i : ℕ) (ls : List CertLine) (d : Due) → cond (nat_lt (length lemmas) k) (given (nat_eq i (length lemmas)) (axis_next s k lemmas p.axes []) BadNumber) (faulty Missing) ≡ on d →
      Ahead d ls → AreLemmasAhead (length lemmas) k (lemma i ∷ ls)
  next-lemma s k lemmas i ls d e h =
      let g = given-on (nat_eq i (length lemmas)) _ d BadNumber (cond-on (nat_lt (length lemmas) k) _ Missing d e) in
      subst (λ (n : ℕ). AreLemmasAhead (length lemmas) k (lemma n ∷ ls)) (sym (eq-of i (length lemmas) g.0))
      (whole-lemma (length lemmas) k ls (box-next s k lemmas p.axes [] ls (subst (λ x. Ahead x ls) (sym g.1) h)))

  back : (d : Due) (l : CertLine) (ls : List CertLine) (d' : Due) → next p b d l ≡ on d' → Ahead d' ls → Ahead d (l ∷ ls)
  back version_due (version n) ls d' e h = let g = given-on (is_version n) _ d' BadHeader e in subst (λ x. Ahead x ls) (sym g.1) h
  back version_due _ ls d' e h = not-on _ d' e
  back (margin_due v) (margin m) ls d' e h = subst (λ x. Ahead x ls) (sym (on-same _ d' e)) h
  back (margin_due v) _ ls d' e h = not-on _ d' e
  back (delta_due v m) (delta d) ls d' e h = let g = given-on (loosenings_fit m d) _ d' BadHeader e in subst (λ x. Ahead x ls) (sym g.1) h
  back (delta_due v m) _ ls d' e h = not-on _ d' e
  back (bound_due s) (bound n) ls d' e h = let g = given-on (same_bound n b) _ d' WrongBound e in let k : Ahead (kind_due s) ls = subst (λ x. Ahead x ls) (sym g.1) h in k n
  back (bound_due s) _ ls d' e h = not-on _ d' e
  back (kind_due s) (cover k) ls d' e h =
      let g = given-on (nat_le k most_lemmas) _ d' BadHeader e in
      let x : AreLemmasAhead 0 k ls = subst (λ y. Ahead y ls) (sym g.1) h in
      λ n. with-header s n k ls x
  back (kind_due s) point_word ls d' e h = absurd (no-coordinate s p.axes [] ls (subst (λ x. Ahead x ls) (sym (on-same _ d' e)) h))
  back (kind_due s) _ ls d' e h = not-on _ d' e
  back (next_due s k lemmas) (lemma i) ls d' e h = next-lemma s k lemmas i ls d' e h
  back (next_due s k lemmas) tree_word ls d' e h = let g = given-on (nat_eq (length lemmas) k) _ d' Missing e in record {
    lemmas = [];
    many = eq-of (length lemmas + 0) k (ap (λ (n : ℕ). nat_eq n k) (omega arith) ∙ g.0);
    well = tt;
    behind = ls;
    tree = subst (λ x. Ahead x ls) (sym g.1) h;
    lines = refl;
  }
  back (next_due s k lemmas) _ ls d' e h = not-on _ d' e
  back (axis_due s k lemmas a axes space) l ls d' e h = axis-back p s k lemmas a.declared axes space l ls d' e h
  back (yes_due s k lemmas space) (yes_list js) ls d' e h = let g = given-on _ _ d' BadNumber e in (js, ls, refl, subst (λ x. Ahead x ls) (sym g.1) h)
  back (yes_due s k lemmas space) _ ls d' e h = not-on _ d' e
  back (no_due s k lemmas space is) (no_list js) ls d' e h =
      let g = given-on _ _ d' BadNumber e in let f : IsForestAhead 1 (suc (length lemmas)) k ls = subst (λ x. Ahead x ls) (sym g.1) h in
      (js, ls, refl, record { behind = f.0; tree = f.1; later = f.2 })
  back (no_due s k lemmas space is) _ ls d' e h = not-on _ d' e
  back (lemma_due s k lemmas L S pending) (rule_line l) ls d' e h =
      lemma-ruled p s k lemmas L S pending l ls (rule p s lemmas S l) (RuleFails (word_of l)) d' refl (ruled-on (names_well p l) _ d' e) h
  back (lemma_due s k lemmas L S pending) _ ls d' e h = not-on _ d' e
  back (root_due s lemmas) (crossing i) ls d' e h = root-crossed (crosses p i) s lemmas i ls d' refl e
  back (root_due s lemmas) (rule_line l) ls d' e h = root-ruled (is_crossed_box p) s lemmas l ls d' e h
  back (root_due s lemmas) _ ls d' e h = not-on _ d' e
  back (tree_due s lemmas S pending done) (rule_line l) ls d' e h =
      tree-ruled p s lemmas S pending done l ls (rule p s lemmas S l) (RuleFails (word_of l)) d' refl (ruled-on (names_well p l) _ d' e) h
  back (tree_due s lemmas S pending done) _ ls d' e h = not-on _ d' e
  back (coordinate_due s a axes space) l ls d' e h = coordinate-back s a.declared axes space l ls d' e h
  back (end_due s lemmas (at_point space)) end_word ls d' e h = let g = given-on _ _ d' NotShown e in subst (λ x. Ahead x ls) (sym g.1) h
  back (end_due s lemmas (left_open left)) end_word ls d' e h =
      let g = given-on true (nothing_due s lemmas (left_open left)) d' NotShown e in let k : Ahead (nothing_due s lemmas (left_open left)) ls = subst (λ x. Ahead x ls) (sym g.1) h in ap (λ (ks : List CertLine). end_word ∷ ks) k
  back (end_due s lemmas v) _ ls d' e h = not-on _ d' e
  back (nothing_due s lemmas v) _ ls d' e h = not-on _ d' e

  -- ---- all lines

  first-step : (x : Next) (n m : ℕ) (k : Due → Course) (e : Due) → course_next x n k ≡ reached e m → (d : Due) × (x ≡ on d) × (k d ≡ reached e m)
  first-step (on d) n m k e h = (d, refl, h)
  first-step (faulty f) n m k e h = absurd (cc)

  ahead : (ls : List CertLine) (n m : ℕ) (d : Due) (s : Loosenings) (lemmas : List State) (left : List Standing) → course_of_lines p b n d ls ≡ reached (nothing_due s lemmas (left_open left)) m → Ahead d ls
  ahead [] n m d s lemmas left h = let same : d ≡ nothing_due s lemmas (left_open left) = cc in subst (λ x. Ahead x []) (sym same) refl
  ahead (l ∷ ls) n m d s lemmas left h = let f = first-step (next p b d l) (suc n) m _ _ h in back d l ls f.0 f.1 (ahead ls (suc n) m f.0 s lemmas left f.2)

  -- lines of bytes say these
  record AreSaid (ls : List (List ℕ)) (n : ℕ) (d : Due) (c : Course) : Type 0 where
    said : List CertLine
    parsed_are : map parsed ls ≡ map line said
    leads : course_of_lines p b n d said ≡ c

  said-first : (l : List ℕ) (q : Parsed) (n m : ℕ) (d e : Due) (k : Due → Course) → parsed l ≡ q → course_next (next_parsed p b d q) n k ≡ reached e m →
      (x : CertLine) × (d' : Due) × (parsed l ≡ line x) × (next p b d x ≡ on d') × (k d' ≡ reached e m)
  said-first l too_long n m d e k is h = absurd (cc)
  said-first l bad_line n m d e k is h = absurd (cc)
  said-first l bad_number n m d e k is h = absurd (cc)
  said-first l (line x) n m d e k is h = let f = first-step (next p b d x) n m k e h in (x, f.0, is, f.1, f.2)

  are-said : (ls : List (List ℕ)) (n m : ℕ) (d e : Due) → course p b n d ls ≡ reached e m → AreSaid ls n d (reached e m)
  are-said [] n m d e h = record { said = []; parsed_are = refl; leads = h }
  are-said (l ∷ ls) n m d e h =
      let f = said-first l (parsed l) (suc n) m d e _ refl h in
      let rest = are-said ls (suc n) m f.1 e f.4 in
      record {
        said = f.0 ∷ rest.said;
        parsed_are = ap₂ (λ (x : Parsed) (xs : List Parsed). x ∷ xs) f.2 rest.parsed_are;
        leads = ap (λ (x : Next). course_next x (suc n) (λ y. course_of_lines p b (suc n) y rest.said)) f.3 ∙ rest.leads;
      }

  -- where bytes are accepted
  at-last : (d : Due) (n : ℕ) (s : Loosenings) (v : Value) → at_end d n ≡ accepted s v → (lemmas : List State) × (d ≡ nothing_due s lemmas v)
  at-last (nothing_due s' lemmas v') n s v h = (lemmas, cc)
  at-last _ n s v h = absurd (cc)

  where-ended : (c : Course) (s : Loosenings) (v : Value) → ended c ≡ accepted s v → (lemmas : List State) × (n : ℕ) × (c ≡ reached (nothing_due s lemmas v) n)
  where-ended (stopped f n) s v h = absurd (cc)
  where-ended (reached d n) s v h = let x = at-last d n s v h in (x.0, n, ap (λ (y : Due). reached y n) x.1)

  not-cut : (c : Course) (s : Loosenings) (v : Value) → cut_off c ≡ accepted s v → ⊥
  not-cut (stopped f n) s v h = cc
  not-cut (reached d n) s v h = cc

  accepted-course : (t : Bool) (bytes : List ℕ) (s : Loosenings) (v : Value) → verdict_by t p b bytes ≡ accepted s v →
      (t ≡ true) × (lemmas : List State) × (n : ℕ) × (course p b 0 version_due (lines_of bytes) ≡ reached (nothing_due s lemmas v) n)
  accepted-course true bytes s v h = let x = where-ended (course p b 0 version_due (lines_of bytes)) s v h in (refl, x.0, x.1, x.2)
  accepted-course false bytes s v h = absurd (not-cut (course p b 0 version_due (lines_so_far (take most_bytes bytes))) s v h)

  text-of : (bytes : List ℕ) (s : Loosenings) (left : List Standing) → IsAccepted p b bytes s (left_open left) → (c : Cover) × IsTextOf c bytes
  text-of bytes s left h =
      let c = accepted-course (nat_le (length bytes) most_bytes) bytes s (left_open left) h in
      let said = are-said (lines_of bytes) 0 c.2 version_due (nothing_due s c.1 (left_open left)) c.3 in
      let cover = ahead said.said 0 c.2 version_due s c.1 left said.leads in
      let same : map parsed (lines_of bytes) ≡ map line (cover_lines cover.cover) = said.parsed_are ∙ ap (λ (xs : List CertLine). map line xs) cover.lines in
      let spelled = said_spelled bytes (cover_lines cover.cover) same in (
        cover.cover,
        record {
          few = leb-true (length bytes) most_bytes c.0;
          lines = spelled.0;
          spelled = spelled.1;
          shaped = cover.shaped;
          lemmas = all-firsts cover.cover.lemmas cover.well;
          boxes = all-seconds cover.cover.lemmas cover.well;
        },
      )

pub accepted_is_text : AcceptedIsText
accepted_is_text p b bytes s left h clear = text-of p b (λ i e. true≢false (sym (none_crossed p.axes 0 clear i) ∙ ap not e)) bytes s left h
