-- The walk over the lines of a main tree.
use Rattle.std.proofs.Common.{◌≡◌, inl, ℕ, zero, suc, ◌+◌, ◌<◌, ◌≤◌, List, [], ◌∷◌, ◌++◌, map, take, drop, get_or, length, length-append, append_assoc, Bool, true, false, cond, refl, ap, sym, ◌∙◌, subst, arith}
use Rattle.std.specs.Prelude.{Vec}
use Rattle.std.specs.Global.{Global}
use Rattle.std.specs.List.{AllByRecursion}
use Rattle.std.proofs.Math.Seq.{drop-cons}
use Rattle.std.proofs.lemmas.List.{append-nil, map_more, map-append, take_all, take-append-drop, length-take}
use Rattle.std.proofs.lemmas.List.Elements.{All-get_or, recursion_from_All}
use Rattle.poly_graph.specs.ProblemViews.{Parts, problem_of}
use Rattle.cover_line.specs.declared.rule.Rule.{Rule}
use Rattle.cover_line.specs.Views.{line_of}
use Rattle.cover_model.specs.State.{State}
use Rattle.cover_model.specs.Rules.{Line}
use Rattle.cover_model.specs.Derivation.{leaf}
use Rattle.cover_data.specs.declared.margins.Options.{Options}
use Rattle.interval_model.specs.Space.{Space}
use Rattle.cover_data.specs.Margins.{margins_of, loosenings_of, options_in}
use Rattle.cert_read.specs.CertLine.{rule_line}
use Rattle.cert_read.specs.LineText.{IsSpelled}
use Rattle.cert_model.specs.Accepted.{certificate_text}
use Rattle.cert_model.specs.Due.{Standing}
use Rattle.cert_model.specs.Written.{lemma_states, left_standing, rule_lines}
use Rattle.cert_resumed.specs.Resumed.{IsGraft, Share, each_left, others, is_leaving, is_own, leaving_lines}
use Rattle.cert_resume.specs.Calls.{HasWalked, IsFoundPoint}
use Rattle.cert_resume.specs.Going.{CanBeResumed, HasGone, HasPassed, IsBegun, IsSearchable, IsWithinRoot, options_now, standings}
use Rattle.cert_resume.specs.Request.{IsVersionOn}
use Rattle.cert_resume.specs.declared.going.Going.{Going}
use Rattle.cert_resume.proofs.Gone.{Made, begun_gone, line_gone, state_gone, passed_made}
use Rattle.cert_resume.proofs.Later.{gone_later, searchable_in, version_on_later, version_on_through, version_on_written}
use Rattle.cert_resume.proofs.Rows.{each_count, leaving_end, standings_end}

leaving-append : (xs ys : List Line) → leaving_lines (xs ++ ys) ≡ leaving_lines xs ++ leaving_lines ys
leaving-append [] ys = refl
leaving-append (x ∷ xs) ys = ap (λ (ms : List Line). cond (is_leaving x) (x ∷ ms) ms) (leaving-append xs ys) ∙ both (is_leaving x)
  where
    both : (b : Bool) → cond b (x ∷ (leaving_lines xs ++ leaving_lines ys)) (leaving_lines xs ++ leaving_lines ys) ≡ cond b (x ∷ leaving_lines xs) (leaving_lines xs) ++ leaving_lines ys
    both true = refl
    both false = refl

standings-count : (ks : List Line) (Ss : List State) → length ks ≤ length Ss → length (standings ks Ss) ≡ length ks
standings-count [] Ss h = refl
standings-count (k ∷ ks) [] h = absurd (omega (arith, h))
standings-count (k ∷ ks) (S ∷ Ss) h = ap suc (standings-count ks Ss (omega (arith, h)))

all-at : (P : Standing → Type 0) (ks : List Line) (Ss : List State) (l : Line) (S : State) (more : List Line) (rest : List State) → length ks ≡ length Ss → AllByRecursion P (standings (ks ++ (l ∷ more)) (Ss ++ (S ∷ rest))) → P (record { state = S; does = l })
all-at P [] [] l S more rest e h = h.0
all-at P [] (T ∷ Ss) l S more rest e h = absurd (omega (arith, e))
all-at P (k ∷ ks) [] l S more rest e h = absurd (omega (arith, e))
all-at P (k ∷ ks) (T ∷ Ss) l S more rest e h = all-at P ks Ss l S more rest (omega (arith, e)) h.1

spelled-at : (main : List Rule) (i : ℕ) (x : Rule) → i < length main → x ≡ get_or main i x → AllByRecursion IsSpelled (rule_lines (map line_of main)) → IsSpelled (rule_line (line_of x))
spelled-at [] i x h e g = absurd (omega (arith, h))
spelled-at (y ∷ main) zero x h e g = subst (λ (r : Rule). IsSpelled (rule_line (line_of r))) (sym e) g.0
spelled-at (y ∷ main) (suc i) x h e g = spelled-at main i x (omega (arith, h)) e g.1

others-few : (h : Share) (k : ℕ) (xss : List (List Standing)) → others h k xss ≤ length xss
others-few h k [] = omega arith
others-few h k (xs ∷ xss) = by (is_own h k) (others-few h (suc k) xss)
  where
    by : (b : Bool) → others h (suc k) xss ≤ length xss → cond b (others h (suc k) xss) (suc (others h (suc k) xss)) ≤ suc (length xss)
    by true f = omega (arith, f)
    by false f = omega (arith, f)

passed-version : (own : Bool) (q : Parts) (o : Options) (S : State) (l : Line) (g g' : Going) → HasPassed own q o S l g g' → IsVersionOn g.version g'.version
passed-version true q o S l g g' k = k.version
passed-version false q o S l g g' k = inl k.version

module _ (q : Parts) (o : Options) (h : Share) (start : List State) (main : List Rule) (left : List State) (can : CanBeResumed q o start (map line_of main) left) where
  abbrev lines : ℕ → List Line
  lines i = map line_of (take i main)

  -- so many lines were gone through, of which so many leave their states, in the version of a search that began in that of the options
  pub record Walked (i place : ℕ) (g : Going) : Type 0 where
    pub counted : place ≡ length (leaving_lines (lines i))
    pub version : IsVersionOn o.version g.version
    pub gone : HasGone q (options_now o g) h start (lines i) (standings (leaving_lines (lines i)) left) g

  pub none_walked : (g : Going) → IsBegun q o g → g.lemmas.items ≡ start → Walked 0 0 g
  none_walked g f e = record {
    counted = refl;
    version = inl f.begun.version;
    gone = subst (λ (v : ℕ). HasGone q (options_in v o) h start [] [] g) (sym f.begun.version) (begun_gone q o h start g f e);
  }

  pub walked_searchable : (i place : ℕ) (g : Going) → Walked i place g → IsSearchable q (options_now o g)
  walked_searchable i place g w = searchable_in q o g.version w.version can.searchable

  -- a point that is found behind it
  pub point_walked : (i place : ℕ) (g g' : Going) (x : Space) → Walked i place g → IsFoundPoint q o g.version g' x → IsFoundPoint q o o.version g' x
  point_walked i place g g' x w f = (version_on_through o.version g.version g'.version w.version f.0, f.1)

  lines-more : (i : ℕ) (x : Rule) → i < length main → x ≡ get_or main i x → lines (i + 1) ≡ lines i ++ (line_of x ∷ [])
  lines-more i x k e = map_more line_of main i x k ∙ ap (λ (y : Rule). lines i ++ (line_of y ∷ [])) (sym e)

  -- the lines that leave their states, up to this one, and the others
  leaving-split : (i : ℕ) (x : Rule) → i < length main → x ≡ get_or main i x → is_leaving (line_of x) ≡ true →
      leaving_lines (map line_of main) ≡ leaving_lines (lines i) ++ (line_of x ∷ leaving_lines (map line_of (drop (i + 1) main)))
  leaving-split i x k e l =
      ap (λ (rs : List Rule). leaving_lines (map line_of rs)) (sym (take-append-drop (i + 1) main))
      ∙ ap leaving_lines (map-append line_of (take (i + 1) main) (drop (i + 1) main))
      ∙ leaving-append (lines (i + 1)) (map line_of (drop (i + 1) main))
      ∙ ap (λ (ls : List Line). leaving_lines ls ++ leaving_lines (map line_of (drop (i + 1) main))) (lines-more i x k e)
      ∙ ap (λ (ls : List Line). ls ++ leaving_lines (map line_of (drop (i + 1) main))) (leaving_end (lines i) (line_of x) ∙ ap (λ (b : Bool). leaving_lines (lines i) ++ cond b (line_of x ∷ []) []) l)
      ∙ append_assoc (leaving_lines (lines i)) (line_of x ∷ []) (leaving_lines (map line_of (drop (i + 1) main)))

  pub place_within : (i place : ℕ) (g : Going) (x : Rule) → Walked i place g → i < length main → x ≡ get_or main i x → is_leaving (line_of x) ≡ true → place < length left
  place_within i place g x w k e l =
      omega (arith, w.counted, can.leaves, ap (λ (ls : List Line). length ls) (leaving-split i x k e l), length-append (leaving_lines (lines i)) (line_of x ∷ leaving_lines (map line_of (drop (i + 1) main))))

  pub state_within : (place : ℕ) (S : State) → place < length left → S ≡ get_or left place S → IsWithinRoot q S
  state_within place S k e = subst (IsWithinRoot q) (sym e) (All-get_or (IsWithinRoot q) left place S k can.fits)

  left-split : (place : ℕ) (S : State) → place < length left → S ≡ get_or left place S → left ≡ take place left ++ (S ∷ drop (suc place) left)
  left-split place S k e =
      sym (take-append-drop place left) ∙ ap (λ (Ss : List State). take place left ++ Ss) (drop-cons left place S k ∙ ap (λ (T : State). T ∷ drop (suc place) left) (sym e))

  -- a line that leaves no state
  pub line_walked : (i place : ℕ) (g : Going) (x : Rule) (M : Vec ℕ Global) → Walked i place g → i < length main → x ≡ get_or main i x → is_leaving (line_of x) ≡ false →
      M.items ≡ g.main.items ++ certificate_text (rule_line (line_of x) ∷ []) → Walked (i + 1) place (record g { main = M })
  line_walked i place g x M w k e l t =
      let same : leaving_lines (lines i ++ (line_of x ∷ [])) ≡ leaving_lines (lines i) = leaving_end (lines i) (line_of x) ∙ ap (λ (b : Bool). leaving_lines (lines i) ++ cond b (line_of x ∷ []) []) l ∙ append-nil (leaving_lines (lines i)) in
      let all : leaving_lines (lines (i + 1)) ≡ leaving_lines (lines i) = ap leaving_lines (lines-more i x k e) ∙ same in
      record {
        counted = w.counted ∙ ap (λ (ls : List Line). length ls) (sym all);
        version = w.version;
        gone = subst (λ (ks : List Line). HasGone q (options_now o g) h start (lines (i + 1)) (standings ks left) (record g { main = M })) (sym all)
            (subst (λ (ls : List Line). HasGone q (options_now o g) h start ls (standings (leaving_lines (lines i)) left) (record g { main = M })) (sym (lines-more i x k e))
            (line_gone q (options_now o g) h start (lines i) (standings (leaving_lines (lines i)) left) g M (line_of x) w.gone l (spelled-at main i x k e can.spelled) t));
      }

  -- one that does
  pub state_walked : (i place : ℕ) (g g' : Going) (x : Rule) (S : State) → Walked i place g → i < length main → x ≡ get_or main i x → is_leaving (line_of x) ≡ true → S ≡ get_or left place S →
      HasPassed (is_own h place) q (options_now o g') S (line_of x) g g' → Walked (i + 1) (place + 1) g'
  state_walked i place g g' x S w k e l f pass =
      let l' : Line = line_of x in
      let u : Options = options_now o g' in
      let began = can.searchable.limits.margins.version_is in
      let step = passed-version (is_own h place) q u S l' g g' pass in
      let on = version_on_through o.version g.version g'.version w.version step in
      let gone : HasGone q u h start (lines i) (standings (leaving_lines (lines i)) left) g =
      gone_later q (options_now o g) h start (lines i) (standings (leaving_lines (lines i)) left) g g'.version (version_on_later g.version g'.version (version_on_written o.version g.version began w.version) step) w.gone in
      let y : Standing = record { state = S; does = l' } in
      let ks : List Line = leaving_lines (lines i) in
      let within : place < length left = place_within i place g x w k e l in
      let taken : length (take place left) ≡ place = omega (arith, length-take place left, within) in
      let counts : length ks ≡ length (take place left) = omega (arith, w.counted, taken) in
      let split : left ≡ take place left ++ (S ∷ drop (suc place) left) = left-split place S within f in
      let length-is : length (standings ks left) ≡ place = omega (arith, standings-count ks left (omega (arith, w.counted, within)), w.counted) in
      let all : leaving_lines (lines (i + 1)) ≡ ks ++ (l' ∷ []) = ap leaving_lines (lines-more i x k e) ∙ leaving_end (lines i) l' ∙ ap (λ (b : Bool). ks ++ cond b (l' ∷ []) []) l in
      let more : standings (ks ++ (l' ∷ [])) left ≡ standings ks left ++ (y ∷ []) =
      ap (standings (ks ++ (l' ∷ []))) split ∙ standings_end ks (take place left) l' S counts (drop (suc place) left) ∙ ap (λ (Ss : List State). standings ks Ss ++ (y ∷ [])) (sym split) in
      let P : Standing → Type 0 = λ (z : Standing). IsGraft (problem_of q) (loosenings_of (margins_of u)) (start ++ lemma_states gone.lemmas) z (leaf z.does) × (left_standing (problem_of q) (loosenings_of (margins_of u)) (start ++ lemma_states gone.lemmas) z.state (leaf z.does) ≡ z ∷ []) in
      let after : List Line = leaving_lines (map line_of (drop (i + 1) main)) in
      let stays : IsGraft (problem_of q) (loosenings_of (margins_of u)) g.lemmas.items y (leaf l') =
      subst (λ (ls : List State). IsGraft (problem_of q) (loosenings_of (margins_of u)) ls y (leaf l')) (sym gone.states)
      (all-at P ks (take place left) l' S after (drop (suc place) left) counts
      (subst (λ (Ss : List State). AllByRecursion P (standings (ks ++ (l' ∷ after)) Ss)) split
      (subst (λ (ms : List Line). AllByRecursion P (standings ms left)) (leaving-split i x k e l) (recursion_from_All P (standings (leaving_lines (map line_of main)) left) (can.stays g'.version (version_on_later o.version g'.version began on) gone.lemmas))))).0 in
      let made : Made q u h start (is_own h place) y g g' = passed_made q u h start (is_own h place) S l' g g' pass l gone.may (spelled-at main i x k e can.spelled) stays in
      record {
        counted = omega (arith, w.counted, ap (λ (ls : List Line). length ls) all, length-append ks (l' ∷ []));
        version = on;
        gone = subst (λ (ms : List Line). HasGone q u h start (lines (i + 1)) (standings ms left) g') (sym all)
            (subst (λ (xs : List Standing). HasGone q u h start (lines (i + 1)) xs g') (sym more)
            (subst (λ (ls : List Line). HasGone q u h start ls (standings ks left ++ (y ∷ [])) g') (sym (lines-more i x k e))
            (state_gone q u h start (lines i) (standings ks left) g g' l' S gone l (omega (arith, length-is, w.counted))
            (subst (λ (n : ℕ). Made q u h start (is_own h n) y g g') (sym length-is) made))));
      }

  -- not more states are in other shares than were passed
  pub few_others : (i place : ℕ) (g : Going) → Walked i place g → place < length left → g.others ≤ place
  few_others i place g w k =
      omega (
        arith,
        w.counted,
        w.gone.others,
        others-few h 0 (each_left (problem_of q) (loosenings_of (margins_of (options_now o g))) g.lemmas.items (standings (leaving_lines (lines i)) left) w.gone.trees),
        each_count (problem_of q) (loosenings_of (margins_of (options_now o g))) g.lemmas.items (standings (leaving_lines (lines i)) left) w.gone.trees w.gone.grafts,
        standings-count (leaving_lines (lines i)) left (omega (arith, w.counted, k)),
      )

  pub all_walked : (i place : ℕ) (g : Going) → Walked i place g → length main ≤ i → HasWalked q o h start (map line_of main) left g
  all_walked i place g w k =
      (w.version, subst (λ (rs : List Rule). HasGone q (options_now o g) h start (map line_of rs) (standings (leaving_lines (map line_of rs)) left) g) (take_all i main k) w.gone)
