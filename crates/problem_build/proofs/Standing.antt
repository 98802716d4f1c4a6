-- The commands of a script, one after the other.
use Rattle.std.proofs.Common.{◌≡◌, ℕ, zero, suc, ◌<◌, ◌≤◌, List, [], ◌∷◌, ◌++◌, map, length, Some, refl, ap, ap₂, sym, ◌∙◌, subst, arith, append_assoc, append-nil, length-append}
use Rattle.std.specs.Prelude.{slice_get, Result, Ok, Err}
use Rattle.std.specs.Borrow.{Bor}
use Rattle.dyadic.specs.Point.{Sort, real_sort, bool_sort}
use Rattle.script_model.specs.Sexp.{Place, Sexp}
use Rattle.script_model.specs.Reading.{unknown, Meanings, Named, value, meaning}
use Rattle.script_model.specs.Script.{Command, Parameter, declare, define, claim, minimize, goal_claim, check, ineffective, defined, claims, sorts_of}
use Rattle.script_model.specs.Declared.{Bounding, bounding, constant_bounding, numbered}
use Rattle.poly_graph.specs.Problem.{HasSort}
use Rattle.poly_graph.specs.Form.{form_atoms, form_map}
use Rattle.script_forms.specs.Terms.{Unfolded}
use Rattle.script_forms.specs.Unfolded.{truth_of}
use Rattle.script_forms.specs.Atoms.{atom_of, number_in}
use Rattle.script_forms.specs.Work.{Work, as_work, outcome_of, assertion_events, form_events}
use Rattle.script_forms.specs.Walk.{Stand, Walked, stands, stops, nothing_made, constant_work, works, claim_places, after_assertions, after_events, goes_on}
use Rattle.smt_sexp.specs.Arena.{expression_at}
use Rattle.script_fault.specs.declared.name.Name as names
use Rattle.smt_sexp.specs.declared.sexps.Sexps as arena
use Rattle.smt_script.specs.Views.{sort_of, parameter_of}
use Rattle.smt_script.specs.declared.command.Sort as code_sort
use Rattle.smt_script.specs.declared.command.Parameter as code_parameter
use Rattle.term_build.specs.Built.{stand_of}
use Rattle.term_build.specs.Does.{StopsAs}
use Rattle.term_build.specs.Settled.{Extends}
use Rattle.term_build.specs.declared.stop.Stop.{Stop}
use Rattle.term_build.proofs.Emits.{stops_so, stopped_on, emits_then, emits_more}
use Rattle.term_build.proofs.Lists.{get_before, get_end, stood}
use Rattle.term_build.proofs.Settled.{extends_self, extends_on, numbers_stay, atoms_stay, stay}
use Rattle.value_build.specs.Making.{Making, Grows, MoreLists}
use Rattle.value_build.specs.Marks.{with_sort}
use Rattle.value_build.specs.Values.{IsValue, IsClaim, IsClaimed, Claims}
use Rattle.value_build.specs.declared.value.Value.{Value}
use Rattle.value_build.proofs.Growth.{lists_self, lists_stay, lists_on}
use Rattle.problem_build.specs.Names.{known_of, entry_of, top_names, work_names, bound_names_of, work_at, bounding_at, KnownFits, TopFits}
use Rattle.problem_build.specs.Goal.{goal_meaning}
use Rattle.problem_build.specs.Standing.{IsAsserted, Asserts, AreClaims, left_works, left_bounds, boundings, walk_of, IsTopOf, IsNamed, IsDone, Adds}
use Rattle.problem_build.specs.Walking.{Fails, IsWorkValue}
use Rattle.problem_build.proofs.Steps.{fails_on}
use Rattle.problem_build.specs.declared.top.Known.{Known}
use Rattle.problem_build.specs.declared.top.Known.TheVariants as known
use Rattle.problem_build.specs.declared.top.Top.{Top}

-- ---- one more name

module _ {V : Type 0} (M : Meanings V) (constant : ℕ → Sort → V) (s : arena.Sexps) where
  names-before : (top more : List Top) (n : ℕ) → n ≤ length top → top_names M constant s (top ++ more) n ≡ top_names M constant s top n
  names-before top more zero h = refl
  names-before top more (suc n) h = let t = stood top n (omega (arith, h)) in
      ap (λ o. entry_of M constant s (top_names M constant s (top ++ more) n) o) (get_before top more n t.0 t.1) ∙
      ap (λ ns. entry_of M constant s ns (Some t.0)) (names-before top more n (omega (arith, h))) ∙
      ap (λ o. entry_of M constant s (top_names M constant s top n) o) (sym t.1)

  pub names_more : (top : List Top) (t : Top) → top_names M constant s (top ++ (t ∷ [])) (length (top ++ (t ∷ []))) ≡ (t.name.now, known_of M constant s (top_names M constant s top (length top)) t.known) ∷ top_names M constant s top (length top)
  names_more top t =
      let n : length (top ++ (t ∷ [])) ≡ suc (length top) = omega (arith, length-append top (t ∷ [])) in
      ap (top_names M constant s (top ++ (t ∷ []))) n ∙
      ap (λ o. entry_of M constant s (top_names M constant s (top ++ (t ∷ [])) (length top)) o) (get_end top t) ∙
      ap (λ ns. entry_of M constant s ns (Some t)) (names-before top (t ∷ []) (length top) (omega arith))

pub fits_more : (sorts : List Sort) (top : List Top) (t : Top) → TopFits sorts top → KnownFits sorts t.known → TopFits sorts (top ++ (t ∷ []))
fits_more sorts [] t h k zero t' e = let same : t ≡ t' = cc in subst (λ (x : Top). KnownFits sorts x.known) same k
fits_more sorts [] t h k (suc i) t' e = cc
fits_more sorts (y ∷ top) t h k zero t' e = h zero t' e
fits_more sorts (y ∷ top) t h k (suc i) t' e = fits_more sorts top t (λ j. h (suc j)) k i t' e

real-there : (before rest : List Sort) → HasSort real_sort (before ++ (real_sort ∷ rest)) (length before)
real-there [] rest = tt
real-there (b ∷ before) rest = real-there before rest

bool-there : (before rest : List Sort) → HasSort bool_sort (before ++ (bool_sort ∷ rest)) (length before)
bool-there [] rest = tt
bool-there (b ∷ before) rest = bool-there before rest

sort-there : (s : Sort) (before rest : List Sort) → HasSort s (before ++ (s ∷ rest)) (length before)
sort-there real_sort before rest = real-there before rest
sort-there bool_sort before rest = bool-there before rest

pub sort_split : (s : Sort) (sorts before rest : List Sort) (axis : ℕ) → length before ≡ axis → sorts ≡ before ++ (s ∷ rest) → HasSort s sorts axis × (axis < length sorts)
sort_split s sorts before rest axis e f = (
  subst (λ (x : List Sort). HasSort s x axis) (sym f) (subst (λ (n : ℕ). HasSort s (before ++ (s ∷ rest)) n) e (sort-there s before rest)),
  omega (arith, e, ap (λ (x : List Sort). length x) f, length-append before (s ∷ rest)),
)

-- constants keep their sorts where more are declared
sort-stays : (s : Sort) (sorts more : List Sort) (axis : ℕ) → HasSort s sorts axis → HasSort s (sorts ++ more) axis
sort-stays s [] more axis h = absurd h
sort-stays real_sort (real_sort ∷ sorts) more zero h = tt
sort-stays bool_sort (bool_sort ∷ sorts) more zero h = tt
sort-stays real_sort (bool_sort ∷ sorts) more zero h = absurd h
sort-stays bool_sort (real_sort ∷ sorts) more zero h = absurd h
sort-stays real_sort (t ∷ sorts) more (suc i) h = sort-stays real_sort sorts more i h
sort-stays bool_sort (t ∷ sorts) more (suc i) h = sort-stays bool_sort sorts more i h

known-stays : (sorts more : List Sort) (k : Known) → KnownFits sorts k → KnownFits (sorts ++ more) k
known-stays sorts more (known.Constant axis sort) h = (sort-stays (sort_of sort) sorts more axis h.0, omega (arith, h.1, length-append sorts more))
known-stays sorts more (known.Function params body) h = tt

pub fits_stay : (sorts more : List Sort) (top : List Top) → TopFits sorts top → TopFits (sorts ++ more) top
fits_stay sorts more top h i t e = known-stays sorts more t.known (h i t e)

-- ---- claims stay

pub claim_stays : (m m1 : Making) (u : Unfolded) (b : Bounding) (c : ℕ × ℕ) → Extends (stand_of m.made) (stand_of m1.made) → MoreLists m.bounds m1.bounds → IsClaim m u b c → IsClaim m1 u b c
claim_stays m m1 u b c x l h = record {
  settled = (stay (stand_of m.made) (stand_of m1.made) (form_events (truth_of u)) x h.settled.0, atoms_stay (stand_of m.made) (stand_of m1.made) (form_atoms (form_map atom_of (truth_of u))) x h.settled.1);
  form = ap (λ fs. slice_get fs c.0) x.forms.1 ∙ get_before (stand_of m.made).forms x.forms.0 c.0 (form_map (number_in (stand_of m.made).atoms) (form_map atom_of (truth_of u))) h.form ∙
      ap Some (sym (numbers_stay (stand_of m.made) (stand_of m1.made) (form_map atom_of (truth_of u)) x h.settled.1));
  bounds = lists_stay m.bounds m1.bounds c.1 _ l h.bounds;
}

pub claims_stay : (m m1 : Making) → Extends (stand_of m.made) (stand_of m1.made) → MoreLists m.bounds m1.bounds → (us : List Unfolded) (bs : List Bounding) (cs : List (ℕ × ℕ)) → AreClaims m us bs cs → AreClaims m1 us bs cs
claims_stay m m1 x l [] [] [] h = tt
claims_stay m m1 x l (u ∷ us) (b ∷ bs) (c ∷ cs) h = (claim_stays m m1 u b c x l h.0, claims_stay m m1 x l us bs cs h.1)
claims_stay m m1 x l _ _ _ h = elim h [ ]

claims-last : (m : Making) (w : Work) (b : Bounding) (c : ℕ × ℕ) → IsClaim m w.outcome b c → (ws : List Work) (bs : List Bounding) (cs : List (ℕ × ℕ)) → AreClaims m (map outcome_of ws) bs cs →
    AreClaims m (map outcome_of (ws ++ (w ∷ []))) (bs ++ (b ∷ [])) (cs ++ (c ∷ []))
claims-last m w b c h [] [] [] k = (h, tt)
claims-last m w b c h (x ∷ ws) (y ∷ bs) (z ∷ cs) k = (k.0, claims-last m w b c h ws bs cs k.1)
claims-last m w b c h [] [] (z ∷ cs) k = elim k [ ]
claims-last m w b c h [] (y ∷ bs) cs k = elim k [ ]
claims-last m w b c h (x ∷ ws) [] cs k = elim k [ ]
claims-last m w b c h (x ∷ ws) (y ∷ bs) [] k = elim k [ ]

-- ---- the names of the top

pub none_left : {A B : Type 0} (f : A → B) (xs : List A) → length xs < 1 → map f xs ≡ []
none_left f [] h = refl
none_left f (x ∷ xs) h = absurd (omega (arith, h))

pub sorts_more : (script rest : List Command) → sorts_of (script ++ rest) ≡ sorts_of script ++ sorts_of rest
sorts_more [] rest = refl
sorts_more (declare at x sort ∷ script) rest = ap (λ ss. sort ∷ ss) (sorts_more script rest)
sorts_more (define at f params sort body ∷ script) rest = sorts_more script rest
sorts_more (claim at e ∷ script) rest = sorts_more script rest
sorts_more (minimize at t ∷ script) rest = sorts_more script rest
sorts_more (check at ∷ script) rest = sorts_more script rest
sorts_more (ineffective at ∷ script) rest = sorts_more script rest

-- no command binds a name
pub top_of_none : (s : arena.Sexps) → IsTopOf s [] []
top_of_none s = record { works = λ rest. refl; bounds = λ rest. refl; fits = λ i t e. cc }

module _ (s : arena.Sexps) (script : List Command) (c : Command) (top top' : List Top) (h : IsTopOf s script top) where
  abbrev behind : List Command
  behind = script ++ (c ∷ [])

  abbrev here : ℕ
  here = length (sorts_of script)

  module _ (there : ℕ) (counted : length (sorts_of behind) ≡ there) where
    works-behind : (done : List Work) → ((rest : List Command) → left_works s top here (c ∷ rest) ≡ done ++ left_works s top' there rest) → (works behind ≡ works script ++ done) ×
        ((rest : List Command) → works (behind ++ rest) ≡ works behind ++ left_works s top' (length (sorts_of behind)) rest)
    works-behind done e =
        let one : works behind ≡ works script ++ done = h.works (c ∷ []) ∙ ap (λ ws. works script ++ ws) (e [] ∙ append-nil done) in (
          one,
          λ rest. ap works (append_assoc script (c ∷ []) rest) ∙ h.works (c ∷ rest) ∙ ap (λ ws. works script ++ ws) (e rest) ∙
              sym (append_assoc (works script) done (left_works s top' there rest)) ∙ ap (λ ws. ws ++ left_works s top' there rest) (sym one) ∙
              ap (λ n. works behind ++ left_works s top' n rest) (sym counted),
        )

    bounds-behind : (done : List Bounding) → ((rest : List Command) → left_bounds s top here (c ∷ rest) ≡ done ++ left_bounds s top' there rest) → (boundings behind ≡ boundings script ++ done) ×
        ((rest : List Command) → boundings (behind ++ rest) ≡ boundings behind ++ left_bounds s top' (length (sorts_of behind)) rest)
    bounds-behind done e =
        let one : boundings behind ≡ boundings script ++ done = h.bounds (c ∷ []) ∙ ap (λ bs. boundings script ++ bs) (e [] ∙ append-nil done) in (
          one,
          λ rest. ap boundings (append_assoc script (c ∷ []) rest) ∙ h.bounds (c ∷ rest) ∙ ap (λ bs. boundings script ++ bs) (e rest) ∙
              sym (append_assoc (boundings script) done (left_bounds s top' there rest)) ∙ ap (λ bs. bs ++ left_bounds s top' there rest) (sym one) ∙
              ap (λ n. boundings behind ++ left_bounds s top' n rest) (sym counted),
        )

  fits-behind : TopFits (sorts_of behind) top
  fits-behind = subst (λ (ss : List Sort). TopFits ss top) (sym (sorts_more script (c ∷ []))) (fits_stay (sorts_of script) (sorts_of (c ∷ [])) top h.fits)

module _ (s : arena.Sexps) (script : List Command) (top : List Top) (h : IsTopOf s script top) where
  pub top_declared : (at : Place) (name : Bor names.Name) (sort : code_sort.Sort) (axis : ℕ) → length (sorts_of script) ≡ axis →
      IsNamed s (script ++ (declare at name.now (sort_of sort) ∷ [])) (top ++ (record { name = name; known = known.Constant axis sort } ∷ [])) (suc axis)
  top_declared at name sort axis here =
      let c : Command = declare at name.now (sort_of sort) in
      let t : Top = record { name = name; known = known.Constant axis sort } in
      let sorts : sorts_of (script ++ (c ∷ [])) ≡ sorts_of script ++ (sort_of sort ∷ []) = sorts_more script (c ∷ []) in
      let counted : length (sorts_of (script ++ (c ∷ []))) ≡ suc axis = ap length sorts ∙ omega (arith, here, length-append (sorts_of script) (sort_of sort ∷ [])) in
      let there : KnownFits (sorts_of (script ++ (c ∷ []))) t.known = sort_split (sort_of sort) (sorts_of (script ++ (c ∷ []))) (sorts_of script) [] axis here sorts in
      record {
        names = record {
          works = (works-behind s script c top (top ++ (t ∷ [])) h (suc axis) counted []
              (λ rest. ap (λ n. left_works s top n (c ∷ rest)) here ∙ ap (λ ns. claims as_work ns (numbered constant_work (suc axis) (sorts_of rest)) rest) (sym (names_more as_work constant_work s top t)))).1;
          bounds = (bounds-behind s script c top (top ++ (t ∷ [])) h (suc axis) counted []
              (λ rest. ap (λ n. left_bounds s top n (c ∷ rest)) here ∙ ap (λ ns. claims bounding ns (numbered constant_bounding (suc axis) (sorts_of rest)) rest) (sym (names_more bounding constant_bounding s top t)))).1;
          fits = fits_more (sorts_of (script ++ (c ∷ []))) top t (fits-behind s script c top top h) there;
        };
        counted = counted;
      }

  pub top_defined : (at : Place) (name : Bor names.Name) (params : List code_parameter.Parameter) (slice : Bor (List code_parameter.Parameter)) (sort : Sort) (body axis : ℕ) → slice.now ≡ params → length (sorts_of script) ≡ axis →
      IsNamed s (script ++ (define at name.now (map parameter_of params) sort (expression_at s body) ∷ [])) (top ++ (record { name = name; known = known.Function slice body } ∷ [])) axis
  top_defined at name params slice sort body axis e here =
      subst (λ (xs : List code_parameter.Parameter). IsNamed s (script ++ (define at name.now (map parameter_of xs) sort (expression_at s body) ∷ [])) (top ++ (t ∷ [])) axis) e top-defined
    where
      t : Top
      t = record { name = name; known = known.Function slice body }

      c : Command
      c = define at name.now (map parameter_of slice.now) sort (expression_at s body)

      top-defined : IsNamed s (script ++ (c ∷ [])) (top ++ (t ∷ [])) axis
      top-defined =
          let counted : length (sorts_of (script ++ (c ∷ []))) ≡ axis = ap length (sorts_more script (c ∷ [])) ∙ omega (arith, here, length-append (sorts_of script) []) in
          record {
            names = record {
              works = (works-behind s script c top (top ++ (t ∷ [])) h axis counted []
                  (λ rest. ap (λ n. left_works s top n (c ∷ rest)) here ∙ ap (λ ns. claims as_work ns (numbered constant_work axis (sorts_of rest)) rest) (sym (names_more as_work constant_work s top t)))).1;
              bounds = (bounds-behind s script c top (top ++ (t ∷ [])) h axis counted []
                  (λ rest. ap (λ n. left_bounds s top n (c ∷ rest)) here ∙ ap (λ ns. claims bounding ns (numbered constant_bounding axis (sorts_of rest)) rest) (sym (names_more bounding constant_bounding s top t)))).1;
              fits = fits_more (sorts_of (script ++ (c ∷ []))) top t (fits-behind s script c top top h) tt;
            };
            counted = counted;
          }

  -- an assertion, a goal, a check and what has no effect bind none
  module _ (axis : ℕ) (here : length (sorts_of script) ≡ axis) where
    top-behind : (c : Command) (ws : List Work) (bs : List Bounding) → sorts_of (c ∷ []) ≡ [] → ((rest : List Command) → left_works s top axis (c ∷ rest) ≡ ws ++ left_works s top axis rest) →
        ((rest : List Command) → left_bounds s top axis (c ∷ rest) ≡ bs ++ left_bounds s top axis rest) → IsNamed s (script ++ (c ∷ [])) top axis
    top-behind c ws bs none works bounds =
        let counted : length (sorts_of (script ++ (c ∷ []))) ≡ axis =
        ap length (sorts_more script (c ∷ []) ∙ ap (λ ss. sorts_of script ++ ss) none ∙ append-nil (sorts_of script)) ∙ here in
        record {
          names = record {
            works = (works-behind s script c top top h axis counted ws (λ rest. ap (λ n. left_works s top n (c ∷ rest)) here ∙ works rest)).1;
            bounds = (bounds-behind s script c top top h axis counted bs (λ rest. ap (λ n. left_bounds s top n (c ∷ rest)) here ∙ bounds rest)).1;
            fits = fits-behind s script c top top h;
          };
          counted = counted;
        }

    pub top_claimed : (at : Place) (e : Sexp) → IsNamed s (script ++ (claim at e ∷ [])) top axis
    top_claimed at e = top-behind (claim at e) (meaning as_work (work_names s top (length top)) e ∷ []) (meaning bounding (bound_names_of s top (length top)) e ∷ []) refl (λ rest. refl) (λ rest. refl)

    pub top_minimized : (at : Place) (t : Sexp) → IsNamed s (script ++ (minimize at t ∷ [])) top axis
    top_minimized at t = top-behind (minimize at t) (meaning as_work (work_names s top (length top)) (goal_claim at t) ∷ [])
        (meaning bounding (bound_names_of s top (length top)) (goal_claim at t) ∷ []) refl (λ rest. refl) (λ rest. refl)

    pub top_checked : (at : Place) → IsNamed s (script ++ (check at ∷ [])) top axis
    top_checked at = top-behind (check at) [] [] refl (λ rest. refl) (λ rest. refl)

    pub top_same : (at : Place) → IsNamed s (script ++ (ineffective at ∷ [])) top axis
    top_same at = top-behind (ineffective at) [] [] refl (λ rest. refl) (λ rest. refl)

-- ---- the walk over some commands, and then over others

claims-many : {V : Type 0} (M : Meanings V) (names : List (List ℕ × Named V)) (vs : List V) (script : List Command) → length (claims M names vs script) ≡ length (claim_places script)
claims-many M names vs [] = refl
claims-many M names [] (declare at x sort ∷ rest) = claims-many M ((x, value (M.nothing at (unknown x))) ∷ names) [] rest
claims-many M names (v ∷ vs) (declare at x sort ∷ rest) = claims-many M ((x, value v) ∷ names) vs rest
claims-many M names vs (define at f params sort body ∷ rest) = claims-many M ((f, defined M names params body) ∷ names) vs rest
claims-many M names vs (claim at e ∷ rest) = ap suc (claims-many M names vs rest)
claims-many M names vs (minimize at t ∷ rest) = ap suc (claims-many M names vs rest)
claims-many M names vs (check at ∷ rest) = claims-many M names vs rest
claims-many M names vs (ineffective at ∷ rest) = claims-many M names vs rest

pub places_both : (script rest : List Command) → claim_places (script ++ rest) ≡ claim_places script ++ claim_places rest
places_both [] rest = refl
places_both (declare at x sort ∷ script) rest = places_both script rest
places_both (define at f params sort body ∷ script) rest = places_both script rest
places_both (claim at e ∷ script) rest = ap (λ ps. at ∷ ps) (places_both script rest)
places_both (minimize at t ∷ script) rest = ap (λ ps. at ∷ ps) (places_both script rest)
places_both (check at ∷ script) rest = places_both script rest
places_both (ineffective at ∷ script) rest = places_both script rest

goes-both : (w : Walked) (f g h : Stand → Walked) → ((s : Stand) → f s ≡ goes_on h (g s)) → goes_on f w ≡ goes_on h (goes_on g w)
goes-both (stands s) f g h e = e s
goes-both (stops at x) f g h e = refl

walk-both : (s : Stand) (places later : List Place) (ws more : List Work) → length ws ≡ length places →
    after_assertions s (places ++ later) (ws ++ more) ≡ goes_on (λ s'. after_assertions s' later more) (after_assertions s places ws)
walk-both s [] later [] more e = refl
walk-both s (at ∷ places) later (w ∷ ws) more e =
    goes-both (after_events at s (assertion_events w)) (λ s'. after_assertions s' (places ++ later) (ws ++ more)) (λ s'. after_assertions s' places ws) (λ s'. after_assertions s' later more)
    (λ s'. walk-both s' places later ws more (omega (arith, e)))
walk-both s [] later (w ∷ ws) more e = absurd (omega (arith, e))
walk-both s (at ∷ places) later [] more e = absurd (omega (arith, e))

-- ---- one command more is made

-- the command asserts: its place, its work and its bounds, where these names of the top are seen
pub record AssertsHere (s : arena.Sexps) (top : List Top) (at : Place) (x : Command) (w : Work) (b : Bounding) : Type 0 where
  pub places : (rest : List Command) → claim_places (x ∷ rest) ≡ at ∷ claim_places rest
  pub works : (n : ℕ) (rest : List Command) → left_works s top n (x ∷ rest) ≡ w ∷ left_works s top n rest
  pub bounds : (n : ℕ) (rest : List Command) → left_bounds s top n (x ∷ rest) ≡ b ∷ left_bounds s top n rest
  pub sorts : sorts_of (x ∷ []) ≡ []

pub claim_here : (s : arena.Sexps) (top : List Top) (at : Place) (body : ℕ) → AssertsHere s top at (claim at (expression_at s body)) (work_at s top body) (bounding_at s top body)
claim_here s top at body = record { places = λ rest. refl; works = λ n rest. refl; bounds = λ n rest. refl; sorts = refl }

pub goal_here : (s : arena.Sexps) (top : List Top) (at : Place) (body : ℕ) →
    AssertsHere s top at (minimize at (expression_at s body)) (goal_meaning as_work at (work_at s top body)) (goal_meaning bounding at (bounding_at s top body))
goal_here s top at body = record { places = λ rest. refl; works = λ n rest. refl; bounds = λ n rest. refl; sorts = refl }

module _ (s : arena.Sexps) (script : List Command) (m : Making) (top : List Top) (made : List (ℕ × ℕ)) (h : IsTopOf s script top) (d : IsDone script m made) where
  walk-behind : (rest : List Command) → walk_of (script ++ rest) ≡ after_assertions (stand_of m.made) (claim_places rest) (left_works s top (length (sorts_of script)) rest)
  walk-behind rest =
      ap₂ (after_assertions nothing_made) (places_both script rest) (h.works rest) ∙
      walk-both nothing_made (claim_places script) (claim_places rest) (works script) (left_works s top (length (sorts_of script)) rest) (claims-many as_work [] (numbered constant_work 0 (sorts_of script)) script) ∙
      ap (goes_on (λ s'. after_assertions s' (claim_places rest) (left_works s top (length (sorts_of script)) rest))) d.walk

  module _ (c : Command) (none : (sorts : ℕ) → left_works s top sorts (c ∷ []) ≡ []) (still : (sorts : ℕ) → left_bounds s top sorts (c ∷ []) ≡ []) where
    works-same : works (script ++ (c ∷ [])) ≡ works script
    works-same = h.works (c ∷ []) ∙ ap (λ ws. works script ++ ws) (none (length (sorts_of script))) ∙ append-nil (works script)

    bounds-same : boundings (script ++ (c ∷ [])) ≡ boundings script
    bounds-same = h.bounds (c ∷ []) ∙ ap (λ bs. boundings script ++ bs) (still (length (sorts_of script))) ∙ append-nil (boundings script)

    pub made_same : (m1 : Making) → claim_places (c ∷ []) ≡ [] → Extends (stand_of m.made) (stand_of m1.made) → stand_of m1.made ≡ stand_of m.made → MoreLists m.bounds m1.bounds → m1.made.sorts ≡ m.made.sorts ++ sorts_of (c ∷ []) →
        IsDone (script ++ (c ∷ [])) m1 made
    made_same m1 places x same l sorts = record {
      walk = walk-behind (c ∷ []) ∙ ap (λ ps. after_assertions (stand_of m.made) ps (left_works s top (length (sorts_of script)) (c ∷ []))) places ∙ ap stands (sym same);
      claims = subst (λ (ws : List Work). AreClaims m1 (map outcome_of ws) (boundings (script ++ (c ∷ []))) made) (sym works-same)
          (subst (λ (bs : List Bounding). AreClaims m1 (map outcome_of (works script)) bs made) (sym bounds-same) (claims_stay m m1 x l (map outcome_of (works script)) (boundings script) made d.claims));
      sorts = sorts ∙ ap (λ ss. ss ++ sorts_of (c ∷ [])) d.sorts ∙ sym (sorts_more script (c ∷ []));
    }

  pub made_declared : (at : Place) (x : List ℕ) (sort : Sort) → IsDone (script ++ (declare at x sort ∷ [])) (with_sort m sort) made
  made_declared at x sort = made_same (declare at x sort) (λ n. refl) (λ n. refl) (with_sort m sort) refl (extends_self (stand_of m.made)) refl (lists_self m.bounds) refl

  pub made_defined : (at : Place) (f : List ℕ) (params : List Parameter) (sort : Sort) (body : Sexp) → IsDone (script ++ (define at f params sort body ∷ [])) m made
  made_defined at f params sort body = made_same (define at f params sort body) (λ n. refl) (λ n. refl) m refl (extends_self (stand_of m.made)) refl (lists_self m.bounds) (sym (append-nil m.made.sorts))

  pub made_checked : (at : Place) → IsDone (script ++ (check at ∷ [])) m made
  made_checked at = made_same (check at) (λ n. refl) (λ n. refl) m refl (extends_self (stand_of m.made)) refl (lists_self m.bounds) (sym (append-nil m.made.sorts))

  pub made_ineffective : (at : Place) → IsDone (script ++ (ineffective at ∷ [])) m made
  made_ineffective at = made_same (ineffective at) (λ n. refl) (λ n. refl) m refl (extends_self (stand_of m.made)) refl (lists_self m.bounds) (sym (append-nil m.made.sorts))

  module _ (at : Place) (x : Command) (work : Work) (bound : Bounding) (a : AssertsHere s top at x work bound) where
    walk-asserts : (rest : List Command) → walk_of (script ++ (x ∷ rest)) ≡ after_assertions (stand_of m.made) (at ∷ claim_places rest) (work ∷ left_works s top (length (sorts_of script)) rest)
    walk-asserts rest = walk-behind (x ∷ rest) ∙ ap₂ (after_assertions (stand_of m.made)) (a.places rest) (a.works (length (sorts_of script)) rest)

    pub made_claimed : (m1 : Making) (c : ℕ × ℕ) → Asserts m m1 work bound (Ok c) → m1.made.sorts ≡ m.made.sorts → IsDone (script ++ (x ∷ [])) m1 (made ++ (c ∷ []))
    made_claimed m1 c r sorts = record {
      walk = walk-asserts [] ∙ ap (goes_on (λ s'. after_assertions s' [] [])) (r.0 at);
      claims = subst (λ (ws : List Work). AreClaims m1 (map outcome_of ws) (boundings (script ++ (x ∷ []))) (made ++ (c ∷ [])))
          (sym (h.works (x ∷ []) ∙ ap (λ ws. works script ++ ws) (a.works (length (sorts_of script)) [])))
          (subst (λ (bs : List Bounding). AreClaims m1 (map outcome_of (works script ++ (work ∷ []))) bs (made ++ (c ∷ [])))
          (sym (h.bounds (x ∷ []) ∙ ap (λ bs. boundings script ++ bs) (a.bounds (length (sorts_of script)) [])))
          (claims-last m1 work bound c r.1.claim (works script) (boundings script) made (claims_stay m m1 r.1.stand r.1.lists (map outcome_of (works script)) (boundings script) made d.claims)));
      sorts = sorts ∙ d.sorts ∙ sym (append-nil (sorts_of script)) ∙ ap (λ ss. sorts_of script ++ ss) (sym a.sorts) ∙ sym (sorts_more script (x ∷ []));
    }

    pub stopped : (rest : List Command) (m1 : Making) (stop : Stop) → Asserts m m1 work bound (Err stop) → StopsAs at (walk_of (script ++ (x ∷ rest))) stop
    stopped rest m1 stop r = stops_so at (walk_of (script ++ (x ∷ rest))) _ stop (walk-asserts rest)
        (stopped_on at (after_events at (stand_of m.made) (assertion_events work)) (λ s'. after_assertions s' (claim_places rest) (left_works s top (length (sorts_of script)) rest)) stop (r at))

-- ---- what was made stays

pub adds_nothing : (m : Making) (made : List (ℕ × ℕ)) → Adds m m made made
adds_nothing m made = record {
  stand = extends_self (stand_of m.made);
  lists = lists_self m.bounds;
  sorts = ([], sym (append-nil m.made.sorts));
  claims = ([], sym (append-nil made));
  drawn = λ e. e;
}

pub adds_sort : (m : Making) (sort : Sort) (made : List (ℕ × ℕ)) → Adds m (with_sort m sort) made made
adds_sort m sort made = record {
  stand = extends_self (stand_of m.made);
  lists = lists_self m.bounds;
  sorts = (sort ∷ [], refl);
  claims = ([], sym (append-nil made));
  drawn = λ e. e;
}

pub adds_claim : (m m1 : Making) (w : Work) (b : Bounding) (c : ℕ × ℕ) (made : List (ℕ × ℕ)) → IsAsserted m m1 w b c → m1.made.sorts ≡ m.made.sorts → m1.drawn ≡ [] → Adds m m1 made (made ++ (c ∷ []))
adds_claim m m1 w b c made a sorts drawn = record {
  stand = a.stand;
  lists = a.lists;
  sorts = ([], sorts ∙ sym (append-nil m.made.sorts));
  claims = (c ∷ [], refl);
  drawn = λ e. drawn;
}

-- ---- an assertion

pub asserts_claim : (m m1 m2 : Making) (w : Work) (b : Bounding) (v : Value) (r : Result (ℕ × ℕ) Stop) → IsWorkValue m m1 w b (Ok v) → Claims m1 m2 v r → Asserts m m2 w b r
asserts_claim m m1 m2 w b v r h c =
    emits_then (λ (x : Value). Grows m m1 × IsValue m1 w.outcome b x) (IsAsserted m m2 w b) m.made m1.made m2.made w.events (form_events (truth_of w.outcome)) v r h
    (emits_more (IsClaimed m1 m2 w.outcome b) (IsAsserted m m2 w b) m1.made m2.made (form_events (truth_of w.outcome)) r (λ x d. record {
      stand = extends_on (stand_of m.made) (stand_of m1.made) (stand_of m2.made) h.1.0.stand d.stand;
      lists = lists_on m.bounds m1.bounds m2.bounds h.1.0.bounds d.lists;
      claim = d.claim;
    }) (c w.outcome b h.1.1))

pub asserts_fails : (m m1 : Making) (w : Work) (b : Bounding) (e : Stop) → Fails m w.events e → Asserts m m1 w b (Err e)
asserts_fails m m1 w b e h = fails_on m w.events (form_events (truth_of w.outcome)) e h
