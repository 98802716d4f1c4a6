-- What was read off meetings is put together, from the end.
use Rattle.std.proofs.Common.{◌≡◌, ℕ, ◌<◌, List, [], ◌∷◌, ◌++◌, length, Option, Some, None, refl, ap, sym, ◌∙◌, subst, arith}
use Rattle.std.specs.Prelude.{Result, Ok, Err, IfOk}
use Rattle.std.specs.declared.alloc.AllocError.{AllocError}
use Rattle.script_model.specs.Sexp.{Place}
use Rattle.poly_graph.specs.Term.{Term, Kind, le, ge, eq}
use Rattle.poly_graph.specs.Form.{Form}
use Rattle.script_forms.specs.Terms.{Comparison, Unfolded, term, formula, arms, step}
use Rattle.script_forms.specs.Unfolded.{choice_form, compare_two}
use Rattle.script_forms.specs.Work.{step_events, compare_events}
use Rattle.term_build.specs.Built.{BuilderModel, stand_of}
use Rattle.term_build.specs.Sketch.{SketchNode, IsSketch}
use Rattle.term_build.specs.Pairs.{AddsChoice, ComparesTwo, compared, ConnectsChoice, Draws, DrawsEach, Grown}
use Rattle.term_build.specs.Steps.{tree_of}
use Rattle.term_build.specs.declared.connectives.Pair.{Pair}
use Rattle.term_build.specs.declared.sketch.Arm.{Arm}
use Rattle.term_build.specs.declared.sketch.Arm.TheVariants as arm
use Rattle.poly_graph.proofs.Graphs.{length_terms}
use Rattle.term_build.proofs.Emits.{tree_below, tree_is}
use Rattle.term_build.proofs.Pairs.{grown_self, grown_both, pair_more}
use Rattle.term_build.proofs.Settled.{extends_self}
use Rattle.value_build.specs.Arms.{AreArms, IsSaid, IsSomeArm, Lifts, IsPairAnswer, terms_of, tree_of_leaf}
use Rattle.value_build.specs.Values.{IsArm, is_tree}
use Rattle.value_build.specs.Meetings.{CanGatherArms, CanGatherPairs, CanJoinArms, CanJoinPairs, GathersArms, GathersPairs, HasArms, HasPairs, JoinsArms, JoinsPairs, AreRead, Spread, events_at}
use Rattle.value_build.specs.declared.lift.Leaf.{Leaf}
use Rattle.value_build.specs.declared.lift.Entry.{Entry}
use Rattle.value_build.specs.declared.lift.Entry.TheVariants as entry
use Rattle.value_build.proofs.Folds.{node_there}
use Rattle.value_build.proofs.Growth.{arm_stays}
use Rattle.value_build.proofs.Lifting.{added, arms_are, compared_is}
use Rattle.value_build.proofs.Spreading.{reads_back}

arms-stay : (m : BuilderModel) (ds ds' : List SketchNode) (os : List Unfolded) (xs : List Arm) → Grown ds ds' → AreArms m ds os xs → AreArms m ds' os xs
arms-stay m ds ds' [] [] g h = tt
arms-stay m ds ds' (o ∷ os) (x ∷ xs) g h = (arm_stays m m ds ds' o x (extends_self (stand_of m)) g h.0, arms-stay m ds ds' os xs g h.1)
arms-stay m ds ds' [] (x ∷ xs) g h = absurd h
arms-stay m ds ds' (o ∷ os) [] g h = absurd h

pub reads_grow : (task : Option Leaf) (c : Term → Term → Unfolded) (m : BuilderModel) (ds ds' : List SketchNode) (es : List Entry) (os rest : List Unfolded) → Grown ds ds' → AreRead task c m ds es os rest → AreRead task c m ds' es os rest
reads_grow task c m ds ds' [] os rest g h = h
reads_grow task c m ds ds' (entry.Choice p ∷ es) os rest g h =
    (h.0, h.1, h.2, h.3, h.4, h.5, pair_more (stand_of m).trees ds ds' (formula h.0 h.1) p g h.6, reads_grow task c m ds ds' es (h.2 ∷ h.3 ∷ h.4) rest g h.7)
reads_grow task c m ds ds' (entry.Made k ∷ es) os rest g h = (h.0, h.1, h.2, h.3, reads_grow task c m ds ds' es h.1 rest g h.4)
reads_grow task c m ds ds' (entry.Trees i j ∷ es) os rest g h = (h.0, h.1, h.2, h.3, reads_grow task c m ds ds' es h.1 rest g h.4)

-- ---- arms

-- behind an `ite` stand two arms
pub record TwoArms (m : BuilderModel) (ds : List SketchNode) (p : Pair) (os : List Unfolded) (made : List Arm) : Type 0 where
  pub c : Form Comparison
  pub d : Form Comparison
  pub a : Unfolded
  pub b : Unfolded
  pub more : List Unfolded
  pub x : Arm
  pub y : Arm
  pub left : List Arm
  pub outcome : os ≡ arms c d a b ∷ more
  pub drawn : Draws (stand_of m).trees ds (formula c d) p
  pub are : made ≡ x ∷ y ∷ left
  pub one : IsArm m ds a x
  pub other : IsArm m ds b y
  pub rest : AreArms m ds more left

pub two_arms : (m : BuilderModel) (ds : List SketchNode) (p : Pair) (os : List Unfolded) (made : List Arm) → HasArms m ds (entry.Choice p ∷ []) os made → TwoArms m ds p os made
two_arms m ds p os made h = let r = h.reads in go made (subst (λ (l : List Unfolded). AreArms m ds l made) (sym r.7) h.arms)
  where
    go : (xs : List Arm) → AreArms m ds (h.reads.2 ∷ h.reads.3 ∷ h.reads.4) xs → TwoArms m ds p os xs
    go (x ∷ y ∷ left) k = record { c = h.reads.0; d = h.reads.1; a = h.reads.2; b = h.reads.3; more = h.reads.4; x = x; y = y; left = left; outcome = h.reads.5; drawn = h.reads.6; are = refl; one = k.0; other = k.1.0; rest = k.1.1 }
    go [] k = absurd k
    go (x ∷ []) k = absurd k.1

pub chosen : (m : BuilderModel) (ds ds' : List SketchNode) (p : Pair) (os : List Unfolded) (made left : List Arm) (x y z : Arm) → HasArms m ds (entry.Choice p ∷ []) os made → made ≡ x ∷ y ∷ left → AddsChoice ds ds' p x y (Ok z) →
    Grown ds ds' × IsSketch m ds' × AreArms m ds' os (z ∷ left)
chosen m ds ds' p os made left x y z h e a =
    let t = two_arms m ds p os made h in
    let same : x ∷ y ∷ left ≡ t.x ∷ t.y ∷ t.left = sym e ∙ t.are in
    let one : IsArm m ds t.a x = subst (λ (w : Arm). IsArm m ds t.a w) (sym (first-of x t.x (y ∷ left) (t.y ∷ t.left) same)) t.one in
    let tails : y ∷ left ≡ t.y ∷ t.left = rest-of x t.x (y ∷ left) (t.y ∷ t.left) same in
    let other : IsArm m ds t.b y = subst (λ (w : Arm). IsArm m ds t.b w) (sym (first-of y t.y left t.left tails)) t.other in
    let l = added m ds ds' t.c t.d t.a t.b p x y z a h.sketch t.drawn one other in
    let rest : AreArms m ds t.more left = subst (λ (ws : List Arm). AreArms m ds t.more ws) (sym (rest-of y t.y left t.left tails)) t.rest in (
      l.grown,
      l.sketch,
      subst (λ (ws : List Unfolded). AreArms m ds' ws (z ∷ left)) (sym (t.outcome ∙ ap (λ (w : Unfolded). w ∷ t.more) (arms_are m ds t.c t.d t.a t.b x y one other))) (l.arm, arms-stay m ds ds' t.more left l.grown rest),
    )
  where
    first-of : (v w : Arm) (vs ws : List Arm) → v ∷ vs ≡ w ∷ ws → v ≡ w
    first-of v w vs ws e = cc

    rest-of : (v w : Arm) (vs ws : List Arm) → v ∷ vs ≡ w ∷ ws → vs ≡ ws
    rest-of v w vs ws e = cc

pub made_there : (m : BuilderModel) (ds : List SketchNode) (k : ℕ) (os : List Unfolded) (made : List Arm) → HasArms m ds (entry.Made k ∷ []) os made → Grown ds ds × IsSketch m ds × AreArms m ds os (arm.Tree k ∷ made)
made_there m ds k os made h =
    let r = h.reads in (
      grown_self ds,
      h.sketch,
      subst (λ (ws : List Unfolded). AreArms m ds ws (arm.Tree k ∷ made)) (sym r.2)
          (subst (λ (o : Unfolded). IsArm m ds o (arm.Tree k)) (sym r.3.1) (is_tree r.3.2), subst (λ (l : List Unfolded). AreArms m ds l made) (sym r.4) h.arms),
    )

pub no_trees : (m : BuilderModel) (ds : List SketchNode) (i j : ℕ) (os : List Unfolded) (made : List Arm) → HasArms m ds (entry.Trees i j ∷ []) os made → ⊥
no_trees m ds i j os made h = h.reads.3

-- ---- from entry to entry

-- what is left of entries, over the sketch as it has grown
pub record IsGatheringArms (ds0 ds : List SketchNode) (es0 es : List Entry) (made : List Arm) : Type 0 where
  pub grown : Grown ds0 ds
  pub gathers : (m : BuilderModel) (o : Unfolded) → HasArms m ds0 es0 (o ∷ []) [] → HasArms m ds es (o ∷ []) made

pub gathering_begins : (ds : List SketchNode) (es : List Entry) (made : List Arm) → made ≡ [] → IsGatheringArms ds ds es es made
gathering_begins ds es made e = record { grown = grown_self ds; gathers = λ m o h. record { leaf = h.leaf; c = h.c; rest = h.rest; sketch = h.sketch; reads = h.reads; arms = subst (λ (l : List Arm). AreArms m ds h.rest l) (sym e) h.arms } }

record LastArm (m : BuilderModel) (ds : List SketchNode) (es : List Entry) (e : Entry) (os : List Unfolded) (made : List Arm) : Type 0 where
  pub mid : List Unfolded
  pub last : HasArms m ds (e ∷ []) mid made
  pub front : AreRead (Some last.leaf) last.c m ds es os mid

last-arm : (m : BuilderModel) (ds : List SketchNode) (es : List Entry) (e : Entry) (os : List Unfolded) (made : List Arm) → HasArms m ds (es ++ (e ∷ [])) os made → LastArm m ds es e os made
last-arm m ds es e os made h =
    let r = reads_back (Some h.leaf) h.c m ds es (e ∷ []) os h.rest h.reads in
    record { mid = r.0; last = record { leaf = h.leaf; c = h.c; rest = h.rest; sketch = h.sketch; reads = r.2; arms = h.arms }; front = r.1 }

module _ (ds0 ds : List SketchNode) (es0 es es' : List Entry) (e : Entry) (made : List Arm) (g : IsGatheringArms ds0 ds es0 es made) (same : es ≡ es' ++ (e ∷ [])) where
  last-here : (m : BuilderModel) (o : Unfolded) → HasArms m ds0 es0 (o ∷ []) [] → LastArm m ds es' e (o ∷ []) made
  last-here m o h = last-arm m ds es' e (o ∷ []) made (subst (λ (l : List Entry). HasArms m ds l (o ∷ []) made) same (g.gathers m o h))

  pub can_join_arms : CanGatherArms ds0 es0 → CanJoinArms ds e made
  can_join_arms can = let l = last-here can.0 can.1 can.2 in (can.0, l.mid, l.last)

  pub arms_go_on : (ds' : List SketchNode) (left now : List Arm) (z : Arm) → CanGatherArms ds0 es0 → JoinsArms ds ds' e made left (Ok z) → now ≡ z ∷ left → IsGatheringArms ds0 ds' es0 es' now
  arms_go_on ds' left now z can joins n = record {
    grown = let l = last-here can.0 can.1 can.2 in grown_both ds0 ds ds' g.grown (joins can.0 l.mid l.last).0;
    gathers = λ m o h. let l = last-here m o h in let j = joins m l.mid l.last in record {
      leaf = l.last.leaf;
      c = l.last.c;
      rest = l.mid;
      sketch = j.1;
      reads = reads_grow (Some l.last.leaf) l.last.c m ds ds' es' (o ∷ []) l.mid j.0 l.front;
      arms = subst (λ (ws : List Arm). AreArms m ds' l.mid ws) (sym n) j.2;
    };
  }

pub arms_gathered : (ds0 ds : List SketchNode) (es0 es : List Entry) (made left : List Arm) (z : Arm) → IsGatheringArms ds0 ds es0 es made → es ≡ [] → made ≡ z ∷ left → GathersArms ds0 ds es0 (Ok z)
arms_gathered ds0 ds es0 es made left z g n e = λ m o h.
    let k = subst (λ (l : List Entry). HasArms m ds l (o ∷ []) made) n (g.gathers m o h) in
    let a = subst (λ (l : List Unfolded). AreArms m ds l (z ∷ left)) (sym k.reads) (subst (λ (l : List Arm). AreArms m ds k.rest l) e k.arms) in
    record { grown = g.grown; sketch = k.sketch; arm = a.0 }

pub arms_there : (ds0 ds : List SketchNode) (es0 es : List Entry) (made : List Arm) → IsGatheringArms ds0 ds es0 es made → CanGatherArms ds0 es0 → es ≡ [] → made ≡ [] → ⊥
arms_there ds0 ds es0 es made g can n e =
    let k = subst (λ (l : List Entry). HasArms can.0 ds l (can.1 ∷ []) made) n (g.gathers can.0 can.1 can.2) in
    subst (λ (l : List Unfolded). AreArms can.0 ds l []) (sym k.reads) (subst (λ (l : List Arm). AreArms can.0 ds k.rest l) e k.arms)

-- ---- pairs

pairs-stay : (m : BuilderModel) (ds ds' : List SketchNode) (os : List Unfolded) (ps : List Pair) → Grown ds ds' → DrawsEach (stand_of m).trees ds os ps → DrawsEach (stand_of m).trees ds' os ps
pairs-stay m ds ds' [] [] g h = tt
pairs-stay m ds ds' (o ∷ os) (p ∷ ps) g h = (pair_more (stand_of m).trees ds ds' o p g h.0, pairs-stay m ds ds' os ps g h.1)
pairs-stay m ds ds' [] (p ∷ ps) g h = absurd h
pairs-stay m ds ds' (o ∷ os) [] g h = absurd h

-- behind an `ite` stand two pairs
pub record TwoPairs (m : BuilderModel) (ds : List SketchNode) (q : Pair) (os : List Unfolded) (said : List Pair) : Type 0 where
  pub c : Form Comparison
  pub d : Form Comparison
  pub a : Unfolded
  pub b : Unfolded
  pub more : List Unfolded
  pub x : Pair
  pub y : Pair
  pub left : List Pair
  pub outcome : os ≡ choice_form (formula c d ∷ a ∷ b ∷ []) ∷ more
  pub drawn : Draws (stand_of m).trees ds (formula c d) q
  pub are : said ≡ x ∷ y ∷ left
  pub one : Draws (stand_of m).trees ds a x
  pub other : Draws (stand_of m).trees ds b y
  pub rest : DrawsEach (stand_of m).trees ds more left

module _ (kind : Kind) (at : Place) where
  pub two_pairs : (m : BuilderModel) (ds : List SketchNode) (q : Pair) (os : List Unfolded) (said : List Pair) → HasPairs m ds kind at (entry.Choice q ∷ []) os said → TwoPairs m ds q os said
  two_pairs m ds q os said h = let r = h.reads in go said (subst (λ (l : List Unfolded). DrawsEach (stand_of m).trees ds l said) (sym r.7) h.pairs)
    where
      go : (xs : List Pair) → DrawsEach (stand_of m).trees ds (h.reads.2 ∷ h.reads.3 ∷ h.reads.4) xs → TwoPairs m ds q os xs
      go (x ∷ y ∷ left) k = record { c = h.reads.0; d = h.reads.1; a = h.reads.2; b = h.reads.3; more = h.reads.4; x = x; y = y; left = left; outcome = h.reads.5; drawn = h.reads.6; are = refl; one = k.0; other = k.1.0; rest = k.1.1 }
      go [] k = absurd k
      go (x ∷ []) k = absurd k.1

  pub chosen_pairs : (m : BuilderModel) (ds ds' : List SketchNode) (q : Pair) (os : List Unfolded) (said left : List Pair) (x y z : Pair) → HasPairs m ds kind at (entry.Choice q ∷ []) os said → said ≡ x ∷ y ∷ left → ConnectsChoice ds ds' q x y (Ok z) →
      Grown ds ds' × IsSketch m ds' × DrawsEach (stand_of m).trees ds' os (z ∷ left)
  chosen_pairs m ds ds' q os said left x y z h e w =
      let t = two_pairs m ds q os said h in
      let same : x ∷ y ∷ left ≡ t.x ∷ t.y ∷ t.left = sym e ∙ t.are in
      let tails : y ∷ left ≡ t.y ∷ t.left = rest-of x t.x (y ∷ left) (t.y ∷ t.left) same in
      let one : Draws (stand_of m).trees ds t.a x = subst (λ (p : Pair). Draws (stand_of m).trees ds t.a p) (sym (first-of x t.x (y ∷ left) (t.y ∷ t.left) same)) t.one in
      let other : Draws (stand_of m).trees ds t.b y = subst (λ (p : Pair). Draws (stand_of m).trees ds t.b p) (sym (first-of y t.y left t.left tails)) t.other in
      let rest : DrawsEach (stand_of m).trees ds t.more left = subst (λ (ps : List Pair). DrawsEach (stand_of m).trees ds t.more ps) (sym (rest-of y t.y left t.left tails)) t.rest in
      let l = w m (stand_of m).trees (formula t.c t.d) t.a t.b h.sketch t.drawn one other in (
        l.grown,
        l.sketch,
        subst (λ (ws : List Unfolded). DrawsEach (stand_of m).trees ds' ws (z ∷ left)) (sym t.outcome) (l.drawn, pairs-stay m ds ds' t.more left l.grown rest),
      )
    where
      first-of : (v w : Pair) (vs ws : List Pair) → v ∷ vs ≡ w ∷ ws → v ≡ w
      first-of v w vs ws e = cc

      rest-of : (v w : Pair) (vs ws : List Pair) → v ∷ vs ≡ w ∷ ws → vs ≡ ws
      rest-of v w vs ws e = cc

  pub said_there : (m : BuilderModel) (ds ds' : List SketchNode) (i j : ℕ) (os : List Unfolded) (said : List Pair) (z : Pair) → HasPairs m ds kind at (entry.Trees i j ∷ []) os said → ComparesTwo kind at ds ds' i j (Ok z) →
      Grown ds ds' × IsSketch m ds' × DrawsEach (stand_of m).trees ds' os (z ∷ said)
  said_there m ds ds' i j os said z h w =
      let r = h.reads in
      let n = length_terms m.nodes in
      let l = w m (stand_of m).trees h.sketch (omega (arith, tree_below m r.3.0 i r.3.2, n)) (omega (arith, tree_below m r.3.1 j r.3.3, n)) (omega (arith, n)) in
      let drawn : Draws (stand_of m).trees ds' r.0 z = subst (λ (o : Unfolded). Draws (stand_of m).trees ds' o z) (sym r.3.4)
      (subst (λ (t : Term). Draws (stand_of m).trees ds' (terms_of kind at t r.3.1) z) (tree_is m r.3.0 i r.3.2)
      (subst (λ (t : Term). Draws (stand_of m).trees ds' (terms_of kind at (tree_of m i) t) z) (tree_is m r.3.1 j r.3.3) (by-kind kind at (tree_of m i) (tree_of m j) z l.drawn))) in (
        l.grown,
        l.sketch,
        subst (λ (ws : List Unfolded). DrawsEach (stand_of m).trees ds' ws (z ∷ said)) (sym r.2) (drawn, pairs-stay m ds ds' r.1 said l.grown (subst (λ (ws : List Unfolded). DrawsEach (stand_of m).trees ds ws said) (sym r.4) h.pairs)),
      )
    where
      by-kind : (kind : Kind) (at : Place) (x y : Term) (p : Pair) → Draws (stand_of m).trees ds' (compared kind at (term x) (term y)) p → Draws (stand_of m).trees ds' (terms_of kind at x y) p
      by-kind le at x y p d = d
      by-kind ge at x y p d = d
      by-kind eq at x y p d = d

  pub none_made : (m : BuilderModel) (ds : List SketchNode) (k : ℕ) (os : List Unfolded) (said : List Pair) → HasPairs m ds kind at (entry.Made k ∷ []) os said → ⊥
  none_made m ds k os said h = h.reads.3

  -- what is left of entries, over the sketch as it has grown
  pub record IsGatheringPairs (ds0 ds : List SketchNode) (es0 es : List Entry) (said : List Pair) : Type 0 where
    pub grown : Grown ds0 ds
    pub gathers : (m : BuilderModel) (o : Unfolded) → HasPairs m ds0 kind at es0 (o ∷ []) [] → HasPairs m ds kind at es (o ∷ []) said

  pub pairs_begin : (ds : List SketchNode) (es : List Entry) (said : List Pair) → said ≡ [] → IsGatheringPairs ds ds es es said
  pairs_begin ds es said e = record { grown = grown_self ds; gathers = λ m o h. record { rest = h.rest; sketch = h.sketch; reads = h.reads; pairs = subst (λ (l : List Pair). DrawsEach (stand_of m).trees ds h.rest l) (sym e) h.pairs } }

  record LastPair (m : BuilderModel) (ds : List SketchNode) (es : List Entry) (e : Entry) (os : List Unfolded) (said : List Pair) : Type 0 where
    pub mid : List Unfolded
    pub last : HasPairs m ds kind at (e ∷ []) mid said
    pub front : AreRead None (terms_of kind at) m ds es os mid

  last-pair : (m : BuilderModel) (ds : List SketchNode) (es : List Entry) (e : Entry) (os : List Unfolded) (said : List Pair) → HasPairs m ds kind at (es ++ (e ∷ [])) os said → LastPair m ds es e os said
  last-pair m ds es e os said h =
      let r = reads_back None (terms_of kind at) m ds es (e ∷ []) os h.rest h.reads in
      record { mid = r.0; last = record { rest = h.rest; sketch = h.sketch; reads = r.2; pairs = h.pairs }; front = r.1 }

  module _ (ds0 ds : List SketchNode) (es0 es es' : List Entry) (e : Entry) (said : List Pair) (g : IsGatheringPairs ds0 ds es0 es said) (same : es ≡ es' ++ (e ∷ [])) where
    pair-here : (m : BuilderModel) (o : Unfolded) → HasPairs m ds0 kind at es0 (o ∷ []) [] → LastPair m ds es' e (o ∷ []) said
    pair-here m o h = last-pair m ds es' e (o ∷ []) said (subst (λ (l : List Entry). HasPairs m ds kind at l (o ∷ []) said) same (g.gathers m o h))

    pub can_join_pairs : CanGatherPairs ds0 kind at es0 → CanJoinPairs ds kind at e said
    can_join_pairs can = let l = pair-here can.0 can.1 can.2 in (can.0, l.mid, l.last)

    pub pairs_go_on : (ds' : List SketchNode) (left now : List Pair) (z : Pair) → CanGatherPairs ds0 kind at es0 → JoinsPairs ds ds' kind at e said left (Ok z) → now ≡ z ∷ left → IsGatheringPairs ds0 ds' es0 es' now
    pairs_go_on ds' left now z can joins n = record {
      grown = let l = pair-here can.0 can.1 can.2 in grown_both ds0 ds ds' g.grown (joins can.0 l.mid l.last).0;
      gathers = λ m o h. let l = pair-here m o h in let j = joins m l.mid l.last in record {
        rest = l.mid;
        sketch = j.1;
        reads = reads_grow None (terms_of kind at) m ds ds' es' (o ∷ []) l.mid j.0 l.front;
        pairs = subst (λ (ws : List Pair). DrawsEach (stand_of m).trees ds' l.mid ws) (sym n) j.2;
      };
    }

  pub pairs_gathered : (ds0 ds : List SketchNode) (es0 es : List Entry) (said left : List Pair) (z : Pair) → IsGatheringPairs ds0 ds es0 es said → es ≡ [] → said ≡ z ∷ left → GathersPairs ds0 ds kind at es0 (Ok z)
  pairs_gathered ds0 ds es0 es said left z g n e = λ m o h.
      let k = subst (λ (l : List Entry). HasPairs m ds kind at l (o ∷ []) said) n (g.gathers m o h) in
      let a = subst (λ (l : List Unfolded). DrawsEach (stand_of m).trees ds l (z ∷ left)) (sym k.reads) (subst (λ (l : List Pair). DrawsEach (stand_of m).trees ds k.rest l) e k.pairs) in
      record { grown = g.grown; sketch = k.sketch; drawn = a.0 }

  pub pairs_there : (ds0 ds : List SketchNode) (es0 es : List Entry) (said : List Pair) → IsGatheringPairs ds0 ds es0 es said → CanGatherPairs ds0 kind at es0 → es ≡ [] → said ≡ [] → ⊥
  pairs_there ds0 ds es0 es said g can n e =
      let k = subst (λ (l : List Entry). HasPairs can.0 ds kind at l (can.1 ∷ []) said) n (g.gathers can.0 can.1 can.2) in
      subst (λ (l : List Unfolded). DrawsEach (stand_of can.0).trees ds l []) (sym k.reads) (subst (λ (l : List Pair). DrawsEach (stand_of can.0).trees ds k.rest l) e k.pairs)

-- ---- whatever is answered

pub joins_chosen : (m : BuilderModel) (ds ds' : List SketchNode) (p : Pair) (e : Entry) (os : List Unfolded) (made left : List Arm) (x y : Arm) (r : Result Arm AllocError) → e ≡ entry.Choice p → HasArms m ds (e ∷ []) os made → made ≡ x ∷ y ∷ left → AddsChoice ds ds' p x y r →
    IfOk r (λ z. Grown ds ds' × IsSketch m ds' × AreArms m ds' os (z ∷ left))
joins_chosen m ds ds' p e os made left x y (Ok z) i h f a = chosen m ds ds' p os made left x y z (subst (λ (d : Entry). HasArms m ds (d ∷ []) os made) i h) f a
joins_chosen m ds ds' p e os made left x y (Err s) i h f a = tt

pub joins_made : (m : BuilderModel) (ds : List SketchNode) (k : ℕ) (e : Entry) (os : List Unfolded) (made : List Arm) → e ≡ entry.Made k → HasArms m ds (e ∷ []) os made → Grown ds ds × IsSketch m ds × AreArms m ds os (arm.Tree k ∷ made)
joins_made m ds k e os made i h = made_there m ds k os made (subst (λ (d : Entry). HasArms m ds (d ∷ []) os made) i h)

pub joins_pairs : (kind : Kind) (at : Place) (m : BuilderModel) (ds ds' : List SketchNode) (q : Pair) (e : Entry) (os : List Unfolded) (said left : List Pair) (x y : Pair) (r : Result Pair AllocError) → e ≡ entry.Choice q → HasPairs m ds kind at (e ∷ []) os said → said ≡ x ∷ y ∷ left → ConnectsChoice ds ds' q x y r →
    IfOk r (λ z. Grown ds ds' × IsSketch m ds' × DrawsEach (stand_of m).trees ds' os (z ∷ left))
joins_pairs kind at m ds ds' q e os said left x y (Ok z) i h f w = chosen_pairs kind at m ds ds' q os said left x y z (subst (λ (d : Entry). HasPairs m ds kind at (d ∷ []) os said) i h) f w
joins_pairs kind at m ds ds' q e os said left x y (Err s) i h f w = tt

pub joins_said : (kind : Kind) (at : Place) (m : BuilderModel) (ds ds' : List SketchNode) (j k : ℕ) (e : Entry) (os : List Unfolded) (said : List Pair) (r : Result Pair AllocError) → e ≡ entry.Trees j k → HasPairs m ds kind at (e ∷ []) os said → ComparesTwo kind at ds ds' j k r →
    IfOk r (λ z. Grown ds ds' × IsSketch m ds' × DrawsEach (stand_of m).trees ds' os (z ∷ said))
joins_said kind at m ds ds' j k e os said (Ok z) i h w = said_there kind at m ds ds' j k os said z (subst (λ (d : Entry). HasPairs m ds kind at (d ∷ []) os said) i h) w
joins_said kind at m ds ds' j k e os said (Err s) i h w = tt

-- ---- all of it

module _ (m m1 : BuilderModel) (ds : List SketchNode) (at : Place) (l : Leaf) (es : List Entry) (s : IsSketch m1 ds) where
  arms-read : (u v : Unfolded) → Spread m m1 ds (Some l) at u v es → HasArms m1 ds es (step (tree_of_leaf l at) u v ∷ []) []
  arms-read u v r = record { leaf = l; c = λ t x. term t; rest = []; sketch = s; reads = r.reads (λ t x. term t); arms = tt }

  pub can_gather_arms : (x y : Arm) → IsSomeArm m ds x → IsSomeArm m ds y → ((u v : Unfolded) → IsArm m ds u x → IsArm m ds v y → Spread m m1 ds (Some l) at u v es) → CanGatherArms ds es
  can_gather_arms x y f g h = (m1, step (tree_of_leaf l at) f.0 g.0, arms-read f.0 g.0 (h f.0 g.0 f.1 g.1))

  pub arms_lifted : (ds' : List SketchNode) (u v : Unfolded) (z : Arm) → Spread m m1 ds (Some l) at u v es → GathersArms ds ds' es (Ok z) → Lifts m ds m1 ds' (step_events (events_at (Some l) at) u v) (step (tree_of_leaf l at) u v) (Ok z)
  arms_lifted ds' u v z r g = (r.does.0, g m1 (step (tree_of_leaf l at) u v) (arms-read u v r))

module _ (m m1 : BuilderModel) (ds : List SketchNode) (kind : Kind) (at : Place) (es : List Entry) (s : IsSketch m1 ds) where
  pairs-read : (u v : Unfolded) → Spread m m1 ds None at u v es → HasPairs m1 ds kind at es (compare_two (terms_of kind at) u v ∷ []) []
  pairs-read u v r = record { rest = []; sketch = s; reads = r.reads (terms_of kind at); pairs = tt }

  pub can_gather_pairs : (x y : Arm) → IsSomeArm m ds x → IsSomeArm m ds y → ((u v : Unfolded) → IsArm m ds u x → IsArm m ds v y → Spread m m1 ds None at u v es) → CanGatherPairs ds kind at es
  can_gather_pairs x y f g h = (m1, compare_two (terms_of kind at) f.0 g.0, pairs-read f.0 g.0 (h f.0 g.0 f.1 g.1))

  pub pairs_said : (ds' : List SketchNode) (u v : Unfolded) (z : Pair) → Spread m m1 ds None at u v es → GathersPairs ds ds' kind at es (Ok z) → IsPairAnswer m ds m1 ds' (compare_events u v) (compared kind at u v) (Ok z)
  pairs_said ds' u v z r g = (r.does.0, subst (λ (o : Unfolded). IsSaid m1 ds ds' o z) (compared_is kind at u v) (g m1 (compare_two (terms_of kind at) u v) (pairs-read u v r)))

pub tree_there : (m : BuilderModel) (ds : List SketchNode) (k : ℕ) → k < length m.nodes → IsArm m ds (term (tree_of m k)) (arm.Tree k)
tree_there m ds k h = is_tree (node_there m k h)
