-- The ranges of constants, from the ends of marked trees.
use Rattle.std.proofs.Common.{◌≡◌, ℕ, List, [], map, Bool, Option, ap, sym, ◌∙◌, subst}
use Rattle.std.specs.Borrow.{Bor}
use Rattle.std.specs.HashMap.{HashMap}
use Rattle.ival.specs.declared.ends.Ival.{Ival}
use Rattle.script_model.specs.Script as script
use Rattle.script_model.specs.Script.{Command, constants_of}
use Rattle.script_roots.specs.Fresh.{asserted}
use Rattle.script_roots.specs.Tree.{Tree}
use Rattle.script_roots.specs.TreeBounds.{EndBound, all_ends, axes_from, claim_ends, box_ranges, declared_ranges, range_of}
use Rattle.root_rewriting.specs.Enclosures.{KnowsRanges}
use Rattle.root_rewriting.specs.Sweep.{AreConjuncts, SameElements, marked_ends}
use Rattle.root_rewriting.proofs.Declared.{box_same}
use Rattle.root_rewriting.proofs.Tightest.{range_same}

module _ (bound : Option ℕ) (commands : List Command) where
  abbrev wanted : List script.Constant → List EndBound
  wanted cs = all_ends (map (claim_ends (axes_from 0 [] cs)) (asserted commands))

  pub declared_from : {S : Type 0} (m : HashMap (Bor (List ℕ)) Ival S) (cs : List script.Constant) (es : List EndBound) (marks : List Bool) (ts : List Tree) → cs ≡ constants_of commands →
      es ≡ marked_ends (axes_from 0 [] cs) marks ts → AreConjuncts (axes_from 0 [] cs) ts (asserted commands) marks → KnowsRanges m (box_ranges (range_of bound es) cs) →
      KnowsRanges m (declared_ranges bound commands)
  declared_from m cs es marks ts is e conjuncts knows = subst (KnowsRanges m)
      (box_same (range_of bound es) (range_of bound (wanted cs)) (range_same bound es (wanted cs) (subst (λ (xs : List EndBound). SameElements xs (wanted cs)) (sym e) conjuncts.same)) cs ∙
      ap (λ (ds : List script.Constant). box_ranges (range_of bound (wanted ds)) ds) is) knows
