-- Maps from names, and what they have.
use Rattle.std.proofs.Common.{◌≡◌, ℕ, List, [], ◌∷◌, Bool, true, false, cond, Option, Some, None, refl, ap, sym, ◌∙◌, subst}
use Rattle.std.specs.Prelude.{option_map, is_some}
use Rattle.std.specs.Str.{bytes_eq}
use Rattle.std.specs.Borrow.{Bor}
use Rattle.std.specs.HashMap.{HashMap, IsEmpty, get_by, UpdatesBy}
use Rattle.std.specs.Map.{lookup}
use Rattle.std.proofs.lemmas.Map.Text.{hash_map_updates_str}
use Rattle.interval_model.specs.Interval.{Interval}
use Rattle.script_model.specs.Reading.{Operator, found}
use Rattle.script_roots.specs.Ranges.{or_everything, symbol_range}
use Rattle.script_roots.specs.TreeBounds.{TreeBounding, or_no_end, symbol_in}
use Rattle.sort_check.specs.Views.{operator_of}
use Rattle.sort_check.specs.declared.operators.Operator as code
use Rattle.root_rewriting.specs.Shapes.{shape_of, without_ends}
use Rattle.root_rewriting.specs.declared.range.shapes.Shape.{Shape}
use Rattle.root_rewriting.specs.declared.range.shapes.Shape.TheVariants.{Known, Axis, Other}
use Rattle.sort_check.proofs.Known.{bytes_symm}

module _ {V W : Type 0} (f : V → W) where
  abbrev pub Knows : {S : Type 0} → HashMap (Bor (List ℕ)) V S → List (List ℕ × W) → Type 0
  Knows map names = (x : List ℕ) → option_map f (get_by (λ k. bytes_eq x k.now) map) ≡ found x names

  mapped : (b : Bool) (v : V) (o : Option V) (w : Option W) → option_map f o ≡ w → option_map f (cond b (Some v) o) ≡ cond b (Some (f v)) w
  mapped true v o w h = refl
  mapped false v o w h = h

  pub knows_none : {S : Type 0} (map : HashMap (Bor (List ℕ)) V S) → IsEmpty map → Knows map []
  knows_none map e = λ x. ap (λ es. option_map f (lookup (λ k. bytes_eq x k.now) es)) e

  pub knows_more : {S : Type 0} (old new : HashMap (Bor (List ℕ)) V S) (names : List (List ℕ × W)) (x : List ℕ) (v : V) → Knows old names →
      UpdatesBy (λ a b. bytes_eq a.now b.now) (λ k. bytes_eq x k.now) old new (Some v) → Knows new ((x, f v) ∷ names)
  knows_more old new names x v knows updates = λ y.
      ap (option_map f) (hash_map_updates_str x old new (Some v) updates y) ∙
      mapped (bytes_eq x y) v (get_by (λ k. bytes_eq y k.now) old) (found y names) (knows y) ∙
      ap (λ b. cond b (Some (f v)) (found y names)) (bytes_symm x y)

-- ---- operators

-- a name that no operator of the code has is no operator
pub no_operator : (r : Option code.Operator) (w : Option Operator) → option_map operator_of r ≡ w → is_some r ≡ false → w ≡ None
no_operator None w e h = sym e
no_operator (Some o) w e h = cc

pub symbol_known : (op : Option Operator) (i : Interval) (o : Option Interval) → op ≡ None → Some i ≡ o → i ≡ symbol_range op o
symbol_known op i o e h = subst (λ (w : Option Operator). i ≡ symbol_range w o) (sym e) (ap or_everything h)

pub shape_known : (op : Option Operator) (b : TreeBounding) (o : Option TreeBounding) → op ≡ None → Some b ≡ o → without_ends b ≡ without_ends (symbol_in op o)
shape_known op b o e h = subst (λ (w : Option Operator). without_ends b ≡ without_ends (symbol_in w o)) (sym e) (ap (λ (x : Option TreeBounding). without_ends (or_no_end x)) h)

pub shape_plain : (s : Shape) → without_ends (shape_of s) ≡ shape_of s
shape_plain (Known i) = refl
shape_plain (Axis a) = refl
shape_plain Other = refl
