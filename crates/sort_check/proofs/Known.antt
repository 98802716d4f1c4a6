-- Names that are known, parameters and commands, one after the other.
use Rattle.std.proofs.Common.{◌≡◌, ℕ, List, [], ◌∷◌, Bool, true, false, cond, Option, Some, None, refl, ap, sym, ◌∙◌}
use Rattle.std.specs.Prelude.{◌||◌, is_some, option_map}
use Rattle.std.specs.Str.{bytes_eq}
use Rattle.std.specs.Borrow.{Bor}
use Rattle.std.specs.HashMap.{HashMap, get_by, UpdatesBy}
use Rattle.std.proofs.lemmas.Map.Text.{hash_map_updates_str}
use Rattle.std.proofs.lemmas.Slice.Eq.{bytes_eq-Decides}
use Rattle.script_model.specs.Reading.{Names, Named, found, operators}
use Rattle.sort_check.specs.Sorts.{Sorted, is_operator, known}
use Rattle.sort_check.specs.Views.{Knows, named_of}
use Rattle.sort_check.specs.declared.names.Known.{Known}

same : (a b : Bool) → (a ≡ true → b ≡ true) → (b ≡ true → a ≡ true) → a ≡ b
same true b f g = sym (f refl)
same false true f g = g refl
same false false f g = refl

pub bytes_symm : (x y : List ℕ) → bytes_eq x y ≡ bytes_eq y x
bytes_symm x y = same (bytes_eq x y) (bytes_eq y x) (λ h. (bytes_eq-Decides y x).1 (sym ((bytes_eq-Decides x y).0 h))) (λ h. (bytes_eq-Decides x y).1 (sym ((bytes_eq-Decides y x).0 h)))

known_more : (a b : Bool) (n : Named Sorted) (o : Option (Named Sorted)) → (a || (b || is_some o)) ≡ (b || is_some (cond a (Some n) o))
known_more true true n o = refl
known_more true false n o = refl
known_more false b n o = refl

or_none : (b : Bool) → b ≡ (b || false)
or_none true = refl
or_none false = refl

pub known_is : (x : List ℕ) (names : Names Sorted) → known x names ≡ (is_operator (found x operators) || is_some (found x names))
known_is x [] = or_none (is_operator (found x operators))
known_is x (n ∷ rest) = ap (λ b. bytes_eq x n.0 || b) (known_is x rest) ∙ known_more (bytes_eq x n.0) (is_operator (found x operators)) n.1 (found x rest)

some_map : {A B : Type 0} (f : A → B) (o : Option A) → is_some (option_map f o) ≡ is_some o
some_map f None = refl
some_map f (Some a) = refl

pub known_in : {S : Type 0} (top : HashMap (Bor (List ℕ)) Known S) (names : Names Sorted) (x : List ℕ) → Knows top names →
    known x names ≡ (is_operator (found x operators) || is_some (get_by (λ k. bytes_eq x k.now) top))
known_in top names x knows =
    known_is x names ∙ ap (λ b. is_operator (found x operators) || b) (ap is_some (sym (knows x)) ∙ some_map named_of (get_by (λ k. bytes_eq x k.now) top))

mapped : (b : Bool) (v : Known) (o : Option Known) (f : Option (Named Sorted)) → option_map named_of o ≡ f → option_map named_of (cond b (Some v) o) ≡ cond b (Some (named_of v)) f
mapped true v o f h = refl
mapped false v o f h = h

pub knows_more : {S : Type 0} (old new : HashMap (Bor (List ℕ)) Known S) (names : Names Sorted) (x : List ℕ) (v : Known) → Knows old names →
    UpdatesBy (λ a b. bytes_eq a.now b.now) (λ k. bytes_eq x k.now) old new (Some v) → Knows new ((x, named_of v) ∷ names)
knows_more old new names x v knows updates = λ y.
    ap (option_map named_of) (hash_map_updates_str x old new (Some v) updates y) ∙
    mapped (bytes_eq x y) v (get_by (λ k. bytes_eq y k.now) old) (found y names) (knows y) ∙
    ap (λ b. cond b (Some (named_of v)) (found y names)) (bytes_symm x y)
