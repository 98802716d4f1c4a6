-- A code of forms, by which a proof tells them apart: the tokens of a form, each behind its parts, from which it is made again.
use Rattle.std.specs.Prelude.{◌≡◌, ◌⊎◌, ℕ, List, [], ◌∷◌, Bool, true, false, refl}
use Rattle.std.proofs.Common.{inl, inr, ◌∙◌}
use Rattle.std.specs.Coded.{Coded, code_by, coded×, coded⊎, coded_ℕ, coded_bool, coded_list}
use Rattle.poly_graph.specs.Form.{Form, yes_form, no_form, atom_is, bool_is, all_form, any_form, Forms, no_forms, more_forms}

-- an atom, or a Bool axis with its value; yes or no; all or any of the last list, or the empty list, or the last form before it
abbrev pub Token : Type 0
Token = (ℕ ⊎ (ℕ × Bool)) ⊎ (Bool ⊎ (Bool × Bool))

abbrev mutual
  pub form_tokens : Form ℕ → List Token → List Token
  form_tokens yes_form k = inr (inl true) ∷ k
  form_tokens no_form k = inr (inl false) ∷ k
  form_tokens (atom_is a) k = inl (inl a) ∷ k
  form_tokens (bool_is axis v) k = inl (inr (axis, v)) ∷ k
  form_tokens (all_form fs) k = list_tokens fs (inr (inr (true, true)) ∷ k)
  form_tokens (any_form fs) k = list_tokens fs (inr (inr (true, false)) ∷ k)

  pub list_tokens : Forms ℕ → List Token → List Token
  list_tokens no_forms k = inr (inr (false, false)) ∷ k
  list_tokens (more_forms f fs) k = list_tokens fs (form_tokens f (inr (inr (false, true)) ∷ k))

-- what is made of the tokens so far, the last one first
abbrev pub last_form : List (Form ℕ) → Form ℕ
last_form [] = yes_form
last_form (f ∷ fs) = f

abbrev pub last_list : List (Forms ℕ) → Forms ℕ
last_list [] = no_forms
last_list (fs ∷ lists) = fs

abbrev pub others : {A : Type 0} → List A → List A
others [] = []
others (x ∷ xs) = xs

abbrev pub made : List Token → List (Form ℕ) → List (Forms ℕ) → Form ℕ
made [] forms lists = last_form forms
made (inr (inl true) ∷ k) forms lists = made k (yes_form ∷ forms) lists
made (inr (inl false) ∷ k) forms lists = made k (no_form ∷ forms) lists
made (inl (inl a) ∷ k) forms lists = made k (atom_is a ∷ forms) lists
made (inl (inr (axis, v)) ∷ k) forms lists = made k (bool_is axis v ∷ forms) lists
made (inr (inr (true, true)) ∷ k) forms lists = made k (all_form (last_list lists) ∷ forms) (others lists)
made (inr (inr (true, false)) ∷ k) forms lists = made k (any_form (last_list lists) ∷ forms) (others lists)
made (inr (inr (false, false)) ∷ k) forms lists = made k forms (no_forms ∷ lists)
made (inr (inr (false, true)) ∷ k) forms lists = made k (others forms) (more_forms (last_form forms) (last_list lists) ∷ others lists)

mutual
  pub form_made : (f : Form ℕ) (k : List Token) (forms : List (Form ℕ)) (lists : List (Forms ℕ)) → made (form_tokens f k) forms lists ≡ made k (f ∷ forms) lists
  form_made yes_form k forms lists = refl
  form_made no_form k forms lists = refl
  form_made (atom_is a) k forms lists = refl
  form_made (bool_is axis v) k forms lists = refl
  form_made (all_form fs) k forms lists = list_made fs (inr (inr (true, true)) ∷ k) forms lists
  form_made (any_form fs) k forms lists = list_made fs (inr (inr (true, false)) ∷ k) forms lists

  pub list_made : (fs : Forms ℕ) (k : List Token) (forms : List (Form ℕ)) (lists : List (Forms ℕ)) → made (list_tokens fs k) forms lists ≡ made k forms (fs ∷ lists)
  list_made no_forms k forms lists = refl
  list_made (more_forms f fs) k forms lists =
      list_made fs (form_tokens f (inr (inr (false, true)) ∷ k)) forms lists ∙ form_made f (inr (inr (false, true)) ∷ k) forms (fs ∷ lists)

abbrev pub form_code : Coded (Form ℕ)
form_code = code_by (List Token) (coded_list (coded⊎ (coded⊎ coded_ℕ (coded× coded_ℕ coded_bool)) (coded⊎ coded_bool (coded× coded_bool coded_bool))))
    (λ f. form_tokens f []) (λ k. made k [] []) (λ f. form_made f [] [] [])
