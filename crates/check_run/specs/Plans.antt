-- The texts of a plan.
use Rattle.std.specs.Prelude.{ℕ, List, ◌++◌, codes, decimal}
use Rattle.cert_model.specs.AnswerText.{text_line}

abbrev pub least_bits_text : ℕ → List ℕ
least_bits_text bits = text_line (codes "plan least-bits " ++ decimal bits)

abbrev pub no_atom_text : ℕ → List ℕ
no_atom_text atom = text_line (codes "plan none atom " ++ decimal atom)

abbrev pub no_axis_text : ℕ → List ℕ
no_axis_text axis = text_line (codes "plan none axis " ++ decimal axis)
