-- Words of commands, in the order in which they are compared.
use Rattle.std.specs.Prelude.{ℕ, List, [], ◌∷◌, codes}
use Rattle.smt_script.specs.Commands.{Word, informs, echoes, gets_values, declares, declares_function, defines, asserts, minimizes, checks, exits, pushes, pops, assumes, drops, restarts, stays_out}

-- those that stay out of the language
abbrev pub out_words : List (List ℕ × Word)
out_words = (codes "get-unsat-core", stays_out) ∷ (codes "get-proof", stays_out) ∷ (codes "define-const", stays_out) ∷ (codes "define-sort", stays_out) ∷ (codes "define-fun-rec", stays_out) ∷ (codes "define-funs-rec", stays_out) ∷ (codes "declare-datatype", stays_out) ∷ (codes "declare-datatypes", stays_out) ∷ []

-- those that declare, define, assert, minimize and check, and the ones above
abbrev pub assertion_words : List (List ℕ × Word)
assertion_words = (codes "declare-const", declares) ∷ (codes "declare-fun", declares_function) ∷ (codes "define-fun", defines) ∷ (codes "assert", asserts) ∷ (codes "minimize", minimizes) ∷ (codes "check-sat", checks) ∷ (codes "exit", exits) ∷ out_words

-- those that tell, ask and change what is in force, and the ones above
abbrev pub level_words : List (List ℕ × Word)
level_words = (codes "get-info", informs) ∷ (codes "echo", echoes) ∷ (codes "get-value", gets_values) ∷ (codes "push", pushes) ∷ (codes "pop", pops) ∷ (codes "check-sat-assuming", assumes) ∷ (codes "reset-assertions", drops) ∷ (codes "reset", restarts) ∷ assertion_words
