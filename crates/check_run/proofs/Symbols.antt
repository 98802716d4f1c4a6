-- The bytes of a symbol, all of one class.
use Rattle.std.proofs.Common.{◌≡◌, ℕ, List, [], ◌∷◌, ◌&&◌, refl, ap}
use Rattle.std.specs.List.{list_all}
use Rattle.script_model.specs.Symbol.{is_symbol_byte, are_symbol_bytes}

pub are_symbol_bytes_from_all : (bytes : List ℕ) → list_all is_symbol_byte bytes ≡ are_symbol_bytes bytes
are_symbol_bytes_from_all [] = refl
are_symbol_bytes_from_all (b ∷ bytes) = ap (λ rest. is_symbol_byte b && rest) (are_symbol_bytes_from_all bytes)
