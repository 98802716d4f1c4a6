-- The program's command is one whose parse is exact.
use Rattle.std.proofs.Common.{◌≡◌, ◌⊎◌, subst, refl, true, [], inl, inr}
use Rattle.clap.specs.Words.{Kinds, IsAmong, is_simple, is_simple_and_free}
use Rattle.clap.specs.declared.error.ErrorKind.{ErrorKind}
use Rattle.clap.specs.declared.error.ErrorKind.TheVariants.{OutOfMemory}
use Rattle.clap.proofs.OnLiterals.{clap_on_literals}
use Rattle.command_line.specs.Program.{checker, program}

pub program_is_simple : is_simple program ≡ true
unfolding program clap_on_literals
program_is_simple = refl

pub program_is_free : is_simple_and_free program ≡ true
unfolding program clap_on_literals
program_is_free = refl

pub checker_is_simple : is_simple checker ≡ true
unfolding checker clap_on_literals
checker_is_simple = refl

pub checker_is_free : is_simple_and_free checker ≡ true
unfolding checker clap_on_literals
checker_is_free = refl

-- a kind other than out of memory comes only where there is a fault
pub has_fault : (kinds : Kinds) (kind : ErrorKind) → (kind ≡ OutOfMemory) ⊎ IsAmong kind kinds → (kind ≡ OutOfMemory → ⊥) → kinds ≡ [] → ⊥
has_fault kinds kind (inl memory) other none = other memory
has_fault kinds kind (inr among) other none = let P : Kinds → Type 0 = λ k. IsAmong kind k in subst P none among
