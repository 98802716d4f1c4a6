-- What is said of results.
use Rattle.std.proofs.Common.{IfOk, Result, Ok, Err}

pub ok_more : {T E : Type 0} (P Q : T → Type 0) → ((x : T) → P x → Q x) → (r : Result T E) → IfOk r P → IfOk r Q
ok_more P Q f (Ok x) h = f x h
ok_more P Q f (Err e) h = h
