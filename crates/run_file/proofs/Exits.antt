-- What `ok_or` was given, by what it gave.
use Rattle.std.proofs.Common.{◌≡◌, Some, None, Ok, Err, Option, refl}
use Rattle.std.specs.Option.{ok_or}

pub was_none : {T E : Type 0} (o : Option T) (e f : E) → Err f ≡ ok_or o e → (o ≡ None) × (f ≡ e)
was_none None e f h = (refl, cc)
was_none (Some x) e f h = absurd cc

pub was_some : {T E : Type 0} (o : Option T) (e : E) (x : T) → Ok x ≡ ok_or o e → o ≡ Some x
was_some None e x h = absurd cc
was_some (Some y) e x h = cc
