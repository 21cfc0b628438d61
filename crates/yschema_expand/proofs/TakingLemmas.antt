-- What a node takes that is no choice.
use Rattle.std.proofs.Common.{◌≡◌, Bool, true, false, not, ◌&&◌, refl}

pub as_in_no_choice : (old b : Bool) → b ≡ (b && not (old && false))
as_in_no_choice old false = refl
as_in_no_choice true true = refl
as_in_no_choice false true = refl
