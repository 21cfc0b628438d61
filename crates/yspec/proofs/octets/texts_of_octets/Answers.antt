use Rattle.std.proofs.Common.{◌≡◌, List, ℕ, refl, ap}
use Rattle.std.specs.Prelude.{Some}
use Rattle.std.specs.Result.{result_ok}
use Rattle.std.specs.declared.result.Result.{Result}
use Rattle.std.specs.declared.result.Result.TheVariants.{Ok, Err}
use Rattle.base64.specs.declared.decode.DecodeError.{DecodeError}
use Rattle.base64.specs.GeneralPurpose.{decode_of, decoded_of}
use Rattle.base64.specs.Engines.{standard}
use Rattle.base64.proofs.EngineFacts.{decode_of_iff}
use Rattle.yspec.proofs.octets.texts_of_octets.Goals as goal

from_some : (r : Result (List ℕ) DecodeError) (b : List ℕ) → result_ok r ≡ Some b → r ≡ Ok b
from_some (Ok a) b e = cc
from_some (Err a) b e = absurd cc

pub returns : goal.returns
unfolding decoded_of
returns c = λ t octets text bytes. let both = decode_of_iff standard t octets (refl, refl) text bytes in
    (λ e. both.0 (from_some (decode_of standard t) octets e), λ e. ap result_ok (both.1 e))
