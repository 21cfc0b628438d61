-- What is said of bytes that are text, and of such as are none.
use Rattle.std.proofs.Common.{◌≡◌, ℕ, Bool, true, false, List, [], refl, ap}
use Rattle.std.specs.Str.{IsUtf8, is_utf8}
use Rattle.std.specs.Prelude.{if◌then◌else◌}
use Rattle.std.proofs.lemmas.Str.{IsUtf8-from_is_utf8, is_utf8-from_IsUtf8}
use Rattle.ysay_slips.specs.Said.{of_bytes, of_text}

pub of_none : (bytes : List ℕ) → ¬ (IsUtf8 bytes) → of_bytes bytes ≡ []
of_none bytes other = by (is_utf8 bytes) refl
  where
    by : (b : Bool) → is_utf8 bytes ≡ b → of_bytes bytes ≡ []
    by true e = absurd (other (IsUtf8-from_is_utf8 bytes e))
    by false e = ap (λ b. if b then of_text bytes else []) e

pub of_some : (bytes : List ℕ) → IsUtf8 bytes → of_bytes bytes ≡ of_text bytes
of_some bytes is = ap (λ b. if b then of_text bytes else []) (is_utf8-from_IsUtf8 bytes is)
