-- From bytes to the JSON value that they denote.
use Rattle.std.proofs.Common.{◌≡◌, ℕ, Bool, true, false, cond, List, Option, Some, None, refl, ap, ◌∙◌}
use Rattle.std.specs.Str.{is_utf8, IsUtf8}
use Rattle.std.proofs.lemmas.Str.{IsUtf8-from_is_utf8, is_utf8-from_IsUtf8}
use Rattle.serde_json.specs.Data.{Data}
use Rattle.serde_json.specs.Read.{read}
use Rattle.yspec.specs.document.Reading.{json_of}

pub json_found : (bytes : List ℕ) (d : Data) → IsUtf8 bytes → read bytes ≡ Some d → json_of bytes ≡ Some d
json_found bytes d utf8 is = ap (λ (b : Bool). cond b (read bytes) None) (is_utf8-from_IsUtf8 bytes utf8) ∙ is

-- nothing is read of bytes that are no text, nor where a reader finds nothing
pub none_read : {A : Type 0} (bytes : List ℕ) (found : Option A) (b : Bool) → is_utf8 bytes ≡ b → (IsUtf8 bytes → found ≡ None) → cond b found None ≡ None
none_read bytes found true is h = h (IsUtf8-from_is_utf8 bytes is)
none_read bytes found false is h = refl

pub no_json : (bytes : List ℕ) → (IsUtf8 bytes → read bytes ≡ None) → json_of bytes ≡ None
no_json bytes h = none_read bytes (read bytes) (is_utf8 bytes) refl h
