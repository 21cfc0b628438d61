-- What bytes ask for.
use Rattle.std.proofs.Common.{◌≡◌, Bool, true, false, None, refl, sym, ap, ◌∙◌}
use Rattle.std.specs.Prelude.{if◌then◌else◌}
use Rattle.std.specs.Str.{IsUtf8, is_utf8}
use Rattle.std.proofs.lemmas.Str.{IsUtf8-from_is_utf8, is_utf8-from_IsUtf8}
use Rattle.yspec.specs.text.Text.{Text}
use Rattle.yspec_session.specs.Requests.{request_in, request_of}

pub asked_by_text : (line text : Text) → text ≡ line → IsUtf8 line → request_in text ≡ request_of line
asked_by_text line text is utf8 =
    ap request_in is ∙ sym (ap (λ (b : Bool). if b then request_in line else None) (is_utf8-from_IsUtf8 line utf8))

no_text_so : (line : Text) (b : Bool) → is_utf8 line ≡ b → (IsUtf8 line → ⊥) → is_utf8 line ≡ false
no_text_so line true is not_text = absurd (not_text (IsUtf8-from_is_utf8 line is))
no_text_so line false is not_text = is

pub asked_by_bytes : (line : Text) → (IsUtf8 line → ⊥) → request_of line ≡ None
asked_by_bytes line not_text = ap (λ (b : Bool). if b then request_in line else None) (no_text_so line (is_utf8 line) refl not_text)
