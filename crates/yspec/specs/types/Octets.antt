-- Octets as values of `binary` (RFC 7950, 9.8), in base64 (RFC 7951, 6.6; RFC 4648, 4) as the kit has it: in groups of four
-- characters, the last one with padding, with nothing between them, and with bits behind the last octet that are 0.
use Rattle.std.specs.Prelude.{ℕ, List, Option}
use Rattle.base64.specs.Engines.{standard}
use Rattle.base64.specs.GeneralPurpose.{encode_of, decoded_of}
use Rattle.yspec.specs.text.Text.{Text}

-- the text of octets
abbrev pub base64_text : List ℕ → Text
base64_text octets = encode_of standard octets

-- the octets of which a text is the text; law: of these alone
abbrev pub octets_of : Text → Option (List ℕ)
octets_of t = decoded_of standard t
