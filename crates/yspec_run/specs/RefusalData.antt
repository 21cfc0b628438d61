-- What is refused, and files that can't be read, as lines of JSON: the error-tags of codes (RFC 8040, 7.1), and why each is told.
use Rattle.std.specs.Prelude.{ℕ, ◌++◌, ◌==◌, List, [], ◌∷◌, codes, decimal, Option, Some, None, if◌then◌else◌}
use Rattle.ysay_codes.specs.Codes.{Explanation, explanation_of}
use Rattle.yspec.specs.text.Text.{Text}
use Rattle.ysay_json.specs.RefusalData.{Refused, refused_text}

abbrev pub cause_in : Option Explanation → Text
cause_in None = []
cause_in (Some e) = e.cause

-- why a code is told
abbrev pub cause_of : Text → Text
cause_of code = cause_in (explanation_of code)

-- ---- error-tags

-- by the number of a code, among those of a table
abbrev pub tag_in : List (ℕ × Text) → ℕ → Text
tag_in [] code = codes "operation-failed"
tag_in (row ∷ rows) code = if code == row.0 then row.1 else tag_in rows code

-- of a module's text
abbrev pub text_tag : Text
text_tag = codes "malformed-message"

-- of a rule that a module breaks
abbrev pub module_tag : ℕ → Text
module_tag = tag_in ((1, codes "operation-not-supported") ∷ [])

-- of a document
abbrev pub document_tag : ℕ → Text
document_tag = tag_in ((1, codes "malformed-message") ∷ (2, codes "malformed-message") ∷ (3, codes "unknown-element")
    ∷ (4, codes "unknown-namespace") ∷ (5, codes "invalid-value") ∷ (6, codes "invalid-value") ∷ (7, codes "too-big")
    ∷ (8, codes "bad-element") ∷ [])

-- of an edit
abbrev pub edit_tag : ℕ → Text
edit_tag = tag_in ((1, codes "malformed-message") ∷ (2, codes "unknown-element") ∷ (3, codes "bad-element")
    ∷ (4, codes "data-missing") ∷ (5, codes "data-missing") ∷ (7, codes "data-missing") ∷ (8, codes "data-exists")
    ∷ (9, codes "malformed-message") ∷ (10, codes "invalid-value") ∷ (11, codes "too-big") ∷ (12, codes "resource-denied") ∷ [])

-- ---- objects

-- of a module that is refused in a line of its file, by the tag
abbrev pub module_object : Text → Text → ℕ → Text → Refused
module_object tag name line code = record {
  code = Some code;
  value_code = None;
  tag = tag;
  message = cause_of code;
  file = Some name;
  line = Some line;
  path = None;
}

-- of a document that is refused with this number at a place
abbrev pub document_object : Text → Text → ℕ → Refused
document_object name path number = let code = codes "J" ++ decimal number in record {
  code = Some code;
  value_code = None;
  tag = document_tag number;
  message = cause_of code;
  file = Some name;
  line = None;
  path = Some path;
}

-- of a file that can't be read
abbrev pub unread_object : Text → Refused
unread_object name = record {
  code = None;
  value_code = None;
  tag = codes "operation-failed";
  message = codes "The file can't be read.";
  file = Some name;
  line = None;
  path = None;
}

-- an object in a line
abbrev pub object_line : Refused → Text
object_line r = refused_text r ++ codes "\n"
