-- What is refused as an object of JSON, with the names of errors in RESTCONF (RFC 8040, 7.1) and those of this program.
use Rattle.std.specs.Prelude.{ℕ, codes, Option, Some, None}
use Rattle.serde_json.specs.Data.{Data, number, unsigned, object, Members, no_members, put}
use Rattle.serde_json.specs.Written.{compact_text}
use Rattle.yspec.specs.text.Text.{Text}
use Rattle.ysay_json.specs.FaultData.{with_text}

-- a refusal, as far as there is something to say of it
pub record Refused : Type 0 where
  -- the code, and where an edit is refused for its value the code of that
  pub code : Option Text
  pub value_code : Option Text
  pub tag : Text
  pub message : Text
  -- where it is: in a file, in a line, at a path with positions
  pub file : Option Text
  pub line : Option ℕ
  pub path : Option Text

-- ---- members

abbrev pub with_text_of : Text → Option Text → Members → Members
with_text_of name None members = members
with_text_of name (Some t) members = with_text name t members

abbrev pub with_line_of : Option ℕ → Members → Members
with_line_of None members = members
with_line_of (Some n) members = put (codes "yanglive:line") (number (unsigned n)) members

-- its error-type, tag and message
abbrev pub with_error : Refused → Members → Members
with_error r members = with_text (codes "error-message") r.message
    (with_text (codes "error-tag") r.tag (with_text (codes "error-type") (codes "application") members))

-- its codes
abbrev pub with_codes : Refused → Members → Members
with_codes r members =
    with_text_of (codes "yanglive:value-code") r.value_code (with_text_of (codes "yanglive:code") r.code members)

-- where it is
abbrev pub with_place : Refused → Members → Members
with_place r members = with_text_of (codes "yanglive:path") r.path
    (with_line_of r.line (with_text_of (codes "yanglive:file") r.file members))

-- ---- the object, and its text without a line feed

abbrev pub refused_data : Refused → Data
refused_data r = object (with_place r (with_codes r (with_error r no_members)))

abbrev pub refused_text : Refused → Text
refused_text r = compact_text (refused_data r)
