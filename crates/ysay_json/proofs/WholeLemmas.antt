-- What is written of a fault or a refusal has no fractions.
use Rattle.std.proofs.Common.{◌≡◌, ℕ, false, Option, Some, None, codes, refl, ap, ◌∙◌}
use Rattle.serde_json.specs.Data.{Data, string, number, unsigned, Members, no_members}
use Rattle.serde_json.specs.Written.{has_float, members_have_float, compact_text}
use Rattle.yspec.specs.text.Text.{Text}
use Rattle.yspec.specs.schema.Schema.{Schema}
use Rattle.yspec.specs.document.Document.{Tree}
use Rattle.yspec.specs.document.Fault.{Fault, Info, no_info, choice_name, unique_number}
use Rattle.yspec.specs.document.Path.{path_text}
use Rattle.yspec.proofs.DocumentProofs.WrittenShapeLemmas.{put_whole}
use Rattle.ysay_fault.specs.Sentences.{fault_path}
use Rattle.ysay_json.specs.FaultData.{code_text, message, with_text, with_app_tag, with_info, with_tags, with_message, with_line, fault_data}
use Rattle.ysay_json.specs.RefusalData.{Refused, refused_data, with_codes, with_error, with_line_of, with_place, with_text_of}

text_whole : (name t : Text) (ms : Members) → members_have_float ms ≡ false → members_have_float (with_text name t ms) ≡ false
text_whole name t ms these = put_whole name (string t) ms refl these

-- ---- those of a fault

app_tag_whole : (tag : Option Text) (ms : Members) → members_have_float ms ≡ false → members_have_float (with_app_tag tag ms) ≡ false
app_tag_whole None ms these = these
app_tag_whole (Some t) ms these = put_whole (codes "error-app-tag") (string t) ms refl these

info_whole : (info : Info) (ms : Members) → members_have_float ms ≡ false → members_have_float (with_info info ms) ≡ false
info_whole no_info ms these = these
info_whole (choice_name name) ms these = put_whole (codes "yanglive:info") (string name) ms refl these
info_whole (unique_number n) ms these = put_whole (codes "yanglive:info") (number (unsigned n)) ms refl these

tags_whole : (f : Fault) (ms : Members) → members_have_float ms ≡ false → members_have_float (with_tags f ms) ≡ false
tags_whole f ms these =
    let first = with_text (codes "error-type") (codes "application") ms in
    app_tag_whole f.app_tag (with_text (codes "error-tag") f.tag first)
    (text_whole (codes "error-tag") f.tag first (text_whole (codes "error-type") (codes "application") ms these))

message_whole : (schema : Schema) (tree : Tree) (f : Fault) (ms : Members) → members_have_float ms ≡ false → members_have_float (with_message schema tree f ms) ≡ false
message_whole schema tree f ms these =
    let path = fault_path schema tree f.code f.steps in
    text_whole (codes "error-message") (message schema tree f) (with_text (codes "error-path") path ms)
    (text_whole (codes "error-path") path ms these)

line_whole : (schema : Schema) (f : Fault) (ms : Members) → members_have_float ms ≡ false → members_have_float (with_line schema f ms) ≡ false
line_whole schema f ms these =
    let first = with_text (codes "yanglive:code") (code_text f.code) ms in
    let path = path_text schema f.steps in
    info_whole f.info (with_text (codes "yanglive:path") path first)
    (text_whole (codes "yanglive:path") path first (text_whole (codes "yanglive:code") (code_text f.code) ms these))

pub fault_whole : (schema : Schema) (tree : Tree) (f : Fault) → has_float (fault_data schema tree f) ≡ false
fault_whole schema tree f =
    let tagged = with_tags f no_members in
    line_whole schema f (with_message schema tree f tagged) (message_whole schema tree f tagged (tags_whole f no_members refl))

-- ---- those of a refusal

text_of_whole : (name : Text) (t : Option Text) (ms : Members) → members_have_float ms ≡ false → members_have_float (with_text_of name t ms) ≡ false
text_of_whole name None ms these = these
text_of_whole name (Some t) ms these = text_whole name t ms these

line_of_whole : (n : Option ℕ) (ms : Members) → members_have_float ms ≡ false → members_have_float (with_line_of n ms) ≡ false
line_of_whole None ms these = these
line_of_whole (Some n) ms these = put_whole (codes "yanglive:line") (number (unsigned n)) ms refl these

error_whole : (r : Refused) (ms : Members) → members_have_float ms ≡ false → members_have_float (with_error r ms) ≡ false
error_whole r ms these =
    let typed = with_text (codes "error-type") (codes "application") ms in
    let tagged = with_text (codes "error-tag") r.tag typed in
    text_whole (codes "error-message") r.message tagged
    (text_whole (codes "error-tag") r.tag typed (text_whole (codes "error-type") (codes "application") ms these))

codes_whole : (r : Refused) (ms : Members) → members_have_float ms ≡ false → members_have_float (with_codes r ms) ≡ false
codes_whole r ms these = text_of_whole (codes "yanglive:value-code") r.value_code (with_text_of (codes "yanglive:code") r.code ms)
    (text_of_whole (codes "yanglive:code") r.code ms these)

place_whole : (r : Refused) (ms : Members) → members_have_float ms ≡ false → members_have_float (with_place r ms) ≡ false
place_whole r ms these =
    let filed = with_text_of (codes "yanglive:file") r.file ms in
    text_of_whole (codes "yanglive:path") r.path (with_line_of r.line filed)
    (line_of_whole r.line filed (text_of_whole (codes "yanglive:file") r.file ms these))

pub refused_whole : (r : Refused) → has_float (refused_data r) ≡ false
refused_whole r =
    let explained = with_error r no_members in
    place_whole r (with_codes r explained) (codes_whole r explained (error_whole r no_members refl))

-- ---- texts

-- a text that is written of an object without fractions
pub written : (d e : Data) (text : Text) → d ≡ e → has_float e ≡ false → (has_float d ≡ false → text ≡ compact_text d) → text ≡ compact_text e
written d e text is whole so = so (ap has_float is ∙ whole) ∙ ap compact_text is
