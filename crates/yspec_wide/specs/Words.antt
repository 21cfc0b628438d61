-- The keywords of the wide language: those of the core, those of features (RFC 7950, 7.20.1 and 7.20.2), of patterns (9.4.5 and
-- 9.4.6), of operations (7.14 to 7.16) and of nodes without a type (7.10 and 7.11), and conditions (7.5.3 and 7.21.5) where they are read.
use Rattle.std.specs.Prelude.{◌==◌, ◌&&◌, ℕ, Bool, codes, Option, Some, None, option_map, if◌then◌else◌}
use Rattle.yspec.specs.text.Text.{Text, is_text}
use Rattle.yspec.specs.linking.Keyword.{Keyword, keyword_text, keyword_number, keyword_named}
use Rattle.yspec_wide.specs.Language.{Language, Unjudged, core, rfc}

pub data Word : Type 0 where
  known : Keyword → Word
  feature_word : Word
  if_feature_word : Word
  pattern_word : Word
  modifier_word : Word
  must_word : Word
  when_word : Word
  rpc_word : Word
  action_word : Word
  notification_word : Word
  input_word : Word
  output_word : Word
  anydata_word : Word
  anyxml_word : Word

abbrev pub word_text : Word → Text
word_text (known k) = keyword_text k
word_text feature_word = codes "feature"
word_text if_feature_word = codes "if-feature"
word_text pattern_word = codes "pattern"
word_text modifier_word = codes "modifier"
word_text must_word = codes "must"
word_text when_word = codes "when"
word_text rpc_word = codes "rpc"
word_text action_word = codes "action"
word_text notification_word = codes "notification"
word_text input_word = codes "input"
word_text output_word = codes "output"
word_text anydata_word = codes "anydata"
word_text anyxml_word = codes "anyxml"

abbrev pub word_number : Word → ℕ
word_number (known k) = keyword_number k
word_number feature_word = 48
word_number if_feature_word = 49
word_number pattern_word = 50
word_number modifier_word = 51
word_number must_word = 52
word_number when_word = 53
word_number rpc_word = 54
word_number action_word = 55
word_number notification_word = 56
word_number input_word = 57
word_number output_word = 58
word_number anydata_word = 59
word_number anyxml_word = 60

abbrev pub same_word : Word → Word → Bool
same_word a b = word_number a == word_number b

-- of nodes without a type
abbrev pub anything_named : Text → Option Word
anything_named t = if is_text t (word_text anydata_word) then Some anydata_word
    else (if is_text t (word_text anyxml_word) then Some anyxml_word else None)

-- of operations, or of these
abbrev pub operation_named : Text → Option Word
operation_named t = if is_text t (word_text rpc_word) then Some rpc_word
    else (if is_text t (word_text action_word) then Some action_word
    else (if is_text t (word_text notification_word) then Some notification_word
    else (if is_text t (word_text input_word) then Some input_word
    else (if is_text t (word_text output_word) then Some output_word else anything_named t))))

abbrev pub or_added : Option Keyword → Text → Option Word
or_added (Some k) t = Some (known k)
or_added None t = if is_text t (word_text feature_word) then Some feature_word
    else (if is_text t (word_text if_feature_word) then Some if_feature_word
    else (if is_text t (word_text pattern_word) then Some pattern_word
    else (if is_text t (word_text modifier_word) then Some modifier_word else operation_named t)))

-- A condition is a keyword where it isn't to be judged.
abbrev pub or_unjudged : Unjudged → Option Word → Text → Option Word
or_unjudged unjudged (Some w) t = Some w
or_unjudged unjudged None t = if is_text t (word_text must_word) && unjudged.musts then Some must_word
    else (if is_text t (word_text when_word) && unjudged.whens then Some when_word else None)

-- the keyword of a language that a text is, if it is one
abbrev pub word_named : Language → Text → Option Word
word_named core t = option_map known (keyword_named t)
word_named (rfc wide) t = or_unjudged wide.unjudged (or_added (keyword_named t) t) t
