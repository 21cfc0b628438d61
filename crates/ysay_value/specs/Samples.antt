-- Types of texts, for worked examples.
use Rattle.std.specs.Prelude.{pos, true, false, List, [], ◌∷◌, codes, None}
use Rattle.yspec.specs.text.Text.{Text}
use Rattle.yspec.specs.types.Ranges.{Test, within, matching, Limit}
use Rattle.yspec.specs.types.Types as types
use Rattle.yspec.specs.types.Types.{SimpleType, string_base, Raw}

abbrev pub silent : Test → Limit
silent test = record { test = test; error = record { message = None; app_tag = None } }

abbrev pub text_type : List Limit → SimpleType
text_type limits = record { base = string_base; limits = limits }

abbrev pub any_text : SimpleType
any_text = text_type []

abbrev pub letters : SimpleType
letters = text_type (silent (matching (codes "[a-z]+") false) ∷ [])

-- of one to three letters, but none that begins with `xml`
abbrev pub names : SimpleType
names = text_type (silent (within (record { low = pos 1; high = pos 3 } ∷ []))
    ∷ silent (matching (codes "[a-z]+") false) ∷ silent (matching (codes "xml.*") true) ∷ [])

abbrev pub written : Text → Raw
written t = types.text t

abbrev pub five : Raw
five = types.int (pos 5)
