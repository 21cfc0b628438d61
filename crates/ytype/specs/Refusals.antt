-- What is told of a value that a type doesn't take.
use Rattle.std.specs.Prelude.{Option, Some, None}
use Rattle.yspec.specs.text.Text.{Text}
use Rattle.ytype.specs.declared.fault.BadValue.{BadValue}
use Rattle.ytype.specs.declared.fault.BadValue.TheVariants as bad_value
use Rattle.ytype_numbers.specs.View.{text_of}

-- the error-app-tag, where there is one; nothing is told where memory ran out
abbrev pub value_refusal : BadValue → Option (Option Text)
value_refusal (bad_value.Refused tag) = Some (text_of tag)
value_refusal bad_value.Memory = None
