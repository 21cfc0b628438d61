-- What bounds and restrictions stand for.
use Rattle.std.specs.Prelude.{Option, option_map}
use Rattle.std.specs.String.{string_bytes}
use Rattle.std.specs.declared.string.String.{String}
use Rattle.yspec.specs.text.Text.{Text}
use Rattle.yspec.specs.types.Ranges as ranges
use Rattle.yspec.specs.types.Restriction as restrictions
use Rattle.ytype_numbers.specs.declared.restriction.Bound.{Bound}
use Rattle.ytype_numbers.specs.declared.restriction.Bound.TheVariants as bound
use Rattle.ytype_numbers.specs.declared.restriction.Restriction.{Restriction}
use Rattle.ytype_numbers.specs.declared.restriction.Restriction.TheVariants as restriction

abbrev pub bound_of : Bound → ranges.Bound
bound_of bound.Min = ranges.least
bound_of bound.Max = ranges.greatest
bound_of (bound.Number units places) = ranges.number units places

abbrev pub text_of : {Z : Type 0} → Option (String Z) → Option Text
text_of text = option_map string_bytes text

abbrev pub restriction_of : Restriction → restrictions.Restriction
restriction_of (restriction.Range spans error) = restrictions.range spans.items error
restriction_of (restriction.Length spans error) = restrictions.length spans.items error
restriction_of (restriction.Pattern expression inverted error) = restrictions.pattern expression.value inverted error
restriction_of (restriction.Enums namings) = restrictions.of_enums namings.items
restriction_of (restriction.Bits namings) = restrictions.of_bits namings.items
restriction_of (restriction.RequireInstance b) = restrictions.require_instance b
