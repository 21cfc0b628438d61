-- What is read of bytes so far, as the definition's.
use Rattle.ysay_refusal.specs.NoJson as spec
use Rattle.ysay_refusal.specs.declared.no_json.Reached.{Reached}
use Rattle.ysay_refusal.specs.declared.no_json.Reached.TheVariants as held

abbrev pub reached_view : Reached → spec.Reached
reached_view held.Due = spec.due
reached_view held.BehindComma = spec.behind_comma
reached_view held.BehindOpen = spec.behind_open
reached_view held.Word = spec.in_word
reached_view held.Text = spec.in_text
reached_view held.BehindBackslash = spec.behind_backslash
reached_view held.BehindSlash = spec.behind_slash
reached_view held.BehindText = spec.behind_text
reached_view held.BehindValue = spec.behind_value
reached_view held.Comment = spec.comment
reached_view held.SingleQuotes = spec.single_quotes
reached_view held.CommaInObject = spec.comma_in_object
reached_view held.CommaInArray = spec.comma_in_array
reached_view held.Other = spec.other
