-- Parts of a pattern's text as the specification's.
use Rattle.std.specs.Prelude.{ℕ, ◌-◌, Option, option_map}
use Rattle.regex_class.specs.Ranges.{in_ranges}
use Rattle.yspec_patterns.specs.Sets.{Set}
use Rattle.yspec_patterns.specs.Quantities as spec
use Rattle.ytype_patterns.specs.declared.quantities.Token.{Token}
use Rattle.ytype_patterns.specs.declared.quantities.Token.TheVariants as tokens
use Rattle.ytype_patterns.specs.declared.times.Times.{Times}
use Rattle.ytype_patterns.specs.declared.quantities.Part.{Part}
use Rattle.ytype_patterns.specs.declared.quantities.Counting.{Counting}
use Rattle.ytype_patterns.specs.declared.quantities.Counting.TheVariants as states
use Rattle.ytype_patterns.specs.declared.quantities.Sign.{Sign}
use Rattle.ytype_patterns.specs.declared.quantities.Sign.TheVariants as signs
use Rattle.ytype_patterns.specs.declared.quantities.Mark.{Mark}
use Rattle.ytype_patterns.specs.declared.quantities.Mark.TheVariants as marks

abbrev pub token_view : Token → spec.Token Set
token_view tokens.OpenGroup = spec.open_group
token_view tokens.CloseGroup = spec.close_group
token_view tokens.Bar = spec.bar
token_view (tokens.Atom class) = spec.atom (in_ranges class.ranges.items)

abbrev pub before_view : Option Token → Option (spec.Token Set)
before_view before = option_map token_view before

-- at least so often, and at most
abbrev pub times_view : ℕ → Option ℕ → spec.Times
times_view least most = (least, option_map (λ m. m - least) most)

abbrev pub times_of : Times → spec.Times
times_of t = times_view t.least t.most

abbrev pub part_view : Part → spec.Part Set
part_view p = (token_view p.token, option_map times_of p.times)

abbrev pub once_view : Option Part → Option (spec.Part Set)
once_view p = option_map part_view p

abbrev pub counting_view : Counting → spec.Counting
counting_view (states.Behind before) = spec.behind (before_view before)
counting_view (states.LeastDue t) = spec.least_due (token_view t)
counting_view (states.Least t least) = spec.least (token_view t) least
counting_view (states.MostDue t least) = spec.most_due (token_view t) least
counting_view (states.Most t least most) = spec.most (token_view t) least most

abbrev pub sign_view : Sign → spec.Sign
sign_view (signs.Token t) = spec.token (token_view t)
sign_view (signs.Quantity t) = spec.quantity (times_of t)
sign_view signs.OpenBrace = spec.open_brace
sign_view signs.Misplaced = spec.misplaced

abbrev pub mark_view : Mark → spec.Mark
mark_view (marks.Digit d) = spec.digit d
mark_view marks.Comma = spec.comma
mark_view marks.CloseBrace = spec.close_brace
mark_view marks.Other = spec.no_mark

-- what a step gives
abbrev pub made_part : Option Part × Counting → Option (spec.Part Set) × spec.Counting
made_part step = (once_view step.0, counting_view step.1)
