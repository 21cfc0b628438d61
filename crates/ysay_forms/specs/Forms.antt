-- What is said of a statement the argument of which isn't of its form, or is missing (C3; RFC 7950, 7 and 14).
use Rattle.std.specs.Prelude.{◌==◌, ◌++◌, ◌&&◌, Bool, false, ◌∷◌, codes, Option, Some, None, if◌then◌else◌, nat_le}
use Rattle.std.specs.Option.{option_map_or}
use Rattle.yspec.specs.text.Text.{Text}
use Rattle.yspec.specs.text.Statement.{Statement}
use Rattle.yspec.specs.linking.Arguments.{Form, identifier_form, name_form, date_form, relative_path_form, absolute_path_form, leafref_path_form, key_form, unique_form, flag_form, status_form, ordered_by_form, count_form, max_elements_form, value_form, fraction_digits_form, spans_form, any_form}
use Rattle.yspec_wide.specs.Language.{YangVersion, yang_1, yang_1_1}
use Rattle.yspec_wide.specs.Table.{WideForm, as_before, prefix_form, if_feature_form, modifier_form, no_argument, fits_in, takes_none}
use Rattle.ysay_text.specs.Line.{shown}

-- ---- what is due

abbrev pub due_before : Form → Text
due_before identifier_form = codes "an identifier"
due_before name_form = codes "a name"
due_before date_form = codes "a date as 2024-05-01"
due_before relative_path_form = codes "names parted by slashes, as a/b"
due_before absolute_path_form = codes "a path from the top, as /p:a/p:b"
due_before leafref_path_form = codes "a path from the top and without predicates, as /p:a/p:b"
due_before key_form = codes "names of leafs, parted by blanks"
due_before unique_form = codes "names of leafs, or ways down to them as a/b, parted by blanks"
due_before flag_form = codes "true or false"
due_before status_form = codes "current, deprecated or obsolete"
due_before ordered_by_form = codes "user or system"
due_before count_form = codes "a number from 0 to 4294967295"
due_before max_elements_form = codes "a number from 1 to 4294967295, or unbounded"
due_before value_form = codes "an integer from -2147483648 to 2147483647"
due_before fraction_digits_form = codes "a number from 1 to 18"
due_before spans_form = codes "numbers and spans as 1..10, with | between them"
due_before any_form = codes "a text"

-- In YANG 1 a condition names one feature (RFC 6020, 7.18.2).
abbrev pub due : YangVersion → WideForm → Text
due version (as_before form) = due_before form
due version prefix_form = codes "an identifier"
due yang_1 if_feature_form = codes "the name of a feature"
due yang_1_1 if_feature_form = codes "names of features, with and, or, not and parentheses"
due version modifier_form = codes "invert-match"
due version no_argument = codes "nothing"

-- ---- what is said

-- one of `‘ ’ ‚ ‛ “ ” „ ‟` in front, which are no quotes of YANG (RFC 7950, 6.1.3)
abbrev pub is_typographic : Text → Bool
is_typographic (x ∷ y ∷ z ∷ others) = x == 226 && (y == 128 && (nat_le 152 z && nat_le z 159))
is_typographic _ = false

abbrev pub typographic : Text → Text
typographic word = codes "the argument of " ++ (word ++ codes " begins with a typographic quote: write \" there and at its end.")

abbrev pub other_argument : Text → Text → Text → Text
other_argument word expected t = word ++ (codes " takes " ++ (expected ++ (codes ", not \"" ++ (shown t ++ codes "\"."))))

abbrev pub missing_argument : Text → Text → Text
missing_argument word expected = word ++ (codes " takes " ++ (expected ++ codes ", and nothing stands there."))

abbrev pub of_unfit : Text → Text → Option Text → Text
of_unfit word expected None = missing_argument word expected
of_unfit word expected (Some t) = if is_typographic t then typographic word else other_argument word expected t

abbrev pub is_fit : YangVersion → WideForm → Statement → Bool
is_fit version form s = option_map_or (fits_in version form) s.argument (takes_none form)

-- of a statement that has an argument of a form
abbrev pub of_form : YangVersion → WideForm → Statement → Option Text
of_form version form s = if is_fit version form s then None else Some (of_unfit s.keyword (due version form) s.argument)
