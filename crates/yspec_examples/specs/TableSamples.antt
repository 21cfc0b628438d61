-- Worked examples: the rows of the table as lines of text.
use Rattle.std.specs.Prelude.{List, ◌++◌, codes}
use Rattle.std.specs.List.{flat_map}
use Rattle.yspec.specs.text.Text.{Text}
use Rattle.yspec.specs.schema.Breaks.{Count, exactly_one, at_most_one, any_number}
use Rattle.yspec.specs.linking.Keyword.{Keyword, keyword_text}
use Rattle.yspec.specs.linking.Arguments.{Form, identifier_form, name_form, date_form, relative_path_form, absolute_path_form, leafref_path_form, key_form, unique_form, flag_form, status_form, ordered_by_form, count_form, max_elements_form, value_form, fraction_digits_form, spans_form, any_form}
use Rattle.yspec.specs.linking.Table.{Allowed, rule_of}

abbrev pub count_text : Count → Text
count_text exactly_one = codes "1"
count_text at_most_one = codes "?"
count_text any_number = codes "*"

abbrev pub form_text : Form → Text
form_text identifier_form = codes "identifier"
form_text name_form = codes "name"
form_text date_form = codes "date"
form_text relative_path_form = codes "relative path"
form_text absolute_path_form = codes "absolute path"
form_text leafref_path_form = codes "path"
form_text key_form = codes "names"
form_text unique_form = codes "relative paths"
form_text flag_form = codes "flag"
form_text status_form = codes "status"
form_text ordered_by_form = codes "order"
form_text count_form = codes "count"
form_text max_elements_form = codes "count or unbounded"
form_text value_form = codes "number"
form_text fraction_digits_form = codes "digits"
form_text spans_form = codes "ranges"
form_text any_form = codes "text"

-- a substatement, and how many there may be of it
abbrev pub allowed_text : Allowed → Text
allowed_text a = codes " " ++ (keyword_text a.keyword ++ (codes " " ++ count_text a.count))

-- a keyword, the form of its argument, and its substatements
abbrev pub row_text : Keyword → Text
row_text k = let r = rule_of k in
    keyword_text k ++ (codes " " ++ (form_text r.form ++ (codes ":" ++ (flat_map allowed_text r.substatements ++ codes "\n"))))

abbrev pub table_text : List Keyword → Text
table_text ks = flat_map row_text ks
