-- The table of statements as the specification's.
use Rattle.std.specs.Prelude.{List, ◌++◌, map}
use Rattle.yspec.specs.linking.Table as spec
use Rattle.yspec.specs.linking.Table.{exactly_one, at_most_one, any_number}
use Rattle.ybase_words.specs.KeywordView.{keyword_view}
use Rattle.yspec_wide.specs.Words.{Word}
use Rattle.yspec_wide.specs.Table as wide
use Rattle.ylink_grammar.specs.FormView.{form_view, wide_form_view}
use Rattle.ylink_grammar.specs.WordView.{word_view}
use Rattle.ylink_grammar.specs.declared.table.Count.{Count}
use Rattle.ylink_grammar.specs.declared.table.Count.TheVariants as counts
use Rattle.ylink_grammar.specs.declared.table.Allowed.{Allowed}
use Rattle.ylink_grammar.specs.declared.table.Rule.{Rule}
use Rattle.ylink_grammar.specs.declared.rules.WideRule.{WideRule}

abbrev pub count_view : Count → spec.Count
count_view counts.One = exactly_one
count_view counts.AtMostOne = at_most_one
count_view counts.Any = any_number

abbrev pub allowed_view : Allowed → spec.Allowed
allowed_view a = record { keyword = keyword_view a.0; count = count_view a.1 }

abbrev pub allowed_views : List Allowed → List spec.Allowed
allowed_views = map allowed_view

abbrev pub rule_view : Rule → spec.Rule
rule_view r = record { form = form_view r.form; substatements = allowed_views r.substatements.now }

abbrev pub once : Word → wide.Allowed
once w = record { word = w; count = at_most_one }

-- the substatements that there may be ahead of the core's, and all
abbrev pub ahead_view : WideRule → List wide.Allowed
ahead_view r = map once (map word_view r.once.now) ++ map wide.many (map word_view r.ahead.now)

abbrev pub rows_view : WideRule → List wide.Allowed
rows_view r = ahead_view r
    ++ (wide.row_before (allowed_views r.substatements.now) ++ map wide.many (map word_view r.behind.now))

abbrev pub wide_rule_view : WideRule → wide.Rule
wide_rule_view r = record { form = wide_form_view r.form; substatements = rows_view r }
