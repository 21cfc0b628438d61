-- The own statements of planned nodes.
use Rattle.std.specs.Prelude.{List}
use Rattle.yspec.specs.linking.Source.{Source, all_with}
use Rattle.ybase_words.specs.KeywordView.{keyword_view}
use Rattle.yschema_expand.specs.NamedView.{row_or_none}
use Rattle.yschema_plan.specs.declared.own.OwnStatements.{OwnStatements}

-- those of a keyword that are left
abbrev pub left : OwnStatements → List Source
left own = all_with (keyword_view own.keyword) (row_or_none own.statements)
