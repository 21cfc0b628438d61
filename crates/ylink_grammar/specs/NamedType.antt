-- What statements name as their arguments.
use Rattle.std.specs.Prelude.{Option, None, unwrap_or, if◌then◌else◌}
use Rattle.yspec.specs.text.Text.{Text}
use Rattle.yspec.specs.text.Statement.{Statement}
use Rattle.yspec.specs.linking.Keyword.{Keyword, same_keyword, type_word}
use Rattle.yspec.specs.linking.TypeStatements.{BuiltIn, built_in_named}

-- the argument; the keyword where there is none
abbrev pub argument_text : Statement → Text
argument_text s = unwrap_or s.argument s.keyword

-- the built-in type that a statement of a keyword names, where it is a `type` statement
abbrev pub type_named : Keyword → Statement → Option BuiltIn
type_named k s = if same_keyword type_word k then built_in_named (argument_text s) else None
