-- Expressions and their words as the specification's.
use Rattle.std.specs.Prelude.{ℕ, Bool, true, false, List, [], ◌∷◌, map, Option, option_map}
use Rattle.yspec_wide.specs.Language as language
use Rattle.yspec_wide.specs.Expressions as spec
use Rattle.ylink_arguments.specs.NameView.{name_view}
use Rattle.ylink_conditions.specs.declared.expression.Expression.{Expression}
use Rattle.ylink_conditions.specs.declared.expression.Expression.TheVariants as expressions
use Rattle.ylink_conditions.specs.declared.expression.YangVersion.{YangVersion}
use Rattle.ylink_conditions.specs.declared.expression.YangVersion.TheVariants as versions
use Rattle.ylink_conditions.specs.declared.words.Token.{Token}
use Rattle.ylink_conditions.specs.declared.words.Token.TheVariants as tokens
use Rattle.ylink_conditions.specs.declared.reading.Level.{Level}
use Rattle.ylink_conditions.specs.declared.reading.Level.TheVariants as levels
use Rattle.ylink_conditions.specs.declared.reading.ReadWords.{ReadWords}

abbrev pub expression_view : Expression → spec.Expression
expression_view (expressions.Feature name) = spec.feature (name_view name)
expression_view (expressions.Not' p e) = spec.not_so (expression_view e)
expression_view (expressions.Both' p e q f) = spec.both_so (expression_view e) (expression_view f)
expression_view (expressions.OneOf' p e q f) = spec.one_so (expression_view e) (expression_view f)

abbrev pub version_view : YangVersion → language.YangVersion
version_view versions.Yang1 = language.yang_1
version_view versions.Yang1_1 = language.yang_1_1

abbrev pub token_view : Token → spec.Token
token_view tokens.Opening = spec.opening
token_view tokens.Closing = spec.closing
token_view tokens.Not = spec.not_token
token_view tokens.And = spec.and_token
token_view tokens.Or = spec.or_token
token_view (tokens.Name t) = spec.name_token t.now

abbrev pub level_view : Level → spec.Level
level_view levels.Expression = spec.expr
level_view levels.Term = spec.term
level_view levels.Factor = spec.factor

-- what was read, with the words behind it
abbrev pub read_view : Option ReadWords → spec.Read
read_view = option_map (λ r. (expression_view r.expression, map token_view r.rest.now))

-- ---- words in a text

-- what ends a word
abbrev pub ends : spec.Sort → Bool
ends spec.letter = false
ends _ = true

abbrev pub ends_word : ℕ → Bool
ends_word x = ends (spec.sort_of x)

-- what such a character is by itself
abbrev pub own : spec.Sort → List spec.Token
own spec.open_paren = spec.opening ∷ []
own spec.close_paren = spec.closing ∷ []
own _ = []

abbrev pub own_tokens : ℕ → List spec.Token
own_tokens x = own (spec.sort_of x)
