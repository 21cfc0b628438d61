-- What is said of the first statement of a line that breaks the table of statements so (C2 and C3; RFC 7950, 7 and 14).
use Rattle.std.specs.Prelude.{ℕ, ◌==◌, true, [], Option, Some, None, unwrap_or, if◌then◌else◌}
use Rattle.yspec.specs.Forest.{Forest, end, node, first_of}
use Rattle.yspec.specs.text.Text.{Text}
use Rattle.yspec.specs.text.Statement.{Statement}
use Rattle.yspec.specs.linking.Keyword.{module_word, extension_word}
use Rattle.yspec_wide.specs.Language.{Language, YangVersion, rfc, version_below}
use Rattle.yspec_wide.specs.Words.{Word, known, same_word, word_named}
use Rattle.yspec_wide.specs.Table.{WideForm, Rule, rule_in}
use Rattle.yspec_wide.specs.StatementBreaks.{form_at}
use Rattle.ysay_forms.specs.Forms.{of_form}
use Rattle.ysay_forms.specs.Counts.{of_row}

-- all statements that are known may stand
abbrev pub widest : Language
widest = rfc (record { choosings = []; unjudged = record { musts = true; whens = true } })

-- of what something is said: an argument, or the numbers of substatements
pub data Matter : Type 0 where
  an_argument : Matter
  amounts : Matter

-- what is looked for in a module
pub record Question : Type 0 where
  pub language : Language
  pub version : YangVersion
  pub matter : Matter
  pub line : ℕ

abbrev pub row_of : Question → Word → Rule
row_of q w = rule_in q.language q.version w

-- the form of the argument of a keyword below another
abbrev pub form_below : Question → Word → Word → WideForm
form_below q above w = form_at q.language (row_of q above).substatements w (row_of q w).form

abbrev pub of_matter : Matter → Question → Word → Word → Statement → Forest Statement → Option Text
of_matter an_argument q above w s below = of_form q.version (form_below q above w) s
of_matter amounts q above w s below = of_row q.language (row_of q w).substatements s.keyword below

abbrev pub in_place : Question → Word → Word → Statement → Forest Statement → Option Text
in_place q above w s below = if s.line == q.line then of_matter q.matter q above w s below else None

-- Nothing is said of a statement that isn't known or is an `extension`, nor of those below it, of which `inner` is said.
abbrev pub of_word : Question → Word → Option Word → Statement → Forest Statement → Option Text → Option Text
of_word q above None s below inner = None
of_word q above (Some w) s below inner = if same_word w (known extension_word) then None else first_of (in_place q above w s below) inner

abbrev pub word_or : Question → Word → Text → Word
word_or q above keyword = unwrap_or (word_named q.language keyword) above

-- of the first in a row below a keyword, in the order of the text
abbrev pub in_row : Question → Word → Forest Statement → Option Text
in_row q above end = None
in_row q above (node s below after) =
    first_of (of_word q above (word_named q.language s.keyword) s below (in_row q (word_or q above s.keyword) below)) (in_row q above after)

abbrev pub in_statement : Question → Word → Statement → Forest Statement → Option Text
in_statement q above s below = of_word q above (word_named q.language s.keyword) s below (in_row q (word_or q above s.keyword) below)

-- of those of a module, in its version
abbrev pub in_module : Matter → ℕ → Forest Statement → Option Text
in_module matter line end = None
in_module matter line (node s below after) =
    in_statement (record { language = widest; version = version_below below; matter = matter; line = line }) (known module_word) s below

unfoldable pub of_line : Matter → ℕ → Forest Statement → Text
of_line matter line top = unwrap_or (in_module matter line top) []
