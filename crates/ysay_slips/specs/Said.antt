-- What is said of a text of a module that has a word, a string or a sign where it can't be, or that isn't one module (L5, L6; RFC 7950,
-- 6.1 to 6.3).
use Rattle.std.specs.Prelude.{ℕ, suc, ◌==◌, ◌||◌, ◌++◌, Bool, List, [], ◌∷◌, codes, decimal, filter, length, take, Option, Some, None, if◌then◌else◌}
use Rattle.std.specs.Str.{is_utf8}
use Rattle.yspec.specs.text.Text.{Text, line_feed}
use Rattle.yspec.specs.text.Scanning.{TokenKind, unquoted, single_quoted, double_quoted, semicolon, opening, closing, Scanned}
use Rattle.ysay_text.specs.Line.{shown}
use Rattle.ysay_slips.specs.Walk.{Due, a_keyword, an_argument, a_body, a_plus, a_string, the_end, Beginning, Doubt, Walk, Stop, at_token, at_end, elsewhere, innermost, stop_of}

-- the line in which a place is
abbrev pub line_of : Text → ℕ → ℕ
line_of text place = suc (length (filter (λ x. x == line_feed) (take place text)))

abbrev pub line_words : Text → ℕ → Text
line_words text place = codes "line " ++ decimal (line_of text place)

-- ---- a token that can't stand there

abbrev pub token_words : Scanned → TokenKind → Text
token_words t unquoted = shown t.text
token_words t semicolon = codes ";"
token_words t opening = codes "{"
token_words t closing = codes "}"
token_words t _ = codes "this string"

-- a `}` ends no statement by itself
abbrev pub due_before : TokenKind → Text
due_before closing = codes "; is due before "
due_before _ = codes "; or { is due before "

abbrev pub before : Scanned → Text
before t = due_before t.kind ++ (token_words t t.kind ++ codes ".")

abbrev pub no_block : Text
no_block = codes "no { is open for this }."

abbrev pub no_keyword : Scanned → TokenKind → Text
no_keyword t closing = no_block
no_keyword t kind = codes "a keyword is due in place of " ++ (token_words t kind ++ codes ".")

abbrev pub second : Text → Walk → TokenKind → Text
second text w closing = no_block
second text w kind = codes "the module ends in " ++ (line_words text w.last ++ codes "; behind it nothing more may stand.")

abbrev pub misplaced : Text → Walk → Due → Scanned → Text
misplaced text w a_keyword t = no_keyword t t.kind
misplaced text w an_argument t = before t
misplaced text w a_body t = before t
misplaced text w a_plus t = before t
misplaced text w a_string t = codes "a quoted string is due behind +."
misplaced text w the_end t = second text w t.kind

-- ---- a text that ends too soon

abbrev pub unclosed : Text → Beginning → Text
unclosed text b = codes "the block that begins in " ++ (line_words text b.start ++ codes " isn't closed.")

abbrev pub inner_words : Text → Beginning → Text
inner_words text b = codes ": what begins in it in " ++ (line_words text b.start ++ codes " is indented no deeper.")

abbrev pub doubted : Text → Doubt → Text
doubted text d = codes "a block isn't closed; it may be that of " ++ (line_words text d.outer.start ++ inner_words text d.inner)

abbrev pub unclosed_of : Text → Beginning → Option Doubt → Text
unclosed_of text b None = unclosed text b
unclosed_of text b (Some d) = doubted text d

abbrev pub unended : Due → Text
unended a_keyword = codes "no statement stands there."
unended the_end = []
unended _ = codes "the text ends before ; or {."

abbrev pub unfinished : Text → Walk → Option Beginning → Text
unfinished text w None = unended w.due
unfinished text w (Some b) = unclosed_of text b w.doubt

-- ---- of a text

abbrev pub said_of : Text → Stop → Text
said_of text (at_token w t) = misplaced text w w.due t
said_of text (at_end w) = unfinished text w (innermost w.blocks)
said_of text elsewhere = []

abbrev pub is_of_tokens : ℕ → Bool
is_of_tokens code = code == 5 || code == 6

abbrev pub of_text : Text → Text
of_text text = said_of text (stop_of text)

abbrev pub of_bytes : List ℕ → Text
of_bytes bytes = if is_utf8 bytes then of_text bytes else []

-- of the bytes of a module that is refused with this number behind the `L`
unfoldable pub of_slip : ℕ → List ℕ → Text
of_slip code bytes = if is_of_tokens code then of_bytes bytes else []
