-- What is said of a line that spells no edit (E1): of its verb, of its path, or of the value or position behind that.
use Rattle.std.specs.Prelude.{ℕ, ◌==◌, ◌||◌, ◌&&◌, ◌++◌, not, Bool, List, [], ◌∷◌, codes, find, position, is_some, Option, Some, None, option_and_then, if◌then◌else◌}
use Rattle.std.specs.List.{list_any}
use Rattle.std.specs.Option.{option_map_or}
use Rattle.std.specs.Str.{is_utf8}
use Rattle.yspec.specs.text.Text.{Text, begins, colon, double_quote, is_identifier, is_name, is_text, single_quote, slash, space, tab}
use Rattle.yspec.specs.edit.EditText.{behind, close_bracket, cut_at, equals_sign, name_and_predicate, open_bracket, operands, parts_at, position_alone, step_of}
use Rattle.ysay_text.specs.Line.{shown}
use Rattle.ysay_text.specs.Near.{nearest}

-- ---- the verb

abbrev pub verbs : List Text
verbs = codes "create" ∷ codes "replace" ∷ codes "remove" ∷ codes "move" ∷ []

-- the first word of a line, and what stands behind it
abbrev pub verb_and_rest : Text → Text × Text
verb_and_rest line = option_map_or (λ parts. parts) (cut_at space None line) (line, [])

abbrev pub other_verb : Text → Option Text → Text
other_verb verb None = codes "no edit is called \"" ++ (shown verb ++ codes "\": write create, replace, remove or move.")
other_verb verb (Some near) = codes "no edit is called \"" ++ (shown verb ++ (codes "\"; near it: " ++ (near ++ codes ".")))

-- what stands on both sides of a tab, if that in front is a verb
abbrev pub verb_in_front : Text × Text → Option Text
verb_in_front (verb, rest) = if list_any (is_text verb) verbs then Some verb else None

-- the verb in front of the first tab of a word
abbrev pub verb_before_tab : Text → Option Text
verb_before_tab word = option_and_then verb_in_front (cut_at tab None word)

abbrev pub tab_told : Text → Text
tab_told verb = codes "words are parted by blanks; a tab stands behind " ++ (verb ++ codes ".")

-- of a word that is no verb
abbrev pub of_word : Text → Text
of_word word = option_map_or tab_told (verb_before_tab word) (other_verb word (nearest word verbs))

abbrev pub of_verb : Text → Text
of_verb [] = codes "a line begins with create, replace, remove or move."
of_verb (x ∷ verb) = of_word (x ∷ verb)

-- ---- the path

-- the name of a key, from both sides of its `=`, where no quote stands behind that
abbrev pub bare_key : Text × Text → Option Text
bare_key (name, text) =
    if not (is_identifier name) || (begins single_quote text || begins double_quote text) then None else Some name

-- that of the first key behind the name of a step
abbrev pub bare_key_in : Text → Option Text
bare_key_in predicate = option_and_then bare_key (option_and_then (cut_at equals_sign None) (behind open_bracket predicate))

-- the own name and the text of a key, by the sides of a colon and what stands behind the `=`
abbrev pub own_key : Text → Text × Text → Option (Text × Text)
own_key text (module_name, own) = if is_identifier module_name && is_identifier own then Some (own, text) else None

-- of a key from both sides of its `=`, whose name has a module and whose text has a quote
abbrev pub module_key : Text × Text → Option (Text × Text)
module_key (name, text) = if begins single_quote text || begins double_quote text
    then option_and_then (own_key text) (cut_at colon None name) else None

-- that of the first key behind the name of a step
abbrev pub module_key_in : Text → Option (Text × Text)
module_key_in predicate = option_and_then module_key (option_and_then (cut_at equals_sign None) (behind open_bracket predicate))

-- what stands in front of the bracket that closes a predicate
abbrev pub in_brackets : Text → Text
in_brackets text = option_map_or (λ parts. parts.0) (cut_at close_bracket None text) text

abbrev pub own_name_due : Text × Text → Text
own_name_due (own, text) = codes "in a predicate the name stands without its module: ["
    ++ (shown own ++ (codes "=" ++ (shown (in_brackets text) ++ codes "].")))

abbrev pub quotes_due : Text → Text
quotes_due name = codes "a key's text stands in quotes, as in [" ++ (shown name ++ codes "='..'].")

-- of what stands behind the name of a step, where no key has the name of its module
abbrev pub key_due : Text → Text
key_due predicate = option_map_or quotes_due (bare_key_in predicate) (codes "a step is a name, and behind it perhaps [1], or [name='..'] for each key.")

-- what is to be changed in what stands behind the name of a step
abbrev pub predicate_due : Text → Text
predicate_due predicate = if is_text predicate (codes "[0]") then codes "positions count from 1."
    else option_map_or own_name_due (module_key_in predicate) (key_due predicate)

abbrev pub has_byte : ℕ → Text → Bool
has_byte c text = is_some (position (λ x. x == c) text)

-- a name and a text from both sides of a `=`, if they may be those of a list and of its only key
abbrev pub entry_of : Text × Text → Option (Text × Text)
entry_of (name, text) = if is_name name && not (has_byte single_quote text || has_byte 44 text) then Some (name, text) else None

-- those of a step as RESTCONF spells it (RFC 8040, 3.5.3): without predicates, the text of the key behind a `=`
abbrev pub entry_in : Text → Option (Text × Text)
entry_in part = option_and_then entry_of (cut_at equals_sign None part)

abbrev pub predicate_wanted : Text × Text → Text
predicate_wanted (name, text) = codes "write " ++ (shown name ++ (codes "[KEY='" ++ (shown text ++ codes "'].")))

-- what is to be changed in a part that spells no step
abbrev pub step_due : Text → Text
step_due part = option_map_or predicate_wanted (entry_in part) (predicate_due (name_and_predicate part).1)

abbrev pub no_step_told : Text → Text
no_step_told part = codes "\"" ++ (shown part ++ codes "\" is no step of a path: ")

abbrev pub other_step : Text → Text
other_step part = no_step_told part ++ step_due part

-- of what stands between two slashes, or behind the last, and spells no step
abbrev pub of_no_step : Text → Text
of_no_step [] = codes "a name stands behind each / of a path."
of_no_step (x ∷ part) = other_step (x ∷ part)

-- the first of these
abbrev pub no_step_in : Text → Option Text
no_step_in steps = find (λ part. not (is_some (step_of part))) (parts_at slash None steps)

-- ---- the value, or the position

abbrev pub of_no_value : Text → Text
of_no_value verb = if is_text verb (codes "remove") then [] else (if is_text verb (codes "move") then codes "move has a position behind its path."
    else verb ++ codes " has a value behind its path.")

abbrev pub of_position : Text → Text
of_position text = if is_some (position_alone text) then [] else codes "move has one position behind its path, as in move PATH 2."

abbrev pub of_some_value : Text → Text → Text
of_some_value verb value = if is_text verb (codes "remove") then codes "remove has no value behind its path."
    else (if is_text verb (codes "move") then of_position value else [])

abbrev pub of_value : Text → Text → Text
of_value verb [] = of_no_value verb
of_value verb (x ∷ value) = of_some_value verb (x ∷ value)

-- ---- all

-- of the texts of a path and a value behind a verb
abbrev pub of_steps : Text → Text → Text → Text
of_steps verb value steps = option_map_or of_no_step (no_step_in steps) (of_value verb value)

abbrev pub of_operands : Text → Text → Text → Text
of_operands verb path value = option_map_or (of_steps verb value) (behind slash path) (codes "a path begins with /.")

abbrev pub of_words : Text → Text → Text
of_words verb rest = if list_any (is_text verb) verbs then of_operands verb (operands rest).0 (operands rest).1 else of_verb verb

abbrev pub of_text : Text → Text
of_text line = of_words (verb_and_rest line).0 (verb_and_rest line).1

abbrev pub said_of_line : Text → Text
said_of_line line = if is_utf8 line then of_text line else codes "the line isn't UTF-8."
