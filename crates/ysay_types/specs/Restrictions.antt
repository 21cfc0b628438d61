-- What is said of the first `type` statement of a line that restricts its type wrongly, or that says too little or something twice (C10; RFC 7950, 9).
use Rattle.std.specs.Prelude.{ℕ, ◌==◌, ◌++◌, ◌&&◌, Bool, not, List, [], ◌∷◌, codes, is_some, Option, Some, None, option_map, option_and_then, unwrap_or, if◌then◌else◌}
use Rattle.std.specs.List.{list_any}
use Rattle.std.specs.Option.{option_map_or}
use Rattle.yspec.specs.Forest.{Forest, row, first_of}
use Rattle.yspec.specs.text.Text.{Text}
use Rattle.yspec.specs.text.Statement.{Statement}
use Rattle.yspec.specs.types.Numerals.{integer_text}
use Rattle.yspec.specs.types.Ranges.{Part, Span, restricted}
use Rattle.yspec.specs.linking.Arguments.{spans_of}
use Rattle.ysay_text.specs.Line.{shown}
use Rattle.ysay_names.specs.Names.{built_in_names}
use Rattle.ysay_names.specs.Prefixes.{is_among}
use Rattle.ysay_names.specs.Rows.{arguments_called, below_first, entries, has_word, is_word}
use Rattle.ysay_types.specs.Quoted.{quoted}
use Rattle.ysay_types.specs.BuiltIns.{all_numbers, needed, numbers_restricted, takers, whole_numbers}
use Rattle.ysay_types.specs.Chain.{Defined, base_of, first_argument, levels, range_of, rows_from, typedef_meant}

-- ---- what is missing

abbrev pub lacks : Text → Text → Text
lacks name word = name ++ (codes " lacks " ++ (word ++ codes "."))

abbrev pub of_need : Forest Statement → Text → Text → Option Text
of_need below name word = if has_word word below then None else Some (lacks name word)

-- ---- what isn't taken

abbrev pub takes_none : Text → Text → Text
takes_none name word = name ++ (codes " takes no " ++ (word ++ codes "."))

abbrev pub is_foreign_to : Text → List Text → Bool
is_foreign_to name names = not (is_among names name)

-- ---- ranges and lengths

abbrev pub takes_text : Part → Text
takes_text numbers = codes ", which takes " ++ (integer_text numbers.low ++ (codes " to " ++ (integer_text numbers.high ++ codes ".")))

abbrev pub beyond_type : Text → Part → Text
beyond_type name numbers = codes " goes beyond " ++ (shown name ++ takes_text numbers)

abbrev pub goes_beyond : Text → Text → Text → Part → Text
goes_beyond word t name numbers = quoted word t ++ beyond_type name numbers

abbrev pub is_unordered : Text → Text → Text
is_unordered word t = quoted word t ++ codes " isn't made of whole numbers that ascend."

-- whether parts leave a set of whole numbers of others
abbrev pub restricts : List Part → List Span → Bool
restricts outer spans = is_some (restricted outer 0 spans)

-- a part of all numbers that isn't one of some
abbrev pub is_beyond : List Part → Span → Bool
is_beyond outer span = not (restricts outer (span ∷ [])) && restricts (all_numbers ∷ []) (span ∷ [])

abbrev pub of_spans : Text → Text → Text → Part → List Span → Option Text
of_spans word t name numbers spans = if restricts (numbers ∷ []) spans then None
    else (if list_any (is_beyond (numbers ∷ [])) spans then Some (goes_beyond word t name numbers) else Some (is_unordered word t))

abbrev pub of_numbers : Text → Text → Text → Part → Option Text
of_numbers word t name numbers = option_and_then (of_spans word t name numbers) (spans_of t)

abbrev pub of_bounds : Text → Text → Text → Option Text
of_bounds word name t = option_and_then (of_numbers word t name) (numbers_restricted word name)

-- ---- of a built-in type

-- of a substatement that says something of a type
abbrev pub of_restriction : Text → Statement → List Text → Option Text
of_restriction name s names = if is_foreign_to name names then Some (takes_none name s.keyword)
    else option_and_then (of_bounds s.keyword name) s.argument

abbrev pub of_part : Text → Statement → Option Text
of_part name s = option_and_then (of_restriction name s) (takers s.keyword)

abbrev pub of_parts : Text → List Statement → Option Text
of_parts name [] = None
of_parts name (s ∷ ss) = first_of (of_part name s) (of_parts name ss)

abbrev pub of_built_in : Text → Forest Statement → Option Text
of_built_in name below = first_of (option_and_then (of_need below name) (needed name)) (of_parts name (row below))

-- ---- of a derived type

abbrev pub range_of_type : Text → Text → Text
range_of_type name outer = quoted (codes "range") outer ++ (codes " of " ++ (shown name ++ codes "."))

abbrev pub isnt_within : Text → Text → Text → Text
isnt_within name t outer = quoted (codes "range") t ++ (codes " isn't within the " ++ range_of_type name outer)

abbrev pub of_outer : Text → Text → Text → List Span → List Part → Option Text
of_outer name t outer spans parts = if list_any (is_beyond parts) spans then Some (isnt_within name t outer) else None

-- what a range leaves of a type's numbers, if it is one
abbrev pub left_of : Part → Text → Option (List Part)
left_of numbers outer = option_and_then (restricted (numbers ∷ []) 0) (spans_of outer)

-- by the range that the type has
abbrev pub within_range : Text → Text → Part → Text → Option Text
within_range name t numbers outer = option_and_then (λ spans. option_and_then (of_outer name t outer spans) (left_of numbers outer)) (spans_of t)

abbrev pub of_range : Text → Part → Option Text → Text → Option Text
of_range name numbers outer t = option_map_or (within_range name t numbers) outer (of_numbers (codes "range") t name numbers)

abbrev pub of_integer : Forest Statement → Text → Option Text → Part → Option Text
of_integer below name outer numbers = option_and_then (of_range name numbers outer) (first_argument (codes "range") below)

abbrev pub of_rows : Forest Statement → Text → List (Forest Statement) → Option Text
of_rows below name rows = option_and_then (λ base. option_and_then (of_integer below name (range_of rows)) (whole_numbers base)) (base_of rows)

abbrev pub of_typedef : Forest Statement → Forest Statement → Text → Defined → Option Text
of_typedef modules below name d = of_rows below name (rows_from levels modules d)

abbrev pub of_derived : Forest Statement → Forest Statement → Forest Statement → Text → Option Text
of_derived modules around below name = option_and_then (of_typedef modules below name) (typedef_meant modules around name)

-- ---- of any type

abbrev pub stands_twice : Text → Text → Text
stands_twice word name = codes "the " ++ (quoted word name ++ codes " stands twice.")

-- the first of some texts that comes again
abbrev pub first_twice : List Text → Option Text
first_twice [] = None
first_twice (t ∷ ts) = if is_among ts t then Some t else first_twice ts

abbrev pub of_names : Text → Forest Statement → Option Text
of_names word below = option_map (stands_twice word) (first_twice (arguments_called word below))

abbrev pub of_doubles : Forest Statement → Option Text
of_doubles below = first_of (of_names (codes "enum") below) (of_names (codes "bit") below)

unfoldable pub of_name : Forest Statement → Forest Statement → Forest Statement → Text → Option Text
of_name modules around below name = if is_among built_in_names name then of_built_in name below else of_derived modules around below name

abbrev pub of_type : Forest Statement → Forest Statement → Statement → Forest Statement → Option Text
of_type modules around s below = first_of (option_and_then (of_name modules around below) s.argument) (of_doubles below)

-- a `type` of a line
abbrev pub is_type_in : ℕ → Statement → Bool
is_type_in line s = s.line == line && is_word (codes "type") s

unfoldable pub of_entry : ℕ → Forest Statement → Forest Statement → Statement × Forest Statement → Option Text
of_entry line modules around e = if is_type_in line e.0 then of_type modules around e.0 e.1 else None

abbrev pub of_entries : ℕ → Forest Statement → Forest Statement → List (Statement × Forest Statement) → Text
of_entries line modules around [] = []
of_entries line modules around (e ∷ es) = unwrap_or (of_entry line modules around e) (of_entries line modules around es)

-- what is said of a line of the statements of a module of a set
unfoldable pub of_line : ℕ → Forest Statement → Forest Statement → Text
of_line line modules top = of_entries line modules (below_first top) (entries (below_first top))
