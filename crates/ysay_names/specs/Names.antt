-- What is said of the statements of a line in which a type, a grouping or an identity isn't found (C8; RFC 7950, 5.5, 6.2.1 and 7.18.2).
use Rattle.std.specs.Prelude.{ℕ, ◌+◌, ◌++◌, ◌&&◌, Bool, List, [], ◌∷◌, codes, position, take, drop, Option, Some, None, option_map, option_and_then, unwrap_or, if◌then◌else◌}
use Rattle.std.specs.Option.{option_map_or}
use Rattle.yspec.specs.Forest.{Forest, end, node}
use Rattle.yspec.specs.text.Text.{Text}
use Rattle.yspec.specs.text.Statement.{Statement}
use Rattle.ysay_text.specs.Line.{shown}
use Rattle.ysay_text.specs.Near.{nearest}
use Rattle.ysay_names.specs.Rows.{all_arguments_called, arguments_called, below_first, in_line, is_named, is_word}
use Rattle.ysay_names.specs.Prefixes.{is_among, is_colon}

-- what a statement refers to
pub data Kind : Type 0 where
  a_type : Kind
  a_grouping : Kind
  an_identity : Kind

abbrev pub kind_of : Statement → Option Kind
kind_of s = if is_word (codes "type") s then Some a_type
    else (if is_word (codes "uses") s then Some a_grouping
    else (if is_word (codes "base") s then Some an_identity else None))

-- the keyword that defines one
abbrev pub defining : Kind → Text
defining a_type = codes "typedef"
defining a_grouping = codes "grouping"
defining an_identity = codes "identity"

-- what people call it
abbrev pub called : Kind → Text
called a_type = codes "type"
called a_grouping = codes "grouping"
called an_identity = codes "identity"

-- RFC 7950, 4.2.4
abbrev pub built_in_names : List Text
built_in_names = codes "binary" ∷ codes "bits" ∷ codes "boolean" ∷ codes "decimal64" ∷ codes "empty" ∷ codes "enumeration" ∷ codes "identityref"
    ∷ codes "instance-identifier" ∷ codes "int8" ∷ codes "int16" ∷ codes "int32" ∷ codes "int64" ∷ codes "leafref" ∷ codes "string" ∷ codes "uint8"
    ∷ codes "uint16" ∷ codes "uint32" ∷ codes "uint64" ∷ codes "union" ∷ []

abbrev pub built_in : Kind → List Text
built_in a_type = built_in_names
built_in a_grouping = []
built_in an_identity = []

-- ---- which names there are

-- the module that an import brings under a prefix
abbrev pub gives_prefix : Text → Forest Statement → Bool
gives_prefix prefix below = is_among (arguments_called (codes "prefix") below) prefix

abbrev pub imports_as : Text → Statement → Forest Statement → Bool
imports_as prefix s below = is_word (codes "import") s && gives_prefix prefix below

abbrev pub imported_as : Text → Forest Statement → Option Text
imported_as prefix end = None
imported_as prefix (node s below after) = if imports_as prefix s below then s.argument else imported_as prefix after

-- what stands below the module of a name
abbrev pub module_named : Text → Forest Statement → Forest Statement
module_named name end = end
module_named name (node s below after) = if is_named name s then below else module_named name after

-- what stands below the module that a prefix means, or the module itself
abbrev pub module_under : Forest Statement → Forest Statement → Text → Option (Forest Statement)
module_under modules below prefix = if gives_prefix prefix below then Some below
    else option_map (λ name. module_named name modules) (imported_as prefix below)

abbrev pub module_meant : Forest Statement → Forest Statement → Option Text → Option (Forest Statement)
module_meant modules below None = Some below
module_meant modules below (Some prefix) = module_under modules below prefix

-- those of an imported module, which stand right below it
abbrev pub names_imported : Forest Statement → Kind → Option Text → List Text
names_imported modules kind name = option_map_or (λ n. arguments_called (defining kind) (module_named n modules)) name []

abbrev pub names_under : Forest Statement → Forest Statement → Kind → Text → List Text
names_under modules below kind prefix = if gives_prefix prefix below then all_arguments_called (defining kind) below
    else names_imported modules kind (imported_as prefix below)

abbrev pub names_here : Forest Statement → Kind → List Text
names_here below kind = built_in kind ++ all_arguments_called (defining kind) below

-- of the module itself, at whatever place, and built-in ones; under a prefix those of the module that it means
abbrev pub names_for : Forest Statement → Forest Statement → Kind → Option Text → List Text
names_for modules below kind None = names_here below kind
names_for modules below kind (Some prefix) = names_under modules below kind prefix

-- ---- what is said

abbrev pub prefix_given : Text → Option Text
prefix_given t = option_map (λ n. take n t) (position is_colon t)

abbrev pub name_given : Text → Text
name_given t = option_map_or (λ n. drop (n + 1) t) (position is_colon t) t

abbrev pub with_prefix : Option Text → Text → Text
with_prefix None name = name
with_prefix (Some prefix) name = prefix ++ (codes ":" ++ name)

abbrev pub missing_far : Kind → Text → Text
missing_far kind t = codes "no " ++ (called kind ++ (codes " is called " ++ (shown t ++ codes ".")))

abbrev pub missing_near : Kind → Text → Text → Text
missing_near kind t near = codes "no " ++ (called kind ++ (codes " is called " ++ (shown t ++ (codes "; near it: " ++ (near ++ codes ".")))))

-- of a name that isn't among some
abbrev pub missing : List Text → Kind → Text → Text
missing names kind t = option_map_or (λ near. missing_near kind t (with_prefix (prefix_given t) near)) (nearest (name_given t) names) (missing_far kind t)

-- of a name, where there is none such
abbrev pub of_name : List Text → Kind → Text → Option Text
of_name names kind t = if is_among names (name_given t) then None else Some (missing names kind t)

abbrev pub of_argument : Forest Statement → Forest Statement → Kind → Text → Option Text
of_argument modules below kind t = of_name (names_for modules below kind (prefix_given t)) kind t

abbrev pub of_reference : Forest Statement → Forest Statement → Statement → Kind → Option Text
of_reference modules below s kind = option_and_then (of_argument modules below kind) s.argument

abbrev pub of_statement : Forest Statement → Forest Statement → Statement → Option Text
of_statement modules below s = option_and_then (of_reference modules below s) (kind_of s)

-- of the first of several that names none
abbrev pub of_statements : Forest Statement → Forest Statement → List Statement → Text
of_statements modules below [] = []
of_statements modules below (s ∷ ss) = unwrap_or (of_statement modules below s) (of_statements modules below ss)

-- what is said of a line of the statements of a module of a set
unfoldable pub of_line : ℕ → Forest Statement → Forest Statement → Text
of_line line modules top = of_statements modules (below_first top) (in_line line top)
