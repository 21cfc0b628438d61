-- The built-in types, and their names (RFC 7950, 4.2.4).
use Rattle.std.specs.Prelude.{List, [], ◌∷◌, map, codes, Option, find, option_map}
use Rattle.yspec.specs.text.Text.{Text, is_text}
use Rattle.yspec.specs.types.Types.{Integer, int8, int16, int32, int64, uint8, uint16, uint32, uint64}

pub data BuiltIn : Type 0 where
  integer : Integer → BuiltIn
  decimal64 : BuiltIn
  string : BuiltIn
  boolean : BuiltIn
  empty : BuiltIn
  enumeration : BuiltIn
  bits : BuiltIn
  union : BuiltIn
  leafref : BuiltIn
  identityref : BuiltIn
  binary : BuiltIn

-- the name of one
abbrev pub built_in_name : BuiltIn → Text
built_in_name (integer int8) = codes "int8"
built_in_name (integer int16) = codes "int16"
built_in_name (integer int32) = codes "int32"
built_in_name (integer int64) = codes "int64"
built_in_name (integer uint8) = codes "uint8"
built_in_name (integer uint16) = codes "uint16"
built_in_name (integer uint32) = codes "uint32"
built_in_name (integer uint64) = codes "uint64"
built_in_name decimal64 = codes "decimal64"
built_in_name string = codes "string"
built_in_name boolean = codes "boolean"
built_in_name empty = codes "empty"
built_in_name enumeration = codes "enumeration"
built_in_name bits = codes "bits"
built_in_name union = codes "union"
built_in_name leafref = codes "leafref"
built_in_name identityref = codes "identityref"
built_in_name binary = codes "binary"

abbrev pub named_so : BuiltIn → Text × BuiltIn
named_so type = (built_in_name type, type)

abbrev pub all_built_in : List BuiltIn
all_built_in = integer int8 ∷ integer int16 ∷ integer int32 ∷ integer int64 ∷ integer uint8 ∷ integer uint16 ∷ integer uint32
    ∷ integer uint64 ∷ decimal64 ∷ string ∷ boolean ∷ empty ∷ enumeration ∷ bits ∷ union ∷ leafref ∷ identityref
    ∷ binary ∷ []

abbrev pub built_in_types : List (Text × BuiltIn)
built_in_types = map named_so all_built_in

unfoldable pub built_in_named : Text → Option BuiltIn
built_in_named name = option_map (λ entry. entry.1) (find (λ entry. is_text name entry.0) built_in_types)
