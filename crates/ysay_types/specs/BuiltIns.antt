-- What built-in types take and need (RFC 7950, 9.2 to 9.13).
use Rattle.std.specs.Prelude.{◌-◌, ◌^◌, pos, negsuc, List, [], ◌∷◌, codes, Option, Some, None, if◌then◌else◌}
use Rattle.yspec.specs.text.Text.{Text, is_text}
use Rattle.yspec.specs.types.Ranges.{Part}
use Rattle.yspec.specs.types.Restriction.{lengths}

abbrev pub number_names : List Text
number_names = codes "int8" ∷ codes "int16" ∷ codes "int32" ∷ codes "int64" ∷ codes "uint8" ∷ codes "uint16" ∷ codes "uint32" ∷ codes "uint64"
    ∷ codes "decimal64" ∷ []

-- those that are restricted by numbers
abbrev pub takers_of_numbers : Text → Option (List Text)
takers_of_numbers word = if is_text word (codes "range") then Some number_names
    else (if is_text word (codes "length") then Some (codes "string" ∷ codes "binary" ∷ [])
    else (if is_text word (codes "fraction-digits") then Some (codes "decimal64" ∷ []) else None))

-- those that name others
abbrev pub takers_of_names : Text → Option (List Text)
takers_of_names word = if is_text word (codes "path") then Some (codes "leafref" ∷ [])
    else (if is_text word (codes "require-instance") then Some (codes "leafref" ∷ codes "instance-identifier" ∷ [])
    else (if is_text word (codes "base") then Some (codes "identityref" ∷ [])
    else (if is_text word (codes "type") then Some (codes "union" ∷ []) else takers_of_numbers word)))

-- the built-in types that take a substatement, if it says something of a type
abbrev pub takers : Text → Option (List Text)
takers word = if is_text word (codes "pattern") then Some (codes "string" ∷ [])
    else (if is_text word (codes "enum") then Some (codes "enumeration" ∷ [])
    else (if is_text word (codes "bit") then Some (codes "bits" ∷ []) else takers_of_names word))

-- the substatement that a built-in type needs
abbrev pub needed : Text → Option Text
needed name = if is_text name (codes "decimal64") then Some (codes "fraction-digits")
    else (if is_text name (codes "enumeration") then Some (codes "enum")
    else (if is_text name (codes "bits") then Some (codes "bit")
    else (if is_text name (codes "union") then Some (codes "type")
    else (if is_text name (codes "leafref") then Some (codes "path")
    else (if is_text name (codes "identityref") then Some (codes "base") else None)))))

abbrev pub signed_numbers : Text → Option Part
signed_numbers name = if is_text name (codes "int8") then Some (record { low = negsuc (2 ^ 7 - 1); high = pos (2 ^ 7 - 1) })
    else (if is_text name (codes "int16") then Some (record { low = negsuc (2 ^ 15 - 1); high = pos (2 ^ 15 - 1) })
    else (if is_text name (codes "int32") then Some (record { low = negsuc (2 ^ 31 - 1); high = pos (2 ^ 31 - 1) })
    else (if is_text name (codes "int64") then Some (record { low = negsuc (2 ^ 63 - 1); high = pos (2 ^ 63 - 1) }) else None)))

abbrev pub whole_numbers : Text → Option Part
whole_numbers name = if is_text name (codes "uint8") then Some (record { low = pos 0; high = pos (2 ^ 8 - 1) })
    else (if is_text name (codes "uint16") then Some (record { low = pos 0; high = pos (2 ^ 16 - 1) })
    else (if is_text name (codes "uint32") then Some (record { low = pos 0; high = pos (2 ^ 32 - 1) })
    else (if is_text name (codes "uint64") then Some (record { low = pos 0; high = pos (2 ^ 64 - 1) }) else signed_numbers name)))

-- the numbers that a `range` or a `length` of a built-in type may restrict, if they are whole
abbrev pub numbers_restricted : Text → Text → Option Part
numbers_restricted word name = if is_text word (codes "range") then whole_numbers name
    else (if is_text word (codes "length") then Some lengths else None)

-- no type has a number outside
abbrev pub all_numbers : Part
all_numbers = record { low = negsuc (2 ^ 64 - 1); high = pos (2 ^ 64) }
