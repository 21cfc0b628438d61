-- Patterns of published modules, and what patterns take.
use Rattle.std.specs.Prelude.{ℕ, zero, suc, Bool, List, [], ◌∷◌, codes, ◌++◌, map, Option, is_some}
use Rattle.yspec_patterns.specs.Reading.{pattern_of, taken_by}

abbrev pub octet : List ℕ
octet = codes "([0-9]|[1-9][0-9]|1[0-9][0-9]|2[0-4][0-9]|25[0-5])"

-- ietf-inet-types, ipv4-address-no-zone
abbrev pub ipv4 : List ℕ
ipv4 = codes "(([0-9]|[1-9][0-9]|1[0-9][0-9]|2[0-4][0-9]|25[0-5])\\.){3}([0-9]|[1-9][0-9]|1[0-9][0-9]|2[0-4][0-9]|25[0-5])"

abbrev pub ipv4_with_zone : List ℕ
ipv4_with_zone = ipv4 ++ codes "(%[\\p{N}\\p{L}]+)?"

abbrev pub ipv4_prefix : List ℕ
ipv4_prefix = ipv4 ++ codes "/(([0-9])|([1-2][0-9])|(3[0-2]))"

abbrev pub ipv6_form : List ℕ
ipv6_form = codes "(([^:]+:){6}(([^:]+:[^:]+)|(.*\\..*)))|((([^:]+:)*[^:]+)?::(([^:]+:)*[^:]+)?)(%.+)?"

abbrev pub domain_name : List ℕ
domain_name = codes "((([a-zA-Z0-9_]([a-zA-Z0-9\\-_]){0,61})?[a-zA-Z0-9]\\.)*([a-zA-Z0-9_]([a-zA-Z0-9\\-_]){0,61})?[a-zA-Z0-9]\\.?)|\\."

-- ietf-yang-types
abbrev pub object_identifier : List ℕ
object_identifier = codes "(([0-1](\\.[1-3]?[0-9]))|(2\\.(0|([1-9]\\d*))))(\\.(0|([1-9]\\d*)))*"

abbrev pub object_identifier_128 : List ℕ
object_identifier_128 = codes "\\d*(\\.\\d*){1,127}"

abbrev pub date_and_time : List ℕ
date_and_time = codes "\\d{4}-\\d{2}-\\d{2}T\\d{2}:\\d{2}:\\d{2}(\\.\\d+)?(Z|[\\+\\-]\\d{2}:\\d{2})"

abbrev pub phys_address : List ℕ
phys_address = codes "([0-9a-fA-F]{2}(:[0-9a-fA-F]{2})*)?"

abbrev pub mac_address : List ℕ
mac_address = codes "[0-9a-fA-F]{2}(:[0-9a-fA-F]{2}){5}"

abbrev pub uuid : List ℕ
uuid = codes "[0-9a-fA-F]{8}-[0-9a-fA-F]{4}-[0-9a-fA-F]{4}-[0-9a-fA-F]{4}-[0-9a-fA-F]{12}"

abbrev pub yang_identifier : List ℕ
yang_identifier = codes "[a-zA-Z_][a-zA-Z0-9\\-_.]*"

abbrev pub not_xml : List ℕ
not_xml = codes ".|..|[^xX].*|.[^mM].*|..[^lL].*"

abbrev pub hex_string : List ℕ
hex_string = codes "([0-9a-fA-F]{2}(:[0-9a-fA-F]{2})*)?"

abbrev pub ncname : List ℕ
ncname = codes "[\\i-[:]][\\c-[:]]*"

abbrev pub printable : List ℕ
printable = codes "[ -@\\[-\\^_-~]*"

abbrev pub crypt_hash : List ℕ
crypt_hash = codes "$0$.*|$1$[a-zA-Z0-9./]{1,8}$[a-zA-Z0-9./]{22}"

abbrev pub language : List ℕ
language = codes "[a-zA-Z]{1,8}(-[a-zA-Z0-9]{1,8})*"

-- ---- what patterns take

-- of each text whether it is taken; none where the pattern is none
abbrev pub all_taken : List ℕ → List (List ℕ) → List (Option Bool)
all_taken pattern texts = map (taken_by pattern) texts

-- of each text whether it is a pattern
abbrev pub all_read : List (List ℕ) → List Bool
all_read patterns = map (λ pattern. is_some (pattern_of pattern)) patterns

-- so many groups in one another
abbrev pub nested : ℕ → List ℕ
nested zero = []
nested (suc n) = codes "(" ++ (nested n ++ codes ")")

-- whether a character is of the category with a name
abbrev pub is_of : List ℕ → ℕ → Option Bool
is_of name c = taken_by (codes "\\p{" ++ (name ++ codes "}")) (c ∷ [])
