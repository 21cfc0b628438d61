-- When two values are the same, and an order of values for sorting and look-up: by member, kind and content.
use Rattle.std.specs.Prelude.{◌≡◌, ◌↔◌, ℕ, ◌+◌, ℤ, pos, Bool, true, false, List, [], Option, Some, None, IsTrue}
use Rattle.std.specs.Ordering.{nat_cmp, int_cmp, on, then_cmp, eq_by_cmp}
use Rattle.std.specs.declared.cmp.Ordering.{Ordering}
use Rattle.std.specs.Cmp.Lexicographic.{slice_cmp}
use Rattle.yspec.specs.text.Text.{Text}
use Rattle.yspec.specs.types.Types.{Content, text_value, number_value, bool_value, empty_value, bits_value, octets_value, Val}

abbrev pub member_number : Option ℕ → ℕ
member_number None = 0
member_number (Some n) = n + 1

abbrev pub kind_number : Content → ℕ
kind_number (text_value t) = 0
kind_number (number_value z) = 1
kind_number (bool_value b) = 2
kind_number empty_value = 3
kind_number (bits_value zs) = 4
kind_number (octets_value octets) = 5

-- a text or octets, which are compared alike
abbrev pub text_part : Content → Text
text_part (text_value t) = t
text_part (octets_value octets) = octets
text_part _ = []

abbrev pub bool_number : Bool → ℤ
bool_number true = pos 1
bool_number false = pos 0

abbrev pub number_part : Content → ℤ
number_part (number_value z) = z
number_part (bool_value b) = bool_number b
number_part _ = pos 0

abbrev pub bits_part : Content → List ℤ
bits_part (bits_value zs) = zs
bits_part _ = []

abbrev pub content_cmp : Content → Content → Ordering
content_cmp = then_cmp (on kind_number nat_cmp) (then_cmp (on text_part (slice_cmp nat_cmp))
    (then_cmp (on number_part int_cmp) (on bits_part (slice_cmp int_cmp))))

abbrev pub member_of : Val → ℕ
member_of v = member_number v.member

abbrev pub content_of : Val → Content
content_of v = v.content

abbrev pub value_cmp : Val → Val → Ordering
value_cmp = then_cmp (on member_of nat_cmp) (on content_of content_cmp)

abbrev pub same_value : Val → Val → Bool
same_value = eq_by_cmp value_cmp

-- what this test tells
abbrev pub TellsValues : Type 0
TellsValues = (v w : Val) → IsTrue (same_value v w) ↔ (v ≡ w)
