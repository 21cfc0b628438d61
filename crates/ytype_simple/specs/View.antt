-- What the crate's types stand for.
use Rattle.std.specs.String.{string_bytes}
use Rattle.ytype_simple.specs.declared.raw.Raw.{Raw}
use Rattle.ytype_simple.specs.declared.raw.Raw.TheVariants as raw
use Rattle.ytype_simple.specs.declared.base.Integer.{Integer}
use Rattle.ytype_simple.specs.declared.base.Integer.TheVariants as integer
use Rattle.ytype_simple.specs.declared.base.Base.{Base}
use Rattle.ytype_simple.specs.declared.base.Base.TheVariants as base
use Rattle.ytype_simple.specs.declared.base.Found.{Found}
use Rattle.ytype_simple.specs.declared.base.Found.TheVariants as found
use Rattle.ytype_simple.specs.declared.content.Content.{Content}
use Rattle.ytype_simple.specs.declared.content.Content.TheVariants as content
use Rattle.yspec.specs.types.Types as types
use Rattle.ytype_simple.specs.Identities.{identities_view}

abbrev pub raw_of : Raw → types.Raw
raw_of (raw.Text t) = types.text (string_bytes t)
raw_of (raw.Int z) = types.int z
raw_of (raw.Bool b) = types.bool b
raw_of raw.Empty = types.empty

abbrev pub integer_of : Integer → types.Integer
integer_of integer.Int8 = types.int8
integer_of integer.Int16 = types.int16
integer_of integer.Int32 = types.int32
integer_of integer.Int64 = types.int64
integer_of integer.Uint8 = types.uint8
integer_of integer.Uint16 = types.uint16
integer_of integer.Uint32 = types.uint32
integer_of integer.Uint64 = types.uint64

abbrev pub base_of : Base → types.Base
base_of (base.Integer i) = types.integer_base (integer_of i)
base_of (base.Decimal d) = types.decimal_base d
base_of base.Text = types.string_base
base_of base.Boolean = types.boolean_base
base_of base.Empty = types.empty_base
base_of (base.Enumeration names) = types.enumeration_base names.value
base_of (base.Bits names) = types.bits_base names.value
base_of (base.Identity identities) = identities_view identities
base_of base.Binary = types.binary_base

abbrev pub found_of : Found → types.Content
found_of (found.Text t) = types.text_value t.now
found_of (found.Number z) = types.number_value z
found_of (found.Bool b) = types.bool_value b
found_of found.Empty = types.empty_value
found_of (found.Bits positions) = types.bits_value positions.items
found_of (found.Octets octets) = types.octets_value octets.items

abbrev pub content_of : Content → types.Content
content_of (content.Text t) = types.text_value (string_bytes t)
content_of (content.Number z) = types.number_value z
content_of (content.Bool b) = types.bool_value b
content_of content.Empty = types.empty_value
content_of (content.Bits positions) = types.bits_value positions.items
content_of (content.Octets octets) = types.octets_value octets.items
