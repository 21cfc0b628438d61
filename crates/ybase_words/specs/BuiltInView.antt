-- Built-in types as the specification's.
use Rattle.yspec.specs.types.Types.{int8, int16, int32, int64, uint8, uint16, uint32, uint64}
use Rattle.yspec.specs.linking.TypeStatements as spec
use Rattle.ybase_words.specs.declared.builtin.BuiltIn.{BuiltIn}
use Rattle.ybase_words.specs.declared.builtin.BuiltIn.TheVariants as types

abbrev pub built_in_view : BuiltIn → spec.BuiltIn
built_in_view types.Int8 = spec.integer int8
built_in_view types.Int16 = spec.integer int16
built_in_view types.Int32 = spec.integer int32
built_in_view types.Int64 = spec.integer int64
built_in_view types.Uint8 = spec.integer uint8
built_in_view types.Uint16 = spec.integer uint16
built_in_view types.Uint32 = spec.integer uint32
built_in_view types.Uint64 = spec.integer uint64
built_in_view types.Decimal64 = spec.decimal64
built_in_view types.String = spec.string
built_in_view types.Boolean = spec.boolean
built_in_view types.Empty = spec.empty
built_in_view types.Enumeration = spec.enumeration
built_in_view types.Bits = spec.bits
built_in_view types.Union = spec.union
built_in_view types.Leafref = spec.leafref
built_in_view types.Identityref = spec.identityref
built_in_view types.Binary = spec.binary
