use Rattle.std.proofs.Common.{sym, subst, rules}
use Rattle.yspec.specs.types.Types.{numbers_of}
use Rattle.yspec.specs.types.Types as types
use Rattle.ytype_numbers.specs.Words.{IsNarrow}
use Rattle.ytype_simple.specs.View.{integer_of}
use Rattle.ytype_simple.proofs.base.Integer.numbers.Goals as goal

narrow_numbers : (i : types.Integer) → IsNarrow (numbers_of i)
narrow_numbers types.int8 = search rules
narrow_numbers types.int16 = search rules
narrow_numbers types.int32 = search rules
narrow_numbers types.int64 = search rules
narrow_numbers types.uint8 = search rules
narrow_numbers types.uint16 = search rules
narrow_numbers types.uint32 = search rules
narrow_numbers types.uint64 = search rules

pub returns-clause-narrow : goal.returns-clause-narrow
returns-clause-narrow c = subst IsNarrow (sym c.bounds.ensures) (narrow_numbers (integer_of c.args.self))
