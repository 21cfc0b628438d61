use Rattle.std.proofs.Common.{◌≡◌, IfOk, subst, sym}
use Rattle.yspec_wide.specs.Types.{single_type_of}
use Rattle.ybase_preorder.specs.View.{row_by}
use Rattle.ylink_grammar.specs.SourceView.{source_view}
use Rattle.ybase_words.specs.BuiltInView.{built_in_view}
use Rattle.ylink_values.specs.KeptView.{kept_view}
use Rattle.ylink_types.proofs.types.single_type.Goals as goal

pub returns-in-Int8 : goal.returns-in-Int8
returns-in-Int8 c = subst (λ t. IfOk c.ranged_type.result (λ type. type ≡ single_type_of (kept_view c.args.kept) (built_in_view t) (row_by source_view c.args.below))) (sym c.in-Int8.is) (c.ranged_type.ensures _ c.int8.ensures)

pub returns-in-Int16 : goal.returns-in-Int16
returns-in-Int16 c = subst (λ t. IfOk c.ranged_type-in-Int16.result (λ type. type ≡ single_type_of (kept_view c.args.kept) (built_in_view t) (row_by source_view c.args.below))) (sym c.in-Int16.is) (c.ranged_type-in-Int16.ensures _ c.int16.ensures)

pub returns-in-Int32 : goal.returns-in-Int32
returns-in-Int32 c = subst (λ t. IfOk c.ranged_type-in-Int32.result (λ type. type ≡ single_type_of (kept_view c.args.kept) (built_in_view t) (row_by source_view c.args.below))) (sym c.in-Int32.is) (c.ranged_type-in-Int32.ensures _ c.int32.ensures)

pub returns-in-Int64 : goal.returns-in-Int64
returns-in-Int64 c = subst (λ t. IfOk c.ranged_type-in-Int64.result (λ type. type ≡ single_type_of (kept_view c.args.kept) (built_in_view t) (row_by source_view c.args.below))) (sym c.in-Int64.is) (c.ranged_type-in-Int64.ensures _ c.int64.ensures)

pub returns-in-Uint8 : goal.returns-in-Uint8
returns-in-Uint8 c = subst (λ t. IfOk c.ranged_type-in-Uint8.result (λ type. type ≡ single_type_of (kept_view c.args.kept) (built_in_view t) (row_by source_view c.args.below))) (sym c.in-Uint8.is) (c.ranged_type-in-Uint8.ensures _ c.uint8.ensures)

pub returns-in-Uint16 : goal.returns-in-Uint16
returns-in-Uint16 c = subst (λ t. IfOk c.ranged_type-in-Uint16.result (λ type. type ≡ single_type_of (kept_view c.args.kept) (built_in_view t) (row_by source_view c.args.below))) (sym c.in-Uint16.is) (c.ranged_type-in-Uint16.ensures _ c.uint16.ensures)

pub returns-in-Uint32 : goal.returns-in-Uint32
returns-in-Uint32 c = subst (λ t. IfOk c.ranged_type-in-Uint32.result (λ type. type ≡ single_type_of (kept_view c.args.kept) (built_in_view t) (row_by source_view c.args.below))) (sym c.in-Uint32.is) (c.ranged_type-in-Uint32.ensures _ c.uint32.ensures)

pub returns-in-Uint64 : goal.returns-in-Uint64
returns-in-Uint64 c = subst (λ t. IfOk c.ranged_type-in-Uint64.result (λ type. type ≡ single_type_of (kept_view c.args.kept) (built_in_view t) (row_by source_view c.args.below))) (sym c.in-Uint64.is) (c.ranged_type-in-Uint64.ensures _ c.uint64.ensures)

pub returns-in-Binary : goal.returns-in-Binary
returns-in-Binary c = subst (λ t. IfOk c.measured_type.result (λ type. type ≡ single_type_of (kept_view c.args.kept) (built_in_view t) (row_by source_view c.args.below))) (sym c.in-Binary.is) (c.measured_type.ensures _ c.binary.ensures)
