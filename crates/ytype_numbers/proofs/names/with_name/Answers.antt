use Rattle.std.proofs.Common.{Some, string_bytes, sym, subst}
use Rattle.std.proofs.lemmas.Int.{to_z-of_z}
use Rattle.std.proofs.lemmas.Map.Text.{btree_map_updates_text}
use Rattle.std.specs.Int.{w64}
use Rattle.ytype_numbers.specs.Tables.{HasMore}
use Rattle.ytype_numbers.proofs.names.with_name.Goals as goal

pub returns-in_ok-insert-in-Some : goal.returns-in_ok-insert-in-Some
returns-in_ok-insert-in-Some c =
    subst (λ before. HasMore before (Some c.insert.new.self) c.args.name.now c.args.number) (sym c.in-Some.is)
    (λ text. rw (c.in_ok-from_str-in-Some.ensures.ok, to_z-of_z w64 c.args.number c.ranges.number) at (btree_map_updates_text (string_bytes c.in_ok-from_str-in-Some.field-0) c.in-Some.table c.insert.new.self _ c.in_ok-insert-in-Some.ensures.updates text))
