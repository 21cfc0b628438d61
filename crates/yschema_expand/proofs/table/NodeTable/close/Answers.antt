use Rattle.std.proofs.Common.{arith, refl, subst, ◌≤◌}
use Rattle.std.specs.Prelude.{vec_len}
use Rattle.std.proofs.lemmas.Option.{slice_get_read}
use Rattle.ybase_preorder.proofs.TableLemmas.{closed_row, closed_past, not_within}
use Rattle.yschema_expand.proofs.table.NodeTable.close.Goals as goal

pub returns-in-Some : goal.returns-in-Some
returns-in-Some c =
    let table = c.args.self.now.slots in
    closed_row table.items c.args.number _ c.in-Some.slot.now
    (slice_get_read table.items (vec_len table) c.args.number c.in-Some.slot.now (table.ok.0) (c.in-Some.ensures.variant.0 refl) c.in-Some.ensures.value)
    (omega arith)

pub returns-in_default : goal.returns-in_default
returns-in_default c =
    let table = c.args.self.now.slots in
    closed_past table.items c.args.number (subst (λ n. n ≤ c.args.number) table.ok.0 (not_within c.args.number (vec_len table) c.in_default.ensures.variant.1))
