use Rattle.std.proofs.Common.{◌∙◌, ◌≤◌, arith, sym, refl, subst}
use Rattle.std.proofs.lemmas.Result.{on_ok_weaker}
use Rattle.std.specs.Prelude.{vec_len}
use Rattle.std.proofs.lemmas.Option.{slice_get_read}
use Rattle.ybase_preorder.specs.Layout.{laid, seen}
use Rattle.ybase_preorder.proofs.LayoutLemmas.{length-laid, length-seen}
use Rattle.ybase_preorder.proofs.TableLemmas.{not_within}
use Rattle.yschema_expand.specs.NodeView.{numbered_part}
use Rattle.yschema_cut.specs.Defaults.{without_default_part}
use Rattle.yschema_expand.proofs.TableLemmas.{changed_slot, changed_past}
use Rattle.yschema_cut.proofs.nodes.lose_default_at.Goals as goal

pub returns-in-Some : goal.returns-in-Some
returns-in-Some c =
    let slots = c.args.slots.now in
    on_ok_weaker c.lose_default.result (λ e. changed_slot 0 c.args.number slots.items c.in-Some.slot.now c.lose_default.new.node without_default_part
    (slice_get_read slots.items (vec_len slots) c.args.number c.in-Some.slot.now slots.ok.0 (c.in-Some.ensures.variant.0 refl) c.in-Some.ensures.value) e)
    c.lose_default.ensures

pub returns-in-None : goal.returns-in-None
returns-in-None c =
    let slots = c.args.slots.now in
    let past = subst (λ n. n ≤ c.args.number) slots.ok.0 (not_within c.args.number (vec_len slots) c.in-None.ensures.variant.1) in
    let count = length-seen numbered_part 0 (laid slots.items) ∙ length-laid slots.items in
    sym (changed_past c.args.number without_default_part (seen numbered_part 0 (laid slots.items)) (omega (arith, past, count)))
