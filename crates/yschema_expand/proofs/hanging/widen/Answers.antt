use Rattle.std.proofs.Common.{rules, ◌≡◌, ℕ, ◌+◌, ◌-◌, ◌≤◌, length, Some, refl, sym, ap, ◌∙◌, arith, subst}
use Rattle.ybase_preorder.proofs.TableLemmas.{not_within}
use Rattle.std.specs.Prelude.{vec_len}
use Rattle.std.proofs.lemmas.Option.{slice_get_read}
use Rattle.std.specs.Prelude.{slice_get}
use Rattle.yspec.specs.linking.Parts.{Part}
use Rattle.ybase_preorder.specs.Layout.{Place}
use Rattle.ybase_preorder.specs.declared.slot.Slot.{Slot}
use Rattle.yschema_expand.specs.declared.nodes.ExpandedNode.{ExpandedNode}
use Rattle.yschema_expand.specs.Hanging.{widened}
use Rattle.yschema_expand.specs.TableView.{lying, lying_slot}
use Rattle.yschema_expand.proofs.ShiftLemmas.{one_widened, none_widened}
use Rattle.yschema_expand.proofs.hanging.widen.Goals.{in-Some, in_default}
use Rattle.yschema_expand.proofs.hanging.widen.Goals as goal

abbrev with_below : Slot ExpandedNode → ℕ → Slot ExpandedNode
with_below r below = record { parent = r.parent; label = r.label; below = below }

pub loop-number-preserved : goal.loop-number-preserved
loop-number-preserved c =
    let table = c.loop-number.slots in
    let slots = table.items in
    let n = c.loop-number.number in
    let count = c.args.count in
    let target = c.args.target in
    let within : n ≤ target = search rules in
    elim c.match-get_mut.branch [
      | in-Some w ↦
          let r = w.in-Some.slot.now in
          let at : slice_get slots n ≡ Some r = slice_get_read slots (vec_len table) n r table.ok.0 (w.in-Some.ensures.variant.0 refl) w.in-Some.ensures.value in
          let long : length c.match-get_mut.slots.items ≡ length slots = search rules in
          let part : Part = (lying_slot r).label in
          let place : ℕ → Place Part = (λ b. record { parent = r.parent; label = part; below = b }) in
          record {
            long = long ∙ c.loop-number.invariant.long;
            so_far = ap (λ s. widened count (n + 1) ((target + 1) - (n + 1)) (lying s.items)) w.slots-is
                ∙ (one_widened count target n slots r (with_below r w.wider-slot.result) within at (ap place w.wider-slot.ensures)
                ∙ c.loop-number.invariant.so_far);
          }
      | in_default w ↦
          let past : length slots ≤ n = subst (λ m. m ≤ n) table.ok.0 (not_within n (vec_len table) w.in_default.ensures.variant.1) in
          record {
            long = search rules;
            so_far = ap (λ s. widened count (n + 1) ((target + 1) - (n + 1)) (lying s.items)) w.slots-is
                ∙ (none_widened count (n + 1) ((target + 1) - (n + 1)) slots (omega (arith, past))
                ∙ (sym (none_widened count n ((target + 1) - n) slots past) ∙ c.loop-number.invariant.so_far));
          }
    ]

pub returns : goal.returns
returns c = record {
  widened = let none : (c.args.target + 1) - c.loop-number.number ≡ 0 = search rules in
      sym (ap (λ m. widened c.args.count c.loop-number.number m (lying c.loop-number.slots.items)) none) ∙ c.loop-number.invariant.so_far;
  len = c.loop-number.invariant.long;
}
