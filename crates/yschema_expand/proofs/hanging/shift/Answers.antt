use Rattle.std.proofs.Common.{rules, ◌≡◌, ◌+◌, ◌≤◌, length, Some, refl, sym, ap, ◌∙◌, arith, subst}
use Rattle.ybase_preorder.proofs.TableLemmas.{not_within}
use Rattle.std.specs.Prelude.{vec_len}
use Rattle.std.proofs.lemmas.Option.{slice_get_read}
use Rattle.std.specs.Prelude.{slice_get}
use Rattle.yschema_expand.specs.Hanging.{moved, shifted_from}
use Rattle.yschema_expand.specs.TableView.{lying}
use Rattle.yschema_expand.proofs.ShiftLemmas.{one_shifted, none_shifted}
use Rattle.yschema_expand.proofs.hanging.shift.Goals.{in-Some, in_default}
use Rattle.yschema_expand.proofs.hanging.shift.Goals as goal

pub loop-number-preserved : goal.loop-number-preserved
loop-number-preserved c =
    let table = c.loop-number.slots in
    let slots = table.items in
    let n = c.loop-number.number in
    let change = moved c.args.from c.args.to in
    elim c.match-get_mut.branch [
      | in-Some w ↦
          let at : slice_get slots n ≡ Some w.in-Some.slot.now = slice_get_read slots (vec_len table) n w.in-Some.slot.now table.ok.0 (w.in-Some.ensures.variant.0 refl) w.in-Some.ensures.value in
          let long : length c.match-get_mut.slots.items ≡ length slots = search rules in
          record {
            long = long ∙ c.loop-number.invariant.long;
            so_far = ap (λ s. shifted_from (n + 1) change c.match-get_mut.left (lying s.items)) w.slots-is
                ∙ (one_shifted change n c.loop-number.left slots w.in-Some.slot.now w.shift_one-left.new.slot c.match-get_mut.left at w.shift_one-left.ensures.place (w.left-is ∙ w.shift_one-left.ensures.left)
                ∙ c.loop-number.invariant.so_far);
          }
      | in_default w ↦
          let past : length slots ≤ n = subst (λ m. m ≤ n) table.ok.0 (not_within n (vec_len table) w.in_default.ensures.variant.1) in
          record {
            long = search rules;
            so_far = ap (λ s. shifted_from (n + 1) change c.match-get_mut.left (lying s.items)) w.slots-is
                ∙ (none_shifted change (n + 1) c.match-get_mut.left slots (omega (arith, past))
                ∙ (sym (none_shifted change n c.loop-number.left slots past) ∙ c.loop-number.invariant.so_far));
          }
    ]

pub returns : goal.returns
returns c = record {
  shifted = let past : length c.loop-number.slots.items ≤ c.loop-number.number = search rules in
      sym (none_shifted (moved c.args.from c.args.to) c.loop-number.number c.loop-number.left c.loop-number.slots.items past) ∙ c.loop-number.invariant.so_far;
  len = c.loop-number.invariant.long;
}
