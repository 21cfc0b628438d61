use Rattle.std.proofs.Common.{◌≡◌, ◌++◌, sym, ap, ◌∙◌, append_assoc}
use Rattle.std.specs.List.{flat_map}
use Rattle.std.proofs.lemmas.Grind.{flat_map-append}
use Rattle.yspec.specs.Forest.{row}
use Rattle.ybase_preorder.specs.View.{row_by}
use Rattle.ybase_preorder.proofs.RowLemmas.{takes_by}
use Rattle.yschema_expand.specs.NumberedView.{with_number}
use Rattle.yschema_augment.specs.Hanging.{inner}
use Rattle.yschema_augment.specs.SearchView.{woken_by}
use Rattle.yschema_augment.proofs.AddingLemmas.{row_join}
use Rattle.yschema_augment.proofs.search.Search.wake_body.Goals as goal

pub loop-case-preserved : goal.loop-case-preserved
loop-case-preserved c =
    let woken = woken_by c.args.self.now c.args.target in
    let before = c.loop-case.case-iterator in
    let after = c.next.new.self in
    let below = row_by with_number c.in-Some.case.children in
    let rest = row_by with_number after in
    let so_far = c.loop-case.woken.items in
    let taken_first = takes_by with_number before after c.in-Some.case c.in-Some.ensures.steps in
    let one : c.wake_row-in-loop-case.new.woken.items ≡ so_far ++ flat_map woken (row below) = c.in_ok-wake_row-2.ensures
    ∙ ap (λ r. so_far ++ flat_map woken (row (row_by with_number r))) c.children.ensures in
    record {
      more = tt;
      ends = tt;
      so_far = ap (λ ws. ws ++ flat_map woken (row (inner rest))) one
          ∙ (append_assoc so_far (flat_map woken (row below)) (flat_map woken (row (inner rest)))
          ∙ (ap (λ ws. so_far ++ ws) (sym (flat_map-append woken (row below) (row (inner rest))) ∙ ap (flat_map woken) (sym (row_join below (inner rest))))
          ∙ (ap (λ f. so_far ++ flat_map woken (row (inner f))) (sym taken_first) ∙ c.loop-case.invariant.so_far)));
    }
