use Rattle.std.proofs.Common.{option_map, sym, ap, ◌∙◌, rules}
use Rattle.std.proofs.lemmas.List.{map_push}
use Rattle.yinst_path.specs.EditView.{key_view, keys_view}
use Rattle.yinst_path.proofs.PathLemmas.{with_more, some_first, no_first, keys_cut, keys_end, keys_left}
use Rattle.yinst_path.proofs.paths.keys_of.Goals as goal

pub returns-in-None : goal.returns-in-None
returns-in-None c =
    let so_far = c.loop-part.invariant.0 in
    no_first (keys_view c.loop-part.keys.items) _ _ _ (ap (option_map key_view) (sym c.in-None.is) ∙ c.in_ok-key.ensures)
    (ap (with_more (keys_view c.loop-part.keys.items)) (sym (keys_cut c.loop-part.rest.now c.in-Some.part.now c.in-Some.more.now c.in-Some.ensures.sides)) ∙ so_far)

pub loop-part-preserved : goal.loop-part-preserved
loop-part-preserved c =
    let front = keys_view c.loop-part.keys.items in (
      some_first front _ _ _ _ _ (ap keys_view c.in_ok-push-in-Some-2.ensures.items ∙ map_push key_view c.loop-part.keys.items _)
          (ap (option_map key_view) (sym c.in-Some-2.is) ∙ c.in_ok-key.ensures)
          (ap (with_more front) (sym (keys_cut c.loop-part.rest.now c.in-Some.part.now c.in-Some.more.now c.in-Some.ensures.sides)) ∙ c.loop-part.invariant.0),
      search rules,
    )

pub returns-then-is_empty : goal.returns-then-is_empty
returns-then-is_empty c =
    keys_end (keys_view c.loop-part.keys.items) c.loop-part.rest.now _ c.in_default.ensures.sides c.if-is_empty.ensures c.loop-part.invariant.0

pub returns-else-is_empty : goal.returns-else-is_empty
returns-else-is_empty c =
    keys_left (keys_view c.loop-part.keys.items) c.loop-part.rest.now _ c.in_default.ensures.sides c.if-is_empty.ensures c.loop-part.invariant.0
