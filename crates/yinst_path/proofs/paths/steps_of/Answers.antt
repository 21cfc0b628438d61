use Rattle.std.proofs.Common.{Some, [], option_map, sym, ap, ◌∙◌, rules}
use Rattle.std.proofs.lemmas.List.{map_push}
use Rattle.yspec.specs.text.Text.{slash}
use Rattle.yspec.specs.edit.EditText.{step_of}
use Rattle.yinst_path.specs.EditView.{step_view, steps_view}
use Rattle.yinst_path.proofs.PathLemmas.{with_more, some_first, no_first, last_item, each_cut, each_uncut}
use Rattle.yinst_path.proofs.paths.steps_of.Goals as goal

pub returns-in-None : goal.returns-in-None
returns-in-None c =
    let front = steps_view c.loop-part.steps.items in
    no_first front _ _ _ (ap (option_map step_view) (sym c.in-None.is) ∙ c.in_ok-step.ensures)
    (ap (with_more front) (sym (each_cut step_of slash c.loop-part.rest.now c.in-Some.part.now c.in-Some.more.now c.in-Some.ensures.sides)) ∙ c.loop-part.invariant.0)

pub loop-part-preserved : goal.loop-part-preserved
loop-part-preserved c =
    let front = steps_view c.loop-part.steps.items in (
      some_first front _ _ _ _ _ (ap steps_view c.in_ok-push-in-Some-2.ensures.items ∙ map_push step_view c.loop-part.steps.items _)
          (ap (option_map step_view) (sym c.in-Some-2.is) ∙ c.in_ok-step.ensures)
          (ap (with_more front) (sym (each_cut step_of slash c.loop-part.rest.now c.in-Some.part.now c.in-Some.more.now c.in-Some.ensures.sides)) ∙ c.loop-part.invariant.0),
      search rules,
    )

pub returns-in_ok-push-in-Some-3 : goal.returns-in_ok-push-in-Some-3
returns-in_ok-push-in-Some-3 c =
    let front = steps_view c.loop-part.steps.items in
    last_item front _ _ _ _ (ap steps_view c.in_ok-push-in-Some-3.ensures.items ∙ map_push step_view c.loop-part.steps.items _)
    (ap (option_map step_view) (sym c.in-Some-3.is) ∙ c.in_ok-step-2.ensures)
    (ap (with_more front) (sym (each_uncut step_of slash c.loop-part.rest.now c.in_default.ensures.sides)) ∙ c.loop-part.invariant.0)

pub returns-in-None-2 : goal.returns-in-None-2
returns-in-None-2 c =
    let front = steps_view c.loop-part.steps.items in
    no_first front _ (Some []) _ (ap (option_map step_view) (sym c.in-None-2.is) ∙ c.in_ok-step-2.ensures)
    (ap (with_more front) (sym (each_uncut step_of slash c.loop-part.rest.now c.in_default.ensures.sides)) ∙ c.loop-part.invariant.0)
