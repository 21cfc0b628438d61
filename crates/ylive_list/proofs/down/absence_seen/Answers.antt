use Rattle.std.proofs.Common.{◌++◌, ◌∙◌, Some, ap, arith, drop, map, option_map}
use Rattle.yschema_model.specs.Layout.{number_of}
use Rattle.yschema_model.specs.View as schema_view
use Rattle.yinst_tree.specs.View.{place_view}
use Rattle.ycheck.specs.View.{code_view, tag_name}
use Rattle.yspec_play.specs.Merging.{info_at, steps_down, to_node}
use Rattle.ylive_list.specs.Listed.{data_way}
use Rattle.ycheck.specs.View.{lent_info_view}
use Rattle.ylive_list.specs.Seen.{steps_in}
use Rattle.ylive_list.proofs.DownLemmas.{down_is, few_above, told_down}
use Rattle.ylive_list.proofs.down.absence_seen.Goals as goal

pub enter_way-requires : goal.enter_way-requires
enter_way-requires c = omega (arith, few_above c.args.schema.now (Some c.args.absence.1.0), c.requires)

pub returns : goal.returns
returns c =
    let schema = schema_view.view c.args.schema.now in
    let above = number_of c.args.above in
    let number = c.args.absence.1.0 in
    let place = place_view (steps_in c.args.place) in
    told_down (code_view c.args.absence.0) (tag_name c.tag.result) (option_map (λ t. t.now) c.app_tag.result) place (place_view (steps_in c.enter_way.new.place))
    (steps_down schema above number) (lent_info_view c.info_of.result) (info_at schema number) c.tag.ensures c.app_tag.ensures
    (c.enter_way.ensures.steps ∙ ap (λ xs. place ++ xs)
    (ap (λ k. drop k (map to_node (data_way schema (Some number)))) c.data_depth.ensures ∙ down_is schema above number))
    c.info_of.ensures
