use Rattle.std.proofs.Common.{◌++◌, None, ap, ◌∙◌, subst}
use Rattle.yspec.specs.Forest.{end}
use Rattle.yschema_model.specs.View as schema_view
use Rattle.ystore.specs.Views.{store_of}
use Rattle.ystore_tree.proofs.OpenLemmas.{keeps_nothing}
use Rattle.ylive_facts.specs.Given.{given_view}
use Rattle.ylive_retell.specs.Growing.{AreThere}
use Rattle.ylive_retell.specs.Standing.{defaults_in_row}
use Rattle.ylive_retell.proofs.BeginLemmas.{keeps_begun, told_begun}
use Rattle.ylive_retell.proofs.FewLemmas.{few_rows_of}
use Rattle.ylive_retell.proofs.beginning.begin.Goals as goal

pub returns-clause-told : goal.returns-clause-told
returns-clause-told c empty =
    let s = schema_view.view c.args.schema.now in
    let start = store_of c.args.counted.now in
    let ready = store_of c.await_values.new.counted in
    let hangs = (keeps_nothing start empty.top empty.count).hangs in
    let enters = c.in_ok-absences.ensures.row end hangs in
    told_begun s start (store_of c.enter_row.new.counted) ready (store_of c.add_all.new.counted) (store_of c.tell_play.new.counted) empty c.enter_row.ensures.kept
    c.await_values.ensures.grows c.add_all.ensures.kept c.in_ok-absences.absences.items c.tell_play.ensures.told c.enter_row.new.account.values.items
    (enters.values_behind ∙ ap (λ vs. given_view vs ++ defaults_in_row s None end) c.new-account.ensures.values)
    (c.in_ok-absences.ensures.absences end hangs) c.in_ok-ask_few_defaults.ensures (few_rows_of c.args.schema.now)
    (subst (AreThere ready) c.deref.ensures.value c.in_ok-await_values.ensures.there) c.add_all.ensures.follows c.add_all.ensures.instances c.tell_play.ensures.totals

pub returns-clause-keeps : goal.returns-clause-keeps
returns-clause-keeps c empty =
    keeps_begun (schema_view.view c.args.schema.now) (store_of c.args.counted.now) (store_of c.enter_row.new.counted) (store_of c.await_values.new.counted)
    (store_of c.add_all.new.counted) (store_of c.tell_play.new.counted) empty c.enter_row.ensures.kept c.await_values.ensures.grows c.add_all.ensures.kept
    c.in_ok-absences.absences.items c.tell_play.ensures.told
