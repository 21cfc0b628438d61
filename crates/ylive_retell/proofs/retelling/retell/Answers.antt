use Rattle.std.proofs.Common.{◌∙◌, None, ap, sym}
use Rattle.yschema_model.specs.View as schema_view
use Rattle.ystore.specs.Store.{play_at}
use Rattle.ystore.specs.Views.{store_of}
use Rattle.ystore_tree.specs.Hanging.{tree_of}
use Rattle.ystore_tree.specs.Ways.{around, end_of}
use Rattle.ystore_rows.specs.declared.row.Row.{Row}
use Rattle.ystore_rows.specs.declared.row.Row.TheVariants.{Top}
use Rattle.ylive_facts.specs.InPlay.{absence_views}
use Rattle.ylive_marks.proofs.AgreeLemmas.{entries_keys, keys_on}
use Rattle.ylive_retell.specs.Plans.{row_schema}
use Rattle.ylive_retell.specs.Standing.{standing}
use Rattle.ylive_retell.proofs.GrownLemmas.{grown_keeps, grown_keys, grown_ready}
use Rattle.ylive_retell.proofs.PlanLemmas.{keeps_read, ready_read}
use Rattle.ylive_retell.proofs.StillLemmas.{fresh_still, on_err, told_still}
use Rattle.ylive_retell.proofs.FewLemmas.{few_rows_of}
use Rattle.ylive_retell.proofs.TurnedLemmas.{play_there}
use Rattle.ylive_retell.proofs.WithinLemmas.{play_few, retold_within}
use Rattle.ylive_retell.proofs.retelling.retell.Goals as goal

pub returns-in_err-plan-clause-told_still : goal.returns-in_err-plan-clause-told_still
returns-in_err-plan-clause-told_still c =
    let start = store_of c.args.counted.now in
    let planned = store_of c.plan_of.new.counted in
    on_err c.from_residual.result (λ s f is. told_still start planned c.plan_of.ensures.kept.held (entries_keys start planned c.plan_of.ensures.kept.entries) s f is)

pub returns-in_err-plan-clause-keeps_still : goal.returns-in_err-plan-clause-keeps_still
returns-in_err-plan-clause-keeps_still c =
    on_err c.from_residual.result (λ tree above loose. keeps_read (store_of c.args.counted.now) (store_of c.plan_of.new.counted) tree above loose c.plan_of.ensures.kept)

pub returns-in_err-grow-clause-told_still : goal.returns-in_err-grow-clause-told_still
returns-in_err-grow-clause-told_still c =
    let start = store_of c.args.counted.now in
    let planned = store_of c.plan_of.new.counted in
    let grown = store_of c.grow.new.counted in
    on_err c.from_residual-in_err-grow.result
    (λ s f is. told_still start grown (λ row. c.grow.ensures.grows.held row ∙ c.plan_of.ensures.kept.held row)
    (keys_on start planned grown (entries_keys start planned c.plan_of.ensures.kept.entries) (grown_keys planned grown c.grow.ensures.grows)) s f is)

pub returns-in_err-grow-clause-keeps_still : goal.returns-in_err-grow-clause-keeps_still
returns-in_err-grow-clause-keeps_still c =
    let planned = store_of c.plan_of.new.counted in
    on_err c.from_residual-in_err-grow.result
    (λ tree above loose keeps. grown_keeps planned (store_of c.grow.new.counted) c.grow.ensures.grows tree above loose
    (keeps_read (store_of c.args.counted.now) planned tree above loose c.plan_of.ensures.kept keeps))

pub change-requires-clause-ready : goal.change-requires-clause-ready
change-requires-clause-ready c =
    let planned = store_of c.plan_of.new.counted in
    grown_ready planned (store_of c.grow.new.counted) c.grow.ensures.grows c.args.swap
    (ready_read c.args.swap (store_of c.args.counted.now) planned c.plan_of.ensures.kept c.requires.ready)

pub returns-clause-told : goal.returns-clause-told
returns-clause-told c p is fresh size_new =
    let start = store_of c.args.counted.now in
    let planned = store_of c.plan_of.new.counted in
    let grown = store_of c.grow.new.counted in
    let s = schema_view.view c.args.schema.now in
    let same = keys_on start planned grown (entries_keys start planned c.plan_of.ensures.kept.entries) (grown_keys planned grown c.grow.ensures.grows) in
    c.change.ensures.told s (grown_ready planned grown c.grow.ensures.grows c.args.swap (ready_read c.args.swap start planned c.plan_of.ensures.kept p.ready)) p.are_old
    (told_still start grown (λ row. c.grow.ensures.grows.held row ∙ c.plan_of.ensures.kept.held row) same s _ is)
    (fresh_still start grown (λ row. c.grow.ensures.grows.held row ∙ c.plan_of.ensures.kept.held row) same s (standing (end_of Top p.ready.way) p.ready.loose) fresh)
    (c.in_ok-plan.ensures.plan p (ap (λ row. absence_views (play_at start row)) (sym p.ready.at) ∙ play_there s start p.ready.way p.ready.f is)) c.in_ok-grow.ensures.there size_new (few_rows_of c.args.schema.now)

pub returns-clause-keeps : goal.returns-clause-keeps
returns-clause-keeps c p =
    let planned = store_of c.plan_of.new.counted in
    c.change.ensures.keeps
    (grown_ready planned (store_of c.grow.new.counted) c.grow.ensures.grows c.args.swap (ready_read c.args.swap (store_of c.args.counted.now) planned c.plan_of.ensures.kept p.ready))
    p.are_old

pub returns-clause-reads : goal.returns-clause-reads
returns-clause-reads c p is fresh size_new narrow =
    let start = store_of c.args.counted.now in
    let planned = store_of c.plan_of.new.counted in
    let grown = store_of c.grow.new.counted in
    let s = schema_view.view c.args.schema.now in
    let r = p.ready in
    let still = λ (row : Row). c.grow.ensures.grows.held row ∙ c.plan_of.ensures.kept.held row in
    let same = keys_on start planned grown (entries_keys start planned c.plan_of.ensures.kept.entries) (grown_keys planned grown c.grow.ensures.grows) in
    let play = ap (λ row. absence_views (play_at start row)) (sym r.at) ∙ play_there s start r.way r.f is in
    let plans = c.in_ok-plan.ensures.plan p play in
    let told = told_still start grown still same s (around r.way r.f) is in
    let ready = grown_ready planned grown c.grow.ensures.grows c.args.swap (ready_read c.args.swap start planned c.plan_of.ensures.kept r) in
    retold_within s r.way r.f r.loose r.g r.left c.args.swap.schema c.args.swap.change r.swaps _ plans grown r.keeps.once told narrow _ _ _ _ _
    (play_few s start c.args.swap.above (row_schema None r.way) (tree_of r.f) play) (c.in_ok-plan.ensures.reads p) c.grow.ensures.grows.reads
    (c.change.ensures.reads s ready p.are_old told (fresh_still start grown still same s (standing (end_of Top r.way) r.loose) fresh) plans c.in_ok-grow.ensures.there size_new (few_rows_of c.args.schema.now))
