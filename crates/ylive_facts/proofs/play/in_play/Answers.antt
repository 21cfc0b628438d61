use Rattle.yschema_model.specs.Layout.{number_of}
use Rattle.yschema_model.specs.View.{view, row_view}
use Rattle.ystore.specs.Views.{store_of}
use Rattle.ylive_facts.proofs.CaseLemmas.{row_read}
use Rattle.ylive_facts.proofs.PlayLemmas.{row_found}
use Rattle.ylive_facts.proofs.play.in_play.Goals as goal

pub returns-clause-absences : goal.returns-clause-absences
returns-clause-absences c f hangs =
    (row_found (view c.args.schema.now) (store_of c.args.counted.now) c.args.row f (number_of c.args.above) (row_view c.row_at-children.result) c.new-found.result c.add_row.new.found hangs
    c.row_at-children.ensures c.new-found.ensures.absences c.new-found.ensures.defaults c.in_ok-add_row.ensures.finds).0

pub returns-clause-defaults : goal.returns-clause-defaults
returns-clause-defaults c f hangs =
    (row_found (view c.args.schema.now) (store_of c.args.counted.now) c.args.row f (number_of c.args.above) (row_view c.row_at-children.result) c.new-found.result c.add_row.new.found hangs
    c.row_at-children.ensures c.new-found.ensures.absences c.new-found.ensures.defaults c.in_ok-add_row.ensures.finds).1

pub returns-clause-reads : goal.returns-clause-reads
returns-clause-reads c =
    row_read (view c.args.schema.now) (number_of c.args.above) (row_view c.row_at-children.result) _ _ c.args.schema.now.fit c.row_at-children.ensures c.in_ok-add_row.ensures.reads

pub returns-in_err-add_row-clause-reads : goal.returns-in_err-add_row-clause-reads
returns-in_err-add_row-clause-reads c =
    row_read (view c.args.schema.now) (number_of c.args.above) (row_view c.row_at-children.result) _ _ c.args.schema.now.fit c.row_at-children.ensures c.in_err-add_row.ensures.reads
