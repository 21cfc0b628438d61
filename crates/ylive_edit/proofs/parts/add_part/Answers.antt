use Rattle.yspec.specs.edit.Edit.{edit_at}
use Rattle.yspec.specs.edit.Editing.{with_branch}
use Rattle.yschema_model.specs.View as schema_view
use Rattle.ystore.specs.Views.{store_of}
use Rattle.ylive_edit.specs.Places.{branch_of}
use Rattle.ylive_edit.proofs.PartLemmas as part
use Rattle.ylive_edit.proofs.ReadLemmas.{fits_within, memory_within, refused_within}
use Rattle.ylive_edit.proofs.parts.add_part.Goals as goal

pub returns-in_err-hang_part-clause-amends : goal.returns-in_err-hang_part-clause-amends
returns-in_err-hang_part-clause-amends c = λ tree steps f at.
    part.wanting (schema_view.view c.args.schema.now) c.from_residual.result tree _ (store_of c.hang_part.new.counted) c.from_residual.ensures.1
    (c.in_err-hang_part.ensures.shows tree steps f at)

pub returns-in-true-clause-amends : goal.returns-in-true-clause-amends
returns-in-true-clause-amends c = λ tree steps f at.
    part.hung (schema_view.view c.args.schema.now) tree (edit_at steps (with_branch (branch_of c.args.part)) tree) (store_of c.hang_part.new.counted)
    c.in_ok-hang_part.field-0 c.in-true.is (c.in_ok-hang_part.ensures.hangs tree steps f at)

pub returns-in-false-clause-amends : goal.returns-in-false-clause-amends
returns-in-false-clause-amends c = λ tree steps f at.
    part.no_room (schema_view.view c.args.schema.now) tree (edit_at steps (with_branch (branch_of c.args.part)) tree) (store_of c.hang_part.new.counted)
    c.refused.result c.in_ok-hang_part.field-0 c.in-false.is c.refused.ensures (c.in_ok-hang_part.ensures.hangs tree steps f at)

pub returns-in_err-hang_part-clause-reads : goal.returns-in_err-hang_part-clause-reads
returns-in_err-hang_part-clause-reads c = λ tree steps f last at fits given. memory_within c.from_residual.result _ (store_of c.args.counted.now) (store_of c.hang_part.new.counted) c.from_residual.ensures.1

pub returns-in-true-clause-reads : goal.returns-in-true-clause-reads
returns-in-true-clause-reads c = λ tree steps f last at fits given.
    c.in_ok-hang_part.ensures.reads tree steps f last at fits (fits_within (schema_view.view c.args.schema.now) (edit_at steps (with_branch (branch_of c.args.part)) tree) given)

pub returns-in-false-clause-reads : goal.returns-in-false-clause-reads
returns-in-false-clause-reads c = λ tree steps f last at fits given.
    refused_within (Unit {0}) c.refused.result _ (store_of c.args.counted.now) (store_of c.hang_part.new.counted)
    (c.in_ok-hang_part.ensures.reads tree steps f last at fits (fits_within (schema_view.view c.args.schema.now) (edit_at steps (with_branch (branch_of c.args.part)) tree) given))
