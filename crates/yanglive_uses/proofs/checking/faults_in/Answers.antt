use Rattle.std.proofs.Common.{Ok, ap, sym, ◌∙◌}
use Rattle.yspec.specs.Results.{◌>>=◌}
use Rattle.yspec.specs.document.Faults.{faults_of}
use Rattle.yspec.specs.document.Reading.{document_of}
use Rattle.yspec.proofs.DocumentProofs.SortingLemmas.{in_order}
use Rattle.yschema.specs.View as schema_view
use Rattle.yinst.specs.Told.{told_by}
use Rattle.yinst.specs.View.{tree_view}
use Rattle.yanglive_uses.proofs.CompilingLemmas.{still_refused}
use Rattle.yanglive_uses.proofs.checking.faults_in.Goals as goal

pub returns-in-Ok-faults : goal.returns-in-Ok-faults
returns-in-Ok-faults c =
    let s = schema_view.view c.args.schema.now in
    ap (λ r. r >>= (λ tree. Ok (faults_of s tree))) c.in-Ok.ensures.answer
    ∙ sym (ap Ok (c.in-Ok-faults.ensures (in_order s (tree_view c.in-Ok.tree) c.in-Ok.ensures.fitting)))

pub returns : goal.returns
returns c =
    let s = schema_view.view c.args.schema.now in
    still_refused (told_by c.in-Err.fault) (document_of s c.args.document.now) (λ tree. Ok (faults_of s tree)) c.in-Err.ensures.answer
