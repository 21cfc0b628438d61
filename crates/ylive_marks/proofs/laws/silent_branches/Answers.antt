use Rattle.yspec.specs.Forest.{end, node}
use Rattle.ylive_marks.proofs.LawLemmas.{silent, added_silent, root_silent, silent_document, silent_kept}
use Rattle.ylive_marks.proofs.laws.silent_branches.Goals as goal

pub returns : goal.returns
returns c =
    record {
      totals = λ nodes f nothing. (silent nodes f nothing).1;
      document = silent_document;
      kept = silent_kept;
      added = λ before after way f n below all tree nothing few same. added_silent before after way f n below all tree (silent after (node n below end) nothing).1 (root_silent after n below nothing) few same;
    }
