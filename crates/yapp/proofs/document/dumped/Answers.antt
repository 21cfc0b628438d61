use Rattle.std.proofs.Common.{List, ℕ, ◌++◌, codes, ap, ◌∙◌}
use Rattle.yspec.proofs.DocumentProofs.SortingLemmas.{in_order}
use Rattle.yapp.specs.Edited.{schema_of, tree_of}
use Rattle.yapp.proofs.document.dumped.Goals as goal

pub returns : goal.returns
returns c = c.in_ok-push_str.ensures.bytes ∙ ap (λ (t : List ℕ). t ++ codes "\n")
    (c.in_ok-text.ensures.text (in_order (schema_of c.args.document.now) (tree_of c.args.document.now) c.requires.fits))
