use Rattle.ystore_tree.proofs.OpenLemmas.{keeps_inserted, laid_sorted, hangs_on}
use Rattle.ystore_tree.proofs.RemoveLemmas.{given_back}
use Rattle.ystore_tree.proofs.laws.nodes_beside_trees.Goals as goal

pub returns : goal.returns
returns c =
    record {
      put_in = λ before after above id label below had has tree made keeps. keeps_inserted above id label below before after had has tree made keeps;
      given_back = given_back;
      left_behind = hangs_on;
      in_order = laid_sorted;
    }
