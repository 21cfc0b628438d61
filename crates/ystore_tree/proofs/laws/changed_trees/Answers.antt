use Rattle.ystore_tree.proofs.ChangeLemmas as change
use Rattle.ystore_tree.proofs.laws.changed_trees.Goals as goal

pub returns : goal.returns
returns c =
    record {
      added = change.added;
      put = λ before after way first rest m under n below keeps same changes. change.put before after way first rest m under n below keeps same changes;
      taken = λ before after way first rest m under keeps changes. change.taken before after way first rest m under keeps changes;
      moved = λ before after way first rest m under place loose keeps changes. change.moved before after way first rest m under place loose keeps changes;
    }
