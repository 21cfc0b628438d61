use Rattle.ystore_tree.proofs.FrameLemmas.{told_same, total_same, room_same, entry_same, stays_same, read_same}
use Rattle.ystore_tree.proofs.laws.kept_shapes.Goals as goal

pub returns : goal.returns
returns c =
    record { told = told_same; total = total_same; room = room_same; entries = entry_same; growth = stays_same; reads = read_same }
