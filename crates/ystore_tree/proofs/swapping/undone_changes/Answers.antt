use Rattle.ystore_tree.proofs.SwapLemmas.{undone, room_back}
use Rattle.ystore_tree.proofs.swapping.undone_changes.Goals as goal

pub returns-clause-undone : goal.returns-clause-undone
returns-clause-undone c swap way f loose g left before changed read after at swaps sorted keeps first reads second =
    undone swap.above way at f loose g left swap.schema swap.change swaps before changed read keeps first reads after sorted second

pub returns-clause-room : goal.returns-clause-room
returns-clause-room c swap way f loose g left before changed read at swaps keeps room first reads =
    room_back swap.above way at f loose g left swap.schema swap.change swaps before changed read keeps first reads room
