-- An edit of a document in a store stays within its reach.
use Rattle.std.proofs.Common.{◌≡◌, ℕ, ◌+◌, ◌*◌, ◌≤◌, arith}
use Rattle.std.specs.Prelude.{Result, Ok, Err}
use Rattle.std.specs.Option.{option_map_or}
use Rattle.std.specs.Result.{result_ok}
use Rattle.yspec.specs.Forest as forest
use Rattle.yspec.specs.schema.Schema.{Schema}
use Rattle.yspec.specs.document.Document.{Tree}
use Rattle.yspec.specs.edit.EditText.{Edit}
use Rattle.yspec.specs.edit.Editing.{EditRefusal}
use Rattle.yspec_reach.specs.Parts.{Exchange, exchange_of}
use Rattle.yspec_reach.specs.Reach.{change_size, reach}
use Rattle.yspec_reach.specs.Shared.{value_pairs}
use Rattle.yspec_reach.specs.Sizes.{breadth, levels, most_defaults, part_size}
use Rattle.yinst_path.specs.declared.edit.EditFault.{EditFault}
use Rattle.yinst_path.specs.declared.edit.EditFault.TheVariants as faults
use Rattle.ystore.specs.Store.{CountsOne, reads}
use Rattle.ystore.specs.declared.nodes.Nodes.{Nodes}
use Rattle.ylive_edit.specs.Reads.{ReadsWithin, parts_reads}

accepted_sum : (deep most old new values others wide : ℕ) → 2 * deep + 4 + (4 * old + (deep + most + 2) * (8 * (old + (new + values)) + (16 * wide + 3))) + 2
    ≤ 16 * (deep + most + 2) * ((old + (new + (values + others))) + wide + 1)
accepted_sum deep most old new values others wide = omega arith

refused_sum : (deep most wide : ℕ) → 2 * deep + 4 + 0 + 2 ≤ 16 * (deep + most + 2) * (0 + wide + 1)
refused_sum deep most wide = omega arith

within_reach : (s : Schema) (tree : Tree) (e : Edit) → 2 * forest.levels s.nodes + 4 + parts_reads s tree (exchange_of s tree e) + 2 ≤ reach s tree e
unfolding reach
within_reach s tree e = by (exchange_of s tree e)
  where
    by : (parts : Result Exchange EditRefusal) → 2 * forest.levels s.nodes + 4 + parts_reads s tree parts + 2
        ≤ 16 * (levels s + 2) * (option_map_or (change_size s tree) (result_ok parts) 0 + breadth s + 1)
    by (Ok x) = accepted_sum (forest.levels s.nodes) (most_defaults s.nodes) (part_size s x.old) (part_size s x.new) (value_pairs s x tree) _ (breadth s)
    by (Err refusal) = refused_sum (forest.levels s.nodes) (most_defaults s.nodes) (breadth s)

spent : (first read amended k l : ℕ) → read ≡ first + 1 → amended ≤ read + k → k + 2 ≤ l → amended + 1 ≤ first + l
spent first read amended k l one few more = omega (arith, one, few, more)

-- with the number of faults before and after it
pub reads_in : (s : Schema) (tree : Tree) (e : Edit) (first read amended last : Nodes) → CountsOne first read → CountsOne amended last
    → reads amended ≤ reads read + (2 * forest.levels s.nodes + 4 + parts_reads s tree (exchange_of s tree e)) → reads last ≤ reads first + reach s tree e
reads_in s tree e first read amended last one again few =
    let all = spent (reads first) (reads read) (reads amended) _ (reach s tree e) one.counted few (within_reach s tree e) in
    let more = again.counted in
    omega (arith, all, more)

pub reads_not : (X Y : Type 0) (s : Schema) (tree : Tree) (e : Edit) (first read amended : Nodes) (fault : EditFault) → CountsOne first read
    → ReadsWithin {X = X} (2 * forest.levels s.nodes + 4 + parts_reads s tree (exchange_of s tree e)) read amended (Err fault)
    → ReadsWithin {X = Y} (reach s tree e) first amended (Err fault)
reads_not X Y s tree e first read amended (faults.Refused code doc) one few =
    let all = spent (reads first) (reads read) (reads amended) _ (reach s tree e) one.counted few (within_reach s tree e) in omega (arith, all)
reads_not X Y s tree e first read amended faults.Memory one few = tt
