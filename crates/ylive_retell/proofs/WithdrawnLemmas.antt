-- Nodes leave their keys, then instances come, then others go.
use Rattle.std.proofs.Common.{◌≡◌, ◌+◌, ◌-◌, ◌^◌, ◌*◌, ◌≤◌, List, length, ap, ◌∙◌, arith}
use Rattle.yspec.specs.types.Types.{Val}
use Rattle.yschema_model.specs.declared.node.SchemaId.{SchemaId}
use Rattle.ystore.specs.Store.{instances_at, reads, same_key}
use Rattle.ystore_rows.specs.declared.row.NodeId.{NodeId}
use Rattle.ystore.specs.declared.key.Key as rust
use Rattle.ystore.specs.declared.key.Key.TheVariants.{Value}
use Rattle.ystore.specs.declared.nodes.Nodes.{Nodes}
use Rattle.ystore_tree.specs.Hanging.{Branches}
use Rattle.ylive_marks.specs.Keys.{Agrees, Keys, slot_of, two_climbs}
use Rattle.ylive_marks.specs.Totals.{IsTree, Totals}
use Rattle.ylive_retell.specs.Assigned.{CanLeave, left}
use Rattle.ylive_retell.specs.Growing.{AreThere, IsThere, times_valued}
use Rattle.ylive_retell.specs.Joins.{Follows, KeepsRows, KeepsInstances, KeepsThere}
use Rattle.ylive_marks.proofs.AgreeLemmas.{holders_counted}
use Rattle.ylive_retell.specs.Reads.{holder_count, holding, lastly_judged, newly_judged, values_reads, withdraw_reads}
use Rattle.ylive_retell.proofs.JudgedLemmas.{same_lastly, same_newly}
use Rattle.ylive_retell.proofs.JoiningLemmas.{follows_on, shapes_of, tree_on}
use Rattle.ylive_retell.proofs.UnlikeLemmas.{every_map}

module _ (s0 s1 s2 s3 : Nodes) (leaves : List (rust.Key × NodeId)) (comes goes : List (SchemaId × Val))
    (leave_follows : (held : Keys) (f : Branches) → IsTree s0 f → Agrees s0 held f → Totals s0 f → CanLeave slot_of same_key held leaves
    → Follows (left slot_of leaves held) f s0 s1)
    (leave_kept : KeepsRows s0 s1) (leave_instances : KeepsInstances s0 s1) (leave_there : KeepsThere s0 s1)
    (add_follows : (held : Keys) (f : Branches) → IsTree s1 f → Agrees s1 held f → Totals s1 f → Follows held f s1 s2)
    (add_instances : AreThere s1 comes → ((key : rust.Key) → instances_at s1 key + times_valued key comes ≤ 2 ^ 64 - 1)
    → (key : rust.Key) → instances_at s2 key ≡ instances_at s1 key + times_valued key comes)
    (add_kept : KeepsRows s1 s2)
    (take_follows : (held : Keys) (f : Branches) → IsTree s2 f → Agrees s2 held f → Totals s2 f
    → ((key : rust.Key) → times_valued key goes ≤ instances_at s2 key) → Follows held f s2 s3)
    (take_instances : ((key : rust.Key) → times_valued key goes ≤ instances_at s2 key)
    → (key : rust.Key) → instances_at s3 key + times_valued key goes ≡ instances_at s2 key)
    (there : AreThere s0 comes) (most : (key : rust.Key) → instances_at s0 key + times_valued key comes ≤ 2 ^ 64 - 1)
    (few : (key : rust.Key) → times_valued key goes ≤ instances_at s0 key + times_valued key comes) where
  there_then : AreThere s1 comes
  there_then = every_map (IsThere s0) (IsThere s1) (λ p here. leave_there (Value p.0 p.1) here) comes there

  added : (key : rust.Key) → instances_at s2 key ≡ instances_at s0 key + times_valued key comes
  added key =
      let same = leave_instances key in
      let more = add_instances there_then (λ k. let was = leave_instances k in let bound = most k in omega (arith, was, bound)) key in
      omega (arith, same, more)

  enough : (key : rust.Key) → times_valued key goes ≤ instances_at s2 key
  enough key = let now = added key in let less = few key in omega (arith, now, less)

  pub withdrawn_instances : (key : rust.Key) → instances_at s3 key + times_valued key goes ≡ instances_at s0 key + times_valued key comes
  withdrawn_instances key = take_instances enough key ∙ added key

  pub withdrawn_follows : (held : Keys) (f : Branches) → IsTree s0 f → Agrees s0 held f → Totals s0 f → CanLeave slot_of same_key held leaves
      → Follows (left slot_of leaves held) f s0 s3
  withdrawn_follows held f tree agrees totals can =
      let now = left slot_of leaves held in
      let first = leave_follows held f tree agrees totals can in
      let tree_then = tree_on s0 s1 f (shapes_of s0 s1 leave_kept) tree in
      let second = add_follows now f tree_then first.agrees first.totals in
      let tree_last = tree_on s1 s2 f (shapes_of s1 s2 add_kept) tree_then in
      let third = take_follows now f tree_last second.agrees second.totals enough in
      follows_on now now f s0 s2 s3 (follows_on now now f s0 s1 s2 first second) third

  -- what is read meanwhile
  pub withdrawn_reads : ((held : Keys) (f : Branches) → IsTree s0 f → Agrees s0 held f → Totals s0 f → CanLeave slot_of same_key held leaves
      → reads s1 ≤ reads s0 + length leaves * two_climbs f)
      → ((held : Keys) (f : Branches) → IsTree s1 f → Agrees s1 held f → Totals s1 f → AreThere s1 comes
      → ((key : rust.Key) → instances_at s1 key + times_valued key comes ≤ 2 ^ 64 - 1)
      → reads s2 ≤ reads s1 + values_reads (newly_judged (instances_at s1) (holder_count s1) comes comes) comes f)
      → ((held : Keys) (f : Branches) → IsTree s2 f → Agrees s2 held f → Totals s2 f → ((key : rust.Key) → times_valued key goes ≤ instances_at s2 key)
      → reads s3 ≤ reads s2 + values_reads (lastly_judged (instances_at s2) (holder_count s2) goes goes) goes f)
      → (held : Keys) (f : Branches) → IsTree s0 f → Agrees s0 held f → Totals s0 f → CanLeave slot_of same_key held leaves
      → reads s3 ≤ reads s0 + withdraw_reads (instances_at s0) (left slot_of leaves held) leaves comes goes f
  withdrawn_reads leave_reads add_reads take_reads held f tree agrees totals can =
      let now = left slot_of leaves held in
      let first = leave_follows held f tree agrees totals can in
      let tree_then = tree_on s0 s1 f (shapes_of s0 s1 leave_kept) tree in
      let second = add_follows now f tree_then first.agrees first.totals in
      let tree_last = tree_on s1 s2 f (shapes_of s1 s2 add_kept) tree_then in
      let leaving = leave_reads held f tree agrees totals can in
      let adding = add_reads now f tree_then first.agrees first.totals there_then (λ k. let was = leave_instances k in let bound = most k in omega (arith, was, bound)) in
      let taking = take_reads now f tree_last second.agrees second.totals enough in
      let new = ap (λ m. values_reads m comes f)
      (same_newly (instances_at s1) (holder_count s1) (instances_at s0) (holding now f) leave_instances (λ k. holders_counted s1 now f k first.agrees tree.once) comes comes) in
      let old = ap (λ m. values_reads m goes f)
      (same_lastly (instances_at s2) (holder_count s2) (λ key. instances_at s0 key + times_valued key comes) (holding now f) added
      (λ k. holders_counted s2 now f k second.agrees tree.once) goes goes) in
      omega (arith, leaving, adding, taking, new, old)
