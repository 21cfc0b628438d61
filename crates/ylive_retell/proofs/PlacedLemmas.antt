-- Totals where a node stands elsewhere in its row, and nothing is climbed.
use Rattle.std.proofs.Common.{◌≡◌, ℕ, zero, suc, ◌+◌, ◌-◌, ◌^◌, ◌≤◌, Bool, true, false, min, length, refl, arith, cond}
use Rattle.yspec.specs.Forest.{end, node, join, size, weigh}
use Rattle.ystore_rows.specs.Rows.{first_place, of_schema}
use Rattle.ystore.specs.Store.{total_at}
use Rattle.ystore_rows.specs.declared.row.Row.{Row}
use Rattle.ystore_rows.specs.declared.row.Row.TheVariants.{Top, Below}
use Rattle.ystore.specs.declared.nodes.Nodes.{Nodes}
use Rattle.ystore_tree.specs.Hanging.{Numbered, Branches, children_of}
use Rattle.ystore_tree.specs.Changes.{put_at, with_node_at}
use Rattle.ystore_tree.specs.Ways.{Way, around, end_of}
use Rattle.ystore_tree.proofs.HangingLemmas.{size_weigh, weigh_around}
use Rattle.ylive_marks.specs.Totals.{AreTotals, Climbs, IsTree, Totals, moved, on_way, told_count}
use Rattle.ylive_marks.proofs.TotalLemmas.{are_end, are_first, are_join, are_second, changed, moved_exact, replaced}
use Rattle.ylive_retell.proofs.SwappedLemmas.{weigh_moved}

are_put : (nodes : Nodes) (index : ℕ) (n : Numbered) (below f : Branches) → AreTotals nodes (node n below end) → AreTotals nodes f → AreTotals nodes (put_at index n below f)
are_put nodes zero n below f new are = (new.0, new.1, are)
are_put nodes (suc index) n below end new are = new
are_put nodes (suc index) n below (node m under after) new are = (are.0, are.1, are_put nodes index n below after new are.2)

module _ (before after : Nodes) (way : Way) (first rest : Branches) (m : Numbered) (under : Branches) (to : ℕ)
    (all : Totals before (around way (join first (node m under rest)))) (tree : IsTree before (around way (join first (node m under rest))))
    (climbs : Climbs way 0 0 before after) where
  abbrev was : Branches
  was = join first (node m under rest)

  abbrev now : Branches
  now = with_node_at to m under (join first rest)

  was_all : Totals after (around way was)
  was_all =
      replaced before after way end end end was (moved 0 0) 0 0 (2 ^ 64 - 1) (moved_exact 0 0) all tree.once climbs.told climbs.totals tt refl refl (omega arith) all.small.few

  pub placed : Totals after (around way now)
  placed =
      changed (λ t. t) 0 0 (2 ^ 64 - 1) (λ t within enough. refl) after after way was now was_all tree.once (λ row apart. refl)
      (λ row. both (on_way Top way row) (total_at after row)) are (let same = weigh_moved (λ n. told_count after (Below n.id)) to first m under rest in omega (arith, same))
      (omega arith) (record { few = few; each = was_all.small.each })
    where
      both : (b : Bool) (t : ℕ) → t ≡ cond b t t
      both true t = refl
      both false t = refl

      row_all : AreTotals after was
      row_all = are_end after way was was_all.below

      there : AreTotals after (node m under rest)
      there = are_second after first (node m under rest) row_all

      are : AreTotals after now
      are =
          are_put after (first_place m.schema (children_of (join first rest)) + min to (length (of_schema m.schema (children_of (join first rest))))) m under (join first rest)
          (there.0, there.1, tt) (are_join after first rest (are_first after first (node m under rest) row_all) there.2)

      few : size (around way now) ≤ 2 ^ 28
      few =
          let most = was_all.small.few in
          let a = size_weigh (around way was) in
          let b = size_weigh (around way now) in
          let c = weigh_around (λ _. 1) way was in
          let d = weigh_around (λ _. 1) way now in
          let e = weigh_moved (λ _. 1) to first m under rest in
          omega (arith, most, a, b, c, d, e)
