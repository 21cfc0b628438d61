-- What a growth leaves: trees, what is told, and what agrees with an index.
use Rattle.std.proofs.Common.{◌<◌, length, option_map, sym, ap, subst}
use Rattle.std.specs.Prelude.{IfSome}
use Rattle.ystore.specs.Held.{Held}
use Rattle.ystore.specs.Store.{has_room}
use Rattle.ystore_rows.specs.declared.row.Row.{Row}
use Rattle.ystore_rows.specs.declared.row.Row.TheVariants.{Below}
use Rattle.ystore.specs.declared.nodes.Nodes.{Nodes}
use Rattle.ystore_tree.specs.Changes.{SameShapes}
use Rattle.ystore_tree.specs.Hanging.{Branches, Keeps}
use Rattle.ystore_tree.specs.Ways.{around}
use Rattle.ystore_tree.specs.declared.swapping.Swap.{Swap}
use Rattle.ystore_tree.proofs.FrameLemmas.{keeps_same}
use Rattle.ylive_marks.specs.Keys.{Agrees, Keys, SameKeys}
use Rattle.ylive_marks.specs.Totals.{IsTree, Totals}
use Rattle.ylive_marks.proofs.AgreeLemmas.{agrees_told}
use Rattle.ylive_marks.proofs.LawLemmas.{held_faults}
use Rattle.ylive_marks.proofs.TotalLemmas.{totals_same, tree_same}
use Rattle.ylive_retell.specs.Growing.{Grows}
use Rattle.ylive_retell.specs.Plans.{IsReady}

module _ (before after : Nodes) (grows : Grows before after) where
  pub grown_shapes : SameShapes before after
  grown_shapes = record { shapes = λ row. ap (option_map (λ (h : Held). h.shape)) (grows.held row); all = grows.node_count }

  pub grown_keys : SameKeys before after
  grown_keys = record { holders = grows.holders; instances = grows.instances }

  pub grown_keeps : (tree : Branches) (above : Row) (loose : Branches) → Keeps before tree above loose → Keeps after tree above loose
  grown_keeps = keeps_same before after grown_shapes

  pub grown_room : (row : Row) → has_room before row → has_room after row
  grown_room row room = subst (λ o. IfSome o (λ held. length held.shape.children < held.room)) (sym (grows.held row)) room

  abbrev pub grown_ready : (swap : Swap) → IsReady swap before → IsReady swap after
  grown_ready swap r =
      record {
        way = r.way;
        f = r.f;
        loose = r.loose;
        g = r.g;
        left = r.left;
        at = r.at;
        swaps = r.swaps;
        sorted = r.sorted;
        keeps = grown_keeps (around r.way r.f) swap.above r.loose r.keeps;
        room = grown_room swap.above r.room;
      }

  pub grown_tree : (f : Branches) → IsTree before f → IsTree after f
  grown_tree = tree_same before after grown_shapes

  pub grown_totals : (f : Branches) → Totals before f → Totals after f
  grown_totals = totals_same before after (held_faults before after grows.held)

  pub grown_agrees : (keys : Keys) (f : Branches) → Agrees before keys f → Agrees after keys f
  grown_agrees keys f agrees =
      agrees_told before after keys f grown_keys (λ id stands. ap (option_map (λ (h : Held). h.told)) (grows.held (Below id))) agrees
