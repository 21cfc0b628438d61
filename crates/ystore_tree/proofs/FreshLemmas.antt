-- Nothing is told of nodes that are put into a store.
use Rattle.std.proofs.Common.{◌≡◌, ℕ, ◌<◌, ◌^◌, Bool, true, false, List, Option, Some, None, is_some, option_map, refl, sym, ap, subst}
use Rattle.std.specs.Prelude.{IfSome}
use Rattle.yspec.specs.schema.Schema.{Schema}
use Rattle.ystore_rows.specs.Rows.{Child}
use Rattle.ystore.specs.Held.{Held, Label, Told, new_held, with_children, with_room}
use Rattle.ystore.specs.Store.{held_at, same_row, ChangesRow, Stays}
use Rattle.ystore_rows.specs.declared.row.NodeId.{NodeId}
use Rattle.ystore_rows.specs.declared.row.Row.{Row}
use Rattle.ystore_rows.specs.declared.row.Row.TheVariants.{Below}
use Rattle.ystore.specs.declared.nodes.Nodes.{Nodes}
use Rattle.ystore_tree.specs.Growing.{Grows, IsFresh, Freshens, flag_count, nothing_told}
use Rattle.ystore_tree.proofs.FrameLemmas.{same_rows}

module _ (schema : Schema) where
  -- a change of a row that leaves a held one fresh
  fresh_changed : (above : Row) (change : Option Held → Option Held) (first before after : Nodes)
      → ((o : Option Held) → IfSome o (IsFresh schema) → IfSome (change o) (IsFresh schema))
      → ChangesRow above change before after → Freshens schema first before → Freshens schema first after
  fresh_changed above change first before after leaves changes fresh id none = by (same_row above (Below id)) refl
    where
      by : (b : Bool) → same_row above (Below id) ≡ b → IfSome (held_at after (Below id)) (IsFresh schema)
      by true e =
          subst (λ (o : Option Held). IfSome o (IsFresh schema)) (sym (subst (λ (r : Row). held_at after r ≡ change (held_at before r)) (same_rows above (Below id) e) changes.changed))
          (leaves (held_at before (Below id)) (fresh id none))
      by false e = subst (λ (o : Option Held). IfSome o (IsFresh schema)) (sym (changes.others (Below id) e)) (fresh id none)

  pub fresh_children : (above : Row) (change : List Child → List Child) (first before after : Nodes)
      → ChangesRow above (option_map (with_children change)) before after → Freshens schema first before → Freshens schema first after
  fresh_children above change first before after = fresh_changed above (option_map (with_children change)) first before after leaves
    where
      leaves : (o : Option Held) → IfSome o (IsFresh schema) → IfSome (option_map (with_children change) o) (IsFresh schema)
      leaves None fresh = fresh
      leaves (Some held) fresh = record {
        flags = fresh.flags;
        label = fresh.label;
        is_label = fresh.is_label;
        are_flags = fresh.are_flags;
        few = fresh.few;
        told = fresh.told;
        total = fresh.total;
      }

  pub fresh_room : (above : Row) (room : ℕ) (first before after : Nodes)
      → ChangesRow above (option_map (with_room room)) before after → Freshens schema first before → Freshens schema first after
  fresh_room above room first before after = fresh_changed above (option_map (with_room room)) first before after leaves
    where
      leaves : (o : Option Held) → IfSome o (IsFresh schema) → IfSome (option_map (with_room room) o) (IsFresh schema)
      leaves None fresh = fresh
      leaves (Some held) fresh = record {
        flags = fresh.flags;
        label = fresh.label;
        is_label = fresh.is_label;
        are_flags = fresh.are_flags;
        few = fresh.few;
        told = fresh.told;
        total = fresh.total;
      }

  pub fresh_itself : (nodes : Nodes) → Freshens schema nodes nodes
  fresh_itself nodes id none = subst (λ (o : Option Held). IfSome o (IsFresh schema)) (sym none) tt

  pub fresh_stays : (first before after : Nodes) → Stays before after → Freshens schema first before → Freshens schema first after
  fresh_stays first before after stays fresh id none =
      subst (λ (o : Option Held). IfSome o (IsFresh schema)) (sym (stays.held (Below id))) (fresh id none)

  pub fresh_on : (first before after : Nodes) → Grows before after → Freshens schema before after → Freshens schema first before → Freshens schema first after
  fresh_on first before after grows more fresh id none = by (held_at before (Below id)) refl
    where
      by : (o : Option Held) → held_at before (Below id) ≡ o → IfSome (held_at after (Below id)) (IsFresh schema)
      by None e = more id e
      by (Some held) e =
          subst (λ (o : Option Held). IfSome o (IsFresh schema)) (sym (grows.held (Below id) (ap is_some e))) (fresh id none)

  -- the first node
  pub fresh_first : (id : NodeId) (label : Label) (told : Told) (flags room : ℕ) (before after : Nodes)
      → told ≡ nothing_told flags → flags ≡ flag_count schema label.schema.0 → flags < 2 ^ 32
      → ChangesRow (Below id) (λ _. Some (new_held label told 0 room)) before after → Freshens schema before after
  fresh_first id label told flags room before after nothing are few changes =
      fresh_changed (Below id) (λ _. Some (new_held label told 0 room)) before before after
      (λ o fresh. record { flags = flags; label = label; is_label = refl; are_flags = are; few = few; told = nothing; total = refl })
      changes (fresh_itself before)
