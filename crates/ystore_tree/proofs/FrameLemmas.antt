-- Writes that leave the shapes of rows, and nodes that come and go beside a tree.
use Rattle.std.proofs.Common.{◌≡◌, ℕ, Bool, true, false, [], Option, Some, None, option_map, refl, sym, ap, ◌∙◌, arith, subst}
use Rattle.std.specs.Option.{option_map_or}
use Rattle.std.proofs.lemmas.Bool.{eqb-true, false≢true}
use Rattle.yspec.specs.Forest.{end}
use Rattle.yspec.specs.document.Document.{Tree}
use Rattle.ystore.specs.Held.{Held, Shape, Told, with_told, with_total, with_room}
use Rattle.ystore.specs.Entries as entries
use Rattle.ystore.specs.Store.{held_at, children_at, node_count, same_row, there, ChangesRow, ChangesEntry, CountsOne, Stays}
use Rattle.ystore_rows.specs.declared.row.Row.{Row}
use Rattle.ystore_rows.specs.declared.row.Row.TheVariants.{Top, Below}
use Rattle.ystore.specs.declared.key.Key.{Key}
use Rattle.ystore.specs.declared.nodes.Nodes.{Nodes}
use Rattle.ystore_tree.specs.Hanging.{Branches, shape_at, Stands, Hangs, Keeps, Holds}
use Rattle.ystore_tree.specs.Changes.{SameShapes}
use Rattle.ystore_tree.proofs.HangingLemmas.{kept}

-- ---- the same shapes

children_shape : (o : Option Held) → option_map_or (λ held. held.shape.children) o [] ≡ option_map_or (λ (s : Shape). s.children) (option_map (λ held. held.shape) o) []
children_shape (Some held) = refl
children_shape None = refl

pub same_children : (before after : Nodes) (above : Row) → shape_at after above ≡ shape_at before above → children_at after above ≡ children_at before above
same_children before after above same =
    children_shape (held_at after above) ∙ (ap (λ o. option_map_or (λ (s : Shape). s.children) o []) same ∙ sym (children_shape (held_at before above)))

module _ (before after : Nodes) (same : SameShapes before after) where
  pub stands_same : (above : Row) (f : Branches) → Stands before above f → Stands after above f
  stands_same above f stands = kept before after above f (λ id more. same.shapes (Below id)) stands

  pub hangs_same : (above : Row) (f : Branches) → Hangs before above f → Hangs after above f
  hangs_same above f hangs =
      record { listed = same_children before after above (same.shapes above) ∙ hangs.listed; stands = stands_same above f hangs.stands }

  pub keeps_same : (tree : Branches) (above : Row) (loose : Branches) → Keeps before tree above loose → Keeps after tree above loose
  keeps_same tree above loose keeps =
      record { hangs = hangs_same Top tree keeps.hangs; stands = stands_same above loose keeps.stands; once = keeps.once; all = same.all ∙ keeps.all }

  pub holds_same : (tree : Tree) → Holds before tree → Holds after tree
  holds_same tree holds = record { branches = holds.branches; is_tree = holds.is_tree; keeps = keeps_same holds.branches Top end holds.keeps }

-- ---- writes

pub same_rows : (above other : Row) → same_row above other ≡ true → above ≡ other
same_rows Top Top e = refl
same_rows (Below m) (Below n) e = ap (λ k. Below (record { 0 = k })) (eqb-true m.0 n.0 e)
same_rows Top (Below n) e = absurd (false≢true e)
same_rows (Below m) Top e = absurd (false≢true e)

-- a row whose shape a change leaves
pub row_same : (above : Row) (change : Option Held → Option Held) (before after : Nodes) → ChangesRow above change before after
    → option_map (λ held. held.shape) (change (held_at before above)) ≡ shape_at before above
    → there (change (held_at before above)) ≡ there (held_at before above)
    → SameShapes before after
row_same above change before after changes shape count =
    record {
      shapes = λ other. by other (same_row above other) refl;
      all =
          let counts = changes.node_count in
          let now = ap there changes.changed in
          omega (arith, counts, now, count);
    }
  where
    by : (other : Row) (b : Bool) → same_row above other ≡ b → shape_at after other ≡ shape_at before other
    by other true e = subst (λ r. shape_at after r ≡ shape_at before r) (same_rows above other e) (ap (option_map (λ held. held.shape)) changes.changed ∙ shape)
    by other false e = ap (option_map (λ held. held.shape)) (changes.others other e)

module _ (above : Row) (before after : Nodes) where
  pub told_same : (change : Told → Told) → ChangesRow above (option_map (with_told change)) before after → SameShapes before after
  told_same change changes = row_same above (option_map (with_told change)) before after changes (shape (held_at before above)) (count (held_at before above))
    where
      shape : (o : Option Held) → option_map (λ held. held.shape) (option_map (with_told change) o) ≡ option_map (λ held. held.shape) o
      shape (Some held) = refl
      shape None = refl

      count : (o : Option Held) → there (option_map (with_told change) o) ≡ there o
      count (Some held) = refl
      count None = refl

  pub total_same : (change : ℕ → ℕ) → ChangesRow above (option_map (with_total change)) before after → SameShapes before after
  total_same change changes = row_same above (option_map (with_total change)) before after changes (shape (held_at before above)) (count (held_at before above))
    where
      shape : (o : Option Held) → option_map (λ held. held.shape) (option_map (with_total change) o) ≡ option_map (λ held. held.shape) o
      shape (Some held) = refl
      shape None = refl

      count : (o : Option Held) → there (option_map (with_total change) o) ≡ there o
      count (Some held) = refl
      count None = refl

  pub room_same : (room : ℕ) → ChangesRow above (option_map (with_room room)) before after → SameShapes before after
  room_same room changes = row_same above (option_map (with_room room)) before after changes (shape (held_at before above)) (count (held_at before above))
    where
      shape : (o : Option Held) → option_map (λ held. held.shape) (option_map (with_room room) o) ≡ option_map (λ held. held.shape) o
      shape (Some held) = refl
      shape None = refl

      count : (o : Option Held) → there (option_map (with_room room) o) ≡ there o
      count (Some held) = refl
      count None = refl

pub entry_same : (key : Key) (change : Option entries.Entry → Option entries.Entry) (before after : Nodes) → ChangesEntry key change before after → SameShapes before after
entry_same key change before after changes =
    record { shapes = λ above. ap (option_map (λ held. held.shape)) (changes.held above); all = changes.node_count }

pub stays_same : (before after : Nodes) → Stays before after → SameShapes before after
stays_same before after stays =
    record { shapes = λ above. ap (option_map (λ held. held.shape)) (stays.held above); all = stays.node_count }

pub read_same : (before after : Nodes) → CountsOne before after → SameShapes before after
read_same before after counts =
    record { shapes = λ above. ap (λ nodes. shape_at nodes above) counts.kept ∙ by above; all = ap node_count counts.kept }
  where
    by : (above : Row) → shape_at (record before { count = after.count }) above ≡ shape_at before above
    by Top = refl
    by (Below id) = refl
