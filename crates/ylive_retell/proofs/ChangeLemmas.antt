-- A change of a row, with the totals above it.
use Rattle.std.proofs.Common.{◌≡◌, ℕ, ◌+◌, ◌-◌, ◌^◌, ◌≤◌, ◌<◌, Bool, true, false, List, [], ◌∷◌, length, min, Option, Some, None, option_map, refl, sym, ap, ◌∙◌, arith, subst, cond}
use Rattle.std.specs.Prelude.{IfSome}
use Rattle.std.specs.Option.{option_map_or}
use Rattle.yspec.specs.Forest.{end, node, size, levels}
use Rattle.ycheck.specs.declared.fault.FaultCode.{FaultCode}
use Rattle.yschema_model.specs.declared.node.SchemaId.{SchemaId}
use Rattle.ystore_rows.specs.Rows.{Child}
use Rattle.ystore.specs.Held.{Held, with_children, with_play}
use Rattle.ystore.specs.Store as store
use Rattle.ystore.specs.Store.{held_at, entry_at, total_at, same_row, ChangesRow}
use Rattle.ystore.specs.declared.key.Key.{Key}
use Rattle.ystore_rows.specs.declared.row.NodeId.{NodeId}
use Rattle.ystore_rows.specs.declared.row.Row.{Row}
use Rattle.ystore_rows.specs.declared.row.Row.TheVariants.{Top, Below}
use Rattle.ystore.specs.declared.nodes.Nodes.{Nodes}
use Rattle.ystore_tree.specs.Hanging.{Numbered, Branches, Keeps, is_number, times}
use Rattle.ystore_tree.specs.Copies.{ids_of}
use Rattle.ystore_tree.specs.Growing.{Removes}
use Rattle.ystore_tree.specs.Parts.{OnlyReads}
use Rattle.ystore_tree.specs.Swaps.{Swaps}
use Rattle.ystore_tree.specs.Ways.{Way, around, end_of}
use Rattle.ystore_tree.specs.declared.swapping.Change.{Change}
use Rattle.ystore_tree.specs.declared.swapping.Change.TheVariants.{Add, Put, Take, Move}
use Rattle.ystore_tree.proofs.HangingLemmas.{weigh_join, weigh_around, outside, is_itself}
use Rattle.ystore_tree.proofs.FrameLemmas.{same_rows, keeps_same}
use Rattle.ystore_tree.proofs.RemoveLemmas.{others_stay, given_back, count_of, count_ids}
use Rattle.ylive_marks.specs.Totals.{AreTotals, ChangesTold, Climbs, IsFew, IsTree, OnlyFaults, SameFaults, StandsIn, TellsNothing, Totals, is_below, on_way, told_at, number_of}
use Rattle.ylive_marks.proofs.AgreeLemmas.{totals_there}
use Rattle.ylive_marks.proofs.LawLemmas.{children_faults, held_faults, faults_on, climbs_beside, faults_shapes, tree_kept, put, taken, added, silent, root_silent}
use Rattle.ylive_marks.proofs.TotalLemmas.{are_same, totals_same, below_outside}
use Rattle.ylive_retell.specs.Changed.{gone_of, total_of}
use Rattle.ylive_retell.proofs.AccountLemmas.{top_not, below_same}
use Rattle.ylive_retell.proofs.PlacedLemmas.{placed}
use Rattle.ylive_retell.proofs.PlanLemmas.{keeps_read}
use Rattle.ylive_retell.proofs.RowLemmas.{above_in, above_there}

-- ---- rows

-- a node that isn't on a way is no row of it
off_way : (way : Way) (x : NodeId) → outside (is_number x.0) way ≡ 0 → on_way Top way (Below x) ≡ false
off_way way x none = by (is_below way (Below x)) refl
  where
    by : (b : Bool) → is_below way (Below x) ≡ b → is_below way (Below x) ≡ false
    by true e = let some = below_outside way x e in absurd (omega (arith, none, some))
    by false e = e

-- the row at the end of a way is one of the forest
pub end_stands : (way : Way) (f : Branches) → StandsIn (end_of Top way) (around way f)
end_stands [] f = tt
end_stands (frame ∷ way) f = by (end_of (Below frame.label.id) way) (above_there frame way f)
  where
    by : (r : Row) → 1 ≤ above_in r (node frame.label (around way f) end) → StandsIn r (around (frame ∷ way) f)
    by Top h = tt
    by (Below id) h =
        let whole = weigh_join (is_number id.0) frame.before (node frame.label (around way f) frame.after) in
        omega (arith, h, whole)

-- what is given back is there no more
gone_or_same : (P : Option Held → Type 0) → P None → (ids : List NodeId) (before after : Nodes) → Removes ids before after → (row : Row) → P (held_at before row) → P (held_at after row)
gone_or_same P none [] before after removes row was = subst (λ (n : Nodes). P (held_at n row)) (sym removes) was
gone_or_same P none (x ∷ ids) before after (next, changes, rest) row was =
    gone_or_same P none ids next after rest row (by (same_row (Below x) row) refl)
  where
    by : (b : Bool) → same_row (Below x) row ≡ b → P (held_at next row)
    by true e = subst P (sym (subst (λ (r : Row). held_at next r ≡ None) (same_rows (Below x) row e) changes.changed)) none
    by false e = subst P (sym (changes.others row e)) was

pub entries_kept : (ids : List NodeId) (before after : Nodes) → Removes ids before after → (key : Key) → entry_at after key ≡ entry_at before key
entries_kept [] before after removes key = ap (λ (n : Nodes). entry_at n key) removes
entries_kept (x ∷ ids) before after (next, changes, rest) key = entries_kept ids next after rest key ∙ changes.entries key

reads_kept : (ids : List NodeId) (before after : Nodes) → Removes ids before after → store.reads after ≡ store.reads before
reads_kept [] before after removes = ap store.reads removes
reads_kept (x ∷ ids) before after (next, changes, rest) = reads_kept ids next after rest ∙ changes.reads

-- ---- the change

module _ (way : Way) (f loose g left : Branches) (of : SchemaId) (change : Change) (swaps : Swaps of change f loose g left) (above : Row) (at : end_of Top way ≡ above)
    (start read made climbed told last : Nodes) (old : List NodeId) (play : List (FaultCode × SchemaId)) (less : ℕ)
    (keeps : Keeps start (around way f) above loose) (reads : OnlyReads start read)
    (c : List Child → List Child) (makes : ChangesRow above (option_map (with_children c)) read made) (keeps_then : Keeps made (around way g) above left)
    (climbs : Climbs way 0 less made climbed) (only : OnlyFaults made climbed)
    (plays : ChangesTold above (with_play play) climbed told) (removes : Removes old told last) (are_old : ids_of left ≡ old) where
  keeps_told : Keeps told (around way g) above left
  keeps_told =
      keeps_same climbed told (faults_shapes climbed told plays.kept) (around way g) above left
      (keeps_same made climbed (faults_shapes made climbed only) (around way g) above left keeps_then)

  pub keeps_last : Keeps last (around way g) above end
  keeps_last = given_back told last (around way g) above left keeps_told (subst (λ ids. Removes ids told last) (sym are_old) removes)

  -- the rows that stay are held as they were
  stays : (row : Row) → StandsIn row (around way g) → held_at last row ≡ held_at told row
  stays row stands = others_stay old told last removes row (none row stands)
    where
      none : (row : Row) → StandsIn row (around way g) → (id : NodeId) → row ≡ Below id → count_of id.0 old ≡ 0
      none Top stands id e = absurd (top_not id (sym e))
      none (Below x) stands id e =
          ap (λ ids. count_of id.0 ids) (sym are_old)
          ∙ (count_ids id.0 left
          ∙ (let most = keeps_then.once id.0 in
          let here : 0 < times id.0 (around way g) = subst (λ (i : NodeId). 0 < times i.0 (around way g)) (below_same x id e) stands in
          omega (arith, most, here)))

  same_start : SameFaults start made
  same_start = faults_on start read made (held_faults start read reads.held) (children_faults above read made c makes)

  pub told_then : (row : Row) → StandsIn row (around way g) → told_at last row ≡ cond (same_row above row) (option_map (with_play play) (told_at start row)) (told_at start row)
  told_then row stands =
      ap (option_map (λ (h : Held). h.told)) (stays row stands) ∙ by (same_row above row) refl
    where
      before : (r : Row) → told_at climbed r ≡ told_at start r
      before r = climbs.told r ∙ same_start.told r

      by : (b : Bool) → same_row above row ≡ b → told_at told row ≡ cond b (option_map (with_play play) (told_at start row)) (told_at start row)
      by true e =
          subst (λ (r : Row). told_at told r ≡ option_map (with_play play) (told_at start r)) (same_rows above row e)
          (plays.changed ∙ ap (option_map (with_play play)) (before above))
      by false e = plays.others row e ∙ before row

  -- ---- what is read

  pub reads_last : store.reads read ≤ store.reads start + 1 → (IsTree made (around way g) → store.reads climbed ≤ store.reads made + length way)
      → (IsTree climbed (around way g) → StandsIn above (around way g) → store.reads told ≤ store.reads climbed + (1 + levels (around way g)))
      → store.reads last ≤ store.reads start + (2 + (length way + levels (around way g)))
  reads_last one up then =
      let tree = tree_kept climbed (around way g) above left (keeps_same made climbed (faults_shapes made climbed only) (around way g) above left keeps_then) in
      let same = makes.reads in
      let climbing = up (tree_kept made (around way g) above left keeps_then) in
      let telling = then tree (subst (λ (r : Row). StandsIn r (around way g)) at (end_stands way g)) in
      let gone = reads_kept old told last removes in
      omega (arith, one, same, climbing, telling, gone)

  -- ---- totals

  module _ (totals : Totals start (around way f)) (nothing : TellsNothing start loose) (is_less : less ≡ total_of start (gone_of change)) (few : size (around way g) ≤ 2 ^ 28) where
    totals_read : Totals read (around way f)
    totals_read = totals_same start read (held_faults start read reads.held) (around way f) totals

    tree_read : IsTree read (around way f)
    tree_read = tree_kept read (around way f) above loose (keeps_read start read (around way f) above loose reads keeps)

    climbs_read : Climbs way 0 less read climbed
    climbs_read =
        climbs_beside read made climbed climbed way 0 less (children_faults above read made c makes) climbs (record { told = λ row. refl; totals = λ row. refl })

    loose_total : (id : NodeId) → 0 < times id.0 loose → total_at climbed (Below id) ≡ total_at start (Below id)
    loose_total id more =
        climbs.totals (Below id)
        ∙ (ap (λ b. cond b (min_moved (total_at made (Below id))) (total_at made (Below id)))
        (off_way way id (let most = keeps.once id.0 in let whole = weigh_around (is_number id.0) way f in omega (arith, most, whole, more)))
        ∙ same_start.totals (Below id))
      where
        min_moved : ℕ → ℕ
        min_moved t = min (t + 0) (2 ^ 64 - 1) - less

    loose_totals : AreTotals climbed loose
    loose_totals =
        are_same start climbed loose (λ id more. ap (λ o. option_map_or number_of o 0) (climbs.told (Below id) ∙ same_start.told (Below id))) loose_total
        (silent start loose nothing).1

    loose_root : (n : Numbered) (below : Branches) → loose ≡ node n below end → total_at climbed (Below n.id) ≡ 0
    loose_root n below is =
        loose_total n.id (let one = is_itself n in let all = ap (times n.id.0) is in omega (arith, one, all))
        ∙ root_silent start n below (subst (TellsNothing start) is nothing)

    gone_total : (m : Numbered) (id : NodeId) → m.id ≡ id → gone_of change ≡ Some id → total_at read (Below m.id) ≡ less
    gone_total m id same gone =
        (held_faults start read reads.held).totals (Below m.id)
        ∙ (ap (λ (i : NodeId). total_at start (Below i)) same ∙ (sym (ap (total_of start) gone) ∙ sym is_less))

    totals_climbed : Totals climbed (around way g)
    totals_climbed = by change swaps refl
      where
        by : (ch : Change) → Swaps of ch f loose g left → change ≡ ch → Totals climbed (around way g)
        by (Add id) a e =
            subst (λ (h : Branches). Totals climbed (around way h)) (sym a.row)
            (added read climbed way f a.label a.below 0 totals_read tree_read (subst (AreTotals climbed) a.beside loose_totals) (loose_root a.label a.below a.beside)
            (subst (λ (h : Branches). size (around way h) ≤ 2 ^ 28) a.row few)
            (subst (λ (l : ℕ). Climbs way 0 l read climbed) (is_less ∙ ap (λ (h : Change). total_of start (gone_of h)) e) climbs_read))
        by (Put old id) p e =
            subst (λ (h : Branches). Totals climbed (around way h)) (sym p.row)
            (put read climbed way p.before p.after p.from p.under p.to p.below 0 less (subst (λ (h : Branches). Totals read (around way h)) p.was totals_read)
            (subst (λ (h : Branches). IsTree read (around way h)) p.was tree_read) (subst (AreTotals climbed) p.beside loose_totals) (loose_root p.to p.below p.beside)
            (gone_total p.from old p.is_old (ap gone_of e)) (subst (λ (h : Branches). size (around way h) ≤ 2 ^ 28) p.row few) climbs_read)
        by (Take old place) t e =
            subst (λ (h : Branches). Totals climbed (around way h)) (sym t.row)
            (taken read climbed way t.before t.after t.from t.under less (subst (λ (h : Branches). Totals read (around way h)) t.was totals_read)
            (subst (λ (h : Branches). IsTree read (around way h)) t.was tree_read) (gone_total t.from old t.is_old (ap gone_of e)) climbs_read)
        by (Move id from to) m e =
            subst (λ (h : Branches). Totals climbed (around way h)) (sym m.row)
            (placed read climbed way m.before m.after m.label m.under to (subst (λ (h : Branches). Totals read (around way h)) m.was totals_read)
            (subst (λ (h : Branches). IsTree read (around way h)) m.was tree_read)
            (subst (λ (l : ℕ). Climbs way 0 l read climbed) (is_less ∙ ap (λ (h : Change). total_of start (gone_of h)) e) climbs_read))

    tree_climbed : IsTree climbed (around way g)
    tree_climbed = tree_kept climbed (around way g) above left (keeps_same made climbed (faults_shapes made climbed only) (around way g) above left keeps_then)

    pub totals_last : (IsTree climbed (around way g) → Totals climbed (around way g) → StandsIn above (around way g) → Totals told (around way g)) → Totals last (around way g)
    totals_last then =
        let all = then tree_climbed totals_climbed (subst (λ (r : Row). StandsIn r (around way g)) at (end_stands way g)) in
        totals_there told last (around way g) (λ row stands. ap (option_map (λ (h : Held). h.told)) (stays row stands))
        (λ row stands. ap (λ (o : Option Held). option_map_or (λ (h : Held). h.total) o 0) (stays row stands))
        (λ row. gone_or_same (λ o. IfSome (option_map (λ (h : Held). h.told) o) IsFew) tt old told last removes row (all.small.each row)) all
