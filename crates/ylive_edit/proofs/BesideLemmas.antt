-- What is told of a document stays while branches come and go beside it.
use Rattle.std.proofs.Common.{◌≡◌, ℕ, ◌<◌, Bool, true, false, List, [], ◌∷◌, Option, Some, None, is_some, option_map, refl, sym, ap, ◌∙◌, arith, subst}
use Rattle.std.specs.Prelude.{IfSome}
use Rattle.std.specs.Option.{option_map_or}
use Rattle.std.proofs.lemmas.Bool.{false≢true}
use Rattle.std.proofs.lemmas.List.{length-replicate}
use Rattle.std.proofs.lemmas.Option.{none-some, same_Some}
use Rattle.yspec.specs.Forest.{end, node}
use Rattle.yspec.specs.schema.Schema.{Schema}
use Rattle.yspec.specs.document.Document.{Stored, Tree}
use Rattle.ystore.specs.Held.{Held, Label, Shape, Told}
use Rattle.ystore.specs.Store.{held_at, entry_at, same_row, total_at, MakesRoom}
use Rattle.ystore_rows.specs.declared.row.NodeId.{NodeId}
use Rattle.ystore_rows.specs.declared.row.Row.{Row}
use Rattle.ystore_rows.specs.declared.row.Row.TheVariants.{Top, Below}
use Rattle.ystore.specs.declared.key.Key.{Key}
use Rattle.ystore.specs.declared.nodes.Nodes.{Nodes}
use Rattle.ystore_tree.specs.Copies.{laid, ids_of}
use Rattle.ystore_tree.specs.Growing as growing
use Rattle.ystore_tree.specs.Growing.{Freshens, Grows, Inserts, Removes, flag_count, nothing_told}
use Rattle.ystore_tree.specs.Hanging.{Numbered, Branches, Hangs, Keeps, Stands, is_number, shape_of, times}
use Rattle.ystore_tree.specs.Parts.{OnlyReads}
use Rattle.ystore_tree.proofs.FrameLemmas.{same_rows}
use Rattle.ystore_tree.proofs.GrowLemmas.{stands_held, weigh_laid_on}
use Rattle.ystore_tree.proofs.HangingLemmas.{is_itself}
use Rattle.ystore_tree.proofs.RemoveLemmas.{count_ids, count_of, others_stay}
use Rattle.ylive_facts.specs.InPlay.{absence_views}
use Rattle.ylive_marks.specs.Keys.{SameKeys, own_of}
use Rattle.ylive_marks.specs.Totals.{IsFew, StandsIn, told_at}
use Rattle.ylive_marks.proofs.AgreeLemmas.{agrees_told, entries_keys, totals_there}
use Rattle.ylive_marks.proofs.LawLemmas.{room_faults}
use Rattle.ylive_retell.specs.IsTold.{IsFresh, IsTold, TellsOwn}
use Rattle.ylive_retell.specs.Standing.{Standing, Every, standing}
use Rattle.ylive_retell.proofs.AgainLemmas.{play_same}
use Rattle.ylive_retell.proofs.BareLemmas.{bare_still}
use Rattle.ylive_retell.proofs.EachLemmas.{each_other, every_join}
use Rattle.ylive_retell.proofs.StillLemmas.{told_still}
use Rattle.ylive_retell.proofs.UnlikeLemmas.{every_map}

-- where keys have what they had, and of the document's rows is told what was told
pub told_alike : (schema : Schema) (before after : Nodes) (f : Branches) → SameKeys before after
    → ((row : Row) → StandsIn row f → told_at after row ≡ told_at before row)
    → ((row : Row) → StandsIn row f → total_at after row ≡ total_at before row)
    → ((row : Row) → IfSome (told_at after row) IsFew) → IsTold schema before f → IsTold schema after f
told_alike schema before after f same told totals few is =
    record {
      held = is.held;
      keyed = is.keyed;
      agrees = agrees_told before after is.held f same (λ id there. told (Below id) there) is.agrees;
      values = λ key number v sees refers. same.instances key ∙ is.values key number v sees refers;
      bare = bare_still before after (told Top tt) is.bare;
      top = ap absence_views (play_same before after (told Top tt)) ∙ is.top;
      others = λ key off. same.instances key ∙ is.others key off;
      few = is.few;
      each =
          each_other (TellsOwn schema before) (TellsOwn schema after) Top f
          (λ r n below more t.
          record {
            own = t.own;
            held = ap (option_map own_of) (told (Below n.id) more) ∙ t.held;
            is_wrong = t.is_wrong;
            is_play = t.is_play;
            are_flags = t.are_flags;
          })
          is.each;
      totals = totals_there before after f told totals few is.totals;
    }

-- where all that is held of the document's rows stays
held_alike : (schema : Schema) (before after : Nodes) (f : Branches) → SameKeys before after
    → ((row : Row) → StandsIn row f → held_at after row ≡ held_at before row)
    → ((row : Row) → IfSome (told_at after row) IsFew) → IsTold schema before f → IsTold schema after f
held_alike schema before after f same held few is =
    told_alike schema before after f same (λ row there. ap (option_map (λ (h : Held). h.told)) (held row there))
    (λ row there. ap (λ (o : Option Held). option_map_or (λ (h : Held). h.total) o 0) (held row there)) few is

-- few faults can be told of what is new
few_new : (schema : Schema) (o : Option Held) → IfSome o (growing.IsFresh schema) → IfSome (option_map (λ (h : Held). h.told) o) IsFew
few_new schema None fresh = tt
few_new schema (Some h) fresh =
    subst (λ (t : Told). IsFew t) (sym fresh.told)
    (let long = length-replicate fresh.flags false in let less = fresh.few in omega (arith, long, less), omega arith)

-- what is put in beside a document leaves what is told of it
pub told_inserted : (schema : Schema) (before after : Nodes) (f : Branches) → Hangs before Top f → Grows before after → Freshens schema before after
    → IsTold schema before f → IsTold schema after f
told_inserted schema before after f hangs grows fresh is =
    held_alike schema before after f (entries_keys before after grows.entries) held few is
  where
    held : (row : Row) → StandsIn row f → held_at after row ≡ held_at before row
    held Top there = grows.held Top refl
    held (Below id) there = grows.held (Below id) (stands_held before Top f id hangs.stands there)

    still : (row : Row) → is_some (held_at before row) ≡ true → IfSome (told_at after row) IsFew
    still row there =
        subst (λ (o : Option Told). IfSome o IsFew) (sym (ap (option_map (λ (h : Held). h.told)) (grows.held row there))) (is.totals.small.each row)

    few : (row : Row) → IfSome (told_at after row) IsFew
    few Top = still Top refl
    few (Below id) = by (held_at before (Below id)) refl
      where
        by : (o : Option Held) → held_at before (Below id) ≡ o → IfSome (told_at after (Below id)) IsFew
        by None e = few_new schema (held_at after (Below id)) (fresh id e)
        by (Some h) e = still (Below id) (ap is_some e)

-- ---- what is given back

removed_entries : (ids : List NodeId) (before after : Nodes) → Removes ids before after → (key : Key) → entry_at after key ≡ entry_at before key
removed_entries [] before after removes key = ap (λ nodes. entry_at nodes key) removes
removed_entries (x ∷ ids) before after (next, changes, rest) key = removed_entries ids next after rest key ∙ changes.entries key

-- what is held of a row stays, or is gone
removed_held : (P : Option Held → Type 0) → P None → (ids : List NodeId) (before after : Nodes) → Removes ids before after → (row : Row)
    → P (held_at before row) → P (held_at after row)
removed_held P none [] before after removes row was = subst (λ (nodes : Nodes). P (held_at nodes row)) (sym removes) was
removed_held P none (x ∷ ids) before after (next, changes, rest) row was =
    removed_held P none ids next after rest row (by (same_row (Below x) row) refl)
  where
    by : (b : Bool) → same_row (Below x) row ≡ b → P (held_at next row)
    by true e = subst (λ (r : Row). P (held_at next r)) (same_rows (Below x) row e) (subst P (sym changes.changed) none)
    by false e = subst P (sym (changes.others row e)) was

pub told_removed : (schema : Schema) (before after : Nodes) (f : Branches) (above : Row) (loose : Branches) → Keeps before f above loose
    → Removes (ids_of loose) before after → IsTold schema before f → IsTold schema after f
told_removed schema before after f above loose keeps removes is =
    held_alike schema before after f (entries_keys before after (removed_entries (ids_of loose) before after removes)) held
    (λ row. removed_held (λ o. IfSome (option_map (λ (h : Held). h.told) o) IsFew) tt (ids_of loose) before after removes row (is.totals.small.each row)) is
  where
    no_top : (id : NodeId) → Top ≡ Below id → ⊥
    no_top id e = false≢true (sym (ap is_top e))
      where
        is_top : Row → Bool
        is_top Top = true
        is_top (Below m) = false

    gone : (id : NodeId) → 0 < times id.0 f → (other : NodeId) → Below id ≡ Below other → count_of other.0 (ids_of loose) ≡ 0
    gone id more other e =
        let same : id.0 ≡ other.0 = ap number e in
        let here : 0 < times other.0 f = subst (λ k. 0 < times k f) same more in
        let most = keeps.once other.0 in
        let counts = count_ids other.0 loose in
        omega (arith, here, most, counts)
      where
        number : Row → ℕ
        number Top = 0
        number (Below m) = m.0

    held : (row : Row) → StandsIn row f → held_at after row ≡ held_at before row
    held Top there = others_stay (ids_of loose) before after removes Top (λ id e. absurd (no_top id e))
    held (Below id) there = others_stay (ids_of loose) before after removes (Below id) (gone id there)

-- ---- room, and reads

pub told_roomed : (schema : Schema) (before after : Nodes) (row : Row) (f : Branches) → MakesRoom row before after → IsTold schema before f → IsTold schema after f
told_roomed schema before after row f made is =
    let same = room_faults row before after made.room made.changed in
    told_alike schema before after f (entries_keys before after made.changed.entries) (λ r there. same.told r) (λ r there. same.totals r)
    (λ r. subst (λ (o : Option Told). IfSome o IsFew) (sym (same.told r)) (is.totals.small.each r)) is

pub told_read : (schema : Schema) (before after : Nodes) (f : Branches) → OnlyReads before after → IsTold schema before f → IsTold schema after f
told_read schema before after f only is = told_still before after only.held (entries_keys before after only.entries) schema f is

-- ---- of new nodes nothing is told

fresh_node : (schema : Schema) (above : Row) (n : Numbered) (below : Branches) (o : Option Held) → option_map (λ (h : Held). h.shape) o ≡ Some (shape_of above n below)
    → IfSome o (growing.IsFresh schema)
    → (option_map (λ (h : Held). h.told) o ≡ Some (nothing_told (flag_count schema n.schema.0))) × (option_map_or (λ (h : Held). h.total) o 0 ≡ 0)
fresh_node schema above n below None shape fresh = absurd (none-some (shape_of above n below) shape)
fresh_node schema above n below (Some h) shape fresh =
    let is : h.shape ≡ shape_of above n below = same_Some h.shape (shape_of above n below) shape in
    let label : fresh.label ≡ record { schema = n.schema; value = n.value; parent = above } =
    same_Some fresh.label (record { schema = n.schema; value = n.value; parent = above }) (sym fresh.is_label ∙ ap (λ (s : Shape). s.label) is) in
    (ap Some (fresh.told ∙ ap nothing_told (fresh.are_flags ∙ ap (λ (l : Label). flag_count schema l.schema.0) label)), fresh.total)

fresh_standing : (schema : Schema) (nodes : Nodes) (above : Row) (f : Branches) → Stands nodes above f
    → ((id : NodeId) → 0 < times id.0 f → IfSome (held_at nodes (Below id)) (growing.IsFresh schema))
    → (row : Row) → Every (IsFresh schema nodes) (standing row f)
fresh_standing schema nodes above end stands new row = tt
fresh_standing schema nodes above (node n below after) stands new row =
    let here = fresh_node schema above n below (held_at nodes (Below n.id)) stands.0 (new n.id (let one = is_itself n in omega (arith, one))) in (
      record { told = here.0; total = here.1 },
      every_join (IsFresh schema nodes) (standing (Below n.id) below) (standing row after)
          (fresh_standing schema nodes (Below n.id) below stands.1 (λ id more. new id (omega (arith, more))) (Below n.id))
          (fresh_standing schema nodes above after stands.2 (λ id more. new id (omega (arith, more))) row),
    )

pub fresh_inserted : (schema : Schema) (above : Row) (id : NodeId) (label : Stored) (below : Tree) (before after : Nodes) (had has : List NodeId)
    (made : Inserts above id label below before after had has) → Freshens schema before after
    → (row : Row) → Every (IsFresh schema after) (standing row (node made.root (laid made.branches) end))
fresh_inserted schema above id label below before after had has made fresh row =
    fresh_standing schema after above (node made.root (laid made.branches) end) made.stands
    (λ other more. fresh other (made.new other (let same = weigh_laid_on (is_number other.0) end made.branches in omega (arith, more, same)))) row

pub fresh_roomed : (schema : Schema) (before after : Nodes) (row : Row) (ss : List Standing) → MakesRoom row before after
    → Every (IsFresh schema before) ss → Every (IsFresh schema after) ss
fresh_roomed schema before after row ss made fresh =
    let same = room_faults row before after made.room made.changed in
    every_map (IsFresh schema before) (IsFresh schema after)
    (λ s new. record { told = same.told (Below s.label.id) ∙ new.told; total = same.totals (Below s.label.id) ∙ new.total }) ss fresh
