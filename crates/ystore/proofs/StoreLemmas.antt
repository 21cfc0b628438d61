-- What becomes of a store where a record or an entry of it changes.
use Rattle.std.proofs.Common.{Bool, true, List, ◌∷◌, ◌≡◌, ℕ, ◌+◌, ◌<◌, false, cond, [], length, Option, Some, None, is_some, option_map, Result, Ok, Err, OnErr, OnOk, refl, sym, ap, ◌∙◌, subst, arith, Less, Equal, Greater, Ordering, is_eq}
use Rattle.std.specs.BTreeMap.{BTreeMap}
use Rattle.std.specs.Cmp.{IsTotalOrder}
use Rattle.std.specs.Map.{lookup}
use Rattle.std.specs.Option.{option_map_or}
use Rattle.std.proofs.lemmas.Cmp.{tied_itself}
use Rattle.std.proofs.lemmas.Bool.{eq-eqb, eqb-true, false≢true}
use Rattle.std.proofs.lemmas.List.Sums.{sum_by-set}
use Rattle.slab.specs.Slab.{Slab, get, slab_len, with_value, Updates}
use Rattle.slab.proofs.SlabLemmas.{ContainsKey-within, Updates-with_value}
use Rattle.ystore.specs.Entries as entries
use Rattle.ystore.specs.Index.{entry_by}
use Rattle.ystore.specs.declared.entry.Entry.{Entry}
use Rattle.ystore.specs.Held.{Held, held_of, with_children, with_room}
use Rattle.ystore.specs.Lending.{with_record}
use Rattle.ystore.specs.Store.{record_at, held_at, there, same_row, ChangesRow, MakesRoom, Stays}
use Rattle.ystore_rows.specs.Rows.{Child}
use Rattle.ystore_rows.specs.declared.row.NodeId.{NodeId}
use Rattle.ystore_rows.specs.declared.row.Row.{Row}
use Rattle.ystore_rows.specs.declared.row.Row.TheVariants.{Top, Below}
use Rattle.ystore_rows.specs.declared.extent.Extent.{Extent}
use Rattle.ystore_rows.specs.Within.{Within, within_of}
use Rattle.ystore.specs.declared.record.Record.{Record}
use Rattle.ystore.specs.declared.nodes.Nodes.{Nodes}

abbrev slot_count : Option Record → ℕ
slot_count o = cond (is_some o) 1 0

there_held : (o : Option Record) → there (option_map held_of o) ≡ slot_count o
there_held (Some r) = refl
there_held None = refl

-- one slot of the records is changed
pub slot_changed : (nodes : Nodes) (new : Slab Record) (id : NodeId) (slot : Option Record) (change : Option Held → Option Held)
    → Updates nodes.records new id.0 slot
    → slab_len new + slot_count (get nodes.records id.0) ≡ slab_len nodes.records + slot_count slot
    → option_map held_of slot ≡ change (held_at nodes (Below id))
    → ChangesRow (Below id) change nodes (record nodes { records = new })
slot_changed nodes new id slot change updates lengths made =
    let here = updates.changed in
    record {
      changed = ap (option_map held_of) here ∙ made;
      others = by;
      entries = λ key. refl;
      reads = refl;
      node_count = omega (arith, lengths, there_held (get nodes.records id.0), there_held (get new id.0), ap slot_count here);
    }
  where
    by : (other : Row) → same_row (Below id) other ≡ false → held_at (record nodes { records = new }) other ≡ held_at nodes other
    by Top apart = refl
    by (Below m) apart = ap (option_map held_of) (updates.others m.0 (λ same. false≢true (sym apart ∙ eq-eqb id.0 m.0 (sym same))))

slot_written : (s : Slab Record) (key : ℕ) (was w : Record) → get s key ≡ Some was → slab_len (with_value s key w) + slot_count (get s key) ≡ slab_len s + slot_count (Some w)
slot_written s key was w e =
    sum_by-set slot_count s.slots key (Some w) None (ContainsKey-within s key (rw e refl))

-- a record is written through the reference that was lent
pub record_changed : (nodes : Nodes) (row : Row) (was w : Record) (change : Option Held → Option Held)
    → record_at nodes row ≡ Some was → Some (held_of w) ≡ change (Some (held_of was))
    → ChangesRow row change nodes (with_record nodes row w)
record_changed nodes Top was w change e made =
    record {
      changed = made ∙ ap (λ o. change (option_map held_of o)) (sym e);
      others = by;
      entries = λ key. refl;
      reads = refl;
      node_count = refl;
    }
  where
    by : (other : Row) → same_row Top other ≡ false → held_at (record nodes { top = w }) other ≡ held_at nodes other
    by Top apart = absurd (false≢true (sym apart))
    by (Below m) apart = refl
record_changed nodes (Below id) was w change e made =
    slot_changed nodes (with_value nodes.records id.0 w) id (Some w) change
    (Updates-with_value nodes.records id.0 w (rw e refl))
    (slot_written nodes.records id.0 was w e)
    (made ∙ ap (λ o. change (option_map held_of o)) (sym e))

-- there is room for more nodes
pub resized : (nodes : Nodes) (new : Slab Record) → new ≡ record nodes.records { capacity = new.capacity } → Stays nodes (record nodes { records = new })
resized nodes new e =
    record {
      held = by;
      entries = λ key. refl;
      reads = refl;
      node_count = ap slab_len e;
    }
  where
    by : (row : Row) → held_at (record nodes { records = new }) row ≡ held_at nodes row
    by Top = refl
    by (Below id) = ap (λ s. option_map held_of (get s id.0)) e

-- what is held of a record, by what is held of its extent
abbrev held_with : Record → Within → Held
held_with r w = record (held_of r) { shape = record (held_of r).shape { children = w.children }; told = record (held_of r).told { same = w.same; play = w.play }; room = w.room }

-- the nodes of a row are changed
pub extent_changed : (nodes : Nodes) (row : Row) (was : Record) (extent : Extent) (change : List Child → List Child) → record_at nodes row ≡ Some was
    → within_of extent ≡ record (within_of was.extent) { children = change (within_of was.extent).children }
    → ChangesRow row (option_map (with_children change)) nodes (with_record nodes row (record was { extent = extent }))
extent_changed nodes row was extent change e made =
    record_changed nodes row was (record was { extent = extent }) (option_map (with_children change)) e (ap (λ w. Some (held_with was w)) made)

-- a row has room for one child more
pub room_made : (nodes : Nodes) (row : Row) (was : Record) (extent : Extent) → record_at nodes row ≡ Some was
    → within_of extent ≡ record (within_of was.extent) { room = (within_of extent).room } → length (within_of extent).children < (within_of extent).room
    → MakesRoom row nodes (with_record nodes row (record was { extent = extent }))
room_made nodes row was extent e same more =
    record {
      room = (within_of extent).room;
      enough = omega (arith, more, ap (λ w. length w.children) same, ap (λ o. length (option_map_or (λ held. held.shape.children) (option_map held_of o) [])) e);
      changed = record_changed nodes row was (record was { extent = extent }) (option_map (with_room (within_of extent).room)) e
          (ap (λ w. Some (held_with was w)) same);
    }

-- ---- a change behind which no row changes

rows_alike : (row other : Row) → same_row row other ≡ true → row ≡ other
rows_alike Top Top e = refl
rows_alike (Below m) (Below n) e = ap (λ (k : ℕ). let id : NodeId = record { 0 = k } in Below id) (eqb-true m.0 n.0 e)
rows_alike Top (Below n) e = absurd (false≢true e)
rows_alike (Below m) Top e = absurd (false≢true e)

held_still : (row other : Row) (before after : Nodes) → ChangesRow row (λ held. held) before after → held_at after other ≡ held_at before other
held_still row other before after changes = by (same_row row other) refl
  where
    by : (b : Bool) → same_row row other ≡ b → held_at after other ≡ held_at before other
    by true e = subst (λ (r : Row). held_at after r ≡ held_at before r) (rows_alike row other e) changes.changed
    by false e = changes.others other e

pub then_kept : (row other : Row) (change : Option Held → Option Held) (before mid after : Nodes)
    → ChangesRow row change before mid → ChangesRow other (λ held. held) mid after → ChangesRow row change before after
then_kept row other change before mid after first second =
    record {
      changed = held_still other row mid after second ∙ first.changed;
      others = λ r apart. held_still other r mid after second ∙ first.others r apart;
      entries = λ key. second.entries key ∙ first.entries key;
      reads = second.reads ∙ first.reads;
      node_count =
          let a = first.node_count in
          let b = second.node_count in
          let c = ap there second.changed in
          let d = ap there (held_still other row mid after second) in
          omega (arith, a, b, c, d);
    }

-- a row is written as it was
pub extent_kept : (nodes : Nodes) (row : Row) (was : Record) (extent : Extent) → record_at nodes row ≡ Some was
    → within_of extent ≡ within_of was.extent → Stays nodes (with_record nodes row (record was { extent = extent }))
extent_kept nodes row was extent e same =
    let after = with_record nodes row (record was { extent = extent }) in
    let changes = record_changed nodes row was (record was { extent = extent }) (λ held. held) e (ap (λ w. Some (held_with was w)) same) in
    record {
      held = λ other. held_still row other nodes after changes;
      entries = changes.entries;
      reads = changes.reads;
      node_count = let a = changes.node_count in let b = ap there changes.changed in omega (arith, a, b);
    }

pub on_ok : {X Y : Type 0} {P Q : Type 0} (r : Result X Y) → OnOk r P → (P → Q) → OnOk r Q
on_ok (Ok x) h more = more h
on_ok (Err e) h more = tt

pub on_err : {X Y : Type 0} {P Q : Type 0} (r : Result X Y) → OnErr r P → (P → Q) → OnErr r Q
on_err (Ok x) h more = tt
on_err (Err e) h more = more h

-- ---- keys that are the same

lookup_alike : {K X : Type 0} (s t : K → Bool) (es : List (K × X)) → ((k : K) → s k ≡ t k) → lookup s es ≡ lookup t es
lookup_alike s t [] alike = refl
lookup_alike s t (e ∷ es) alike =
    ap (λ b. cond b (Some e.1) (lookup s es)) (alike e.0) ∙ ap (λ o. cond (t e.0) (Some e.1) o) (lookup_alike s t es alike)

equal_is : (r : Ordering) → is_eq r ≡ true → r ≡ Equal
equal_is Less e = absurd (false≢true e)
equal_is Equal e = refl
equal_is Greater e = absurd (false≢true e)

module _ {K : Type 0} {R : K → K → Ordering} (o : IsTotalOrder R) where
  pub same_as_itself : (key : K) → is_eq (R key key) ≡ true
  same_as_itself key = ap is_eq (tied_itself o key)

  pub found_alike : (index : BTreeMap K Entry) (key other : K) → is_eq (R key other) ≡ true → entry_by R index key ≡ entry_by R index other
  found_alike index key other e =
      ap (option_map entries.entry_of) (lookup_alike (λ k. is_eq (R key k)) (λ k. is_eq (R other k)) index.entries
      (λ k. ap is_eq (o.congr key other k (equal_is (R key other) e))))
