-- For callers: what growths make ready, and what a loan leaves.
use Rattle.std.proofs.Common.{◌≡◌, ◌+◌, ◌-◌, ◌<◌, ◌≤◌, ℕ, zero, suc, Bool, true, false, cond, List, [], ◌∷◌, length, Option, Some, None, option_map, refl, sym, subst, ap, ◌∙◌, arith, ltb, leb, insert, remove, one-add}
use Rattle.std.specs.Prelude.{IfSome, unwrap_or}
use Rattle.std.specs.List.{prefix_len}
use Rattle.std.specs.Option.{option_map_or}
use Rattle.std.proofs.lemmas.Bool.{le-leb, le-ltb, lt-ltb}
use Rattle.std.proofs.lemmas.List.Sums.{prefix_len-le-length}
use Rattle.ystore.specs.Entries as entries
use Rattle.ystore.specs.Held.{Held, with_room}
use Rattle.ystore.specs.Index.{made_ready}
use Rattle.ystore_rows.specs.Rows.{Child, added, without_last, first_place, end_place}
use Rattle.ystore.specs.Store.{held_at, entry_at, loans, reads, has_room, is_awaited, ChangesEntry, MakesRoom}
use Rattle.std.specs.Borrow.{GName}
use Rattle.ystore.specs.Views.{Loan, lent, new_loan, store_of}
use Rattle.ystore.specs.declared.key.Key.{Key}
use Rattle.ystore.specs.declared.nodes.Nodes.{Nodes}
use Rattle.ystore.specs.declared.nodes.counted.Counted.{Counted}
use Rattle.ystore_rows.specs.declared.row.Row.{Row}

room_for : (room : ℕ) (o : Option Held) → length (option_map_or (λ held. held.shape.children) o []) < room
    → IfSome (option_map (with_room room) o) (λ held. length held.shape.children < held.room)
room_for room (Some held) more = more
room_for room None more = tt

-- a row of which a call made room has room
pub room_is_there : (before after : Nodes) (row : Row) → MakesRoom row before after → has_room after row
room_is_there before after row made =
    subst (λ o. IfSome o (λ held. length held.shape.children < held.room)) (sym made.changed.changed) (room_for made.room (held_at before row) made.enough)

-- a key at which a call awaits a node is awaited
pub node_is_awaited : (before after : Nodes) (key : Key) → ChangesEntry key (made_ready entries.with_awaited) before after → is_awaited after key
node_is_awaited before after key changes =
    let more : 0 < (unwrap_or (entry_at before key) entries.none).awaited + 1 = omega arith in
    subst (λ o. IfSome o (λ e. 0 < e.awaited)) (sym changes.changed) more

-- however long a store is lent, it counts no fewer reading calls than before, and one loan more
pub reads_rise : (name : GName) (before : Nodes) (c : Counted) → lent c ≡ new_loan name before → reads before ≤ reads (store_of c)
reads_rise name before c same = omega (arith, ap (λ (l : Loan). l.begun) same, c.nodes.now.count.risen)

pub lent_once : (name : GName) (before : Nodes) (c : Counted) → lent c ≡ new_loan name before → loans (store_of c) ≡ loans before + 1
lent_once name before c same = ap (λ (l : Loan). l.loans) same
