-- Nodes that leave keys and join them, one after another.
use Rattle.std.proofs.Common.{◌≡◌, ℕ, ◌+◌, ◌*◌, ◌<◌, ◌≤◌, Bool, true, false, List, [], ◌∷◌, length, drop, get_or, Option, Some, None, option_map, refl, sym, ap, ◌∙◌, arith, subst}
use Rattle.std.specs.Option.{option_map_or}
use Rattle.std.specs.Prelude.{string_bytes}
use Rattle.std.proofs.lemmas.Bool.{false≢true}
use Rattle.std.proofs.lemmas.Option.{none-some, same_Some}
use Rattle.std.proofs.lemmas.List.{at_drop_more, at_drop_all}
use Rattle.ystore.specs.Entries.{Entry}
use Rattle.ystore.specs.Held.{Held, Told}
use Rattle.ystore.specs.Store.{held_at, same_at, entry_at, reads, same_key}
use Rattle.ystore.specs.declared.record.Judged.{Judged}
use Rattle.ystore.specs.declared.record.Judged.TheVariants.{Right, Wrong, Missing}
use Rattle.ystore_rows.specs.declared.row.NodeId.{NodeId}
use Rattle.ystore_rows.specs.declared.row.Row.{Row}
use Rattle.ystore_rows.specs.declared.row.Row.TheVariants.{Top, Below}
use Rattle.ystore.specs.declared.key.Key.{Key}
use Rattle.ystore.specs.declared.nodes.Nodes.{Nodes}
use Rattle.ystore_tree.specs.Hanging.{Branches, times}
use Rattle.ystore_tree.specs.Changes.{SameShapes}
use Rattle.ystore_tree.proofs.FrameLemmas.{hangs_same}
use Rattle.ylive_marks.specs.Keys as told
use Rattle.ylive_marks.specs.Keys.{AreKeys, Agrees, ChangesKey, CanHold, IsJudged, Keys, Own, flag_of, has_key, is_missing, own_at, own_of, slot_for, slot_of, two_climbs, with_key, wrong_of}
use Rattle.ylive_retell.specs.Assigned as assigned
use Rattle.ylive_retell.specs.Assigned.{CanJoin, CanLeave, joined, left, without_key}
use Rattle.ylive_marks.specs.Totals.{IsTree, Totals, told_at, judged_at}
use Rattle.ylive_retell.specs.Joins.{Follows, KeepsRows, KeepsInstances, KeepsAwaited, HasOwn, CanHoldAll, fits_flag}

-- ---- rows

pub keeps_itself : (nodes : Nodes) → KeepsRows nodes nodes
keeps_itself nodes = record { shapes = λ row. refl; rooms = λ row. refl; node_count = refl }

pub keeps_on : (first second third : Nodes) → KeepsRows first second → KeepsRows second third → KeepsRows first third
keeps_on first second third a b =
    record {
      shapes = λ row. b.shapes row ∙ a.shapes row;
      rooms = λ row. b.rooms row ∙ a.rooms row;
      node_count = b.node_count ∙ a.node_count;
    }

pub shapes_of : (before after : Nodes) → KeepsRows before after → SameShapes before after
shapes_of before after keeps = record { shapes = keeps.shapes; all = keeps.node_count }

pub tree_on : (before after : Nodes) (f : Branches) → SameShapes before after → IsTree before f → IsTree after f
tree_on before after f same tree =
    record {
      hangs = hangs_same before after same Top f tree.hangs;
      once = tree.once;
      within = let all = same.all in let few = tree.within in omega (arith, all, few);
    }

-- a change of an entry that leaves one of its numbers
abbrev pub number_at : (Entry → ℕ) → Nodes → Key → ℕ
number_at p nodes key = option_map_or p (entry_at nodes key) 0

pub number_kept : (laws : AreKeys) (p : Entry → ℕ) (key : Key) (change : Entry → Entry) (before after : Nodes) → ((e : Entry) → p (change e) ≡ p e)
    → ChangesKey key change before after → (other : Key) → number_at p after other ≡ number_at p before other
number_kept laws p key change before after same changes other = by (same_key key other) refl
  where
    counts : (o : Option Entry) → option_map_or p (option_map change o) 0 ≡ option_map_or p o 0
    counts None = refl
    counts (Some e) = same e

    by : (b : Bool) → same_key key other ≡ b → number_at p after other ≡ number_at p before other
    by true e =
        ap (λ (o : Option Entry). option_map_or p o 0) (sym (laws.found after key other e) ∙ changes.changed)
        ∙ (counts (entry_at before key) ∙ ap (λ (o : Option Entry). option_map_or p o 0) (laws.found before key other e))
    by false e = ap (λ (o : Option Entry). option_map_or p o 0) (changes.others other e)

pub rows_of : (key : Key) (change : Entry → Entry) (before after : Nodes) → ChangesKey key change before after → KeepsRows before after
rows_of key change before after changes = record { shapes = changes.shapes; rooms = changes.rooms; node_count = changes.node_count }

pub instances_on : (first second third : Nodes) → KeepsInstances first second → KeepsInstances second third → KeepsInstances first third
instances_on first second third a b key = b key ∙ a key

pub awaited_on : (first second third : Nodes) → KeepsAwaited first second → KeepsAwaited second third → KeepsAwaited first third
awaited_on first second third a b key = b key ∙ a key

-- ---- what is told

pub follows_itself : (nodes : Nodes) (held : Keys) (f : Branches) → Agrees nodes held f → Totals nodes f → Follows held f nodes nodes
follows_itself nodes held f agrees totals = record { agrees = agrees; totals = totals; own = λ row. refl; top = refl; beside = λ id none. refl; totals_beside = λ id none. refl }

pub follows_on : (held now : Keys) (f : Branches) (first second third : Nodes) → Follows held f first second → Follows now f second third → Follows now f first third
follows_on held now f first second third a b =
    record {
      agrees = b.agrees;
      totals = b.totals;
      own = λ row. b.own row ∙ a.own row;
      top = b.top ∙ a.top;
      beside = λ id none. b.beside id none ∙ a.beside id none;
      totals_beside = λ id none. b.totals_beside id none ∙ a.totals_beside id none;
    }

-- whatever it took
pub follows_of : (cost : ℕ) (held : Keys) (f : Branches) (before after : Nodes) → told.Follows cost held f before after → Follows held f before after
follows_of cost held f before after a =
    record { agrees = a.agrees; totals = a.totals; own = a.own; top = a.top; beside = a.beside; totals_beside = a.totals_beside }

-- ---- one step

pub drop_more : {A : Type 0} (xs : List A) (i : ℕ) (x : A) → i < length xs → x ≡ get_or xs i x → drop i xs ≡ x ∷ drop (i + 1) xs
drop_more xs i x within is = at_drop_more (λ ys. ys) xs i x within ∙ ap (λ y. y ∷ drop (i + 1) xs) (sym is)

once_more : (i cost first before after : ℕ) → before ≤ first + i * cost → after ≤ before + cost → after ≤ first + (i + 1) * cost
once_more i cost first before after so_far one = omega (arith, so_far, one)

-- so many times for all of them
pub read_each : (keys : List (Key × NodeId)) (i cost first count : ℕ) → length keys ≤ i → i ≤ length keys → count ≤ first + i * cost → count ≤ first + length keys * cost
read_each keys i cost first count over within so_far =
    let e : i * cost ≡ length keys * cost = let same : i ≡ length keys = omega (arith, over, within) in ap (λ k. k * cost) same in omega (arith, so_far, e)

-- one leaves, and the others can
pub one_left : (keys : List (Key × NodeId)) (i : ℕ) (p : Key × NodeId) (held now : Keys) (f : Branches) (first before after : Nodes) → drop i keys ≡ p ∷ drop (i + 1) keys
    → Follows now f first before → CanLeave slot_of same_key now (drop i keys) → left slot_of (drop i keys) now ≡ left slot_of keys held
    → reads before ≤ reads first + i * two_climbs f
    → (has_key now p.1.0 p.0 ≡ true → told.Follows (two_climbs f) (with_key p.1.0 (slot_of p.0) None now) f before after)
    → (then : Keys) × Follows then f first after × CanLeave slot_of same_key then (drop (i + 1) keys) × (left slot_of (drop (i + 1) keys) then ≡ left slot_of keys held)
    × (reads after ≤ reads first + (i + 1) * two_climbs f)
one_left keys i p held now f first before after drops follows can is so_far leaves =
    let here = subst (CanLeave slot_of same_key now) drops can in
    let next = leaves here.0 in (
      without_key slot_of p now,
      follows_on now (without_key slot_of p now) f first before after follows (follows_of (two_climbs f) (without_key slot_of p now) f before after next),
      here.1,
      sym (ap (λ ps. left slot_of ps now) drops) ∙ is,
      once_more i (two_climbs f) (reads first) (reads before) (reads after) so_far next.reads,
    )

pub all_left : (keys : List (Key × NodeId)) (i : ℕ) (held now : Keys) (f : Branches) (first last : Nodes) → length keys ≤ i → Follows now f first last
    → left slot_of (drop i keys) now ≡ left slot_of keys held → Follows (left slot_of keys held) f first last
all_left keys i held now f first last over follows is =
    subst (λ (k : Keys). Follows k f first last) (sym (at_drop_all (λ ps. left slot_of ps now) keys i over) ∙ is) follows

-- a node of a forest can hold the key that it joins
pub can_hold : (nodes : Nodes) (held : Keys) (f : Branches) (p : Key × NodeId) → Agrees nodes held f → 0 < times p.1.0 f → held p.1.0 (slot_of p.0) ≡ None
    → HasOwn (own_at nodes (Below p.1)) (fits_flag (flag_of p.0)) → CanHold nodes p.1 (flag_of p.0)
can_hold nodes held f p agrees stands none has = by (flag_of p.0) (told_at nodes (Below p.1)) (held_at nodes (Below p.1)) refl refl none has
  where
    right : (j : Judged) → is_missing j ≡ false → wrong_of j ≡ None → j ≡ Right
    right Right m w = refl
    right Missing m w = absurd (false≢true (sym m))
    right (Wrong tag) m w = absurd (none-some (option_map string_bytes tag) (sym w))

    by : (flag : Option ℕ) (t : Option Told) (h : Option Held) → told_at nodes (Below p.1) ≡ t → held_at nodes (Below p.1) ≡ h → held p.1.0 (slot_for flag) ≡ None
        → HasOwn (option_map own_of t) (fits_flag flag) → CanHold nodes p.1 flag
    by flag None h is held_is none has = absurd has
    by (Some u) (Some t) None is held_is none has = absurd (none-some t (sym (ap (option_map (λ (x : Held). x.told)) held_is) ∙ is))
    by (Some u) (Some t) (Some x) is held_is none has =
        let same : x.told ≡ t = same_Some x.told t (sym (ap (option_map (λ (x : Held). x.told)) held_is) ∙ is) in
        let flags : length (same_at nodes p.1) ≡ length t.same =
        ap (λ (o : Option Held). length (option_map_or (λ (y : Held). y.told.same) o [])) held_is ∙ ap (λ (y : Told). length y.same) same in
        omega (arith, has, flags)
    by None (Some t) h is held_is none has =
        let judged : judged_at nodes p.1 ≡ Some t.judged = ap (option_map (λ (x : Told). x.judged)) is in
        judged ∙ ap Some (right t.judged (missing_of (agrees.tells.judged p.1 stands) t.judged judged none) has)
      where
        missing_of : IsJudged nodes (held p.1.0 0) (judged_at nodes p.1) → (j : Judged) → judged_at nodes p.1 ≡ Some j → held p.1.0 0 ≡ None → is_missing j ≡ false
        missing_of told j judged none =
            sym (ap (λ (o : Option Judged). option_map_or is_missing o false) judged) ∙ subst (λ (k : Option Key). IsJudged nodes k (judged_at nodes p.1)) none told

pub own_still : (before after : Nodes) (f : Branches) (ps : List (Key × NodeId)) → ((row : Row) → own_at after row ≡ own_at before row)
    → CanHoldAll before f ps → CanHoldAll after f ps
own_still before after f [] own can = tt
own_still before after f (p ∷ ps) own can =
    ((can.0.0, subst (λ (o : Option Own). HasOwn o (fits_flag (flag_of p.0))) (sym (own (Below p.1))) can.0.1), own_still before after f ps own can.1)

-- one joins, and the others can
pub one_joined : (keys : List (Key × NodeId)) (i : ℕ) (p : Key × NodeId) (held now : Keys) (f : Branches) (first before after : Nodes) → drop i keys ≡ p ∷ drop (i + 1) keys
    → Follows now f first before → CanJoin slot_of now (drop i keys) → CanHoldAll before f (drop i keys) → joined slot_of (drop i keys) now ≡ joined slot_of keys held
    → reads before ≤ reads first + i * two_climbs f
    → (0 < times p.1.0 f → now p.1.0 (slot_of p.0) ≡ None → CanHold before p.1 (flag_of p.0)
    → told.Follows (two_climbs f) (with_key p.1.0 (slot_of p.0) (Some p.0) now) f before after)
    → (then : Keys) × Follows then f first after × CanJoin slot_of then (drop (i + 1) keys) × CanHoldAll after f (drop (i + 1) keys)
    × (joined slot_of (drop (i + 1) keys) then ≡ joined slot_of keys held) × (reads after ≤ reads first + (i + 1) * two_climbs f)
one_joined keys i p held now f first before after drops follows can hold is so_far joins =
    let here = subst (CanJoin slot_of now) drops can in
    let holds = subst (CanHoldAll before f) drops hold in
    let next = joins holds.0.0 here.0 (can_hold before now f p follows.agrees holds.0.0 here.0 holds.0.1) in (
      assigned.with_key slot_of p now,
      follows_on now (assigned.with_key slot_of p now) f first before after follows (follows_of (two_climbs f) (assigned.with_key slot_of p now) f before after next),
      here.1,
      own_still before after f (drop (i + 1) keys) next.own holds.1,
      sym (ap (λ ps. joined slot_of ps now) drops) ∙ is,
      once_more i (two_climbs f) (reads first) (reads before) (reads after) so_far next.reads,
    )

pub all_joined : (keys : List (Key × NodeId)) (i : ℕ) (held now : Keys) (f : Branches) (first last : Nodes) → length keys ≤ i → Follows now f first last
    → joined slot_of (drop i keys) now ≡ joined slot_of keys held → Follows (joined slot_of keys held) f first last
all_joined keys i held now f first last over follows is =
    subst (λ (k : Keys). Follows k f first last) (sym (at_drop_all (λ ps. joined slot_of ps now) keys i over) ∙ is) follows
