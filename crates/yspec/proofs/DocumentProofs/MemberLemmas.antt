-- The members of an object that is read stand in the order of their names, each name once.
use Rattle.std.proofs.Common.{◌≡◌, ◌≢◌, ℕ, Bool, true, false, cond, List, Option, Some, None, Ordering, Less, Equal, Greater, nat_cmp, is_eq, refl, sym, ap, ◌∙◌, subst}
use Rattle.std.proofs.lemmas.Cmp.{nat_list_cmp_total, tied_itself}
use Rattle.std.proofs.lemmas.Map.Text.{is_eq-slice_cmp}
use Rattle.std.proofs.lemmas.Slice.Eq.{bytes_eq-Decides}
use Rattle.std.specs.Cmp.Lexicographic.{slice_cmp}
use Rattle.std.specs.Ordering.{match_ordering, ordering_reverse}
use Rattle.std.specs.Prelude.{option_map, option_and_then}
use Rattle.std.specs.Str.{is_utf8}
use Rattle.json.specs.Json as json
use Rattle.json.specs.Lex.{tokens}
use Rattle.serde_json.specs.Data.{Data, null, boolean, number, string, array, object, Items, no_items, item, Members, no_members, member, put}
use Rattle.serde_json.specs.Find.{get_member}
use Rattle.serde_json.specs.Read.{of_json, of_items, of_members, number_of, max_depth, read}
use Rattle.yspec.specs.text.Text.{Text}
use Rattle.yspec.specs.document.Reading.{json_of}

-- a name stands before all members
abbrev IsBefore : Text → Members → Type 0
IsBefore k no_members = Unit {0}
IsBefore k (member l e ms) = (slice_cmp nat_cmp k l ≡ Less) × IsBefore k ms

-- in an object, and in those that its members have or the items of an array are, the names rise
abbrev mutual
  pub IsRising : Data → Type 0
  IsRising null = Unit {0}
  IsRising (boolean b) = Unit {0}
  IsRising (number n) = Unit {0}
  IsRising (string t) = Unit {0}
  IsRising (array ds) = ItemsRise ds
  IsRising (object ms) = AreRising ms

  pub ItemsRise : Items → Type 0
  ItemsRise no_items = Unit {0}
  ItemsRise (item d ds) = IsRising d × ItemsRise ds

  pub AreRising : Members → Type 0
  AreRising no_members = Unit {0}
  AreRising (member k d ms) = IsBefore k ms × IsRising d × AreRising ms

-- ---- looking up

equal_names : (k l : Text) → slice_cmp nat_cmp k l ≡ Equal → k ≡ l
equal_names k l e = (bytes_eq-Decides k l).0 (sym (is_eq-slice_cmp k l) ∙ ap is_eq e)

pub first_member : (k : Text) (d : Data) (ms : Members) → get_member k (member k d ms) ≡ Some d
first_member k d ms = ap (λ o. match_ordering o (get_member k ms) (Some d) (get_member k ms)) (tied_itself nat_list_cmp_total k)

pub other_member : (k l : Text) (d : Data) (ms : Members) → k ≢ l → get_member k (member l d ms) ≡ get_member k ms
other_member k l d ms other = go (slice_cmp nat_cmp k l) refl
  where
    go : (o : Ordering) → slice_cmp nat_cmp k l ≡ o → match_ordering o (get_member k ms) (Some d) (get_member k ms) ≡ get_member k ms
    go Less e = refl
    go Equal e = absurd (other (equal_names k l e))
    go Greater e = refl

pub none_behind : (k : Text) (ms : Members) → IsBefore k ms → get_member k ms ≡ None
none_behind k no_members before = refl
none_behind k (member l e ms) before =
    ap (λ o. match_ordering o (get_member k ms) (Some e) (get_member k ms)) before.0 ∙ none_behind k ms before.1

-- ---- putting in

before_all : (k l : Text) (ms : Members) → slice_cmp nat_cmp k l ≡ Less → IsBefore l ms → IsBefore k ms
before_all k l no_members first before = tt
before_all k l (member m e ms) first before = (nat_list_cmp_total.trans k l m first before.0, before_all k l ms first before.1)

before_put : (k l : Text) (d : Data) (ms : Members) → slice_cmp nat_cmp k l ≡ Less → IsBefore k ms → IsBefore k (put l d ms)
before_put k l d no_members first before = (first, tt)
before_put k l d (member m e ms) first before = go (slice_cmp nat_cmp l m) (before_put k l d ms first before.1)
  where
    go : (o : Ordering) → IsBefore k (put l d ms) → IsBefore k (match_ordering o (member l d (member m e ms)) (member m d ms) (member m e (put l d ms)))
    go Less later = (first, before)
    go Equal later = before
    go Greater later = (before.0, later)

put_rising : (k : Text) (d : Data) (ms : Members) → IsRising d → AreRising ms → AreRising (put k d ms)
put_rising k d no_members this rising = (tt, this, tt)
put_rising k d (member l e ms) this rising = go (slice_cmp nat_cmp k l) refl (put_rising k d ms this rising.2)
  where
    go : (o : Ordering) → slice_cmp nat_cmp k l ≡ o → AreRising (put k d ms)
        → AreRising (match_ordering o (member k d (member l e ms)) (member l d ms) (member l e (put k d ms)))
    go Less is later = ((is, before_all k l ms is rising.0), this, rising)
    go Equal is later = (rising.0, this, rising.2)
    go Greater is later = (before_put l k d ms (nat_list_cmp_total.antisymm l k ∙ ap ordering_reverse is) rising.0, rising.1, later)

-- ---- reading

mapped : {A B : Type 0} (f : A → B) (o : Option A) (b : B) → option_map f o ≡ Some b → (a : A) × (o ≡ Some a) × (f a ≡ b)
mapped f None b e = absurd cc
mapped f (Some a) b e = (a, refl, cc)

chained : {A B : Type 0} (f : A → Option B) (o : Option A) (b : B) → option_and_then f o ≡ Some b → (a : A) × (o ≡ Some a) × (f a ≡ Some b)
chained f None b e = absurd cc
chained f (Some a) b e = (a, refl, e)

mutual
  read_rising : (j : json.Json) (d : Data) → of_json j ≡ Some d → IsRising d
  read_rising json.null d e = subst IsRising (let is : null ≡ d = cc in is) tt
  read_rising (json.boolean b) d e = subst IsRising (let is : boolean b ≡ d = cc in is) tt
  read_rising (json.number s) d e = let m = mapped number (number_of s) d e in subst IsRising m.2 tt
  read_rising (json.string s) d e = subst IsRising (let is : string s ≡ d = cc in is) tt
  read_rising (json.array js) d e = let m = mapped array (of_items js) d e in subst IsRising m.2 (items_rise js m.0 m.1)
  read_rising (json.object ms) d e =
      let m = mapped object (of_members ms no_members) d e in subst IsRising m.2 (members_rising ms no_members m.0 tt m.1)

  items_rise : (js : json.Items) (ds : Items) → of_items js ≡ Some ds → ItemsRise ds
  items_rise json.no_items ds e = subst ItemsRise (let is : no_items ≡ ds = cc in is) tt
  items_rise (json.item j js) ds e =
      let m = chained (λ d. option_map (item d) (of_items js)) (of_json j) ds e in
      let rest = mapped (item m.0) (of_items js) ds m.2 in
      subst ItemsRise rest.2 (read_rising j m.0 m.1, items_rise js rest.0 rest.1)

  members_rising : (ms : json.Members) (found all : Members) → AreRising found → of_members ms found ≡ Some all → AreRising all
  members_rising json.no_members found all rising e = subst AreRising (let is : found ≡ all = cc in is) rising
  members_rising (json.member k j ms) found all rising e =
      let m = chained (λ d. of_members ms (put k d found)) (of_json j) all e in
      members_rising ms (put k m.0 found) all (put_rising k m.0 found (read_rising j m.0 m.1) rising) m.2

pub json_rising : (bytes : List ℕ) (d : Data) → json_of bytes ≡ Some d → IsRising d
json_rising bytes d e = go (is_utf8 bytes) e
  where
    go : (b : Bool) → cond b (read bytes) None ≡ Some d → IsRising d
    go true e =
        let m = chained of_json (option_and_then (λ p. json.if_last p.0 p.1) (json.value max_depth (tokens bytes))) d e in read_rising m.0 d m.2
    go false e = absurd cc
