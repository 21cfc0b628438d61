-- Whether any member is given twice, beside what a strict read asks.
use Rattle.std.proofs.Common.{◌≡◌, ◌≢◌, suc, Bool, true, false, cond, ◌||◌, List, [], ◌∷◌, Option, Some, None, Result, Err, All, refl, sym, ap, ◌∙◌, arith}
use Rattle.std.specs.Prelude.{IsSomeAnd}
use Rattle.std.specs.Bool.{Decides}
use Rattle.std.specs.Option.{option_map_or}
use Rattle.std.specs.Str.{IsUtf8}
use Rattle.std.proofs.lemmas.Str.{is_utf8-from_IsUtf8}
use Rattle.std.proofs.lemmas.Slice.Eq.{bytes_eq-Decides}
use Rattle.std.proofs.lemmas.List.Elements.{All-nil, All-cons, All-head, All-tail}
use Rattle.std.proofs.lemmas.List.Kept.{AllPairs-cons}
use Rattle.json.specs.Json.{Json, null, boolean, number, string, array, object, Items, no_items, item, Members, no_members, member, document}
use Rattle.json.specs.declared.error.Error.{Error}
use Rattle.json.specs.declared.error.Error.TheVariants.{Invalid, OutOfMemory, TooLong, DuplicateKey}
use Rattle.json.specs.Strict.{keys, AreDistinct, HasUniqueKeys, ItemsHaveUniqueKeys, MembersHaveUniqueKeys}
use Rattle.yspec.specs.text.Text.{Text, is_text}
use Rattle.yspec.specs.types.Names.{is_among}
use Rattle.ysay_repeated.specs.Repeated.{has_repeated, items_repeat, json_in, members_repeat, repeats}
use Rattle.ysay_repeated.proofs.RepeatedLemmas.{read_so}

neither : (a b : Bool) → a ≡ false → b ≡ false → (a || b) ≡ false
neither a b x y = ap (λ c. c || b) x ∙ y

not_first : (a b : Bool) → (a || b) ≡ false → a ≡ false
not_first false b h = refl
not_first true b h = cc

not_second : (a b : Bool) → (a || b) ≡ false → b ≡ false
not_second false b h = h
not_second true b h = cc

-- none of some names is among those before
abbrev New : List Text → Text → Type 0
New before name = is_among before name ≡ false

abbrev Other : Text → Text → Type 0
Other name later = name ≢ later

tested : (a b : Text) (t : Bool) → is_text a b ≡ t → a ≢ b → t ≡ false
tested a b true e other = absurd (other ((bytes_eq-Decides a b).0 e))
tested a b false e other = refl

apart : (a b : Text) → is_text a b ≡ false → a ≢ b
apart a b other e = let same = (bytes_eq-Decides a b).1 e in cc

-- those that are new behind one more name differ from it
new_apart : (name : Text) (before names : List Text) → All (New (name ∷ before)) names → All (Other name) names
new_apart name before [] h = All-nil (Other name)
new_apart name before (k ∷ ks) h =
    let here : New (name ∷ before) k = All-head (New (name ∷ before)) k ks h in
    let other : Other name k = λ e. apart k name (not_first (is_text k name) (is_among before k) here) (sym e) in
    All-cons (Other name) k ks other (new_apart name before ks (All-tail (New (name ∷ before)) k ks h))

new_before : (name : Text) (before names : List Text) → All (New (name ∷ before)) names → All (New before) names
new_before name before [] h = All-nil (New before)
new_before name before (k ∷ ks) h =
    All-cons (New before) k ks (not_second (is_text k name) (is_among before k) (All-head (New (name ∷ before)) k ks h))
    (new_before name before ks (All-tail (New (name ∷ before)) k ks h))

new_more : (name : Text) (before names : List Text) → All (Other name) names → All (New before) names → All (New (name ∷ before)) names
new_more name before [] other h = All-nil (New (name ∷ before))
new_more name before (k ∷ ks) other h =
    let here : Other name k = All-head (Other name) k ks other in
    All-cons (New (name ∷ before)) k ks (neither (is_text k name) (is_among before k) (tested k name (is_text k name) refl (λ e. here (sym e))) (All-head (New before) k ks h))
    (new_more name before ks (All-tail (Other name) k ks other) (All-tail (New before) k ks h))

none_before : (names : List Text) → All (New []) names
none_before [] = All-nil (New [])
none_before (k ∷ ks) = All-cons (New []) k ks refl (none_before ks)

-- the first of names that are distinct differs from the others, which are distinct
distinct_first : (k : Text) (ks : List Text) → AreDistinct (k ∷ ks) → All (Other k) ks
distinct_first k ks h = λ j d within. let differ = h 0 (suc j) d (omega arith) (omega arith) in differ

distinct_rest : (k : Text) (ks : List Text) → AreDistinct (k ∷ ks) → AreDistinct ks
distinct_rest k ks h = λ i j d less within. let differ = h (suc i) (suc j) d (omega arith) (omega arith) in differ

mutual
  pub none_repeated : (j : Json) → HasUniqueKeys j → repeats j ≡ false
  none_repeated null h = refl
  none_repeated (boolean b) h = refl
  none_repeated (number n) h = refl
  none_repeated (string s) h = refl
  none_repeated (array js) h = no_item_repeated js h
  none_repeated (object ms) h = no_member_repeated [] ms h.0 (none_before (keys ms)) h.1

  no_item_repeated : (js : Items) → ItemsHaveUniqueKeys js → items_repeat js ≡ false
  no_item_repeated no_items h = refl
  no_item_repeated (item j js) h = neither (repeats j) (items_repeat js) (none_repeated j h.0) (no_item_repeated js h.1)

  no_member_repeated : (before : List Text) (ms : Members) → AreDistinct (keys ms) → All (New before) (keys ms) → MembersHaveUniqueKeys ms → members_repeat before ms ≡ false
  no_member_repeated before no_members apart new h = refl
  no_member_repeated before (member k j ms) apart new h =
      neither (is_among before k) (repeats j || members_repeat (k ∷ before) ms) (All-head (New before) k (keys ms) new)
      (neither (repeats j) (members_repeat (k ∷ before) ms) (none_repeated j h.0)
      (no_member_repeated (k ∷ before) ms (distinct_rest k (keys ms) apart) (new_more k before (keys ms) (distinct_first k (keys ms) apart) (All-tail (New before) k (keys ms) new)) h.1))

mutual
  unique_if_none : (j : Json) → repeats j ≡ false → HasUniqueKeys j
  unique_if_none null h = tt
  unique_if_none (boolean b) h = tt
  unique_if_none (number n) h = tt
  unique_if_none (string s) h = tt
  unique_if_none (array js) h = unique_items js h
  unique_if_none (object ms) h = let u = unique_members [] ms h in (u.0, u.2)

  unique_items : (js : Items) → items_repeat js ≡ false → ItemsHaveUniqueKeys js
  unique_items no_items h = tt
  unique_items (item j js) h =
      (unique_if_none j (not_first (repeats j) (items_repeat js) h), unique_items js (not_second (repeats j) (items_repeat js) h))

  unique_members : (before : List Text) (ms : Members) → members_repeat before ms ≡ false → AreDistinct (keys ms) × All (New before) (keys ms) × MembersHaveUniqueKeys ms
  unique_members before no_members h = (λ i j d less within. omega arith, All-nil (New before), tt)
  unique_members before (member k j ms) h =
      let behind = not_second (is_among before k) (repeats j || members_repeat (k ∷ before) ms) h in
      let u = unique_members (k ∷ before) ms (not_second (repeats j) (members_repeat (k ∷ before) ms) behind) in (
        AllPairs-cons (λ a b. a ≢ b) k (keys ms) (new_apart k before (keys ms) u.1) u.0,
        All-cons (New before) k (keys ms) (not_first (is_among before k) (repeats j || members_repeat (k ∷ before) ms) h) (new_before k before (keys ms) u.1),
        (unique_if_none j (not_first (repeats j) (members_repeat (k ∷ before) ms) behind), u.2),
      )

repeated_if : (j : Json) (b : Bool) → repeats j ≡ b → ¬ HasUniqueKeys j → b ≡ true
repeated_if j true is h = refl
repeated_if j false is h = absurd (h (unique_if_none j is))

pub some_repeated : (j : Json) → ¬ HasUniqueKeys j → repeats j ≡ true
some_repeated j h = repeated_if j (repeats j) refl h

-- ---- of a text

pub judged_json : (text : Text) (j : Json) (b : Bool) → json_in text ≡ Some j → repeats j ≡ b → b ≡ has_repeated text
unfolding has_repeated
judged_json text j b is so = sym (ap (λ (o : Option Json). option_map_or repeats o false) is ∙ so)

pub judged_none : (text : Text) → json_in text ≡ None → false ≡ has_repeated text
unfolding has_repeated
judged_none text is = sym (ap (λ (o : Option Json). option_map_or repeats o false) is)

-- where a strict read gives a value
pub unique_judged : (text : Text) (j : Json) → IsUtf8 text → document text ≡ Some j → HasUniqueKeys j → false ≡ has_repeated text
unique_judged text j utf8 is unique = judged_json text j false (read_so text j utf8 is) (none_repeated j unique)

repeated_at : (text : Text) (o : Option Json) → json_in text ≡ o → IsSomeAnd o (λ j. ¬ HasUniqueKeys j) → true ≡ has_repeated text
repeated_at text None is h = absurd h
repeated_at text (Some j) is h = judged_json text j true is (some_repeated j h)

utf8_in : (text : Text) → IsUtf8 text → json_in text ≡ document text
utf8_in text utf8 = ap (λ (b : Bool). cond b (document text) None) (is_utf8-from_IsUtf8 text utf8)

-- and where it gives a fault that isn't want of memory
pub fault_judged : {X : Type 0} (e : Error) (is_twice : Bool) (text : Text) → IsUtf8 text → (e ≡ OutOfMemory → ⊥) → Decides is_twice (e ≡ DuplicateKey)
    → ◌≢◌ {A = Result X Error} (Err e) (Err TooLong) → (◌≡◌ {A = Result X Error} (Err e) (Err Invalid) → document text ≡ None)
    → (◌≡◌ {A = Result X Error} (Err e) (Err DuplicateKey) → IsSomeAnd (document text) (λ j. ¬ HasUniqueKeys j)) → is_twice ≡ has_repeated text
fault_judged Invalid is_twice text utf8 memory decides long invalid twice =
    not_so is_twice refl ∙ judged_none text (utf8_in text utf8 ∙ invalid refl)
  where
    not_so : (b : Bool) → is_twice ≡ b → b ≡ false
    not_so true is = let same = decides.0 is in cc
    not_so false is = refl
fault_judged OutOfMemory is_twice text utf8 memory decides long invalid twice = absurd (memory refl)
fault_judged TooLong is_twice text utf8 memory decides long invalid twice = absurd (long refl)
fault_judged DuplicateKey is_twice text utf8 memory decides long invalid twice = decides.1 refl ∙ repeated_at text (document text) (utf8_in text utf8) (twice refl)
