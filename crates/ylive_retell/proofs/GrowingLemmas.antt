-- Growths of an index one after another, and what becomes of the nodes that are awaited where entries change.
use Rattle.std.proofs.Common.{◌≡◌, ℕ, ◌+◌, ◌-◌, ◌<◌, ◌≤◌, Bool, true, false, List, [], ◌∷◌, length, map, get_or, take, drop, Option, Some, None, is_some, option_map, refl, sym, ap, ap₂, ◌∙◌, arith, subst, cond, String, Global}
use Rattle.std.specs.Prelude.{string_bytes, IfSome}
use Rattle.std.specs.List.{AllZip, count_by}
use Rattle.std.specs.Option.{option_map_or}
use Rattle.std.proofs.lemmas.List.{take_more, take_all, drop_all}
use Rattle.std.proofs.lemmas.List.Sums.{sum_by-cons, sum_by_more, sum_by-drop_more}
use Rattle.yspec.specs.types.Types.{Val}
use Rattle.yschema_model.specs.declared.node.SchemaId.{SchemaId}
use Rattle.ystore.specs.Entries.{Entry, none, with_awaited, with_node}
use Rattle.ystore.specs.Index.{made_ready}
use Rattle.ystore.specs.Store.{ChangesEntry, Stays, entry_at, is_awaited, same_key}
use Rattle.ystore_rows.specs.declared.row.NodeId.{NodeId}
use Rattle.ystore.specs.declared.key.Key.{Key}
use Rattle.ystore.specs.declared.key.Key.TheVariants.{Value}
use Rattle.ystore.specs.declared.nodes.Nodes.{Nodes}
use Rattle.ylive_facts.specs.Keys.{key_view, value_key, same}
use Rattle.ylive_facts.proofs.SameLemmas.{same_views, same_itself}
use Rattle.ylive_retell.specs.Growing.{AreAwaited, AreThere, Grows, IsThere, awaited_at, awaited_of, times_joined}
use Rattle.ylive_retell.proofs.EachLemmas.{every_join}

-- ---- copies

pub texts_copied : (xs ys : List (String Global)) → AllZip (λ x y. string_bytes y ≡ string_bytes x) xs ys → map string_bytes ys ≡ map string_bytes xs
texts_copied [] [] copied = refl
texts_copied [] (y ∷ ys) copied = absurd copied
texts_copied (x ∷ xs) [] copied = absurd copied
texts_copied (x ∷ xs) (y ∷ ys) copied = ap₂ (λ t ts. t ∷ ts) copied.0 (texts_copied xs ys copied.1)

pub values_copied : (xs ys : List Val) → AllZip (λ x y. y ≡ x) xs ys → ys ≡ xs
values_copied [] [] copied = refl
values_copied [] (y ∷ ys) copied = absurd copied
values_copied (x ∷ xs) [] copied = absurd copied
values_copied (x ∷ xs) (y ∷ ys) copied = ap₂ (λ t ts. t ∷ ts) copied.0 (values_copied xs ys copied.1)

pub copy_same : (copy key other : Key) → key_view copy ≡ key_view key → same_key copy other ≡ same_key key other
copy_same copy key other e = same_views copy other ∙ (ap (λ v. same v (key_view other)) e ∙ sym (same_views key other))

pub views_same : (key other : Key) → key_view key ≡ key_view other → same_key key other ≡ true
views_same key other e = same_views key other ∙ (ap (λ v. same v (key_view other)) e ∙ same_itself (key_view other))

abbrev mark : Bool → ℕ
mark b = cond b 1 0

-- ---- an entry that changes

abbrev pub Found : Type 0
Found = (nodes : Nodes) (key other : Key) → same_key key other ≡ true → entry_at nodes key ≡ entry_at nodes other

module _ (found : Found) (key : Key) (change : Option Entry → Option Entry) (before after : Nodes)
    (changed : entry_at after key ≡ change (entry_at before key))
    (others : (other : Key) → same_key key other ≡ false → entry_at after other ≡ entry_at before other) where
  pub entry_here : (other : Key) → same_key key other ≡ true → entry_at after other ≡ change (entry_at before other)
  entry_here other e = sym (found after key other e) ∙ (changed ∙ ap change (found before key other e))

  -- what is so of an entry and itself, and of each entry and what it becomes, is so at all keys
  pub entries_so : (R : Option Entry → Option Entry → Type 0) → ((o : Option Entry) → R o o) → ((o : Option Entry) → R o (change o))
      → (other : Key) → R (entry_at before other) (entry_at after other)
  entries_so R itself becomes other = by (same_key key other) refl
    where
      by : (b : Bool) → same_key key other ≡ b → R (entry_at before other) (entry_at after other)
      by true e = subst (R (entry_at before other)) (sym (entry_here other e)) (becomes (entry_at before other))
      by false e = subst (R (entry_at before other)) (sym (others other e)) (itself (entry_at before other))

-- ---- growths

pub grows_nothing : (nodes : Nodes) → Grows nodes nodes
grows_nothing nodes =
    record {
      held = λ row. refl;
      instances = λ key. refl;
      holders = λ key. refl;
      awaited = λ key. omega arith;
      there = λ key e. e;
      reads = refl;
      node_count = refl;
    }

pub grows_on : (first now next : Nodes) → Grows first now → Grows now next → Grows first next
grows_on first now next before then =
    record {
      held = λ row. then.held row ∙ before.held row;
      instances = λ key. then.instances key ∙ before.instances key;
      holders = λ key. then.holders key ∙ before.holders key;
      awaited = λ key. (let a = before.awaited key in let b = then.awaited key in omega (arith, a, b));
      there = λ key e. then.there key (before.there key e);
      reads = then.reads ∙ before.reads;
      node_count = then.node_count ∙ before.node_count;
    }

pub grows_stays : (before after : Nodes) → Stays before after → Grows before after
grows_stays before after stays =
    record {
      held = stays.held;
      instances = λ key. ap (λ o. option_map_or (λ e. e.instances) o 0) (stays.entries key);
      holders = λ key. ap (λ o. option_map_or (λ e. e.nodes) o []) (stays.entries key);
      awaited = λ key. (let same = ap awaited_of (stays.entries key) in omega (arith, same));
      there = λ key e. ap is_some (stays.entries key) ∙ e;
      reads = stays.reads;
      node_count = stays.node_count;
    }

pub awaited_stays : (before after : Nodes) → Stays before after → (key : Key) → awaited_at after key ≡ awaited_at before key
awaited_stays before after stays key = ap awaited_of (stays.entries key)

-- an entry that is made ready
record Readies (change : Entry → Entry) : Type 0 where
  instances : (e : Entry) → (change e).instances ≡ e.instances
  nodes : (e : Entry) → (change e).nodes ≡ e.nodes
  awaited : (e : Entry) → e.awaited ≤ (change e).awaited

module _ (found : Found) (key : Key) (change : Entry → Entry) (before after : Nodes) (made : ChangesEntry key (made_ready change) before after) where
  so : (R : Option Entry → Option Entry → Type 0) → ((o : Option Entry) → R o o) → ((o : Option Entry) → R o (made_ready change o))
      → (other : Key) → R (entry_at before other) (entry_at after other)
  so = entries_so found key (made_ready change) before after made.changed made.others

  grown : Readies change → Grows before after
  grown readies =
      record {
        held = made.held;
        instances = so (λ o p. option_map_or (λ e. e.instances) p 0 ≡ option_map_or (λ e. e.instances) o 0) (λ o. refl) instances_so;
        holders = so (λ o p. option_map_or (λ e. e.nodes) p [] ≡ option_map_or (λ e. e.nodes) o []) (λ o. refl) nodes_so;
        awaited = so (λ o p. awaited_of o ≤ awaited_of p) (λ o. omega arith) awaited_so;
        there = so (λ o p. is_some o ≡ true → is_some p ≡ true) (λ o e. e) (λ o e. refl);
        reads = made.reads;
        node_count = made.node_count;
      }
    where
      instances_so : (o : Option Entry) → option_map_or (λ e. e.instances) (made_ready change o) 0 ≡ option_map_or (λ e. e.instances) o 0
      instances_so (Some e) = readies.instances e
      instances_so None = readies.instances none

      nodes_so : (o : Option Entry) → option_map_or (λ e. e.nodes) (made_ready change o) [] ≡ option_map_or (λ e. e.nodes) o []
      nodes_so (Some e) = readies.nodes e
      nodes_so None = readies.nodes none

      awaited_so : (o : Option Entry) → awaited_of o ≤ awaited_of (made_ready change o)
      awaited_so (Some e) = readies.awaited e
      awaited_so None = omega arith

  pub is_ready : is_some (entry_at after key) ≡ true
  is_ready = ap is_some made.changed

module _ (found : Found) (key : Key) (before after : Nodes) where
  pub value_grows : ChangesEntry key (made_ready (λ e. e)) before after → Grows before after
  value_grows made = grown found key (λ e. e) before after made (record { instances = λ e. refl; nodes = λ e. refl; awaited = λ e. omega arith })

  pub value_awaits : ChangesEntry key (made_ready (λ e. e)) before after → (other : Key) → awaited_at after other ≡ awaited_at before other
  value_awaits made = so found key (λ e. e) before after made (λ o p. awaited_of p ≡ awaited_of o) (λ o. refl) same_so
    where
      same_so : (o : Option Entry) → awaited_of (made_ready (λ e. e) o) ≡ awaited_of o
      same_so (Some e) = refl
      same_so None = refl

  pub node_grows : ChangesEntry key (made_ready with_awaited) before after → Grows before after
  node_grows made = grown found key with_awaited before after made (record { instances = λ e. refl; nodes = λ e. refl; awaited = λ e. omega arith })

  pub node_awaits : ChangesEntry key (made_ready with_awaited) before after → (other : Key) → awaited_at after other ≡ awaited_at before other + cond (same_key key other) 1 0
  node_awaits made other = by (same_key key other) refl
    where
      one_so : (o : Option Entry) → awaited_of (made_ready with_awaited o) ≡ awaited_of o + 1
      one_so (Some e) = refl
      one_so None = refl

      by : (b : Bool) → same_key key other ≡ b → awaited_at after other ≡ awaited_at before other + cond b 1 0
      by true e = ap awaited_of (entry_here found key (made_ready with_awaited) before after made.changed made.others other e) ∙ one_so (entry_at before other)
      by false e = let same = ap awaited_of (made.others other e) in omega (arith, same)

-- ---- loops

pub there_kept : (before after : Nodes) (pairs : List (SchemaId × Val)) → ((key : Key) → is_some (entry_at before key) ≡ true → is_some (entry_at after key) ≡ true)
    → AreThere before pairs → AreThere after pairs
there_kept before after [] kept there = tt
there_kept before after (p ∷ ps) kept there = (kept (Value p.0 p.1) there.0, there_kept before after ps kept there.1)

pub none_there : (nodes : Nodes) (pairs : List (SchemaId × Val)) → AreThere nodes (take 0 pairs)
none_there nodes pairs = tt

pub one_there : (now next : Nodes) (pairs : List (SchemaId × Val)) (place : ℕ) (other : SchemaId × Val) → place < length pairs → Grows now next
    → IsThere next (get_or pairs place other) → AreThere now (take place pairs) → AreThere next (take (place + 1) pairs)
one_there now next pairs place other less grows here there =
    subst (AreThere next) (sym (take_more pairs place other less))
    (every_join (IsThere next) (take place pairs) (get_or pairs place other ∷ []) (there_kept now next (take place pairs) grows.there there) (here, tt))

pub all_there : (nodes : Nodes) (pairs : List (SchemaId × Val)) (place : ℕ) → length pairs ≤ place → AreThere nodes (take place pairs) → AreThere nodes pairs
all_there nodes pairs place over there = subst (AreThere nodes) (take_all place pairs over) there

pub one_awaited : (first now next : Nodes) (pairs : List (Key × NodeId)) (place : ℕ) (other : Key × NodeId) (copy key : Key) → place < length pairs
    → key_view copy ≡ key_view (get_or pairs place other).0
    → awaited_at next key ≡ awaited_at now key + cond (same_key copy key) 1 0
    → awaited_at now key + times_joined key (drop place pairs) ≡ awaited_at first key + times_joined key pairs
    → awaited_at next key + times_joined key (drop (place + 1) pairs) ≡ awaited_at first key + times_joined key pairs
one_awaited first now next pairs place other copy key less is more so_far =
    let left = sum_by-drop_more (λ (q : Key × NodeId). mark (same_key q.0 key)) pairs place other less in
    let one : mark (same_key copy key) ≡ mark (same_key (get_or pairs place other).0 key) = ap mark (copy_same copy (get_or pairs place other).0 key is) in
    omega (arith, left, one, more, so_far)

pub all_awaited : (first now : Nodes) (pairs : List (Key × NodeId)) (place : ℕ) (key : Key) → length pairs ≤ place
    → awaited_at now key + times_joined key (drop place pairs) ≡ awaited_at first key + times_joined key pairs
    → awaited_at now key ≡ awaited_at first key + times_joined key pairs
all_awaited first now pairs place key over so_far =
    let none_left = ap (times_joined key) (drop_all place pairs over) in
    omega (arith, none_left, so_far)

-- ---- keys that no one names

module _ {A : Type 0} (at : A → Key) (xs : List A) (first : Nodes) where
  abbrev times : Key → List A → ℕ
  times key ys = count_by (λ x. same_key (at x) key) ys

  -- at keys that those so far don't name nothing is changed
  abbrev pub Untouched : ℕ → Nodes → Type 0
  Untouched place now = (key : Key) → times key (take place xs) ≡ 0 → entry_at now key ≡ entry_at first key

  pub one_touches : (place : ℕ) (other : A) (now next : Nodes) → place < length xs
      → ((key : Key) → same_key (at (get_or xs place other)) key ≡ false → entry_at next key ≡ entry_at now key)
      → Untouched place now → Untouched (place + 1) next
  one_touches place other now next less others so_far key none = by (same_key (at (get_or xs place other)) key) refl
    where
      more : times key (take (place + 1) xs) ≡ times key (take place xs) + mark (same_key (at (get_or xs place other)) key)
      more = sum_by_more (λ (x : A). mark (same_key (at x) key)) xs place other less

      by : (b : Bool) → same_key (at (get_or xs place other)) key ≡ b → entry_at next key ≡ entry_at first key
      by true e =
          let one : mark (same_key (at (get_or xs place other)) key) ≡ 1 = ap mark e in
          let all = more in
          absurd (omega (arith, all, none, one))
      by false e = others key e ∙ so_far key (let all = more in omega (arith, all, none))

  pub all_untouched : (place : ℕ) (now : Nodes) → length xs ≤ place → Untouched place now → (key : Key) → times key xs ≡ 0 → entry_at now key ≡ entry_at first key
  all_untouched place now over so_far key none = so_far key (ap (times key) (take_all place xs over) ∙ none)

-- ---- nodes that are awaited, and join

pub times_joined-cons : (key : Key) (p : Key × NodeId) (ps : List (Key × NodeId)) → times_joined key (p ∷ ps) ≡ cond (same_key p.0 key) 1 0 + times_joined key ps
times_joined-cons key p ps = sum_by-cons (λ (q : Key × NodeId). cond (same_key q.0 key) 1 0) p ps

pub grown_awaited : (before after : Nodes) (pairs : List (Key × NodeId)) → ((key : Key) → awaited_at after key ≡ awaited_at before key + times_joined key pairs)
    → AreAwaited after pairs
grown_awaited before after pairs grown key = let e = grown key in omega (arith, e)

some_awaited : (o : Option Entry) → 1 ≤ awaited_of o → (is_some o ≡ true) × IfSome o (λ e. 0 < e.awaited)
some_awaited (Some e) some = (refl, omega (arith, some))
some_awaited None some = absurd (omega (arith, some))

one_at_least : (nodes : Nodes) (p : Key × NodeId) (ps : List (Key × NodeId)) (key : Key) → AreAwaited nodes (p ∷ ps) → key_view key ≡ key_view p.0 → 1 ≤ awaited_at nodes key
one_at_least nodes p ps key awaited is =
    let room = awaited key in
    let count = times_joined-cons key p ps in
    let one : mark (same_key p.0 key) ≡ 1 = ap mark (views_same p.0 key (sym is)) in
    omega (arith, room, count, one)

pub first_awaited : (nodes : Nodes) (p : Key × NodeId) (ps : List (Key × NodeId)) (key : Key) → AreAwaited nodes (p ∷ ps) → key_view key ≡ key_view p.0 → is_awaited nodes key
first_awaited nodes p ps key awaited is = (some_awaited (entry_at nodes key) (one_at_least nodes p ps key awaited is)).1

pub first_found : (nodes : Nodes) (p : Key × NodeId) (ps : List (Key × NodeId)) (key : Key) → AreAwaited nodes (p ∷ ps) → key_view key ≡ key_view p.0
    → is_some (entry_at nodes key) ≡ true
first_found nodes p ps key awaited is = (some_awaited (entry_at nodes key) (one_at_least nodes p ps key awaited is)).0

module _ (found : Found) (before after : Nodes) where
  -- once the first has joined, the rest are awaited
  pub rest_awaited : (p : Key × NodeId) (ps : List (Key × NodeId)) (key : Key) (id : NodeId) → key_view key ≡ key_view p.0
      → entry_at after key ≡ option_map (with_node id) (entry_at before key)
      → ((other : Key) → same_key key other ≡ false → entry_at after other ≡ entry_at before other)
      → AreAwaited before (p ∷ ps) → AreAwaited after ps
  rest_awaited p ps key id is changed others awaited other = by (same_key key other) refl
    where
      less_so : (o : Option Entry) → awaited_of (option_map (with_node id) o) ≡ awaited_of o - 1
      less_so (Some e) = refl
      less_so None = refl

      by : (b : Bool) → same_key key other ≡ b → times_joined other ps ≤ awaited_at after other
      by true e =
          let less = ap awaited_of (entry_here found key (option_map (with_node id)) before after changed others other e) ∙ less_so (entry_at before other) in
          let room = awaited other in
          let count = times_joined-cons other p ps in
          let one : mark (same_key p.0 other) ≡ 1 = ap mark (sym (copy_same key p.0 other is) ∙ e) in
          omega (arith, less, room, count, one)
      by false e =
          let same = ap awaited_of (others other e) in
          let room = awaited other in
          let count = times_joined-cons other p ps in
          omega (arith, same, room, count)

  -- a change of an entry that leaves how many are awaited
  pub still_awaited : (pairs : List (Key × NodeId)) (key : Key) (change : Option Entry → Option Entry) → ((o : Option Entry) → awaited_of (change o) ≡ awaited_of o)
      → entry_at after key ≡ change (entry_at before key)
      → ((other : Key) → same_key key other ≡ false → entry_at after other ≡ entry_at before other)
      → AreAwaited before pairs → AreAwaited after pairs
  still_awaited pairs key change leaves changed others awaited other =
      let same = entries_so found key change before after changed others (λ o p. awaited_of p ≡ awaited_of o) (λ o. refl) leaves other in
      let room = awaited other in
      omega (arith, same, room)

  -- and one that leaves that there is an entry
  pub still_there : (pairs : List (SchemaId × Val)) (key : Key) (change : Option Entry → Option Entry) → ((o : Option Entry) → is_some o ≡ true → is_some (change o) ≡ true)
      → entry_at after key ≡ change (entry_at before key)
      → ((other : Key) → same_key key other ≡ false → entry_at after other ≡ entry_at before other)
      → AreThere before pairs → AreThere after pairs
  still_there pairs key change leaves changed others =
      there_kept before after pairs
      (entries_so found key change before after changed others (λ o p. is_some o ≡ true → is_some p ≡ true) (λ o e. e) leaves)

pub mapped_awaited : (change : Entry → Entry) → ((e : Entry) → (change e).awaited ≡ e.awaited) → (o : Option Entry) → awaited_of (option_map change o) ≡ awaited_of o
mapped_awaited change leaves (Some e) = leaves e
mapped_awaited change leaves None = refl

pub mapped_there : (change : Entry → Entry) (o : Option Entry) → is_some o ≡ true → is_some (option_map change o) ≡ true
mapped_there change (Some e) there = refl
mapped_there change None there = there

pub first_there : Found → (nodes : Nodes) (p : SchemaId × Val) (ps : List (SchemaId × Val)) (key : Key) → AreThere nodes (p ∷ ps) → key_view key ≡ value_key p.0.0 p.1
    → is_some (entry_at nodes key) ≡ true
first_there found nodes p ps key there is = ap is_some (found nodes key (Value p.0 p.1) (views_same key (Value p.0 p.1) is)) ∙ there.0

pub awaited_same : (before after : Nodes) (pairs : List (Key × NodeId)) → ((key : Key) → entry_at after key ≡ entry_at before key)
    → AreAwaited before pairs → AreAwaited after pairs
awaited_same before after pairs stays awaited key = let same = ap awaited_of (stays key) in let room = awaited key in omega (arith, same, room)
