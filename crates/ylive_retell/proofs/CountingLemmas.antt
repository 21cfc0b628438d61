-- Instances of values that come and go, one after another.
use Rattle.std.proofs.Common.{◌≡◌, ◌+◌, ◌-◌, ◌^◌, ◌≤◌, ◌<◌, Bool, true, false, List, [], ◌∷◌, length, Option, Some, None, is_some, option_map, refl, sym, ap, ◌∙◌, arith, subst, cond}
use Rattle.std.specs.Option.{option_map_or}
use Rattle.std.proofs.lemmas.Bool.{false≢true}
use Rattle.std.proofs.lemmas.List.Sums.{sum_by-cons}
use Rattle.yspec.specs.types.Types.{Val}
use Rattle.yschema_model.specs.declared.node.SchemaId.{SchemaId}
use Rattle.ystore.specs.Entries.{Entry, with_instance, without_instance}
use Rattle.ystore.specs.Store.{entry_at, instances_at, same_key}
use Rattle.ystore.specs.declared.key.Key.{Key}
use Rattle.ystore.specs.declared.key.Key.TheVariants.{Value}
use Rattle.ystore.specs.declared.nodes.Nodes.{Nodes}
use Rattle.ylive_marks.specs.Keys.{AreKeys, ChangesKey}
use Rattle.ylive_retell.specs.Growing.{AreThere}
use Rattle.ylive_retell.specs.Joins.{times_valued}

abbrev Pair : Type 0
Pair = SchemaId × Val

pub none_left : (ps : List Pair) → length ps ≡ 0 → ps ≡ []
none_left [] none = refl
none_left (p ∷ ps) none = absurd (omega (arith, none))

valued-cons : (key : Key) (p : Pair) (ps : List Pair) (b : Bool) → same_key (Value p.0 p.1) key ≡ b → times_valued key (p ∷ ps) ≡ cond b 1 0 + times_valued key ps
valued-cons key p ps b e =
    sum_by-cons (λ (q : Pair). cond (same_key (Value q.0 q.1) key) 1 0) p ps ∙ ap (λ x. cond x 1 0 + times_valued key ps) e

some-not : (o : Option Entry) → is_some o ≡ true → o ≡ None → ⊥
some-not o some none = false≢true (sym (ap is_some none) ∙ some)

module _ (laws : AreKeys) (key : Key) (change : Entry → Entry) (before after : Nodes) (changes : ChangesKey key change before after) where
  -- an entry that is there stays there
  pub still_there : (other : Key) → is_some (entry_at before other) ≡ true → is_some (entry_at after other) ≡ true
  still_there other some = by (same_key key other) refl
    where
      kept : (o : Option Entry) → is_some (option_map change o) ≡ is_some o
      kept None = refl
      kept (Some e) = refl

      by : (b : Bool) → same_key key other ≡ b → is_some (entry_at after other) ≡ true
      by true e =
          ap is_some (sym (laws.found after key other e) ∙ changes.changed)
          ∙ (kept (entry_at before key) ∙ (ap is_some (laws.found before key other e) ∙ some))
      by false e = ap is_some (changes.others other e) ∙ some

  pub all_there : (ps : List Pair) → AreThere before ps → AreThere after ps
  all_there [] there = tt
  all_there (p ∷ ps) there = (still_there (Value p.0 p.1) there.0, all_there ps there.1)

  -- what an entry counts then
  instances_then : (other : Key) → same_key key other ≡ true
      → instances_at after other ≡ option_map_or (λ (e : Entry). e.instances) (option_map change (entry_at before other)) 0
  instances_then other e =
      ap (λ (o : Option Entry). option_map_or (λ (x : Entry). x.instances) o 0)
      (sym (laws.found after key other e) ∙ (changes.changed ∙ ap (option_map change) (laws.found before key other e)))

  pub instances_else : (other : Key) → same_key key other ≡ false → instances_at after other ≡ instances_at before other
  instances_else other e = ap (λ (o : Option Entry). option_map_or (λ (x : Entry). x.instances) o 0) (changes.others other e)

module _ (laws : AreKeys) (all : List Pair) (p : Pair) (rest whole : List Pair) (first before after : Nodes) (steps : whole ≡ p ∷ rest) where
  -- one more
  pub one_added : ((k : Key) → instances_at first k + times_valued k all ≤ 2 ^ 64 - 1) → AreThere before whole
      → ((k : Key) → instances_at before k + times_valued k whole ≡ instances_at first k + times_valued k all) → ChangesKey (Value p.0 p.1) with_instance before after
      → AreThere after rest × ((k : Key) → instances_at after k + times_valued k rest ≡ instances_at first k + times_valued k all)
  one_added few there so changes =
      let here = subst (AreThere before) steps there in
      (all_there laws (Value p.0 p.1) with_instance before after changes rest here.1, λ k. by k here.0 (same_key (Value p.0 p.1) k) refl)
    where
      raised : (o : Option Entry) → is_some o ≡ true → option_map_or (λ (e : Entry). e.instances) o 0 < 2 ^ 64 - 1
          → option_map_or (λ (e : Entry). e.instances) (option_map with_instance o) 0 ≡ option_map_or (λ (e : Entry). e.instances) o 0 + 1
      raised None some less = absurd (false≢true some)
      raised (Some e) some less = grind (arith, less)

      by : (k : Key) → is_some (entry_at before (Value p.0 p.1)) ≡ true → (b : Bool) → same_key (Value p.0 p.1) k ≡ b
          → instances_at after k + times_valued k rest ≡ instances_at first k + times_valued k all
      by k some true e =
          let count = ap (times_valued k) steps ∙ valued-cons k p rest true e in
          let was = so k in
          let most = few k in
          let up = raised (entry_at before k) (ap is_some (sym (laws.found before (Value p.0 p.1) k e)) ∙ some) (omega (arith, count, was, most)) in
          let now = instances_then laws (Value p.0 p.1) with_instance before after changes k e in
          omega (arith, count, was, up, now)
      by k some false e =
          let count = ap (times_valued k) steps ∙ valued-cons k p rest false e in
          let was = so k in
          let now = instances_else laws (Value p.0 p.1) with_instance before after changes k e in
          omega (arith, count, was, now)

module _ (laws : AreKeys) (all : List Pair) (p : Pair) (rest whole : List Pair) (first before : Nodes) (steps : whole ≡ p ∷ rest)
    (few : (k : Key) → times_valued k all ≤ instances_at first k)
    (so : (k : Key) → instances_at before k + times_valued k all ≡ instances_at first k + times_valued k whole) where
  -- the next one is there
  one-there : (k : Key) → same_key (Value p.0 p.1) k ≡ true → 1 ≤ instances_at before k
  one-there k e =
      let count = ap (times_valued k) steps ∙ valued-cons k p rest true e in
      let was = so k in
      let most = few k in
      omega (arith, count, was, most)

  pub one_is_there : 1 ≤ instances_at before (Value p.0 p.1)
  one_is_there = one-there (Value p.0 p.1) (laws.itself (Value p.0 p.1))

  -- one less
  pub taken_then : (after : Nodes) → ChangesKey (Value p.0 p.1) without_instance before after
      → (k : Key) → instances_at after k + times_valued k all ≡ instances_at first k + times_valued k rest
  taken_then after changes k = by (same_key (Value p.0 p.1) k) refl
    where
      lowered : (o : Option Entry) → 1 ≤ option_map_or (λ (e : Entry). e.instances) o 0
          → option_map_or (λ (e : Entry). e.instances) (option_map without_instance o) 0 + 1 ≡ option_map_or (λ (e : Entry). e.instances) o 0
      lowered None some = absurd (omega (arith, some))
      lowered (Some e) some = omega (arith, some)

      by : (b : Bool) → same_key (Value p.0 p.1) k ≡ b → instances_at after k + times_valued k all ≡ instances_at first k + times_valued k rest
      by true e =
          let count = ap (times_valued k) steps ∙ valued-cons k p rest true e in
          let was = so k in
          let down = lowered (entry_at before k) (one-there k e) in
          let now = instances_then laws (Value p.0 p.1) without_instance before after changes k e in
          omega (arith, count, was, down, now)
      by false e =
          let count = ap (times_valued k) steps ∙ valued-cons k p rest false e in
          let was = so k in
          let now = instances_else laws (Value p.0 p.1) without_instance before after changes k e in
          omega (arith, count, was, now)

pub one_taken : (laws : AreKeys) (all : List Pair) (p : Pair) (rest whole : List Pair) (first before after : Nodes) → whole ≡ p ∷ rest
    → ((k : Key) → times_valued k all ≤ instances_at first k)
    → ((k : Key) → instances_at before k + times_valued k all ≡ instances_at first k + times_valued k whole)
    → ChangesKey (Value p.0 p.1) without_instance before after
    → (k : Key) → instances_at after k + times_valued k all ≡ instances_at first k + times_valued k rest
one_taken laws all p rest whole first before after steps few so changes = taken_then laws all p rest whole first before steps few so after changes
