-- What is read where values come and go: of each value, and of each node that refers to it where its first instance comes or its
-- last one goes.
use Rattle.std.proofs.Common.{◌≡◌, ℕ, suc, ◌+◌, ◌*◌, ◌≤◌, Bool, true, false, cond, eqb, List, [], ◌∷◌, length, Option, Some, None, option_map, refl, sym, ap, ap₂, ◌∙◌, arith}
use Rattle.std.specs.Option.{option_map_or}
use Rattle.std.proofs.lemmas.Bool.{eqb-true, eqb-false}
use Rattle.yspec.specs.Forest.{levels}
use Rattle.yspec.specs.types.Types.{Val}
use Rattle.yschema_model.specs.declared.node.SchemaId.{SchemaId}
use Rattle.ystore.specs.Entries.{Entry}
use Rattle.ystore.specs.Store.{entry_at, holders_at, instances_at, same_key}
use Rattle.ystore.specs.declared.key.Key.{Key}
use Rattle.ystore.specs.declared.key.Key.TheVariants.{Value}
use Rattle.ystore.specs.declared.nodes.Nodes.{Nodes}
use Rattle.ystore_tree.specs.Hanging.{Branches}
use Rattle.ylive_marks.specs.Keys.{AreKeys, ChangesKey, judging}
use Rattle.ylive_retell.specs.Growing.{times_valued}
use Rattle.ylive_retell.specs.Reads.{lastly_judged, newly_judged, values_reads}

abbrev Pair : Type 0
Pair = SchemaId × Val

-- the nodes of keys stay where instances are counted
abbrev pub KeepsHolders : Nodes → Nodes → Type 0
KeepsHolders before after = (key : Key) → holders_at after key ≡ holders_at before key

pub holders_kept : (laws : AreKeys) (key : Key) (change : Entry → Entry) (before after : Nodes) → ((e : Entry) → (change e).nodes ≡ e.nodes)
    → ChangesKey key change before after → KeepsHolders before after
holders_kept laws key change before after same changes other = by (same_key key other) refl
  where
    keeps : (o : Option Entry) → option_map_or (λ (e : Entry). e.nodes) (option_map change o) [] ≡ option_map_or (λ (e : Entry). e.nodes) o []
    keeps None = refl
    keeps (Some e) = same e

    by : (b : Bool) → same_key key other ≡ b → holders_at after other ≡ holders_at before other
    by true e =
        ap (λ (o : Option Entry). option_map_or (λ (x : Entry). x.nodes) o []) (sym (laws.found after key other e) ∙ changes.changed)
        ∙ (keeps (entry_at before key) ∙ ap (λ (o : Option Entry). option_map_or (λ (x : Entry). x.nodes) o []) (laws.found before key other e))
    by false e = ap (λ (o : Option Entry). option_map_or (λ (x : Entry). x.nodes) o []) (changes.others other e)

-- two tests that are the same
same_tests : (a b x y : ℕ) → (a ≡ b → x ≡ y) → (x ≡ y → a ≡ b) → eqb a b ≡ eqb x y
same_tests a b x y there back = by (eqb a b) (eqb x y) refl refl
  where
    by : (p q : Bool) → eqb a b ≡ p → eqb x y ≡ q → p ≡ q
    by true true e f = refl
    by false false e f = refl
    by true false e f = absurd (eqb-false x y f (there (eqb-true a b e)))
    by false true e f = absurd (eqb-false a b e (back (eqb-true x y f)))

-- one value, and the others behind it
one_judged : (b : Bool) (holders deep others count start now next : ℕ) → now + (2 * suc count + (cond b holders 0 + others) * (1 + deep)) ≤ start
    → next ≤ now + (2 + cond b (holders * (1 + deep)) 0) → next + (2 * count + others * (1 + deep)) ≤ start
one_judged true holders deep others count start now next so_far one = omega (arith, so_far, one)
one_judged false holders deep others count start now next so_far one = omega (arith, so_far, one)

module _ (instances holders : Key → ℕ) (all : List Pair) (p : Pair) (rest whole : List Pair) (before : Nodes) (f : Branches) (steps : whole ≡ p ∷ rest)
    (holds : (k : Key) → length (holders_at before k) ≡ holders k) where
  abbrev key : Key
  key = Value p.0 p.1

  pub one_newly : ((k : Key) → instances_at before k + times_valued k whole ≡ instances k + times_valued k all) → (start now next : ℕ)
      → now + values_reads (newly_judged instances holders all whole) whole f ≤ start → next ≤ now + judging (eqb (instances_at before key) 0) (holders_at before key) f
      → next + values_reads (newly_judged instances holders all rest) rest f ≤ start
  one_newly counts start now next so_far one =
      let count = counts key in
      let here = ap (times_valued key) steps in
      let test = same_tests (instances_at before key) 0 (instances key + times_valued key all) (times_valued key (p ∷ rest))
      (λ none. omega (arith, count, here, none)) (λ same. omega (arith, count, here, same)) in
      let cost : judging (eqb (instances_at before key) 0) (holders_at before key) f
      ≡ 2 + cond (eqb (instances key + times_valued key all) (times_valued key (p ∷ rest))) (holders key * (1 + levels f)) 0 =
      ap₂ (λ (b : Bool) (m : ℕ). 2 + cond b (m * (1 + levels f)) 0) test (holds key) in
      let left = ap (λ ps. values_reads (newly_judged instances holders all ps) ps f) steps in
      one_judged (eqb (instances key + times_valued key all) (times_valued key (p ∷ rest))) (holders key) (levels f) (newly_judged instances holders all rest) (length rest)
      start now next (omega (arith, so_far, left)) (omega (arith, one, cost))

  pub one_lastly : ((k : Key) → instances_at before k + times_valued k all ≡ instances k + times_valued k whole) → (start now next : ℕ)
      → now + values_reads (lastly_judged instances holders all whole) whole f ≤ start → next ≤ now + judging (eqb (instances_at before key) 1) (holders_at before key) f
      → next + values_reads (lastly_judged instances holders all rest) rest f ≤ start
  one_lastly counts start now next so_far one =
      let count = counts key in
      let here = ap (times_valued key) steps in
      let test = same_tests (instances_at before key) 1 (instances key + times_valued key (p ∷ rest)) (times_valued key all + 1)
      (λ last. omega (arith, count, here, last)) (λ same. omega (arith, count, here, same)) in
      let cost : judging (eqb (instances_at before key) 1) (holders_at before key) f
      ≡ 2 + cond (eqb (instances key + times_valued key (p ∷ rest)) (times_valued key all + 1)) (holders key * (1 + levels f)) 0 =
      ap₂ (λ (b : Bool) (m : ℕ). 2 + cond b (m * (1 + levels f)) 0) test (holds key) in
      let left = ap (λ ps. values_reads (lastly_judged instances holders all ps) ps f) steps in
      one_judged (eqb (instances key + times_valued key (p ∷ rest)) (times_valued key all + 1)) (holders key) (levels f) (lastly_judged instances holders all rest) (length rest)
      start now next (omega (arith, so_far, left)) (omega (arith, one, cost))

-- by the same numbers of instances and holders
module _ (instances holders others theirs : Key → ℕ) (same : (k : Key) → instances k ≡ others k) (holds : (k : Key) → holders k ≡ theirs k) (all : List Pair) where
  pub same_newly : (ps : List Pair) → newly_judged instances holders all ps ≡ newly_judged others theirs all ps
  same_newly [] = refl
  same_newly (p ∷ ps) =
      let key = Value p.0 p.1 in
      let here = ap₂ (λ (m n : ℕ). cond (eqb (m + times_valued key all) (times_valued key (p ∷ ps))) n 0) (same key) (holds key) in
      let rest = same_newly ps in
      omega (arith, here, rest)

  pub same_lastly : (ps : List Pair) → lastly_judged instances holders all ps ≡ lastly_judged others theirs all ps
  same_lastly [] = refl
  same_lastly (p ∷ ps) =
      let key = Value p.0 p.1 in
      let here = ap₂ (λ (m n : ℕ). cond (eqb (m + times_valued key (p ∷ ps)) (times_valued key all + 1)) n 0) (same key) (holds key) in
      let rest = same_lastly ps in
      omega (arith, here, rest)
