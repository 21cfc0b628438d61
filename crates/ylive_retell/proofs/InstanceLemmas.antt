-- How many instances come and go, by the keys of an index.
use Rattle.std.proofs.Common.{◌≡◌, ℕ, ◌+◌, ◌*◌, ◌^◌, ◌≤◌, Bool, true, false, ◌&&◌, List, [], ◌∷◌, Option, Some, None, refl, sym, ap, ◌∙◌, arith, cond, eqb}
use Rattle.std.specs.Prelude.{count_by}
use Rattle.std.proofs.lemmas.Bool.{eqb-true, false≢true}
use Rattle.std.proofs.lemmas.List.Sums.{sum_by-cons, count_by-le-length}
use Rattle.yspec.specs.Forest.{end, node, size, weigh_nodes}
use Rattle.yspec.specs.types.Types.{Val}
use Rattle.yspec.specs.types.Order.{same_value}
use Rattle.yspec.specs.schema.Schema.{Schema, row_at}
use Rattle.yspec.specs.document.Document.{Stored, Tree}
use Rattle.yspec.specs.document.Instances.{is_value, value_of, times_at, times_below, times_in}
use Rattle.yschema_model.specs.declared.node.SchemaId.{SchemaId}
use Rattle.ytype.specs.Laws.{same_value_equiv}
use Rattle.ystore.specs.Store.{same_key}
use Rattle.ystore.specs.declared.key.Key as rust
use Rattle.ystore.specs.declared.key.Key.TheVariants.{Value}
use Rattle.ystore_tree.specs.Hanging.{Branches, stored_of, tree_of}
use Rattle.yspec_play.specs.Absences.{Default, is_default}
use Rattle.ylive_facts.specs.Given.{given_view, is_referred}
use Rattle.ylive_facts.specs.Keys.{Key, value_key, item_key, tuple_key, texts_key, key_view, same}
use Rattle.ylive_facts.proofs.SameLemmas.{same_views}
use Rattle.ylive_retell.specs.IsTold.{is_counted}
use Rattle.ylive_retell.specs.Growing.{times_valued}
use Rattle.ylive_retell.specs.Few.{HasFewDefaults}
use Rattle.ylive_retell.specs.Standing.{Every, defaults_in_row}
use Rattle.ylive_retell.proofs.FewLemmas.{few_in_use}
use Rattle.ylive_retell.proofs.ValueLemmas.{in_use}

-- ---- by numbers and values

one_is : (key : rust.Key) (number : ℕ) (v : Val) (p : SchemaId × Val) → key_view key ≡ value_key number v
    → same_key (Value p.0 p.1) key ≡ is_default number v (p.0.0, p.1)
one_is key number v p is =
    same_views (Value p.0 p.1) key
    ∙ (ap (same (value_key p.0.0 p.1)) is
    ∙ ap (λ b. eqb p.0.0 number && b) (same_value_equiv.symm p.1 v))

pub valued_is : (key : rust.Key) (number : ℕ) (v : Val) → key_view key ≡ value_key number v → (ps : List (SchemaId × Val))
    → times_valued key ps ≡ count_by (is_default number v) (given_view ps)
valued_is key number v is [] = refl
valued_is key number v is (p ∷ ps) =
    let left = sum_by-cons (λ (q : SchemaId × Val). cond (same_key (Value q.0 q.1) key) 1 0) p ps in
    let right = sum_by-cons (λ (d : Default). cond (is_default number v d) 1 0) (p.0.0, p.1) (given_view ps) in
    let one : cond (same_key (Value p.0 p.1) key) 1 0 ≡ mark (is_default number v (p.0.0, p.1)) = ap mark (one_is key number v p is) in
    let rest = valued_is key number v is ps in
    omega (arith, left, right, one, rest)
  where
    mark : Bool → ℕ
    mark b = cond b 1 0

-- what isn't counted doesn't come or go

pub valued_none : (schema : Schema) (key : rust.Key) → is_counted schema (key_view key) ≡ false → (ps : List (SchemaId × Val))
    → Every (λ d. is_referred schema d.0 ≡ true) (given_view ps) → times_valued key ps ≡ 0
valued_none schema key off [] all = refl
valued_none schema key off (p ∷ ps) all =
    let whole = sum_by-cons (λ (q : SchemaId × Val). cond (same_key (Value q.0 q.1) key) 1 0) p ps in
    let one = ap mark (same_views (Value p.0 p.1) key ∙ other (key_view key) off) in
    let rest = valued_none schema key off ps all.1 in
    omega (arith, whole, one, rest)
  where
    mark : Bool → ℕ
    mark b = cond b 1 0

    by : (number : ℕ) (v : Val) → is_referred schema number ≡ false → (b : Bool) → eqb p.0.0 number ≡ b → (b && same_value p.1 v) ≡ false
    by number v none true e = absurd (false≢true (sym none ∙ (ap (is_referred schema) (sym (eqb-true p.0.0 number e)) ∙ all.0)))
    by number v none false e = refl

    other : (k : Key) → is_counted schema k ≡ false → same (value_key p.0.0 p.1) k ≡ false
    other (value_key number v) none = by number v none (eqb p.0.0 number) refl ∙ refl
    other (item_key r number v) none = refl
    other (tuple_key r number u vs) none = refl
    other (texts_key r number texts) none = refl

-- ---- few

module _ (schema : Schema) (number : ℕ) (v : Val) (is : is_referred schema number ≡ true) (few : HasFewDefaults schema) where
  pub few_below : (above : Option ℕ) (t : Tree) → times_below schema number v (row_at schema above) t ≤ 2 ^ 32
  few_below above t =
      let used = in_use schema number v is above t in
      let most = count_by-le-length (is_default number v) (defaults_in_row schema above t) in
      let all = few_in_use schema few above t in
      omega (arith, used, most, all)

  own_few : (s : Stored) → cond (eqb s.schema_number number) (cond (is_value v (value_of schema s)) 1 0) 0 ≤ 1
  own_few s = by (eqb s.schema_number number) (is_value v (value_of schema s))
    where
      one_if : Bool → Bool → ℕ
      one_if a b = cond a (cond b 1 0) 0

      by : (a b : Bool) → one_if a b ≤ 1
      by true true = omega arith
      by true false = omega arith
      by false b = omega arith

  pub few_nodes : (f : Branches) → weigh_nodes (times_at schema number v) (tree_of f) ≤ (2 ^ 32 + 1) * size f
  few_nodes end = omega arith
  few_nodes (node n below after) =
      let here = few_below (Some n.schema.0) (tree_of below) in
      let own = own_few (stored_of n) in
      let first = few_nodes below in
      let second = few_nodes after in
      omega (arith, here, own, first, second)

  pub few_in : (f : Branches) → times_in schema (tree_of f) number v ≤ (2 ^ 32 + 1) * (size f + 1)
  few_in f =
      let row = few_below None (tree_of f) in
      let nodes = few_nodes f in
      omega (arith, row, nodes)
