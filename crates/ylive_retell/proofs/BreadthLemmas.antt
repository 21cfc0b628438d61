-- A document that fits a schema is no deeper than that, and the nodes on a way in it are of different schema nodes.
use Rattle.std.proofs.Common.{◌≡◌, ℕ, suc, ◌+◌, ◌≤◌, Bool, true, false, cond, max, List, [], ◌∷◌, length, Option, Some, None, refl, sym, ap, ◌∙◌, subst, arith}
use Rattle.std.specs.Prelude.{◌==◌}
use Rattle.std.specs.Option.{option_map_or}
use Rattle.std.proofs.lemmas.Option.{same_Some, none-some}
use Rattle.std.proofs.lemmas.Bool.{eqb-true}
use Rattle.yspec.specs.Forest.{Forest, end, node, join, levels, weigh}
use Rattle.yspec.specs.types.Types.{Raw}
use Rattle.yspec.specs.schema.Schema.{Schema, SchemaNode, is_data, data_row, child_in, node_at}
use Rattle.yspec.specs.document.Document.{Tree}
use Rattle.yspec.specs.document.Fitting.{FitsBy}
use Rattle.yspec.proofs.DocumentProofs.CheckingRowLemmas.{Has}
use Rattle.yspec_reach.specs.Sizes.{name_count}
use Rattle.ylive_facts.specs.Reads.{names_of}

-- ---- data nodes of a row

levels-join : {L : Type 0} (f g : Forest L) → levels (join f g) ≡ max (levels f) (levels g)
levels-join end g = omega arith
levels-join (node l below after) g = let rest = levels-join after g in omega (arith, rest)

weigh-join : {L : Type 0} (w : L → ℕ) (f g : Forest L) → weigh w (join f g) ≡ weigh w f + weigh w g
weigh-join w end g = omega arith
weigh-join w (node l below after) g = let rest = weigh-join w after g in omega (arith, rest)

pub data_levels : (f : Forest SchemaNode) → levels (data_row f) ≤ levels f
data_levels end = omega arith
data_levels (node n below after) = by (is_data n.kind) (data_levels below) (data_levels after)
  where
    by : (b : Bool) → levels (data_row below) ≤ levels below → levels (data_row after) ≤ levels after
        → levels (cond b (node n below (data_row after)) (join (data_row below) (data_row after))) ≤ levels (node n below after)
    by true inner rest = omega (arith, rest)
    by false inner rest = let both = levels-join (data_row below) (data_row after) in omega (arith, inner, rest, both)

data_weighs : (w : SchemaNode → ℕ) (f : Forest SchemaNode) → weigh w (data_row f) ≤ weigh w f
data_weighs w end = omega arith
data_weighs w (node n below after) = by (is_data n.kind) (data_weighs w below) (data_weighs w after)
  where
    by : (b : Bool) → weigh w (data_row below) ≤ weigh w below → weigh w (data_row after) ≤ weigh w after
        → weigh w (cond b (node n below (data_row after)) (join (data_row below) (data_row after))) ≤ w n + (weigh w below + weigh w after)
    by true inner rest = omega (arith, rest)
    by false inner rest = let both = weigh-join w (data_row below) (data_row after) in omega (arith, inner, rest, both)

-- ---- a child of a row

child_deep : (f : Forest SchemaNode) (number : ℕ) (found : SchemaNode × Forest SchemaNode) → child_in f number ≡ Some found → suc (levels found.1) ≤ levels f
child_deep end number found is = absurd (none-some found is)
child_deep (node n below after) number found is = by (n.number == number) is (child_deep after number found)
  where
    by : (b : Bool) → cond b (Some (n, below)) (child_in after number) ≡ Some found → (child_in after number ≡ Some found → suc (levels found.1) ≤ levels after)
        → suc (levels found.1) ≤ levels (node n below after)
    by true e rest = let same = ap (λ (o : Option (SchemaNode × Forest SchemaNode)). option_map_or (λ (c : SchemaNode × Forest SchemaNode). levels c.1) o 0) e in omega (arith, same)
    by false e rest = let less = rest e in omega (arith, less)

child_light : (w : SchemaNode → ℕ) (f : Forest SchemaNode) (number : ℕ) (found : SchemaNode × Forest SchemaNode) → child_in f number ≡ Some found
    → w found.0 + weigh w found.1 ≤ weigh w f
child_light w end number found is = absurd (none-some found is)
child_light w (node n below after) number found is = by (n.number == number) is (child_light w after number found)
  where
    by : (b : Bool) → cond b (Some (n, below)) (child_in after number) ≡ Some found → (child_in after number ≡ Some found → w found.0 + weigh w found.1 ≤ weigh w after)
        → w found.0 + weigh w found.1 ≤ w n + (weigh w below + weigh w after)
    by true e rest =
        let same = ap (λ (o : Option (SchemaNode × Forest SchemaNode)). option_map_or (λ (c : SchemaNode × Forest SchemaNode). w c.0 + weigh w c.1) o 0) e in omega (arith, same)
    by false e rest = let less = rest e in omega (arith, less)

-- ---- documents

pub fitting_levels : (Held : SchemaNode → Option Raw → Type 0) (children : Forest SchemaNode) (least : ℕ) (t : Tree) → FitsBy Held children least t → levels t ≤ levels children
fitting_levels Held children least end fits = omega arith
fitting_levels Held children least (node s below after) fits =
    let inner = fitting_levels Held fits.0.1 0 below fits.4 in
    let rest = fitting_levels Held children _ after fits.5 in
    let deep = child_deep (data_row children) s.schema_number fits.0 fits.1 in
    let whole = data_levels children in
    omega (arith, inner, rest, deep, whole)

-- ---- ways

-- numbers of schema nodes, each that of a data node right below the one before it
abbrev pub GoesDown : Forest SchemaNode → List ℕ → Type 0
GoesDown children [] = Unit {0}
GoesDown children (number ∷ numbers) = (found : SchemaNode × Forest SchemaNode) × (child_in (data_row children) number ≡ Some found) × GoesDown found.1 numbers

abbrev pub names_below : Schema → List ℕ → ℕ
names_below schema [] = 0
names_below schema (number ∷ numbers) = names_of schema number + names_below schema numbers

has_joined : (schema : Schema) (f g : Forest SchemaNode) → Has schema f → Has schema g → Has schema (join f g)
has_joined schema end g first second = second
has_joined schema (node n below after) g first second = (first.0, first.1, first.2, has_joined schema after g first.3 second)

has_data : (schema : Schema) (f : Forest SchemaNode) → Has schema f → Has schema (data_row f)
has_data schema end has = tt
has_data schema (node n below after) has = by (is_data n.kind) (has_data schema below has.2) (has_data schema after has.3)
  where
    by : (b : Bool) → Has schema (data_row below) → Has schema (data_row after) → Has schema (cond b (node n below (data_row after)) (join (data_row below) (data_row after)))
    by true inner rest = (has.0, has.1, has.2, rest)
    by false inner rest = has_joined schema (data_row below) (data_row after) inner rest

child_known : (schema : Schema) (f : Forest SchemaNode) (number : ℕ) (found : SchemaNode × Forest SchemaNode) → Has schema f → child_in f number ≡ Some found
    → (node_at schema number ≡ Some found.0) × Has schema found.1
child_known schema end number found has is = absurd (none-some found is)
child_known schema (node n below after) number found has is = by (n.number == number) refl is (child_known schema after number found has.3)
  where
    by : (b : Bool) → (n.number == number) ≡ b → cond b (Some (n, below)) (child_in after number) ≡ Some found
        → (child_in after number ≡ Some found → (node_at schema number ≡ Some found.0) × Has schema found.1) → (node_at schema number ≡ Some found.0) × Has schema found.1
    by true same e rest =
        let is_found : (n, below) ≡ found = same_Some (n, below) found e in (
          ap (node_at schema) (sym (eqb-true n.number number same)) ∙ (has.0 ∙ ap (λ (c : SchemaNode × Forest SchemaNode). Some c.0) is_found),
          subst (λ (c : SchemaNode × Forest SchemaNode). Has schema c.1) is_found has.2,
        )
    by false other e rest = rest e

-- a way takes no more names, and steps, than a schema has
pub narrow_way : (schema : Schema) (children : Forest SchemaNode) (numbers : List ℕ) → Has schema children → GoesDown children numbers
    → length numbers + names_below schema numbers ≤ weigh (λ (n : SchemaNode). 1 + name_count n.kind) children
narrow_way schema children [] has goes = omega arith
narrow_way schema children (number ∷ numbers) has goes =
    let found = goes.0 in
    let known = child_known schema (data_row children) number found (has_data schema children has) goes.1 in
    let rest = narrow_way schema found.1 numbers known.1 goes.2 in
    let light = child_light (λ (n : SchemaNode). 1 + name_count n.kind) (data_row children) number found goes.1 in
    let whole = data_weighs (λ (n : SchemaNode). 1 + name_count n.kind) children in
    let names : names_of schema number ≡ name_count found.0.kind = ap (λ (o : Option SchemaNode). option_map_or (λ (n : SchemaNode). name_count n.kind) o 0) known.0 in
    let l : length (number ∷ numbers) ≡ suc (length numbers) = refl in
    omega (arith, rest, light, whole, names, l)

-- and no more steps than it has levels
pub short_way : (children : Forest SchemaNode) (numbers : List ℕ) → GoesDown children numbers → length numbers ≤ levels children
short_way children [] goes = omega arith
short_way children (number ∷ numbers) goes =
    let rest = short_way goes.0.1 numbers goes.2 in
    let deep = child_deep (data_row children) number goes.0 goes.1 in
    let whole = data_levels children in
    let l : length (number ∷ numbers) ≡ suc (length numbers) = refl in
    omega (arith, rest, deep, whole, l)
