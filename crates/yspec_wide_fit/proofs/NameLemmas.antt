-- The names of parts that stand: no two siblings are written with one name, since no two of all parts are.
use Rattle.std.proofs.Common.{◌≡◌, ◌≢◌, ◌⊎◌, inl, inr, ℕ, suc, ◌+◌, Bool, true, false, cond, not, ◌&&◌, List, [], ◌∷◌, ◌++◌, length, map, Option, Some, refl, sym, ap, ap₂, ◌∙◌, subst}
use Rattle.std.proofs.lemmas.Bool.{or_parts}
use Rattle.std.proofs.lemmas.List.{map-append}
use Rattle.yspec.specs.Forest.{Forest, end, node, size, row, join, preorder, relabelled}
use Rattle.yspec.specs.text.Text.{Text}
use Rattle.yspec.specs.schema.Schema.{Schema, SchemaNode, is_data, data_row}
use Rattle.yspec.specs.document.Writing.{NodesAreNamed, HasItsName, RowIsNamed, AllAreNamed, AreNamed}
use Rattle.yspec.specs.linking.Keyword.{same_keyword, choice_word, case_word}
use Rattle.yspec.specs.linking.Source.{argument_in}
use Rattle.yspec.specs.linking.Parts.{Part}
use Rattle.yspec.specs.linking.Planned.{Planned, Plan, Around, at_top, planned_node, data_parent_below, around_below, planned}
use Rattle.yspec.proofs.LinkingProofs.ApartLemmas.{NoneLike, Apart, Within, within_none, within_first, within_second, within_joined, apart_within, names_apart}
use Rattle.yspec_wide.specs.Language.{Language}
use Rattle.yspec_wide.specs.Standing.{is_implied_case, is_all_cut, is_default_off, without_default, standing_by}
use Rattle.yspec_wide.specs.Types.{schema_node_in}
use Rattle.yspec_wide_fit.proofs.SoundLemmas.{is_choice_part, Row, elsewhere, stands_in, row_below, AreSound}
use Rattle.yspec_wide_fit.proofs.NodeLemmas.{is_passed, data_by, nodes_named}

-- ---- names of which none comes twice

-- the module to which a node belongs, by its number, and what it is called there
abbrev Name : Type 0
Name = ℕ × Text

abbrev NoneNamed : Name → List Name → Type 0
NoneNamed x [] = Unit {0}
NoneNamed x (y ∷ ys) = (x.0 ≡ y.0 → x.1 ≢ y.1) × NoneNamed x ys

abbrev NamesApart : List Name → Type 0
NamesApart [] = Unit {0}
NamesApart (x ∷ xs) = NoneNamed x xs × NamesApart xs

-- the first list is the second without some
abbrev IsLeft : List Name → List Name → Type 0
IsLeft xs [] = xs ≡ []
IsLeft xs (y ∷ ys) = IsLeft xs ys ⊎ ((zs : List Name) × (xs ≡ y ∷ zs) × IsLeft zs ys)

left_none : (ys : List Name) → IsLeft [] ys
left_none [] = refl
left_none (y ∷ ys) = inl (left_none ys)

left_joined : (xs ys us vs : List Name) → IsLeft xs ys → IsLeft us vs → IsLeft (xs ++ us) (ys ++ vs)
left_joined xs [] us vs first second = subst (λ (l : List Name). IsLeft (l ++ us) vs) (sym first) second
left_joined xs (y ∷ ys) us vs (inl first) second = inl (left_joined xs ys us vs first second)
left_joined xs (y ∷ ys) us vs (inr (zs, is, first)) second = inr (zs ++ us, ap (λ l. l ++ us) is, left_joined zs ys us vs first second)

none_left : (x : Name) (xs ys : List Name) → IsLeft xs ys → NoneNamed x ys → NoneNamed x xs
none_left x xs [] is none = subst (NoneNamed x) (sym is) none
none_left x xs (y ∷ ys) (inl rest) none = none_left x xs ys rest none.1
none_left x xs (y ∷ ys) (inr (zs, is, rest)) none = subst (NoneNamed x) (sym is) (none.0, none_left x zs ys rest none.1)

apart_left : (xs ys : List Name) → IsLeft xs ys → NamesApart ys → NamesApart xs
apart_left xs [] is apart = subst NamesApart (sym is) apart
apart_left xs (y ∷ ys) (inl rest) apart = apart_left xs ys rest apart.1
apart_left xs (y ∷ ys) (inr (zs, is, rest)) apart = subst NamesApart (sym is) (none_left y zs ys rest apart.0, apart_left zs ys rest apart.1)

-- ---- those of the data nodes of a row, choices and cases passed through

abbrev name_of : Part → Name
name_of p = (p.owner, argument_in p.source)

abbrev data_names : Forest Part → List Name
data_names end = []
data_names (node p below after) = cond (is_passed p.source.keyword) (data_names below ++ data_names after) (name_of p ∷ data_names after)

-- and of the rows below each node
abbrev AllApart : Forest Part → Type 0
AllApart end = Unit {0}
AllApart (node p below after) = NamesApart (data_names below) × AllApart below × AllApart after

-- ---- of all parts none comes twice

abbrev planned_data : Forest Planned → List Planned
planned_data end = []
planned_data (node p below after) = cond (is_passed p.part.source.keyword) (planned_data below ++ planned_data after) (p ∷ planned_data after)

data_within : (f : Forest Planned) → Within (planned_data f) (preorder f)
data_within end = refl
data_within (node p below after) = by (is_passed p.part.source.keyword) (data_within below) (data_within after)
  where
    by : (b : Bool) → Within (planned_data below) (preorder below) → Within (planned_data after) (preorder after)
        → Within (cond b (planned_data below ++ planned_data after) (p ∷ planned_data after)) (p ∷ (preorder below ++ preorder after))
    by true first second = inl (within_joined (planned_data below) (preorder below) (planned_data after) (preorder after) first second)
    by false first second = inr (planned_data after, refl, within_joined [] (preorder below) (planned_data after) (preorder after) (within_none (preorder below)) second)

planned_name : Planned → Name
planned_name p = name_of p.part

planned_names : (next : ℕ) (around : Around) (f : Forest Part) → map planned_name (planned_data (planned next around f)) ≡ data_names f
unfolding planned planned_name
planned_names next around end = refl
planned_names next around (node p below after) =
    by (is_passed p.source.keyword) (planned_names (next + 1) (around_below next around p) below) (planned_names (next + suc (size below)) around after)
  where
    inner : List Planned
    inner = planned_data (planned (next + 1) (around_below next around p) below)

    others : List Planned
    others = planned_data (planned (next + suc (size below)) around after)

    by : (b : Bool) → map planned_name inner ≡ data_names below → map planned_name others ≡ data_names after
        → map planned_name (cond b (inner ++ others) (planned_node next around p ∷ others)) ≡ cond b (data_names below ++ data_names after) (name_of p ∷ data_names after)
    by true first second = map-append planned_name inner others ∙ ap₂ (λ ms ns. ms ++ ns) first second
    by false first second = ap (λ ns. name_of p ∷ ns) second

abbrev InScope : Option ℕ → List Planned → Type 0
InScope scope [] = Unit {0}
InScope scope (p ∷ ps) = (p.scope ≡ scope) × InScope scope ps

scope_joined : (scope : Option ℕ) (ps qs : List Planned) → InScope scope ps → InScope scope qs → InScope scope (ps ++ qs)
scope_joined scope [] qs first second = second
scope_joined scope (p ∷ ps) qs first second = (first.0, scope_joined scope ps qs first.1 second)

-- where what is no case may stand, names are shared with the children of the data node above
abbrev IsScoped : Around → Row → Type 0
IsScoped around r = stands_in r false ≡ true → around.scope ≡ around.data_parent

scoped_below : (next : ℕ) (around : Around) (p : Part) → IsScoped (around_below next around p) (row_below (is_choice_part p))
scoped_below next around p = by (is_choice_part p)
  where
    by : (c : Bool) → stands_in (row_below c) false ≡ true → cond c (Some next) (data_parent_below next around p) ≡ data_parent_below next around p
    by true may = absurd cc
    by false may = refl

in_scope : (count next : ℕ) (around : Around) (r : Row) (f : Forest Part) → AreSound count r f → IsScoped around r
    → InScope around.data_parent (planned_data (planned next around f))
unfolding planned
in_scope count next around r end sound scoped = tt
in_scope count next around r (node p below after) sound scoped = by (is_passed p.source.keyword) refl
    (in_scope count (next + 1) (around_below next around p) (row_below (is_choice_part p)) below sound.2 (scoped_below next around p))
    (in_scope count (next + suc (size below)) around r after sound.3 scoped)
  where
    inner : List Planned
    inner = planned_data (planned (next + 1) (around_below next around p) below)

    others : List Planned
    others = planned_data (planned (next + suc (size below)) around after)

    by : (b : Bool) → is_passed p.source.keyword ≡ b → InScope (cond b around.data_parent (Some next)) inner → InScope around.data_parent others
        → InScope around.data_parent (cond b (inner ++ others) (planned_node next around p ∷ others))
    by true is first second = scope_joined around.data_parent inner others first second
    by false is first second =
        (scoped (ap (stands_in r) (sym (or_parts (same_keyword choice_word p.source.keyword) (same_keyword case_word p.source.keyword) is).1) ∙ sound.0), second)

none_named : (scope : Option ℕ) (p : Planned) (ps : List Planned) → p.scope ≡ scope → InScope scope ps → NoneLike p ps → NoneNamed (planned_name p) (map planned_name ps)
unfolding planned_name
none_named scope p [] here those none = tt
none_named scope p (q ∷ qs) here those none = (names_apart p q (here ∙ sym those.0) none.0, none_named scope p qs here those.1 none.1)

names_differ_in : (scope : Option ℕ) (ps : List Planned) → InScope scope ps → Apart ps → NamesApart (map planned_name ps)
names_differ_in scope [] those apart = tt
names_differ_in scope (p ∷ ps) those apart = (none_named scope p ps those.0 those.1 apart.0, names_differ_in scope ps those.1 apart.1)

pub row_apart : (count next : ℕ) (around : Around) (r : Row) (f : Forest Part) → AreSound count r f → IsScoped around r → Apart (preorder (planned next around f)) → NamesApart (data_names f)
row_apart count next around r f sound scoped apart =
    let nodes = planned next around f in
    subst NamesApart (planned_names next around f) (names_differ_in around.data_parent (planned_data nodes) (in_scope count next around r f sound scoped)
    (apart_within (planned_data nodes) (preorder nodes) (data_within nodes) apart))

pub all_apart : (count next : ℕ) (around : Around) (r : Row) (f : Forest Part) → AreSound count r f → Apart (preorder (planned next around f)) → AllApart f
unfolding planned
all_apart count next around r end sound apart = tt
all_apart count next around r (node p below after) sound apart =
    let inner = preorder (planned (next + 1) (around_below next around p) below) in
    let others = preorder (planned (next + suc (size below)) around after) in
    let first = apart_within inner (inner ++ others) (within_first inner others) apart.1 in (
      row_apart count (next + 1) (around_below next around p) (row_below (is_choice_part p)) below sound.2 (scoped_below next around p) first,
      all_apart count (next + 1) (around_below next around p) (row_below (is_choice_part p)) below sound.2 first,
      all_apart count (next + suc (size below)) around r after sound.3 (apart_within others (inner ++ others) (within_second inner others) apart.1),
    )

-- ---- nor of those that stand

module _ (holds : Part → Bool) where
  pub names_left : (f : Forest Part) → IsLeft (data_names (standing_by holds f)) (data_names f)
  unfolding standing_by
  names_left end = refl
  names_left (node p below after) =
      by (holds p) (is_implied_case p && is_all_cut below (standing_by holds below)) (is_default_off p below (standing_by holds below))
      (names_left below) (names_left after)
    where
      inner : Forest Part
      inner = standing_by holds below

      others : Forest Part
      others = standing_by holds after

      gone : (b : Bool) → IsLeft (data_names others) (data_names after) → IsLeft (data_names others) (cond b (data_names below ++ data_names after) (name_of p ∷ data_names after))
      gone true rest = left_joined [] (data_names below) (data_names others) (data_names after) (left_none (data_names below)) rest
      gone false rest = inl rest

      kept : (b : Bool) → IsLeft (data_names inner) (data_names below) → IsLeft (data_names others) (data_names after)
          → IsLeft (cond b (data_names inner ++ data_names others) (name_of p ∷ data_names others)) (cond b (data_names below ++ data_names after) (name_of p ∷ data_names after))
      kept true first rest = left_joined (data_names inner) (data_names below) (data_names others) (data_names after) first rest
      kept false first rest = inr (data_names others, refl, rest)

      by : (x y z : Bool) → IsLeft (data_names inner) (data_names below) → IsLeft (data_names others) (data_names after)
          → IsLeft (data_names (cond x (cond y others (node (cond z (record p { own = without_default p.own }) p) inner others)) others))
          (cond (is_passed p.source.keyword) (data_names below ++ data_names after) (name_of p ∷ data_names after))
      by false y z first rest = gone (is_passed p.source.keyword) rest
      by true true z first rest = gone (is_passed p.source.keyword) rest
      by true false true first rest = kept (is_passed p.source.keyword) first rest
      by true false false first rest = kept (is_passed p.source.keyword) first rest

  pub all_left : (f : Forest Part) → AllApart f → AllApart (standing_by holds f)
  unfolding standing_by
  all_left end apart = tt
  all_left (node p below after) apart =
      by (holds p) (is_implied_case p && is_all_cut below (standing_by holds below)) (is_default_off p below (standing_by holds below))
      (all_left below apart.1) (all_left after apart.2)
    where
      inner : Forest Part
      inner = standing_by holds below

      others : Forest Part
      others = standing_by holds after

      by : (x y z : Bool) → AllApart inner → AllApart others
          → AllApart (cond x (cond y others (node (cond z (record p { own = without_default p.own }) p) inner others)) others)
      by false y z first rest = rest
      by true true z first rest = rest
      by true false z first rest = (apart_left (data_names inner) (data_names below) (names_left below) apart.0, first, rest)

-- ---- as schema nodes

node_name : SchemaNode → Name
node_name n = (n.module_number, n.name)

own_name : (n : SchemaNode) (f : Forest SchemaNode) → NoneNamed (node_name n) (map node_name (row f)) → HasItsName n f
unfolding node_name
own_name n end none = tt
own_name n (node m below after) none = (none.0, own_name n after none.1)

row_named : (schema : Schema) (f : Forest SchemaNode) → NodesAreNamed schema f → NamesApart (map node_name (row f)) → RowIsNamed schema f
row_named schema end named apart = tt
row_named schema (node n below after) named apart = (named.0, own_name n after apart.0, row_named schema after named.2 apart.1)

named_joined : (schema : Schema) (f g : Forest SchemaNode) → NodesAreNamed schema f → NodesAreNamed schema g → NodesAreNamed schema (join f g)
named_joined schema end g first second = second
named_joined schema (node n below after) g first second = (first.0, first.1, named_joined schema after g first.2 second)

data_named : (schema : Schema) (f : Forest SchemaNode) → NodesAreNamed schema f → NodesAreNamed schema (data_row f)
data_named schema end named = tt
data_named schema (node n below after) named = by (is_data n.kind) (data_named schema below named.1) (data_named schema after named.2)
  where
    by : (b : Bool) → NodesAreNamed schema (data_row below) → NodesAreNamed schema (data_row after)
        → NodesAreNamed schema (cond b (node n below (data_row after)) (join (data_row below) (data_row after)))
    by true first rest = (named.0, named.1, rest)
    by false first rest = named_joined schema (data_row below) (data_row after) first rest

names_joined : (f g : Forest SchemaNode) → map node_name (row (join f g)) ≡ map node_name (row f) ++ map node_name (row g)
names_joined end g = refl
names_joined (node n below after) g = ap (λ ns. node_name n ∷ ns) (names_joined after g)

module _ (language : Language) (plan : Plan) (count : ℕ) where
  data_row_names : (next : ℕ) (around : Around) (r : Row) (f : Forest Part) → AreSound count r f
      → map node_name (row (data_row (relabelled (schema_node_in language plan) (planned next around f)))) ≡ data_names f
  unfolding planned node_name
  data_row_names next around r end sound = refl
  data_row_names next around r (node p below after) sound =
      ap (λ b. map node_name (row (cond b (node (schema_node_in language plan (planned_node next around p)) inner (data_row others)) (join (data_row inner) (data_row others)))))
      (data_by language plan (planned_node next around p) p.source.keyword sound.1.defines)
      ∙ by (is_passed p.source.keyword) (data_row_names (next + 1) (around_below next around p) (row_below (is_choice_part p)) below sound.2)
      (data_row_names (next + suc (size below)) around r after sound.3)
    where
      inner : Forest SchemaNode
      inner = relabelled (schema_node_in language plan) (planned (next + 1) (around_below next around p) below)

      others : Forest SchemaNode
      others = relabelled (schema_node_in language plan) (planned (next + suc (size below)) around after)

      by : (b : Bool) → map node_name (row (data_row inner)) ≡ data_names below → map node_name (row (data_row others)) ≡ data_names after
          → map node_name (row (cond (not b) (node (schema_node_in language plan (planned_node next around p)) inner (data_row others)) (join (data_row inner) (data_row others))))
          ≡ cond b (data_names below ++ data_names after) (name_of p ∷ data_names after)
      by true first rest = names_joined (data_row inner) (data_row others) ∙ ap₂ (λ ms ns. ms ++ ns) first rest
      by false first rest = ap (λ ns. name_of p ∷ ns) rest

module _ (language : Language) (schema : Schema) (plan : Plan) where
  row_is_named : (next : ℕ) (around : Around) (r : Row) (f : Forest Part) → AreSound (length schema.modules) r f → NamesApart (data_names f)
      → RowIsNamed schema (data_row (relabelled (schema_node_in language plan) (planned next around f)))
  row_is_named next around r f sound apart =
      let nodes = relabelled (schema_node_in language plan) (planned next around f) in
      row_named schema (data_row nodes) (data_named schema nodes (nodes_named language schema plan next around r f sound))
      (subst NamesApart (sym (data_row_names language plan (length schema.modules) next around r f sound)) apart)

  all_named : (next : ℕ) (around : Around) (r : Row) (f : Forest Part) → AreSound (length schema.modules) r f → AllApart f
      → AllAreNamed schema (relabelled (schema_node_in language plan) (planned next around f))
  unfolding planned
  all_named next around r end sound apart = tt
  all_named next around r (node p below after) sound apart = (
    row_is_named (next + 1) (around_below next around p) (row_below (is_choice_part p)) below sound.2 apart.0,
    all_named (next + 1) (around_below next around p) (row_below (is_choice_part p)) below sound.2 apart.1,
    all_named (next + suc (size below)) around r after sound.3 apart.2,
  )

  -- of all parts none are alike, so the nodes of those that stand are named
  pub are_named : (holds : Part → Bool) (f : Forest Part) → AreSound (length schema.modules) elsewhere f → AreSound (length schema.modules) elsewhere (standing_by holds f)
      → Apart (preorder (planned 0 at_top f)) → schema.nodes ≡ relabelled (schema_node_in language plan) (planned 0 at_top (standing_by holds f)) → AreNamed schema
  are_named holds f whole sound apart is =
      let names = apart_left (data_names (standing_by holds f)) (data_names f) (names_left holds f)
      (row_apart (length schema.modules) 0 at_top elsewhere f whole (λ may. refl) apart) in
      let inner = all_left holds f (all_apart (length schema.modules) 0 at_top elsewhere f whole apart) in
      subst (λ (nodes : Forest SchemaNode). RowIsNamed schema (data_row nodes) × AllAreNamed schema nodes) (sym is)
      (row_is_named 0 at_top elsewhere (standing_by holds f) sound names, all_named 0 at_top elsewhere (standing_by holds f) sound inner)
