-- How many nodes of a value are right: those of the members that name a row's nodes, node by node.
use Rattle.std.proofs.Common.{◌≡◌, ◌≢◌, ℕ, ◌+◌, ◌-◌, ◌≤◌, Bool, true, false, cond, List, [], ◌∷◌, ◌++◌, Option, Some, None, Ordering, Less, Equal, Greater, nat_cmp, refl, sym, ap, ◌∙◌, subst, arith}
use Rattle.std.proofs.lemmas.Bool.{ne_eqb}
use Rattle.std.proofs.lemmas.Slice.Eq.{bytes_eq-Decides}
use Rattle.std.specs.Cmp.Lexicographic.{slice_cmp}
use Rattle.std.specs.Ordering.{match_ordering}
use Rattle.serde_json.specs.Data.{Data, Members, no_members, member}
use Rattle.serde_json.specs.Find.{get_member}
use Rattle.yspec.specs.Forest.{Forest, end, node}
use Rattle.yspec.specs.text.Text.{Text, is_text}
use Rattle.yspec.specs.schema.Schema.{Schema, SchemaNode, written_name, other_name}
use Rattle.yspec.specs.document.Document.{Step}
use Rattle.yspec.specs.document.Reading.{Visit, right, wrong, Named, child, other_form, unknown, named_in, other_or, at_named, first_wrong, right_nodes, first_refusal}
use Rattle.yspec.proofs.DocumentProofs.MemberLemmas.{AreRising, first_member, other_member, none_behind}
use Rattle.yspec.proofs.BasicLemmas.{texts_differ}

-- ---- right visits

pub rights_joined : (vs ws : List Visit) → right_nodes (vs ++ ws) ≡ right_nodes vs + right_nodes ws
rights_joined [] ws = omega arith
rights_joined (right place ∷ vs) ws = let rest = rights_joined vs ws in omega (arith, rest)
rights_joined (wrong code place ∷ vs) ws = rights_joined vs ws

-- where there is room for all that are right, the first refusal is of another one
pub room_for_all : (vs : List Visit) (room : ℕ) → right_nodes vs ≤ room → first_refusal room vs ≡ first_wrong vs
room_for_all [] room lower = refl
room_for_all (wrong code place ∷ vs) room lower = refl
room_for_all (right place ∷ vs) room lower =
    ap (λ b. cond b (Some (record { code = 7; place = [] })) (first_refusal (room - 1) vs)) (ne_eqb room 0 (omega (arith, lower)))
    ∙ room_for_all vs (room - 1) (omega (arith, lower))

-- ---- members

-- what is so of the value of each member
abbrev pub EachMember : (Data → Type 0) → Members → Type 0
EachMember P no_members = Unit {0}
EachMember P (member name d ms) = P d × EachMember P ms

pub found_among : (P : Data → Type 0) (name : Text) (ms : Members) (d : Data) → EachMember P ms → get_member name ms ≡ Some d → P d
found_among P name no_members d each is = let no : ⊥ = cc in absurd no
found_among P name (member other e ms) d each is = by (slice_cmp nat_cmp name other) (found_among P name ms d each.1) is
  where
    by : (o : Ordering) → (get_member name ms ≡ Some d → P d) → match_ordering o (get_member name ms) (Some e) (get_member name ms) ≡ Some d → P d
    by Less later is = later is
    by Equal later is = let same : e ≡ d = cc in subst P same each.0
    by Greater later is = later is

-- a name that means a child of a row behind one that it doesn't name
pub child_later : (b : Bool) (m : Named) (n : SchemaNode) (f : Forest SchemaNode) → other_or b m ≡ child n f → m ≡ child n f
child_later b (child m g) n f e = e
child_later true other_form n f e = absurd cc
child_later true unknown n f e = absurd cc
child_later false other_form n f e = absurd cc
child_later false unknown n f e = absurd cc

module _ (weight : SchemaNode → Forest SchemaNode → Data → ℕ) where
  -- what the value of a member weighs, by what the member's name means
  abbrev pub weigh_named : Named → Data → ℕ
  weigh_named (child n below) d = weight n below d
  weigh_named other_form d = 0
  weigh_named unknown d = 0

  abbrev pub weigh_found : Named → Option Data → ℕ
  weigh_found m None = 0
  weigh_found m (Some d) = weigh_named m d

  -- what the members of an object weigh, whose names are looked up in a row
  abbrev pub weigh_members : Schema → Option ℕ → Forest SchemaNode → Members → ℕ
  weigh_members s parent row no_members = 0
  weigh_members s parent row (member name d ms) = weigh_named (named_in s parent name row) d + weigh_members s parent row ms

  pub weigh_later : (b : Bool) (m : Named) (d : Data) → weigh_named (other_or b m) d ≡ weigh_named m d
  weigh_later b (child n below) d = refl
  weigh_later true other_form d = refl
  weigh_later true unknown d = refl
  weigh_later false other_form d = refl
  weigh_later false unknown d = refl

  pub weigh_at_end : (s : Schema) (parent : Option ℕ) (ms : Members) → weigh_members s parent end ms ≡ 0
  weigh_at_end s parent no_members = refl
  weigh_at_end s parent (member name d ms) = let rest = weigh_at_end s parent ms in omega (arith, rest)

  -- with the first node of the row and without it
  pub weigh_first : (s : Schema) (parent : Option ℕ) (n : SchemaNode) (below after : Forest SchemaNode) (ms : Members) → AreRising ms
      → weigh_members s parent (node n below after) ms
      + weigh_found (named_in s parent (written_name s parent n) after) (get_member (written_name s parent n) ms)
      ≡ weigh_found (child n below) (get_member (written_name s parent n) ms) + weigh_members s parent after ms
  weigh_first s parent n below after no_members rising = refl
  weigh_first s parent n below after (member name d ms) rising =
      by (is_text name (written_name s parent n)) refl (weigh_first s parent n below after ms rising.2)
    where
      by : (b : Bool) → is_text name (written_name s parent n) ≡ b
          → weigh_members s parent (node n below after) ms + weigh_found (named_in s parent (written_name s parent n) after) (get_member (written_name s parent n) ms)
          ≡ weigh_found (child n below) (get_member (written_name s parent n) ms) + weigh_members s parent after ms
          → (weigh_named (cond b (child n below) (other_or (is_text name (other_name s parent n)) (named_in s parent name after))) d
          + weigh_members s parent (node n below after) ms)
          + weigh_found (named_in s parent (written_name s parent n) after) (get_member (written_name s parent n) (member name d ms))
          ≡ weigh_found (child n below) (get_member (written_name s parent n) (member name d ms))
          + (weigh_named (named_in s parent name after) d + weigh_members s parent after ms)
      by true is rest =
          let same : name ≡ written_name s parent n = (bytes_eq-Decides name (written_name s parent n)).0 is in
          let here : get_member (written_name s parent n) (member name d ms) ≡ Some d =
          ap (λ (t : Text). get_member t (member name d ms)) (sym same) ∙ first_member name d ms in
          let nothing : get_member (written_name s parent n) ms ≡ None = ap (λ (t : Text). get_member t ms) (sym same) ∙ none_behind name ms rising.0 in
          let first = ap (weigh_found (named_in s parent (written_name s parent n) after)) here in
          let second = ap (weigh_found (child n below)) here in
          let third = ap (weigh_found (named_in s parent (written_name s parent n) after)) nothing in
          let fourth = ap (weigh_found (child n below)) nothing in
          let fifth = ap (λ (t : Text). weigh_named (named_in s parent t after) d) same in
          omega (arith, rest, first, second, third, fourth, fifth)
      by false is rest =
          let apart : written_name s parent n ≢ name = λ e. texts_differ name (written_name s parent n) is (sym e) in
          let found = other_member (written_name s parent n) name d ms apart in
          let first = ap (weigh_found (named_in s parent (written_name s parent n) after)) found in
          let second = ap (weigh_found (child n below)) found in
          let third = weigh_later (is_text name (other_name s parent n)) (named_in s parent name after) d in
          omega (arith, rest, first, second, third)

-- the right visits of a member
pub rights_named : (m : Named) (place : List Step) (d : Data) (visits : SchemaNode → Forest SchemaNode → Data → List Visit)
    → right_nodes (at_named m place (λ n below. visits n below d)) ≡ weigh_named (λ n below d. right_nodes (visits n below d)) m d
rights_named (child n below) place d visits = refl
rights_named other_form place d visits = refl
rights_named unknown place d visits = refl
