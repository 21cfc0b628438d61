-- What is made of a type goes by the types of those nodes alone to which it refers, and is what one reference more finds.
use Rattle.std.proofs.Common.{◌≡◌, ℕ, zero, suc, Bool, true, false, cond, List, [], ◌∷◌, ◌++◌, length, map, Option, Some, None, refl, sym, ap, ap₂, ◌∙◌, inl, inr}
use Rattle.std.specs.Prelude.{◌⊎◌, nat_lt, option_map, option_and_then, option_to_list}
use Rattle.std.specs.List.{cons_option, filter_map, flat_map}
use Rattle.std.specs.Option.{option_map_or}
use Rattle.std.proofs.lemmas.List.{length-map, map-append}
use Rattle.yspec.specs.text.Text.{Text}
use Rattle.yspec.specs.types.Types.{Base, identity_base, SimpleType, Shape, single, union, YangType, base_in, simple_in, shape_in, type_in}
use Rattle.yspec.specs.types.Restriction.{all_members, members_of, union_type}
use Rattle.yspec.specs.schema.Schema.{MemberTarget}
use Rattle.yspec.specs.linking.Identities.{module_name}
use Rattle.yspec.specs.linking.TypeStatements.{Member, own_member, leafref_member, Meant, own, of_target, of_union, member_limit}
use Rattle.yspec.specs.linking.Planned.{Planned, Plan, referring, path_target, member_target, member_types, is_too_wide, union_within, type_by, targets_by, targets_in, union_targets}
use Rattle.yspec_wide.specs.Types.{Keeping, is_wide_union, type_of_kept}
use Rattle.yschema_types.specs.MadeTypes.{nothing, too_wide, type_made, targets_made, is_wide_made, typed_in, joined, made_as, within_as, found_as}
use Rattle.yschema_types.specs.ReferenceEdges.{nodes_meant}
use Rattle.ybase_graph.proofs.AmongLemmas.{Among, first, later, nowhere, parted}

-- ---- a type in a module, whichever it was in before

base_again : (home other : Text) (b : Base) → base_in home (base_in other b) ≡ base_in home b
base_again home other (identity_base own_home identities numbers) = refl
base_again home other _ = refl

simple_again : (home other : Text) (s : SimpleType) → simple_in home (simple_in other s) ≡ simple_in home s
simple_again home other s = ap (λ b. record s { base = b }) (base_again home other s.base)

simples_again : (home other : Text) (ss : List SimpleType) → map (simple_in home) (map (simple_in other) ss) ≡ map (simple_in home) ss
simples_again home other [] = refl
simples_again home other (s ∷ ss) = ap₂ (λ x xs. x ∷ xs) (simple_again home other s) (simples_again home other ss)

members_again : (home other : Text) (shape : Shape) → map (simple_in home) (members_of (shape_in other shape)) ≡ map (simple_in home) (members_of shape)
members_again home other (single s) = ap (λ x. x ∷ []) (simple_again home other s)
members_again home other (union members) = simples_again home other members

shape_again : (home other : Text) (shape : Shape) → shape_in home (shape_in other shape) ≡ shape_in home shape
shape_again home other (single s) = ap single (simple_again home other s)
shape_again home other (union members) = ap union (simples_again home other members)

referring_again : (home other : Text) (required : Bool) (type : YangType) → type_in home (referring required (type_in other type)) ≡ type_in home (referring required type)
referring_again home other required type = ap (λ (s : Shape). record { shape = s; requires_instance = Some required }) (shape_again home other type.shape)

-- ---- unions

module _ (home : Text) where
  abbrev seen : List YangType → List SimpleType
  seen types = map (simple_in home) (all_members types)

  abbrev union_of : List SimpleType → YangType
  union_of members = record { shape = union members; requires_instance = None }

  -- a union of such members, where so many aren't too many
  abbrev limited : ℕ → List SimpleType → Option YangType
  limited count members = cond (nat_lt member_limit count) None (Some (union_of members))

  abbrev narrowed : List SimpleType → Option YangType
  narrowed members = limited (length members) members

  type_joined : (targets : List (Option MemberTarget)) (types : List YangType) → type_made (joined home targets types) ≡ narrowed (seen types)
  type_joined targets types =
      by (is_too_wide types)
      ∙ ap (λ n. limited n (seen types)) (sym (length-map (all_members types) (simple_in home)))
    where
      by : (b : Bool) → type_made (cond b too_wide (typed_in home targets (union_type types)))
          ≡ cond b None (Some (union_of (seen types)))
      by true = refl
      by false = refl

  type_of_union : (types : List YangType) → option_map (type_in home) (union_within types) ≡ narrowed (seen types)
  type_of_union types =
      by (is_too_wide types)
      ∙ ap (λ n. limited n (seen types)) (sym (length-map (all_members types) (simple_in home)))
    where
      by : (b : Bool) → option_map (type_in home) (cond b None (Some (union_type types)))
          ≡ cond b None (Some (union_of (seen types)))
      by true = refl
      by false = refl

  made_if : (targets : List (Option MemberTarget)) (o : Option (List YangType))
      → type_made (option_map_or (joined home targets) o nothing) ≡ option_and_then narrowed (option_map seen o)
  made_if targets None = refl
  made_if targets (Some types) = type_joined targets types

  union_if : (o : Option (List YangType)) → option_map (type_in home) (option_and_then union_within o) ≡ option_and_then narrowed (option_map seen o)
  union_if None = refl
  union_if (Some types) = type_of_union types

  first_seen : (t : YangType) (o : Option (List YangType))
      → option_map seen (option_map (λ ts. t ∷ ts) o) ≡ option_map (λ ss. map (simple_in home) (members_of t.shape) ++ ss) (option_map seen o)
  first_seen t None = refl
  first_seen t (Some ts) = ap Some (map-append (simple_in home) (members_of t.shape) (all_members ts))

  both_seen : (t u : YangType) (some others : Option (List YangType))
      → map (simple_in home) (members_of t.shape) ≡ map (simple_in home) (members_of u.shape) → option_map seen some ≡ option_map seen others
      → option_map seen (option_map (λ ts. t ∷ ts) some) ≡ option_map seen (option_map (λ ts. u ∷ ts) others)
  both_seen t u some others here rest =
      first_seen t some ∙ (ap₂ (λ front o. option_map (λ ss. front ++ ss) o) here rest ∙ sym (first_seen u others))

-- ---- one reference more

module _ (plan : Plan) (meant : Planned → Option Meant) where
  abbrev home_of : Planned → Text
  home_of p = module_name plan.modules p.part.owner

  one_more : (s : ℕ) (p : Planned) → within_as plan meant (suc s) p ≡ option_and_then (type_by plan (within_as plan meant s) p) (meant p)
  unfolding within_as
  one_more s p = refl

  pub none_found : (p : Planned) → found_as plan meant zero p ≡ None
  unfolding within_as
  none_found p = refl

  module _ (s : ℕ) (p : Planned) where
    members_alike : (ms : List Member) → option_map (seen (home_of p)) (member_types plan (found_as plan meant s) p ms)
        ≡ option_map (seen (home_of p)) (member_types plan (within_as plan meant s) p ms)
    members_alike [] = refl
    members_alike (own_member type ∷ ms) =
        both_seen (home_of p) type type (member_types plan (found_as plan meant s) p ms) (member_types plan (within_as plan meant s) p ms) refl (members_alike ms)
    members_alike (leafref_member at steps required ∷ ms) = by (path_target plan p at steps) (members_alike ms)
      where
        some : Option (List YangType)
        some = member_types plan (found_as plan meant s) p ms

        others : Option (List YangType)
        others = member_types plan (within_as plan meant s) p ms

        of_one : (t : Planned) (x : Option YangType) → option_map (seen (home_of p)) some ≡ option_map (seen (home_of p)) others
            → option_map (seen (home_of p)) (option_and_then (λ type. option_map (λ types. type ∷ types) some) (option_map (type_in (home_of t)) x))
            ≡ option_map (seen (home_of p)) (option_and_then (λ type. option_map (λ types. type ∷ types) others) x)
        of_one t None rest = refl
        of_one t (Some type) rest = both_seen (home_of p) (type_in (home_of t) type) type some others (members_again (home_of p) (home_of t) type.shape) rest

        by : (o : Option Planned) → option_map (seen (home_of p)) some ≡ option_map (seen (home_of p)) others
            → option_map (seen (home_of p)) (option_and_then (λ type. option_map (λ types. type ∷ types) some) (option_and_then (found_as plan meant s) o))
            ≡ option_map (seen (home_of p)) (option_and_then (λ type. option_map (λ types. type ∷ types) others) (option_and_then (within_as plan meant s) o))
        by None rest = refl
        by (Some t) rest = of_one t (within_as plan meant s t) rest

    -- what is made over the types that so many steps find is what one step more finds
    pub made_found : type_made (made_as (module_name plan.modules) plan (found_as plan meant s) p (meant p)) ≡ found_as plan meant (suc s) p
    made_found = by (meant p) ∙ ap (option_map (type_in (home_of p))) (sym (one_more s p))
      where
        of_one : (required : Bool) (t : Planned) (x : Option YangType)
            → type_made (option_map_or (λ type. typed_in (home_of p) [] (referring required type)) (option_map (type_in (home_of t)) x) nothing)
            ≡ option_map (type_in (home_of p)) (option_map (referring required) x)
        of_one required t None = refl
        of_one required t (Some type) = ap Some (referring_again (home_of p) (home_of t) required type)

        target : (required : Bool) (o : Option Planned)
            → type_made (option_map_or (λ type. typed_in (home_of p) [] (referring required type)) (option_and_then (found_as plan meant s) o) nothing)
            ≡ option_map (type_in (home_of p)) (option_map (referring required) (option_and_then (within_as plan meant s) o))
        target required None = refl
        target required (Some t) = of_one required t (within_as plan meant s t)

        by : (o : Option Meant) → type_made (made_as (module_name plan.modules) plan (found_as plan meant s) p o)
            ≡ option_map (type_in (home_of p)) (option_and_then (type_by plan (within_as plan meant s) p) o)
        by None = refl
        by (Some (own type)) = refl
        by (Some (of_target at steps required)) = target required (path_target plan p at steps)
        by (Some (of_union members)) =
            made_if (home_of p) (flat_map (targets_in plan (found_as plan meant s) p) members) (member_types plan (found_as plan meant s) p members)
            ∙ (ap (option_and_then (narrowed (home_of p))) (members_alike members)
            ∙ sym (union_if (home_of p) (member_types plan (within_as plan meant s) p members)))

-- ---- the types of others

module _ (plan : Plan) (p : Planned) where
  module _ (some others : Planned → Option YangType) where
    same_types : (ms : List Member) → ((t : Planned) → Among t (filter_map (member_target plan p) ms) → some t ≡ others t)
        → member_types plan some p ms ≡ member_types plan others p ms
    same_types [] same = refl
    same_types (own_member type ∷ ms) same = ap (option_map (λ types. type ∷ types)) (same_types ms same)
    same_types (leafref_member at steps required ∷ ms) same = by (path_target plan p at steps) same (same_types ms)
      where
        by : (o : Option Planned) → ((t : Planned) → Among t (cons_option o (filter_map (member_target plan p) ms)) → some t ≡ others t)
            → (((t : Planned) → Among t (filter_map (member_target plan p) ms) → some t ≡ others t) → member_types plan some p ms ≡ member_types plan others p ms)
            → option_and_then (λ type. option_map (λ types. type ∷ types) (member_types plan some p ms)) (option_and_then some o)
            ≡ option_and_then (λ type. option_map (λ types. type ∷ types) (member_types plan others p ms)) (option_and_then others o)
        by None same_there rest = refl
        by (Some t) same_there rest = ap₂ (λ types x. option_and_then (λ type. option_map (λ ts. type ∷ ts) types) x)
            (rest (λ u at_u. same_there u (later at_u))) (same_there t first)

    same_targets : (ms : List Member) → ((t : Planned) → Among t (filter_map (member_target plan p) ms) → some t ≡ others t)
        → flat_map (targets_in plan some p) ms ≡ flat_map (targets_in plan others p) ms
    same_targets [] same = refl
    same_targets (own_member type ∷ ms) same = ap (λ l. map (λ s. None) (members_of type.shape) ++ l) (same_targets ms same)
    same_targets (leafref_member at steps required ∷ ms) same = by (path_target plan p at steps) same (same_targets ms)
      where
        to : (Planned → Option YangType) → Planned → List (Option MemberTarget)
        to types t = option_map_or (λ type. targets_by t.number required type.shape) (types t) []

        by : (o : Option Planned) → ((t : Planned) → Among t (cons_option o (filter_map (member_target plan p) ms)) → some t ≡ others t)
            → (((t : Planned) → Among t (filter_map (member_target plan p) ms) → some t ≡ others t) → flat_map (targets_in plan some p) ms ≡ flat_map (targets_in plan others p) ms)
            → option_map_or (to some) o [] ++ flat_map (targets_in plan some p) ms ≡ option_map_or (to others) o [] ++ flat_map (targets_in plan others p) ms
        by None same_there rest = rest same_there
        by (Some t) same_there rest = ap₂ (λ x l. option_map_or (λ type. targets_by t.number required type.shape) x [] ++ l)
            (same_there t first) (rest (λ u at_u. same_there u (later at_u)))

    pub same_made : (homes : ℕ → Text) (o : Option Meant) → ((t : Planned) → Among t (nodes_meant plan p o) → some t ≡ others t)
        → made_as homes plan some p o ≡ made_as homes plan others p o
    same_made homes None same = refl
    same_made homes (Some (own type)) same = refl
    same_made homes (Some (of_target at steps required)) same = by (path_target plan p at steps) same
      where
        by : (o : Option Planned) → ((t : Planned) → Among t (option_to_list o) → some t ≡ others t)
            → option_map_or (λ type. typed_in (homes p.part.owner) [] (referring required type)) (option_and_then some o) nothing
            ≡ option_map_or (λ type. typed_in (homes p.part.owner) [] (referring required type)) (option_and_then others o) nothing
        by None same_there = refl
        by (Some t) same_there = ap (λ x. option_map_or (λ type. typed_in (homes p.part.owner) [] (referring required type)) x nothing) (same_there t first)
    same_made homes (Some (of_union members)) same =
        ap₂ (λ targets types. option_map_or (joined (homes p.part.owner) targets) types nothing) (same_targets members same) (same_types members same)

  -- where one of them has none, nothing is made
  module _ (types : Planned → Option YangType) (t : Planned) (none : types t ≡ None) where
    no_types : (ms : List Member) → Among t (filter_map (member_target plan p) ms) → member_types plan types p ms ≡ None
    no_types [] at = absurd (nowhere t [] refl at)
    no_types (own_member type ∷ ms) at = ap (option_map (λ ts. type ∷ ts)) (no_types ms at)
    no_types (leafref_member home steps required ∷ ms) at = by (path_target plan p home steps) at (no_types ms)
      where
        behind : (x : Option YangType) → member_types plan types p ms ≡ None
            → option_and_then (λ type. option_map (λ ts. type ∷ ts) (member_types plan types p ms)) x ≡ None
        behind None e = refl
        behind (Some type) e = ap (option_map (λ ts. type ∷ ts)) e

        by : (o : Option Planned) → Among t (cons_option o (filter_map (member_target plan p) ms))
            → (Among t (filter_map (member_target plan p) ms) → member_types plan types p ms ≡ None)
            → option_and_then (λ type. option_map (λ ts. type ∷ ts) (member_types plan types p ms)) (option_and_then types o) ≡ None
        by None there rest = refl
        by (Some u) there rest = one (parted t u (filter_map (member_target plan p) ms) (u ∷ filter_map (member_target plan p) ms) refl there)
          where
            one : (t ≡ u) ⊎ Among t (filter_map (member_target plan p) ms)
                → option_and_then (λ type. option_map (λ ts. type ∷ ts) (member_types plan types p ms)) (types u) ≡ None
            one (inl same) = ap (option_and_then (λ type. option_map (λ ts. type ∷ ts) (member_types plan types p ms))) (ap types (sym same) ∙ none)
            one (inr more) = behind (types u) (rest more)

    pub none_made : (homes : ℕ → Text) (o : Option Meant) → Among t (nodes_meant plan p o) → type_made (made_as homes plan types p o) ≡ None
    none_made homes None at = refl
    none_made homes (Some (own type)) at = absurd (nowhere t [] refl at)
    none_made homes (Some (of_target home steps required)) at = by (path_target plan p home steps) at
      where
        by : (o : Option Planned) → Among t (option_to_list o)
            → type_made (option_map_or (λ type. typed_in (homes p.part.owner) [] (referring required type)) (option_and_then types o) nothing) ≡ None
        by None there = refl
        by (Some u) there = one (parted t u [] (u ∷ []) refl there)
          where
            one : (t ≡ u) ⊎ Among t [] → type_made (option_map_or (λ type. typed_in (homes p.part.owner) [] (referring required type)) (types u) nothing) ≡ None
            one (inl same) = ap (λ x. type_made (option_map_or (λ type. typed_in (homes p.part.owner) [] (referring required type)) x nothing)) (ap types (sym same) ∙ none)
            one (inr more) = absurd (nowhere t [] refl more)
    none_made homes (Some (of_union members)) at =
        ap (λ x. type_made (option_map_or (joined (homes p.part.owner) (flat_map (targets_in plan types p) members)) x nothing)) (no_types members at)

-- ---- what else is made

module _ (homes : ℕ → Text) (plan : Plan) (types : Planned → Option YangType) (p : Planned) where
  pub targets_are : (o : Option Meant) → targets_made (made_as homes plan types p o)
      ≡ option_map_or (λ type. option_map_or (union_targets plan types p) o []) (type_made (made_as homes plan types p o)) []
  targets_are None = refl
  targets_are (Some (own type)) = refl
  targets_are (Some (of_target at steps required)) = by (option_and_then types (path_target plan p at steps))
    where
      by : (x : Option YangType) → targets_made (option_map_or (λ type. typed_in (homes p.part.owner) [] (referring required type)) x nothing)
          ≡ option_map_or (λ type. []) (type_made (option_map_or (λ type. typed_in (homes p.part.owner) [] (referring required type)) x nothing)) []
      by None = refl
      by (Some type) = refl
  targets_are (Some (of_union members)) = by (member_types plan types p members)
    where
      targets : List (Option MemberTarget)
      targets = flat_map (targets_in plan types p) members

      one : (b : Bool) (ts : List YangType) → targets_made (cond b too_wide (typed_in (homes p.part.owner) targets (union_type ts)))
          ≡ option_map_or (λ type. targets) (type_made (cond b too_wide (typed_in (homes p.part.owner) targets (union_type ts)))) []
      one true ts = refl
      one false ts = refl

      by : (x : Option (List YangType)) → targets_made (option_map_or (joined (homes p.part.owner) targets) x nothing)
          ≡ option_map_or (λ type. targets) (type_made (option_map_or (joined (homes p.part.owner) targets) x nothing)) []
      by None = refl
      by (Some ts) = one (is_too_wide ts) ts

pub wide_is : (homes : ℕ → Text) (kept : Keeping) (plan : Plan) (p : Planned) (o : Option Meant)
    → is_wide_made (made_as homes plan (type_of_kept kept plan) p o) ≡ option_map_or (is_wide_union kept plan p) o false
wide_is homes kept plan p None = refl
wide_is homes kept plan p (Some (own type)) = refl
wide_is homes kept plan p (Some (of_target at steps required)) = by (option_and_then (type_of_kept kept plan) (path_target plan p at steps))
  where
    by : (x : Option YangType) → is_wide_made (option_map_or (λ type. typed_in (homes p.part.owner) [] (referring required type)) x nothing) ≡ false
    by None = refl
    by (Some type) = refl
wide_is homes kept plan p (Some (of_union members)) = by (member_types plan (type_of_kept kept plan) p members)
  where
    targets : List (Option MemberTarget)
    targets = flat_map (targets_in plan (type_of_kept kept plan) p) members

    one : (b : Bool) (ts : List YangType) → is_wide_made (cond b too_wide (typed_in (homes p.part.owner) targets (union_type ts))) ≡ b
    one true ts = refl
    one false ts = refl

    by : (x : Option (List YangType)) → is_wide_made (option_map_or (joined (homes p.part.owner) targets) x nothing) ≡ option_map_or is_too_wide x false
    by None = refl
    by (Some ts) = one (is_too_wide ts) ts
