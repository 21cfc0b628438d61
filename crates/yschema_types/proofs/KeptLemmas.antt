-- Which names of values are kept is asked of rows below statements of a set alone: where two say the same of these, types are the
-- same.
use Rattle.std.proofs.Common.{◌≡◌, ℕ, ℤ, zero, suc, Bool, true, false, cond, List, [], ◌∷◌, ◌++◌, Option, Some, None, refl, ap, ap₂, ◌∙◌, subst}
use Rattle.std.proofs.Math.Path.{fun_ext}
use Rattle.std.specs.Prelude.{⊤, ◌&&◌, not, find, filter, map, pos, option_and_then}
use Rattle.std.specs.List.{Contains, list_any, list_all}
use Rattle.std.specs.Option.{option_map_or}
use Rattle.yspec.specs.Forest.{Forest, end, node, row, size, first_of}
use Rattle.yspec.specs.text.Text.{Text, is_text}
use Rattle.yspec.specs.types.Names.{Naming, enum_names, bit_names}
use Rattle.yspec.specs.types.Restriction.{Restriction, of_enums, of_bits, has_name, narrowed}
use Rattle.yspec.specs.types.Types.{YangType, enumeration_base, bits_base, identity_base, plain}
use Rattle.yspec.specs.linking.Keyword.{Keyword}
use Rattle.yspec.specs.linking.Keyword as word
use Rattle.yspec.specs.linking.Source.{Source, is_source_of, argument_in, first_with, found_with, stated_with}
use Rattle.yspec.specs.linking.Scopes.{Placed, placed, statements_of, statement_at}
use Rattle.yspec.specs.linking.Identities.{module_name, assigned_identity, identities_of, is_identity, derives, bases_in}
use Rattle.yspec.specs.linking.TypeStatements.{BuiltIn, integer, decimal64, string, boolean, empty, enumeration, bits, union, leafref, identityref, binary, own, Verdict, means, wrong, built_in_meant, are_in_place, of_names, namings, value_stated, position_stated, meaning_of, namings_where, is_restricting, enum_text, bit_text, restricted_to, derived_by}
use Rattle.yspec.specs.linking.DerivedTypes.{Known, unknown, named, verdict_by, typedef_row, is_own_member}
use Rattle.yspec.specs.linking.Planned.{Planned, Plan}
use Rattle.yspec_wide.specs.Features.{stands}
use Rattle.yspec_wide.specs.Language.{Language}
use Rattle.yspec_wide.specs.Types.{names_where, is_restriction_kept, named_kept, names_kept, single_type_of, numbers_kept, identity_verdict_of, verdict_in_place_of, verdict_of, verdicts_of, verdict_on_of, known_of, known_in_row_of, known_within_of, known_named_of, meant_of, meant_in_of}
use Rattle.ylink_names.specs.ScopeView.{placed_at}
use Rattle.ylink_standing.specs.ConditionView.{is_in}
use Rattle.ylink_standing.specs.StandingView.{row_stands, IsOf}
use Rattle.ylink_standing.specs.declared.standing.FeaturesOn.{FeaturesOn}
use Rattle.ylink_standing.proofs.OrderLemmas.{tells_standing}
use Rattle.ylink_standing.proofs.PlaceLemmas.{first_there, under_first, behind_first}
use Rattle.ylink_standing.proofs.RowLemmas.{row_says}

module _ (one other : Forest Source → Bool) where
  -- they say the same of the row below each statement of a row, and below these
  abbrev pub Alike : Forest Source → Type 0
  Alike end = ⊤
  Alike (node s below after) = (one below ≡ other below) × (Alike below × Alike after)

  -- and of those below some statements
  abbrev pub AreAlike : List Placed → Type 0
  AreAlike [] = ⊤
  AreAlike (p ∷ ps) = ((one p.below ≡ other p.below) × Alike p.below) × AreAlike ps

  alike_from : (ancestors : List (Source × Forest Source)) (f : Forest Source)
      → ((p : Placed) → Contains (placed ancestors f) p → one p.below ≡ other p.below) → Alike f
  alike_from ancestors end same = tt
  alike_from ancestors (node s below after) same = (
    same (placed_at s below ancestors) (first_there s below after ancestors),
    (
      alike_from ((s, below) ∷ ancestors) below (λ p at. same p (under_first s below after ancestors p at)),
      alike_from ancestors after (λ p at. same p (behind_first s below after ancestors p at)),
    ),
  )

  -- ---- statements of a set

  alike_append : (ps qs : List Placed) → AreAlike ps → AreAlike qs → AreAlike (ps ++ qs)
  alike_append [] qs first second = second
  alike_append (p ∷ ps) qs first second = (first.0, alike_append ps qs first.1 second)

  alike_placed : (ancestors : List (Source × Forest Source)) (f : Forest Source) → Alike f → AreAlike (placed ancestors f)
  unfolding placed
  alike_placed ancestors end a = tt
  alike_placed ancestors (node s below after) a = (
    (a.0, a.1.0),
    alike_append (placed ((s, below) ∷ ancestors) below) (placed ancestors after)
        (alike_placed ((s, below) ∷ ancestors) below a.1.0) (alike_placed ancestors after a.1.1),
  )

  alike_filtered : (test : Placed → Bool) (ps : List Placed) → AreAlike ps → AreAlike (filter test ps)
  alike_filtered test [] a = tt
  alike_filtered test (p ∷ ps) a = by (test p) (alike_filtered test ps a.1)
    where
      by : (b : Bool) → AreAlike (filter test ps) → AreAlike (cond b (p ∷ filter test ps) (filter test ps))
      by true rest = (a.0, rest)
      by false rest = rest

  same_filtered : (test : Placed → Bool) (ps : List Placed) → AreAlike ps
      → filter (λ p. one p.below && test p) ps ≡ filter (λ p. other p.below && test p) ps
  same_filtered test [] a = refl
  same_filtered test (p ∷ ps) a = ap₂ (λ b rest. cond (b && test p) (p ∷ rest) rest) a.0.0 (same_filtered test ps a.1)

  alike_found : (test : Placed → Bool) (ps : List Placed) (p : Placed) → AreAlike ps → find test ps ≡ Some p → (one p.below ≡ other p.below) × Alike p.below
  alike_found test [] p a e = absurd cc
  alike_found test (q ∷ ps) p a e = by (test q) e (alike_found test ps p a.1)
    where
      by : (b : Bool) → cond b (Some q) (find test ps) ≡ Some p → (find test ps ≡ Some p → (one p.below ≡ other p.below) × Alike p.below)
          → (one p.below ≡ other p.below) × Alike p.below
      by true is rest = let same : q ≡ p = cc in subst (λ (r : Placed). (one r.below ≡ other r.below) × Alike r.below) same a.0
      by false is rest = rest is

  -- ---- names

  names_alike : (k : Keyword) (below : Forest Source) → Alike below → names_kept (names_where one) k below ≡ names_kept (names_where other) k below
  names_alike k end a = refl
  names_alike k (node s below after) a =
      ap₂ (λ b rest. cond (is_source_of k s && b) (argument_in s ∷ rest) rest) a.0 (names_alike k after a.1.1)

  single_alike : (type : BuiltIn) (below : Forest Source) → Alike below → single_type_of (names_where one) type below ≡ single_type_of (names_where other) type below
  single_alike (integer i) below a = refl
  single_alike decimal64 below a = refl
  single_alike string below a = refl
  single_alike boolean below a = refl
  single_alike empty below a = refl
  single_alike enumeration below a = ap (λ texts. of_names (λ given. enumeration_base (filter (λ n. list_any (is_text n.name) texts) given)) enum_names
      (namings word.enum_word value_stated below)) (names_alike word.enum_word below a)
  single_alike bits below a = ap (λ texts. of_names (λ given. bits_base (filter (λ n. list_any (is_text n.name) texts) given)) bit_names
      (namings word.bit_word position_stated below)) (names_alike word.bit_word below a)
  single_alike union below a = refl
  single_alike leafref below a = refl
  single_alike identityref below a = refl
  single_alike binary below a = refl

  -- ---- names that restrict types

  left_alike : (name : Text) (type : YangType) (number : Forest Source → Option ℤ) (below : Forest Source) → Alike below
      → namings_where (λ s inner. is_restricting name s && is_restriction_kept (names_where one) type s inner) number below
      ≡ namings_where (λ s inner. is_restricting name s && is_restriction_kept (names_where other) type s inner) number below
  left_alike name type number end a = refl
  left_alike name type number (node s below after) a =
      ap₂ (λ (b : Bool) (rest : List Naming). cond (is_restricting name s && (b && has_name type (argument_in s))) (record { name = argument_in s; number = number below } ∷ rest) rest)
      a.0 (left_alike name type number after a.1.1)

  restricted_alike : (restriction : List Naming → Restriction) (name : Text) (type : YangType) (number : Forest Source → Option ℤ) (below : Forest Source) → Alike below
      → restricted_to restriction name (is_restriction_kept (names_where one) type) number below type
      ≡ restricted_to restriction name (is_restriction_kept (names_where other) type) number below type
  restricted_alike restriction name type number below a =
      ap (λ (ns : List Naming). cond (list_any (is_restricting name) (row below)) (narrowed type (restriction ns)) (Some type)) (left_alike name type number below a)

  named_alike : (below : Forest Source) → Alike below → (type : YangType) → named_kept (names_where one) below type ≡ named_kept (names_where other) below type
  named_alike below a type = ap₂ (λ (behind : YangType → Option YangType) made. option_and_then behind made) (fun_ext (λ left. restricted_alike of_bits bit_text left position_stated below a))
      (restricted_alike of_enums enum_text type value_stated below a)

  -- ---- a set of modules

  module _ (modules : Forest Source) (all : Alike modules) where
    numbers_alike : (bases : List ℕ) → numbers_kept (names_where one) modules bases ≡ numbers_kept (names_where other) modules bases
    numbers_alike bases = ap (map (λ (p : Placed). pos p.source.number))
        (same_filtered (λ p. list_all (derives modules p) bases) (identities_of modules)
        (alike_filtered is_identity (statements_of modules) (alike_placed [] modules all)))

    identity_alike : (home : ℕ) (bases : List ℕ) → identity_verdict_of (names_where one) modules home bases ≡ identity_verdict_of (names_where other) modules home bases
    identity_alike home [] = refl
    identity_alike home (base ∷ bases) = ap (λ numbers. means (own (plain (identity_base (module_name modules home)
        (map (assigned_identity modules) (identities_of modules)) numbers)))) (numbers_alike (base ∷ bases))

    module _ (below : Forest Source) (a : Alike below) where
      in_place_alike : (member : Bool) (s : Source) (type : BuiltIn) (members : List Verdict)
          → verdict_in_place_of (names_where one) modules member s type below members ≡ verdict_in_place_of (names_where other) modules member s type below members
      in_place_alike member s (integer i) members = refl
      in_place_alike member s decimal64 members = refl
      in_place_alike member s string members = refl
      in_place_alike member s boolean members = refl
      in_place_alike member s empty members = refl
      in_place_alike member s enumeration members = ap (λ found. option_map_or (λ t. means (own t)) found wrong) (single_alike enumeration below a)
      in_place_alike member s bits members = ap (λ found. option_map_or (λ t. means (own t)) found wrong) (single_alike bits below a)
      in_place_alike member s union members = refl
      in_place_alike member s leafref members = refl
      in_place_alike member s identityref members = identity_alike s.home (bases_in modules below)
      in_place_alike member s binary members = refl

      verdict_alike : (names : ℕ → Verdict) (member : Bool) (s : Source) (members : List Verdict)
          → verdict_of (names_where one) modules names member s below members ≡ verdict_of (names_where other) modules names member s below members
      verdict_alike names member s members =
          ap₂ (λ (meant : BuiltIn → Verdict) (names_make : YangType → Option YangType). option_map_or meant (built_in_meant modules s) (derived_by names_make member below (names s.number)))
          (fun_ext (λ type. ap (λ v. cond (are_in_place type below) v wrong) (in_place_alike member s type members)))
          (fun_ext (λ type. named_alike below a type))

    verdicts_alike : (names : ℕ → Verdict) (f : Forest Source) → Alike f → verdicts_of (names_where one) modules names f ≡ verdicts_of (names_where other) modules names f
    unfolding verdicts_of
    verdicts_alike names end a = refl
    verdicts_alike names (node s below after) a =
        ap₂ (λ v rest. cond (is_source_of word.type_word s) (v ∷ rest) rest)
        (ap (verdict_of (names_where one) modules names (not s.may_refer) s below) (verdicts_alike names below a.1.0)
        ∙ verdict_alike below a.1.0 names (not s.may_refer) s (verdicts_of (names_where other) modules names below))
        (verdicts_alike names after a.1.1)

    verdict_on_alike : (names : ℕ → Verdict) (member : Bool) (s : Source) (below : Forest Source) → Alike below
        → verdict_on_of (names_where one) modules names member s below ≡ verdict_on_of (names_where other) modules names member s below
    verdict_on_alike names member s below a =
        ap (verdict_of (names_where one) modules names member s below) (verdicts_alike names below a)
        ∙ verdict_alike below a names member s (verdicts_of (names_where other) modules names below)

    -- ---- typedefs

    type_below : (row : Forest Source) → Alike row → (t : Source × Forest Source) → found_with word.type_word row ≡ Some t → Alike t.1
    type_below end a t e = absurd cc
    type_below (node s below after) a t e = by (is_source_of word.type_word s) e (type_below after a.1.1 t)
      where
        by : (b : Bool) → cond b (Some (s, below)) (found_with word.type_word after) ≡ Some t
            → (found_with word.type_word after ≡ Some t → Alike t.1) → Alike t.1
        by true is rest = let same : (s, below) ≡ t = cc in subst (λ (u : Source × Forest Source). Alike u.1) same a.1.0
        by false is rest = rest is

    in_row_alike : (names : ℕ → Known) (row : Forest Source) → Alike row → known_in_row_of (names_where one) modules names row ≡ known_in_row_of (names_where other) modules names row
    in_row_alike names row a = by (found_with word.type_word row) refl
      where
        by : (o : Option (Source × Forest Source)) → found_with word.type_word row ≡ o
            → option_map_or (known_of (names_where one) modules names row) o unknown ≡ option_map_or (known_of (names_where other) modules names row) o unknown
        by None e = refl
        by (Some t) e = ap (λ (v : Verdict). record {
          verdict = v;
          default = first_of (stated_with word.default_word row) (names t.0.number).default;
        }) (verdict_on_alike (verdict_by names) false t.0 t.1 (type_below row a t e))

    -- of the typedef of a number
    typedef_alike : (names : ℕ → Known) (number : ℕ) → option_map_or (known_in_row_of (names_where one) modules names) (typedef_row modules number) unknown
        ≡ option_map_or (known_in_row_of (names_where other) modules names) (typedef_row modules number) unknown
    typedef_alike names number = by (statement_at modules number) refl
      where
        by : (o : Option Placed) → statement_at modules number ≡ o
            → option_map_or (known_in_row_of (names_where one) modules names) (option_and_then (λ p. cond (is_source_of word.typedef_word p.source) (Some p.below) None) o) unknown
            ≡ option_map_or (known_in_row_of (names_where other) modules names) (option_and_then (λ p. cond (is_source_of word.typedef_word p.source) (Some p.below) None) o) unknown
        by None e = refl
        by (Some p) e = is (is_source_of word.typedef_word p.source)
          where
            is : (b : Bool) → option_map_or (known_in_row_of (names_where one) modules names) (cond b (Some p.below) None) unknown
                ≡ option_map_or (known_in_row_of (names_where other) modules names) (cond b (Some p.below) None) unknown
            is true = in_row_alike names p.below (alike_found _ (statements_of modules) p (alike_placed [] modules all) e).1
            is false = refl

    known_within_alike : (steps : ℕ) → known_within_of (names_where one) modules steps ≡ known_within_of (names_where other) modules steps
    unfolding known_within_of
    known_within_alike zero = refl
    known_within_alike (suc steps) = fun_ext (λ number.
        ap (λ within. option_map_or (known_in_row_of (names_where one) modules (named modules within)) (typedef_row modules number) unknown) (known_within_alike steps)
        ∙ typedef_alike (named modules (known_within_of (names_where other) modules steps)) number)

    pub known_named_alike : known_named_of (names_where one) modules ≡ known_named_of (names_where other) modules
    known_named_alike = ap (named modules) (known_within_alike (size modules))

    -- ---- what `type` statements mean

    -- that of a number
    pub meant_alike : (number : ℕ) → option_and_then (meant_of (names_where one) modules) (statement_at modules number) ≡ option_and_then (meant_of (names_where other) modules) (statement_at modules number)
    meant_alike number = by (statement_at modules number) refl
      where
        by : (o : Option Placed) → statement_at modules number ≡ o → option_and_then (meant_of (names_where one) modules) o ≡ option_and_then (meant_of (names_where other) modules) o
        by None e = refl
        by (Some p) e = ap (λ v. cond (is_source_of word.type_word p.source) (meaning_of v) None)
            (ap (λ known. verdict_on_of (names_where one) modules (verdict_by known) (is_own_member p) p.source p.below) known_named_alike
            ∙ verdict_on_alike (verdict_by (known_named_of (names_where other) modules)) (is_own_member p) p.source p.below
            (alike_found _ (statements_of modules) p (alike_placed [] modules all) e).1)

  -- ---- what the types of nodes mean

  module _ (plan : Plan) (all : Alike plan.modules) where
    pub meant_in_alike : meant_in_of (names_where one) plan ≡ meant_in_of (names_where other) plan
    meant_in_alike = fun_ext (λ p. by p (first_with word.type_word p.part.own))
      where
        by : (p : Planned) (o : Option Source) → option_and_then (λ (s : Source). option_and_then (meant_of (names_where one) plan.modules) (statement_at plan.modules s.number)) o
            ≡ option_and_then (λ (s : Source). option_and_then (meant_of (names_where other) plan.modules) (statement_at plan.modules s.number)) o
        by p None = refl
        by p (Some s) = meant_alike plan.modules all s.number

-- ---- what a table of features tells

pub stands_alike : (language : Language) (modules : Forest Source) (features : FeaturesOn) → IsOf features language modules
    → Alike (row_stands features) (stands language modules) modules
stands_alike language modules features is =
    let asked = features.conditions.items in
    let on = is_in features.on.items in
    alike_from (row_stands features) (stands language modules) [] modules
    (λ p at. row_says asked on language modules is.asked p at ∙ tells_standing language modules on is.tells p.below)
