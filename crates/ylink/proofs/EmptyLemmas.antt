-- The type `empty` bears no restriction, whatever a `type` statement means, and so what types take tells it.
use Rattle.std.proofs.Common.{◌≡◌, ℕ, zero, suc, ◌+◌, ℤ, Bool, true, false, cond, ◌&&◌, List, [], ◌∷◌, Option, Some, None, is_some, option_map, refl, ap, ◌∙◌, subst}
use Rattle.std.specs.Prelude.{codes, sum_by, option_and_then, nat_lt}
use Rattle.std.specs.List.{list_any}
use Rattle.std.specs.Option.{option_map_or}
use Rattle.yspec.specs.Forest.{Forest, end, node, row, size}
use Rattle.yspec.specs.text.Text.{Text, is_text}
use Rattle.yspec.specs.types.Ranges as ranges
use Rattle.yspec.specs.types.Names.{enum_names, bit_names, Naming, Assigned, names_left}
use Rattle.yspec.specs.types.Restriction as restriction
use Rattle.yspec.specs.types.Types as types
use Rattle.yspec.specs.types.Order.{same_value}
use Rattle.yspec.proofs.TypeProofs.OrderLemmas.{tells_values}
use Rattle.yspec.specs.linking.Arguments.{fraction_digits_of, leafref_path_of}
use Rattle.yspec.specs.linking.Identities.{bases_in}
use Rattle.yspec.specs.linking.Keyword as word
use Rattle.yspec.specs.linking.Scopes.{Placed}
use Rattle.yspec.specs.linking.Source.{Source, is_source_of, argument_in, argument_with, found_with}
use Rattle.yspec.specs.linking.TypeStatements as spec
use Rattle.yspec.specs.linking.DerivedTypes.{Known, known_by, known_in_row, known_within, known_named, named, number_named, typedef_row, verdict_by, is_own_member, verdict_of, meant_by}
use Rattle.yspec_wide.specs.VersionBreaks.{is_empty_type}
use Rattle.ylink.specs.EmptyView.{IsBareShape, IsBare, IsBareMeant, are_alike}

-- ---- what types take

other_member : (n : ℕ) (c : types.Content) → same_value (types.value (Some n) c) (types.value None types.empty_value) ≡ false
other_member n c = by (same_value (types.value (Some n) c) (types.value None types.empty_value)) refl
  where
    by : (b : Bool) → same_value (types.value (Some n) c) (types.value None types.empty_value) ≡ b → b ≡ false
    by false e = refl
    by true e = let same : types.value (Some n) c ≡ types.value None types.empty_value = (tells_values (types.value (Some n) c) (types.value None types.empty_value)).0 e in absurd cc

module _ (given : types.SimpleType → Option types.Content) (n : ℕ) (m : types.SimpleType) (ms : List types.SimpleType) where
  member_passed : given m ≡ None → types.first_value given n (m ∷ ms) ≡ types.first_value given (n + 1) ms
  member_passed e = rw e refl

  member_taken : (c : types.Content) → given m ≡ Some c → types.first_value given n (m ∷ ms) ≡ Some (types.value (Some n) c)
  member_taken c e = rw e refl

by_members : (given : types.SimpleType → Option types.Content) (n : ℕ) (ms : List types.SimpleType)
    → are_alike (types.first_value given n ms) (types.taken (types.plain types.empty_base) types.empty) ≡ false
by_members given n [] = refl
by_members given n (m ∷ ms) = by (given m) refl (by_members given (n + 1) ms)
  where
    by : (o : Option types.Content) → given m ≡ o → are_alike (types.first_value given (n + 1) ms) (types.taken (types.plain types.empty_base) types.empty) ≡ false
        → are_alike (types.first_value given n (m ∷ ms)) (types.taken (types.plain types.empty_base) types.empty) ≡ false
    by None is others = ap (λ o. are_alike o (types.taken (types.plain types.empty_base) types.empty)) (member_passed given n m ms is) ∙ others
    by (Some c) is others = ap (λ o. are_alike o (types.taken (types.plain types.empty_base) types.empty)) (member_taken given n m ms c is) ∙ other_member n c

alone : (base : types.Base) (limits : List ranges.Limit) → (base ≡ types.empty_base → limits ≡ [])
    → are_alike (types.taken (record { shape = types.single (record { base = base; limits = limits }); requires_instance = None }) types.empty) (types.taken (types.plain types.empty_base) types.empty)
    ≡ is_empty_type (record { shape = types.single (record { base = base; limits = limits }); requires_instance = None })
alone (types.integer_base i) limits bare = refl
alone (types.decimal_base digits) limits bare = refl
alone types.string_base limits bare = refl
alone types.boolean_base limits bare = refl
alone types.empty_base limits bare =
    ap (λ ls. are_alike (types.taken (record { shape = types.single (record { base = types.empty_base; limits = ls }); requires_instance = None }) types.empty) (types.taken (types.plain types.empty_base) types.empty)) (bare refl)
alone (types.enumeration_base names) limits bare = refl
alone (types.bits_base names) limits bare = refl
alone (types.identity_base home identities numbers) limits bare = refl
alone types.binary_base limits bare = refl

pub tells_empty : (shape : types.Shape) (requires : Option Bool) → IsBareShape shape → is_some requires ≡ false
    → are_alike (types.taken (record { shape = shape; requires_instance = requires }) types.empty) (types.taken (types.plain types.empty_base) types.empty)
    ≡ is_empty_type (record { shape = shape; requires_instance = requires })
tells_empty shape (Some required) bare none = absurd cc
tells_empty (types.single s) None bare none = alone s.base s.limits bare
tells_empty (types.union members) None bare none = by_members (λ s. types.simple_taken s types.empty) 0 members

pub no_reference : (shape : types.Shape) (requires : Option Bool) → is_some requires ≡ true
    → false ≡ is_empty_type (record { shape = shape; requires_instance = requires })
no_reference shape None some = absurd cc
no_reference shape (Some required) some = refl

-- ---- restrictions

bare_limits : (s : types.SimpleType) (spans : List ranges.Span) (error : ranges.ErrorText) (bounds : Option (ranges.Part × ℕ)) (t : types.YangType)
    → (s.base ≡ types.empty_base → bounds ≡ None)
    → option_map (λ (x : types.SimpleType). record { shape = types.single x; requires_instance = None }) (option_and_then (restriction.limited_by s spans error) bounds) ≡ Some t → IsBare t
bare_limits s spans error None t none e = absurd cc
bare_limits s spans error (Some b) t none e = by (ranges.restricted (restriction.left_by b.0 s.limits) b.1 spans) e
  where
    never : s.base ≡ types.empty_base → ⊥
    never is = let no : Some b ≡ None = none is in cc

    by : (o : Option (List ranges.Part))
        → option_map (λ (x : types.SimpleType). record { shape = types.single x; requires_instance = None }) (option_map (λ parts. restriction.with_limit s error (ranges.within parts)) o) ≡ Some t → IsBare t
    by None e = absurd cc
    by (Some parts) e =
        let same : record { shape = types.single (restriction.with_limit s error (ranges.within parts)); requires_instance = None } ≡ t = cc in
        subst (λ (x : types.YangType). IsBare x) same (λ is. absurd (never is))

bare_matching : (s : types.SimpleType) (test : ranges.Test) (error : ranges.ErrorText) (may : Bool) (t : types.YangType)
    → (s.base ≡ types.empty_base → may ≡ false)
    → option_map (λ (x : types.SimpleType). record { shape = types.single x; requires_instance = None }) (cond may (Some (restriction.with_limit s error test)) None) ≡ Some t → IsBare t
bare_matching s test error false t none e = absurd cc
bare_matching s test error true t none e =
    let same : record { shape = types.single (restriction.with_limit s error test); requires_instance = None } ≡ t = cc in
    subst (λ (x : types.YangType). IsBare x) same (λ is. absurd (never is))
  where
    never : s.base ≡ types.empty_base → ⊥
    never is = let no : true ≡ false = none is in cc

-- ---- names that are left

bare_renamed : (s : types.SimpleType) (o : Option types.Base) (t : types.YangType) → ((b : types.Base) → o ≡ Some b → b ≡ types.empty_base → ⊥)
    → option_map (λ (u : types.SimpleType). record { shape = types.single u; requires_instance = None }) (option_map (restriction.with_base s) o) ≡ Some t → IsBare t
bare_renamed s None t none e = absurd cc
bare_renamed s (Some b) t none e =
    let same : record { shape = types.single (restriction.with_base s b); requires_instance = None } ≡ t = cc in
    subst (λ (x : types.YangType). IsBare x) same (λ is. absurd (none b refl is))

enums_unlike : (ns : List Naming) (base b : types.Base) → restriction.enums_left ns base ≡ Some b → b ≡ types.empty_base → ⊥
enums_unlike ns (types.enumeration_base names) b e is = by (names_left names ns) e
  where
    by : (o : Option (List Assigned)) → option_map types.enumeration_base o ≡ Some b → ⊥
    by None e = absurd cc
    by (Some left) e = let same : types.enumeration_base left ≡ types.empty_base = cc in absurd cc
enums_unlike ns (types.integer_base i) b e is = absurd cc
enums_unlike ns (types.decimal_base digits) b e is = absurd cc
enums_unlike ns types.string_base b e is = absurd cc
enums_unlike ns types.boolean_base b e is = absurd cc
enums_unlike ns types.empty_base b e is = absurd cc
enums_unlike ns (types.bits_base names) b e is = absurd cc
enums_unlike ns (types.identity_base home identities numbers) b e is = absurd cc
enums_unlike ns types.binary_base b e is = absurd cc

bits_unlike : (ns : List Naming) (base b : types.Base) → restriction.bits_left ns base ≡ Some b → b ≡ types.empty_base → ⊥
bits_unlike ns (types.bits_base names) b e is = by (names_left names ns) e
  where
    by : (o : Option (List Assigned)) → option_map types.bits_base o ≡ Some b → ⊥
    by None e = absurd cc
    by (Some left) e = let same : types.bits_base left ≡ types.empty_base = cc in absurd cc
bits_unlike ns (types.integer_base i) b e is = absurd cc
bits_unlike ns (types.decimal_base digits) b e is = absurd cc
bits_unlike ns types.string_base b e is = absurd cc
bits_unlike ns types.boolean_base b e is = absurd cc
bits_unlike ns types.empty_base b e is = absurd cc
bits_unlike ns (types.enumeration_base names) b e is = absurd cc
bits_unlike ns (types.identity_base home identities numbers) b e is = absurd cc
bits_unlike ns types.binary_base b e is = absurd cc

-- ---- each restriction

bare_narrowed : (shape : types.Shape) (requires : Option Bool) (r : restriction.Restriction) (t : types.YangType) → IsBareShape shape
    → restriction.narrowed (record { shape = shape; requires_instance = requires }) r ≡ Some t → IsBare t
bare_narrowed (types.single s) None (restriction.range spans error) t bare e = bare_limits s spans error (restriction.range_base s.base) t (λ is. ap restriction.range_base is) e
bare_narrowed (types.single s) None (restriction.length spans error) t bare e = bare_limits s spans error (restriction.length_base s.base) t (λ is. ap restriction.length_base is) e
bare_narrowed (types.single s) None (restriction.pattern expression inverted error) t bare e =
    bare_matching s (ranges.matching expression inverted) error (restriction.may_match s.base) t (λ is. ap restriction.may_match is) e
bare_narrowed (types.single s) None (restriction.of_enums ns) t bare e = bare_renamed s (restriction.enums_left ns s.base) t (enums_unlike ns s.base) e
bare_narrowed (types.single s) None (restriction.of_bits ns) t bare e = bare_renamed s (restriction.bits_left ns s.base) t (bits_unlike ns s.base) e
bare_narrowed (types.single s) None (restriction.require_instance b) t bare e = absurd cc
bare_narrowed (types.union members) None r t bare e = absurd cc
bare_narrowed shape (Some required) (restriction.range spans error) t bare e = absurd cc
bare_narrowed shape (Some required) (restriction.length spans error) t bare e = absurd cc
bare_narrowed shape (Some required) (restriction.pattern expression inverted error) t bare e = absurd cc
bare_narrowed shape (Some required) (restriction.of_enums ns) t bare e = absurd cc
bare_narrowed shape (Some required) (restriction.of_bits ns) t bare e = absurd cc
bare_narrowed shape (Some required) (restriction.require_instance b) t bare e =
    let same : record { shape = shape; requires_instance = Some b } ≡ t = cc in subst (λ (x : types.YangType). IsBare x) same bare

bare_limited : (r : Option restriction.Restriction) (type t : types.YangType) → IsBare type → spec.limited r type ≡ Some t → IsBare t
bare_limited None type t bare e = let same : type ≡ t = cc in subst (λ (x : types.YangType). IsBare x) same bare
bare_limited (Some r) type t bare e = bare_narrowed type.shape type.requires_instance r t bare e

bare_matched : (f : Forest Source) (type t : types.YangType) → IsBare type → spec.matched_in f type ≡ Some t → IsBare t
unfolding spec.matched_in
bare_matched end type t bare e = let same : type ≡ t = cc in subst (λ (x : types.YangType). IsBare x) same bare
bare_matched (node s below after) type t bare e =
    by (spec.is_pattern_statement s) (restriction.narrowed type (spec.pattern_stated s below)) refl e (λ u b is. bare_matched after u t b is)
  where
    by : (b : Bool) (o : Option types.YangType) → restriction.narrowed type (spec.pattern_stated s below) ≡ o
        → cond b (option_and_then (spec.matched_in after) o) (spec.matched_in after type) ≡ Some t
        → ((u : types.YangType) → IsBare u → spec.matched_in after u ≡ Some t → IsBare t) → IsBare t
    by true None is e later = absurd cc
    by true (Some u) is e later = later u (bare_narrowed type.shape type.requires_instance (spec.pattern_stated s below) u bare is) e
    by false o is e later = later type bare e

-- ---- built-in types

bare_plain : (base : types.Base) (t : types.YangType) → Some (types.plain base) ≡ Some t → IsBare t
bare_plain base t e = let same : types.plain base ≡ t = cc in subst (λ (x : types.YangType). IsBare x) same (λ is. refl)

bare_given : (base : List Assigned → types.Base) (o : Option (List Assigned)) (t : types.YangType) → option_map (λ given. types.plain (base given)) o ≡ Some t → IsBare t
bare_given base None t e = absurd cc
bare_given base (Some given) t e = bare_plain (base given) t e

bare_names : (base : List Assigned → types.Base) (names : List Naming → Option (List Assigned)) (given : List Naming) (t : types.YangType)
    → spec.of_names base names given ≡ Some t → IsBare t
bare_names base names [] t e = absurd cc
bare_names base names (n ∷ ns) t e = bare_given base (names (n ∷ ns)) t e

bare_single : (b : spec.BuiltIn) (below : Forest Source) (t : types.YangType) → spec.single_type b below ≡ Some t → IsBare t
bare_single (spec.integer i) below t e = bare_limited (spec.stated word.range_word restriction.range below) (types.integer_type i) t (λ is. refl) e
bare_single spec.decimal64 below t e = by (option_and_then fraction_digits_of (argument_with word.fraction_digits_word below)) e
  where
    by : (o : Option ℕ) → option_and_then (λ digits. spec.limited_range below (types.plain (types.decimal_base digits))) o ≡ Some t → IsBare t
    by None e = absurd cc
    by (Some digits) e = bare_limited (spec.stated word.range_word restriction.range below) (types.plain (types.decimal_base digits)) t (λ is. refl) e
bare_single spec.string below t e = by (spec.limited (spec.stated word.length_word restriction.length below) types.string_type) refl e
  where
    by : (o : Option types.YangType) → spec.limited (spec.stated word.length_word restriction.length below) types.string_type ≡ o
        → option_and_then (spec.matched_in below) o ≡ Some t → IsBare t
    by None is e = absurd cc
    by (Some u) is e = bare_matched below u t (bare_limited (spec.stated word.length_word restriction.length below) types.string_type u (λ is. refl) is) e
bare_single spec.boolean below t e = bare_plain types.boolean_base t e
bare_single spec.empty below t e = bare_plain types.empty_base t e
bare_single spec.enumeration below t e = bare_names types.enumeration_base enum_names (spec.namings word.enum_word spec.value_stated below) t e
bare_single spec.bits below t e = bare_names types.bits_base bit_names (spec.namings word.bit_word spec.position_stated below) t e
bare_single spec.binary below t e =
    bare_limited (spec.stated word.length_word restriction.length below) (types.plain types.binary_base) t (λ is. refl) e
bare_single spec.union below t e = absurd cc
bare_single spec.leafref below t e = absurd cc
bare_single spec.identityref below t e = absurd cc

abbrev IsBareVerdict : spec.Verdict → Type 0
IsBareVerdict v = (m : spec.Meant) → spec.meaning_of v ≡ Some m → IsBareMeant m

bare_means : (m : spec.Meant) → IsBareMeant m → IsBareVerdict (spec.means m)
bare_means m bare n e = let same : m ≡ n = cc in subst IsBareMeant same bare

bare_or : (o : Option types.YangType) → ((t : types.YangType) → o ≡ Some t → IsBare t) → IsBareVerdict (option_map_or (λ t. spec.means (spec.own t)) o spec.wrong)
bare_or None bare n e = absurd cc
bare_or (Some t) bare n e = bare_means (spec.own t) (bare t refl) n e

bare_union : (vs : List spec.Verdict) → IsBareVerdict (spec.union_verdict vs)
bare_union [] n e = absurd cc
bare_union (v ∷ vs) n e = by (spec.member_types (v ∷ vs)) n e
  where
    of : (b : Bool) (ts : List types.YangType) → IsBareVerdict (cond b spec.too_large (spec.means (spec.own (restriction.union_type ts))))
    of true ts n e = absurd cc
    of false ts n e = bare_means (spec.own (restriction.union_type ts)) tt n e

    of_others : (b : Bool) (ms : List spec.Member) → IsBareVerdict (cond b spec.too_large (spec.means (spec.of_union ms)))
    of_others true ms n e = absurd cc
    of_others false ms n e = bare_means (spec.of_union ms) tt n e

    referring : (o : Option (List spec.Member)) → IsBareVerdict (option_map_or spec.referring_union o spec.unjudged)
    referring None n e = absurd cc
    referring (Some ms) n e = of_others (nat_lt spec.member_limit (sum_by spec.width_of ms)) ms n e

    by : (o : Option (List types.YangType)) → IsBareVerdict (option_map_or spec.of_members o (option_map_or spec.referring_union (spec.members_in (v ∷ vs)) spec.unjudged))
    by None n e = referring (spec.members_in (v ∷ vs)) n e
    by (Some ts) n e = of (nat_lt spec.member_limit (restriction.member_count (restriction.union_type ts))) ts n e

bare_leafref : (is_member : Bool) (s : Source) (below : Forest Source) → IsBareVerdict (spec.leafref_verdict is_member s below)
bare_leafref true s below n e = absurd cc
bare_leafref false s below n e = by (option_and_then leafref_path_of (argument_with word.path_word below)) n e
  where
    by : (o : Option _) → IsBareVerdict (option_map_or (λ steps. spec.means (spec.of_target s.home steps (spec.is_required below))) o spec.wrong)
    by None n e = absurd cc
    by (Some steps) n e = bare_means (spec.of_target s.home steps (spec.is_required below)) tt n e

bare_identity : (modules : Forest Source) (home : ℕ) (bases : List ℕ) → IsBareVerdict (spec.identity_verdict modules home bases)
bare_identity modules home [] n e = absurd cc
bare_identity modules home (base ∷ bases) n e = bare_means (spec.own _) (λ is. refl) n e

bare_in_place : (modules : Forest Source) (is_member : Bool) (s : Source) (b : spec.BuiltIn) (below : Forest Source) (members : List spec.Verdict)
    → IsBareVerdict (spec.verdict_in_place modules is_member s b below members)
bare_in_place modules is_member s spec.union below members = bare_union members
bare_in_place modules is_member s spec.leafref below members = bare_leafref is_member s below
bare_in_place modules is_member s spec.identityref below members = bare_identity modules s.home (bases_in modules below)
bare_in_place modules is_member s (spec.integer i) below members = bare_or (spec.single_type (spec.integer i) below) (bare_single (spec.integer i) below)
bare_in_place modules is_member s spec.decimal64 below members = bare_or (spec.single_type spec.decimal64 below) (bare_single spec.decimal64 below)
bare_in_place modules is_member s spec.string below members = bare_or (spec.single_type spec.string below) (bare_single spec.string below)
bare_in_place modules is_member s spec.boolean below members = bare_or (spec.single_type spec.boolean below) (bare_single spec.boolean below)
bare_in_place modules is_member s spec.empty below members = bare_or (spec.single_type spec.empty below) (bare_single spec.empty below)
bare_in_place modules is_member s spec.enumeration below members = bare_or (spec.single_type spec.enumeration below) (bare_single spec.enumeration below)
bare_in_place modules is_member s spec.bits below members = bare_or (spec.single_type spec.bits below) (bare_single spec.bits below)
bare_in_place modules is_member s spec.binary below members = bare_or (spec.single_type spec.binary below) (bare_single spec.binary below)

-- ---- by way of a typedef

bare_restricted : (s : Source) (below : Forest Source) (m n : spec.Meant) → IsBareMeant m → spec.restricted_by s below m ≡ Some n → IsBareMeant n
bare_restricted s below (spec.own type) n bare e = by (spec.comes_behind s) (is_source_of word.range_word s) (is_source_of word.length_word s) e
  where
    from : (r : restriction.Restriction) (o : Option types.YangType) → restriction.narrowed type r ≡ o → option_map spec.own o ≡ Some n → IsBareMeant n
    from r None is e = absurd cc
    from r (Some t) is e = let same : spec.own t ≡ n = cc in subst IsBareMeant same (bare_narrowed type.shape type.requires_instance r t bare is)

    by : (p a b : Bool) → option_map spec.own (cond p (Some type) (cond a (restriction.narrowed type (spec.stated_by restriction.range (s, below)))
        (cond b (restriction.narrowed type (spec.stated_by restriction.length (s, below))) None))) ≡ Some n → IsBareMeant n
    by true a b e = let same : spec.own type ≡ n = cc in subst IsBareMeant same bare
    by false true b e = from (spec.stated_by restriction.range (s, below)) (restriction.narrowed type (spec.stated_by restriction.range (s, below))) refl e
    by false false true e = from (spec.stated_by restriction.length (s, below)) (restriction.narrowed type (spec.stated_by restriction.length (s, below))) refl e
    by false false false e = absurd cc
bare_restricted s below (spec.of_target home steps required) n bare e =
    by (is_source_of word.require_instance_word s) (is_text (argument_in s) (codes "true")) e
  where
    by : (b r : Bool) → cond b (Some (spec.of_target home steps r)) None ≡ Some n → IsBareMeant n
    by true r e = let same : spec.of_target home steps r ≡ n = cc in subst IsBareMeant same tt
    by false r e = absurd cc
bare_restricted s below (spec.of_union members) n bare e = absurd cc

bare_all_restricted : (f : Forest Source) (m n : spec.Meant) → IsBareMeant m → spec.restricted_in f m ≡ Some n → IsBareMeant n
unfolding spec.restricted_in
bare_all_restricted end m n bare e = let same : m ≡ n = cc in subst IsBareMeant same bare
bare_all_restricted (node s below after) m n bare e = by (spec.restricted_by s below m) refl e (λ r b is. bare_all_restricted after r n b is)
  where
    by : (o : Option spec.Meant) → spec.restricted_by s below m ≡ o → option_and_then (spec.restricted_in after) o ≡ Some n
        → ((r : spec.Meant) → IsBareMeant r → spec.restricted_in after r ≡ Some n → IsBareMeant n) → IsBareMeant n
    by None is e later = absurd cc
    by (Some r) is e later = later r (bare_restricted s below m r bare is) e

bare_all_matched : (f : Forest Source) (m n : spec.Meant) → IsBareMeant m → spec.matched_meant f m ≡ Some n → IsBareMeant n
bare_all_matched f (spec.own type) n bare e = by (spec.matched_in f type) refl e
  where
    by : (o : Option types.YangType) → spec.matched_in f type ≡ o → option_map spec.own o ≡ Some n → IsBareMeant n
    by None is e = absurd cc
    by (Some t) is e = let same : spec.own t ≡ n = cc in subst IsBareMeant same (bare_matched f type t bare is)
bare_all_matched f (spec.of_target home steps required) n bare e =
    let same : spec.of_target home steps required ≡ n = cc in subst IsBareMeant same tt
bare_all_matched f (spec.of_union members) n bare e = let same : spec.of_union members ≡ n = cc in subst IsBareMeant same tt

bare_to : (r : List Naming → restriction.Restriction) (name : Text) (number : Forest Source → Option ℤ) (f : Forest Source) (type t : types.YangType) → IsBare type
    → spec.restricted_to r name (λ s inner. true) number f type ≡ Some t → IsBare t
bare_to r name number f type t bare e = by (list_any (spec.is_restricting name) (row f)) e
  where
    left : restriction.Restriction
    left = r (spec.namings_where (λ s inner. spec.is_restricting name s && true) number f)

    by : (b : Bool) → cond b (restriction.narrowed type left) (Some type) ≡ Some t → IsBare t
    by true e = bare_narrowed type.shape type.requires_instance left t bare e
    by false e = let same : type ≡ t = cc in subst (λ (x : types.YangType). IsBare x) same bare

bare_all_named : (f : Forest Source) (m n : spec.Meant) → IsBareMeant m → spec.named_meant (spec.named_in f) m ≡ Some n → IsBareMeant n
bare_all_named f (spec.own type) n bare e = by (spec.restricted_to restriction.of_enums spec.enum_text (λ s inner. true) spec.value_stated f type) refl e
  where
    behind : (t : types.YangType) (o : Option types.YangType) → IsBare t → spec.restricted_to restriction.of_bits spec.bit_text (λ s inner. true) spec.position_stated f t ≡ o
        → option_map spec.own o ≡ Some n → IsBareMeant n
    behind t None bare is e = absurd cc
    behind t (Some u) bare is e =
        let same : spec.own u ≡ n = cc in subst IsBareMeant same (bare_to restriction.of_bits spec.bit_text spec.position_stated f t u bare is)

    by : (o : Option types.YangType) → spec.restricted_to restriction.of_enums spec.enum_text (λ s inner. true) spec.value_stated f type ≡ o
        → option_map spec.own (option_and_then (λ left. spec.restricted_to restriction.of_bits spec.bit_text (λ s inner. true) spec.position_stated f left) o) ≡ Some n
        → IsBareMeant n
    by None is e = absurd cc
    by (Some t) is e = behind t _ (bare_to restriction.of_enums spec.enum_text spec.value_stated f type t bare is) refl e
bare_all_named f (spec.of_target home steps required) n bare e =
    let same : spec.of_target home steps required ≡ n = cc in subst IsBareMeant same tt
bare_all_named f (spec.of_union members) n bare e = let same : spec.of_union members ≡ n = cc in subst IsBareMeant same tt

bare_derived : (is_member : Bool) (below : Forest Source) (v : spec.Verdict) → IsBareVerdict v → IsBareVerdict (spec.derived is_member below v)
bare_derived is_member below spec.wrong bare n e = absurd cc
bare_derived is_member below spec.too_large bare n e = absurd cc
bare_derived is_member below spec.unjudged bare n e = absurd cc
bare_derived is_member below (spec.means m) bare n e = by (is_member && spec.is_reference m) (spec.restricted_in below m) refl e
  where
    left : (r : spec.Meant) (o : Option spec.Meant) → IsBareMeant r → spec.named_meant (spec.named_in below) r ≡ o
        → spec.meaning_of (option_map_or spec.means o spec.wrong) ≡ Some n → IsBareMeant n
    left r None bare is e = absurd cc
    left r (Some q) bare is e = bare_means q (bare_all_named below r q bare is) n e

    matched : (r : spec.Meant) (o : Option spec.Meant) → IsBareMeant r → spec.matched_meant below r ≡ o
        → spec.meaning_of (option_map_or spec.means (option_and_then (spec.named_meant (spec.named_in below)) o) spec.wrong) ≡ Some n → IsBareMeant n
    matched r None bare is e = absurd cc
    matched r (Some q) bare is e = left q (spec.named_meant (spec.named_in below) q) (bare_all_matched below r q bare is) refl e

    by : (b : Bool) (o : Option spec.Meant) → spec.restricted_in below m ≡ o
        → spec.meaning_of (cond b spec.wrong (option_map_or spec.means
        (option_and_then (spec.named_meant (spec.named_in below)) (option_and_then (spec.matched_meant below) o)) spec.wrong)) ≡ Some n → IsBareMeant n
    by true o is e = absurd cc
    by false None is e = absurd cc
    by false (Some r) is e = matched r (spec.matched_meant below r) (bare_all_restricted below m r (bare m refl) is) refl e

bare_verdict : (modules : Forest Source) (named_so : ℕ → spec.Verdict) (is_member : Bool) (s : Source) (below : Forest Source) (members : List spec.Verdict)
    → ((k : ℕ) → IsBareVerdict (named_so k)) → IsBareVerdict (spec.verdict modules named_so is_member s below members)
bare_verdict modules named_so is_member s below members bare n e = by (spec.built_in_meant modules s) n e
  where
    in_place : (b : Bool) (type : spec.BuiltIn) → IsBareVerdict (cond b (spec.verdict_in_place modules is_member s type below members) spec.wrong)
    in_place true type n e = bare_in_place modules is_member s type below members n e
    in_place false type n e = absurd cc

    by : (o : Option spec.BuiltIn) → IsBareVerdict (option_map_or (λ type. cond (spec.are_in_place type below)
        (spec.verdict_in_place modules is_member s type below members) spec.wrong) o (spec.derived is_member below (named_so s.number)))
    by None n e = bare_derived is_member below (named_so s.number) (bare s.number) n e
    by (Some type) n e = in_place (spec.are_in_place type below) type n e

module _ (modules : Forest Source) where
  bare_named : (known : ℕ → Known) → ((k : ℕ) → IsBareVerdict (known k).verdict) → (k : ℕ) → IsBareVerdict (verdict_by (named modules known) k)
  bare_named known bare k = by (number_named modules k)
    where
      by : (o : Option ℕ) → IsBareVerdict (option_map_or known o (record { verdict = spec.unjudged; default = None })).verdict
      by None n e = absurd cc
      by (Some m) n e = bare m n e

  bare_in_row : (names : ℕ → Known) → ((k : ℕ) → IsBareVerdict (verdict_by names k)) → (row : Forest Source) → IsBareVerdict (known_in_row modules names row).verdict
  bare_in_row names bare row = by (found_with word.type_word row)
    where
      by : (o : Option (Source × Forest Source)) → IsBareVerdict (option_map_or (known_by modules names row) o (record { verdict = spec.unjudged; default = None })).verdict
      by None n e = absurd cc
      by (Some t) n e = bare_verdict modules (verdict_by names) false t.0 t.1 (spec.verdicts modules (verdict_by names) t.1) bare n e

  bare_known : (steps number : ℕ) → IsBareVerdict (known_within modules steps number).verdict
  unfolding known_within
  bare_known zero number n e = absurd cc
  bare_known (suc steps) number n e = by (typedef_row modules number) (bare_named (known_within modules steps) (λ k. bare_known steps k)) n e
    where
      by : (o : Option (Forest Source)) → ((k : ℕ) → IsBareVerdict (verdict_by (named modules (known_within modules steps)) k))
          → IsBareVerdict (option_map_or (known_in_row modules (named modules (known_within modules steps))) o (record { verdict = spec.unjudged; default = None })).verdict
      by None bare n e = absurd cc
      by (Some row) bare n e = bare_in_row (named modules (known_within modules steps)) bare row n e

  -- whatever a statement means
  pub bare_meant : (p : Placed) (m : spec.Meant) → meant_by modules p ≡ Some m → IsBareMeant m
  bare_meant p m e = by (is_source_of word.type_word p.source) e
    where
      names : ℕ → spec.Verdict
      names = verdict_by (known_named modules)

      by : (b : Bool) → cond b (spec.meaning_of (verdict_of modules p)) None ≡ Some m → IsBareMeant m
      by false e = absurd cc
      by true e = bare_verdict modules names (is_own_member p) p.source p.below (spec.verdicts modules names p.below)
          (bare_named (known_within modules (size modules)) (λ k. bare_known (size modules) k)) m e
