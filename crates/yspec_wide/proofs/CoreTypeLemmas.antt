-- Where the names of all values are kept, types are what they are without a language.
use Rattle.std.proofs.Common.{◌≡◌, ℕ, zero, suc, ℤ, Bool, true, false, not, ◌&&◌, ◌++◌, cond, List, [], ◌∷◌, filter, Option, Some, None, option_map, option_and_then, refl, ap, ap₂, subst, ◌∙◌, append_assoc}
use Rattle.std.proofs.Math.Path.{fun_ext}
use Rattle.std.proofs.lemmas.Bool.{and_from, and_parts, or_left, or_right}
use Rattle.std.specs.Prelude.{int_lt, if◌then◌else◌}
use Rattle.std.specs.List.{list_any, list_all}
use Rattle.std.specs.Option.{option_map_or}
use Rattle.yspec.specs.Forest.{Forest, end, node, first_of, size}
use Rattle.yspec.specs.text.Text.{Text, is_text}
use Rattle.yspec.proofs.BasicLemmas.{same_text}
use Rattle.yspec.specs.types.Names.{Naming, Assigned, number_of, placed, is_new, assigned_from, are_enum_names, enum_numbers, bit_positions, enum_names, bit_names}
use Rattle.yspec.specs.types.Ranges.{Part, lies_in}
use Rattle.yspec.specs.types.Types.{enumeration_base, bits_base, plain, type_in, YangType}
use Rattle.yspec.specs.linking.Keyword.{Keyword}
use Rattle.yspec.specs.linking.Keyword as word
use Rattle.yspec.specs.linking.Source.{Source, is_source_of, argument_in, first_with, found_with, stated_with}
use Rattle.yspec.specs.linking.Scopes.{statement_at}
use Rattle.yspec.specs.linking.Identities.{module_name, bases_in}
use Rattle.yspec.specs.linking.TypeStatements.{BuiltIn, integer, decimal64, string, boolean, empty, enumeration, bits, union, leafref, identityref, binary, Meant, own, Verdict, means, wrong, built_in_meant, are_in_place, of_names, namings, value_stated, position_stated, single_type, identity_verdict, verdict_in_place, derived, verdict, verdicts, verdict_on, meaning_of}
use Rattle.yspec.specs.linking.DerivedTypes.{Known, unknown, named, verdict_by, typedef_row, is_own_member, known_by, known_in_row, known_within, known_named, meant_by}
use Rattle.yspec.specs.linking.Planned.{Planned, Plan, type_by, meant_in, type_within, type_of}
use Rattle.yspec_wide.specs.Types as wide

-- ---- names that are kept

filter_whole : {A : Type 0} (p : A → Bool) (xs : List A) → list_all p xs ≡ true → filter p xs ≡ xs
filter_whole p [] e = refl
filter_whole p (x ∷ xs) e = let both = and_parts (p x) (list_all p xs) e in
    ap (λ b. cond b (x ∷ filter p xs) (filter p xs)) both.0 ∙ ap (λ rest. x ∷ rest) (filter_whole p xs both.1)

module _ (q : Text → Bool) where
  abbrev passes : Assigned → Bool
  passes a = q a.name

  abbrev all_named : List Naming → Bool
  all_named ns = list_all (λ (n : Naming). q n.name) ns

  placed_all : (a : Assigned) (names : List Assigned) → q a.name ≡ true → list_all passes names ≡ true → list_all passes (placed a names) ≡ true
  placed_all a [] here all = and_from (q a.name) true here refl
  placed_all a (b ∷ bs) here all = let both = and_parts (q b.name) (list_all passes bs) all in
      by (int_lt a.number b.number) both.0 (placed_all a bs here both.1)
    where
      by : (less : Bool) → q b.name ≡ true → list_all passes (placed a bs) ≡ true → list_all passes (cond less (a ∷ b ∷ bs) (b ∷ placed a bs)) ≡ true
      by true first others = and_from (q a.name) _ here all
      by false first others = and_from (q b.name) _ first others

  assigned_all : (numbers : Part) (names : List Assigned) (ns : List Naming) → list_all passes names ≡ true → all_named ns ≡ true
      → option_map (filter passes) (assigned_from numbers names ns) ≡ assigned_from numbers names ns
  assigned_all numbers names [] all given = ap Some (filter_whole passes names all)
  assigned_all numbers names (n ∷ ns) all given =
      let a : Assigned = record { name = n.name; number = number_of names n.number } in
      let both = and_parts (q n.name) (all_named ns) given in
      by (lies_in a.number numbers && is_new a names) (placed a names) (assigned_all numbers (placed a names) ns (placed_all a names both.0 all) both.1)
    where
      by : (fits : Bool) (more : List Assigned) → option_map (filter passes) (assigned_from numbers more ns) ≡ assigned_from numbers more ns
          → option_map (filter passes) (option_and_then (λ more. assigned_from numbers more ns) (cond fits (Some more) None))
          ≡ option_and_then (λ more. assigned_from numbers more ns) (cond fits (Some more) None)
      by true more e = e
      by false more e = refl

-- each of some texts is among them
any_at : (before : List Text) (t : Text) (after : List Text) → list_any (is_text t) (before ++ t ∷ after) ≡ true
any_at [] t after = or_left (is_text t t) (list_any (is_text t) after) (same_text t)
any_at (b ∷ before) t after = or_right (is_text t b) _ (any_at before t after)

module _ (k : Keyword) (number : Forest Source → Option ℤ) where
  abbrev kept_texts : Forest Source → List Text
  kept_texts below = wide.names_kept wide.all_names k below

  names_among : (before : List Text) (below : Forest Source)
      → list_all (λ (n : Naming). list_any (is_text n.name) (before ++ kept_texts below)) (namings k number below) ≡ true
  names_among before end = refl
  names_among before (node s below after) = by (is_source_of k s)
      (subst (λ texts. list_all (λ (n : Naming). list_any (is_text n.name) texts) (namings k number after) ≡ true)
      (append_assoc before (argument_in s ∷ []) (kept_texts after)) (names_among (before ++ argument_in s ∷ []) after))
      (names_among before after)
    where
      by : (is : Bool) → list_all (λ (n : Naming). list_any (is_text n.name) (before ++ argument_in s ∷ kept_texts after)) (namings k number after) ≡ true
          → list_all (λ (n : Naming). list_any (is_text n.name) (before ++ kept_texts after)) (namings k number after) ≡ true
          → list_all (λ (n : Naming). list_any (is_text n.name) (before ++ cond (is && true) (argument_in s ∷ kept_texts after) (kept_texts after)))
          (cond is (record { name = argument_in s; number = number below } ∷ namings k number after) (namings k number after)) ≡ true
      by true more others = and_from _ _ (any_at before (argument_in s) (kept_texts after)) more
      by false more others = others

-- what is made of names that are filtered, where that changes none
made_alike : {A B : Type 0} (f : A → B) (g : A → A) (o : Option A) → option_map g o ≡ o → option_map (λ a. f (g a)) o ≡ option_map f o
made_alike f g o e = by o ∙ ap (option_map f) e
  where
    by : (o : Option _) → option_map (λ a. f (g a)) o ≡ option_map f (option_map g o)
    by None = refl
    by (Some a) = refl

enums_if : (p : Assigned → Bool) (b : Bool) (o : Option (List Assigned)) → option_map (filter p) o ≡ o
    → option_map (filter p) (cond b o None) ≡ cond b o None
enums_if p true o e = e
enums_if p false o e = refl

abbrev among_kept : Keyword → Forest Source → Assigned → Bool
among_kept k below a = list_any (is_text a.name) (wide.names_kept wide.all_names k below)

enums_kept : (below : Forest Source) (ns : List Naming) → list_all (λ (n : Naming). list_any (is_text n.name) (wide.names_kept wide.all_names word.enum_word below)) ns ≡ true
    → of_names (λ given. enumeration_base (wide.assigned_kept wide.all_names word.enum_word below given)) enum_names ns ≡ of_names enumeration_base enum_names ns
enums_kept below [] all = refl
enums_kept below (n ∷ ns) all = made_alike (λ given. plain (enumeration_base given)) (filter (among_kept word.enum_word below)) (enum_names (n ∷ ns))
    (enums_if (among_kept word.enum_word below) (are_enum_names (n ∷ ns)) (assigned_from enum_numbers [] (n ∷ ns))
    (assigned_all (λ t. list_any (is_text t) (wide.names_kept wide.all_names word.enum_word below)) enum_numbers [] (n ∷ ns) refl all))

bits_kept : (below : Forest Source) (ns : List Naming) → list_all (λ (n : Naming). list_any (is_text n.name) (wide.names_kept wide.all_names word.bit_word below)) ns ≡ true
    → of_names (λ given. bits_base (wide.assigned_kept wide.all_names word.bit_word below given)) bit_names ns ≡ of_names bits_base bit_names ns
bits_kept below [] all = refl
bits_kept below (n ∷ ns) all = made_alike (λ given. plain (bits_base given)) (filter (among_kept word.bit_word below)) (bit_names (n ∷ ns))
    (assigned_all (λ t. list_any (is_text t) (wide.names_kept wide.all_names word.bit_word below)) bit_positions [] (n ∷ ns) refl all)

pub single_alike : (type : BuiltIn) (below : Forest Source) → wide.single_type_of wide.all_names type below ≡ single_type type below
single_alike (integer i) below = refl
single_alike decimal64 below = refl
single_alike string below = refl
single_alike boolean below = refl
single_alike empty below = refl
single_alike enumeration below = enums_kept below (namings word.enum_word value_stated below) (names_among word.enum_word value_stated [] below)
single_alike bits below = bits_kept below (namings word.bit_word position_stated below) (names_among word.bit_word position_stated [] below)
single_alike union below = refl
single_alike leafref below = refl
single_alike identityref below = refl
single_alike binary below = refl

-- ---- verdicts

identity_alike : (modules : Forest Source) (home : ℕ) (bases : List ℕ)
    → wide.identity_verdict_of wide.all_names modules home bases ≡ identity_verdict modules home bases
identity_alike modules home [] = refl
identity_alike modules home (base ∷ bases) = refl

module _ (modules : Forest Source) where
  in_place_alike : (member : Bool) (s : Source) (type : BuiltIn) (below : Forest Source) (members : List Verdict)
      → wide.verdict_in_place_of wide.all_names modules member s type below members ≡ verdict_in_place modules member s type below members
  in_place_alike member s (integer i) below members = refl
  in_place_alike member s decimal64 below members = refl
  in_place_alike member s string below members = refl
  in_place_alike member s boolean below members = refl
  in_place_alike member s empty below members = refl
  in_place_alike member s enumeration below members = ap (λ found. option_map_or (λ t. means (own t)) found wrong) (single_alike enumeration below)
  in_place_alike member s bits below members = ap (λ found. option_map_or (λ t. means (own t)) found wrong) (single_alike bits below)
  in_place_alike member s union below members = refl
  in_place_alike member s leafref below members = refl
  in_place_alike member s identityref below members = identity_alike modules s.home (bases_in modules below)
  in_place_alike member s binary below members = refl

  pub verdict_alike : (names : ℕ → Verdict) (member : Bool) (s : Source) (below : Forest Source) (members : List Verdict)
      → wide.verdict_of wide.all_names modules names member s below members ≡ verdict modules names member s below members
  verdict_alike names member s below members =
      ap (λ meant. option_map_or meant (built_in_meant modules s) (derived member below (names s.number)))
      (fun_ext (λ type. ap (λ v. if are_in_place type below then v else wrong) (in_place_alike member s type below members)))

  pub verdicts_alike : (names : ℕ → Verdict) (f : Forest Source) → wide.verdicts_of wide.all_names modules names f ≡ verdicts modules names f
  unfolding wide.verdicts_of verdicts
  verdicts_alike names end = refl
  verdicts_alike names (node s below after) = ap₂ (λ here others. if is_source_of word.type_word s then here ∷ others else others)
      (ap (wide.verdict_of wide.all_names modules names (not s.may_refer) s below) (verdicts_alike names below)
      ∙ verdict_alike names (not s.may_refer) s below (verdicts modules names below))
      (verdicts_alike names after)

  verdict_on_alike : (names : ℕ → Verdict) (member : Bool) (s : Source) (below : Forest Source)
      → wide.verdict_on_of wide.all_names modules names member s below ≡ verdict_on modules names member s below
  verdict_on_alike names member s below = ap (wide.verdict_of wide.all_names modules names member s below) (verdicts_alike names below)
      ∙ verdict_alike names member s below (verdicts modules names below)

  -- ---- typedefs

  known_alike : (names : ℕ → Known) (row : Forest Source) → wide.known_of wide.all_names modules names row ≡ known_by modules names row
  known_alike names row = fun_ext (λ type. ap (λ (v : Verdict). record {
    verdict = v;
    default = first_of (stated_with word.default_word row) (names type.0.number).default;
  }) (verdict_on_alike (verdict_by names) false type.0 type.1))

  pub known_in_row_alike : (names : ℕ → Known) → wide.known_in_row_of wide.all_names modules names ≡ known_in_row modules names
  known_in_row_alike names = fun_ext (λ row. ap (λ known. option_map_or known (found_with word.type_word row) unknown) (known_alike names row))

  known_within_alike : (steps : ℕ) → wide.known_within_of wide.all_names modules steps ≡ known_within modules steps
  unfolding wide.known_within_of known_within
  known_within_alike zero = refl
  known_within_alike (suc steps) = fun_ext (λ number. ap (λ known. option_map_or known (typedef_row modules number) unknown)
      (ap (λ within. wide.known_in_row_of wide.all_names modules (named modules within)) (known_within_alike steps)
      ∙ known_in_row_alike (named modules (known_within modules steps))))

  pub known_named_alike : wide.known_named_of wide.all_names modules ≡ known_named modules
  known_named_alike = ap (named modules) (known_within_alike (size modules))

  meant_alike : wide.meant_of wide.all_names modules ≡ meant_by modules
  meant_alike = fun_ext (λ p. ap (λ v. if is_source_of word.type_word p.source then meaning_of v else None)
      (ap (λ known. wide.verdict_on_of wide.all_names modules (verdict_by known) (is_own_member p) p.source p.below) known_named_alike
      ∙ verdict_on_alike (verdict_by (known_named modules)) (is_own_member p) p.source p.below))

-- ---- types of nodes

module _ (plan : Plan) where
  pub meant_in_alike : wide.meant_in_of wide.all_names plan ≡ meant_in plan
  meant_in_alike = fun_ext (λ p. ap (λ meant. option_and_then (λ (s : Source). option_and_then meant (statement_at plan.modules s.number))
      (first_with word.type_word p.part.own)) (meant_alike plan.modules))

  type_within_alike : (steps : ℕ) → wide.type_within_of wide.all_names plan steps ≡ type_within plan steps
  unfolding wide.type_within_of type_within
  type_within_alike zero = refl
  type_within_alike (suc steps) = fun_ext (λ p. ap₂ (λ others (meant : Planned → Option Meant). option_and_then (type_by plan others p) (meant p))
      (type_within_alike steps) meant_in_alike)

  pub type_alike : (p : Planned) → wide.type_of_kept wide.all_names plan p ≡ type_of plan p
  type_alike p = ap (λ (within : Planned → Option YangType). option_map (type_in (module_name plan.modules p.part.owner)) (within p))
      (type_within_alike (suc (size plan.nodes)))
