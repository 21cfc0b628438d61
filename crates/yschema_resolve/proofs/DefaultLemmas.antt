-- Values of defaults: those that are refused, and those that come twice.
use Rattle.std.proofs.Common.{◌≡◌, ◌≢◌, ℕ, suc, ◌+◌, ◌<◌, ◌≤◌, drop, get_or, map, eqb, ◌++◌, ◌&&◌, Bool, true, false, not, cond, ltb, ◌||◌, Bor, List, [], ◌∷◌, length, Option, Some, None, is_some, refl, sym, ap, ap₂, ◌∙◌, arith}
use Rattle.std.proofs.Math.Path.{fun_ext}
use Rattle.std.specs.List.{list_any, cons_option, filter_map}
use Rattle.std.specs.Option.{option_map_or}
use Rattle.std.specs.Prelude.{option_map, option_and_then}
use Rattle.std.specs.Ordering.{is_eq}
use Rattle.std.specs.BTreeSet.{BTreeSet, contains_by}
use Rattle.std.specs.BTreeMap.{is_at}
use Rattle.std.proofs.lemmas.Bool.{lt-ltb, le-ltb, ltb-true, ltb-false, ne_eqb, eqb-true}
use Rattle.std.proofs.lemmas.List.{at_drop_more, at_drop_all}
use Rattle.yspec.specs.types.Types.{YangType, Val}
use Rattle.yspec.specs.types.Values.{value_of_text}
use Rattle.yspec.specs.types.Order.{value_cmp, same_value}
use Rattle.yspec.specs.Forest.{Forest}
use Rattle.yspec.specs.linking.Source.{Source, Stated, first_with, found_with}
use Rattle.yspec.specs.linking.DerivedTypes.{default_meant}
use Rattle.yspec.specs.linking.Keyword.{Keyword, same_keyword, leaf_word, leaf_list_word, choice_word, type_word, default_word}
use Rattle.yspec.specs.linking.Planned.{Planned, Plan, stated_in}
use Rattle.yspec.specs.linking.SchemaNodes.{is_mandatory, min_elements_of, is_key, own_defaults, type_default, default_texts, value_stated, default_case}
use Rattle.yspec.specs.linking.NodeBreaks.{is_empty, has_equal, is_wrong_case}
use Rattle.yspec_wide.specs.Language.{Language}
use Rattle.yspec_wide.specs.Types as wide
use Rattle.yspec_wide.specs.Types.{default_texts_in, same_if_any, is_refused_in, is_wrong_default_in, are_wrong_defaults_in, standing_type, is_default_wrong_in}
use Rattle.yspec.proofs.TypeProofs.OrderLemmas.{tells_values}
use Rattle.ylink_grammar.specs.SourceView.{stated_view}
use Rattle.ylink_grammar.specs.declared.source.Stated as code
use Rattle.ylink_grammar.proofs.SourceLemmas.{first_found}
use Rattle.yschema_types.specs.ModulesView.{AreNamesOf, value_by}
use Rattle.yschema_types.specs.declared.modules.ModuleTable.{ModuleTable}
use Rattle.yschema_resolve.specs.Values.{comes_twice, is_refused_by, unmarked_type, wrong_leaf, wrong_leaf_list}

-- ---- values that were seen

abbrev pub holds_value : BTreeSet (Bor Val) → Val → Bool
holds_value set v = contains_by (λ k. value_cmp v k.now) set

or_cond : (b c : Bool) → cond b true c ≡ (b || c)
or_cond true c = refl
or_cond false c = refl

turned : (a b c : Bool) → ((a || b) || c) ≡ (b || (a || c))
turned true true c = refl
turned true false c = refl
turned false true c = refl
turned false false c = refl

either_any : {A : Type 0} (f g h : A → Bool) (xs : List A) → ((x : A) → h x ≡ (f x || g x)) → list_any h xs ≡ (list_any f xs || list_any g xs)
either_any f g h [] each = refl
either_any f g h (x ∷ xs) each = ap₂ ◌||◌ (each x) (either_any f g h xs each) ∙ by (f x) (g x) (list_any f xs) (list_any g xs)
  where
    by : (a b c d : Bool) → ((a || b) || (c || d)) ≡ ((a || c) || (b || d))
    by true b c d = refl
    by false true true d = refl
    by false true false d = refl
    by false false c d = refl

any_none : {A : Type 0} (f : A → Bool) (xs : List A) → ((x : A) → f x ≡ false) → list_any f xs ≡ false
any_none f [] none = refl
any_none f (x ∷ xs) none = ap (λ b. b || list_any f xs) (none x) ∙ any_none f xs none

-- what was seen, and one value more
pub value_added : (before after : BTreeSet (Bor Val)) (v : Val)
    → ((q : Bor Val) → holds_value after q.now ≡ cond (is_eq (value_cmp v q.now)) true (holds_value before q.now))
    → (w : Val) → holds_value after w ≡ (same_value v w || holds_value before w)
value_added before after v updates w =
    updates (record { ref_ptr = (0, 0); now = w }) ∙ or_cond (is_eq (value_cmp v w)) (holds_value before w)

pub was_not : (b : Bool) → true ≡ not b → b ≡ false
was_not false e = refl
was_not true e = cc

pub twice_first : (set : BTreeSet (Bor Val)) (vs : List Val) → set.keys ≡ []
    → (list_any (holds_value set) vs || comes_twice same_value vs) ≡ comes_twice same_value vs
twice_first set vs empty =
    ap (λ b. b || comes_twice same_value vs) (any_none (holds_value set) vs (λ v. ap (list_any (is_at (λ (k : Bor Val). value_cmp v k.now))) empty))

pub twice_more : (before after : Val → Bool) (v : Val) (vs : List Val) → ((w : Val) → after w ≡ (same_value v w || before w)) → before v ≡ false
    → (list_any after vs || comes_twice same_value vs) ≡ (list_any before (v ∷ vs) || comes_twice same_value (v ∷ vs))
twice_more before after v vs adds new =
    ap (λ b. b || comes_twice same_value vs) (either_any (same_value v) before after vs adds)
    ∙ turned (list_any (same_value v) vs) (list_any before vs) (comes_twice same_value vs)
    ∙ ap (λ b. (b || list_any before vs) || (list_any (same_value v) vs || comes_twice same_value vs)) (sym new)

-- ---- values that a type takes

any_values : {A B : Type 0} (f : A → Option B) (test : B → Bool) (xs : List A)
    → list_any (λ x. option_map_or test (f x) false) xs ≡ list_any test (filter_map f xs)
any_values {B = B} f test [] = refl
any_values {B = B} f test (x ∷ xs) = by (f x) (any_values f test xs)
  where
    rest : Bool
    rest = list_any (λ x. option_map_or test (f x) false) xs

    by : (o : Option B) → rest ≡ list_any test (filter_map f xs) → (option_map_or test o false || rest) ≡ list_any test (cons_option o (filter_map f xs))
    by None h = h
    by (Some y) h = ap (λ b. test y || b) h

-- what a type takes from texts is the same by the names that are held
pub same_values : (table : ModuleTable) (plan : Plan) → AreNamesOf table plan.modules → (type : YangType) (ts : List Stated)
    → filter_map (value_by table type) ts ≡ filter_map (value_stated plan type) ts
same_values table plan are type [] = refl
same_values table plan are type (t ∷ ts) =
    ap₂ cons_option (ap (λ names. value_of_text names type t.text) (are t.home)) (same_values table plan are type ts)

pub equal_values : (plan : Plan) (type : YangType) (ts : List Stated) → has_equal plan type ts ≡ comes_twice same_value (filter_map (value_stated plan type) ts)
equal_values plan type [] = refl
equal_values plan type (t ∷ ts) = by (value_stated plan type t) (equal_values plan type ts)
  where
    same : Option Val → Stated → Bool
    same o u = option_map_or (λ v. option_map_or (same_value v) (value_stated plan type u) false) o false

    by : (o : Option Val) → has_equal plan type ts ≡ comes_twice same_value (filter_map (value_stated plan type) ts)
        → (list_any (same o) ts || has_equal plan type ts) ≡ comes_twice same_value (cons_option o (filter_map (value_stated plan type) ts))
    by None h = ap (λ b. b || has_equal plan type ts) (any_none (same None) ts (λ u. refl)) ∙ h
    by (Some v) h = ap₂ ◌||◌ (any_values (value_stated plan type) (same_value v) ts) h

-- what a type makes of a text is the same by the names that are held
same_value_by : (table : ModuleTable) (plan : Plan) → AreNamesOf table plan.modules → value_by table ≡ value_stated plan
same_value_by table plan are = fun_ext (λ type. fun_ext (λ t. ap (λ names. value_of_text names type t.text) (are t.home)))

-- a type takes a text as it does itself
pub right_itself : (v : Val) → same_if_any (Some v) (Some v) ≡ true
right_itself v = (tells_values v v).1 refl

-- ---- texts, one after another

module _ {A B : Type 0} (see : A → B) (test : B → Bool) (xs : List A) where
  abbrev any_of : List A → Bool
  any_of ys = list_any test (map see ys)

  pub first_refused : (i : ℕ) (x : A) (whole : Bool) → i < length xs → x ≡ get_or xs i x → test (see x) ≡ true → any_of (drop i xs) ≡ whole → true ≡ whole
  first_refused i x whole within is refused so_far =
      sym (at_drop_more any_of xs i x within ∙ ap (λ b. b || any_of (drop (i + 1) xs)) (ap (λ y. test (see y)) (sym is) ∙ refused)) ∙ so_far

  pub first_right : (i : ℕ) (x : A) (whole : Bool) → i < length xs → x ≡ get_or xs i x → test (see x) ≡ false → any_of (drop i xs) ≡ whole
      → any_of (drop (i + 1) xs) ≡ whole
  first_right i x whole within is right so_far =
      sym (at_drop_more any_of xs i x within ∙ ap (λ b. b || any_of (drop (i + 1) xs)) (ap (λ y. test (see y)) (sym is) ∙ right)) ∙ so_far

  pub all_right : (i : ℕ) (whole : Bool) → length xs ≤ i → any_of (drop i xs) ≡ whole → false ≡ whole
  all_right i whole past so_far = sym (at_drop_all any_of xs i past) ∙ so_far

-- ---- the defaults of a node

no_texts : (ts : List code.Stated) → eqb (length ts) 0 ≡ is_empty (map stated_view ts)
no_texts [] = refl
no_texts (t ∷ ts) = let other : suc (length ts) ≢ 0 = omega arith in ne_eqb (suc (length ts)) 0 other

-- others where there are none
abbrev texts_or : List Stated → List Stated → List Stated
texts_or others [] = others
texts_or others (t ∷ ts) = t ∷ ts

abbrev of_type : Plan → Planned → List Stated
of_type plan p = option_map_or (λ t. t ∷ []) (type_default plan p) []

-- a node with defaults of its own has these
pub own_texts : (plan : Plan) (p : Planned) (texts : List code.Stated) → eqb (length texts) 0 ≡ false → map stated_view texts ≡ own_defaults p
    → map stated_view texts ≡ default_texts plan p
own_texts plan p [] some are = absurd cc
own_texts plan p (t ∷ ts) some are = ap (texts_or (of_type plan p)) are

-- one without has that of its type
pub texts_of_type : (plan : Plan) (p : Planned) (texts more : List code.Stated) (d : Option code.Stated) → eqb (length texts) 0 ≡ true
    → map stated_view texts ≡ own_defaults p → option_map stated_view d ≡ type_default plan p
    → more ≡ texts ++ option_map_or (λ t. t ∷ []) d [] → map stated_view more ≡ default_texts plan p
texts_of_type plan p (t ∷ ts) more d none are is ends = absurd (some_texts t ts none)
  where
    some_texts : (x : code.Stated) (xs : List code.Stated) → eqb (suc (length xs)) 0 ≡ true → ⊥
    some_texts x xs e = let other : suc (length xs) ≢ 0 = omega arith in other (eqb-true (suc (length xs)) 0 e)
texts_of_type plan p [] more d none are is ends =
    ap (map stated_view) ends ∙ (by d ∙ (ap (λ o. option_map_or (λ t. t ∷ []) o []) is ∙ ap (texts_or (of_type plan p)) are))
  where
    by : (o : Option code.Stated) → map stated_view (option_map_or (λ t. t ∷ []) o []) ≡ option_map_or (λ t. t ∷ []) (option_map stated_view o) []
    by None = refl
    by (Some t) = refl

-- in a language
module _ (language : Language) (plan : Plan) (p : Planned) where
  -- a leaf-list of YANG 1 has none
  pub may_have : (texts : List Stated) → wide.has_defaults language plan p ≡ true → texts ≡ default_texts plan p → texts ≡ default_texts_in language plan p
  may_have texts may are = are ∙ ap (λ b. cond b (default_texts plan p) []) (sym may)

  pub has_none : (texts : List Stated) → wide.has_defaults language plan p ≡ false → texts ≡ [] → texts ≡ default_texts_in language plan p
  has_none texts may are = are ∙ ap (λ b. cond b (default_texts plan p) []) (sym may)

module _ (language : Language) (plan : Plan) (p : Planned) (type : YangType) where
  abbrev stated : Bool
  stated = not (is_empty (own_defaults p))

  abbrev refused : Bool
  refused = list_any (is_refused_in language plan p type) (default_texts_in language plan p)

  abbrev equal : Bool
  equal = has_equal plan type (default_texts_in language plan p)

  some_stated : (texts : List code.Stated) → map stated_view texts ≡ own_defaults p → not (eqb (length texts) 0) ≡ stated
  some_stated texts are = ap not (no_texts texts ∙ ap is_empty are)

  -- those that aren't right, by the names that are held
  pub refused_as : (table : ModuleTable) → AreNamesOf table plan.modules → (unmarked : Option YangType) → unmarked ≡ unmarked_type language plan p
      → (texts : List Stated) → texts ≡ default_texts_in language plan p → list_any (is_refused_by table type unmarked) texts ≡ refused
  refused_as table are unmarked is texts texts_are =
      ap₂ list_any (ap₂ (λ (value : YangType → Stated → Option Val) (u : Option YangType).
      λ (t : Stated). not (same_if_any (value type t) (option_and_then (λ v. value v t) u))) (same_value_by table plan are) is) texts_are

  -- of a leaf with a default of its own
  pub wrong_beside : (texts : List code.Stated) → map stated_view texts ≡ own_defaults p → is_mandatory p ≡ true
      → not (eqb (length texts) 0) ≡ is_wrong_default_in language plan p type
  wrong_beside texts are must = some_stated texts are ∙ ap (λ b. cond b stated refused) (sym must)

  -- of another
  pub wrong_refused : (told : Bool) → told ≡ refused → is_mandatory p ≡ false → told ≡ is_wrong_default_in language plan p type
  wrong_refused told is may = is ∙ ap (λ b. cond b stated refused) (sym may)

  -- of a leaf-list with some of its own
  by_least : (b : Bool) → ltb 0 (min_elements_of p) ≡ b → cond b stated (refused || (p.config && equal)) ≡ are_wrong_defaults_in language plan p type
  by_least b is = ap (λ d. cond d stated (refused || (p.config && equal))) (sym is)

  pub wrong_least : (texts : List code.Stated) → map stated_view texts ≡ own_defaults p → (n : ℕ) → n ≡ min_elements_of p → 0 < n
      → not (eqb (length texts) 0) ≡ are_wrong_defaults_in language plan p type
  wrong_least texts are n is above = some_stated texts are ∙ by_least true (ap (ltb 0) (sym is) ∙ lt-ltb 0 n above)

  -- of another leaf-list
  module _ (n : ℕ) (is : n ≡ min_elements_of p) (none : n ≤ 0) (told : Bool) (told_is : told ≡ refused) where
    others : (refused || (p.config && equal)) ≡ are_wrong_defaults_in language plan p type
    others = by_least false (ap (ltb 0) (sym is) ∙ le-ltb 0 n none)

    pub wrong_one : told ≡ true → true ≡ are_wrong_defaults_in language plan p type
    wrong_one holds = ap (λ r. r || (p.config && equal)) (sym holds ∙ told_is) ∙ others

    pub wrong_twice : told ≡ false → p.config ≡ true → (texts : List Stated) → texts ≡ default_texts_in language plan p
        → (values : List Val) → values ≡ filter_map (value_stated plan type) texts → comes_twice same_value values ≡ are_wrong_defaults_in language plan p type
    wrong_twice fails config texts texts_are values taken =
        ap (comes_twice same_value) taken
        ∙ (sym (equal_values plan type texts) ∙ (ap (has_equal plan type) texts_are
        ∙ (ap₂ (λ r c. r || (c && equal)) (sym fails ∙ told_is) (sym config) ∙ others)))

    pub right_state : told ≡ false → p.config ≡ false → false ≡ are_wrong_defaults_in language plan p type
    right_state fails state = ap₂ (λ r c. r || (c && equal)) (sym fails ∙ told_is) (sym state) ∙ others

-- ---- the default of a type

pub no_default : (plan : Plan) (p : Planned) → (is_mandatory p || ltb 0 (min_elements_of p)) ≡ true → None ≡ type_default plan p
no_default plan p must = ap (λ b. cond b None (option_and_then (default_meant plan.modules) (first_with type_word p.part.own))) (sym must)

pub default_named : (plan : Plan) (p : Planned) (found : Option (Source × Forest Source)) (default : Option Stated) → (is_mandatory p || ltb 0 (min_elements_of p)) ≡ false
    → found ≡ found_with type_word p.part.own → default ≡ option_and_then (λ (x : Source × Forest Source). default_meant plan.modules x.0) found
    → default ≡ type_default plan p
default_named plan p found default may is so =
    so ∙ (by found ∙ (ap (λ (o : Option (Source × Forest Source)). option_and_then (default_meant plan.modules) (option_map (λ x. x.0) o)) is
    ∙ (ap (option_and_then (default_meant plan.modules)) (first_found type_word p.part.own)
    ∙ ap (λ b. cond b None (option_and_then (default_meant plan.modules) (first_with type_word p.part.own))) (sym may))))
  where
    by : (o : Option (Source × Forest Source))
        → option_and_then (λ (x : Source × Forest Source). default_meant plan.modules x.0) o ≡ option_and_then (default_meant plan.modules) (option_map (λ (x : Source × Forest Source). x.0) o)
    by None = refl
    by (Some x) = refl

pub without_default : (plan : Plan) (p : Planned) (found : Option (Source × Forest Source)) → found ≡ found_with type_word p.part.own
    → None ≡ option_and_then (λ (x : Source × Forest Source). default_meant plan.modules x.0) found → None ≡ type_default plan p
without_default plan p found is none = by (is_mandatory p || ltb 0 (min_elements_of p)) refl
  where
    by : (b : Bool) → (is_mandatory p || ltb 0 (min_elements_of p)) ≡ b → None ≡ type_default plan p
    by true must = no_default plan p must
    by false may = default_named plan p found None may is none

-- ---- by the keyword of a node

module _ (language : Language) (plan : Plan) (p : Planned) where
  abbrev wrong_by : Keyword → Bool
  wrong_by w = cond (same_keyword leaf_word w) (wrong_leaf language plan p (is_key plan p) (standing_type language plan p))
      (cond (same_keyword leaf_list_word w) (wrong_leaf_list language plan p (standing_type language plan p))
      (same_keyword choice_word w && (is_some (stated_in default_word p) && is_wrong_case plan p (default_case plan p))))

  pub leaf_as : leaf_word ≡ p.part.source.keyword → wrong_leaf language plan p (is_key plan p) (standing_type language plan p) ≡ is_default_wrong_in language plan p
  leaf_as is = ap wrong_by is

  pub leaf_list_as : leaf_list_word ≡ p.part.source.keyword → wrong_leaf_list language plan p (standing_type language plan p) ≡ is_default_wrong_in language plan p
  leaf_list_as is = ap wrong_by is
