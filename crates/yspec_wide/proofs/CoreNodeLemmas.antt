-- Under the core nodes break the same rules and stand for the same schema nodes.
use Rattle.std.proofs.Common.{◌≡◌, ℕ, zero, suc, Bool, true, false, not, ◌&&◌, ◌||◌, ◌++◌, List, [], Option, Some, None, is_some, option_and_then, filter_map, refl, ap, ap₂, subst, ◌∙◌, append_assoc, nat_lt}
use Rattle.std.proofs.Math.Path.{fun_ext}
use Rattle.std.proofs.lemmas.Bool.{and_right}
use Rattle.std.specs.Prelude.{unwrap_or, option_map, if◌then◌else◌}
use Rattle.std.specs.List.{list_any, flat_map}
use Rattle.std.specs.Option.{option_map_or}
use Rattle.yspec.specs.Forest.{Forest, end, node, relabelled, size}
use Rattle.yspec.specs.types.Types.{YangType, Val, string_type}
use Rattle.yspec.proofs.TypeProofs.OrderLemmas.{tells_values}
use Rattle.yspec.specs.linking.Keyword.{Keyword, same_keyword, leaf_word, leaf_list_word, choice_word, default_word}
use Rattle.yspec.proofs.LinkingProofs.KeywordLemmas.{same_is}
use Rattle.yspec.specs.linking.Source.{Source}
use Rattle.yspec.specs.linking.Scopes.{Placed, statement_at}
use Rattle.yspec.specs.linking.TypeStatements.{Meant}
use Rattle.yspec.specs.linking.Planned.{Planned, Plan, node_of, nodes_of, is_a, stated_in, target_of, targets_of, type_of}
use Rattle.yspec.specs.linking.SchemaNodes.{is_mandatory, min_elements_of, own_defaults, default_texts, value_stated, default_values, default_case, absent_by, first_value, absence_of, leaf_type, amount_of, type_name, number_in, is_key, kind_by, schema_node, schema_nodes}
use Rattle.yspec.specs.linking.NodeBreaks.{config_breaks, tuple_breaks, reference_breaks, default_breaks, addition_breaks, is_empty, is_refused, is_wrong_default, are_wrong_defaults, has_equal, is_wrong_case, must_be, has_mandatory, row_below, is_needed, is_foreign, broken_in, broken_at, own_breaks, node_breaks}
use Rattle.yspec.specs.schema.Breaks.{Break, when, or_told}
use Rattle.yspec.specs.schema.Schema.{Kind, container, leaf, leaf_list, list, choice, case, LeafType, Absence, mandatory, key, by_type}
use Rattle.yspec_wide.specs.Language.{core}
use Rattle.yspec_wide.specs.Sources.{bears_condition, bears_when, bears_guard}
use Rattle.yspec_wide.specs.Above.{is_under_within}
use Rattle.yspec_wide.specs.Guards.{is_guarded, is_let_add, asked_kind}
use Rattle.yspec_wide.specs.Operations.{is_in_operation, is_operation_node}
use Rattle.yspec_wide.specs.VersionBreaks.{key_break}
use Rattle.yspec_wide.specs.Types.{type_of_kept, default_texts_in, unmarked, same_if_any, is_refused_in, is_wrong_default_in, are_wrong_defaults_in, standing_type, default_breaks_in, default_values_in, leaf_type_in, absence_in, kind_stated, kind_in, schema_node_in, schema_nodes_in}
use Rattle.yspec_wide.specs.Additions.{stands_itself, has_mandatory_standing, is_needed_standing, broken_unless_let, addition_breaks_in}
use Rattle.yspec_wide.specs.Compiling.{own_breaks_in, node_breaks_in}
use Rattle.yspec_wide.proofs.CoreLinkingLemmas.{all_stand_in_core}
use Rattle.yspec_wide.proofs.CoreTypeLemmas.{type_alike, meant_in_alike}
use Rattle.yspec_wide.proofs.LeastLemmas.{told_in_two}

-- ---- what is asked of something that may be there

never : {A : Type 0} (f : A → Bool) (o : Option A) → ((x : A) → f x ≡ false) → option_map_or f o false ≡ false
never f None none = refl
never f (Some x) none = none x

asked_alike : {A : Type 0} (f g : A → Bool) (o : Option A) → ((x : A) → o ≡ Some x → f x ≡ g x)
    → option_map_or f o false ≡ option_map_or g o false
asked_alike f g None alike = refl
asked_alike f g (Some x) alike = alike x refl

-- ---- conditions

none_borne : (below : Forest Source) → bears_condition core below ≡ false
none_borne end = refl
none_borne (node s below after) = none_borne after

no_guard : (below : Forest Source) → bears_guard core below ≡ false
no_guard end = refl
no_guard (node s below after) = no_guard after

no_when : (below : Forest Source) → bears_when core below ≡ false
no_when end = refl
no_when (node s below after) = no_when after

pub key_none : (plan : Plan) (p : Planned) → key_break core plan p ≡ []
key_none plan p = ap (λ b. when b (option_map_or (broken_at 12) (option_and_then (node_of plan) p.parent) []))
    (and_right (is_a leaf_word p) _ (and_right (is_key plan p) _
    (never (λ (s : Placed). bears_guard core s.below) (statement_at plan.modules p.part.source.number) (λ s. no_guard s.below))))

-- nothing hangs on a `when`
module _ (plan : Plan) where
  -- no node stands below one that passes a test, if none does
  none_under : (test : Planned → Bool) → ((p : Planned) → test p ≡ false) → (steps : ℕ) (p : Planned) → is_under_within plan test steps p ≡ false
  unfolding is_under_within
  none_under test none zero p = refl
  none_under test none (suc steps) p = ap (λ b. b || option_map_or (is_under_within plan test steps) (option_and_then (node_of plan) p.parent) false) (none p)
      ∙ never (is_under_within plan test steps) (option_and_then (node_of plan) p.parent) (none_under test none steps)

  none_within : (p : Planned) → is_guarded core plan p ≡ false
  none_within p = none_under (λ q. bears_when core q.part.own) (λ q. no_when q.part.own) (size plan.nodes) p

  none_inside : (p : Planned) → is_in_operation core plan p ≡ false
  none_inside p = none_under (is_operation_node core) (λ q. refl) (size plan.nodes) p

  none_let : (number : ℕ) → is_let_add core plan number ≡ false
  none_let number = never (λ (a : Placed). bears_when core a.below && true) (statement_at plan.modules number)
      (λ a. ap (λ b. b && true) (no_when a.below))

asked_whole : (kind : Kind) → asked_kind false kind ≡ kind
asked_whole (container presence) = refl
asked_whole (leaf type absence) = refl
asked_whole (leaf_list type defaults amount) = refl
asked_whole (list tuples amount) = refl
asked_whole (choice default_case is_mandatory) = refl
asked_whole case = refl

module _ (plan : Plan) (p : Planned) where
  -- ---- types

  standing_alike : standing_type core plan p ≡ type_of plan p
  standing_alike = type_alike plan p

  unmarked_alike : type_of_kept (unmarked core) plan p ≡ type_of plan p
  unmarked_alike = type_alike plan p

  -- ---- defaults

  same_itself : (v : Option Val) → same_if_any v v ≡ is_some v
  same_itself None = refl
  same_itself (Some a) = (tells_values a a).1 refl

  texts_alike : default_texts_in core plan p ≡ default_texts plan p
  texts_alike = ap (λ b. if not b then default_texts plan p else []) (and_right (is_a leaf_list_word p) false refl)

  refused_alike : (type : YangType) → type_of plan p ≡ Some type → is_refused_in core plan p type ≡ is_refused plan type
  refused_alike type e = fun_ext (λ t. ap not
      (ap (λ (found : Option YangType). same_if_any (value_stated plan type t) (option_and_then (λ unmarked. value_stated plan unmarked t) found))
      (unmarked_alike ∙ e)
      ∙ same_itself (value_stated plan type t)))

  wrong_alike : (type : YangType) → type_of plan p ≡ Some type → is_wrong_default_in core plan p type ≡ is_wrong_default plan p type
  wrong_alike type e = ap₂ (λ test texts. if is_mandatory p then not (is_empty (own_defaults p)) else list_any test texts)
      (refused_alike type e) texts_alike

  are_wrong_alike : (type : YangType) → type_of plan p ≡ Some type → are_wrong_defaults_in core plan p type ≡ are_wrong_defaults plan p type
  are_wrong_alike type e = ap₂ (λ test texts. if nat_lt 0 (min_elements_of p) then not (is_empty (own_defaults p))
      else list_any test texts || (p.config && has_equal plan type texts)) (refused_alike type e) texts_alike

  default_alike : default_breaks_in core plan p ≡ default_breaks plan p
  default_alike = ap (λ b. when b (broken_at 11 p)) (ap₂ (λ one many. if is_a leaf_word p then not (is_key plan p) && one
      else (if is_a leaf_list_word p then many
      else (is_a choice_word p && (is_some (stated_in default_word p) && is_wrong_case plan p (default_case plan p)))))
      (ap (λ found. option_map_or (is_wrong_default_in core plan p) found false) standing_alike
      ∙ asked_alike (is_wrong_default_in core plan p) (is_wrong_default plan p) (type_of plan p) wrong_alike)
      (ap (λ found. option_map_or (are_wrong_defaults_in core plan p) found false) standing_alike
      ∙ asked_alike (are_wrong_defaults_in core plan p) (are_wrong_defaults plan p) (type_of plan p) are_wrong_alike))

  -- ---- schema nodes

  values_alike : default_values_in core plan p ≡ default_values plan p
  values_alike = ap₂ (λ (found : Option YangType) texts. filter_map (λ t. option_and_then (λ type. value_stated plan type t) found) texts)
      standing_alike texts_alike

  leaf_type_alike : leaf_type_in core plan p ≡ leaf_type plan p
  leaf_type_alike = ap₂ (λ (types : Planned → Option YangType) (meant : Planned → Option Meant). record {
    name = type_name p;
    type = unwrap_or (types p) string_type;
    target = option_map number_in (target_of plan p);
    targets = targets_of plan types p (meant p);
    form = by_type;
  }) (fun_ext (type_alike plan)) (meant_in_alike plan)

  absence_alike : absence_in core plan p ≡ absence_of plan (is_key plan p) p
  absence_alike = ap (λ values. if is_key plan p then key else (if is_mandatory p then mandatory else absent_by (first_value values)))
      values_alike

  kinds : LeafType → Absence → List Val → Kind → Bool → Bool → Kind
  kinds type absence values others is_leaf is_leaf_list =
      if is_leaf then leaf type absence else (if is_leaf_list then leaf_list type values (amount_of p) else others)

  by_keyword : (k : Keyword) (a b : Bool) → same_keyword leaf_word k ≡ a → same_keyword leaf_list_word k ≡ b
      → kinds (leaf_type plan p) (absence_of plan (is_key plan p) p) (default_values plan p) (kind_by plan p k) a b ≡ kind_by plan p k
  unfolding kinds
  by_keyword k true b is other = subst (λ (k : Keyword). leaf (leaf_type plan p) (absence_of plan (is_key plan p) p) ≡ kind_by plan p k)
      (same_is leaf_word k is) refl
  by_keyword k false true other is = subst (λ (k : Keyword). leaf_list (leaf_type plan p) (default_values plan p) (amount_of p) ≡ kind_by plan p k)
      (same_is leaf_list_word k is) refl
  by_keyword k false false other another = refl

  stated_alike : kind_stated core plan p ≡ kind_by plan p p.part.source.keyword
  unfolding kinds
  stated_alike =
      ap₂ (λ type absence. kinds type absence (default_values_in core plan p) (kind_by plan p p.part.source.keyword)
      (is_a leaf_word p) (is_a leaf_list_word p)) leaf_type_alike absence_alike
      ∙ (ap (λ values. kinds (leaf_type plan p) (absence_of plan (is_key plan p) p) values (kind_by plan p p.part.source.keyword)
      (is_a leaf_word p) (is_a leaf_list_word p)) values_alike
      ∙ by_keyword p.part.source.keyword (is_a leaf_word p) (is_a leaf_list_word p) refl refl)

  kind_alike : kind_in core plan p ≡ kind_by plan p p.part.source.keyword
  kind_alike = ap (λ guarded. asked_kind guarded (kind_stated core plan p)) (none_within plan p)
      ∙ (asked_whole (kind_stated core plan p) ∙ stated_alike)

  node_alike : schema_node_in core plan p ≡ schema_node plan p
  node_alike = ap (λ kind. record (schema_node plan p) { kind = kind }) kind_alike

module _ (plan : Plan) where
  pub schema_nodes_alike : schema_nodes_in core plan ≡ schema_nodes plan
  schema_nodes_alike = ap (λ label. relabelled label plan.nodes) (fun_ext (node_alike plan))

  -- ---- C15

  itself : (p : Planned) → stands_itself core plan p ≡ true
  itself p = ap (λ holds. holds p.part.own) (all_stand_in_core plan.modules)

  mandatory_alike : (f : Forest Planned) → has_mandatory_standing core plan f ≡ has_mandatory f
  mandatory_alike end = refl
  mandatory_alike (node p below after) =
      ap₂ (λ own inside. (own && must_be p inside) || has_mandatory_standing core plan after) (itself p) (mandatory_alike below)
      ∙ ap (λ later. must_be p (has_mandatory below) || later) (mandatory_alike after)

  needed_alike : (p : Planned) → is_needed_standing core plan p ≡ is_needed plan p
  needed_alike p = ap₂ (λ own inside. own && must_be p inside) (itself p) (mandatory_alike (row_below plan p.number))

  addition_alike : addition_breaks_in core plan ≡ addition_breaks plan
  addition_alike = fun_ext (λ p. ap (λ b. if b then [] else when (is_foreign p (option_and_then (node_of plan) p.parent)
      && (p.config && is_needed_standing core plan p)) (option_map_or (broken_unless_let core plan) p.part.added_by [])) (none_inside plan p)
      ∙ ap₂ (λ needed told. when (is_foreign p (option_and_then (node_of plan) p.parent) && (p.config && needed))
      (option_map_or told p.part.added_by [])) (needed_alike p)
      (fun_ext (λ number. ap (λ b. if b then [] else broken_in plan number) (none_let plan number))))

  -- ---- all of them

  abbrev inner_breaks : Planned → List Break
  inner_breaks p = config_breaks plan p ++ (tuple_breaks plan p ++ (reference_breaks plan p ++ default_breaks plan p))

  inner_alike : own_breaks_in core plan ≡ inner_breaks
  inner_alike = fun_ext (λ p. ap₂ (λ keys defaults. config_breaks plan p ++ (tuple_breaks plan p ++ (keys ++ (reference_breaks plan p ++ defaults))))
      (key_none plan p) (default_alike plan p))

  gathered : (p : Planned) → inner_breaks p ++ addition_breaks plan p ≡ own_breaks plan p
  gathered p = append_assoc (config_breaks plan p) _ (addition_breaks plan p)
      ∙ ap (λ others. config_breaks plan p ++ others) (append_assoc (tuple_breaks plan p) _ (addition_breaks plan p)
      ∙ ap (λ others. tuple_breaks plan p ++ others) (append_assoc (reference_breaks plan p) (default_breaks plan p) (addition_breaks plan p)))

  pub node_breaks_alike : (later : Option Break) → or_told (node_breaks_in core plan plan) later ≡ or_told (node_breaks plan) later
  node_breaks_alike later =
      ap₂ (λ own added. or_told (flat_map own (nodes_of plan) ++ flat_map added (nodes_of plan)) later) inner_alike addition_alike
      ∙ (told_in_two inner_breaks (addition_breaks plan) (nodes_of plan) later
      ∙ ap (λ told. or_told (flat_map told (nodes_of plan)) later) (fun_ext gathered))
