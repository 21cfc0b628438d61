-- The type of a planned node is found within as many references as there are nodes, or in no number of them.
use Rattle.std.proofs.Common.{◌≡◌, ℕ, zero, suc, ◌+◌, ◌≤◌, Bool, true, false, cond, List, [], ◌∷◌, Option, Some, None, refl, sym, ap, ◌∙◌, arith, subst, inl, inr}
use Rattle.std.specs.Prelude.{◌&&◌, is_some, map, option_map, option_and_then}
use Rattle.std.specs.List.{Contains}
use Rattle.std.proofs.lemmas.Bool.{cases_eq, false≢true}
use Rattle.yspec.specs.Forest.{Forest, size}
use Rattle.yspec.specs.types.Types.{YangType, type_in}
use Rattle.yspec.specs.linking.Arguments.{Name}
use Rattle.yspec.specs.linking.Prefixes.{NodeName, node_name}
use Rattle.yspec.specs.linking.Source.{Source}
use Rattle.yspec.specs.linking.TypeStatements.{Member, own_member, leafref_member, Meant, own, of_target, of_union}
use Rattle.yspec.specs.linking.Identities.{module_name}
use Rattle.yspec.specs.linking.Planned.{Planned, Plan, nodes_of, data_nodes, data_child_called, data_node_at, is_data, is_typed, leaf_found, meant_in, path_target, referring, member_type, member_types, union_within, type_by, type_within, type_of, same_number, is_called}
use Rattle.yspec.specs.linking.Compiling.{plan_of}
use Rattle.yspec.proofs.ForestLemmas.{length-preorder}
use Rattle.ybase_graph.proofs.AmongLemmas.{Among, among_contained, found_among, passing_among}
use Rattle.ybase_graph.proofs.GrowthLemmas.{full_in_time, IsFull}

-- ---- what may be there

module _ {A : Type 0} where
  there : (o : Option A) → is_some o ≡ true → (x : A) × (o ≡ Some x)
  there None e = absurd (false≢true e)
  there (Some x) e = (x, refl)

  same_option : (a b : Option A) → ((x : A) → a ≡ Some x → b ≡ Some x) → ((x : A) → b ≡ Some x → a ≡ Some x) → a ≡ b
  same_option None None forth back = refl
  same_option None (Some y) forth back = back y refl
  same_option (Some x) b forth back = sym (forth x refl)

module _ (plan : Plan) where
  -- ---- targets

  child_inside : (scope : Option ℕ) (name : NodeName) (t : Planned) → data_child_called plan scope name ≡ Some t → Among t (nodes_of plan)
  child_inside scope name t e =
      passing_among is_data (nodes_of plan) t (found_among (λ p. same_number scope p.scope && is_called name p) (data_nodes plan) t e)

  way_inside : (scope : Option ℕ) (names : List NodeName) (t : Planned) → data_node_at plan scope names ≡ Some t → Among t (nodes_of plan)
  way_inside scope [] t e = absurd cc
  way_inside scope (name ∷ []) t e = child_inside scope name t e
  way_inside scope (name ∷ next ∷ names) t e = by (data_child_called plan scope name) e (λ p. way_inside (Some p.number) (next ∷ names) t)
    where
      by : (o : Option Planned) → option_and_then (λ (p : Planned). data_node_at plan (Some p.number) (next ∷ names)) o ≡ Some t
          → ((p : Planned) → data_node_at plan (Some p.number) (next ∷ names) ≡ Some t → Among t (nodes_of plan)) → Among t (nodes_of plan)
      by None e rest = absurd cc
      by (Some p) e rest = rest p e

  leaf_inside : (found : Option Planned) (t : Planned) → leaf_found found ≡ Some t → found ≡ Some t
  leaf_inside None t e = absurd cc
  leaf_inside (Some p) t e = by (is_typed p) e
    where
      by : (b : Bool) → cond b (Some p) None ≡ Some t → Some p ≡ Some t
      by true e = e
      by false e = absurd cc

  path_inside : (p : Planned) (home : ℕ) (steps : List Name) (t : Planned) → path_target plan p home steps ≡ Some t → Among t (nodes_of plan)
  path_inside p home steps t e =
      let names = map (node_name plan.modules home p.part.owner) steps in
      way_inside None names t (leaf_inside (data_node_at plan None names) t e)

  -- ---- one reference more

  -- what some give of a planned node, others give too
  abbrev Gives : (Planned → Option YangType) → (Planned → Option YangType) → Type 0
  Gives some others = (t : Planned) → Among t (nodes_of plan) → (x : YangType) → some t ≡ Some x → others t ≡ Some x

  module _ (some others : Planned → Option YangType) (gives : Gives some others) (p : Planned) where
    target_gives : (o : Option Planned) → ((t : Planned) → o ≡ Some t → Among t (nodes_of plan)) → (x : YangType)
        → option_and_then some o ≡ Some x → option_and_then others o ≡ Some x
    target_gives None inside x e = e
    target_gives (Some t) inside x e = gives t (inside t refl) x e

    member_gives : (m : Member) (x : YangType) → member_type plan some p m ≡ Some x → member_type plan others p m ≡ Some x
    member_gives (own_member type) x e = e
    member_gives (leafref_member home steps required) x e = target_gives (path_target plan p home steps) (path_inside p home steps) x e

    members_give : (ms : List Member) (xs : List YangType) → member_types plan some p ms ≡ Some xs → member_types plan others p ms ≡ Some xs
    members_give [] xs e = e
    members_give (m ∷ ms) xs e = by (member_type plan some p m) refl (member_types plan some p ms) refl (members_give ms) e
      where
        by : (a : Option YangType) → member_type plan some p m ≡ a → (b : Option (List YangType)) → member_types plan some p ms ≡ b
            → ((ys : List YangType) → member_types plan some p ms ≡ Some ys → member_types plan others p ms ≡ Some ys)
            → option_and_then (λ type. option_map (λ types. type ∷ types) b) a ≡ Some xs
            → option_and_then (λ type. option_map (λ types. type ∷ types) (member_types plan others p ms)) (member_type plan others p m) ≡ Some xs
        by None is b are rest e = absurd cc
        by (Some x) is None are rest e = absurd cc
        by (Some x) is (Some ys) are rest e =
            ap (option_and_then (λ type. option_map (λ types. type ∷ types) (member_types plan others p ms))) (member_gives m x is)
            ∙ (ap (option_map (λ types. x ∷ types)) (rest ys are) ∙ e)

    type_gives : (m : Option Meant) (x : YangType) → option_and_then (type_by plan some p) m ≡ Some x → option_and_then (type_by plan others p) m ≡ Some x
    type_gives None x e = e
    type_gives (Some (own type)) x e = e
    type_gives (Some (of_target home steps required)) x e = by (option_and_then some (path_target plan p home steps)) refl e
      where
        by : (o : Option YangType) → option_and_then some (path_target plan p home steps) ≡ o → option_map (referring required) o ≡ Some x
            → option_map (referring required) (option_and_then others (path_target plan p home steps)) ≡ Some x
        by None is e = absurd cc
        by (Some type) is e =
            ap (option_map (referring required)) (target_gives (path_target plan p home steps) (path_inside p home steps) type is) ∙ e
    type_gives (Some (of_union members)) x e = by (member_types plan some p members) refl e
      where
        by : (o : Option (List YangType)) → member_types plan some p members ≡ o → option_and_then union_within o ≡ Some x
            → option_and_then union_within (member_types plan others p members) ≡ Some x
        by None is e = absurd cc
        by (Some types) is e = ap (option_and_then union_within) (members_give members types is) ∙ e

  type_start : (p : Planned) → type_within plan zero p ≡ None
  unfolding type_within
  type_start p = refl

  type_step : (steps : ℕ) (p : Planned) → type_within plan (suc steps) p ≡ option_and_then (type_by plan (type_within plan steps) p) (meant_in plan p)
  unfolding type_within
  type_step steps p = refl

  -- what so many find, one more finds
  still_found : (steps : ℕ) (p : Planned) (x : YangType) → type_within plan steps p ≡ Some x → type_within plan (suc steps) p ≡ Some x
  still_found zero p x e = let none : None ≡ Some x = sym (type_start p) ∙ e in absurd cc
  still_found (suc steps) p x e = type_step (suc steps) p
      ∙ type_gives (type_within plan steps) (type_within plan (suc steps)) (λ t at. still_found steps t) p (meant_in plan p) x (sym (type_step steps p) ∙ e)

  abbrev is_found : ℕ → Planned → Bool
  is_found steps p = is_some (type_within plan steps p)

  found_on : (steps : ℕ) (p : Planned) → is_found steps p ≡ true → is_found (suc steps) p ≡ true
  found_on steps p holds = let type = there (type_within plan steps p) holds in ap is_some (still_found steps p type.0 type.1)

  -- ---- no more is found

  abbrev Settles : ℕ → Type 0
  Settles steps = Gives (type_within plan (suc steps)) (type_within plan steps)

  module _ (j : ℕ) (full : IsFull is_found found_on (nodes_of plan) j) where
    settles : Settles j
    settles t at x e =
        let type = there (type_within plan j t) (full t at (ap is_some e)) in
        type.1 ∙ (sym (still_found j t type.0 type.1) ∙ e)

    settles_on : (k : ℕ) → j ≤ k → Settles k
    settles_on zero le = let same : j ≡ zero = omega (arith, le) in subst Settles same settles
    settles_on (suc k) le = elim (cases_eq j (suc k)) [
      | inl same ↦ subst Settles same settles
      | inr other ↦ let before : j ≤ k = omega (arith, le, other) in λ t at x e. type_step k t
          ∙ type_gives (type_within plan (suc k)) (type_within plan k) (settles_on k before) t (meant_in plan t) x (sym (type_step (suc k) t) ∙ e)
    ]

    as_settled : (p : Planned) → Among p (nodes_of plan) → (k : ℕ) → j ≤ k → type_within plan k p ≡ type_within plan j p
    as_settled p at zero le = let same : zero ≡ j = omega (arith, le) in ap (λ n. type_within plan n p) same
    as_settled p at (suc k) le = elim (cases_eq j (suc k)) [
      | inl same ↦ ap (λ n. type_within plan n p) (sym same)
      | inr other ↦
          let before : j ≤ k = omega (arith, le, other) in
          same_option (type_within plan (suc k) p) (type_within plan k p) (settles_on k before p at) (still_found k p)
          ∙ as_settled p at k before
    ]

  type_settled : (more : ℕ) (p : Planned) → Contains (nodes_of plan) p
      → type_within plan (suc (size plan.nodes) + more) p ≡ type_within plan (suc (size plan.nodes)) p
  type_settled more p at =
      let among = among_contained p (nodes_of plan) at in
      let found = full_in_time is_found found_on (nodes_of plan) in
      let low = found.1 in
      let count = length-preorder plan.nodes in
      let enough : found.0 ≤ suc (size plan.nodes) = omega (arith, low, count) in
      let plenty : found.0 ≤ suc (size plan.nodes) + more = omega (arith, low, count) in
      as_settled found.0 found.2 p among (suc (size plan.nodes) + more) plenty
      ∙ sym (as_settled found.0 found.2 p among (suc (size plan.nodes)) enough)

pub types_settled : (modules : Forest Source) (more : ℕ) (p : Planned) → Contains (nodes_of (plan_of modules)) p
    → option_map (type_in (module_name (plan_of modules).modules p.part.owner)) (type_within (plan_of modules) (suc (size (plan_of modules).nodes) + more) p)
    ≡ type_of (plan_of modules) p
types_settled modules more p at =
    ap (option_map (type_in (module_name (plan_of modules).modules p.part.owner))) (type_settled (plan_of modules) more p at)
