-- Loops and steps by which types and references are made.
use Rattle.std.proofs.Common.{◌≡◌, ℕ, zero, suc, ◌+◌, ◌≤◌, ◌<◌, Bool, true, false, List, [], ◌∷◌, ◌++◌, length, map, drop, get_or, replicate, Option, Some, None, refl, sym, ap, ◌∙◌}
use Rattle.std.specs.Prelude.{◌-◌, nat_lt, option_map, option_and_then, option_to_list, slice_get, unwrap_or}
use Rattle.std.specs.List.{cons_option, filter_map, flat_map, range_with_len}
use Rattle.std.proofs.lemmas.List.{append_assoc, at_drop_more, length-append}
use Rattle.std.proofs.lemmas.Option.{slice_get-map}
use Rattle.yspec.specs.types.Types.{Shape, single, union, YangType}
use Rattle.yspec.specs.types.Restriction.{all_members, is_union, members_of, member_count}
use Rattle.yspec.specs.linking.Graph as graph
use Rattle.yspec.specs.linking.Planned as spec
use Rattle.yspec.specs.linking.Planned.{Planned, Plan, targets_by}
use Rattle.ylink_arguments.proofs.ListLemmas.{with_more}
use Rattle.ylink_types.specs.declared.types.Member.{Member}
use Rattle.ylink_types.specs.TypeView.{member_view}
use Rattle.ylink_types.proofs.TypeLemmas.{past_limit, still_left}
use Rattle.yschema_types.specs.MadeTypes.{each_target, one_target, no_target, made_at, nothing}
use Rattle.yschema_types.specs.MadeView.{made_view, rows_view}
use Rattle.yschema_types.specs.ReferenceEdges.{edge_from}
use Rattle.yschema_types.specs.declared.making.Made.{Made}

-- ---- what is held

pub held_one : (rows : List Made) (n : ℕ) (m : Made) → slice_get rows n ≡ Some m → made_at (rows_view rows) n ≡ made_view m
held_one rows n m at = ap (λ o. unwrap_or o nothing) (slice_get-map made_view rows n) ∙ ap (λ o. unwrap_or (option_map made_view o) nothing) at

pub held_none : (rows : List Made) (n : ℕ) → slice_get rows n ≡ None → made_at (rows_view rows) n ≡ nothing
held_none rows n at = ap (λ o. unwrap_or o nothing) (slice_get-map made_view rows n) ∙ ap (λ o. unwrap_or (option_map made_view o) nothing) at

-- ---- the types of members, one after another

shifted : {X : Type 0} (xs : List X) (x : X) (o : Option (List X)) → with_more xs (option_map (λ more. x ∷ more) o) ≡ with_more (xs ++ x ∷ []) o
shifted xs x None = refl
shifted xs x (Some more) = ap Some (sym (append_assoc xs (x ∷ []) more))

module _ (plan : Plan) (others : Planned → Option YangType) (p : Planned) (ms : List Member) (i : ℕ) (m : Member) (within : i < length ms) (is : m ≡ get_or ms i m) where
  abbrev rest : Option (List YangType)
  rest = spec.member_types plan others p (map member_view (drop (i + 1) ms))

  abbrev before_rest : Option YangType → Option (List YangType)
  before_rest o = option_and_then (λ type. option_map (λ types. type ∷ types) rest) o

  first_type : spec.member_types plan others p (map member_view (drop i ms)) ≡ before_rest (spec.member_type plan others p (member_view m))
  first_type = at_drop_more (λ l. spec.member_types plan others p (map member_view l)) ms i m within
      ∙ ap (λ x. spec.member_types plan others p (map member_view (x ∷ drop (i + 1) ms))) (sym is)

  pub one_type_more : (found more : List YangType) (type : YangType) (whole : Option (List YangType)) → more ≡ found ++ type ∷ []
      → Some type ≡ spec.member_type plan others p (member_view m)
      → with_more found (spec.member_types plan others p (map member_view (drop i ms))) ≡ whole → with_more more rest ≡ whole
  one_type_more found more type whole pushed typed so_far =
      ap (λ xs. with_more xs rest) pushed
      ∙ (sym (shifted found type rest) ∙ (ap (with_more found) (ap before_rest typed ∙ sym first_type) ∙ so_far))

  pub no_type_more : (found : List YangType) (whole : Option (List YangType)) → None ≡ spec.member_type plan others p (member_view m)
      → with_more found (spec.member_types plan others p (map member_view (drop i ms))) ≡ whole → None ≡ whole
  no_type_more found whole none so_far = ap (with_more found) (ap before_rest none ∙ sym first_type) ∙ so_far

-- ---- how many members types have together

module _ (ts : List YangType) (i : ℕ) (t : YangType) (within : i < length ts) (is : t ≡ get_or ts i t) (left more : ℕ) (width : more ≡ member_count t) where
  abbrev behind : ℕ
  behind = length (all_members (drop (i + 1) ts))

  first_counted : nat_lt left (length (all_members (drop i ts))) ≡ nat_lt left (more + behind)
  first_counted = ap (nat_lt left) (at_drop_more (λ l. length (all_members l)) ts i t within
      ∙ (ap (λ x. length (all_members (x ∷ drop (i + 1) ts))) (sym is)
      ∙ (length-append (members_of t.shape) (all_members (drop (i + 1) ts)) ∙ ap (λ n. n + behind) (sym width))))

  pub too_many_here : (whole : Bool) → left < more → nat_lt left (length (all_members (drop i ts))) ≡ whole → true ≡ whole
  too_many_here whole less so_far = sym (first_counted ∙ past_limit left more behind less) ∙ so_far

  pub counted_so : (whole : Bool) → more ≤ left → nat_lt left (length (all_members (drop i ts))) ≡ whole
      → nat_lt (left - more) (length (all_members (drop (i + 1) ts))) ≡ whole
  counted_so whole le so_far = still_left left more behind le ∙ (sym first_counted ∙ so_far)

-- ---- what members refer to

pub own_numbered : (k count : ℕ) → replicate count no_target ≡ map (λ i. no_target) (range_with_len k count)
own_numbered k zero = refl
own_numbered k (suc count) = ap (λ l. no_target ∷ l) (own_numbered (k + 1) count)

pub none_each : {A : Type 0} (k : ℕ) (xs : List A) → map (λ i. no_target) (range_with_len k (length xs)) ≡ map (λ x. no_target) xs
none_each k [] = refl
none_each k (x ∷ xs) = ap (λ l. no_target ∷ l) (none_each (k + 1) xs)

pub each_of_union : (number : ℕ) (required : Bool) (shape : Shape) → is_union shape ≡ true
    → map (each_target number required) (range_with_len 0 (length (members_of shape))) ≡ targets_by number required shape
each_of_union number required (single s) e = absurd cc
each_of_union number required (union members) e = refl

pub one_of_single : (number : ℕ) (required : Bool) (shape : Shape) → is_union shape ≡ false
    → one_target number required ∷ [] ≡ targets_by number required shape
one_of_single number required (single s) e = refl
one_of_single number required (union members) e = absurd cc

-- what each of some makes is added behind the others
pub one_made_more : {A C : Type 0} (see : A → C) {B : Type 0} (f : C → List B) (ms : List A) (i : ℕ) (m : A) (so_far more whole : List B) → i < length ms → m ≡ get_or ms i m
    → more ≡ so_far ++ f (see m) → so_far ++ flat_map f (map see (drop i ms)) ≡ whole → more ++ flat_map f (map see (drop (i + 1) ms)) ≡ whole
one_made_more see f ms i m so_far more whole within is added made =
    let rest = flat_map f (map see (drop (i + 1) ms)) in
    ap (λ l. l ++ rest) added
    ∙ (append_assoc so_far (f (see m)) rest
    ∙ (sym (ap (λ l. so_far ++ l) (at_drop_more (λ l. flat_map f (map see l)) ms i m within ∙ ap (λ x. f (see x) ++ rest) (sym is))) ∙ made))

-- ---- references

-- one member more
pub next_edge : {A C : Type 0} (see : A → C) (f : C → Option Planned) (n : ℕ) (ms : List A) (i : ℕ) (m : A) (so_far more whole : List graph.Edge) → i < length ms → m ≡ get_or ms i m
    → more ≡ so_far ++ map (edge_from n) (option_to_list (f (see m)))
    → so_far ++ map (edge_from n) (filter_map f (map see (drop i ms))) ≡ whole → more ++ map (edge_from n) (filter_map f (map see (drop (i + 1) ms))) ≡ whole
next_edge see f n ms i m so_far more whole within is added made =
    let rest = map (edge_from n) (filter_map f (map see (drop (i + 1) ms))) in
    ap (λ l. l ++ rest) added
    ∙ (append_assoc so_far (map (edge_from n) (option_to_list (f (see m)))) rest
    ∙ (ap (λ l. so_far ++ l) (by (f (see m)) (filter_map f (map see (drop (i + 1) ms)))
    ∙ sym (at_drop_more (λ l. map (edge_from n) (filter_map f (map see l))) ms i m within
    ∙ ap (λ x. map (edge_from n) (cons_option (f (see x)) (filter_map f (map see (drop (i + 1) ms))))) (sym is))) ∙ made))
  where
    by : (o : Option Planned) (ts : List Planned) → map (edge_from n) (option_to_list o) ++ map (edge_from n) ts ≡ map (edge_from n) (cons_option o ts)
    by None ts = refl
    by (Some t) ts = refl

-- one node more
pub next_edges : {A B : Type 0} (f : A → List B) (so_far more : List B) (x : A) (ys : List B) (before rest : List A) (whole : List B) → before ≡ x ∷ rest
    → more ≡ so_far ++ ys → ys ≡ f x → so_far ++ flat_map f before ≡ whole → more ++ flat_map f rest ≡ whole
next_edges f so_far more x ys before rest whole first added is made =
    ap (λ l. l ++ flat_map f rest) added
    ∙ (append_assoc so_far ys (flat_map f rest)
    ∙ (ap (λ l. so_far ++ (l ++ flat_map f rest)) is ∙ (sym (ap (λ xs. so_far ++ flat_map f xs) first) ∙ made)))
