-- Of which schema nodes values are kept, one by one.
use Rattle.std.proofs.Common.{◌≡◌, ℕ, ◌+◌, ◌<◌, Bool, true, false, cond, eqb, ◌||◌, List, [], ◌∷◌, ◌++◌, length, take, get_or, Option, Some, None, refl, sym, ap, subst, ◌∙◌}
use Rattle.std.specs.Prelude.{◌==◌, option_and_then, option_to_list}
use Rattle.std.specs.List.{filter_map}
use Rattle.std.proofs.lemmas.List.{take_more}
use Rattle.std.proofs.lemmas.List.Concat.{flat_map-append}
use Rattle.std.proofs.lemmas.List.Elements.{filter_map-append}
use Rattle.std.proofs.lemmas.List.Folds.{list_any-append}
use Rattle.yschema_model.specs.declared.node.MemberTargets.{MemberTargets}
use Rattle.yschema_model.specs.declared.node.MemberTargets.TheVariants.{Own, One, All}
use Rattle.yschema_model.specs.declared.node.SchemaId.{SchemaId}
use Rattle.yschema_model.specs.Layout.{each_target, targets_view}
use Rattle.yschema_model.proofs.TargetLemmas.{own_gathered, all_gathered}
use Rattle.ycheck.specs.Targets.{is_kept, is_among, required_number, required_by_members, required_where, KeepsMore}
use Rattle.ycheck.specs.declared.targets.Targets.{Targets}

same_or : (b : Bool) → b ≡ (b || false)
same_or true = refl
same_or false = refl

or_joined : (a b c : Bool) → ((a || b) || c) ≡ (a || (b || c))
or_joined true b c = refl
or_joined false b c = refl

pub none_kept : (t : Targets) → KeepsMore t t []
none_kept t number = same_or (is_kept t number)

-- as `keep` says it
pub one_kept : (x y : Targets) (target : ℕ) → ((number : ℕ) → is_kept y number ≡ (is_kept x number || target == number)) → KeepsMore x y (target ∷ [])
one_kept x y target so number = so number ∙ ap (λ b. is_kept x number || b) (same_or (target == number))

pub kept_in_turn : (x y z : Targets) (some others : List ℕ) → KeepsMore x y some → KeepsMore y z others → KeepsMore x z (some ++ others)
kept_in_turn x y z some others first second number =
    second number
    ∙ (ap (λ b. b || is_among number others) (first number)
    ∙ (or_joined (is_kept x number) (is_among number some) (is_among number others)
    ∙ ap (λ b. is_kept x number || b) (sym (list_any-append (λ n. n == number) some others))))

-- those of some members more
pub members_kept : (x y z : Targets) (all : List MemberTargets) (i : ℕ) (m other : MemberTargets) → i < length all → m ≡ get_or all i other
    → KeepsMore x y (required_by_members (targets_view (take i all))) → KeepsMore y z (required_by_members (targets_view (m ∷ [])))
    → KeepsMore x z (required_by_members (targets_view (take (i + 1) all)))
members_kept x y z all i m other within is so_far more =
    subst (KeepsMore x z) (sym (ap (λ ms. required_by_members (targets_view ms)) (take_more all i other within ∙ ap (λ n. take i all ++ n ∷ []) (sym is)) ∙ both))
    (kept_in_turn x y z (required_by_members (targets_view (take i all))) (required_by_members (targets_view (m ∷ []))) so_far more)
  where
    both : required_by_members (targets_view (take i all ++ m ∷ [])) ≡ required_by_members (targets_view (take i all)) ++ required_by_members (targets_view (m ∷ []))
    both = ap (filter_map (option_and_then required_number)) (flat_map-append each_target (take i all) (m ∷ []))
        ∙ filter_map-append (option_and_then required_number) (targets_view (take i all)) (targets_view (m ∷ []))

-- of members that are no leafref's, and of those of one leafref
pub own_kept : (x : Targets) (count : ℕ) → KeepsMore x x (required_by_members (targets_view (Own count ∷ [])))
own_kept x count = subst (KeepsMore x x) (sym (own_gathered (option_and_then required_number) refl count)) (none_kept x)

pub all_kept : (x y : Targets) (target : SchemaId) (count : ℕ) (required : Bool)
    → KeepsMore x y (cond (eqb count 0) [] (required_where required (Some target.0))) → KeepsMore x y (required_by_members (targets_view (All target count required ∷ [])))
all_kept x y target count required more number =
    more number
    ∙ ap (λ b. is_kept x number || b) (ap (λ ns. is_among number (cond (eqb count 0) [] ns)) (where_is required)
    ∙ sym (all_gathered (option_and_then required_number) refl target count required (cond required (Some target.0) None) (λ i. refl) number))
  where
    where_is : (b : Bool) → required_where b (Some target.0) ≡ option_to_list (cond b (Some target.0) None)
    where_is true = refl
    where_is false = refl

-- that of one member
pub one_is : (target : SchemaId) (required : Bool) → required_where required (Some target.0) ≡ required_by_members (targets_view (One target required ∷ []))
one_is target true = refl
one_is target false = refl
