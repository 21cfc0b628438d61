-- Types, one after another.
use Rattle.std.proofs.Common.{◌≡◌, ◌≢◌, ◌+◌, ◌≤◌, ◌<◌, Bool, true, false, not, ◌&&◌, cond, List, [], ◌∷◌, ◌++◌, drop, get_or, Option, Some, None, refl, sym, ap, ◌∙◌, arith}
use Rattle.std.proofs.lemmas.Bool.Decides.{nat_tests}
use Rattle.std.proofs.lemmas.List.{append_assoc, append-nil, at_drop_more, map-append}
use Rattle.std.proofs.lemmas.List.Sums.{sum_by-cons}
use Rattle.yspec.specs.Forest.{Forest, end, node}
use Rattle.yspec.specs.linking.Source.{Source, is_source_of}
use Rattle.yspec.specs.linking.TypeStatements as spec
use Rattle.yspec.specs.linking.TypeStatements.{member_types, union_verdict}
use Rattle.std.specs.Prelude.{◌==◌, ◌-◌, ℕ, is_some, length, map, nat_lt, sum_by, option_map, option_and_then}
use Rattle.std.specs.Option.{option_map_or}
use Rattle.yspec.specs.types.Types.{YangType}
use Rattle.yspec.specs.types.Restriction.{union_type}
use Rattle.yspec.specs.linking.Keyword.{type_word}
use Rattle.yspec_wide.specs.Types.{Keeping, single_type_of, verdict_in_place_of, verdict_of, verdicts_of}
use Rattle.ybase_words.specs.BuiltInView.{built_in_view}
use Rattle.ybase_words.specs.declared.builtin.BuiltIn.{BuiltIn}
use Rattle.ybase_words.specs.declared.builtin.BuiltIn.TheVariants as built_in
use Rattle.ylink_arguments.proofs.ListLemmas.{with_more}
use Rattle.ylink_types.specs.declared.types.Member.{Member}
use Rattle.ylink_types.specs.declared.types.Verdict.{Verdict}
use Rattle.ylink_types.specs.TypeView.{is_own, judged_union, member_view, verdict_view}

-- ---- unions

pub made_of : (types : List YangType) (made found : Option YangType) → found ≡ made → made ≡ Some (union_type types)
    → option_map_or judged_union found spec.wrong ≡ spec.of_members types
made_of types made found is made_is = ap (λ o. option_map_or judged_union o spec.wrong) (is ∙ made_is)

-- of members that have types of their own, and of others
pub own_union_is : (members : List Verdict) → false ≡ (length members == 0) → is_some (member_types (map verdict_view members)) ≡ true
    → option_map_or spec.of_members (member_types (map verdict_view members)) spec.unjudged ≡ union_verdict (map verdict_view members)
own_union_is [] some own = absurd cc
own_union_is (v ∷ vs) some own = by (member_types (map verdict_view (v ∷ vs))) own
  where
    by : (o : Option (List YangType)) → is_some o ≡ true → option_map_or spec.of_members o spec.unjudged
        ≡ option_map_or spec.of_members o (option_map_or spec.referring_union (spec.members_in (map verdict_view (v ∷ vs))) spec.unjudged)
    by None e = absurd cc
    by (Some types) e = refl

pub other_union_is : (members : List Verdict) → false ≡ (length members == 0) → is_some (member_types (map verdict_view members)) ≡ false
    → option_map_or spec.referring_union (spec.members_in (map verdict_view members)) spec.unjudged ≡ union_verdict (map verdict_view members)
other_union_is [] some other = absurd cc
other_union_is (v ∷ vs) some other = by (member_types (map verdict_view (v ∷ vs))) other
  where
    by : (o : Option (List YangType)) → is_some o ≡ false → option_map_or spec.referring_union (spec.members_in (map verdict_view (v ∷ vs))) spec.unjudged
        ≡ option_map_or spec.of_members o (option_map_or spec.referring_union (spec.members_in (map verdict_view (v ∷ vs))) spec.unjudged)
    by None e = refl
    by (Some types) e = absurd cc

-- ---- members, one after another

own_first : (v : spec.Verdict) (vs : List spec.Verdict) → is_some (member_types (v ∷ vs)) ≡ (is_own v && is_some (member_types vs))
own_first (spec.means (spec.own type)) vs = by (member_types vs)
  where
    by : (o : Option (List YangType)) → is_some (option_map (λ types. type ∷ types) o) ≡ is_some o
    by None = refl
    by (Some types) = refl
own_first (spec.means (spec.of_target home steps required)) vs = refl
own_first (spec.means (spec.of_union members)) vs = refl
own_first spec.wrong vs = refl
own_first spec.too_large vs = refl
own_first spec.unjudged vs = refl

module _ (vs : List Verdict) (i : ℕ) (v : Verdict) (within : i < length vs) (is : v ≡ get_or vs i v) where
  left_first : is_some (member_types (map verdict_view (drop i vs))) ≡ (is_own (verdict_view v) && is_some (member_types (map verdict_view (drop (i + 1) vs))))
  left_first = at_drop_more (λ l. is_some (member_types (map verdict_view l))) vs i v within
      ∙ (ap (λ x. is_some (member_types (map verdict_view (x ∷ drop (i + 1) vs)))) (sym is) ∙ own_first (verdict_view v) (map verdict_view (drop (i + 1) vs)))

  pub not_own : (whole : Bool) → is_own (verdict_view v) ≡ false → is_some (member_types (map verdict_view (drop i vs))) ≡ whole → false ≡ whole
  not_own whole other so_far = sym (left_first ∙ ap (λ b. b && is_some (member_types (map verdict_view (drop (i + 1) vs)))) other) ∙ so_far

  pub next_own : (whole : Bool) → is_own (verdict_view v) ≡ true → is_some (member_types (map verdict_view (drop i vs))) ≡ whole
      → is_some (member_types (map verdict_view (drop (i + 1) vs))) ≡ whole
  next_own whole own so_far = sym (left_first ∙ ap (λ b. b && is_some (member_types (map verdict_view (drop (i + 1) vs)))) own) ∙ so_far

pub more_members : (found more : List spec.Member) (m : spec.Meant) (rest whole : Option (List spec.Member)) → more ≡ found ++ spec.members_meant m
    → with_more found (spec.with_members (spec.means m) rest) ≡ whole → with_more more rest ≡ whole
more_members found more m None whole added so_far = so_far
more_members found more m (Some rest) whole added so_far =
    ap (λ ms. Some (ms ++ rest)) added ∙ (ap Some (append_assoc found (spec.members_meant m) rest) ∙ so_far)

-- one more of a list is held in another form
pub one_held : {A C V : Type 0} (see : C → V) (of : A → V) (held more : List C) (y : C) (xs : List A) (i : ℕ) (x : A) → i < length xs → x ≡ get_or xs i x
    → more ≡ held ++ y ∷ [] → see y ≡ of x → map see held ++ map of (drop i xs) ≡ map of xs → map see more ++ map of (drop (i + 1) xs) ≡ map of xs
one_held see of held more y xs i x within is pushed says so_far =
    let rest = map of (drop (i + 1) xs) in
    ap (λ vs. vs ++ rest) (ap (map see) pushed ∙ map-append see held (y ∷ []))
    ∙ (append_assoc (map see held) (see y ∷ []) rest
    ∙ (ap (λ v. map see held ++ v ∷ rest) says
    ∙ (sym (ap (λ vs. map see held ++ vs) (at_drop_more (map of) xs i x within ∙ ap (λ z. of z ∷ rest) (sym is))) ∙ so_far)))

-- ---- how many members a union has

pub past_limit : (left more rest : ℕ) → left < more → nat_lt left (more + rest) ≡ true
past_limit left more rest less = grind (arith, nat_tests)

pub still_left : (left more rest : ℕ) → more ≤ left → nat_lt (left - more) rest ≡ nat_lt left (more + rest)
still_left left more rest le = by (nat_lt (left - more) rest) refl (nat_lt left (more + rest)) refl
  where
    by : (a : Bool) → nat_lt (left - more) rest ≡ a → (b : Bool) → nat_lt left (more + rest) ≡ b → a ≡ b
    by true e true f = refl
    by true e false f = absurd (grind (arith, nat_tests, e, f, le))
    by false e true f = absurd (grind (arith, nat_tests, e, f, le))
    by false e false f = refl

module _ (ms : List Member) (i : ℕ) (m : Member) (within : i < length ms) (is : m ≡ get_or ms i m) (left more : ℕ)
    (width : more ≡ spec.width_of (member_view m)) where
  abbrev behind : ℕ
  behind = sum_by spec.width_of (map member_view (drop (i + 1) ms))

  sum_first : nat_lt left (sum_by spec.width_of (map member_view (drop i ms))) ≡ nat_lt left (more + behind)
  sum_first = ap (nat_lt left) (at_drop_more (λ l. sum_by spec.width_of (map member_view l)) ms i m within
      ∙ (ap (λ x. sum_by spec.width_of (map member_view (x ∷ drop (i + 1) ms))) (sym is)
      ∙ (sum_by-cons spec.width_of (member_view m) (map member_view (drop (i + 1) ms)) ∙ ap (λ n. n + behind) (sym width))))

  pub too_many_first : (whole : Bool) → left < more → nat_lt left (sum_by spec.width_of (map member_view (drop i ms))) ≡ whole → true ≡ whole
  too_many_first whole less so_far = sym (sum_first ∙ past_limit left more behind less) ∙ so_far

  pub next_counted : (whole : Bool) → more ≤ left → nat_lt left (sum_by spec.width_of (map member_view (drop i ms))) ≡ whole
      → nat_lt (left - more) (sum_by spec.width_of (map member_view (drop (i + 1) ms))) ≡ whole
  next_counted whole le so_far = still_left left more behind le ∙ (sym sum_first ∙ so_far)

-- ---- substatements, one after another

module _ (type : spec.BuiltIn) (s : Source) (below after before : Forest Source) (first : before ≡ node s below after)
    (b whole : Bool) (is : b ≡ spec.is_in_place type s) where
  pub one_misplaced : b ≡ false → spec.are_in_place type before ≡ whole → false ≡ whole
  one_misplaced fails so_far =
      sym (ap (λ c. c && spec.are_in_place type after) (sym is ∙ fails)) ∙ (sym (ap (spec.are_in_place type) first) ∙ so_far)

  pub one_in_place : b ≡ true → spec.are_in_place type before ≡ whole → spec.are_in_place type after ≡ whole
  one_in_place holds so_far =
      sym (ap (λ c. c && spec.are_in_place type after) (sym is ∙ holds)) ∙ (sym (ap (spec.are_in_place type) first) ∙ so_far)

-- ---- types that are no unions, no leafrefs and no identityrefs

module _ (kept : Keeping) (modules : Forest Source) (member : Bool) (s : Source) (below : Forest Source) (members : List spec.Verdict) where
  pub other_in_place : (type : BuiltIn) → type ≢ built_in.Union → type ≢ built_in.Leafref → type ≢ built_in.Identityref
      → option_map_or (λ (t : YangType). spec.means (spec.own t)) (single_type_of kept (built_in_view type) below) spec.wrong
      ≡ verdict_in_place_of kept modules member s (built_in_view type) below members
  other_in_place built_in.Int8 a b c = refl
  other_in_place built_in.Int16 a b c = refl
  other_in_place built_in.Int32 a b c = refl
  other_in_place built_in.Int64 a b c = refl
  other_in_place built_in.Uint8 a b c = refl
  other_in_place built_in.Uint16 a b c = refl
  other_in_place built_in.Uint32 a b c = refl
  other_in_place built_in.Uint64 a b c = refl
  other_in_place built_in.Decimal64 a b c = refl
  other_in_place built_in.String a b c = refl
  other_in_place built_in.Boolean a b c = refl
  other_in_place built_in.Empty a b c = refl
  other_in_place built_in.Enumeration a b c = refl
  other_in_place built_in.Bits a b c = refl
  other_in_place built_in.Union a b c = absurd (a refl)
  other_in_place built_in.Leafref a b c = absurd (b refl)
  other_in_place built_in.Identityref a b c = absurd (c refl)
  other_in_place built_in.Binary a b c = refl

-- ---- `type` statements of a row, one after another

-- `all` are the verdicts on those of a row, each `one` of its statement
module _ (one : Source → Forest Source → spec.Verdict) (all : Forest Source → List spec.Verdict) (none : all end ≡ [])
    (step : (s : Source) (below after : Forest Source) → all (node s below after) ≡ cond (is_source_of type_word s) (one s below ∷ all after) (all after)) where
  module _ (s : Source) (below after before : Forest Source) (first : before ≡ node s below after) where
    pub no_verdict : (so_far whole : List spec.Verdict) → is_source_of type_word s ≡ false
        → so_far ++ all before ≡ whole → so_far ++ all after ≡ whole
    no_verdict so_far whole other made =
        sym (ap (λ l. so_far ++ l) (ap all first ∙ (step s below after ∙ ap (λ b. cond b (one s below ∷ all after) (all after)) other))) ∙ made

    pub next_verdict : (so_far more : List spec.Verdict) (v : spec.Verdict) (whole : List spec.Verdict) → is_source_of type_word s ≡ true
        → more ≡ so_far ++ v ∷ [] → v ≡ one s below
        → so_far ++ all before ≡ whole → more ++ all after ≡ whole
    next_verdict so_far more v whole stands pushed is made =
        ap (λ vs. vs ++ all after) pushed
        ∙ (append_assoc so_far (v ∷ []) (all after)
        ∙ (ap (λ x. so_far ++ x ∷ all after) is
        ∙ (sym (ap (λ l. so_far ++ l) (ap all first ∙ (step s below after ∙ ap (λ b. cond b (one s below ∷ all after) (all after)) stands))) ∙ made)))

  pub no_more_verdicts : (left : Forest Source) (so_far whole : List spec.Verdict) → left ≡ end
      → so_far ++ all left ≡ whole → so_far ≡ whole
  no_more_verdicts left so_far whole ended made =
      sym (ap (λ l. so_far ++ l) (ap all ended ∙ none) ∙ append-nil so_far) ∙ made

module _ (kept : Keeping) (modules : Forest Source) (named : ℕ → spec.Verdict) where
  abbrev pub one_judged : Source → Forest Source → spec.Verdict
  one_judged s below = verdict_of kept modules named (not s.may_refer) s below (verdicts_of kept modules named below)

  pub none_judged : verdicts_of kept modules named end ≡ []
  unfolding verdicts_of
  none_judged = refl

  pub judged_step : (s : Source) (below after : Forest Source) → verdicts_of kept modules named (node s below after)
      ≡ cond (is_source_of type_word s) (one_judged s below ∷ verdicts_of kept modules named after) (verdicts_of kept modules named after)
  unfolding verdicts_of
  judged_step s below after = refl

-- ---- restrictions of a type, one after another

pub restricted_more : (s : Source) (below after before : Forest Source) (m : spec.Meant) (made : Option spec.Meant) → before ≡ node s below after
    → made ≡ spec.restricted_by s below m → option_and_then (spec.restricted_in after) made ≡ spec.restricted_in before m
unfolding spec.restricted_in
restricted_more s below after before m made first is =
    ap (option_and_then (spec.restricted_in after)) is ∙ sym (ap (λ f. spec.restricted_in f m) first)

pub restricted_all : (left : Forest Source) (m : spec.Meant) → left ≡ end → Some m ≡ spec.restricted_in left m
unfolding spec.restricted_in
restricted_all left m ended = sym (ap (λ f. spec.restricted_in f m) ended)
