-- The expanded parts of legal modules: each is named by an identifier, a leaf has nothing below it, and a choice has cases alone.
use Rattle.std.proofs.Common.{◌≡◌, ℕ, zero, suc, ◌+◌, ◌<◌, Bool, true, false, not, cond, ◌||◌, List, [], ◌∷◌, ◌++◌, length, Option, Some, None, refl, sym, ap, ◌∙◌, subst, arith}
use Rattle.std.specs.Prelude.{find, ◌==◌}
use Rattle.std.specs.List.{filter_map, list_all, cons_option}
use Rattle.std.specs.Option.{option_map_or}
use Rattle.yspec.specs.Forest.{Forest, end, node, join, size}
use Rattle.yspec.specs.text.Text.{is_identifier}
use Rattle.yspec.specs.linking.Keyword.{Keyword, same_keyword, keywords, choice_word, case_word, module_word, uses_word, grouping_word}
use Rattle.yspec.specs.linking.Arguments.{fits}
use Rattle.yspec.specs.linking.Table.{Allowed, rule_of}
use Rattle.yspec.specs.linking.StatementBreaks.{is_allowed}
use Rattle.yspec.specs.linking.Source.{Source, argument_in, is_source_of}
use Rattle.yspec.specs.linking.Scopes.{Placed, placed, statements_of}
use Rattle.yspec.specs.linking.DerivedTypes.{number_named}
use Rattle.yspec.specs.linking.Parts.{Part, defines_node, part_of, case_for, as_cases, within}
use Rattle.yspec.specs.linking.Planned.{Plan}
use Rattle.yspec.specs.linking.Compiling.{schema_modules}
use Rattle.yspec.specs.linking.Expansion.{Grouping, laid, is_uses, grouping_at, groupings_of, row_in, row_used, refined, owned_by, replaced, stands_for, expanded_from, expanded_parts}
use Rattle.yspec.proofs.LinkingProofs.KeywordLemmas.{of_each, same_is, by_definition, named_by_identifier}
use Rattle.yspec.proofs.LinkingProofs.LegalLemmas.{IsLegal, AreModules, AreAt, identifier_fits}
use Rattle.yspec.proofs.LinkingProofs.RightPartLemmas.{is_leaf_word, AllCases, AreRight, all_cases, right_joined}
use Rattle.yspec.proofs.LinkingProofs.ExpansionLemmas.{Nodes, SameNodes, same_refined}

-- ---- what may stand below leafs and choices

either : (a b : Bool) → a ≡ true → (not a || b) ≡ true → b ≡ true
either true b is e = e
either false b is e = absurd cc

turned : (b : Bool) → not b ≡ true → b ≡ false
turned true e = absurd cc
turned false e = refl

-- a keyword that nodes are laid for
abbrev is_laid_word : Keyword → Bool
is_laid_word k = defines_node k || same_keyword uses_word k

-- no keyword with a property may stand in a row
abbrev has_none : (Keyword → Bool) → List Allowed → Bool
has_none test allowed = list_all (λ k. not (test k) || not (is_allowed k allowed)) keywords

abbrev NoneAllowed : (Keyword → Bool) → List Allowed → Type 0
NoneAllowed test allowed = (k : Keyword) → test k ≡ true → is_allowed k allowed ≡ false

none_allowed : (test : Keyword → Bool) (allowed : List Allowed) → has_none test allowed ≡ true → NoneAllowed test allowed
none_allowed test allowed e k is =
    turned (is_allowed k allowed) (either (test k) (not (is_allowed k allowed)) is (of_each (λ k. not (test k) || not (is_allowed k allowed)) e k))

below_leafs : (k : Keyword) → is_leaf_word k ≡ true → NoneAllowed is_laid_word (rule_of k).substatements
below_leafs k leaf = none_allowed is_laid_word (rule_of k).substatements
    (either (is_leaf_word k) (has_none is_laid_word (rule_of k).substatements) leaf (of_each (λ k. not (is_leaf_word k) || has_none is_laid_word (rule_of k).substatements) refl k))

below_choices : (k : Keyword) → same_keyword choice_word k ≡ true → is_allowed uses_word (rule_of k).substatements ≡ false
below_choices k choice = turned (is_allowed uses_word (rule_of k).substatements)
    (either (same_keyword choice_word k) (not (is_allowed uses_word (rule_of k).substatements)) choice
    (of_each (λ k. not (same_keyword choice_word k) || not (is_allowed uses_word (rule_of k).substatements)) refl k))

-- ---- laid rows

pub record IsLaidAt (p : Part) (below : Nodes) : Type 0 where
  defines : defines_node p.source.keyword ≡ true
  name : is_identifier (argument_in p.source) ≡ true
  bare : is_leaf_word p.source.keyword ≡ true → below ≡ end
  cases : same_keyword choice_word p.source.keyword ≡ true → AllCases below

-- all but the `uses` among them
abbrev pub AreLaid : Nodes → Type 0
AreLaid end = Unit {0}
AreLaid (node p below after) = (is_uses p ≡ false → IsLaidAt p below) × AreLaid below × AreLaid after

abbrev NoneUsed : Nodes → Type 0
NoneUsed end = Unit {0}
NoneUsed (node p below after) = (is_uses p ≡ false) × NoneUsed after

nothing_laid : (home : ℕ) (allowed : List Allowed) (f : Forest Source) → NoneAllowed is_laid_word allowed → IsLegal home allowed f → laid f ≡ end
unfolding laid
nothing_laid home allowed end none legal = refl
nothing_laid home allowed (node s below after) none legal =
    by (defines_node s.keyword) (same_keyword uses_word s.keyword) (none s.keyword) (nothing_laid home allowed after none legal.2)
  where
    by : (b c : Bool) → ((b || c) ≡ true → is_allowed s.keyword allowed ≡ false) → laid after ≡ end
        → cond b (node (part_of s below) (within s (laid below)) (laid after)) (cond c (node (part_of s below) end (laid after)) (laid after)) ≡ end
    by true c none rest = absurd (let f : true ≡ false = sym legal.0.known ∙ none refl in cc)
    by false true none rest = absurd (let f : true ≡ false = sym legal.0.known ∙ none refl in cc)
    by false false none rest = rest

node_is_no_use : (k : Keyword) → defines_node k ≡ true → same_keyword uses_word k ≡ false
node_is_no_use k defines = by_definition k (λ k. same_keyword uses_word k ≡ false) refl refl refl refl refl refl defines

none_used : (home : ℕ) (allowed : List Allowed) (f : Forest Source) → is_allowed uses_word allowed ≡ false → IsLegal home allowed f → NoneUsed (laid f)
unfolding laid
none_used home allowed end none legal = tt
none_used home allowed (node s below after) none legal =
    by (defines_node s.keyword) refl (same_keyword uses_word s.keyword) refl (none_used home allowed after none legal.2)
  where
    by : (b : Bool) → defines_node s.keyword ≡ b → (c : Bool) → same_keyword uses_word s.keyword ≡ c → NoneUsed (laid after)
        → NoneUsed (cond b (node (part_of s below) (within s (laid below)) (laid after)) (cond c (node (part_of s below) end (laid after)) (laid after)))
    by true is c uses rest = (node_is_no_use s.keyword is, rest)
    by false is true uses rest = absurd (let e = ap (λ (k : Keyword). is_allowed k allowed) (same_is uses_word s.keyword uses) in
        let f : true ≡ false = sym legal.0.known ∙ (sym e ∙ none) in cc)
    by false is false uses rest = rest

laid_cases : (f : Nodes) → NoneUsed f → AreLaid f → AreLaid (as_cases f)
laid_cases end none right = tt
laid_cases (node p below after) none right = by (same_keyword case_word p.source.keyword) (laid_cases after none.1 right.2)
  where
    by : (b : Bool) → AreLaid (as_cases after) → AreLaid (cond b (node p below (as_cases after)) (node (case_for p) (node p below end) (as_cases after)))
    by true rest = (right.0, right.1, rest)
    by false rest = (
      λ is. record { defines = refl; name = (right.0 none.0).name; bare = λ no. absurd cc; cases = λ no. absurd cc },
      (right.0, right.1, tt),
      rest,
    )

pub laid_right : (home : ℕ) (allowed : List Allowed) (f : Forest Source) → IsLegal home allowed f → AreLaid (laid f)
unfolding laid
laid_right home allowed end legal = tt
laid_right home allowed (node s below after) legal = by (defines_node s.keyword) refl (same_keyword uses_word s.keyword) refl
    (laid_right home (rule_of s.keyword).substatements below legal.1)
    (laid_right home allowed after legal.2)
  where
    bare : (c : Bool) → is_leaf_word s.keyword ≡ true → cond c (as_cases (laid below)) (laid below) ≡ end
    bare true leaf = ap as_cases (nothing_laid home (rule_of s.keyword).substatements below (below_leafs s.keyword leaf) legal.1)
    bare false leaf = nothing_laid home (rule_of s.keyword).substatements below (below_leafs s.keyword leaf) legal.1

    inside : (c : Bool) → same_keyword choice_word s.keyword ≡ c → AreLaid (laid below) → AreLaid (cond c (as_cases (laid below)) (laid below))
    inside true is right = laid_cases (laid below) (none_used home (rule_of s.keyword).substatements below (below_choices s.keyword is) legal.1) right
    inside false is right = right

    cases : (c : Bool) → c ≡ true → AllCases (cond c (as_cases (laid below)) (laid below))
    cases true is = all_cases (laid below)
    cases false is = absurd cc

    by : (b : Bool) → defines_node s.keyword ≡ b → (c : Bool) → same_keyword uses_word s.keyword ≡ c → AreLaid (laid below) → AreLaid (laid after)
        → AreLaid (cond b (node (part_of s below) (within s (laid below)) (laid after)) (cond c (node (part_of s below) end (laid after)) (laid after)))
    by true defines c uses inner rest = (
      λ is. record {
        defines = defines;
        name = identifier_fits (argument_in s) (subst (λ form. fits form (argument_in s) ≡ true) (named_by_identifier s.keyword defines) legal.0.fitting);
        bare = bare (same_keyword choice_word s.keyword);
        cases = cases (same_keyword choice_word s.keyword);
      },
      inside (same_keyword choice_word s.keyword) refl inner,
      rest,
    )
    by false defines true uses inner rest = ((λ is. absurd (let f : true ≡ false = sym uses ∙ is in cc)), tt, rest)
    by false defines false uses inner rest = rest

-- ---- what they are replaced by

cases_replaced : (meant : Part → Nodes) (owner : ℕ) (f : Nodes) → AllCases f → AllCases (replaced meant owner f)
unfolding replaced
cases_replaced meant owner end all = tt
cases_replaced meant owner (node p below after) all = by (same_keyword uses_word p.source.keyword) refl (cases_replaced meant owner after all.1)
  where
    by : (b : Bool) → same_keyword uses_word p.source.keyword ≡ b → AllCases (replaced meant owner after)
        → AllCases (cond b (join (meant p) (replaced meant owner after)) (node (owned_by owner p) (replaced meant owner below) (replaced meant owner after)))
    by true is rest = absurd (let e = ap (same_keyword uses_word) (same_is case_word p.source.keyword all.0) in let f : false ≡ true = e ∙ is in cc)
    by false is rest = (all.0, rest)

pub right_replaced : (count : ℕ) (meant : Part → Nodes) → ((u : Part) → AreRight count (meant u)) → (owner : ℕ) → owner < count → (f : Nodes) → AreLaid f
    → AreRight count (replaced meant owner f)
unfolding replaced
right_replaced count meant right owner few end are_laid = tt
right_replaced count meant right owner few (node p below after) are_laid = by (is_uses p) refl (right_replaced count meant right owner few below are_laid.1)
    (right_replaced count meant right owner few after are_laid.2)
  where
    by : (b : Bool) → is_uses p ≡ b → AreRight count (replaced meant owner below) → AreRight count (replaced meant owner after)
        → AreRight count (cond b (join (meant p) (replaced meant owner after)) (node (owned_by owner p) (replaced meant owner below) (replaced meant owner after)))
    by true is inner rest = right_joined count (meant p) (replaced meant owner after) (right p) rest
    by false is inner rest = let here = are_laid.0 is in (
      record {
        defines = here.defines;
        name = here.name;
        owner = few;
        bare = λ leaf. ap (replaced meant owner) (here.bare leaf);
        cases = λ choice. cases_replaced meant owner below (here.cases choice);
      },
      inner,
      rest,
    )

-- ---- refined

same_end : (f : Nodes) → SameNodes end f → f ≡ end
same_end end same = refl
same_end (node q c d) same = absurd same

same_cases : (f g : Nodes) → SameNodes f g → AllCases f → AllCases g
same_cases end end same all = tt
same_cases end (node q c d) same all = absurd same
same_cases (node p b a) end same all = absurd same
same_cases (node p b a) (node q c d) same all = (ap (is_source_of case_word) (sym same.0) ∙ all.0, same_cases a d same.3 all.1)

pub same_right : (count : ℕ) (f g : Nodes) → SameNodes f g → AreRight count f → AreRight count g
same_right count end end same right = tt
same_right count end (node q c d) same right = absurd same
same_right count (node p b a) end same right = absurd same
same_right count (node p b a) (node q c d) same right = (
  record {
    defines = ap (λ (s : Source). defines_node s.keyword) (sym same.0) ∙ right.0.defines;
    name = ap (λ (s : Source). is_identifier (argument_in s)) (sym same.0) ∙ right.0.name;
    owner = subst (λ (k : ℕ). k < count) same.1 right.0.owner;
    bare = λ leaf. same_end c (subst (λ (f : Nodes). SameNodes f c) (right.0.bare (ap (λ (s : Source). is_leaf_word s.keyword) same.0 ∙ leaf)) same.2);
    cases = λ choice. same_cases b c same.2 (right.0.cases (ap (is_source_of choice_word) same.0 ∙ choice));
  },
  same_right count b c same.2 right.1,
  same_right count a d same.3 right.2,
)

-- ---- groupings

-- each statement has a legal row below it
abbrev pub LegalRow : Placed → Type 0
LegalRow p = (home : ℕ) × IsLegal home (rule_of p.source.keyword).substatements p.below

pub AllLegal : List Placed → Type 0
AllLegal [] = Unit {0}
AllLegal (p ∷ ps) = LegalRow p × AllLegal ps

legal_joined : (ps qs : List Placed) → AllLegal ps → AllLegal qs → AllLegal (ps ++ qs)
unfolding AllLegal
legal_joined [] qs first second = second
legal_joined (p ∷ ps) qs first second = (first.0, legal_joined ps qs first.1 second)

legal_placed : (home : ℕ) (allowed : List Allowed) (ancestors : List (Source × Forest Source)) (f : Forest Source) → IsLegal home allowed f → AllLegal (placed ancestors f)
unfolding placed AllLegal
legal_placed home allowed ancestors end legal = tt
legal_placed home allowed ancestors (node s below after) legal = (
  (home, legal.1),
  legal_joined (placed ((s, below) ∷ ancestors) below) (placed ancestors after)
      (legal_placed home (rule_of s.keyword).substatements ((s, below) ∷ ancestors) below legal.1)
      (legal_placed home allowed ancestors after legal.2),
)

pub legal_statements : (home : ℕ) (f : Forest Source) → AreModules home f → AreAt home f → AllLegal (placed [] f)
unfolding placed AllLegal
legal_statements home end legal at = tt
legal_statements home (node s below after) legal at = (
  (home, subst (λ k. IsLegal home (rule_of k).substatements below) (sym at.0) legal.1),
  legal_joined (placed ((s, below) ∷ []) below) (placed [] after)
      (legal_placed home (rule_of module_word).substatements ((s, below) ∷ []) below legal.1)
      (legal_statements (home + 1) after legal.2 at.2),
)

pub row_laid : (ps : List Placed) → AllLegal ps → (number : ℕ) → AreLaid (row_in (filter_map grouping_at ps) number)
unfolding AllLegal
row_laid [] legal number = tt
row_laid (p ∷ ps) legal number = by (is_source_of grouping_word p.source) (row_laid ps legal.1 number)
  where
    rest : List Grouping
    rest = filter_map grouping_at ps

    this : Grouping
    this = record { number = p.source.number; row = laid p.below }

    here : (b : Bool) → AreLaid (row_in rest number)
        → AreLaid (option_map_or (λ (g : Grouping). g.row) (cond b (Some this) (find (λ (g : Grouping). g.number == number) rest)) end)
    here true others = laid_right legal.0.0 (rule_of p.source.keyword).substatements p.below legal.0.1
    here false others = others

    by : (b : Bool) → AreLaid (row_in rest number) → AreLaid (row_in (cons_option (cond b (Some this) None) rest) number)
    by true others = here (p.source.number == number) others
    by false others = others

used_laid : (modules : Forest Source) (groupings : List Grouping) → ((number : ℕ) → AreLaid (row_in groupings number)) → (u : Part) → AreLaid (row_used modules groupings u)
used_laid modules groupings right u = by (number_named modules u.source.number)
  where
    by : (o : Option ℕ) → AreLaid (option_map_or (row_in groupings) o end)
    by None = tt
    by (Some number) = right number

pub right_stands : (count : ℕ) (modules : Forest Source) (groupings : List Grouping) → ((number : ℕ) → AreLaid (row_in groupings number)) → (owner : ℕ) → owner < count
    → (depth : ℕ) (u : Part) → AreRight count (stands_for modules groupings owner depth u)
unfolding stands_for
right_stands count modules groupings right owner few zero u = tt
right_stands count modules groupings right owner few (suc depth) u =
    let inner = replaced (stands_for modules groupings owner depth) owner (row_used modules groupings u) in
    same_right count inner (refined modules owner u.own inner) (same_refined modules owner u.own inner)
    (right_replaced count (stands_for modules groupings owner depth) (right_stands count modules groupings right owner few depth) owner few
    (row_used modules groupings u) (used_laid modules groupings right u))

right_from : (plan : Plan) (count home : ℕ) (modules : Forest Source) (groupings : List Grouping) → ((number : ℕ) → AreLaid (row_in groupings number)) → (f : Forest Source)
    → home + length (schema_modules plan f) ≡ count → AreModules home f → AreAt home f → AreRight count (expanded_from modules groupings f)
right_from plan count home modules groupings right end is legal at = tt
right_from plan count home modules groupings right (node s below after) is legal at =
    let few : s.home < count = subst (λ (k : ℕ). k < count) (sym at.1) (omega (arith, is)) in
    right_joined count _ (expanded_from modules groupings after)
    (right_replaced count (stands_for modules groupings s.home (suc (size modules))) (right_stands count modules groupings right s.home few (suc (size modules))) s.home few
    (laid below) (laid_right home (rule_of module_word).substatements below legal.1))
    (right_from plan count (home + 1) modules groupings right after (omega (arith, is)) legal.2 at.2)

pub right_expanded : (plan : Plan) (f : Forest Source) → AreModules 0 f → AreAt 0 f → AreRight (length (schema_modules plan f)) (expanded_parts f)
right_expanded plan f legal at = right_from plan (length (schema_modules plan f)) 0 f (groupings_of f) (row_laid (statements_of f) (legal_statements 0 f legal at)) f (omega arith) legal at
