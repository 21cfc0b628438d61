-- A set without definitions: no statement names one, none stands in one, and none lies on a circle.
use Rattle.std.proofs.Common.{◌≡◌, Bool, true, false, cond, ℕ, zero, suc, List, [], ◌∷◌, ◌++◌, map, Option, Some, None, refl, sym, ap, ap₂, ◌∙◌}
use Rattle.std.specs.Prelude.{⊤, find, option_map, option_and_then, ◌||◌, ◌==◌}
use Rattle.std.specs.List.{flat_map, list_any}
use Rattle.std.specs.Option.{option_map_or}
use Rattle.std.proofs.lemmas.List.Folds.{list_any-append}
use Rattle.yspec.specs.Forest.{Forest, end, node, row, preorder}
use Rattle.yspec.specs.text.Text.{Text}
use Rattle.yspec.specs.linking.Arguments.{Name, name_of}
use Rattle.yspec.specs.linking.Circles.{innermost, referring, circle_break, definition_circle, definition_circles, definition_edges}
use Rattle.yspec.specs.linking.Imports.{body_at, module_meant}
use Rattle.yspec.specs.linking.Keyword.{Keyword, same_keyword, typedef_word, grouping_word, identity_word}
use Rattle.yspec.specs.linking.Source.{Source, is_source_of, argument_in}
use Rattle.yspec.specs.linking.Scopes.{Placed, placed, statements_of, around, defines, defined_in, definition_named, is_definition, kind_named, meaning, names_built_in}
use Rattle.yspec.specs.schema.Breaks.{Break}
use Rattle.yspec.proofs.LinkingProofs.KeywordLemmas.{of_each, same_is}
use Rattle.ylink_names.specs.declared.definitions.DefinitionKind.{DefinitionKind}
use Rattle.ylink_names.specs.declared.definitions.DefinitionKind.TheVariants.{Typedef, Grouping, Identity}
use Rattle.ylink_names.specs.DefinitionView.{kind_word}
use Rattle.ylink_names.specs.MeaningView.{number_meant}
use Rattle.ylink_names.proofs.DefinitionLemmas.{neither, not_defined, none_defined}

-- ---- of each kind

abbrev is_kind : Keyword → Bool
is_kind k = same_keyword typedef_word k || (same_keyword grouping_word k || same_keyword identity_word k)

named_kind : (k : Keyword) → option_map_or is_kind (kind_named k) true ≡ true
named_kind k = of_each (λ k. option_map_or is_kind (kind_named k) true) refl k

module _ {A : Type 0} (f : Keyword → Option A) (none : (kind : DefinitionKind) → f (kind_word kind) ≡ None) where
  none_of : (k : Keyword) → is_kind k ≡ true → f k ≡ None
  none_of k is = by (same_keyword typedef_word k) refl is
    where
      other : (b : Bool) → same_keyword grouping_word k ≡ b → (b || same_keyword identity_word k) ≡ true → f k ≡ None
      other true e is = sym (ap f (same_is grouping_word k e)) ∙ none Grouping
      other false e is = sym (ap f (same_is identity_word k is)) ∙ none Identity

      by : (b : Bool) → same_keyword typedef_word k ≡ b → (b || (same_keyword grouping_word k || same_keyword identity_word k)) ≡ true → f k ≡ None
      by true e is = sym (ap f (same_is typedef_word k e)) ∙ none Typedef
      by false e is = other (same_keyword grouping_word k) refl is

  none_named : (k : Keyword) → option_and_then f (kind_named k) ≡ None
  none_named k = by (kind_named k) (named_kind k)
    where
      by : (o : Option Keyword) → option_map_or is_kind o true ≡ true → option_and_then f o ≡ None
      by None is = refl
      by (Some kind) is = none_of kind is

-- ---- rows without definitions

none_found : (kind : DefinitionKind) (name : Text) (xs : List Source) → list_any is_definition xs ≡ false
    → find (defines (kind_word kind) name) xs ≡ None
none_found kind name xs without = by (find (defines (kind_word kind) name) xs) (none_defined kind name xs without)
  where
    by : (o : Option Source) → None ≡ option_map (λ (s : Source). s.number) o → o ≡ None
    by None e = refl
    by (Some s) e = absurd cc

module _ (s : Source) (below after : Forest Source) (without : list_any is_definition (preorder (node s below after)) ≡ false) where
  others : list_any is_definition (preorder below ++ preorder after) ≡ false
  others = (neither (is_definition s) (list_any is_definition (preorder below ++ preorder after)) without).1

  not_here : is_definition s ≡ false
  not_here = (neither (is_definition s) (list_any is_definition (preorder below ++ preorder after)) without).0

  both : (list_any is_definition (preorder below) ≡ false) × (list_any is_definition (preorder after) ≡ false)
  both = neither (list_any is_definition (preorder below)) (list_any is_definition (preorder after))
      (sym (list_any-append is_definition (preorder below) (preorder after)) ∙ others)

none_in_row : (f : Forest Source) → list_any is_definition (preorder f) ≡ false → list_any is_definition (row f) ≡ false
none_in_row end without = refl
none_in_row (node s below after) without =
    ap₂ (λ a b. a || b) (not_here s below after without) (none_in_row after (both s below after without).1)

none_in_body : (f : Forest Source) (m : ℕ) → list_any is_definition (preorder f) ≡ false → list_any is_definition (row (body_at f m)) ≡ false
none_in_body end m without = refl
none_in_body (node s below after) zero without = none_in_row below (both s below after without).0
none_in_body (node s below after) (suc m) without = none_in_body after m (both s below after without).1

-- ---- what stands nowhere in a definition, nor where one stands around it

abbrev Without : List (Source × Forest Source) → Type 0
Without ancestors = (list_any is_definition (around ancestors) ≡ false)
    × (list_any (λ (a : Source × Forest Source). is_definition a.0) ancestors ≡ false)

abbrev Each : List Placed → Type 0
Each [] = ⊤
Each (p ∷ ps) = Without p.ancestors × Each ps

each_append : (ps qs : List Placed) → Each ps → Each qs → Each (ps ++ qs)
each_append [] qs none others = others
each_append (p ∷ ps) qs all others = (all.0, each_append ps qs all.1 others)

each : (ancestors : List (Source × Forest Source)) (f : Forest Source) → Without ancestors
    → list_any is_definition (preorder f) ≡ false → Each (placed ancestors f)
unfolding placed
each ancestors end above without = tt
each ancestors (node s below after) above without =
    let parts = both s below after without in
    let around_it : list_any is_definition (row below ++ around ancestors) ≡ false =
    list_any-append is_definition (row below) (around ancestors)
    ∙ ap₂ (λ a b. a || b) (none_in_row below parts.0) above.0 in
    let held : list_any (λ (a : Source × Forest Source). is_definition a.0) ((s, below) ∷ ancestors) ≡ false =
    ap₂ (λ a b. a || b) (not_here s below after without) above.1 in (
      above,
      each_append (placed ((s, below) ∷ ancestors) below) (placed ancestors after)
          (each ((s, below) ∷ ancestors) below (around_it, held) parts.0) (each ancestors after above parts.1),
    )

all_none : (f : Placed → Option ℕ) → ((p : Placed) → Without p.ancestors → f p ≡ None) → (ps : List Placed) → Each ps
    → map (λ _. None) ps ≡ map f ps
all_none f none [] all = refl
all_none f none (p ∷ ps) all = ap₂ (λ o os. o ∷ os) (sym (none p all.0)) (all_none f none ps all.1)

no_breaks : (f : Placed → List Break) → ((p : Placed) → Without p.ancestors → f p ≡ []) → (ps : List Placed) → Each ps
    → flat_map f ps ≡ []
no_breaks f none [] all = refl
no_breaks f none (p ∷ ps) all = ap₂ (λ bs cs. bs ++ cs) (none p all.0) (no_breaks f none ps all.1)

-- ---- a set without definitions

module _ (modules : Forest Source) (without : list_any is_definition (preorder modules) ≡ false) where
  none_defined_in : (kind : DefinitionKind) (name : Text) (p : Placed) (m : ℕ) → Without p.ancestors
      → defined_in modules (kind_word kind) name p m ≡ None
  none_defined_in kind name p m above = by (m == p.source.home)
    where
      by : (b : Bool) → cond b (find (defines (kind_word kind) name) (around p.ancestors))
          (find (defines (kind_word kind) name) (row (body_at modules m))) ≡ None
      by true = none_found kind name (around p.ancestors) above.0
      by false = none_found kind name (row (body_at modules m)) (none_in_body modules m without)

  none_meant : (p : Placed) → Without p.ancestors → meaning modules p ≡ None
  none_meant p above = by (names_built_in p.source)
    where
      called : (kind : DefinitionKind) (name : Name) (o : Option ℕ)
          → option_and_then (defined_in modules (kind_word kind) name.identifier p) o ≡ None
      called kind name None = refl
      called kind name (Some m) = none_defined_in kind name.identifier p m above

      of_name : (kind : DefinitionKind) (o : Option Name) → option_and_then (definition_named modules (kind_word kind) p) o ≡ None
      of_name kind None = refl
      of_name kind (Some name) = called kind name (option_map_or (module_meant modules p.source.home) name.prefix (Some p.source.home))

      by : (b : Bool) → cond b None
          (option_and_then (λ kind. option_and_then (definition_named modules kind p) (name_of (argument_in p.source))) (kind_named p.source.keyword)) ≡ None
      by true = refl
      by false = none_named (λ kind. option_and_then (definition_named modules kind p) (name_of (argument_in p.source)))
          (λ kind. of_name kind (name_of (argument_in p.source))) p.source.keyword

  none_held : (p : Placed) → Without p.ancestors → referring p ≡ None
  none_held p above = none_named (λ kind. innermost kind p)
      (λ kind. ap (option_map (λ (a : Source × Forest Source). a.0.number)) (by kind p.ancestors above.1)) p.source.keyword
    where
      by : (kind : DefinitionKind) (ancestors : List (Source × Forest Source))
          → list_any (λ (a : Source × Forest Source). is_definition a.0) ancestors ≡ false
          → find (λ (a : Source × Forest Source). is_source_of (kind_word kind) a.0) ancestors ≡ None
      by kind [] none = refl
      by kind (a ∷ others) none =
          let parts = neither (is_definition a.0) (list_any (λ (x : Source × Forest Source). is_definition x.0) others) none in
          ap (λ b. cond b (Some a) (find (λ (x : Source × Forest Source). is_source_of (kind_word kind) x.0) others)) (not_defined kind a.0 parts.0)
          ∙ by kind others parts.1

  all_stand : Each (statements_of modules)
  all_stand = each [] modules (refl, refl) without

  pub nothing_meant : map (λ _. None) (statements_of modules) ≡ map (number_meant modules) (statements_of modules)
  nothing_meant = all_none (number_meant modules) (λ p above. ap (option_map (λ (d : Source). d.number)) (none_meant p above))
      (statements_of modules) all_stand

  pub nothing_held : map (λ _. None) (statements_of modules) ≡ map referring (statements_of modules)
  nothing_held = all_none referring none_held (statements_of modules) all_stand

  pub nothing_circular : definition_circles modules ≡ []
  nothing_circular = no_breaks (definition_circle modules (definition_edges modules))
      (λ p above. ap (λ o. circle_break (definition_edges modules) (option_and_then (λ (d : Source). option_map (λ a. record { source = a; target = d.number }) (referring p)) o) p.source) (none_meant p above))
      (statements_of modules) all_stand
