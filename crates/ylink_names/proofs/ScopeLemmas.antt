-- Statements where they stand, one after another, and the scopes that they are in.
use Rattle.std.proofs.Common.{◌≡◌, Bool, true, false, not, List, [], ◌∷◌, ◌++◌, Option, None, refl, sym, ap, ap₂, ◌∙◌}
use Rattle.std.specs.Prelude.{reverse, ◌&&◌, ◌||◌, ◌==◌}
use Rattle.std.specs.List.{flat_map, list_any}
use Rattle.std.specs.Option.{option_map_or}
use Rattle.std.proofs.lemmas.Grind.{flat_map-append}
use Rattle.std.proofs.lemmas.List.{append-nil, reverse-append}
use Rattle.std.proofs.lemmas.List.Folds.{list_any-append}
use Rattle.yspec.specs.Forest.{Forest, end, node, row, first_of, preorder}
use Rattle.yspec.specs.text.Text.{Text}
use Rattle.yspec.specs.linking.Keyword.{same_keyword, typedef_word, grouping_word, identity_word}
use Rattle.yspec.specs.linking.Source.{Source, is_source_of, argument_in}
use Rattle.yspec.specs.linking.Scopes.{Placed, placed, around, holder, is_taken, is_built_in, is_definition, taken_break}
use Rattle.yspec.specs.schema.Breaks.{Break, broken, least_from, when}
use Rattle.yspec.proofs.BasicLemmas.{first_of_none}
use Rattle.yspec.proofs.SchemaProofs.LeastLemmas.{least_of_both}
use Rattle.ylink_names.specs.declared.definitions.Definitions.{Definitions}
use Rattle.ylink_names.specs.declared.definitions.DefinitionKind.{DefinitionKind}
use Rattle.ylink_names.specs.declared.definitions.Scope.{Scope}
use Rattle.ylink_names.specs.DefinitionView.{kind_word, first_number, first_within, AreIn, innermost_in, outermost_in, IsAround}
use Rattle.ylink_names.specs.ScopeView.{placed_at}
use Rattle.ylink_names.proofs.DefinitionLemmas.{first_append, neither}

-- ---- the scope of what stands below a statement

module _ (s : Source) (f : Forest Source) (scope : Scope) (ancestors : List (Source × Forest Source)) where
  pub around_row : (d : Option Definitions) → AreIn d f → IsAround scope ancestors → (kind : DefinitionKind) (name : Text)
      → (first_of (first_within kind d name) (innermost_in kind scope name) ≡ first_number (kind_word kind) name (around ((s, f) ∷ ancestors)))
      × (first_of (outermost_in kind scope name) (first_within kind d name) ≡ first_number (kind_word kind) name (around (reverse ((s, f) ∷ ancestors))))
  around_row d own above kind name =
      let k = kind_word kind in
      let first = own kind name in
      let inner = (above kind name).0 in
      let outer = (above kind name).1 in
      let last : around (reverse ((s, f) ∷ ancestors)) ≡ around (reverse ancestors) ++ row f =
      ap around (reverse-append ((s, f) ∷ []) ancestors)
      ∙ (flat_map-append (λ (a : Source × Forest Source). row a.1) (reverse ancestors) ((s, f) ∷ []) ∙ ap (λ r. around (reverse ancestors) ++ r) (append-nil (row f))) in (
        ap₂ first_of first inner ∙ sym (first_append k name (row f) (around ancestors)),
        ap₂ first_of outer first ∙ (sym (first_append k name (around (reverse ancestors)) (row f)) ∙ ap (first_number k name) (sym last)),
      )

  -- a row without definitions adds nothing
  pub around_none : AreIn None f → IsAround scope ancestors → IsAround scope ((s, f) ∷ ancestors)
  around_none own above kind name =
      let both = around_row None own above kind name in
      (both.0, sym (first_of_none (outermost_in kind scope name)) ∙ both.1)

-- ---- what statements break, one after another

module _ (breaks : Placed → List Break) (ancestors : List (Source × Forest Source)) where
  pub next_placed : (s : Source) (below after before : Forest Source) → before ≡ node s below after
      → (so_far mid result whole : Option Break)
      → mid ≡ least_from so_far (breaks (placed_at s below ancestors))
      → result ≡ least_from mid (flat_map breaks (placed ((s, below) ∷ ancestors) below))
      → least_from so_far (flat_map breaks (placed ancestors before)) ≡ whole
      → least_from result (flat_map breaks (placed ancestors after)) ≡ whole
  unfolding placed
  next_placed s below after before first so_far mid result whole own inner made =
      let here = breaks (placed_at s below ancestors) in
      let under = placed ((s, below) ∷ ancestors) below in
      let behind = placed ancestors after in
      let rest = flat_map breaks behind in
      ap (λ t. least_from t rest) inner
      ∙ (ap (λ t. least_from (least_from t (flat_map breaks under)) rest) own
      ∙ (sym (ap (λ f. least_from so_far (flat_map breaks (placed ancestors f))) first
      ∙ (least_of_both so_far here (flat_map breaks (under ++ behind))
      ∙ (ap (least_from (least_from so_far here)) (flat_map-append breaks under behind)
      ∙ least_of_both (least_from so_far here) (flat_map breaks under) rest))) ∙ made))

  pub all_placed : (left : Forest Source) (so_far whole : Option Break) → left ≡ end
      → least_from so_far (flat_map breaks (placed ancestors left)) ≡ whole → so_far ≡ whole
  unfolding placed
  all_placed left so_far whole ended made = sym (ap (λ f. least_from so_far (flat_map breaks (placed ancestors f))) ended) ∙ made

-- ---- names that are taken

-- another definition has the name
abbrev pub is_held : Placed → Bool
is_held p = option_map_or (λ d. not (d.number == p.source.number)) (holder p) false

or_false : (b : Bool) → (b || false) ≡ b
or_false true = refl
or_false false = refl

module _ (p : Placed) where
  of_typedef : p.source.keyword ≡ typedef_word → is_taken p ≡ (is_held p || is_built_in (argument_in p.source))
  of_typedef is = ap (λ k. (same_keyword typedef_word k || (same_keyword grouping_word k || same_keyword identity_word k)) && (is_held p || (same_keyword typedef_word k && is_built_in (argument_in p.source)))) is

  pub taken_held : (held : Bool) → p.source.keyword ≡ typedef_word → held ≡ is_held p → held ≡ true → held ≡ is_taken p
  taken_held held is held_is stands =
      stands ∙ sym (of_typedef is ∙ ap (λ b. b || is_built_in (argument_in p.source)) (sym held_is ∙ stands))

  pub taken_built_in : (held built_in : Bool) → p.source.keyword ≡ typedef_word → held ≡ is_held p → held ≡ false
      → built_in ≡ is_built_in (argument_in p.source) → built_in ≡ is_taken p
  taken_built_in held built_in is held_is other named =
      named ∙ sym (of_typedef is ∙ ap (λ b. b || is_built_in (argument_in p.source)) (sym held_is ∙ other))

  pub taken_grouping : (held : Bool) → p.source.keyword ≡ grouping_word → held ≡ is_held p → held ≡ is_taken p
  taken_grouping held is held_is =
      held_is ∙ sym (ap (λ k. (same_keyword typedef_word k || (same_keyword grouping_word k || same_keyword identity_word k)) && (is_held p || (same_keyword typedef_word k && is_built_in (argument_in p.source)))) is ∙ or_false (is_held p))

  pub taken_identity : (held : Bool) → p.source.keyword ≡ identity_word → held ≡ is_held p → held ≡ is_taken p
  taken_identity held is held_is =
      held_is ∙ sym (ap (λ k. (same_keyword typedef_word k || (same_keyword grouping_word k || same_keyword identity_word k)) && (is_held p || (same_keyword typedef_word k && is_built_in (argument_in p.source)))) is ∙ or_false (is_held p))

-- ---- a set without definitions

pub none_taken : (ancestors : List (Source × Forest Source)) (f : Forest Source) → list_any is_definition (preorder f) ≡ false
    → flat_map taken_break (placed ancestors f) ≡ []
unfolding placed
none_taken ancestors end none = refl
none_taken ancestors (node s below after) none =
    let p = placed_at s below ancestors in
    let under = placed ((s, below) ∷ ancestors) below in
    let behind = placed ancestors after in
    let own = neither (is_definition s) (list_any is_definition (preorder below ++ preorder after)) none in
    let others = neither (list_any is_definition (preorder below)) (list_any is_definition (preorder after))
    (sym (list_any-append is_definition (preorder below) (preorder after)) ∙ own.1) in
    ap (λ b. when (b && (is_held p || (is_source_of typedef_word s && is_built_in (argument_in s)))) (broken 7 s.home s.statement.line) ++ flat_map taken_break (under ++ behind)) own.0
    ∙ (flat_map-append taken_break under behind
    ∙ ap₂ (λ a b. a ++ b) (none_taken ((s, below) ∷ ancestors) below others.0) (none_taken ancestors after others.1))
