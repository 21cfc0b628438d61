-- The first definitions of rows by their names, and of the rows around a statement.
use Rattle.std.proofs.Common.{◌≡◌, ℕ, ◌+◌, ◌<◌, ◌≤◌, Bool, true, false, cond, List, [], ◌∷◌, ◌++◌, length, get_or, drop, Option, Some, None, refl, sym, ap, ◌∙◌, subst}
use Rattle.std.specs.Prelude.{find, option_map, ◌&&◌, ◌||◌}
use Rattle.std.specs.List.{list_any}
use Rattle.std.proofs.lemmas.List.{at_drop_more, at_drop_all}
use Rattle.yspec.specs.Forest.{Forest, end, node, row, first_of}
use Rattle.yspec.specs.text.Text.{Text, is_text}
use Rattle.yspec.specs.linking.Keyword.{Keyword}
use Rattle.yspec.specs.linking.Source.{Source, is_source_of, argument_in}
use Rattle.yspec.specs.linking.Scopes.{defines, is_definition}
use Rattle.yspec.proofs.BasicLemmas.{first_of_none}
use Rattle.ybase_preorder.specs.Layout.{labels_by}
use Rattle.ybase_preorder.specs.declared.slot.Slot.{Slot}
use Rattle.ylink_grammar.specs.declared.source.Source as held
use Rattle.ylink_grammar.specs.SourceView.{source_view}
use Rattle.ylink_names.specs.DefinitionView.{first_number, kind_word}
use Rattle.ylink_names.specs.declared.definitions.DefinitionKind.{DefinitionKind}
use Rattle.ylink_names.specs.declared.definitions.DefinitionKind.TheVariants.{Typedef, Grouping, Identity}
use Rattle.ylink_names.proofs.FirstNamedLemmas.{first_of_both}

-- ---- a row, one statement after another

module _ (k : Keyword) (name : Text) where
  pub first_step : (s : Source) (others : List Source)
      → first_number k name (s ∷ others) ≡ first_of (cond (defines k name s) (Some s.number) None) (first_number k name others)
  first_step s others = by (defines k name s)
    where
      by : (b : Bool) → option_map (λ s. s.number) (cond b (Some s) (find (defines k name) others))
          ≡ first_of (cond b (Some s.number) None) (first_number k name others)
      by true = refl
      by false = refl

  module _ (s : Source) (below after before : Forest Source) (first : before ≡ node s below after) where
    pub next_named : (so_far more whole : Option ℕ) → is_source_of k s ≡ true
        → more ≡ first_of so_far (cond (is_text (argument_in s) name) (Some s.number) None)
        → first_of so_far (first_number k name (row before)) ≡ whole
        → first_of more (first_number k name (row after)) ≡ whole
    next_named so_far more whole is added made =
        ap (λ o. first_of o (first_number k name (row after))) added
        ∙ (first_of_both so_far (cond (is_text (argument_in s) name) (Some s.number) None) (first_number k name (row after))
        ∙ (ap (λ b. first_of so_far (first_of (cond (b && is_text (argument_in s) name) (Some s.number) None) (first_number k name (row after)))) (sym is)
        ∙ (ap (first_of so_far) (sym (first_step s (row after)))
        ∙ (ap (λ f. first_of so_far (first_number k name (row f))) (sym first) ∙ made))))

    pub not_named : (so_far whole : Option ℕ) → is_source_of k s ≡ false
        → first_of so_far (first_number k name (row before)) ≡ whole
        → first_of so_far (first_number k name (row after)) ≡ whole
    not_named so_far whole other made =
        ap (λ b. first_of so_far (first_of (cond (b && is_text (argument_in s) name) (Some s.number) None) (first_number k name (row after)))) (sym other)
        ∙ (ap (first_of so_far) (sym (first_step s (row after)))
        ∙ (ap (λ f. first_of so_far (first_number k name (row f))) (sym first) ∙ made))

  pub all_named : (left : Forest Source) (so_far whole : Option ℕ) → left ≡ end
      → first_of so_far (first_number k name (row left)) ≡ whole → so_far ≡ whole
  all_named left so_far whole ended made =
      sym (first_of_none so_far) ∙ (ap (λ f. first_of so_far (first_number k name (row f))) (sym ended) ∙ made)

  -- ---- rows one around another

  pub first_append : (xs ys : List Source)
      → first_number k name (xs ++ ys) ≡ first_of (first_number k name xs) (first_number k name ys)
  first_append [] ys = refl
  first_append (s ∷ xs) ys =
      let here = cond (defines k name s) (Some s.number) None in
      first_step s (xs ++ ys)
      ∙ (ap (first_of here) (first_append xs ys)
      ∙ (sym (first_of_both here (first_number k name xs) (first_number k name ys))
      ∙ ap (λ o. first_of o (first_number k name ys)) (sym (first_step s xs))))

-- ---- a row without definitions

-- neither of two holds
pub neither : (a b : Bool) → (a || b) ≡ false → (a ≡ false) × (b ≡ false)
neither true b e = absurd cc
neither false b e = (refl, e)

pub not_defined : (kind : DefinitionKind) (s : Source) → is_definition s ≡ false → is_source_of (kind_word kind) s ≡ false
not_defined Typedef s none =
    (neither (is_source_of (kind_word Typedef) s) (is_source_of (kind_word Grouping) s || is_source_of (kind_word Identity) s) none).0
not_defined Grouping s none = (neither (is_source_of (kind_word Grouping) s) (is_source_of (kind_word Identity) s)
    (neither (is_source_of (kind_word Typedef) s) (is_source_of (kind_word Grouping) s || is_source_of (kind_word Identity) s) none).1).0
not_defined Identity s none = (neither (is_source_of (kind_word Grouping) s) (is_source_of (kind_word Identity) s)
    (neither (is_source_of (kind_word Typedef) s) (is_source_of (kind_word Grouping) s || is_source_of (kind_word Identity) s) none).1).1

pub none_defined : (kind : DefinitionKind) (name : Text) (xs : List Source) → list_any is_definition xs ≡ false
    → None ≡ first_number (kind_word kind) name xs
none_defined kind name [] none = refl
none_defined kind name (s ∷ xs) none =
    let parts = neither (is_definition s) (list_any is_definition xs) none in
    none_defined kind name xs parts.1
    ∙ ap (λ b. option_map (λ (x : Source). x.number) (cond (b && is_text (argument_in s) name) (Some s) (find (defines (kind_word kind) name) xs)))
    (sym (not_defined kind s parts.0))

module _ (s : Source) (below after before : Forest Source) (first : before ≡ node s below after) where
  pub defined_step : (b : Bool) → b ≡ is_definition s → list_any is_definition (row before) ≡ (b || list_any is_definition (row after))
  defined_step b is = ap (λ f. list_any is_definition (row f)) first ∙ ap (λ c. c || list_any is_definition (row after)) (sym is)

-- ---- a set, one row of its table after another

-- whether there are definitions from a row of a number on
abbrev pub defined_from : List (Slot held.Source) → ℕ → Bool
defined_from rows i = list_any is_definition (labels_by source_view i (drop i rows))

module _ (items rows : List (Slot held.Source)) (same : items ≡ rows) (i : ℕ) where
  pub defined_next : (r : Slot held.Source) (b : Bool) → i < length items → r ≡ get_or items i r → b ≡ is_definition (source_view i r.label)
      → defined_from rows i ≡ (b || defined_from rows (i + 1))
  defined_next r b within is judged =
      at_drop_more (λ rs. list_any is_definition (labels_by source_view i rs)) rows i r (subst (λ l. i < length l) same within)
      ∙ (ap (λ (x : Slot held.Source). is_definition (source_view i x.label) || defined_from rows (i + 1)) (sym (is ∙ ap (λ xs. get_or xs i r) same))
      ∙ ap (λ c. c || defined_from rows (i + 1)) (sym judged))

  pub defined_last : length items ≤ i → defined_from rows i ≡ false
  defined_last ended = at_drop_all (λ rs. list_any is_definition (labels_by source_view i rs)) rows i (subst (λ l. length l ≤ i) same ended)
