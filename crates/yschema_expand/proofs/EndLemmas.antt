-- No `uses` below a statement of a set leads over too many others: so of the modules' rows, and of what augments add.
use Rattle.std.proofs.Common.{◌≡◌, ◌&&◌, ◌∙◌, ℕ, suc, Bool, true, false, cond, List, [], ◌∷◌, ◌++◌, drop, refl, sym, ap, ap₂, arith}
use Rattle.std.specs.Prelude.{⊤}
use Rattle.std.specs.List.{Contains, list_all}
use Rattle.std.proofs.lemmas.Bool.{and_parts}
use Rattle.std.proofs.lemmas.List.Elements.{Contains-append_left, Contains-append_right}
use Rattle.yspec.specs.Forest.{Forest, end, node, size}
use Rattle.yspec.specs.linking.Augments.{Augment, augments_in, augments_of}
use Rattle.yspec.specs.linking.Expansion.{groupings_of, is_uses, laid}
use Rattle.yspec.specs.linking.Keyword.{augment_word, uses_word}
use Rattle.yspec.specs.linking.Parts.{Part, defines_node, part_of, within}
use Rattle.yspec.specs.linking.Rewriting.{all_uses}
use Rattle.yspec.specs.linking.Scopes.{Placed, placed}
use Rattle.yspec.specs.linking.Source.{Source, is_source_of}
use Rattle.yspec_wide.specs.Language.{Language}
use Rattle.ybase_preorder.specs.View.{row_by}
use Rattle.ybase_preorder.specs.declared.siblings.Node.{Node}
use Rattle.ylink_grammar.specs.SourceView.{source_view}
use Rattle.ylink_grammar.specs.declared.source.Source as held
use Rattle.ylink_names.specs.ScopeView.{placed_at}
use Rattle.yschema_given.proofs.KeepingLemmas.{all_both, all_taken}
use Rattle.yschema_expand.specs.AugmentView.{augment_view, augments_seen}
use Rattle.yschema_expand.specs.Knowing.{AreStraight}
use Rattle.yschema_expand.specs.Walk.{ends_within_in, AllEnd}
use Rattle.yschema_expand.proofs.DepthLemmas.{both}

-- a row by its first statement
pub all_first : (test : Part → Bool) (s : Source) (below after : Forest Source) → all_uses test (laid (node s below after)) ≡ true
    → (all_uses test (laid (node s below end)) ≡ true) × (all_uses test (laid after) ≡ true)
unfolding laid all_uses
all_first test s below after all = by (defines_node s.keyword) (is_source_of uses_word s) all
  where
    one : (x : Bool) → (x && all_uses test (laid after)) ≡ true → ((x && true) ≡ true) × (all_uses test (laid after) ≡ true)
    one x whole = let parts = and_parts x (all_uses test (laid after)) whole in (both x true parts.0 refl, parts.1)

    by : (d u : Bool) → all_uses test (cond d (node (part_of s below) (within s (laid below)) (laid after)) (cond u (node (part_of s below) end (laid after)) (laid after))) ≡ true
        → (all_uses test (cond d (node (part_of s below) (within s (laid below)) end) (cond u (node (part_of s below) end end) end)) ≡ true) × (all_uses test (laid after) ≡ true)
    by true u whole = one (cond (is_uses (part_of s below)) (test (part_of s below)) (all_uses test (within s (laid below)))) whole
    by false true whole = one (cond (is_uses (part_of s below)) (test (part_of s below)) true) whole
    by false false whole = (refl, whole)

later : (r : Placed) (ps : List Placed) (q : Placed) → Contains ps q → Contains (r ∷ ps) q
later r ps q at = let inside = at.1 in (suc at.0, omega (arith, inside), at.2)

-- ---- what passes a test of all augments

module _ (test : Augment → Bool) where
  abbrev passes : Placed → Type 0
  passes p = test (record { source = p.source; given = p.below }) ≡ true

  all_in : (ancestors : List (Source × Forest Source)) (f : Forest Source) → ((p : Placed) → Contains (placed ancestors f) p → passes p) → list_all test (augments_in f) ≡ true
  unfolding placed
  all_in ancestors end all = refl
  all_in ancestors (node s below after) all = by (is_source_of augment_word s)
      (all_in ancestors after (λ q at. all q (later p (under ++ behind) q (Contains-append_right under behind q at))))
    where
      p : Placed
      p = placed_at s below ancestors

      under : List Placed
      under = placed ((s, below) ∷ ancestors) below

      behind : List Placed
      behind = placed ancestors after

      by : (b : Bool) → list_all test (augments_in after) ≡ true
          → list_all test (cond b (record { source = s; given = below } ∷ augments_in after) (augments_in after)) ≡ true
      by true rest = both (test (record { source = s; given = below })) (list_all test (augments_in after)) (all p (0, omega arith, refl)) rest
      by false rest = rest

  all_of : (f : Forest Source) → ((p : Placed) → Contains (placed [] f) p → passes p) → list_all test (augments_of f) ≡ true
  unfolding placed
  all_of end all = refl
  all_of (node s below after) all =
      let p = placed_at s below [] in
      let under = placed ((s, below) ∷ []) below in
      let behind = placed [] after in
      all_both test (augments_in below) (augments_of after)
      ∙ ap₂ (λ x y. x && y)
      (all_in ((s, below) ∷ []) below (λ q at. all q (later p (under ++ behind) q (Contains-append_left under behind q at))))
      (all_of after (λ q at. all q (later p (under ++ behind) q (Contains-append_right under behind q at))))

  seen_all : (augments : List (Node held.Source)) → list_all test (augments_seen augments) ≡ list_all (λ n. test (augment_view n)) augments
  seen_all [] = refl
  seen_all (n ∷ augments) = ap (λ b. test (augment_view n) && b) (seen_all augments)

  -- of each
  pub passes_there : (modules : Forest Source) (augments : List (Node held.Source)) (i : ℕ) (n : Node held.Source) (rest : List (Node held.Source))
      → list_all test (augments_of modules) ≡ true → augments_seen augments ≡ augments_of modules → drop i augments ≡ n ∷ rest → test (augment_view n) ≡ true
  passes_there modules augments i n rest whole all at =
      let own : Node held.Source → Bool = λ n. test (augment_view n) in
      let every : list_all own augments ≡ true = sym (seen_all augments) ∙ (ap (list_all test) all ∙ whole) in
      (and_parts (own n) (list_all own rest) (ap (list_all own) (sym at) ∙ (all_taken own i augments every).1)).0

-- ---- a set that leads over no more than it has statements

module _ (language : Language) (modules : Forest Source) where
  abbrev ends : Forest Source → Bool
  ends f = all_uses (ends_within_in language modules (groupings_of modules) (suc (size modules))) (laid f)

  pub augment_ends : (augments : List (Node held.Source)) (i : ℕ) (n : Node held.Source) (rest : List (Node held.Source)) → AreStraight language modules
      → augments_seen augments ≡ augments_of modules → drop i augments ≡ n ∷ rest → AllEnd language modules (suc (size modules)) (laid (row_by source_view n.children))
  augment_ends augments i n rest straight all at =
      passes_there (λ (a : Augment). ends a.given) modules augments i n rest (all_of (λ (a : Augment). ends a.given) modules straight) all at

  -- each of some modules
  abbrev pub RowsEnd : Forest Source → Type 0
  RowsEnd end = ⊤
  RowsEnd (node s below after) = AllEnd language modules (suc (size modules)) (laid below) × RowsEnd after

  rows_in : (f : Forest Source) → ((p : Placed) → Contains (placed [] f) p → ends p.below ≡ true) → RowsEnd f
  unfolding placed
  rows_in end all = tt
  rows_in (node s below after) all =
      let p = placed_at s below [] in
      let under = placed ((s, below) ∷ []) below in
      let behind = placed [] after in
      (all p (0, omega arith, refl), rows_in after (λ q at. all q (later p (under ++ behind) q (Contains-append_right under behind q at))))

  pub rows_end : AreStraight language modules → RowsEnd modules
  rows_end straight = rows_in modules straight
