-- What augments add as it lies before it is known below which nodes.
use Rattle.std.proofs.Common.{◌≡◌, ◌&&◌, ◌∙◌, ℕ, Bool, true, false, cond, List, ◌∷◌, drop, None, refl, sym, subst, ap, ap₂}
use Rattle.std.specs.List.{list_all}
use Rattle.yspec.specs.Forest.{Forest, end, node, join}
use Rattle.yspec.specs.schema.Breaks.{Break}
use Rattle.yspec.specs.linking.Keyword as word
use Rattle.yspec.specs.linking.Source.{Source, is_source_of}
use Rattle.yspec.specs.linking.Augments.{Augment, augments_in, augments_of}
use Rattle.yspec.specs.linking.Parts.{Part, case_for, part_of}
use Rattle.yspec.specs.linking.Expansion.{laid, owned_by}
use Rattle.yspec.proofs.ForestLemmas.{join_assoc, join_end}
use Rattle.yspec_wide.specs.Language.{Language}
use Rattle.ybase_preorder.specs.View.{row_by}
use Rattle.ybase_preorder.specs.declared.siblings.Node.{Node}
use Rattle.ylink_grammar.specs.SourceView.{source_view}
use Rattle.ylink_grammar.specs.declared.source.Source as held
use Rattle.yschema_given.specs.Keeping.{are_kept_right}
use Rattle.yschema_given.proofs.KeepingLemmas.{all_both, kept_parts}
use Rattle.yschema_expand.specs.AugmentView.{augments_seen}
use Rattle.yschema_expand.specs.Bodies.{asked_nodes, body_nodes}
use Rattle.yschema_expand.specs.Walk.{breaks_for, is_laid, Adds}
use Rattle.yschema_expand.specs.declared.expanding.Made.{Made}
use Rattle.yschema_expand.proofs.EndLemmas.{passes_there}
use Rattle.yschema_expand.proofs.WalkLemmas.{adds_join, breaks_join, chosen-first, laid_one}

-- ---- what one statement adds

module _ (language : Language) (modules : Forest Source) (owner depth : ℕ) (given : Forest Source) where
  abbrev asked : Forest Part → Forest Part
  asked = asked_nodes language modules owner depth given

  abbrev body : Forest Part → Forest Part
  body = body_nodes language modules owner depth given

  abbrev breaks : Forest Part → List Break
  breaks = breaks_for language modules owner depth

  pub body_one : (s : Source) (below : Forest Source) → is_laid s ≡ true → (b : Bool) → is_source_of word.case_word s ≡ b
      → body (laid (node s below end))
      ≡ cond b (asked (laid (node s below end))) (node (owned_by owner (case_for (part_of s below))) (asked (laid (node s below end))) end)
  body_one s below laid_so b is =
      let one = laid_one s below laid_so in
      let parts = node (part_of s below) one.0 end in
      let around = node (owned_by owner (case_for (part_of s below))) (asked parts) end in
      ap body one.1 ∙ (join_end (cond (is_source_of word.case_word s) (asked parts) around)
      ∙ (ap (λ x. cond x (asked parts) around) is
      ∙ ap (λ f. cond b (asked f) (node (owned_by owner (case_for (part_of s below))) (asked f) end)) (sym one.1)))

  body_join : (f g : Forest Part) → body (join f g) ≡ join (body f) (body g)
  body_join end g = refl
  body_join (node p below after) g =
      let first = cond (is_source_of word.case_word p.source) (asked (node p below end)) (node (owned_by owner (case_for p)) (asked (node p below end)) end) in
      ap (join first) (body_join after g) ∙ sym (join_assoc first (body after) (body g))

  -- and then what those behind it add
  pub adds_rest : (s : Source) (below rest : Forest Source) (now mid final : Made) → Adds None (body (laid (node s below end))) (breaks (laid (node s below end))) now mid
      → Adds None (body (laid rest)) (breaks (laid rest)) mid final → Adds None (body (laid (node s below rest))) (breaks (laid (node s below rest))) now final
  adds_rest s below rest now mid final one more =
      let here = laid (node s below end) in
      let split = chosen-first false s below rest in
      subst (λ f. Adds None f (breaks (laid (node s below rest))) now final) (sym (ap body split ∙ body_join here (laid rest)))
      (subst (λ bs. Adds None (join (body here) (body (laid rest))) bs now final) (sym (ap breaks split ∙ breaks_join language modules owner depth here (laid rest)))
      (adds_join None (body here) (body (laid rest)) (breaks here) (breaks (laid rest)) now mid final one more))

-- ---- conditions in augments are kept as such

module _ (language : Language) where
  abbrev keeps : Augment → Bool
  keeps a = are_kept_right language a.given

  kept_in : (f : Forest Source) → are_kept_right language f ≡ true → list_all keeps (augments_in f) ≡ true
  kept_in end kept = refl
  kept_in (node s given after) kept =
      let parts = kept_parts language s given after kept in
      by (is_source_of word.augment_word s) parts.1 (kept_in after parts.2)
    where
      here : Augment
      here = record { source = s; given = given }

      by : (b : Bool) → are_kept_right language given ≡ true → list_all keeps (augments_in after) ≡ true
          → list_all keeps (cond b (here ∷ augments_in after) (augments_in after)) ≡ true
      by true own rest = ap (λ b. b && list_all keeps (augments_in after)) own ∙ rest
      by false own rest = rest

  kept_of : (modules : Forest Source) → are_kept_right language modules ≡ true → list_all keeps (augments_of modules) ≡ true
  kept_of end kept = refl
  kept_of (node s below after) kept =
      let parts = kept_parts language s below after kept in
      all_both keeps (augments_in below) (augments_of after)
      ∙ ap₂ (λ x y. x && y) (kept_in below parts.1) (kept_of after parts.2)

  -- of each
  pub kept_there : (modules : Forest Source) (augments : List (Node held.Source)) (i : ℕ) (n : Node held.Source) (rest : List (Node held.Source))
      → are_kept_right language modules ≡ true → augments_seen augments ≡ augments_of modules → drop i augments ≡ n ∷ rest
      → are_kept_right language (row_by source_view n.children) ≡ true
  kept_there modules augments i n rest kept all at = passes_there keeps modules augments i n rest (kept_of modules kept) all at
