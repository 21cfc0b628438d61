-- What a target takes of what an augment adds, with the cases for which single nodes stand or without.
use Rattle.std.proofs.Common.{◌≡◌, ℕ, Bool, true, false, cond, Some, None, refl, sym, ap, ap₂, ◌∙◌}
use Rattle.std.specs.Prelude.{find}
use Rattle.std.proofs.lemmas.Option.{none-some}
use Rattle.yspec.specs.Forest.{Forest, end, node, row, join}
use Rattle.yspec.specs.linking.Keyword.{Keyword}
use Rattle.yspec.specs.linking.Keyword as word
use Rattle.yspec.specs.linking.Source.{Source, is_source_of, first_with}
use Rattle.yspec.specs.linking.Parts.{Part, defines_node, part_of, case_for, as_cases, within}
use Rattle.yspec.specs.linking.Expansion.{groupings_of, is_uses, laid, owned_by, replaced}
use Rattle.yspec_wide.specs.Language.{Language}
use Rattle.yspec_wide.specs.Sources.{guard_row}
use Rattle.yspec_wide.specs.Expansion.{conditioned, stands_for_in}
use Rattle.yspec.specs.linking.Augments.{marked}
use Rattle.yspec.proofs.ForestLemmas.{join_end}
use Rattle.yschema_expand.specs.Bodies.{body_nodes}
use Rattle.yschema_expand.specs.Walk.{nodes_for}
use Rattle.yschema_augment.specs.Hanging.{plain, inner, marked_by}
use Rattle.yschema_augment.proofs.HangingLemmas.{Nodes}
use Rattle.yschema_augment.proofs.PathLemmas.{plain_join}

-- no part of a row has a keyword
abbrev pub Lacks : Keyword → Forest Part → Type 0
Lacks k end = Unit {0}
Lacks k (node p below after) = (is_source_of k p.source ≡ false) × Lacks k after

pub laid_lacks : (k : Keyword) (given : Forest Source) → first_with k given ≡ None → Lacks k (laid given)
unfolding laid
laid_lacks k end none = tt
laid_lacks k (node s below after) none = by (is_source_of k s) refl none (laid_lacks k after)
  where
    laid_by : Bool → Bool → Forest Part
    laid_by d u = cond d (node (part_of s below) (within s (laid below)) (laid after)) (cond u (node (part_of s below) end (laid after)) (laid after))

    each : (d u : Bool) → is_source_of k s ≡ false → Lacks k (laid after) → Lacks k (laid_by d u)
    each true u other later = (other, later)
    each false true other later = (other, later)
    each false false other later = later

    by : (b : Bool) → is_source_of k s ≡ b → cond b (Some s) (find (is_source_of k) (row after)) ≡ None
        → (find (is_source_of k) (row after) ≡ None → Lacks k (laid after))
        → Lacks k (laid_by (defines_node s.keyword) (is_source_of word.uses_word s))
    by true is e later = absurd (none-some s (sym e))
    by false is e later = each (defines_node s.keyword) (is_source_of word.uses_word s) is (later e)

module _ (meant : Part → Forest Part) (owner : ℕ) where
  first_alone : (p : Part) (below after : Forest Part) → replaced meant owner (node p below after) ≡ join (replaced meant owner (node p below end)) (replaced meant owner after)
  unfolding replaced
  first_alone p below after = by (is_uses p)
    where
      by : (b : Bool) → cond b (join (meant p) (replaced meant owner after)) (node (owned_by owner p) (replaced meant owner below) (replaced meant owner after))
          ≡ join (cond b (join (meant p) end) (node (owned_by owner p) (replaced meant owner below) end)) (replaced meant owner after)
      by true = ap (λ f. join f (replaced meant owner after)) (sym (join_end (meant p)))
      by false = refl

module _ (language : Language) (modules : Forest Source) (owner depth : ℕ) (given : Forest Source) where
  abbrev meant : Part → Forest Part
  meant = stands_for_in language modules (groupings_of modules) owner depth

  abbrev nodes : Forest Part → Forest Part
  nodes = nodes_for language modules owner depth

  abbrev asked : Forest Part → Forest Part
  asked f = conditioned language given (nodes f)

  abbrev body : Forest Part → Forest Part
  body = body_nodes language modules owner depth given

  conditioned_join : (f g : Forest Part) → conditioned language given (join f g) ≡ join (conditioned language given f) (conditioned language given g)
  conditioned_join end g = refl
  conditioned_join (node p below after) g =
      ap (node (record p { own = join p.own (guard_row language given) }) below) (conditioned_join after g)

  -- a node alone
  asked_one : (p : Part) (below : Forest Part) → is_uses p ≡ false
      → asked (node p below end) ≡ node (record (owned_by owner p) { own = join p.own (guard_row language given) }) (nodes below) end
  unfolding replaced
  asked_one p below unused =
      ap (λ b. conditioned language given (cond b (join (meant p) end) (node (owned_by owner p) (nodes below) end))) unused

  -- where nothing is used right there, cases may come behind the conditions or before them
  pub cases_asked : (f : Forest Part) → Lacks word.uses_word f → as_cases (asked f) ≡ body f
  unfolding replaced
  cases_asked end none = refl
  cases_asked (node p below after) none =
      ap (λ b. as_cases (conditioned language given (cond b (join (meant p) (nodes after)) (node (owned_by owner p) (nodes below) (nodes after))))) none.0
      ∙ by (is_source_of word.case_word p.source) (cases_asked after none.1)
    where
      own : Part
      own = record (owned_by owner p) { own = join p.own (guard_row language given) }

      by : (b : Bool) → as_cases (asked after) ≡ body after
          → cond b (node own (nodes below) (as_cases (asked after))) (node (case_for own) (node own (nodes below) end) (as_cases (asked after)))
          ≡ join (cond b (asked (node p below end)) (node (owned_by owner (case_for p)) (asked (node p below end)) end)) (body after)
      by true later = ap (node own (nodes below)) later ∙ ap (λ f. join f (body after)) (sym (asked_one p below none.0))
      by false later = ap₂ (λ f g. node (owned_by owner (case_for p)) f g) (sym (asked_one p below none.0)) later

  -- without the cases it is what is laid out, asked the conditions
  pub inner_asked : (f : Forest Part) → Lacks word.case_word f → inner (body f) ≡ asked f
  unfolding replaced
  inner_asked end none = refl
  inner_asked (node p below after) none =
      ap (λ b. inner (join (cond b (asked (node p below end)) (node (owned_by owner (case_for p)) (asked (node p below end)) end)) (body after))) none.0
      ∙ (ap (join (asked (node p below end))) (inner_asked after none.1)
      ∙ (sym (conditioned_join (nodes (node p below end)) (nodes after))
      ∙ ap (conditioned language given) (sym (first_alone meant owner p below after))))

-- ---- with numbers

pub plain_marked : (augment : ℕ) (f : Nodes Part) → plain (marked_by augment f) ≡ marked augment (plain f)
plain_marked augment end = refl
plain_marked augment (node l below after) = ap (node (record l.label { added_by = Some augment }) (plain below)) (plain_marked augment after)

pub plain_inner : (f : Nodes Part) → plain (inner f) ≡ inner (plain f)
plain_inner end = refl
plain_inner (node l below after) = plain_join below (inner after) ∙ ap (join (plain below)) (plain_inner after)
