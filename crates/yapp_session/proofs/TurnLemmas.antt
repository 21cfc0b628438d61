-- The turns of edits that are applied one by one.
use Rattle.std.proofs.Common.{◌≡◌, ℕ, ◌+◌, ◌<◌, ◌++◌, List, [], ◌∷◌, Vec, length, drop, Option, Some, None, map, refl, sym, ap, ◌∙◌}
use Rattle.std.specs.Prelude.{get_or, option_to_list, reverse}
use Rattle.std.specs.List.{flat_map}
use Rattle.std.proofs.lemmas.List.{append_assoc, at_drop_more, map-append, reverse-append, reverse-reverse}
use Rattle.yspec.specs.schema.Schema.{Schema}
use Rattle.yspec.specs.document.Document.{Tree}
use Rattle.yspec.specs.edit.EditText.{Edit}
use Rattle.yspec.specs.edit.Editing.{after, applied, tree_or}
use Rattle.yspec.specs.edit.Live.{Live}
use Rattle.yspec_session.specs.Carrying.{Turn}
use Rattle.yspec_session.specs.Session.{turns_of}
use Rattle.yspec_session.specs.Remembering.{turns_back}
use Rattle.yspec_session.proofs.RememberingLemmas.{turns_both}
use Rattle.yinst_path.specs.declared.edit.Edit as rust
use Rattle.yinst_path.specs.EditView.{edit_view}
use Rattle.ylive.specs.Answers.{after_edits}
use Rattle.yapp_session.specs.View.{edits_view, group_view, groups_view}

pub map_reverse : {A B : Type 0} (f : A → B) (xs : List A) → map f (reverse xs) ≡ reverse (map f xs)
map_reverse f [] = refl
map_reverse f (x ∷ xs) = ap (map f) (reverse-append (x ∷ []) xs)
    ∙ (map-append f (reverse xs) (x ∷ []) ∙ (ap (λ ys. ys ++ f x ∷ []) (map_reverse f xs) ∙ sym (reverse-append (f x ∷ []) (map f xs))))

-- what was added in the other order is turned again
pub turned_again : {A B : Type 0} (f : A → B) (found turned : List A) (whole : List B) → map f found ≡ reverse whole → turned ≡ reverse found
    → map f turned ≡ whole
turned_again f found turned whole is reversed =
    ap (map f) reversed ∙ (map_reverse f found ∙ (ap reverse is ∙ reverse-reverse whole))

-- some more turns, in the other order, before those of the rest
one_part : (so_far more part rest all whole : List Turn) → more ≡ so_far ++ reverse part → all ≡ rest ++ part → so_far ++ reverse all ≡ whole
    → more ++ reverse rest ≡ whole
one_part so_far more part rest all whole added parts so =
    ap (λ ts. ts ++ reverse rest) added
    ∙ (append_assoc so_far (reverse part) (reverse rest)
    ∙ (ap (λ ts. so_far ++ ts) (sym (ap reverse parts ∙ reverse-append rest part)) ∙ so))

-- one at most is the same in the other order
pub one_reversed : {A : Type 0} (o : Option A) → reverse (option_to_list o) ≡ option_to_list o
one_reversed None = refl
one_reversed (Some x) = refl

-- ---- one edit

-- an edit at the head of those that are left
rest_turns : Schema → Tree → Edit → List Edit → List Turn
rest_turns schema tree e edits = turns_back schema (tree_or (applied schema tree e) tree) edits

module _ (first : Live) (edits : List rust.Edit) (i : ℕ) (e : rust.Edit) (within : i < length edits) (is : e ≡ get_or edits i e) where
  next : List Edit
  next = edits_view (drop (i + 1) edits)

  -- what a function of the edits that are left says
  left : {X : Type 0} (f : List Edit → X) → f (edits_view (drop i edits)) ≡ f (edit_view e ∷ next)
  unfolding next
  left f = at_drop_more (λ es. f (edits_view es)) edits i e within ∙ ap (λ x. f (edit_view x ∷ next)) (sym is)

  pub edit_ran : (before now whole : Live) → now ≡ after_edits (edit_view e ∷ []) before → after_edits (edits_view (drop i edits)) before ≡ whole
      → after_edits (edits_view (drop (i + 1) edits)) now ≡ whole
  unfolding next
  edit_ran before now whole ran so = ap (λ (l : Live). after_edits next l) ran ∙ (sym (left (λ es. after_edits es before)) ∙ so)

  pub edit_turned : (before now : Live) (so_far more whole : List Turn) → before.schema ≡ first.schema → now ≡ after_edits (edit_view e ∷ []) before
      → more ≡ so_far ++ reverse (turns_of before.schema before.tree (edit_view e)).back
      → so_far ++ reverse (turns_back first.schema before.tree (edits_view (drop i edits))) ≡ whole
      → more ++ reverse (turns_back first.schema now.tree (edits_view (drop (i + 1) edits))) ≡ whole
  unfolding next rest_turns
  edit_turned before now so_far more whole schema ran added so =
      ap (λ (t : Tree). more ++ reverse (turns_back first.schema t next)) there
      ∙ one_part so_far more (turns_of first.schema before.tree (edit_view e)).back (rest_turns first.schema before.tree (edit_view e) next)
      (turns_back first.schema before.tree (edits_view (drop i edits))) whole
      (added ∙ ap (λ s. so_far ++ reverse (turns_of s before.tree (edit_view e)).back) schema)
      (left (turns_back first.schema before.tree)) so
    where
      there : now.tree ≡ tree_or (applied first.schema before.tree (edit_view e)) before.tree
      there = ap (λ (l : Live). l.tree) ran ∙ ap (λ s. tree_or (applied s before.tree (edit_view e)) before.tree) schema

-- ---- one group

-- the edits of groups
all_edits : {A : Type 0} → List (Vec rust.Edit A) → List Edit
all_edits gs = flat_map (λ g. g) (groups_view gs)

pub group_turned : {A : Type 0} (first : Live) (gs : List (Vec rust.Edit A)) (i : ℕ) (g : Vec rust.Edit A) → i < length gs → g ≡ get_or gs i g
    → (before now : Live) (so_far more whole : List Turn) → before.schema ≡ first.schema → now ≡ after_edits (group_view g) before
    → more ≡ so_far ++ reverse (turns_back before.schema before.tree (group_view g))
    → so_far ++ reverse (turns_back first.schema before.tree (flat_map (λ g. g) (groups_view (drop i gs)))) ≡ whole
    → more ++ reverse (turns_back first.schema now.tree (flat_map (λ g. g) (groups_view (drop (i + 1) gs)))) ≡ whole
unfolding all_edits
group_turned first gs i g within is before now so_far more whole schema ran added so =
    ap (λ (t : Tree). more ++ reverse (turns_back first.schema t (all_edits (drop (i + 1) gs)))) there
    ∙ one_part so_far more (turns_back first.schema before.tree (group_view g))
    (turns_back first.schema (after first.schema before.tree (group_view g)) (all_edits (drop (i + 1) gs)))
    (turns_back first.schema before.tree (all_edits (drop i gs))) whole
    (added ∙ ap (λ s. so_far ++ reverse (turns_back s before.tree (group_view g))) schema)
    (ap (turns_back first.schema before.tree) left ∙ turns_both first.schema before.tree (group_view g) (all_edits (drop (i + 1) gs))) so
  where
    there : now.tree ≡ after first.schema before.tree (group_view g)
    there = ap (λ (l : Live). l.tree) ran ∙ ap (λ s. after s before.tree (group_view g)) schema

    left : all_edits (drop i gs) ≡ group_view g ++ all_edits (drop (i + 1) gs)
    left = at_drop_more all_edits gs i g within ∙ ap (λ h. group_view h ++ all_edits (drop (i + 1) gs)) (sym is)
