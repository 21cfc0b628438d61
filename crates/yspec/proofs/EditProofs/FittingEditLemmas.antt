-- An accepted edit keeps a document's fit, in its values too.
use Rattle.std.proofs.Common.{◌≡◌, ℕ, zero, suc, ◌-◌, ◌≤◌, Bool, true, false, cond, not, ◌&&◌, eqb, ltb, List, [], ◌∷◌, Option, Some, None, Result, Ok, refl, sym, ap, ◌∙◌, subst, arith}
use Rattle.std.proofs.lemmas.Bool.{eqb-true, eqb-false, ltb-true, ltb-false}
use Rattle.std.specs.Prelude.{unwrap_or}
use Rattle.std.specs.Option.{option_map_or}
use Rattle.serde_json.specs.Data.{Data}
use Rattle.yspec.specs.Forest.{Forest, end, node, size, change_nth}
use Rattle.yspec.specs.Forest as forest
use Rattle.yspec.specs.text.Text.{Text}
use Rattle.yspec.specs.types.Types.{Raw}
use Rattle.yspec.specs.schema.Schema.{Schema, SchemaNode, is_many, data_row, child_in}
use Rattle.yspec.specs.document.Document.{Stored, Tree, Step, instances_in, document_limit}
use Rattle.yspec.specs.document.Reading.{Refusal, first_wrong, instance_visits, json_of, members_of, raw_in, stored_rows}
use Rattle.yspec.specs.document.Fitting.{IsNumbered, next_after, FitsBy, Fits, LeafsAreBare}
use Rattle.yspec.specs.document.Writing.{AllDiffer, NamesDiffer, HasForm, IsDocument}
use Rattle.yspec.specs.edit.Edit.{is_of, instance_index, edit_at}
use Rattle.yspec.specs.edit.EditText.{Path, Edit, create, replace, remove, move_to}
use Rattle.yspec.specs.Results.{◌>>=◌}
use Rattle.yspec.specs.edit.Editing.{EditRefusal, refused, value_refused, BoundStep, Target, target, lower, row_at, Branch, fitting_branch, branch_at, branch_of, with_branch, with_instead, without, within_limit, is_there, created, replaced, removed, moved, with_moved, instance_branch, goes_before, with_branch_behind, last_meant, instance_meant, target_of, bound, bound_to_move, target_to_move, applied, after}
use Rattle.yspec.proofs.DocumentProofs.FittingLemmas.{first_is_other, none_of_others}
use Rattle.yspec.proofs.DocumentProofs.SortingLemmas.{child_number, not_before}
use Rattle.yspec.proofs.DocumentProofs.HeldNodeLemmas.{schema_has_all}
use Rattle.yspec.proofs.DocumentProofs.VisitLemmas.{EachDiffers, BelowDiffers, each_differs}
use Rattle.yspec.proofs.DocumentProofs.FittingReadLemmas.{row_fits, ever_held}
use Rattle.yspec.proofs.DocumentProofs.ReadWholeLemmas.{instance_held, right_rows, json_is_good}
use Rattle.yspec.proofs.DocumentProofs.WholeTextLemmas.{IsGood}
use Rattle.yspec.proofs.DocumentProofs.JsonValueLemmas.{IsRead, json_is_read}
use Rattle.yspec.proofs.DocumentProofs.ReadTextLemmas.{HoldsText, members_texts, rows_hold, value_held}
use Rattle.yspec.proofs.EditProofs.MoveLemmas.{OnSome, either_branch, goes_low, stays_behind, IsMany, EndsInMany, to_move, target_many, if_both}
use Rattle.yspec.proofs.EditProofs.AnswerLemmas.{If, if_then, if_cond, IsOf, meant_of, edits_keep}
use Rattle.yspec.proofs.EditProofs.BoundLemmas.{InRow, first, later, Stands, stands_below, is_child, is_at, BoundIn, path_bound}

abbrev Found : Type 0
Found = SchemaNode × Forest SchemaNode

same_found : (x y : Found) (o : Option Found) → o ≡ Some x → o ≡ Some y → x ≡ y
same_found x y o one other = ap (λ (p : Option Found). unwrap_or p x) (sym one ∙ other)

-- ---- rows that fit

module _ (Held : SchemaNode → Option Raw → Type 0) where
  sooner : (f : Forest SchemaNode) (t : Tree) (j k : ℕ) → j ≤ k → FitsBy Held f k t → FitsBy Held f j t
  sooner f end j k less fits = tt
  sooner f (node s below after) j k less fits = (fits.0, fits.1, omega (arith, less, fits.2), fits.3, fits.4, fits.5)

  module _ (f : Forest SchemaNode) (n : SchemaNode) (g : Forest SchemaNode) (child : child_in (data_row f) n.number ≡ Some (n, g)) where
    -- a stored node of this number is an instance of the node
    is_instance : (s : Stored) (x : Found) → eqb s.schema_number n.number ≡ true → child_in (data_row f) s.schema_number ≡ Some x → x ≡ (n, g)
    is_instance s x same found = same_found x (n, g) (child_in (data_row f) s.schema_number) found
        (ap (child_in (data_row f)) (eqb-true s.schema_number n.number same) ∙ child)

    -- what stands below it fits its children
    row_there : (place least : ℕ) (t : Tree) → FitsBy Held f least t → FitsBy Held g 0 (row_at n.number place t)
    row_there place least end fits = tt
    row_there zero least (node s below after) fits =
        by (eqb s.schema_number n.number) refl (row_there zero (next_after fits.0.0) after fits.5)
      where
        by : (b : Bool) → eqb s.schema_number n.number ≡ b → FitsBy Held g 0 (row_at n.number zero after)
            → FitsBy Held g 0 (cond b below (row_at n.number zero after))
        by true same rest = subst (λ (x : Found). FitsBy Held x.1 0 below) (is_instance s fits.0 same fits.1) fits.4
        by false other rest = rest
    row_there (suc place) least (node s below after) fits = by (eqb s.schema_number n.number)
        (row_there place (next_after fits.0.0) after fits.5) (row_there (suc place) (next_after fits.0.0) after fits.5)
      where
        by : (b : Bool) → FitsBy Held g 0 (row_at n.number place after) → FitsBy Held g 0 (row_at n.number (suc place) after)
            → FitsBy Held g 0 (cond b (row_at n.number place after) (row_at n.number (suc place) after))
        by true one other = one
        by false one other = other

    -- with it changed the row fits
    lifted : (place least : ℕ) (change : Tree → Tree) (t : Tree) → FitsBy Held f least t → FitsBy Held g 0 (change (row_at n.number place t))
        → FitsBy Held f least (forest.change_below (is_of n.number) place change t)
    lifted place least change end fits new = tt
    lifted zero least change (node s below after) fits new =
        by (eqb s.schema_number n.number) refl new (λ rest. lifted zero (next_after fits.0.0) change after fits.5 rest)
      where
        by : (b : Bool) → eqb s.schema_number n.number ≡ b → FitsBy Held g 0 (change (cond b below (row_at n.number zero after)))
            → (FitsBy Held g 0 (change (row_at n.number zero after)) → FitsBy Held f (next_after fits.0.0) (forest.change_below (is_of n.number) zero change after))
            → FitsBy Held f least (cond b (node s (change below) after) (node s below (forest.change_below (is_of n.number) zero change after)))
        by true same new rest =
            (fits.0, fits.1, fits.2, fits.3, subst (λ (x : Found). FitsBy Held x.1 0 (change below)) (sym (is_instance s fits.0 same fits.1)) new, fits.5)
        by false other new rest = (fits.0, fits.1, fits.2, fits.3, fits.4, rest new)
    lifted (suc place) least change (node s below after) fits new =
        by (eqb s.schema_number n.number) new (λ rest. lifted place (next_after fits.0.0) change after fits.5 rest)
        (λ rest. lifted (suc place) (next_after fits.0.0) change after fits.5 rest)
      where
        by : (b : Bool) → FitsBy Held g 0 (change (cond b (row_at n.number place after) (row_at n.number (suc place) after)))
            → (FitsBy Held g 0 (change (row_at n.number place after)) → FitsBy Held f (next_after fits.0.0) (forest.change_below (is_of n.number) place change after))
            → (FitsBy Held g 0 (change (row_at n.number (suc place) after)) → FitsBy Held f (next_after fits.0.0) (forest.change_below (is_of n.number) (suc place) change after))
            → FitsBy Held f least (cond b (node s below (forest.change_below (is_of n.number) place change after)) (node s below (forest.change_below (is_of n.number) (suc place) change after)))
        by true new one other = (fits.0, fits.1, fits.2, fits.3, fits.4, one new)
        by false new one other = (fits.0, fits.1, fits.2, fits.3, fits.4, other new)

    -- ---- changes of the row itself

    -- a branch fits the node
    abbrev FitsNode : Branch → Type 0
    FitsNode b = (b.label.schema_number ≡ n.number) × Held n b.label.value × FitsBy Held g 0 b.below

    -- there may be one more
    abbrev HasRoom : Tree → Type 0
    HasRoom t = is_many n.kind ≡ false → instances_in t n.number ≡ 0

    branch_first : (b : Branch) (least : ℕ) (t : Tree) → FitsNode b → least ≤ n.number → FitsBy Held f (next_after n) t
        → FitsBy Held f least (node b.label b.below t)
    branch_first b least t fitting lower fits = (
      (n, g),
      ap (child_in (data_row f)) fitting.0 ∙ child,
      omega (arith, lower, fitting.0),
      fitting.1,
      fitting.2,
      fits,
    )

    next_at_most : (m : SchemaNode) → next_after m ≤ suc m.number
    next_at_most m = by (is_many m.kind)
      where
        by : (b : Bool) → cond b m.number (suc m.number) ≤ suc m.number
        by true = omega arith
        by false = omega arith

    room_after : (s : Stored) (below after : Tree) → HasRoom (node s below after) → HasRoom after
    room_after s below after room one =
        let none = room one in
        sym (none_of_others s below after n.number (first_is_other s below after n.number none)) ∙ none

    -- a node that stands in front of where the branch goes
    next_lower : (s : Stored) (below after : Tree) (x : Found) → child_in (data_row f) s.schema_number ≡ Some x → s.schema_number ≤ n.number
        → HasRoom (node s below after) → next_after x.0 ≤ n.number
    next_lower s below after x found lower room = by (eqb s.schema_number n.number) refl
      where
        number : x.0.number ≡ s.schema_number
        number = child_number (data_row f) s.schema_number x found

        of_one : (c : Bool) → is_many n.kind ≡ c → eqb s.schema_number n.number ≡ true → cond c n.number (suc n.number) ≤ n.number
        of_one true many same = omega arith
        of_one false one same =
            let no : true ≡ false = sym same ∙ first_is_other s below after n.number (room one) in absurd (let not : ⊥ = cc in not)

        by : (b : Bool) → eqb s.schema_number n.number ≡ b → next_after x.0 ≤ n.number
        by true same = subst (λ (y : Found). next_after y.0 ≤ n.number) (sym (is_instance s x same found)) (of_one (is_many n.kind) refl same)
        by false other = let most = next_at_most x.0 in let differ = eqb-false s.schema_number n.number other in omega (arith, most, number, lower, differ)

    with_branch_fits : (b : Branch) (least : ℕ) (t : Tree) → FitsNode b → HasRoom t → least ≤ n.number → FitsBy Held f least t
        → FitsBy Held f least (with_branch b t)
    with_branch_fits b least end fitting room lower fits = branch_first b least end fitting lower tt
    with_branch_fits b least (node s below after) fitting room lower fits =
        by (ltb b.label.schema_number s.schema_number) refl
        (λ less. with_branch_fits b (next_after fits.0.0) after fitting (room_after s below after room) less fits.5)
      where
        by : (c : Bool) → ltb b.label.schema_number s.schema_number ≡ c
            → (next_after fits.0.0 ≤ n.number → FitsBy Held f (next_after fits.0.0) (with_branch b after))
            → FitsBy Held f least (cond c (node b.label b.below (node s below after)) (node s below (with_branch b after)))
        by true less rest =
            let before = ltb-true b.label.schema_number s.schema_number less in let most = next_at_most n in
            branch_first b least (node s below after) fitting lower
            (fits.0, fits.1, omega (arith, before, most, fitting.0), fits.3, fits.4, fits.5)
        by false behind rest =
            let from = ltb-false b.label.schema_number s.schema_number behind in
            (fits.0, fits.1, fits.2, fits.3, fits.4, rest (next_lower s below after fits.0 fits.1 (omega (arith, from, fitting.0)) room))

    -- what a change makes of an instance and of what follows it
    abbrev Fills : (Stored → Tree → Tree → Tree) → Type 0
    Fills change = (s : Stored) (below after : Tree) (least : ℕ) → s.schema_number ≡ n.number → least ≤ n.number → FitsBy Held f (next_after n) after
        → FitsBy Held f least (change s below after)

    changed_fits : (place least : ℕ) (change : Stored → Tree → Tree → Tree) (t : Tree) → Fills change → FitsBy Held f least t
        → FitsBy Held f least (change_nth (is_of n.number) place change t)
    changed_fits place least change end fills fits = tt
    changed_fits zero least change (node s below after) fills fits =
        by (eqb s.schema_number n.number) refl (changed_fits zero (next_after fits.0.0) change after fills fits.5)
      where
        by : (b : Bool) → eqb s.schema_number n.number ≡ b → FitsBy Held f (next_after fits.0.0) (change_nth (is_of n.number) zero change after)
            → FitsBy Held f least (cond b (change s below after) (node s below (change_nth (is_of n.number) zero change after)))
        by true same rest =
            let e = eqb-true s.schema_number n.number same in
            fills s below after least e (omega (arith, e, fits.2))
            (subst (λ (x : Found). FitsBy Held f (next_after x.0) after) (is_instance s fits.0 same fits.1) fits.5)
        by false other rest = (fits.0, fits.1, fits.2, fits.3, fits.4, rest)
    changed_fits (suc place) least change (node s below after) fills fits = by (eqb s.schema_number n.number)
        (changed_fits place (next_after fits.0.0) change after fills fits.5) (changed_fits (suc place) (next_after fits.0.0) change after fills fits.5)
      where
        by : (b : Bool) → FitsBy Held f (next_after fits.0.0) (change_nth (is_of n.number) place change after)
            → FitsBy Held f (next_after fits.0.0) (change_nth (is_of n.number) (suc place) change after)
            → FitsBy Held f least (cond b (node s below (change_nth (is_of n.number) place change after)) (node s below (change_nth (is_of n.number) (suc place) change after)))
        by true one other = (fits.0, fits.1, fits.2, fits.3, fits.4, one)
        by false one other = (fits.0, fits.1, fits.2, fits.3, fits.4, other)

    with_instead_fits : (step : Step) (b : Branch) (least : ℕ) (t : Tree) → FitsNode b → step.schema_number ≡ n.number → FitsBy Held f least t
        → FitsBy Held f least (with_instead step b t)
    with_instead_fits step b least t fitting of fits =
        subst (λ k. FitsBy Held f least (change_nth (is_of k) (instance_index step) (λ s below after. node b.label b.below after) t)) (sym of)
        (changed_fits (instance_index step) least (λ s below after. node b.label b.below after) t
        (λ s below after least e lower rest. branch_first b least after fitting lower rest) fits)

    without_fits : (step : Step) (least : ℕ) (t : Tree) → step.schema_number ≡ n.number → FitsBy Held f least t → FitsBy Held f least (without step t)
    without_fits step least t of fits =
        subst (λ k. FitsBy Held f least (change_nth (is_of k) (instance_index step) (λ s below after. after) t)) (sym of)
        (changed_fits (instance_index step) least (λ s below after. after) t
        (λ s below after least e lower rest. sooner f after least (next_after n) (omega (arith, lower, not_before n)) rest) fits)

    -- ---- a node moved, of which there may be several

    module _ (many : is_many n.kind ≡ true) where
      next_many : next_after n ≡ n.number
      next_many = ap (λ b. cond b n.number (suc n.number)) many

      instance_fits : (place least : ℕ) (t : Tree) → FitsBy Held f least t → OnSome FitsNode (instance_branch n.number place t)
      instance_fits place least end fits = tt
      instance_fits zero least (node s below after) fits =
          by (eqb s.schema_number n.number) refl (instance_fits zero (next_after fits.0.0) after fits.5)
        where
          by : (c : Bool) → eqb s.schema_number n.number ≡ c → OnSome FitsNode (instance_branch n.number zero after)
              → OnSome FitsNode (cond c (Some (record { label = s; below = below })) (instance_branch n.number zero after))
          by true same rest = (
            eqb-true s.schema_number n.number same,
            subst (λ (x : Found). Held x.0 s.value) (is_instance s fits.0 same fits.1) fits.3,
            subst (λ (x : Found). FitsBy Held x.1 0 below) (is_instance s fits.0 same fits.1) fits.4,
          )
          by false other rest = rest
      instance_fits (suc place) least (node s below after) fits =
          either_branch FitsNode (eqb s.schema_number n.number) (instance_branch n.number place after) (instance_branch n.number (suc place) after)
          (instance_fits place (next_after fits.0.0) after fits.5) (instance_fits (suc place) (next_after fits.0.0) after fits.5)

      no_lower : (s : Stored) (x : Found) → child_in (data_row f) s.schema_number ≡ Some x → s.schema_number ≤ n.number → next_after x.0 ≤ n.number
      no_lower s x found low = by (eqb s.schema_number n.number) refl
        where
          by : (c : Bool) → eqb s.schema_number n.number ≡ c → next_after x.0 ≤ n.number
          by true same = subst (λ (y : Found). next_after y.0 ≤ n.number) (sym (is_instance s x same found)) (omega (arith, next_many))
          by false other =
              let most = next_at_most x.0 in let number = child_number (data_row f) s.schema_number x found in
              let differ = eqb-false s.schema_number n.number other in omega (arith, most, number, low, differ)

      behind_fits : (b : Branch) (count least : ℕ) (t : Tree) → FitsNode b → least ≤ n.number → FitsBy Held f least t
          → FitsBy Held f least (with_branch_behind b count t)
      behind_fits b count least end fitting low fits = branch_first b least end fitting low tt
      behind_fits b count least (node s below after) fitting low fits =
          by (goes_before b.label.schema_number count s) refl
          (λ less. behind_fits b (cond (is_of b.label.schema_number s) (count - 1) count) (next_after fits.0.0) after fitting less fits.5)
        where
          more : Tree
          more = with_branch_behind b (cond (is_of b.label.schema_number s) (count - 1) count) after

          by : (c : Bool) → goes_before b.label.schema_number count s ≡ c
              → (next_after fits.0.0 ≤ n.number → FitsBy Held f (next_after fits.0.0) more)
              → FitsBy Held f least (cond c (node b.label b.below (node s below after)) (node s below more))
          by true here rest =
              let lower_is = goes_low b.label.schema_number count s here in
              branch_first b least (node s below after) fitting low
              (fits.0, fits.1, omega (arith, lower_is, fitting.0, next_many), fits.3, fits.4, fits.5)
          by false behind rest =
              let from = stays_behind b.label.schema_number count s behind in
              (fits.0, fits.1, fits.2, fits.3, fits.4, rest (no_lower s fits.0 fits.1 (omega (arith, from, fitting.0))))

      with_moved_fits : (step : Step) (position : ℕ) (t : Tree) → step.schema_number ≡ n.number → FitsBy Held f 0 t
          → FitsBy Held f 0 (with_moved step position t)
      with_moved_fits step position t of fits = by (instance_branch step.schema_number (instance_index step) t)
          (subst (λ k. OnSome FitsNode (instance_branch k (instance_index step) t)) (sym of) (instance_fits (instance_index step) 0 t fits))
        where
          by : (o : Option Branch) → OnSome FitsNode o
              → FitsBy Held f 0 (option_map_or (λ b. with_branch_behind b (position - 1) (without step t)) o t)
          by None so = fits
          by (Some b) so = behind_fits b (position - 1) 0 (without step t) so (omega arith) (without_fits step 0 t of fits)

-- ---- edits

-- `Held` says which values a node may have; `Extra` is what is asked of a row of the schema, besides that it stands in it;
-- `Given` is what holds of the JSON value of any text
module _ (s : Schema) (Held : SchemaNode → Option Raw → Type 0) (Extra : Forest SchemaNode → Type 0) (Given : Data → Type 0) where
  -- what is asked of a row is so of the rows below it, and a value with no refusal may be held and fits
  record IsSound : Type 0 where
    given : (text : Text) (d : Data) → json_of text ≡ Some d → Given d
    extra_below : (f : Forest SchemaNode) (n : SchemaNode) (g : Forest SchemaNode) → InRow n g (data_row f) → Extra f → Extra g
    holds : (f : Forest SchemaNode) (n : SchemaNode) (g : Forest SchemaNode) (d : Data) → InRow n g (data_row f) → Stands s g → Extra f → Given d
        → first_wrong (instance_visits s n g [] d) ≡ None
        → Held n (raw_in n.kind d) × FitsBy Held g 0 (stored_rows s (Some n.module_number) g (members_of d))

  -- ---- where an edit stands

  -- the row of a target fits, and with a change of it that does so the whole fits
  record TargetFits (f : Forest SchemaNode) (tree : Tree) (t : Target) : Type 0 where
    row : Forest SchemaNode
    below : Forest SchemaNode
    stands : Stands s row
    extra : Extra row
    there : InRow t.last.schema_node below (data_row row)
    fits : FitsBy Held row 0 t.row
    keeps : (change : Tree → Tree) → FitsBy Held row 0 (change t.row) → FitsBy Held f 0 (edit_at t.above change tree)

  target_fits : (f : Forest SchemaNode) (tree : Tree) (bs : List BoundStep) → IsSound → Stands s f → Extra f → BoundIn f bs → FitsBy Held f 0 tree
      → If (TargetFits f tree) (target s tree bs)
  target_fits f tree [] sound stands extra bound fits = tt
  target_fits f tree (b ∷ []) sound stands extra bound fits =
      record { row = f; below = bound.0; stands = stands; extra = extra; there = bound.1; fits = fits; keeps = λ change so. so }
  target_fits f tree (b ∷ c ∷ bs) sound stands extra bound fits =
      if_then (IsOf b.schema_node.number) (TargetFits f tree) (instance_meant s 4 tree b.schema_node b.predicate) _
      (meant_of s 4 tree b.schema_node b.predicate)
      (λ step of. if_then (TargetFits bound.0 (row_at step.schema_number (instance_index step) tree)) (TargetFits f tree)
      (target s (row_at step.schema_number (instance_index step) tree) (c ∷ bs)) _
      (target_fits bound.0 (row_at step.schema_number (instance_index step) tree) (c ∷ bs) sound
      (stands_below s f b.schema_node bound.0 stands bound.1) (sound.extra_below f b.schema_node bound.0 bound.1 extra) bound.2
      (subst (λ k. FitsBy Held bound.0 0 (row_at k (instance_index step) tree)) (sym of)
      (row_there Held f b.schema_node bound.0 (is_child s f b.schema_node bound.0 stands bound.1) (instance_index step) 0 tree fits)))
      (λ t inner. record {
        row = inner.row;
        below = inner.below;
        stands = inner.stands;
        extra = inner.extra;
        there = inner.there;
        fits = inner.fits;
        keeps = λ change so. subst (λ k. FitsBy Held f 0 (forest.change_below (is_of k) (instance_index step) (edit_at t.above change) tree)) (sym of)
            (lifted Held f b.schema_node bound.0 (is_child s f b.schema_node bound.0 stands bound.1) (instance_index step) 0 (edit_at t.above change) tree fits
            (subst (λ k. FitsBy Held bound.0 0 (edit_at t.above change (row_at k (instance_index step) tree))) of (inner.keeps change so)));
      }))

  -- ---- values

  abbrev BranchFits : SchemaNode → Forest SchemaNode → Branch → Type 0
  BranchFits n g b = (b.label.schema_number ≡ n.number) × Held n b.label.value × FitsBy Held g 0 b.below

  -- the branch of data, judged so
  abbrev made : SchemaNode → Forest SchemaNode → Data → Option Refusal → Result Branch EditRefusal
  made n g d o = option_map_or (λ r. value_refused r.code) o
      (Ok (record { label = record { schema_number = n.number; value = raw_in n.kind d }; below = stored_rows s (Some n.module_number) g (members_of d) }))

  branch_fits : (f : Forest SchemaNode) (n : SchemaNode) (g : Forest SchemaNode) (text : Text) → IsSound → Stands s f → Extra f → InRow n g (data_row f)
      → If (BranchFits n g) (branch_of s n.number text)
  branch_fits f n g text sound stands extra there = by (json_of text) refl
    where
      judged : (d : Data) (o : Option Refusal) → Given d → first_wrong (instance_visits s n g [] d) ≡ o → If (BranchFits n g) (made n g d o)
      judged d None given right = let held = sound.holds f n g d there (stands_below s f n g stands there) extra given right in (refl, held.0, held.1)
      judged d (Some r) given right = tt

      by : (o : Option Data) → json_of text ≡ o → If (BranchFits n g) (option_map_or (branch_at s n.number) o (refused 9))
      by None is = tt
      by (Some d) is =
          let at = is_at s f n g stands there in
          subst (λ (o : Option SchemaNode). If {E = EditRefusal} (BranchFits n g) (option_map_or (λ m. fitting_branch s m d) o (refused 2))) (sym at.0)
          (subst (λ (h : Forest SchemaNode). If (BranchFits n g) (made n h d (first_wrong (instance_visits s n h [] d)))) (sym at.1)
          (judged d (first_wrong (instance_visits s n g [] d)) (sound.given text d is) refl))

  -- ---- what they do

  limited : (t : Tree) → FitsBy Held s.nodes 0 t → If (FitsBy Held s.nodes 0) (within_limit t)
  limited t fits = if_cond (FitsBy Held s.nodes 0) (ltb document_limit (size t)) _ _ tt fits

  -- where nothing is there already, there is room
  has_room : (many : Bool) (count : ℕ) → (not many && ltb 0 count) ≡ false → many ≡ false → count ≡ 0
  has_room many count none one = let low = ltb-false 0 count (sym (ap (λ b. not b && ltb 0 count) one) ∙ none) in omega (arith, low)

  module _ (tree : Tree) (sound : IsSound) where
    created_fits : (text : Text) (t : Target) → TargetFits s.nodes tree t → If (FitsBy Held s.nodes 0) (created s tree text t)
    created_fits text t at = by (is_there t) refl
      where
        n : SchemaNode
        n = t.last.schema_node

        by : (b : Bool) → is_there t ≡ b
            → If (FitsBy Held s.nodes 0) (cond b (refused 8) (branch_of s t.last.schema_node.number text >>= (λ b. within_limit (edit_at t.above (with_branch b) tree))))
        by true there = tt
        by false free = if_then (BranchFits t.last.schema_node at.below) (FitsBy Held s.nodes 0) (branch_of s t.last.schema_node.number text) _
            (branch_fits at.row t.last.schema_node at.below text sound at.stands at.extra at.there)
            (λ b fitting. limited (edit_at t.above (with_branch b) tree) (at.keeps (with_branch b)
            (with_branch_fits Held at.row t.last.schema_node at.below (is_child s at.row t.last.schema_node at.below at.stands at.there) b 0 t.row fitting
            (has_room (is_many t.last.schema_node.kind) (instances_in t.row t.last.schema_node.number) free) (omega arith) at.fits)))

    replaced_fits : (text : Text) (t : Target) → TargetFits s.nodes tree t → If (FitsBy Held s.nodes 0) (replaced s tree text t)
    replaced_fits text t at =
        if_then (IsOf t.last.schema_node.number) (FitsBy Held s.nodes 0) (last_meant s t) _ (meant_of s 7 t.row t.last.schema_node t.last.predicate)
        (λ step of. if_then (BranchFits t.last.schema_node at.below) (FitsBy Held s.nodes 0) (branch_of s t.last.schema_node.number text) _
        (branch_fits at.row t.last.schema_node at.below text sound at.stands at.extra at.there)
        (λ b fitting. limited (edit_at t.above (with_instead step b) tree) (at.keeps (with_instead step b)
        (with_instead_fits Held at.row t.last.schema_node at.below (is_child s at.row t.last.schema_node at.below at.stands at.there) step b 0 t.row fitting of at.fits))))

    removed_fits : (t : Target) → TargetFits s.nodes tree t → If (FitsBy Held s.nodes 0) (removed s tree t)
    removed_fits t at =
        if_then (IsOf t.last.schema_node.number) (FitsBy Held s.nodes 0) (last_meant s t) _ (meant_of s 7 t.row t.last.schema_node t.last.predicate)
        (λ step of. at.keeps (without step)
        (without_fits Held at.row t.last.schema_node at.below (is_child s at.row t.last.schema_node at.below at.stands at.there) step 0 t.row of at.fits))

    moved_fits : (position : ℕ) (t : Target) → TargetFits s.nodes tree t → IsMany t → If (FitsBy Held s.nodes 0) (moved s tree position t)
    moved_fits position t at many =
        if_then (IsOf t.last.schema_node.number) (FitsBy Held s.nodes 0) (last_meant s t) _ (meant_of s 7 t.row t.last.schema_node t.last.predicate)
        (λ step of. if_cond (FitsBy Held s.nodes 0) (ltb _ position) (refused 5) (Ok (edit_at t.above (with_moved step position) tree)) tt
        (at.keeps (with_moved step position)
        (with_moved_fits Held at.row t.last.schema_node at.below (is_child s at.row t.last.schema_node at.below at.stands at.there) many step position t.row of at.fits)))

    found_to_move : (path : Path) (position : ℕ) → IsNumbered 0 s.nodes → Extra s.nodes → FitsBy Held s.nodes 0 tree
        → If (λ t. TargetFits s.nodes tree t × IsMany t) (target_to_move s tree path position)
    found_to_move path position numbered extra fits =
        if_then (λ bs. BoundIn s.nodes bs × EndsInMany bs) (λ t. TargetFits s.nodes tree t × IsMany t) (bound_to_move s path position) _
        (to_move (BoundIn s.nodes) s path position (path_bound s false path))
        (λ bs inner. if_both (TargetFits s.nodes tree) IsMany (target s tree bs)
        (target_fits s.nodes tree bs sound ((0, numbered), schema_has_all s numbered) extra inner.0 fits) (target_many s tree bs inner.1))

    found_target : (is_create : Bool) (path : Path) → IsNumbered 0 s.nodes → Extra s.nodes → FitsBy Held s.nodes 0 tree
        → If (TargetFits s.nodes tree) (target_of s tree is_create path)
    found_target is_create path numbered extra fits =
        if_then (BoundIn s.nodes) (TargetFits s.nodes tree) (bound s is_create path) _ (path_bound s is_create path)
        (λ bs inner. target_fits s.nodes tree bs sound ((0, numbered), schema_has_all s numbered) extra inner fits)

    applied_fits : (e : Edit) → IsNumbered 0 s.nodes → Extra s.nodes → FitsBy Held s.nodes 0 tree → If (FitsBy Held s.nodes 0) (applied s tree e)
    unfolding applied
    applied_fits (create path text) numbered extra fits =
        if_then (TargetFits s.nodes tree) (FitsBy Held s.nodes 0) (target_of s tree true path) _ (found_target true path numbered extra fits) (created_fits text)
    applied_fits (replace path text) numbered extra fits =
        if_then (TargetFits s.nodes tree) (FitsBy Held s.nodes 0) (target_of s tree false path) _ (found_target false path numbered extra fits) (replaced_fits text)
    applied_fits (remove path) numbered extra fits =
        if_then (TargetFits s.nodes tree) (FitsBy Held s.nodes 0) (target_of s tree false path) _ (found_target false path numbered extra fits) removed_fits
    applied_fits (move_to path position) numbered extra fits =
        if_then (λ t. TargetFits s.nodes tree t × IsMany t) (FitsBy Held s.nodes 0) (target_to_move s tree path position) _
        (found_to_move path position numbered extra fits) (λ t so. moved_fits position t so.0 so.1)

-- ---- the laws

shape_sound : (s : Schema) → IsSound s (λ n value. Unit {0}) (λ f. Unit {0}) (λ d. Unit {0})
shape_sound s = record {
  given = λ text d is. tt;
  extra_below = λ f n g there extra. tt;
  holds = λ f n g d there stands extra given right. (
    tt,
    row_fits s (λ n value. Unit {0}) (λ parent children ms. Unit {0}) (λ parent children ms right. ever_held s parent (data_row children) ms)
        (Some n.module_number) g stands.0.0 (members_of d) stands.0.1 tt,
  );
}

-- whatever leafs hold
pub edit_fits : (s : Schema) (tree : Tree) (e : Edit) → IsNumbered 0 s.nodes → Fits s tree → If (Fits s) (applied s tree e)
edit_fits s tree e numbered fits = applied_fits s (λ n value. Unit {0}) (λ f. Unit {0}) (λ d. Unit {0}) tree (shape_sound s) e numbered tt fits

differs_there : (s : Schema) (n : SchemaNode) (g f : Forest SchemaNode) → EachDiffers s f → InRow n g f → BelowDiffers s n g
differs_there s n g f differ first = differ.0
differs_there s n g f differ (later {after = others} there) = differs_there s n g others differ.1 there

-- names differ in a row and below it, and below a leaf stands nothing
abbrev IsApart : Schema → Forest SchemaNode → Type 0
IsApart s f = AllDiffer s f × LeafsAreBare f

apart_there : (s : Schema) (n : SchemaNode) (g f : Forest SchemaNode) → IsApart s f → InRow n g (data_row f) → BelowDiffers s n g
apart_there s n g f apart there = differs_there s n g (data_row f) (each_differs s f apart.0 apart.1) there

value_sound : (s : Schema) → IsSound s HasForm (IsApart s) IsGood
value_sound s = record {
  given = json_is_good;
  extra_below = λ f n g there extra. let below = apart_there s n g f extra there in (below.1, below.3);
  holds = λ f n g d there stands extra given right.
      let held = instance_held s n g [] d (apart_there s n g f extra there) given right in
      (held.0, right_rows s (Some n.module_number) g stands.0.0 (members_of d) stands.0.1 held.1);
}

-- in values too, where no two siblings are written with one name
pub edit_whole : (s : Schema) (tree : Tree) (e : Edit) → IsNumbered 0 s.nodes → NamesDiffer s → LeafsAreBare s.nodes → IsDocument s tree
    → If (IsDocument s) (applied s tree e)
edit_whole s tree e numbered differ bare whole = applied_fits s HasForm (IsApart s) IsGood tree (value_sound s) e numbered (differ.1, bare) whole

text_sound : (s : Schema) → IsSound s HoldsText (λ f. Unit {0}) IsRead
text_sound s = record {
  given = json_is_read;
  extra_below = λ f n g there extra. tt;
  holds = λ f n g d there stands extra given right.
      (value_held n d given, rows_hold s (Some n.module_number) g stands.0.0 (members_of d) stands.0.1 (members_texts d given));
}

-- its texts stay UTF-8
pub edit_holds : (s : Schema) (tree : Tree) (e : Edit) → IsNumbered 0 s.nodes → FitsBy HoldsText s.nodes 0 tree → If (FitsBy HoldsText s.nodes 0) (applied s tree e)
edit_holds s tree e numbered fits = applied_fits s HoldsText (λ f. Unit {0}) IsRead tree (text_sound s) e numbered tt fits

pub edits_fit : (s : Schema) (tree : Tree) (edits : List Edit) → IsNumbered 0 s.nodes → Fits s tree → Fits s (after s tree edits)
edits_fit s tree edits numbered fits = edits_keep (Fits s) s tree edits (λ t e so. edit_fits s t e numbered so) fits

pub edits_whole : (s : Schema) (tree : Tree) (edits : List Edit) → IsNumbered 0 s.nodes → NamesDiffer s → LeafsAreBare s.nodes → IsDocument s tree
    → IsDocument s (after s tree edits)
edits_whole s tree edits numbered differ bare whole = edits_keep (IsDocument s) s tree edits (λ t e so. edit_whole s t e numbered differ bare so) whole
