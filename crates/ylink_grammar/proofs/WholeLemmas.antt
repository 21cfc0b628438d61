-- Whole statements, one after another, as they come into the table.
use Rattle.std.proofs.Common.{◌≡◌, ℕ, zero, suc, Bool, true, false, List, [], ◌∷◌, ◌++◌, map, Option, Some, None, refl, sym, ap, ap₂, ◌∙◌, append_assoc}
use Rattle.std.specs.Prelude.{slice_get, option_map, option_and_then}
use Rattle.std.proofs.lemmas.List.{append-nil, map-append}
use Rattle.yspec.specs.Forest.{Forest, node, end}
use Rattle.yspec.specs.text.Statement.{Statement}
use Rattle.yspec.specs.linking.Keyword.{Keyword}
use Rattle.yspec.specs.linking.Source.{kept_keyword, unless_extension}
use Rattle.yspec.specs.linking.Keyword.{keyword_named}
use Rattle.yspec_wide.specs.Language.{Language, core}
use Rattle.yspec_wide.specs.Words.{known, word_named}
use Rattle.yspec_wide.specs.Sources.{keyword_kept, keyword_restricting, kept_keyword_in}
use Rattle.ytext.specs.View.{Labelled, view}
use Rattle.ytext.specs.declared.statement.Stmt.{Stmt}
use Rattle.ybase_preorder.specs.Layout.{Place, laid, opened, closed}
use Rattle.ybase_preorder.specs.View.{slots_in}
use Rattle.ybase_preorder.specs.declared.slot.Slot.{Slot}
use Rattle.ybase_preorder.specs.declared.table.Table.{Table}
use Rattle.ylink_grammar.specs.declared.source.Source.{Source}
use Rattle.ylink_grammar.specs.SourceView.{whole_rows}
use Rattle.ylink_grammar.specs.Wholes.{whole_at, wholes_of, wholes_in}

wholes-first : (g : Language) (s : Statement) (below after : Forest Statement) → wholes_in g (node s below after) ≡ wholes_in g (node s below end) ++ wholes_in g after
unfolding wholes_in
wholes-first g s below after = by (kept_keyword_in g false s)
  where
    by : (k : Option Keyword) → whole_at k s below (wholes_in g below) (wholes_in g after) ≡ whole_at k s below (wholes_in g below) [] ++ wholes_in g after
    by None = refl
    by (Some k) = ap (λ l. (s, below) ∷ (l ++ wholes_in g after)) (sym (append-nil (wholes_in g below)))

-- whether it is kept doesn't rest on its row
kept_anywhere : (g : Language) (restricting : Bool) (s : Statement) (below : Forest Statement) (inner after : List Labelled)
    → whole_at (kept_keyword_in g false s) s below inner after ≡ whole_at (kept_keyword_in g restricting s) s below inner after
kept_anywhere g false s below inner after = refl
kept_anywhere g true s below inner after = by (option_and_then keyword_kept (word_named g s.keyword))
  where
    by : (o : Option Keyword) → whole_at o s below inner after ≡ whole_at (option_map keyword_restricting o) s below inner after
    by None = refl
    by (Some k) = refl

pub wholes-none : (g : Language) (restricting : Bool) (s : Statement) (below : Forest Statement) → kept_keyword_in g restricting s ≡ None
    → wholes_in g (node s below end) ≡ []
unfolding wholes_in
wholes-none g restricting s below none =
    kept_anywhere g restricting s below (wholes_in g below) [] ∙ ap (λ k. whole_at k s below (wholes_in g below) []) none

wholes-some : (g : Language) (restricting : Bool) (s : Statement) (below : Forest Statement) (k : Keyword) → kept_keyword_in g restricting s ≡ Some k
    → wholes_in g (node s below end) ≡ (s, below) ∷ wholes_in g below
unfolding wholes_in
wholes-some g restricting s below k some =
    kept_anywhere g restricting s below (wholes_in g below) []
    ∙ (ap (λ k. whole_at k s below (wholes_in g below) []) some ∙ ap (λ l. (s, below) ∷ l) (append-nil (wholes_in g below)))

-- some are added, and others follow
pub then_more : (g : Language) (old new all : List Labelled) (s : Labelled) (left rest : Forest Statement) → left ≡ node s.0 s.1 rest
    → new ≡ old ++ wholes_in g (node s.0 s.1 end) → old ++ wholes_in g left ≡ all → new ++ wholes_in g rest ≡ all
then_more g old new all s left rest left_is added so =
    ap (λ l. l ++ wholes_in g rest) added
    ∙ (append_assoc old (wholes_in g (node s.0 s.1 end)) (wholes_in g rest)
    ∙ (ap (λ l. old ++ l) (sym (ap (wholes_in g) left_is ∙ wholes-first g s.0 s.1 rest)) ∙ so))

pub no_more : (g : Language) (rows all : List Labelled) (left : Forest Statement) → left ≡ end → rows ++ wholes_in g left ≡ all → rows ≡ all
unfolding wholes_in
no_more g rows all left ended so = sym (append-nil rows) ∙ (ap (λ f. rows ++ wholes_in g f) (sym ended) ∙ so)

-- ---- under the core

kept_alike : (o : Option Keyword) → option_and_then keyword_kept (option_map known o) ≡ option_and_then unless_extension o
kept_alike None = refl
kept_alike (Some k) = refl

pub wholes_alike : (f : Forest Statement) → wholes_in core f ≡ wholes_of f
unfolding wholes_in wholes_of
wholes_alike end = refl
wholes_alike (node s below after) =
    ap (λ o. whole_at o s below (wholes_in core below) (wholes_in core after)) (kept_alike (keyword_named s.keyword))
    ∙ ap₂ (λ inner others. whole_at (kept_keyword s) s below inner others) (wholes_alike below) (wholes_alike after)

-- ---- in the table

whole-closed : (n : ℕ) (ps : List (Place Source)) → map (λ p. view p.label.statement.now) (closed n ps) ≡ map (λ p. view p.label.statement.now) ps
whole-closed n [] = refl
whole-closed zero (p ∷ ps) = refl
whole-closed (suc n) (p ∷ ps) = ap (λ rest. view p.label.statement.now ∷ rest) (whole-closed n ps)

-- a statement is opened, all below it is added, and it is closed
pub added_whole : (g : Language) (restricting : Bool) (old mid full new : Table Source) (p : Option ℕ) (l : Source) (n : ℕ) (k : Keyword) (s : Stmt)
    → laid (slots_in mid) ≡ laid (slots_in old) ++ opened p l ∷ [] → l.statement.now ≡ s
    → whole_rows full ≡ whole_rows mid ++ wholes_in g (view s).1 → laid (slots_in new) ≡ closed n (laid (slots_in full))
    → kept_keyword_in g restricting (view s).0 ≡ Some k → whole_rows new ≡ whole_rows old ++ wholes_in g (node (view s).0 (view s).1 end)
added_whole g restricting old mid full new p l n k s mid_is same full_is new_is some =
    let see : Place Source → Labelled = λ p. view p.label.statement.now in
    let one : whole_rows mid ≡ whole_rows old ++ view s ∷ [] = ap (map see) mid_is
    ∙ (map-append see (laid (slots_in old)) (opened p l ∷ []) ∙ ap (λ x. whole_rows old ++ view x ∷ []) same) in
    ap (map see) new_is ∙ (whole-closed n (laid (slots_in full)) ∙ (full_is ∙ (ap (λ l. l ++ wholes_in g (view s).1) one
    ∙ (append_assoc (whole_rows old) (view s ∷ []) (wholes_in g (view s).1)
    ∙ ap (λ l. whole_rows old ++ l) (sym (wholes-some g restricting (view s).0 (view s).1 k some))))))

-- the statement of a number
pub whole_row_at : (slots : List (Slot Source)) (number : ℕ) → slice_get (map (λ p. view p.label.statement.now) (laid slots)) number
    ≡ option_map (λ (r : Slot Source). view r.label.statement.now) (slice_get slots number)
whole_row_at [] number = refl
whole_row_at (r ∷ slots) zero = refl
whole_row_at (r ∷ slots) (suc number) = whole_row_at slots number
