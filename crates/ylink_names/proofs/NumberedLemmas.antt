-- What a table by statement number holds of the statements of a set, where it holds one thing of each.
use Rattle.std.proofs.Common.{◌≡◌, ℕ, zero, suc, ◌+◌, Bool, false, not, List, [], ◌∷◌, ◌++◌, length, map, Option, Some, is_some, refl, sym, ap, ap₂, ◌∙◌, arith}
use Rattle.std.specs.Prelude.{slice_get, option_and_then, unwrap_or, ◌&&◌}
use Rattle.std.specs.List.{flat_map}
use Rattle.std.proofs.lemmas.Grind.{flat_map-append}
use Rattle.std.proofs.lemmas.List.{append_assoc, append-nil, length-append, length-map, map-append}
use Rattle.yspec.specs.Forest.{Forest, end, node, size, preorder}
use Rattle.yspec.specs.linking.Source.{Source}
use Rattle.yspec.specs.linking.Scopes.{Placed, placed, statements_of, meaning, kind_named, names_built_in, lost_break}
use Rattle.yspec.specs.schema.Breaks.{when, broken}
use Rattle.yspec.proofs.BasicLemmas.{is_some_map}
use Rattle.ybase_preorder.specs.Layout.{numbered_by}
use Rattle.ylink_grammar.specs.declared.source.Source as held
use Rattle.ylink_grammar.specs.SourceView.{source_view}
use Rattle.ylink_names.specs.EdgeView.{circle_by, flag_at}
use Rattle.ylink_names.specs.MeaningView.{number_meant, meaning_at, lost_by, AreMeanings}
use Rattle.ylink_names.specs.ScopeView.{placed_at}

pub get_behind : {A : Type 0} (before after : List A) (x : A) (n : ℕ) → length before ≡ n → slice_get (before ++ x ∷ after) n ≡ Some x
get_behind [] after x zero e = refl
get_behind [] after x (suc n) e = absurd (omega arith)
get_behind (y ∷ before) after x zero e = absurd (omega arith)
get_behind (y ∷ before) after x (suc n) e = get_behind before after x n (omega arith)

-- there are as many as statements
pub length_placed : {L : Type 0} (see : ℕ → L → Source) (ancestors : List (Source × Forest Source)) (k : ℕ) (f : Forest L)
    → length (placed ancestors (numbered_by see k f)) ≡ size f
unfolding placed
length_placed see ancestors k end = refl
length_placed see ancestors k (node l below after) =
    let s = see k l in
    let inner = numbered_by see (k + 1) below in
    let under = placed ((s, inner) ∷ ancestors) inner in
    let behind = placed ancestors (numbered_by see (k + suc (size below)) after) in
    ap suc (length-append under behind ∙ ap₂ (λ a b. a + b) (length_placed see ((s, inner) ∷ ancestors) (k + 1) below) (length_placed see ancestors (k + suc (size below)) after))

module _ {A B : Type 0} (m : Placed → A) (g : Source → Option A → List B) (table : List A) where
  pub by_number_from : (ancestors : List (Source × Forest Source)) (k : ℕ) (f : Forest held.Source) (before after : List A)
      → length before ≡ k → table ≡ before ++ (map m (placed ancestors (numbered_by source_view k f)) ++ after)
      → flat_map (λ s. g s (slice_get table s.number)) (preorder (numbered_by source_view k f))
      ≡ flat_map (λ p. g p.source (Some (m p))) (placed ancestors (numbered_by source_view k f))
  unfolding placed
  by_number_from ancestors k end before after count held_is = refl
  by_number_from ancestors k (node l below behind) before after count held_is =
      let s = source_view k l in
      let inner = numbered_by source_view (k + 1) below in
      let outer = numbered_by source_view (k + suc (size below)) behind in
      let p = placed_at s inner ancestors in
      let under = placed ((s, inner) ∷ ancestors) inner in
      let others = placed ancestors outer in
      let all_under = map m under in
      let all_others = map m others in
      let look : Source → List B = λ s. g s (slice_get table s.number) in
      let parted : table ≡ before ++ (m p ∷ (all_under ++ (all_others ++ after))) =
      held_is ∙ ap (λ l. before ++ (m p ∷ l)) (ap (λ l. l ++ after) (map-append m under others) ∙ append_assoc all_under all_others after) in
      let here : slice_get table k ≡ Some (m p) =
      ap (λ ms. slice_get ms k) parted ∙ (get_behind before (all_under ++ (all_others ++ after)) (m p) k count) in
      let one : length (before ++ m p ∷ []) ≡ k + 1 = length-append before (m p ∷ []) ∙ omega (arith, count) in
      let first = by_number_from ((s, inner) ∷ ancestors) (k + 1) below (before ++ m p ∷ []) (all_others ++ after) one
      (parted ∙ sym (append_assoc before (m p ∷ []) (all_under ++ (all_others ++ after)))) in
      let many : length ((before ++ m p ∷ []) ++ all_under) ≡ k + suc (size below) =
      length-append (before ++ m p ∷ []) all_under ∙ omega (arith, one, length-map under m, length_placed source_view ((s, inner) ∷ ancestors) (k + 1) below) in
      let rest = by_number_from ancestors (k + suc (size below)) behind ((before ++ m p ∷ []) ++ all_under) after many
      (parted ∙ (sym (append_assoc before (m p ∷ []) (all_under ++ (all_others ++ after)))
      ∙ sym (append_assoc (before ++ m p ∷ []) all_under (all_others ++ after)))) in
      ap₂ (λ o l. g s o ++ l) here
      (flat_map-append look (preorder inner) (preorder outer) ∙ (ap₂ (λ a b. a ++ b) first rest
      ∙ sym (flat_map-append (λ p. g p.source (Some (m p))) under others)))

-- ---- names that are lost

lost_of : (modules : Forest Source) (ps : List Placed)
    → flat_map (λ p. lost_by p.source (number_meant modules p)) ps ≡ flat_map (lost_break modules) ps
lost_of modules [] = refl
lost_of modules (p ∷ ps) =
    ap₂ (λ b l. when (is_some (kind_named p.source.keyword) && (not (names_built_in p.source) && not b)) (broken 8 p.source.home p.source.statement.line) ++ l)
    (sym (is_some_map (λ d. d.number) (meaning modules p))) (lost_of modules ps)

pub all_lost : (f : Forest held.Source) (meanings : List (Option ℕ)) → AreMeanings meanings (numbered_by source_view 0 f)
    → flat_map (λ s. lost_by s (meaning_at meanings s.number)) (preorder (numbered_by source_view 0 f))
    ≡ flat_map (lost_break (numbered_by source_view 0 f)) (statements_of (numbered_by source_view 0 f))
all_lost f meanings are =
    let modules = numbered_by source_view 0 f in
    by_number_from (number_meant modules) (λ s m. lost_by s (option_and_then (λ o. o) m)) meanings [] 0 f [] [] refl (are ∙ sym (append-nil (map (number_meant modules) (statements_of modules))))
    ∙ lost_of modules (statements_of modules)

-- ---- what is circular

pub all_circular : (f : Forest held.Source) (circular : List Bool) (flag : Placed → Bool) → circular ≡ map flag (statements_of (numbered_by source_view 0 f))
    → flat_map (λ s. circle_by s (flag_at circular s.number)) (preorder (numbered_by source_view 0 f))
    ≡ flat_map (λ p. circle_by p.source (flag p)) (statements_of (numbered_by source_view 0 f))
all_circular f circular flag are =
    let modules = numbered_by source_view 0 f in
    by_number_from flag (λ s b. circle_by s (unwrap_or b false)) circular [] 0 f [] [] refl (are ∙ sym (append-nil (map flag (statements_of modules))))
