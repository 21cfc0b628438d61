-- What becomes of the edits since a document.
use Rattle.std.proofs.Common.{◌≡◌, ℕ, ◌+◌, ◌<◌, ◌++◌, [], ◌∷◌, List, Vec, length, take, drop, Option, refl, sym, ap, ap₂, ◌∙◌}
use Rattle.std.specs.List.{flat_map, insert}
use Rattle.std.proofs.lemmas.List.{drop-map, map-append, take-map}
use Rattle.yspec.specs.edit.EditText.{Edit}
use Rattle.yspec_session.specs.Remembering.{Kept, Later, Since}
use Rattle.yinst_path.specs.declared.edit.Edit as rust
use Rattle.yapp_session.specs.View.{group_view, groups_view}
use Rattle.yapp_session.proofs.ListLemmas.{put_there}

-- the first of some groups
pub first_groups : {A : Type 0} (n : ℕ) (before after : List (Vec rust.Edit A)) → after ≡ take n before → groups_view after ≡ take n (groups_view before)
first_groups {A = A} n before after is = ap groups_view is ∙ sym (take-map (group_view {A = A}) n before)

-- those behind the first
pub last_groups : {A : Type 0} (n : ℕ) (before after : List (Vec rust.Edit A)) → after ≡ drop n before → groups_view after ≡ drop n (groups_view before)
last_groups {A = A} n before after is = ap groups_view is ∙ sym (drop-map (group_view {A = A}) n before)

-- a group in place of those from a number on
pub group_put : {A : Type 0} (n : ℕ) (g : Vec rust.Edit A) (before put after : List (Vec rust.Edit A)) → n < length before → put ≡ insert before n g → after ≡ take (n + 1) put
    → groups_view after ≡ take n (groups_view before) ++ group_view g ∷ []
group_put {A = A} n g before put after within is cut =
    ap groups_view (cut ∙ (ap (take (n + 1)) is ∙ put_there before n g within))
    ∙ (map-append (group_view {A = A}) (take n before) (g ∷ [])
    ∙ ap (λ gs. gs ++ group_view g ∷ []) (sym (take-map (group_view {A = A}) n before)))

-- the groups from a number on, as one
joined_so : {A : Type 0} (gs : List (Vec rust.Edit A)) → flat_map group_view gs ≡ flat_map (λ g. g) (groups_view gs)
joined_so [] = refl
joined_so (g ∷ gs) = ap (λ es. group_view g ++ es) (joined_so gs)

pub joined_groups : {A : Type 0} (n : ℕ) (gs : List (Vec rust.Edit A)) → flat_map group_view (drop n gs) ≡ flat_map (λ g. g) (drop n (groups_view gs))
joined_groups {A = A} n gs = joined_so (drop n gs) ∙ sym (ap (flat_map (λ g. g)) (drop-map (group_view {A = A}) n gs))

-- a past by its parts that change
pub past_as : (k : Kept) (gs hs : List (List Edit)) (m n : ℕ) (b : Option Since) (o p : Option Later) → gs ≡ hs → m ≡ n → o ≡ p
    → record k { groups = gs; kept = m; begun = b; later = o } ≡ record k { groups = hs; kept = n; begun = b; later = p }
past_as k gs hs m n b o p groups kept later =
    ap₂ (λ (gs : List (List Edit)) (n : ℕ). record k { groups = gs; kept = n; begun = b; later = o }) groups kept
    ∙ ap (λ (o : Option Later). record k { groups = hs; kept = n; begun = b; later = o }) later
