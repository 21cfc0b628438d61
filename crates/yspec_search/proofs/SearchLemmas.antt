-- Searches that find nothing.
use Rattle.std.proofs.Common.{◌≡◌, ℕ, zero, suc, Bool, true, false, List, [], ◌∷◌, ◌++◌, refl, ap, ◌∙◌}
use Rattle.std.specs.Prelude.{◌&&◌}
use Rattle.std.specs.List.{list_all, list_any}
use Rattle.yspec.specs.text.Text.{Text, is_text}
use Rattle.yspec_wide.specs.Language.{Language}
use Rattle.yspec_search.specs.Search.{Answers, Search, Sight, Wanted, behind, known_behind, search_on, sought, unseen, wanted_behind}

abbrev pub nothing_found : Search
nothing_found = record { found = []; asked = [] }

both : (a b : Bool) → (a && b) ≡ true → (a ≡ true) × (b ≡ true)
both true b e = (refl, e)
both false b e = absurd cc

abbrev pub are_known : List Text → List Wanted → Bool
are_known known wanted = list_all (λ w. list_any (is_text w.name) known) wanted

-- what is behind a sight of nothing
after_nothing : (language : Language) (folders : List Text) (count : ℕ) (name : Text) (wanted : List Wanted) (known : List Text) (answers : Answers) (s : Sight)
    → s ≡ unseen answers → search_on language folders count wanted known answers ≡ nothing_found
    → behind s (search_on language folders count (wanted_behind language s.found wanted) (known_behind s.found name known) s.rest) ≡ nothing_found
after_nothing language folders count name wanted known answers s is others =
    ap (λ (t : Sight). behind t (search_on language folders count (wanted_behind language t.found wanted) (known_behind t.found name known) t.rest)) is
    ∙ ap (behind (unseen answers)) others

no_folder : (b : Bool) (language : Language) (w : Wanted) (answers : Answers) → sought b language [] w answers ≡ unseen answers
no_folder true language w answers = refl
no_folder false language w answers = refl

pub without_a_folder : (language : Language) (count : ℕ) (wanted : List Wanted) (known : List Text) (answers : Answers)
    → search_on language [] count wanted known answers ≡ nothing_found
unfolding search_on
without_a_folder language zero wanted known answers = refl
without_a_folder language (suc count) [] known answers = refl
without_a_folder language (suc count) (w ∷ wanted) known answers = after_nothing language [] count w.name wanted known answers
    (sought (list_any (is_text w.name) known) language [] w answers) (no_folder (list_any (is_text w.name) known) language w answers)
    (without_a_folder language count wanted known answers)

known_alone : (b : Bool) (language : Language) (folders : List Text) (w : Wanted) (answers : Answers) → b ≡ true → sought b language folders w answers ≡ unseen answers
known_alone true language folders w answers e = refl
known_alone false language folders w answers e = absurd cc

pub where_all_are_known : (language : Language) (folders : List Text) (count : ℕ) (wanted : List Wanted) (known : List Text) (answers : Answers)
    → are_known known wanted ≡ true → search_on language folders count wanted known answers ≡ nothing_found
unfolding search_on
where_all_are_known language folders zero wanted known answers e = refl
where_all_are_known language folders (suc count) [] known answers e = refl
where_all_are_known language folders (suc count) (w ∷ wanted) known answers e =
    let parts = both (list_any (is_text w.name) known) (are_known known wanted) e in
    after_nothing language folders count w.name wanted known answers
    (sought (list_any (is_text w.name) known) language folders w answers) (known_alone (list_any (is_text w.name) known) language folders w answers parts.0)
    (where_all_are_known language folders count wanted known answers parts.1)
