-- What comes of words with folders where modules are looked for.
use Rattle.std.proofs.Common.{◌≡◌, inl, inr, suc, Bool, true, false, Bor, List, [], ◌∷◌, length, map, refl, subst, arith}
use Rattle.std.specs.Prelude.{◌==◌}
use Rattle.std.proofs.lemmas.Bool.{eqb-true}
use Rattle.yspec.specs.text.Text.{Text}
use Rattle.yspec_opening.specs.Opening.{Asked}
use Rattle.ybase_output.specs.Writing.{Side}
use Rattle.ybase_talk.specs.Talk.{Party}
use Rattle.yapp_words.specs.Running.{End}
use Rattle.yapp_search.specs.Looking.{WasSearched}
use Rattle.yapp_search.specs.Reading.{Store, WasStopped}
use Rattle.yapp.specs.Requests.{asked_with, language_asked, modules_asked}
use Rattle.yapp.specs.Searching.{DoesIn, HasSearched, WasShort}
use Rattle.yapp.specs.Sessions.{Does}

pub none_named : (names : List (Bor Text)) → (length names == 0) ≡ true → map (λ n. n.now) names ≡ []
none_named [] e = refl
none_named (name ∷ names) e = let none : suc (length names) ≡ 0 = eqb-true (suc (length names)) 0 e in absurd (omega (arith, none))

pub some_named : (names : List (Bor Text)) → (length names == 0) ≡ false → map (λ n. n.now) names ≡ [] → ⊥
some_named [] e none = cc
some_named (name ∷ names) e none = cc

pub never_stopped : (s : Store) → WasStopped s s
never_stopped s = record { kept = λ name. refl; more = omega arith; failures = omega arith }

-- there are none
pub does_plainly : (folders : List Text) (before after : Store) (asked : Asked) (with_reasons : Bool) (caller caller_after : Party)
    (output output_after errors errors_after : Side) (end : End) → folders ≡ []
    → Does before after asked with_reasons caller caller_after output output_after errors errors_after end
    → DoesIn folders before after asked with_reasons caller caller_after output output_after errors errors_after end
does_plainly [] before after asked with_reasons caller caller_after output output_after errors errors_after end none does = does
does_plainly (folder ∷ folders) before after asked with_reasons caller caller_after output output_after errors errors_after end none does = absurd cc

pub does_searched : (folders : List Text) (before after : Store) (asked : Asked) (with_reasons : Bool) (caller caller_after : Party)
    (output output_after errors errors_after : Side) (end : End) → (folders ≡ [] → ⊥)
    → HasSearched before after folders asked with_reasons caller caller_after output output_after errors errors_after end
    → DoesIn folders before after asked with_reasons caller caller_after output output_after errors errors_after end
does_searched [] before after asked with_reasons caller caller_after output output_after errors errors_after end some searched = absurd (some refl)
does_searched (folder ∷ folders) before after asked with_reasons caller caller_after output output_after errors errors_after end some searched = inl searched

pub does_short : (folders : List Text) (before after : Store) (asked : Asked) (with_reasons : Bool) (caller caller_after : Party)
    (output output_after errors errors_after : Side) (end : End) → (folders ≡ [] → ⊥)
    → WasShort before after caller caller_after output output_after errors errors_after end
    → DoesIn folders before after asked with_reasons caller caller_after output output_after errors errors_after end
does_short [] before after asked with_reasons caller caller_after output output_after errors errors_after end some short = absurd (some refl)
does_short (folder ∷ folders) before after asked with_reasons caller caller_after output output_after errors errors_after end some short = inr short

-- by the folders and files as they are handed on
pub has_searched : (folders given found held : List Text) (before between after : Store) (asked : Asked) (with_reasons : Bool) (caller caller_after : Party)
    (output output_after errors errors_after : Side) (end : End) → given ≡ folders → held ≡ found
    → WasSearched (language_asked asked) given (modules_asked asked) before between found
    → Does between after (asked_with asked held) with_reasons caller caller_after output output_after errors errors_after end
    → HasSearched before after folders asked with_reasons caller caller_after output output_after errors errors_after end
has_searched folders given found held before between after asked with_reasons caller caller_after output output_after errors errors_after end same held_is searched does = (
  found,
  between,
  subst (λ (fs : List Text). WasSearched (language_asked asked) fs (modules_asked asked) before between found) same searched,
  subst (λ (ns : List Text). Does between after (asked_with asked ns) with_reasons caller caller_after output output_after errors errors_after end) held_is does,
)

-- what comes of other words, which are the same
pub does_in_same : (folders others : List Text) (before after : Store) (asked other : Asked) (given wanted : Bool) (caller caller_after : Party)
    (output output_after errors errors_after : Side) (end : End) → folders ≡ others → asked ≡ other → given ≡ wanted
    → DoesIn folders before after asked given caller caller_after output output_after errors errors_after end
    → DoesIn others before after other wanted caller caller_after output output_after errors errors_after end
does_in_same folders others before after asked other given wanted caller caller_after output output_after errors errors_after end same_folders same reasons does =
    subst (λ (fs : List Text). DoesIn fs before after other wanted caller caller_after output output_after errors errors_after end) same_folders
    (subst (λ (b : Bool). DoesIn folders before after other b caller caller_after output output_after errors errors_after end) reasons
    (subst (λ (a : Asked). DoesIn folders before after a given caller caller_after output output_after errors errors_after end) same does))

-- memory was wanting for what words ask without a folder
pub does_in_same_without : (folders : List Text) (store : Store) (asked : Asked) (with_reasons : Bool) (caller : Party)
    (output output_after errors errors_after : Side) (end : End)
    → Does store store asked with_reasons caller caller output output_after errors errors_after end
    → WasShort store store caller caller output output_after errors errors_after end
    → DoesIn folders store store asked with_reasons caller caller output output_after errors errors_after end
does_in_same_without [] store asked with_reasons caller output output_after errors errors_after end does short = does
does_in_same_without (folder ∷ folders) store asked with_reasons caller output output_after errors errors_after end does short = inr short
