-- What comes of a command line with folders where modules are looked for.
use Rattle.std.specs.Prelude.{◌≡◌, ◌⊎◌, Bool, List, [], ◌∷◌}
use Rattle.yspec.specs.text.Text.{Text}
use Rattle.yspec_opening.specs.Opening.{Asked}
use Rattle.ybase_output.specs.Writing.{Side}
use Rattle.ybase_talk.specs.Talk.{Party}
use Rattle.yapp_words.specs.Running.{Brings, End, memory_told}
use Rattle.yapp_search.specs.Looking.{WasSearched}
use Rattle.yapp_search.specs.Reading.{Store, WasStopped}
use Rattle.yapp.specs.Requests.{asked_with, language_asked, modules_asked}
use Rattle.yapp.specs.Sessions.{Does}

-- The reads are two stretches: those of the search, and then those of what is asked for, with the found files behind its modules.
abbrev pub HasSearched : Store → Store → List Text → Asked → Bool → Party → Party → Side → Side → Side → Side → End → Type 0
HasSearched before after folders asked with_reasons caller caller_after output output_after errors errors_after end =
    (found : List Text) × (between : Store) × WasSearched (language_asked asked) folders (modules_asked asked) before between found
    × Does between after (asked_with asked found) with_reasons caller caller_after output output_after errors errors_after end

-- memory was wanting in the search
abbrev pub WasShort : Store → Store → Party → Party → Side → Side → Side → Side → End → Type 0
WasShort before after caller caller_after output output_after errors errors_after end =
    WasStopped before after × (caller_after ≡ caller) × Brings output output_after errors errors_after memory_told end

-- without a folder nothing is looked for
abbrev pub DoesIn : List Text → Store → Store → Asked → Bool → Party → Party → Side → Side → Side → Side → End → Type 0
DoesIn [] before after asked with_reasons caller caller_after output output_after errors errors_after end =
    Does before after asked with_reasons caller caller_after output output_after errors errors_after end
DoesIn (folder ∷ folders) before after asked with_reasons caller caller_after output output_after errors errors_after end =
    HasSearched before after (folder ∷ folders) asked with_reasons caller caller_after output output_after errors errors_after end
    ⊎ WasShort before after caller caller_after output output_after errors errors_after end
