-- What a search in folders finds, by the reads of it.
use Rattle.std.specs.Prelude.{◌≡◌, ℕ, suc, ◌++◌, Bool, true, false, List, [], ◌∷◌, map, Option, Some, None, option_map, string_bytes, is_err, Result, Ok, Err}
use Rattle.std.specs.List.{list_any}
use Rattle.yspec.specs.Forest.{Forest}
use Rattle.yspec.specs.text.Text.{Text}
use Rattle.yspec.specs.text.Statement.{Statement, Slip}
use Rattle.yspec_wide.specs.Language.{Language}
use Rattle.yspec_wide.specs.Texts.{module_in}
use Rattle.yspec_search.specs.Search.{Answers, Found, Search, Sight, Wanted, is_refused, is_wanted, meets, name_below, name_of, search_for, search_on, wanted_below, wanted_of_all}
use Rattle.ytext.specs.View.{modules_view}
use Rattle.ytext.specs.declared.statement.Module.{Module}
use Rattle.ylink_search.specs.WantedView.{wanted_views}
use Rattle.yapp_search.specs.Reading.{FileAnswers, Keeps, Store, WasStopped, WereAsked, WereRead, texts_of}
use Rattle.yapp_search.specs.declared.looking.FoundFile.{FoundFile}
use Rattle.yapp_search.specs.declared.starting.Sought.{Sought}

-- ---- the whole

-- nothing is looked for where a named file couldn't be read
abbrev pub search_behind : Language → List Text → Option (List (List ℕ)) → Answers → Search
search_behind language folders None answers = record { found = []; asked = [] }
search_behind language folders (Some texts) answers = search_for language folders texts answers

abbrev pub files_of_all : List Found → List Text
files_of_all found = map (λ (f : Found). f.file) found

-- The files of the named modules were read, and then those of a search for what they import, each of these reads having its answer.
-- The files that are found are those of the definition.
pub record WasSearched (language : Language) (folders names : List Text) (before after : Store) (found : List Text) : Type 0 where
  pub named : FileAnswers
  pub between : Store
  pub were_read : WereRead before between names named
  pub answers : FileAnswers
  pub were_asked : WereAsked between after (search_behind language folders (texts_of named) answers).asked answers
  pub kept : Keeps before after
  pub found_is : found ≡ files_of_all (search_behind language folders (texts_of named) answers).found

-- or memory was wanting
abbrev pub IsSearch : {X E : Type 0} → (X → List Text) → Language → List Text → List Text → Store → Store → Result X E → Type 0
IsSearch see language folders names before after (Ok found) = WasSearched language folders names before after (see found)
IsSearch see language folders names before after (Err e) = WasStopped before after

-- ---- its parts

-- a text was read as a module, or is refused
abbrev pub IsParsed : Result (Forest Statement) Slip → Option Module → Type 0
IsParsed answer None = is_err answer ≡ true
IsParsed answer (Some module_read) = answer ≡ Ok (modules_view (module_read ∷ []))

-- a file was found that contains this
abbrev pub IsFile : Language → List ℕ → Text → FoundFile → Type 0
IsFile language bytes file f = (string_bytes f.file ≡ file) × IsParsed (module_in language bytes) f.text

-- whether what was read has what is wanted
abbrev pub MeetsParsed : Wanted → Option Module → Bool → Type 0
MeetsParsed w None b = b ≡ true
MeetsParsed w (Some module_read) b = b ≡ is_wanted w (modules_view (module_read ∷ []))

-- what a text comes to
abbrev pub IsMet : Language → Wanted → Text → List ℕ → Option FoundFile → Type 0
IsMet language w file bytes None = meets w (module_in language bytes) ≡ false
IsMet language w file bytes (Some f) = (meets w (module_in language bytes) ≡ true) × IsFile language bytes file f

-- what an answer comes to
abbrev pub IsSeen : Language → Wanted → Text → Option (List ℕ) → Option FoundFile → Type 0
IsSeen language w file None f = f ≡ None
IsSeen language w file (Some bytes) f = IsMet language w file bytes f

-- a file was asked, and is the one or isn't
abbrev pub Asks : {E : Type 0} → Language → Wanted → Text → Store → Store → Result (Option FoundFile) E → Type 0
Asks language w file before after (Ok f) = (answer : Option (List ℕ)) × WereAsked before after (file ∷ []) (answer ∷ []) × IsSeen language w file answer f
Asks language w file before after (Err e) = WasStopped before after

-- what was found, as the definition has it
abbrev pub IsFoundAs : Language → Option FoundFile → Option Found → Type 0
IsFoundAs language None None = Unit {0}
IsFoundAs language None (Some found) = ⊥
IsFoundAs language (Some f) None = ⊥
IsFoundAs language (Some f) (Some found) = IsFile language found.bytes found.file f

-- files were asked, and answered so; whatever is answered behind, that is what is seen by it
pub record HasSeen (language : Language) (look : Answers → Sight) (before after : Store) (f : Option FoundFile) : Type 0 where
  pub found : Option Found
  pub asked : List Text
  pub past : FileAnswers
  pub were_asked : WereAsked before after asked past
  pub sees : (rest : Answers) → look (past ++ rest) ≡ record { found = found; asked = asked; rest = rest }
  pub is_found : IsFoundAs language f found

abbrev pub Looks : {E : Type 0} → Language → (Answers → Sight) → Store → Store → Result (Option FoundFile) E → Type 0
Looks language look before after (Ok f) = HasSeen language look before after f
Looks language look before after (Err e) = WasStopped before after

-- ---- what is still to be done

-- where no text is refused, what they import and their names
abbrev pub IsStart : Language → List (List ℕ) → Option Sought → Type 0
IsStart language texts None = list_any (is_refused language) texts ≡ true
IsStart language texts (Some s) = (wanted_views s.wanted.items ≡ wanted_of_all language texts)
    × ((map string_bytes s.known.items ≡ map (λ t. name_of (module_in language t)) texts) × (s.found.items ≡ []))

-- a module's imports are wanted, and its name is known
pub record AddsModule (top : Forest Statement) (old new : Sought) : Type 0 where
  pub wanted : wanted_views new.wanted.items ≡ wanted_views old.wanted.items ++ wanted_below top
  pub known : map string_bytes new.known.items ≡ map string_bytes old.known.items ++ name_below top ∷ []
  pub found : new.found.items ≡ old.found.items

-- what a file adds that was found
abbrev pub wanted_then : Option Module → List Wanted → List Wanted
wanted_then None wanted = []
wanted_then (Some module_read) wanted = wanted ++ wanted_below (modules_view (module_read ∷ []))

pub record Takes (name : Text) (f : FoundFile) (old new : Sought) : Type 0 where
  pub wanted : wanted_views new.wanted.items ≡ wanted_then f.text (wanted_views old.wanted.items)
  pub known : map string_bytes new.known.items ≡ map string_bytes old.known.items ++ name ∷ []
  pub files : map string_bytes new.found.items ≡ map string_bytes old.found.items ++ string_bytes f.file ∷ []

-- ---- a search and what is left of it

abbrev pub plus : List Found → List Text → Search → Search
plus found asked s = record { found = found ++ s.found; asked = asked ++ s.asked }

-- Files were asked, and answered so; whatever is answered behind, the one search is what was found and asked, and then the other.
pub record Leads (whole left : Answers → Search) (before after : Store) (old new : List Text) : Type 0 where
  pub found : List Found
  pub asked : List Text
  pub past : FileAnswers
  pub were_asked : WereAsked before after asked past
  pub goes_on : (rest : Answers) → whole (past ++ rest) ≡ plus found asked (left rest)
  pub files_are : new ≡ old ++ files_of_all found

-- what is left to be looked for
abbrev pub left_of : Language → List Text → ℕ → Sought → Answers → Search
left_of language folders count s = search_on language folders count (wanted_views s.wanted.items) (map string_bytes s.known.items)

-- an import is looked at
abbrev pub GoesOn : {E : Type 0} → Language → List Text → Wanted → Sought → Sought → Store → Store → Result (Unit {0}) E → Type 0
GoesOn language folders w old new before after (Ok done) = (count : ℕ) → Leads
    (search_on language folders (suc count) (w ∷ wanted_views old.wanted.items) (map string_bytes old.known.items)) (left_of language folders count new)
    before after (map string_bytes old.found.items) (map string_bytes new.found.items)
GoesOn language folders w old new before after (Err e) = WasStopped before after

-- what is found of a search
abbrev pub IsSearchIn : {X E : Type 0} → (X → List Text) → (Answers → Search) → Store → Store → Result X E → Type 0
IsSearchIn see search before after (Ok found) = (answers : FileAnswers) × WereAsked before after (search answers).asked answers
    × (see found ≡ files_of_all (search answers).found)
IsSearchIn see search before after (Err e) = WasStopped before after
