-- What files contain, as far as that is told, how often one was read, and how often that failed.
use Rattle.std.specs.Prelude.{◌≡◌, ℕ, ◌+◌, ◌≤◌, List, [], ◌∷◌, length, map, Option, Some, None, option_map, Result, Ok, Err}
use Rattle.yspec.specs.text.Text.{Text}
use Rattle.yapp_report.specs.Unread.{IsTold}

abbrev pub Contents : Type 0
Contents = Text → Option (List ℕ)

-- files, as they tell of themselves: what they contain, and how many reads of them were made, and how many failed
pub record Store : Type 0 where
  pub contents : Contents
  pub reads : ℕ
  pub failures : ℕ

abbrev pub store : {F : Type 0} → (F → Contents) → (F → ℕ) → (F → ℕ) → F → Store
store contents reads failures f = record { contents = contents f; reads = reads f; failures = failures f }

-- what files answered: contents, or that they couldn't be read
abbrev pub FileAnswers : Type 0
FileAnswers = List (Option (List ℕ))

-- how many couldn't be read
abbrev pub unread_in : FileAnswers → ℕ
unread_in [] = 0
unread_in (None ∷ answers) = unread_in answers + 1
unread_in (Some bytes ∷ answers) = unread_in answers

-- ---- files that are read up to the first that can't be

-- the files of some names answered so, in order: with what is told of them, up to the first that couldn't be read
abbrev pub Answered : Contents → List Text → FileAnswers → Type 0
Answered contents [] [] = Unit {0}
Answered contents [] (answer ∷ answers) = ⊥
Answered contents (name ∷ names) [] = ⊥
Answered contents (name ∷ names) (None ∷ answers) = answers ≡ []
Answered contents (name ∷ names) (Some bytes ∷ answers) = IsTold (contents name) bytes × Answered contents names answers

-- the files of some names were read, and answered so: one read a name, in order, up to the first that couldn't be read
pub record WereRead (before after : Store) (names : List Text) (answers : FileAnswers) : Type 0 where
  pub answered : Answered before.contents names answers
  pub reads : after.reads ≡ before.reads + length answers
  pub failures : after.failures ≡ before.failures + unread_in answers

-- memory was wanting: no read failed for another cause, and the file of each name was read at most once
pub record WasCut (before after : Store) (names : List Text) : Type 0 where
  pub failures : after.failures ≡ before.failures
  pub reads : after.reads ≤ before.reads + length names

-- ---- files that are asked, though some can't be read

-- with what is told of them
abbrev pub Replied : Contents → List Text → FileAnswers → Type 0
Replied contents [] [] = Unit {0}
Replied contents [] (answer ∷ answers) = ⊥
Replied contents (name ∷ names) [] = ⊥
Replied contents (name ∷ names) (None ∷ answers) = Replied contents names answers
Replied contents (name ∷ names) (Some bytes ∷ answers) = IsTold (contents name) bytes × Replied contents names answers

-- what is told of files stays
abbrev pub Keeps : Store → Store → Type 0
Keeps before after = (name : Text) → after.contents name ≡ before.contents name

-- the files of some names were asked, one read a name, in order, and answered so
pub record WereAsked (before after : Store) (names : List Text) (answers : FileAnswers) : Type 0 where
  pub replied : Replied before.contents names answers
  pub kept : Keeps before after
  pub reads : after.reads ≡ before.reads + length names
  pub failures : after.failures ≡ before.failures + unread_in answers

-- memory was wanting: of the reads that were made some failed for another cause
pub record WasStopped (before after : Store) : Type 0 where
  pub kept : Keeps before after
  pub more : before.reads ≤ after.reads
  pub failures : after.failures + before.reads ≤ before.failures + after.reads

-- the file of a name was asked, and answered so
abbrev pub IsAsked : {X E : Type 0} → (X → List ℕ) → Store → Store → Text → Result (Option X) E → Type 0
IsAsked see before after name (Ok answer) = WereAsked before after (name ∷ []) (option_map see answer ∷ [])
IsAsked see before after name (Err e) = WasStopped before after

-- the texts of all files, where each could be read
abbrev pub texts_of : FileAnswers → Option (List (List ℕ))
texts_of [] = Some []
texts_of (None ∷ answers) = None
texts_of (Some bytes ∷ answers) = option_map (λ texts. bytes ∷ texts) (texts_of answers)

-- all were read, or one couldn't be
abbrev pub AreTexts : {X E : Type 0} → (X → List (List ℕ)) → Store → Store → List Text → Result (Option X) E → Type 0
AreTexts see before after names (Ok texts) = (answers : FileAnswers) × WereRead before after names answers
    × Keeps before after × (option_map see texts ≡ texts_of answers)
AreTexts see before after names (Err e) = WasStopped before after
