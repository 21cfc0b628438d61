-- Files that are looked at one after another.
use Rattle.std.proofs.Common.{◌≡◌, length, ◌++◌, Bool, true, false, List, [], ◌∷◌, ℕ, Option, Some, None, refl, sym, subst, ap, ◌∙◌, append_assoc, string_bytes, map}
use Rattle.std.specs.Prelude.{Result, Ok, Err, IfOk, IsErr}
use Rattle.std.proofs.lemmas.List.{append-nil}
use Rattle.std.specs.List.{list_any}
use Rattle.yspec.specs.Forest.{Forest}
use Rattle.yspec.specs.text.Text.{Text, is_text}
use Rattle.yspec.specs.text.Statement.{Statement, Slip}
use Rattle.yspec_wide.specs.Language.{Language}
use Rattle.yspec_wide.specs.Texts.{module_in}
use Rattle.yspec_search.specs.Search.{Answers, Found, Sight, Wanted, asking, files_for, first_that_meets, meets, seen_if, sought}
use Rattle.ytext.specs.declared.statement.Module.{Module}
use Rattle.yapp_search.specs.Reading.{FileAnswers, Store, WasStopped, WereAsked}
use Rattle.yapp_search.specs.Looking.{Asks, HasSeen, IsFile, IsMet, IsParsed, IsSeen, Looks, MeetsParsed}
use Rattle.yapp_search.specs.declared.looking.FoundFile.{FoundFile}
use Rattle.yapp_search.proofs.ReadingLemmas.{asked_both, none_asked, stopped_here, stopped_then}

-- ---- one text

pub meets_is : (w : Wanted) (answer : Result (Forest Statement) Slip) (m : Option Module) (b : Bool) → IsParsed answer m → MeetsParsed w m b → meets w answer ≡ b
meets_is w (Err slip) None b parsed is = sym is
meets_is w (Ok top) None b parsed is = cc
meets_is w answer (Some m) b parsed is = ap (meets w) parsed ∙ sym is

pub seen_of : {E : Type 0} → (language : Language) (w : Wanted) (file : Text) (bytes : List ℕ) (before after : Store) (r : Result (Option FoundFile) E)
    → WereAsked before after (file ∷ []) (Some bytes ∷ []) → IfOk r (IsMet language w file bytes) → Asks language w file before after r
seen_of language w file bytes before after (Ok f) asked is = (Some bytes, asked, is)
seen_of language w file bytes before after (Err e) asked is = stopped_here before after (file ∷ []) (Some bytes ∷ []) asked

-- ---- file by file

abbrev pub asking_all : List Text → Sight → Sight
asking_all asked s = record s { asked = asked ++ s.asked }

-- so many of some files were asked, and these are left
pub record SeenSoFar (language : Language) (w : Wanted) (names left : List Text) (start now : Store) : Type 0 where
  pub asked : List Text
  pub past : FileAnswers
  pub were_asked : WereAsked start now asked past
  pub goes_on : (rest : Answers) → first_that_meets language w names (past ++ rest) ≡ asking_all asked (first_that_meets language w left rest)

pub none_seen : (language : Language) (w : Wanted) (names : List Text) (s : Store) → SeenSoFar language w names names s s
none_seen language w names s = record { asked = []; past = []; were_asked = none_asked s; goes_on = λ rest. refl }

passed : (language : Language) (w : Wanted) (file : Text) (others : List Text) (answer : Option (List ℕ)) → IsSeen language w file answer None → (rest : Answers)
    → first_that_meets language w (file ∷ others) (answer ∷ rest) ≡ asking file (first_that_meets language w others rest)
passed language w file others None seen rest = refl
passed language w file others (Some bytes) seen rest =
    ap (λ (b : Bool). asking file (seen_if b file bytes rest (first_that_meets language w others rest))) seen

asking_both : (asked : List Text) (file : Text) (s : Sight) → asking_all asked (asking file s) ≡ asking_all (asked ++ file ∷ []) s
asking_both asked file s = ap (λ (names : List Text). record s { asked = names }) (sym (append_assoc asked (file ∷ []) s.asked))

pub one_passed : (language : Language) (w : Wanted) (names left : List Text) (file : Text) (start now after : Store)
    → SeenSoFar language w names (file ∷ left) start now → (answer : Option (List ℕ)) × WereAsked now after (file ∷ []) (answer ∷ []) × IsSeen language w file answer None
    → SeenSoFar language w names left start after
one_passed language w names left file start now after so_far asks = record {
  asked = so_far.asked ++ file ∷ [];
  past = so_far.past ++ asks.0 ∷ [];
  were_asked = asked_both start now after so_far.asked (file ∷ []) so_far.past (asks.0 ∷ []) so_far.were_asked asks.1;
  goes_on = λ rest. ap (first_that_meets language w names) (append_assoc so_far.past (asks.0 ∷ []) rest)
      ∙ so_far.goes_on (asks.0 ∷ rest)
      ∙ ap (asking_all so_far.asked) (passed language w file left asks.0 asks.2 rest)
      ∙ asking_both so_far.asked file (first_that_meets language w left rest);
}

one_found : (language : Language) (w : Wanted) (names left : List Text) (file : Text) (bytes : List ℕ) (f : FoundFile) (start now after : Store)
    → SeenSoFar language w names (file ∷ left) start now → WereAsked now after (file ∷ []) (Some bytes ∷ []) → IsMet language w file bytes (Some f)
    → HasSeen language (first_that_meets language w names) start after (Some f)
one_found language w names left file bytes f start now after so_far asked met = record {
  found = Some (record { file = file; bytes = bytes });
  asked = so_far.asked ++ file ∷ [];
  past = so_far.past ++ Some bytes ∷ [];
  were_asked = asked_both start now after so_far.asked (file ∷ []) so_far.past (Some bytes ∷ []) so_far.were_asked asked;
  sees = λ rest. ap (first_that_meets language w names) (append_assoc so_far.past (Some bytes ∷ []) rest)
      ∙ so_far.goes_on (Some bytes ∷ rest)
      ∙ ap (λ (b : Bool). asking_all so_far.asked (asking file (seen_if b file bytes rest (first_that_meets language w left rest)))) met.0;
  is_found = met.1;
}

some_not_none : {X : Type 0} → (x : X) → Some x ≡ None → ⊥
some_not_none x e = cc

pub first_found : (language : Language) (w : Wanted) (names left : List Text) (file : Text) (f : FoundFile) (start now after : Store)
    → SeenSoFar language w names (file ∷ left) start now
    → (answer : Option (List ℕ)) × WereAsked now after (file ∷ []) (answer ∷ []) × IsSeen language w file answer (Some f)
    → HasSeen language (first_that_meets language w names) start after (Some f)
first_found language w names left file f start now after so_far asks = by asks.0 asks.1 asks.2
  where
    by : (answer : Option (List ℕ)) → WereAsked now after (file ∷ []) (answer ∷ []) → IsSeen language w file answer (Some f)
        → HasSeen language (first_that_meets language w names) start after (Some f)
    by None asked seen = absurd (some_not_none f seen)
    by (Some bytes) asked seen = one_found language w names left file bytes f start now after so_far asked seen

abbrev sight_of : Option Found → List Text → Answers → Sight
sight_of found asked rest = record { found = found; asked = asked; rest = rest }

pub none_found : (language : Language) (w : Wanted) (names : List Text) (start now : Store) → SeenSoFar language w names [] start now
    → HasSeen language (first_that_meets language w names) start now None
none_found language w names start now so_far = record {
  found = None;
  asked = so_far.asked;
  past = so_far.past;
  were_asked = so_far.were_asked;
  sees = λ rest. so_far.goes_on rest ∙ ap (λ (asked : List Text). sight_of None asked rest) (append-nil so_far.asked);
  is_found = tt;
}

pub looking_stopped : (language : Language) (w : Wanted) (names left : List Text) (start now after : Store) → SeenSoFar language w names left start now
    → WasStopped now after → WasStopped start after
looking_stopped language w names left start now after so_far stopped = stopped_then start now after so_far.asked so_far.past so_far.were_asked stopped

-- by the name and the value as they were handed on
pub seen_as : (language : Language) (w : Wanted) (file given : Text) (before after : Store) (f g : Option FoundFile) → given ≡ file → f ≡ g
    → (answer : Option (List ℕ)) × WereAsked before after (given ∷ []) (answer ∷ []) × IsSeen language w given answer f
    → (answer : Option (List ℕ)) × WereAsked before after (file ∷ []) (answer ∷ []) × IsSeen language w file answer g
seen_as language w file given before after f g same is asks = (
  asks.0,
  subst (λ (n : Text). WereAsked before after (n ∷ []) (asks.0 ∷ [])) same asks.1,
  subst (λ (n : Text). IsSeen language w n asks.0 g) same (subst (λ (o : Option FoundFile). IsSeen language w given asks.0 o) is asks.2),
)

pub none_left : (language : Language) (w : Wanted) (names left : List Text) (start now : Store) → length left ≡ 0 → SeenSoFar language w names left start now
    → SeenSoFar language w names [] start now
none_left language w names [] start now e so_far = so_far
none_left language w names (name ∷ left) start now e so_far = absurd cc

-- ---- what is wanted

-- its name is known
pub known_seen : (is_known : Bool) (language : Language) (folders : List Text) (w : Wanted) (s : Store) → true ≡ is_known
    → HasSeen language (sought is_known language folders w) s s None
known_seen true language folders w s is = record { found = None; asked = []; past = []; were_asked = none_asked s; sees = λ rest. refl; is_found = tt }
known_seen false language folders w s is = absurd cc

-- its files are asked
pub looks_in : {E : Type 0} → (is_known : Bool) (language : Language) (folders names : List Text) (w : Wanted) (before after : Store) (r : Result (Option FoundFile) E)
    → false ≡ is_known → names ≡ files_for folders w → Looks language (first_that_meets language w names) before after r
    → Looks language (sought is_known language folders w) before after r
looks_in true language folders names w before after r is e looks = absurd cc
looks_in false language folders names w before after r is e looks =
    subst (λ (ns : List Text). Looks language (first_that_meets language w ns) before after r) e looks

-- ---- calls that had no memory

pub asks_stopped : {E : Type 0} → (language : Language) (w : Wanted) (file : Text) (before after : Store) (r : Result (Option FoundFile) E) → IsErr r → WasStopped before after
    → Asks language w file before after r
asks_stopped language w file before after (Ok o) failed stopped = cc
asks_stopped language w file before after (Err e) failed stopped = stopped

pub looks_stopped : {E : Type 0} → (language : Language) (look : Answers → Sight) (before after : Store) (r : Result (Option FoundFile) E) → IsErr r → WasStopped before after
    → Looks language look before after r
looks_stopped language look before after (Ok o) failed stopped = cc
looks_stopped language look before after (Err e) failed stopped = stopped

-- by the names as they were handed on
pub seen_by : (language : Language) (folders : List Text) (w : Wanted) (known given : List Text) (before after : Store) (f g : Option FoundFile) → given ≡ known → f ≡ g
    → HasSeen language (sought (list_any (is_text w.name) given) language folders w) before after f
    → HasSeen language (sought (list_any (is_text w.name) known) language folders w) before after g
seen_by language folders w known given before after f g same is seen =
    subst (λ (names : List Text). HasSeen language (sought (list_any (is_text w.name) names) language folders w) before after g) same
    (subst (λ (o : Option FoundFile). HasSeen language (sought (list_any (is_text w.name) given) language folders w) before after o) is seen)
