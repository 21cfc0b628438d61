-- A search import by import.
use Rattle.std.proofs.Common.{◌≡◌, ◌++◌, ◌+◌, ◌<◌, ℕ, zero, suc, Bool, true, false, List, [], ◌∷◌, Option, Some, None, refl, sym, subst, ap, ap₂, ◌∙◌, append_assoc, arith, string_bytes, map, length}
use Rattle.std.specs.Prelude.{Result, Ok, Err, IsErr, OnOk, if◌then◌else◌}
use Rattle.std.specs.List.{flat_map, list_any}
use Rattle.std.proofs.lemmas.List.{append-nil, map-append}
use Rattle.yspec.specs.Forest.{Forest}
use Rattle.yspec.specs.text.Text.{Text, is_text}
use Rattle.yspec.specs.text.Statement.{Statement, Slip}
use Rattle.yspec_wide.specs.Language.{Language}
use Rattle.yspec_wide.specs.Texts.{module_in}
use Rattle.yspec_search.specs.Search.{Answers, Found, Search, Sight, Wanted, behind, import_limit, is_refused, known_behind, listed, name_of, search_for, search_on, sought, unless_refused, wanted_behind, wanted_of, wanted_of_all}
use Rattle.ytext.specs.declared.statement.Module.{Module}
use Rattle.ylink_search.specs.WantedView.{wanted_views}
use Rattle.yapp_search.specs.Reading.{FileAnswers, Keeps, Store, WasStopped, WereAsked, WereRead, texts_of}
use Rattle.yapp_search.specs.Looking.{GoesOn, HasSeen, IsFile, IsFoundAs, IsParsed, IsSearch, IsSearchIn, IsStart, Leads, Takes, WasSearched, files_of_all, left_of, plus, search_behind, wanted_then}
use Rattle.yapp_search.specs.declared.looking.FoundFile.{FoundFile}
use Rattle.yapp_search.specs.declared.starting.Sought.{Sought}
use Rattle.yapp_search.proofs.ReadingLemmas.{AreRead, asked_both, none_asked, read_stopped, stopped_both, stopped_here, stopped_then}

-- ---- searches that lead to others

pub leads_nowhere : (whole : Answers → Search) (s : Store) (files : List Text) → Leads whole whole s s files files
leads_nowhere whole s files = record {
  found = [];
  asked = [];
  past = [];
  were_asked = none_asked s;
  goes_on = λ rest. refl;
  files_are = sym (append-nil files);
}

files_both : (found more : List Found) → files_of_all (found ++ more) ≡ files_of_all found ++ files_of_all more
files_both found more = map-append (λ (f : Found). f.file) found more

abbrev search_of : List Found → List Text → Search
search_of found asked = record { found = found; asked = asked }

plus_both : (found more : List Found) (asked others : List Text) (s : Search) → plus found asked (plus more others s) ≡ plus (found ++ more) (asked ++ others) s
plus_both found more asked others s = ap₂ search_of
    (sym (append_assoc found more s.found)) (sym (append_assoc asked others s.asked))

pub leads_both : (whole middle left : Answers → Search) (start now after : Store) (old between new : List Text) → Leads whole middle start now old between
    → Leads middle left now after between new → Leads whole left start after old new
leads_both whole middle left start now after old between new first second = record {
  found = first.found ++ second.found;
  asked = first.asked ++ second.asked;
  past = first.past ++ second.past;
  were_asked = asked_both start now after first.asked second.asked first.past second.past first.were_asked second.were_asked;
  goes_on = λ rest. ap whole (append_assoc first.past second.past rest) ∙ first.goes_on (second.past ++ rest)
      ∙ ap (plus first.found first.asked) (second.goes_on rest) ∙ plus_both first.found second.found first.asked second.asked (left rest);
  files_are = second.files_are ∙ ap (λ (names : List Text). names ++ files_of_all second.found) first.files_are
      ∙ append_assoc old (files_of_all first.found) (files_of_all second.found) ∙ ap (λ (names : List Text). old ++ names) (sym (files_both first.found second.found));
}

-- ---- one import

unless_is : (answer : Result (Forest Statement) Slip) (m : Option Module) (wanted : List Wanted) → IsParsed answer m → unless_refused answer wanted ≡ wanted_then m wanted
unless_is (Err slip) None wanted parsed = refl
unless_is (Ok top) None wanted parsed = cc
unless_is answer (Some m) wanted parsed = ap (λ (a : Result (Forest Statement) Slip). unless_refused a wanted) parsed

-- what is seen of an import, and what is looked for then
sight_leads : (language : Language) (folders : List Text) (w : Wanted) (wanted wanted_later : List Wanted) (known known_later : List Text) (before after : Store)
    (old new : List Text) (asked : List Text) (past : FileAnswers) (found : Option Found) (count : ℕ) → WereAsked before after asked past
    → ((rest : Answers) → sought (list_any (is_text w.name) known) language folders w (past ++ rest) ≡ record { found = found; asked = asked; rest = rest })
    → wanted_behind language found wanted ≡ wanted_later → known_behind found w.name known ≡ known_later → new ≡ old ++ files_of_all (listed found)
    → Leads (search_on language folders (suc count) (w ∷ wanted) known) (search_on language folders count wanted_later known_later) before after old new
unfolding search_on
sight_leads language folders w wanted wanted_later known known_later before after old new asked past found count were sees wanted_is known_is files_are = record {
  found = listed found;
  asked = asked;
  past = past;
  were_asked = were;
  goes_on = λ rest. ap (λ (s : Sight). behind s (search_on language folders count (wanted_behind language s.found wanted) (known_behind s.found w.name known) s.rest)) (sees rest)
      ∙ ap₂ (λ (ws : List Wanted) (ks : List Text). plus (listed found) asked (search_on language folders count ws ks rest)) wanted_is known_is;
  files_are = files_are;
}

-- a file was found
pub found_leads : (language : Language) (folders : List Text) (w : Wanted) (old new : Sought) (before after : Store) (f : FoundFile)
    → HasSeen language (sought (list_any (is_text w.name) (map string_bytes old.known.items)) language folders w) before after (Some f) → Takes w.name f old new
    → (count : ℕ) → Leads (search_on language folders (suc count) (w ∷ wanted_views old.wanted.items) (map string_bytes old.known.items))
    (left_of language folders count new) before after (map string_bytes old.found.items) (map string_bytes new.found.items)
found_leads language folders w old new before after f seen takes count = by seen.found seen.sees seen.is_found
  where
    by : (found : Option Found)
        → ((rest : Answers) → sought (list_any (is_text w.name) (map string_bytes old.known.items)) language folders w (seen.past ++ rest)
        ≡ record { found = found; asked = seen.asked; rest = rest })
        → IsFoundAs language (Some f) found
        → Leads (search_on language folders (suc count) (w ∷ wanted_views old.wanted.items) (map string_bytes old.known.items))
        (left_of language folders count new) before after (map string_bytes old.found.items) (map string_bytes new.found.items)
    by None sees is = absurd is
    by (Some found) sees is = sight_leads language folders w (wanted_views old.wanted.items) (wanted_views new.wanted.items) (map string_bytes old.known.items)
        (map string_bytes new.known.items) before after (map string_bytes old.found.items) (map string_bytes new.found.items) seen.asked seen.past (Some found) count
        seen.were_asked sees
        (unless_is (module_in language found.bytes) f.text (wanted_views old.wanted.items) is.1 ∙ sym takes.wanted) (sym takes.known)
        (takes.files ∙ ap (λ (name : Text). map string_bytes old.found.items ++ name ∷ []) is.0)

-- none was
pub none_leads : (language : Language) (folders : List Text) (w : Wanted) (s : Sought) (before after : Store)
    → HasSeen language (sought (list_any (is_text w.name) (map string_bytes s.known.items)) language folders w) before after None
    → (count : ℕ) → Leads (search_on language folders (suc count) (w ∷ wanted_views s.wanted.items) (map string_bytes s.known.items))
    (left_of language folders count s) before after (map string_bytes s.found.items) (map string_bytes s.found.items)
none_leads language folders w s before after seen count = by seen.found seen.sees seen.is_found
  where
    by : (found : Option Found)
        → ((rest : Answers) → sought (list_any (is_text w.name) (map string_bytes s.known.items)) language folders w (seen.past ++ rest)
        ≡ record { found = found; asked = seen.asked; rest = rest })
        → IsFoundAs language None found
        → Leads (search_on language folders (suc count) (w ∷ wanted_views s.wanted.items) (map string_bytes s.known.items))
        (left_of language folders count s) before after (map string_bytes s.found.items) (map string_bytes s.found.items)
    by None sees is = sight_leads language folders w (wanted_views s.wanted.items) (wanted_views s.wanted.items) (map string_bytes s.known.items)
        (map string_bytes s.known.items) before after (map string_bytes s.found.items) (map string_bytes s.found.items) seen.asked seen.past None count
        seen.were_asked sees refl refl (sym (append-nil (map string_bytes s.found.items)))
    by (Some found) sees is = absurd is

-- ---- all of them

-- so many imports may still be looked at, and that is left of the search
pub record SearchedSoFar (language : Language) (folders : List Text) (whole : Answers → Search) (done : ℕ) (s : Sought) (start now : Store) : Type 0 where
  pub count : ℕ
  pub counted : count + done ≡ import_limit
  pub leads : Leads whole (left_of language folders count s) start now [] (map string_bytes s.found.items)

pub search_begun : (language : Language) (folders : List Text) (s : Sought) (here : Store) → s.found.items ≡ []
    → SearchedSoFar language folders (left_of language folders import_limit s) 0 s here here
search_begun language folders s here none = record {
  count = import_limit;
  counted = omega arith;
  leads = subst (λ (files : List Text). Leads (left_of language folders import_limit s) (left_of language folders import_limit s) here here [] files)
      (sym (ap (map string_bytes) none)) (leads_nowhere (left_of language folders import_limit s) here []);
}

pub search_goes_on : (language : Language) (folders : List Text) (whole : Answers → Search) (done : ℕ) (w : Wanted) (s popped new : Sought) (start now after : Store)
    → done < import_limit → wanted_views s.wanted.items ≡ w ∷ wanted_views popped.wanted.items → popped.known.items ≡ s.known.items → popped.found.items ≡ s.found.items
    → SearchedSoFar language folders whole done s start now
    → ((count : ℕ) → Leads (search_on language folders (suc count) (w ∷ wanted_views popped.wanted.items) (map string_bytes popped.known.items))
    (left_of language folders count new) now after (map string_bytes popped.found.items) (map string_bytes new.found.items))
    → SearchedSoFar language folders whole (done + 1) new start after
search_goes_on language folders whole done w s popped new start now after less wanted_is known_is found_is so_far step = by so_far.count so_far.counted so_far.leads
  where
    by : (count : ℕ) → count + done ≡ import_limit → Leads whole (left_of language folders count s) start now [] (map string_bytes s.found.items)
        → SearchedSoFar language folders whole (done + 1) new start after
    by zero counted leads = absurd (omega (arith, counted, less))
    by (suc count) counted leads = record {
      count = count;
      counted = omega (arith, counted);
      leads = leads_both whole (left_of language folders (suc count) s) (left_of language folders count new) start now after [] (map string_bytes s.found.items) (map string_bytes new.found.items)
          leads
          (subst (λ files. Leads (left_of language folders (suc count) s) (left_of language folders count new) now after files (map string_bytes new.found.items))
          (ap (map string_bytes) found_is)
          (subst (λ ws. Leads (search_on language folders (suc count) ws (map string_bytes s.known.items)) (left_of language folders count new) now after (map string_bytes popped.found.items) (map string_bytes new.found.items))
          (sym wanted_is)
          (subst (λ ks. Leads (search_on language folders (suc count) (w ∷ wanted_views popped.wanted.items) ks) (left_of language folders count new) now after (map string_bytes popped.found.items) (map string_bytes new.found.items))
          (ap (map string_bytes) known_is) (step count))));
    }

abbrev pub nothing_found : Search
nothing_found = record { found = []; asked = [] }

pub nothing_wanted : (language : Language) (folders : List Text) (count : ℕ) (known : List Text) (rest : Answers) → search_on language folders count [] known rest ≡ nothing_found
unfolding search_on
nothing_wanted language folders zero known rest = refl
nothing_wanted language folders (suc count) known rest = refl

nothing_counted : (language : Language) (folders : List Text) (count : ℕ) (wanted : List Wanted) (known : List Text) (rest : Answers) → count ≡ 0
    → search_on language folders count wanted known rest ≡ nothing_found
unfolding search_on
nothing_counted language folders zero wanted known rest e = refl
nothing_counted language folders (suc count) wanted known rest e = cc

-- what is found where nothing is left
abbrev pub IsWhole : (Answers → Search) → Store → Store → List Text → Type 0
IsWhole whole start now files = (answers : FileAnswers) × WereAsked start now (whole answers).asked answers × (files ≡ files_of_all (whole answers).found)

whole_found : (whole left : Answers → Search) (start now : Store) (files : List Text) → Leads whole left start now [] files → left [] ≡ nothing_found
    → IsWhole whole start now files
whole_found whole left start now files leads none =
    let is : whole leads.past ≡ plus leads.found leads.asked nothing_found =
    sym (ap whole (append-nil leads.past)) ∙ leads.goes_on [] ∙ ap (plus leads.found leads.asked) none in (
      leads.past,
      subst (λ (names : List Text). WereAsked start now names leads.past) (sym (ap (λ (s : Search). s.asked) is ∙ append-nil leads.asked)) leads.were_asked,
      leads.files_are ∙ ap files_of_all (sym (ap (λ (s : Search). s.found) is ∙ append-nil leads.found)),
    )

pub search_ends : (language : Language) (folders : List Text) (whole : Answers → Search) (done : ℕ) (s : Sought) (start now : Store) → s.wanted.items ≡ []
    → SearchedSoFar language folders whole done s start now → IsWhole whole start now (map string_bytes s.found.items)
search_ends language folders whole done s start now none so_far =
    whole_found whole (left_of language folders so_far.count s) start now (map string_bytes s.found.items) so_far.leads
    (ap (λ (ws : List Wanted). search_on language folders so_far.count ws (map string_bytes s.known.items) []) (ap wanted_views none)
    ∙ nothing_wanted language folders so_far.count (map string_bytes s.known.items) [])

pub search_limited : (language : Language) (folders : List Text) (whole : Answers → Search) (done : ℕ) (s : Sought) (start now : Store) → (done < import_limit → ⊥)
    → SearchedSoFar language folders whole done s start now → IsWhole whole start now (map string_bytes s.found.items)
search_limited language folders whole done s start now all so_far =
    whole_found whole (left_of language folders so_far.count s) start now (map string_bytes s.found.items) so_far.leads
    (nothing_counted language folders so_far.count (wanted_views s.wanted.items) (map string_bytes s.known.items) [] (omega (arith, so_far.counted, all)))

pub searching_stopped : (language : Language) (folders : List Text) (whole : Answers → Search) (done : ℕ) (s : Sought) (start now after : Store)
    → SearchedSoFar language folders whole done s start now → WasStopped now after → WasStopped start after
searching_stopped language folders whole done s start now after so_far stopped =
    stopped_then start now after so_far.leads.asked so_far.leads.past so_far.leads.were_asked stopped

-- ---- texts

-- what is wanted of texts, and their names, as far as they are read
pub record StartedSoFar (language : Language) (texts left : List (List ℕ)) (s : Sought) : Type 0 where
  pub refused : list_any (is_refused language) left ≡ list_any (is_refused language) texts
  pub wanted : wanted_views s.wanted.items ++ flat_map (λ t. wanted_of (module_in language t)) left ≡ flat_map (λ t. wanted_of (module_in language t)) texts
  pub known : map string_bytes s.known.items ++ map (λ t. name_of (module_in language t)) left ≡ map (λ t. name_of (module_in language t)) texts
  pub found : s.found.items ≡ []

pub texts_refused : (language : Language) (folders : List Text) (texts : List (List ℕ)) (s : Store) → list_any (is_refused language) texts ≡ true
    → IsWhole (search_for language folders texts) s s []
texts_refused language folders texts s refused =
    let whole = search_for language folders texts in
    let is : whole [] ≡ nothing_found =
    ap (λ (b : Bool). search_on language folders import_limit (if b then [] else flat_map (λ t. wanted_of (module_in language t)) texts) (map (λ t. name_of (module_in language t)) texts) []) refused
    ∙ nothing_wanted language folders import_limit (map (λ t. name_of (module_in language t)) texts) [] in (
      [],
      subst (λ (names : List Text). WereAsked s s names []) (sym (ap (λ (s : Search). s.asked) is)) (none_asked s),
      ap files_of_all (sym (ap (λ (s : Search). s.found) is)),
    )

pub texts_searched : {X E : Type 0} → (see : X → List Text) (language : Language) (folders : List Text) (texts : List (List ℕ)) (wanted : List Wanted) (known : List Text)
    (before after : Store) (r : Result X E) → wanted ≡ wanted_of_all language texts → known ≡ map (λ t. name_of (module_in language t)) texts
    → IsSearchIn see (search_on language folders import_limit wanted known) before after r → IsSearchIn see (search_for language folders texts) before after r
texts_searched see language folders texts wanted known before after r wanted_is known_is search =
    subst (λ (ws : List Wanted). IsSearchIn see (search_on language folders import_limit ws (map (λ t. name_of (module_in language t)) texts)) before after r) wanted_is
    (subst (λ (ks : List Text). IsSearchIn see (search_on language folders import_limit wanted ks) before after r) known_is search)

-- ---- the whole

-- one of the named files couldn't be read
pub unread_searched : (language : Language) (folders names : List Text) (before after : Store) (found : List Text) → found ≡ []
    → AreRead before after names None → WasSearched language folders names before after found
unread_searched language folders names before after found none read = record {
  named = read.0;
  between = after;
  were_read = read.1;
  answers = [];
  were_asked = subst (λ (o : Option (List (List ℕ))). WereAsked after after (search_behind language folders o []).asked []) read.3 (none_asked after);
  kept = read.2;
  found_is = subst (λ (o : Option (List (List ℕ))). found ≡ files_of_all (search_behind language folders o []).found) read.3 none;
}

read_searched : (language : Language) (folders names : List Text) (before between after : Store) (texts : List (List ℕ)) (found : List Text)
    → AreRead before between names (Some texts) → IsWhole (search_for language folders texts) between after found → WasSearched language folders names before after found
read_searched language folders names before between after texts found read whole = record {
  named = read.0;
  between = between;
  were_read = read.1;
  answers = whole.0;
  were_asked = subst (λ (o : Option (List (List ℕ))). WereAsked between after (search_behind language folders o whole.0).asked whole.0) read.3 whole.1;
  kept = λ name. whole.1.kept name ∙ read.2 name;
  found_is = subst (λ (o : Option (List (List ℕ))). found ≡ files_of_all (search_behind language folders o whole.0).found) read.3 whole.2;
}

pub search_read : {X E : Type 0} → (see : X → List Text) (language : Language) (folders names : List Text) (before between after : Store) (texts : List (List ℕ)) (r : Result X E)
    → AreRead before between names (Some texts) → IsSearchIn see (search_for language folders texts) between after r → IsSearch see language folders names before after r
search_read see language folders names before between after texts (Ok x) read whole = read_searched language folders names before between after texts (see x) read whole
search_read see language folders names before between after texts (Err e) read stopped =
    stopped_both before between after (read_stopped before between names read.0 read.1 read.2) stopped

-- ---- calls that had no memory

pub goes_stopped : {E : Type 0} → (language : Language) (folders : List Text) (w : Wanted) (old new : Sought) (before after : Store) (r : Result (Unit {0}) E) → IsErr r
    → WasStopped before after → GoesOn language folders w old new before after r
goes_stopped language folders w old new before after (Ok done) failed stopped = cc
goes_stopped language folders w old new before after (Err e) failed stopped = stopped

pub finds_stopped : {X E : Type 0} → (see : X → List Text) (search : Answers → Search) (before after : Store) (r : Result X E) → IsErr r → WasStopped before after
    → IsSearchIn see search before after r
finds_stopped see search before after (Ok x) failed stopped = cc
finds_stopped see search before after (Err e) failed stopped = stopped

pub search_stopped : {X E : Type 0} → (see : X → List Text) (language : Language) (folders names : List Text) (before after : Store) (r : Result X E) → IsErr r
    → WasStopped before after → IsSearch see language folders names before after r
search_stopped see language folders names before after (Ok x) failed stopped = cc
search_stopped see language folders names before after (Err e) failed stopped = stopped

-- what was found is taken in, or there was no memory for it
pub goes_by : {E : Type 0} → (language : Language) (folders : List Text) (w : Wanted) (old new : Sought) (before after : Store) (f : FoundFile) (r : Result (Unit {0}) E)
    → HasSeen language (sought (list_any (is_text w.name) (map string_bytes old.known.items)) language folders w) before after (Some f)
    → OnOk r (Takes w.name f old new) → GoesOn language folders w old new before after r
goes_by language folders w old new before after f (Ok done) seen takes = found_leads language folders w old new before after f seen takes
goes_by language folders w old new before after f (Err e) seen takes = stopped_here before after seen.asked seen.past seen.were_asked

-- ---- by what was handed on

pub whole_as : (whole : Answers → Search) (start now : Store) (files given : List Text) → given ≡ files → IsWhole whole start now given → IsWhole whole start now files
whole_as whole start now files given same found = subst (IsWhole whole start now) same found

pub searched_texts : {X E : Type 0} → (see : X → List Text) (language : Language) (folders : List Text) (texts given : List (List ℕ)) (before after : Store) (r : Result X E)
    → given ≡ texts → IsSearchIn see (search_for language folders given) before after r → IsSearchIn see (search_for language folders texts) before after r
searched_texts see language folders texts given before after r same search =
    subst (λ (ts : List (List ℕ)). IsSearchIn see (search_for language folders ts) before after r) same search

pub none_at_all : {X : Type 0} → (xs : List X) → length xs ≡ 0 → xs ≡ []
none_at_all [] e = refl
none_at_all (x ∷ xs) e = cc
