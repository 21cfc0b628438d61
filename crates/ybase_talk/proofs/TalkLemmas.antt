-- How a talk goes on, and how it ends.
use Rattle.std.proofs.Common.{◌≡◌, inr, ℕ, ◌++◌, Bool, true, false, List, [], ◌∷◌, map, Option, Some, None, Ok, Err, refl, sym, ap, subst, ◌∙◌}
use Rattle.std.specs.Prelude.{option_map, take}
use Rattle.std.proofs.lemmas.List.{append_assoc, append-nil}
use Rattle.ybase_talk.specs.Talk.{Answering, Event, asked, kept, told, Exchange, Keeping, Party, events_in, events_of, events_with, failed, followed_by, is_end, none_kept, Goes, Exchanges, IsAnswered, IsUnanswered}
use Rattle.ybase_talk.specs.declared.talk.TalkFault.TheVariants.{Unwritten, Memory}

-- ---- what went over

events_twice : (e : Option (List Event)) (xs ys : List Event)
    → option_map (λ es. es ++ ys) (option_map (λ es. es ++ xs) e) ≡ option_map (λ es. es ++ (xs ++ ys)) e
events_twice None xs ys = refl
events_twice (Some es) xs ys = ap Some (append_assoc es xs ys)

followed_twice : (s : Party) (xs ys : List Event) → followed_by (followed_by s xs) ys ≡ followed_by s (xs ++ ys)
followed_twice s xs ys = ap (λ (e : Option (List Event)). let t : Party = record { events = e; failures = s.failures } in t) (events_twice s.events xs ys)

none_followed : (e : Option (List Event)) → e ≡ option_map (λ es. es ++ []) e
none_followed None = refl
none_followed (Some es) = ap Some (sym (append-nil es))

pub nothing_followed : (s : Party) → s ≡ followed_by s []
nothing_followed s = ap (λ (e : Option (List Event)). let t : Party = record { events = e; failures = s.failures } in t) (none_followed s.events)

-- the line that was asked for
line_is : {A : Type 0} (now so_far : Party) (f : A → List ℕ) (o : Option A) (x : A) → now ≡ followed_by so_far (asked (option_map f o) ∷ [])
    → o ≡ Some x → now ≡ followed_by so_far (asked (Some (f x)) ∷ [])
line_is now so_far f o x went is = went ∙ ap (λ p. followed_by so_far (asked (option_map f p) ∷ [])) is

-- ---- one exchange

pub no_more : {S A : Type 0} (answers : Answering S) (so_far now : Party) (before : S) (f : A → List ℕ) (o : Option A)
    → now ≡ followed_by so_far (asked (option_map f o) ∷ []) → o ≡ None → Exchanges answers so_far before now before (Ok false)
no_more answers so_far now before f o went none = (option_map f o, ap (λ p. is_end (option_map f p)) none, went, refl)

pub says_end : {S A : Type 0} (answers : Answering S) (so_far now : Party) (before : S) (f : A → List ℕ) (o : Option A) (x : A)
    (line : List ℕ) (b : Bool) → now ≡ followed_by so_far (asked (option_map f o) ∷ []) → o ≡ Some x → line ≡ f x → b ≡ is_end (Some line) → b ≡ true
    → Exchanges answers so_far before now before (Ok false)
says_end answers so_far now before f o x line b went is same test ends =
    (Some (f x), ap (λ l. is_end (Some l)) (sym same) ∙ (sym test ∙ ends), line_is now so_far f o x went is, refl)

pub without_answer : {S A : Type 0} (answers : Answering S) (so_far between now : Party) (before after : S) (f : A → List ℕ) (o : Option A) (x : A)
    → between ≡ followed_by so_far (asked (option_map f o) ∷ []) → o ≡ Some x → IsUnanswered between now → Exchanges answers so_far before now after (Err Memory)
without_answer answers so_far between now before after f o x first is unanswered = inr (
  f x,
  unanswered.0,
  unanswered.1,
  unanswered.2 ∙ (ap (λ s. followed_by s (map kept unanswered.0)) (line_is between so_far f o x first is)
      ∙ followed_twice so_far (asked (Some (f x)) ∷ []) (map kept unanswered.0)),
)

-- the answer behind its line and what was kept for it
all_went : {A : Type 0} (so_far between kept_then now : Party) (f : A → List ℕ) (o : Option A) (x : A) (line : List ℕ) (ks : List Keeping) (said : List ℕ)
    → between ≡ followed_by so_far (asked (option_map f o) ∷ []) → o ≡ Some x → line ≡ f x → kept_then ≡ followed_by between (map kept ks)
    → now ≡ followed_by kept_then (told said ∷ []) → now ≡ followed_by so_far (events_with line ks said)
all_went so_far between kept_then now f o x line ks said first is same second third =
    third ∙ (ap (λ s. followed_by s (told said ∷ [])) (second ∙ ap (λ s. followed_by s (map kept ks)) (line_is between so_far f o x first is))
    ∙ (followed_twice (followed_by so_far (asked (Some (f x)) ∷ [])) (map kept ks) (told said ∷ [])
    ∙ (followed_twice so_far (asked (Some (f x)) ∷ []) (map kept ks ++ told said ∷ [])
    ∙ ap (λ l. followed_by so_far (events_with l ks said)) (sym same))))

pub exchanged : {S A : Type 0} (answers : Answering S) (so_far between kept_then now : Party) (before after : S) (f : A → List ℕ) (o : Option A) (x : A)
    (line answer bytes : List ℕ) → between ≡ followed_by so_far (asked (option_map f o) ∷ []) → o ≡ Some x → line ≡ f x
    → IsAnswered answers between before line answer kept_then after → now ≡ followed_by kept_then (told bytes ∷ []) → bytes ≡ answer
    → Exchanges answers so_far before now after (Ok true)
exchanged answers so_far between kept_then now before after f o x line answer bytes first is same (ks, answered, second) third told_is = (
  record { line = line; keepings = ks; answer = answer },
  answered,
  all_went so_far between kept_then now f o x line ks bytes first is same second third ∙ ap (λ t. followed_by so_far (events_with line ks t)) told_is,
)

pub broken : {S A : Type 0} (answers : Answering S) (so_far between kept_then now : Party) (before after : S) (f : A → List ℕ) (o : Option A) (x : A)
    (line answer bytes : List ℕ) → between ≡ followed_by so_far (asked (option_map f o) ∷ []) → o ≡ Some x → line ≡ f x
    → IsAnswered answers between before line answer kept_then after
    → ((n : ℕ) × now ≡ failed (followed_by kept_then (told (take n bytes) ∷ []))) → bytes ≡ answer
    → Exchanges answers so_far before now after (Err Unwritten)
broken answers so_far between kept_then now before after f o x line answer bytes first is same (ks, answered, second) (n, third) told_is = (
  record { line = line; keepings = ks; answer = answer },
  n,
  answered,
  third ∙ (ap failed (all_went so_far between kept_then (followed_by kept_then (told (take n bytes) ∷ [])) f o x line ks (take n bytes) first is same second refl)
      ∙ ap (λ t. failed (followed_by so_far (events_with line ks (take n t)))) told_is),
)

-- ---- many

events_of_more : (xs : List Exchange) (x : Exchange) → events_of (xs ++ x ∷ []) ≡ events_of xs ++ events_in x
events_of_more [] x = append-nil (events_in x)
events_of_more (y ∷ xs) x = ap (λ es. events_in y ++ es) (events_of_more xs x) ∙ sym (append_assoc (events_in y) (events_of xs) (events_in x))

goes_on : {S : Type 0} (answers : Answering S) (before between after : S) (xs : List Exchange) (x : Exchange) → Goes answers before xs between
    → answers between x.line x.keepings x.answer after → Goes answers before (xs ++ x ∷ []) after
goes_on answers before between after [] x is answered = (after, subst (λ s. answers s x.line x.keepings x.answer after) is answered, refl)
goes_on answers before between after (y ∷ xs) x goes answered = (goes.0, goes.1, goes_on answers goes.0 between after xs x goes.2 answered)

-- so many were exchanged, with which the talk is so far
abbrev pub SoFar : {S : Type 0} → Answering S → Party → S → Party → S → Type 0
SoFar answers so_far before now after = (xs : List Exchange) × Goes answers before xs after × (now ≡ followed_by so_far (events_of xs))

pub begins : {S : Type 0} (answers : Answering S) (so_far : Party) (before : S) → SoFar answers so_far before so_far before
begins answers so_far before = ([], refl, nothing_followed so_far)

pub one_more : {S : Type 0} (answers : Answering S) (so_far between now : Party) (before middle after : S)
    → SoFar answers so_far before between middle → Exchanges answers between middle now after (Ok true) → SoFar answers so_far before now after
one_more answers so_far between now before middle after (xs, goes, went) (x, answered, more) = (
  xs ++ x ∷ [],
  goes_on answers before middle after xs x goes answered,
  more ∙ (ap (λ s. followed_by s (events_in x)) went
      ∙ (followed_twice so_far (events_of xs) (events_in x) ∙ ap (followed_by so_far) (sym (events_of_more xs x)))),
)

-- it goes on where it isn't said that it ended
pub went_on : {S : Type 0} (answers : Answering S) (so_far now : Party) (before after : S) (b : Bool) → b ≡ true
    → Exchanges answers so_far before now after (Ok b) → Exchanges answers so_far before now after (Ok true)
went_on answers so_far now before after true on is = is
went_on answers so_far now before after false on is = absurd cc
