-- What stands before the first slip is right so far, and the token at its place isn't.
use Rattle.std.proofs.Common.{◌≡◌, ◌⊎◌, inl, inr, ℕ, zero, suc, Bool, true, false, cond, if◌then◌else◌, List, [], ◌∷◌, ◌++◌, Some, None, Result, Ok, Err, refl, sym, ap, subst, ◌∙◌}
use Rattle.std.specs.Prelude.{◌==◌, ◌&&◌, ◌||◌, not, is_some, codes}
use Rattle.std.proofs.lemmas.Option.{same_Some}
use Rattle.yspec.specs.Forest.{Forest}
use Rattle.yspec.specs.text.Text.{Text, line_after, backslash}
use Rattle.yspec.specs.text.Token.{Lexeme, Token, word, single, double, semi, close_block, finish, at, escape, tokens_of}
use Rattle.yspec.specs.text.Statement.{Statement, Slip, begins_quoted, is_plus, top_statement}
use Rattle.yspec.specs.text.Spelling.{TokensSpell}
use Rattle.yspec.specs.text.Slips.{State, at_keyword, behind_keyword, behind_word, behind_quoted, behind_plus, behind_top, behind_statement, next, fits, is_unclosed, is_too_many_or_few, is_too_deep, is_unformed, cause, wrong_escapes, slips_within, slips_at, state_behind, state_after, slips_from, slips, first, IsBeginning, IsFirstWrong}
use Rattle.yspec.proofs.TextProofs.SpellingTokenLemmas.{from_ending}
use Rattle.yspec.proofs.TextProofs.SpellingCutLemmas.{is_ending}
use Rattle.yspec.proofs.TextProofs.SpellingRowLemmas.{Ends, top_found, top_only, row_keeps}
use Rattle.yspec.proofs.TextProofs.SpellingLemmas.{text_ends}
use Rattle.yspec.proofs.TextProofs.SlipToldLemmas.{Tells, first_from, top_tells}

-- ---- what the causes at a token rest on

-- of what follows it counts only whether a quoted string does
fits_same : (s : State) (lexeme : Lexeme) (f g : List Token) → begins_quoted f ≡ begins_quoted g
    → fits s lexeme f ≡ fits s lexeme g
fits_same (behind_quoted level) (word w) f g e = rw e refl
fits_same (behind_quoted level) _ f g e = refl
fits_same (at_keyword level) semi f g e = refl
fits_same (at_keyword level) _ f g e = refl
fits_same (behind_keyword level) semi f g e = refl
fits_same (behind_keyword level) _ f g e = refl
fits_same (behind_word level) semi f g e = refl
fits_same (behind_word level) _ f g e = refl
fits_same (behind_plus level) semi f g e = refl
fits_same (behind_plus level) _ f g e = refl
fits_same behind_top semi f g e = refl
fits_same behind_top _ f g e = refl

slips_with : Bool → State → Token → List Slip
slips_with fit s t = cause (is_unclosed t.lexeme) 3 t.line ++ (cause (not fit) 5 t.line
    ++ (cause (is_too_many_or_few s t.lexeme) 6 t.line ++ (cause (is_too_deep s t.lexeme) 7 t.line
    ++ (cause (is_unformed s t.lexeme) 8 t.line ++ slips_within t.line t.lexeme))))

slips_same : (s : State) (t : Token) (f g : List Token) → fits s t.lexeme f ≡ fits s t.lexeme g
    → slips_at s t f ≡ slips_at s t g
unfolding slips_with
slips_same s t f g e = ap (λ (b : Bool). slips_with b s t) e

fits_if_right : (s : State) (t : Token) (f : List Token) → slips_at s t f ≡ [] → fits s t.lexeme f ≡ true
fits_if_right s t f h = go (is_unclosed t.lexeme) (fits s t.lexeme f) _ h
  where
    go : (u fit : Bool) (rest : List Slip) → cause u 3 t.line ++ (cause (not fit) 5 t.line ++ rest) ≡ [] → fit ≡ true
    go true fit rest h = absurd cc
    go false true rest h = refl
    go false false rest h = absurd cc

NoSlips : State → List Token → List Token → Type 0
NoSlips s [] f = Unit
NoSlips s (t ∷ ts) f = (slips_at s t (ts ++ f) ≡ []) × NoSlips (state_behind s t (ts ++ f)) ts f

-- behind a `+` there a quoted string begins here
abbrev Joins : State → List Token → List Token → Type 0
Joins s f g = (level : ℕ) → s ≡ behind_plus level → begins_quoted f ≡ true → begins_quoted g ≡ true

plus_again : (p q r : Bool) → ((p && q) || false) ≡ true → (q ≡ true → r ≡ true) → ((p && r) || false) ≡ true
plus_again true true r h k = rw (k refl) refl
plus_again true false r h k = absurd cc
plus_again false q r h k = h

fits_again : (s : State) (lexeme : Lexeme) (f g : List Token) → fits s lexeme f ≡ true
    → Joins (next s lexeme) f g → fits s lexeme g ≡ true
fits_again (behind_quoted level) (word w) f g h j =
    plus_again (is_plus (word w)) (begins_quoted f) (begins_quoted g) h (j level refl)
fits_again (behind_quoted level) _ f g h j = h
fits_again (at_keyword level) semi f g h j = h
fits_again (at_keyword level) _ f g h j = h
fits_again (behind_keyword level) semi f g h j = h
fits_again (behind_keyword level) _ f g h j = h
fits_again (behind_word level) semi f g h j = h
fits_again (behind_word level) _ f g h j = h
fits_again (behind_plus level) semi f g h j = h
fits_again (behind_plus level) _ f g h j = h
fits_again behind_top semi f g h j = h
fits_again behind_top _ f g h j = h

one_step : (s : State) (t : Token) (f g : List Token) → slips_at s t f ≡ []
    → fits s t.lexeme f ≡ fits s t.lexeme g → slips_from s (t ∷ g) ≡ slips_from (state_behind s t f) g
unfolding slips_from slips_with
one_step s t f g h e =
    ap (λ (b : Bool). slips_with b s t ++ slips_from (if b then next s t.lexeme else s) g) (sym e)
    ∙ ap (λ (l : List Slip). l ++ slips_from (state_behind s t f) g) h

joins_next : (s : State) (t : Token) (f g : List Token) → fits s t.lexeme f ≡ true → Joins (state_behind s t f) f g
    → Joins (next s t.lexeme) f g
joins_next s t f g h j = subst (λ (b : Bool). Joins (if b then next s t.lexeme else s) f g) h j

-- what is right before others is right before these too
same_walk : (s : State) (before f g : List Token) → NoSlips s before f → Joins (state_after s before f) f g
    → slips_from s (before ++ g) ≡ slips_from (state_after s before f) g
unfolding NoSlips
same_walk s [] f g n j = refl
same_walk s (t ∷ []) f g n j =
    let h = fits_if_right s t f n.0 in
    one_step s t f g n.0 (h ∙ sym (fits_again s t.lexeme f g h (joins_next s t f g h j)))
same_walk s (t ∷ u ∷ us) f g n j =
    one_step s t ((u ∷ us) ++ f) ((u ∷ us) ++ g) n.0 (fits_same s t.lexeme ((u ∷ us) ++ f) ((u ∷ us) ++ g) refl)
    ∙ same_walk (state_behind s t ((u ∷ us) ++ f)) (u ∷ us) f g n.1 j

-- ---- each state can be brought to an end

closers : ℕ → List Token
closers zero = at 1 finish ∷ []
closers (suc n) = at 1 close_block ∷ closers n

complete : State → List Token
complete (at_keyword zero) = at 1 (word (codes "a")) ∷ at 1 semi ∷ at 1 finish ∷ []
complete (at_keyword (suc n)) = closers (suc n)
complete (behind_keyword n) = at 1 semi ∷ closers n
complete (behind_word n) = at 1 semi ∷ closers n
complete (behind_quoted n) = at 1 semi ∷ closers n
complete (behind_plus n) = at 1 (single []) ∷ at 1 semi ∷ closers n
complete behind_top = at 1 finish ∷ []

closers_right : (n : ℕ) → slips_from (behind_statement n) (closers n) ≡ []
unfolding slips_from closers
closers_right zero = refl
closers_right (suc n) = closers_right n

complete_right : (s : State) → slips_from s (complete s) ≡ []
unfolding slips_from closers complete
complete_right (at_keyword zero) = refl
complete_right (at_keyword (suc n)) = closers_right n
complete_right (behind_keyword n) = closers_right n
complete_right (behind_word n) = closers_right n
complete_right (behind_quoted n) = closers_right n
complete_right (behind_plus n) = closers_right n
complete_right behind_top = refl

closers_end : (n : ℕ) → from_ending (closers n) ≡ at 1 finish ∷ []
unfolding closers
closers_end zero = refl
closers_end (suc n) = closers_end n

complete_ends : (s : State) → from_ending (complete s) ≡ at 1 finish ∷ []
unfolding closers complete
complete_ends (at_keyword zero) = refl
complete_ends (at_keyword (suc n)) = closers_end n
complete_ends (behind_keyword n) = closers_end n
complete_ends (behind_word n) = closers_end n
complete_ends (behind_quoted n) = closers_end n
complete_ends (behind_plus n) = closers_end n
complete_ends behind_top = refl

complete_joins : (s : State) (f : List Token) → Joins s f (complete s)
unfolding complete
complete_joins s f level e q = subst (λ (r : State). begins_quoted (complete r) ≡ true) (sym e) refl

-- ---- the token of the first slip

first_append : (a b : List Slip) (slip : Slip) → first a ≡ Some slip → first (a ++ b) ≡ Some slip
first_append [] b slip h = absurd cc
first_append (x ∷ xs) b slip h = h

record Found (s : State) (ts : List Token) (slip : Slip) : Type 0 where
  before : List Token
  token : Token
  after : List Token
  whole : ts ≡ before ++ (token ∷ after)
  clean : NoSlips s before (token ∷ after)
  told : first (slips_at (state_after s before (token ∷ after)) token after) ≡ Some slip

found_later : (s : State) (t : Token) (ts : List Token) (slip : Slip) → slips_at s t ts ≡ []
    → Found (state_behind s t ts) ts slip → Found s (t ∷ ts) slip
unfolding NoSlips
found_later s t ts slip h f = record {
  before = t ∷ f.before;
  token = f.token;
  after = f.after;
  whole = ap (λ (us : List Token). t ∷ us) f.whole;
  clean = (
    subst (λ (us : List Token). slips_at s t us ≡ []) f.whole h,
    subst
        (λ (us : List Token). NoSlips (state_behind s t us) f.before (f.token ∷ f.after)) f.whole f.clean,
  );
  told = subst (λ (us : List Token). first (slips_at (state_after (state_behind s t us) f.before (f.token ∷ f.after)) f.token
      f.after) ≡ Some slip) f.whole f.told;
}

find : (s : State) (ts : List Token) (slip : Slip) → first (slips_from s ts) ≡ Some slip → Found s ts slip
unfolding slips_from NoSlips
find s [] slip h = absurd cc
find s (t ∷ ts) slip h = go (slips_at s t ts) refl h (find (state_behind s t ts) ts slip)
  where
    go : (l : List Slip) → slips_at s t ts ≡ l → first (l ++ slips_from (state_behind s t ts) ts) ≡ Some slip
        → (first (slips_from (state_behind s t ts) ts) ≡ Some slip → Found (state_behind s t ts) ts slip) → Found s (t ∷ ts) slip
    go [] e h below = found_later s t ts slip e (below h)
    go (x ∷ xs) e h below = record {
      before = [];
      token = t;
      after = ts;
      whole = refl;
      clean = tt;
      told =
          ap (λ (l : List Slip). first l) e ∙ h;
    }

-- ---- lines

cause_line : (b : Bool) (code line : ℕ) (rest : List Slip) (slip : Slip) → first (cause b code line ++ rest) ≡ Some slip
    → (first rest ≡ Some slip → (slip.line ≡ line) ⊎ (slip.code ≡ 4)) → (slip.line ≡ line) ⊎ (slip.code ≡ 4)
cause_line true code line rest slip h below =
    inl (sym (ap (λ (x : Slip). x.line) (same_Some (record { code = code; line = line }) slip h)))
cause_line false code line rest slip h below = below h

escape_code : (after : Bool) (line : ℕ) (raw : Text) (slip : Slip) → first (wrong_escapes after line raw) ≡ Some slip
    → slip.code ≡ 4
unfolding wrong_escapes
escape_code true line [] slip h = absurd cc
escape_code false line [] slip h = absurd cc
escape_code true line (x ∷ xs) slip h = go (not (is_some (escape x))) h (escape_code false (line_after x line) xs slip)
  where
    go : (b : Bool) → first (cause b 4 line ++ wrong_escapes false (line_after x line) xs) ≡ Some slip
        → (first (wrong_escapes false (line_after x line) xs) ≡ Some slip → slip.code ≡ 4) → slip.code ≡ 4
    go true h below = sym (ap (λ (y : Slip). y.code) (same_Some (record { code = 4; line = line }) slip h))
    go false h below = below h
escape_code false line (x ∷ xs) slip h = escape_code (x == backslash) (line_after x line) xs slip h

within_code : (line : ℕ) (lexeme : Lexeme) (slip : Slip) → first (slips_within line lexeme) ≡ Some slip → slip.code ≡ 4
within_code line (double column raw) slip h = escape_code false line raw slip h
within_code line _ slip h = absurd cc

slip_line : (s : State) (t : Token) (f : List Token) (slip : Slip) → first (slips_at s t f) ≡ Some slip
    → (slip.line ≡ t.line) ⊎ (slip.code ≡ 4)
slip_line s t f slip h =
    cause_line (is_unclosed t.lexeme) 3 t.line _ slip h (λ h.
    cause_line (not (fits s t.lexeme f)) 5 t.line _ slip h (λ h.
    cause_line (is_too_many_or_few s t.lexeme) 6 t.line _ slip h (λ h.
    cause_line (is_too_deep s t.lexeme) 7 t.line _ slip h (λ h.
    cause_line (is_unformed s t.lexeme) 8 t.line _ slip h (λ h. inr (within_code t.line t.lexeme slip h))))))

-- ---- the law

no_ending_before : (before : List Token) (t x : Token) (after g : List Token)
    → from_ending (before ++ (t ∷ after)) ≡ x ∷ [] → from_ending (before ++ g) ≡ from_ending g
no_ending_before [] t x after g h = refl
no_ending_before (u ∷ us) t x after g h = go (is_ending u.lexeme) refl h (no_ending_before us t x after g)
  where
    more_left : (us : List Token) → us ++ (t ∷ after) ≡ [] → ⊥
    more_left [] e = cc
    more_left (v ∷ vs) e = cc

    go : (b : Bool) → is_ending u.lexeme ≡ b → cond b (u ∷ (us ++ (t ∷ after)))
        (from_ending (us ++ (t ∷ after))) ≡ x ∷ []
        → (from_ending (us ++ (t ∷ after)) ≡ x ∷ [] → from_ending (us ++ g) ≡ from_ending g)
        → from_ending ((u ∷ us) ++ g) ≡ from_ending g
    go true e h below = absurd (more_left us cc)
    go false e h below = rw e (below h)

spelled_if_right : (ts : List Token) → Ends ts → slips_from (at_keyword 0) ts ≡ []
    → (top : Forest Statement) × TokensSpell ts top
spelled_if_right ts h e = go (top_statement ts) refl (top_tells ts h)
  where
    go : (r : Result (Forest Statement) Slip) → top_statement ts ≡ r → Tells r (first_from (at_keyword 0) ts)
        (λ f. None) → (top : Forest Statement) × TokensSpell ts top
    go (Ok top) r t = (top, top_found ts top h r)
    go (Err d) r t = absurd (cc (sym (ap (λ (l : List Slip). first l) e) ∙ t))

right_if_spelled : (ts : List Token) (top : Forest Statement) → TokensSpell ts top → first_from (at_keyword 0) ts ≡ None
unfolding Ends
right_if_spelled ts top t =
    let h : Ends ts = (t.last_line, finish, refl, row_keeps 0 ts top (at t.last_line finish ∷ []) t.row) in
    subst (λ (r : Result (Forest Statement) Slip). Tells r (first_from (at_keyword 0) ts) (λ f. None))
    (top_only ts top t) (top_tells ts h)

pub first_wrong : (ts : List Token) (slip : Slip) → Ends ts → first (slips_from (at_keyword 0) ts) ≡ Some slip
    → IsFirstWrong ts slip
unfolding Ends slips_from
first_wrong ts slip h e = go (find (at_keyword 0) ts slip e)
  where
    begins : (f : Found (at_keyword 0) ts slip) → IsBeginning f.before
    begins f =
        let s = state_after (at_keyword 0) f.before (f.token ∷ f.after) in
        let ends = no_ending_before f.before f.token (at h.0 h.1) f.after (complete s)
        (ap (λ (us : List Token). from_ending us) (sym f.whole) ∙ h.3) ∙ complete_ends s in
        let p = spelled_if_right (f.before ++ complete s) (1, finish, refl, ends)
        (same_walk (at_keyword 0) f.before (f.token ∷ f.after) (complete s) f.clean
        (complete_joins s (f.token ∷ f.after)) ∙ complete_right s) in
        (complete s, p.0, p.1)

    wrong : (f : Found (at_keyword 0) ts slip) (more : List Token) (top : Forest Statement)
        → begins_quoted more ≡ begins_quoted f.after → TokensSpell (f.before ++ (f.token ∷ more)) top → ⊥
    wrong f more top q t =
        let s = state_after (at_keyword 0) f.before (f.token ∷ f.after) in
        let same = same_walk (at_keyword 0) f.before (f.token ∷ f.after) (f.token ∷ more) f.clean (λ level z b. b) in
        let here = ap (λ (l : List Slip). first l)
        (slips_same s f.token more f.after (fits_same s f.token.lexeme more f.after q)) ∙ f.told in
        let told = first_append (slips_at s f.token more) (slips_from (state_behind s f.token more) more) slip here in
        absurd (cc (sym (right_if_spelled (f.before ++ (f.token ∷ more)) top t) ∙ ap (λ (l : List Slip). first l)
        same ∙ told))

    go : Found (at_keyword 0) ts slip → IsFirstWrong ts slip
    go f = record {
      before = f.before;
      token = f.token;
      following = f.after;
      place = f.whole;
      right_before = begins f;
      wrong = wrong f;
      cause = f.told;
      line = slip_line (state_after (at_keyword 0) f.before (f.token ∷ f.after)) f.token f.after slip f.told;
    }

pub first_slip_place : (text : Text) (slip : Slip) → first (slips text) ≡ Some slip → IsFirstWrong (tokens_of text) slip
first_slip_place text slip e = first_wrong (tokens_of text) slip (text_ends text) e
