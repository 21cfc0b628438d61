-- The places of tokens, byte by byte.
use Rattle.std.proofs.Common.{◌≡◌, ℕ, zero, suc, ◌+◌, ◌≤◌, ◌<◌, Bool, true, false, cond, eqb, ◌++◌, List, [], ◌∷◌, map, take, drop, length, get_or, refl, sym, ap, ◌∙◌, subst, arith, append_assoc}
use Rattle.std.specs.List.{count_by}
use Rattle.std.proofs.lemmas.List.{append-nil, at_drop_all, at_drop_more, map-append}
use Rattle.std.proofs.lemmas.List.Sums.{sum_by-cons}
use Rattle.json.specs.Ascii.{line_feed}
use Rattle.json.specs.Lex.{Mode, between}
use Rattle.ysay_lines.specs.Starts.{begins, behind, starts_from}
use Rattle.ysay_lines.specs.Lines.{at_line, column_behind, place_at, token_places}
use Rattle.ysay_lines.specs.Found.{next_place}
use Rattle.ysay_lines.specs.declared.place.Place.{Place}

-- the place behind bytes that begin at one
abbrev place_behind : Place → List ℕ → Place
place_behind here [] = here
place_behind here (x ∷ xs) = place_behind (next_place here x) xs

-- the places of tokens in bytes that begin at one
unfoldable pub places_from : Mode → Place → List ℕ → List Place
places_from mode here [] = []
places_from mode here (x ∷ xs) = cond (begins mode x) (here ∷ []) [] ++ places_from (behind mode x) (next_place here x) xs

-- ---- they are those of the offsets at which tokens begin

behind_more : (line column : ℕ) (x : ℕ) (xs : List ℕ) (b : Bool) → eqb x line_feed ≡ b
    → at_line (count_by (λ y. eqb y line_feed) (x ∷ xs) + line) (column_behind column (x ∷ xs))
    ≡ at_line (count_by (λ y. eqb y line_feed) xs + cond b (line + 1) line) (column_behind (cond b 1 (column + 1)) xs)
behind_more line column x xs b is =
    let count = count_by (λ y. eqb y line_feed) xs in
    let lines : count_by (λ y. eqb y line_feed) (x ∷ xs) + line ≡ count + cond b (line + 1) line =
    ap (λ n. n + line) (sum_by-cons (λ y. cond (eqb y line_feed) 1 0) x xs ∙ ap (λ c. cond c 1 0 + count) is) ∙ by b count in
    ap (λ l. at_line l (column_behind column (x ∷ xs))) lines ∙ ap (λ c. at_line (count + cond b (line + 1) line) (column_behind (cond c 1 (column + 1)) xs)) is
  where
    by : (c : Bool) (n : ℕ) → cond c 1 0 + n + line ≡ n + cond c (line + 1) line
    by true n = omega arith
    by false n = omega arith

behind_place : (xs : List ℕ) (line column : ℕ) → at_line (count_by (λ y. eqb y line_feed) xs + line) (column_behind column xs) ≡ place_behind (at_line line column) xs
behind_place [] line column = let none : 0 + line ≡ line = omega arith in ap (λ l. at_line l column) none
behind_place (x ∷ xs) line column = by (eqb x line_feed) refl (behind_place xs (line + 1) 1) (behind_place xs line (column + 1))
  where
    by : (b : Bool) → eqb x line_feed ≡ b
        → at_line (count_by (λ y. eqb y line_feed) xs + (line + 1)) (column_behind 1 xs) ≡ place_behind (at_line (line + 1) 1) xs
        → at_line (count_by (λ y. eqb y line_feed) xs + line) (column_behind (column + 1) xs) ≡ place_behind (at_line line (column + 1)) xs
        → at_line (count_by (λ y. eqb y line_feed) (x ∷ xs) + line) (column_behind column (x ∷ xs)) ≡ place_behind (at_line line column) (x ∷ xs)
    by true is fed other =
        behind_more line column x xs true is ∙ (fed ∙ sym (ap (λ b. place_behind (cond b (at_line (line + 1) 1) (at_line line (column + 1))) xs) is))
    by false is fed other =
        behind_more line column x xs false is ∙ (other ∙ sym (ap (λ b. place_behind (cond b (at_line (line + 1) 1) (at_line line (column + 1))) xs) is))

starts_placed : (place_of : ℕ → Place) (rest : List ℕ) (mode : Mode) (offset : ℕ) (here : Place) → ((k : ℕ) → place_of (offset + k) ≡ place_behind here (take k rest))
    → map place_of (starts_from mode offset rest) ≡ places_from mode here rest
unfolding starts_from places_from
starts_placed place_of [] mode offset here same = refl
starts_placed place_of (x ∷ xs) mode offset here same =
    map-append place_of (cond (begins mode x) (offset ∷ []) []) (starts_from (behind mode x) (offset + 1) xs)
    ∙ (ap (λ ps. ps ++ map place_of (starts_from (behind mode x) (offset + 1) xs)) (by (begins mode x))
    ∙ ap (λ ps. cond (begins mode x) (here ∷ []) [] ++ ps) (starts_placed place_of xs (behind mode x) (offset + 1) (next_place here x) later))
  where
    at_first : place_of offset ≡ here
    at_first = let none : offset ≡ offset + 0 = omega arith in ap place_of none ∙ same 0

    by : (b : Bool) → map place_of (cond b (offset ∷ []) []) ≡ cond b (here ∷ []) []
    by true = ap (λ p. p ∷ []) at_first
    by false = refl

    later : (k : ℕ) → place_of (offset + 1 + k) ≡ place_behind (next_place here x) (take k xs)
    later k = let more : offset + 1 + k ≡ offset + suc k = omega arith in ap place_of more ∙ same (suc k)

pub all_placed : (bytes : List ℕ) → token_places bytes ≡ places_from between (at_line 1 1) bytes
all_placed bytes = starts_placed (place_at bytes) bytes between 0 (at_line 1 1) (λ k.
    let none : 0 + k ≡ k = omega arith in ap (place_at bytes) none ∙ behind_place (take k bytes) 1 1)

-- ---- one byte after another

one_place : (mode : Mode) (here : Place) (bytes : List ℕ) (i d x : ℕ) → i < length bytes → x ≡ get_or bytes i d
    → places_from mode here (drop i bytes) ≡ cond (begins mode x) (here ∷ []) [] ++ places_from (behind mode x) (next_place here x) (drop (i + 1) bytes)
unfolding places_from
one_place mode here bytes i d x within is =
    at_drop_more (places_from mode here) bytes i d within ∙ sym (ap (λ y. places_from mode here (y ∷ drop (i + 1) bytes)) is)

no_place : (mode : Mode) (here : Place) → places_from mode here [] ≡ []
unfolding places_from
no_place mode here = refl

-- what was found so far and what is left is all, behind one byte more
pub placed_more : (done new : List Place) (mode later : Mode) (here next : Place) (bytes : List ℕ) (i d x : ℕ) (all : List Place) → i < length bytes → x ≡ get_or bytes i d
    → new ≡ done ++ cond (begins mode x) (here ∷ []) [] → later ≡ behind mode x → next ≡ next_place here x → done ++ places_from mode here (drop i bytes) ≡ all
    → new ++ places_from later next (drop (i + 1) bytes) ≡ all
placed_more done new mode later here next bytes i d x all within is added mode_so place_so so =
    ap (λ m. new ++ places_from m next (drop (i + 1) bytes)) mode_so
    ∙ (ap (λ p. new ++ places_from (behind mode x) p (drop (i + 1) bytes)) place_so
    ∙ (ap (λ ps. ps ++ places_from (behind mode x) (next_place here x) (drop (i + 1) bytes)) added
    ∙ (append_assoc done (cond (begins mode x) (here ∷ []) []) (places_from (behind mode x) (next_place here x) (drop (i + 1) bytes))
    ∙ (sym (ap (λ ps. done ++ ps) (one_place mode here bytes i d x within is)) ∙ so))))

pub placed_all : (done : List Place) (mode : Mode) (here : Place) (bytes : List ℕ) (i : ℕ) → length bytes ≤ i
    → done ++ places_from mode here (drop i bytes) ≡ places_from between (at_line 1 1) bytes → done ≡ token_places bytes
placed_all done mode here bytes i end so =
    sym (append-nil done) ∙ (sym (ap (λ ps. done ++ ps) (at_drop_all (places_from mode here) bytes i end ∙ no_place mode here)) ∙ (so ∙ sym (all_placed bytes)))

pub next_within : (here next : Place) (x i : ℕ) → next ≡ next_place here x → here.line ≤ i + 1 → here.column ≤ i + 1 → (next.line ≤ i + 1 + 1) × (next.column ≤ i + 1 + 1)
next_within here next x i is line column = subst (λ (p : Place). (p.line ≤ i + 1 + 1) × (p.column ≤ i + 1 + 1)) (sym is) (by (eqb x line_feed))
  where
    by : (b : Bool) → ((cond b (at_line (here.line + 1) 1) (at_line here.line (here.column + 1))).line ≤ i + 1 + 1)
        × ((cond b (at_line (here.line + 1) 1) (at_line here.line (here.column + 1))).column ≤ i + 1 + 1)
    by true = (omega (arith, line), omega arith)
    by false = (omega (arith, line), omega (arith, column))
