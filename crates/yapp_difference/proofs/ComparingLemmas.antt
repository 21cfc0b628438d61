-- Two lists of faults as they are gone through.
use Rattle.std.proofs.Common.{◌≡◌, ℕ, ◌+◌, ◌<◌, ◌≤◌, ◌^◌, ◌++◌, Bool, true, false, List, [], ◌∷◌, length, drop, refl, sym, ap, ◌∙◌, arith, append-nil}
use Rattle.std.specs.Prelude.{if◌then◌else◌, get_or, nat_lt}
use Rattle.std.proofs.lemmas.List.{append_assoc, at_drop_all, length-map, map-append}
use Rattle.yspec.specs.document.Fault.{Fault}
use Rattle.yspec_session.specs.Carrying.{Turn, Difference, with_gone, difference}
use Rattle.ycheck.specs.View.{view, views}
use Rattle.ycheck.specs.declared.fault.Fault as rust
use Rattle.yapp_difference.specs.Keys.{Key, key_of, same_key}
use Rattle.yapp_difference.specs.Counting.{among, with_all_gone, with_one_less, without}
use Rattle.yapp_difference.proofs.KeyLemmas.{itself}
use Rattle.yapp_difference.proofs.ListLemmas.{next_left}

pub none_left : (fs : List rust.Fault) → length fs ≡ 0 → fs ≡ []
none_left [] is = refl
none_left (f ∷ fs) is = absurd cc

-- ---- counting

-- the first of those that are left
first_among : (faults : List rust.Fault) (i : ℕ) (f : rust.Fault) → i < length faults → f ≡ get_or faults i f → (key k : Key) → key ≡ key_of (view f)
    → among (views (drop i faults)) k ≡ (if same_key key k then among (views (drop (i + 1) faults)) k + 1 else among (views (drop (i + 1) faults)) k)
first_among faults i f within is key k key_is = next_left (λ fs. among (views fs) k) faults i f within is
    ∙ ap (λ j. if same_key j k then among (views (drop (i + 1) faults)) k + 1 else among (views (drop (i + 1) faults)) k) (sym key_is)

pub first_counted : (faults : List rust.Fault) (count : Key → ℕ) → ((k : Key) → count k ≡ 0) → (k : Key) → count k + among (views (drop 0 faults)) k ≡ among (views faults) k
first_counted [] count none k = omega (arith, none k)
first_counted (f ∷ faults) count none k = omega (arith, none k)

pub one_counted : (faults : List rust.Fault) (i : ℕ) (f : rust.Fault) → i < length faults → f ≡ get_or faults i f → (key : Key) → key ≡ key_of (view f)
    → (old new : Key → ℕ) → ((k : Key) → new k ≡ (if same_key key k then old k + 1 else old k))
    → ((k : Key) → old k + among (views (drop i faults)) k ≡ among (views faults) k) → (k : Key) → new k + among (views (drop (i + 1) faults)) k ≡ among (views faults) k
one_counted faults i f within is key key_is old new counted so_far k =
    by (same_key key k) (counted k) (first_among faults i f within is key k key_is) (so_far k)
  where
    rest : ℕ
    rest = among (views (drop (i + 1) faults)) k

    by : (b : Bool) → new k ≡ (if b then old k + 1 else old k) → among (views (drop i faults)) k ≡ (if b then rest + 1 else rest)
        → old k + among (views (drop i faults)) k ≡ among (views faults) k → new k + rest ≡ among (views faults) k
    by true counted first so_far = omega (arith, counted, first, so_far)
    by false counted first so_far = omega (arith, counted, first, so_far)

few_among : (fs : List Fault) (k : Key) → among fs k ≤ length fs
few_among [] k = omega (arith)
few_among (f ∷ fs) k = by (same_key (key_of f) k) (few_among fs k)
  where
    by : (b : Bool) → among fs k ≤ length fs → (if b then among fs k + 1 else among fs k) ≤ length (f ∷ fs)
    by true few = omega (arith, few)
    by false few = omega (arith, few)

pub has_room : (faults : List rust.Fault) (i : ℕ) (f : rust.Fault) → i < length faults → f ≡ get_or faults i f → (key : Key) → key ≡ key_of (view f) → (count : ℕ)
    → count + among (views (drop i faults)) key ≡ among (views faults) key → length faults < 2 ^ 63 → count + 1 < 2 ^ 64
has_room faults i f within is key key_is count so_far small =
    let first = first_among faults i f within is key key key_is
    ∙ ap (λ (b : Bool). if b then among (views (drop (i + 1) faults)) key + 1 else among (views (drop (i + 1) faults)) key) (itself key) in
    let few = few_among (views faults) key in
    let long = length-map faults view in
    omega (arith, first, few, long, so_far, small)

pub all_counted : (faults : List rust.Fault) (i : ℕ) → length faults ≤ i → (count : Key → ℕ) → ((k : Key) → count k + among (views (drop i faults)) k ≡ among (views faults) k)
    → (k : Key) → count k ≡ among (views faults) k
all_counted faults i ended count so_far k =
    let none : among (views (drop i faults)) k ≡ 0 = at_drop_all (λ fs. among (views fs) k) faults i ended in
    omega (arith, so_far k, none)

-- ---- taking

pub first_gone : (turns : List Turn) (fs rest gone : List rust.Fault) → gone ≡ [] → rest ≡ fs → (left : List Fault)
    → with_all_gone (views gone) (difference turns (views rest) left) ≡ difference turns (views fs) left
first_gone turns fs rest gone none all left = ap (λ gs. with_all_gone (views gs) (difference turns (views rest) left)) none
    ∙ ap (λ rs. difference turns (views rs) left) all

pub one_there : (turns : List Turn) (rest more gone : List rust.Fault) (f : rust.Fault) → rest ≡ f ∷ more → (old new : List Fault) (whole : Difference)
    → difference turns (view f ∷ views more) old ≡ difference turns (views more) new
    → with_all_gone (views gone) (difference turns (views rest) old) ≡ whole → with_all_gone (views gone) (difference turns (views more) new) ≡ whole
one_there turns rest more gone f is old new whole says so_far =
    sym (ap (with_all_gone (views gone)) (ap (λ rs. difference turns (views rs) old) is ∙ says)) ∙ so_far

pub one_gone : (turns : List Turn) (rest more gone pushed : List rust.Fault) (f : rust.Fault) → rest ≡ f ∷ more → pushed ≡ gone ++ f ∷ [] → (old new : List Fault) (whole : Difference)
    → difference turns (view f ∷ views more) old ≡ with_gone (view f) (difference turns (views more) new)
    → with_all_gone (views gone) (difference turns (views rest) old) ≡ whole → with_all_gone (views pushed) (difference turns (views more) new) ≡ whole
one_gone turns rest more gone pushed f is more_gone old new whole says so_far =
    let d = difference turns (views more) new in
    ap (λ gs. with_all_gone gs d) (ap views more_gone ∙ map-append view gone (f ∷ []))
    ∙ (ap (λ gs. record d { gone = gs }) (append_assoc (views gone) (view f ∷ []) d.gone)
    ∙ (sym (ap (with_all_gone (views gone)) (ap (λ rs. difference turns (views rs) old) is ∙ says)) ∙ so_far))

pub all_gone : (turns : List Turn) (rest gone : List rust.Fault) → rest ≡ [] → (left : List Fault) (whole : Difference)
    → with_all_gone (views gone) (difference turns (views rest) left) ≡ whole → whole ≡ record { told = left; gone = views gone }
all_gone turns rest gone none left whole so_far =
    sym (sym (ap (λ rs. with_all_gone (views gone) (difference turns (views rs) left)) none) ∙ so_far)
    ∙ ap (λ (gs : List Fault). record { told = left; gone = gs }) (append-nil (views gone))

-- ---- what is left

pub first_left : (faults rest left : List rust.Fault) → left ≡ [] → rest ≡ faults → (c : Key → ℕ) → views left ++ without c (views rest) ≡ without c (views faults)
first_left faults rest left none all c = ap (λ ls. views ls ++ without c (views rest)) none ∙ ap (λ rs. without c (views rs)) all

pub one_matched : (rest more left : List rust.Fault) (f : rust.Fault) → rest ≡ f ∷ more → (key : Key) → key ≡ key_of (view f) → (old new : Key → ℕ) → nat_lt 0 (old key) ≡ true
    → new ≡ with_one_less key old → (whole : List Fault) → views left ++ without old (views rest) ≡ whole → views left ++ without new (views more) ≡ whole
one_matched rest more left f is key key_is old new some less whole so_far =
    ap (λ ls. views left ++ ls)
    (ap (λ (c : Key → ℕ). without c (views more)) (less ∙ ap (λ j. with_one_less j old) key_is)
    ∙ sym (ap (λ rs. without old (views rs)) is
    ∙ ap (λ (b : Bool). if b then without (with_one_less (key_of (view f)) old) (views more) else view f ∷ without old (views more)) (ap (λ j. nat_lt 0 (old j)) (sym key_is) ∙ some)))
    ∙ so_far

pub one_new : (rest more left pushed : List rust.Fault) (f : rust.Fault) → rest ≡ f ∷ more → pushed ≡ left ++ f ∷ [] → (key : Key) → key ≡ key_of (view f) → (old new : Key → ℕ)
    → nat_lt 0 (old key) ≡ false → new ≡ old → (whole : List Fault) → views left ++ without old (views rest) ≡ whole → views pushed ++ without new (views more) ≡ whole
one_new rest more left pushed f is more_left key key_is old new none same whole so_far =
    ap (λ ls. ls ++ without new (views more)) (ap views more_left ∙ map-append view left (f ∷ []))
    ∙ (append_assoc (views left) (view f ∷ []) (without new (views more))
    ∙ (ap (λ (c : Key → ℕ). views left ++ view f ∷ without c (views more)) same
    ∙ (sym (ap (λ ls. views left ++ ls) (ap (λ rs. without old (views rs)) is
    ∙ ap (λ (b : Bool). if b then without (with_one_less (key_of (view f)) old) (views more) else view f ∷ without old (views more)) (ap (λ j. nat_lt 0 (old j)) (sym key_is) ∙ none)))
    ∙ so_far)))

pub all_left : (rest left : List rust.Fault) → rest ≡ [] → (c : Key → ℕ) (whole : List Fault) → views left ++ without c (views rest) ≡ whole → views left ≡ whole
all_left rest left none c whole so_far = sym (append-nil (views left)) ∙ (sym (ap (λ rs. views left ++ without c (views rs)) none) ∙ so_far)
