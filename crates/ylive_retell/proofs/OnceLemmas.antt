-- What holds one key is judged by the values that come or go at one of them alone: where the first instance of that value comes, or
-- where the last one goes.
use Rattle.std.proofs.Common.{◌≡◌, ℕ, zero, suc, ◌+◌, ◌≤◌, ◌<◌, Bool, true, false, cond, eqb, List, [], ◌∷◌, refl, sym, ap, ap₂, ◌∙◌, arith}
use Rattle.std.proofs.lemmas.Bool.{eqb-true}
use Rattle.std.proofs.lemmas.List.Sums.{sum_by-cons}
use Rattle.yspec.specs.types.Types.{Val}
use Rattle.yschema_model.specs.declared.node.SchemaId.{SchemaId}
use Rattle.ystore.specs.Store.{same_key}
use Rattle.ystore.specs.declared.key.Key as rust
use Rattle.ystore.specs.declared.key.Key.TheVariants.{Value}
use Rattle.ylive_facts.specs.Keys.{key_view, same}
use Rattle.ylive_facts.proofs.SameLemmas.{same_keys, same_views}
use Rattle.ylive_retell.specs.Growing.{times_valued}
use Rattle.ylive_retell.specs.Reads.{lastly_judged, newly_judged}

abbrev Pair : Type 0
Pair = SchemaId × Val

abbrev pub worth : Bool → ℕ
worth b = cond b 1 0

-- ---- numbers that pass a test

-- how many of the first so many, from 1 on
abbrev pub passing : (ℕ → Bool) → ℕ → ℕ
passing test zero = 0
passing test (suc m) = worth (test (suc m)) + passing test m

pub record Passes (test : ℕ → Bool) (m : ℕ) : Type 0 where
  pub number : ℕ
  pub least : 1 ≤ number
  pub most : number ≤ m
  pub passes : test number ≡ true

-- where only one does
module _ (test : ℕ → Bool) (alone : (s t : ℕ) → test s ≡ true → test t ≡ true → s ≡ t) where
  none_before : (m last : ℕ) → test last ≡ true → m < last → passing test m ≡ 0
  none_before zero last is less = refl
  none_before (suc m) last is less = by (test (suc m)) refl (none_before m last is (omega (arith, less)))
    where
      by : (b : Bool) → test (suc m) ≡ b → passing test m ≡ 0 → worth b + passing test m ≡ 0
      by true e rest = let same = alone (suc m) last e is in absurd (omega (arith, same, less))
      by false e rest = omega (arith, rest)

  -- so they are no more than what it is worth
  passing_most : (m c : ℕ) → (Passes test m → 1 ≤ c) → passing test m ≤ c
  passing_most zero c so = omega arith
  passing_most (suc m) c so = by (test (suc m)) refl (passing_most m c (λ h. so (later h)))
    where
      later : Passes test m → Passes test (suc m)
      later h = let less = h.most in record { number = h.number; least = h.least; most = omega (arith, less); passes = h.passes }

      by : (b : Bool) → test (suc m) ≡ b → passing test m ≤ c → worth b + passing test m ≤ c
      by true e rest =
          let none = none_before m (suc m) e (omega arith) in
          let one = so (record { number = suc m; least = omega arith; most = omega arith; passes = e }) in
          omega (arith, none, one)
      by false e rest = omega (arith, rest)

-- ---- values of one key

pub valued_first : (key : rust.Key) (p : Pair) (ps : List Pair) → times_valued key (p ∷ ps) ≡ worth (same_key (Value p.0 p.1) key) + times_valued key ps
valued_first key p ps = sum_by-cons (λ (q : Pair). worth (same_key (Value q.0 q.1) key)) p ps

pub valued_same : (key other : rust.Key) → key_view key ≡ key_view other → (ps : List Pair) → times_valued key ps ≡ times_valued other ps
valued_same key other views [] = refl
valued_same key other views (p ∷ ps) =
    let value = Value p.0 p.1 in
    let here = valued_first key p ps in
    let there = valued_first other p ps in
    let one = ap worth (same_views value key ∙ (ap (same (key_view value)) views ∙ sym (same_views value other))) in
    let rest = valued_same key other views ps in
    omega (arith, here, there, one, rest)

-- ---- what is judged, by a test of how many of a value are left

abbrev pub judged : (rust.Key → ℕ → Bool) → (rust.Key → ℕ) → List Pair → ℕ
judged test holders [] = 0
judged test holders (p ∷ ps) =
    let key = Value p.0 p.1 in cond (test key (times_valued key (p ∷ ps))) (holders key) 0 + judged test holders ps

-- it is the same of the same keys, and one number passes it
pub record IsOnce (test : rust.Key → ℕ → Bool) : Type 0 where
  pub agree : (key other : rust.Key) → key_view key ≡ key_view other → (t : ℕ) → test key t ≡ test other t
  pub alone : (key : rust.Key) (s t : ℕ) → test key s ≡ true → test key t ≡ true → s ≡ t

module _ (instances : rust.Key → ℕ) (all : List Pair) where
  abbrev pub is_new : rust.Key → ℕ → Bool
  is_new key t = eqb (instances key + times_valued key all) t

  abbrev pub is_last : rust.Key → ℕ → Bool
  is_last key t = eqb (instances key + t) (times_valued key all + 1)

  pub newly_is : (holders : rust.Key → ℕ) (ps : List Pair) → newly_judged instances holders all ps ≡ judged is_new holders ps
  newly_is holders [] = refl
  newly_is holders (p ∷ ps) = let rest = newly_is holders ps in omega (arith, rest)

  pub lastly_is : (holders : rust.Key → ℕ) (ps : List Pair) → lastly_judged instances holders all ps ≡ judged is_last holders ps
  lastly_is holders [] = refl
  lastly_is holders (p ∷ ps) = let rest = lastly_is holders ps in omega (arith, rest)

  module _ (agree : (key other : rust.Key) → key_view key ≡ key_view other → instances key ≡ instances other) where
    pub new_once : IsOnce is_new
    new_once =
        record {
          agree = λ key other views t. ap₂ (λ (m n : ℕ). eqb (m + n) t) (agree key other views) (valued_same key other views all);
          alone = λ key s t a b. sym (eqb-true (instances key + times_valued key all) s a) ∙ eqb-true (instances key + times_valued key all) t b;
        }

    pub last_once : IsOnce is_last
    last_once =
        record {
          agree = λ key other views t. ap₂ (λ (m n : ℕ). eqb (m + t) (n + 1)) (agree key other views) (valued_same key other views all);
          alone = λ key s t a b.
              let first = eqb-true (instances key + s) (times_valued key all + 1) a in
              let second = eqb-true (instances key + t) (times_valued key all + 1) b in
              omega (arith, first, second);
        }

nothing : (b : Bool) (m : ℕ) → m ≡ 0 → cond b m 0 ≡ 0
nothing true m none = none
nothing false m none = refl

-- where nothing holds any of the keys
pub none_judged : (test : rust.Key → ℕ → Bool) (holders : rust.Key → ℕ) → ((p : Pair) → holders (Value p.0 p.1) ≡ 0) → (ps : List Pair) → judged test holders ps ≡ 0
none_judged test holders none [] = refl
none_judged test holders none (p ∷ ps) =
    let key = Value p.0 p.1 in
    let here = nothing (test key (times_valued key (p ∷ ps))) (holders key) (none p) in
    let rest = none_judged test holders none ps in
    omega (arith, here, rest)

-- where one thing holds one key
module _ (test : rust.Key → ℕ → Bool) (once : IsOnce test) (holders : rust.Key → ℕ) (key : rust.Key)
    (holds : (p : Pair) → holders (Value p.0 p.1) ≡ worth (same_key (Value p.0 p.1) key)) where
  judged_passing : (ps : List Pair) → judged test holders ps ≡ passing (test key) (times_valued key ps)
  judged_passing [] = refl
  judged_passing (p ∷ ps) = by (same_key (Value p.0 p.1) key) refl (judged_passing ps)
    where
      value : rust.Key
      value = Value p.0 p.1

      by : (b : Bool) → same_key value key ≡ b → judged test holders ps ≡ passing (test key) (times_valued key ps)
          → judged test holders (p ∷ ps) ≡ passing (test key) (times_valued key (p ∷ ps))
      by true e rest =
          let views = (same_keys value key).0 e in
          let step = valued_first key p ps in
          let one = ap worth e in
          let more : times_valued key (p ∷ ps) ≡ suc (times_valued key ps) = omega (arith, one, step) in
          let same : test value (times_valued value (p ∷ ps)) ≡ test key (suc (times_valued key ps)) =
          once.agree value key views (times_valued value (p ∷ ps)) ∙ ap (test key) (valued_same value key views (p ∷ ps) ∙ more) in
          let here : cond (test value (times_valued value (p ∷ ps))) (holders value) 0 ≡ worth (test key (suc (times_valued key ps))) =
          ap₂ (λ (b : Bool) (m : ℕ). cond b m 0) same (holds p ∙ one) in
          ap₂ (λ (m n : ℕ). m + n) here rest ∙ sym (ap (passing (test key)) more)
      by false e rest =
          let step = valued_first key p ps in
          let one = ap worth e in
          let same : times_valued key (p ∷ ps) ≡ times_valued key ps = omega (arith, one, step) in
          let here = nothing (test value (times_valued value (p ∷ ps))) (holders value) (holds p ∙ one) in
          let whole = ap (passing (test key)) same in
          omega (arith, here, rest, whole)

  pub judged_most : (ps : List Pair) (c : ℕ) → (Passes (test key) (times_valued key ps) → 1 ≤ c) → judged test holders ps ≤ c
  judged_most ps c so =
      let counts = judged_passing ps in
      let most = passing_most (test key) (once.alone key) (times_valued key ps) c so in
      omega (arith, counts, most)
