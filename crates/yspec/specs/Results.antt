-- What a fallible call answers, against what a definition gives: one relation for all of them.
use Rattle.std.specs.Prelude.{◌≡◌, Option, Some, None, Result, Ok, Err}

infixl 10 ◌>>=◌
-- goes on from what was answered; a refusal stays
abbrev pub ◌>>=◌ : {A B R : Type 0} → Result A R → (A → Result B R) → Result B R
(Ok x) >>= f = f x
(Err e) >>= f = Err e

-- the definition refuses so; a fault that tells no refusal is want of memory, of which nothing is said
abbrev pub Fails : {Y R : Type 0} → Option R → Result Y R → Type 0
Fails (Some refusal) answer = answer ≡ Err refusal
Fails None answer = Unit {0}

-- What a call returned, as `see` sees it, is what the definition gives, or its fault tells the definition's refusal.
abbrev pub Gives : {X Y F R : Type 0} → (X → Y) → (F → Option R) → Result X F → Result Y R → Type 0
Gives see told (Ok x) answer = answer ≡ Ok (see x)
Gives see told (Err fault) answer = Fails (told fault) answer
