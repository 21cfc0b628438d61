-- What a call that may find no memory answers, told otherwise.
use Rattle.std.proofs.Common.{Result, Ok, Err, IfOk, OnOk}

pub if_ok : {X E : Type 0} (P Q : X → Type 0) → ((x : X) → P x → Q x) → (r : Result X E) → IfOk r P → IfOk r Q
if_ok P Q f (Ok x) holds = f x holds
if_ok P Q f (Err e) holds = holds

pub if_done : {X E : Type 0} (P Q : Type 0) → (P → Q) → (r : Result X E) → OnOk r P → OnOk r Q
if_done P Q f (Ok x) holds = f holds
if_done P Q f (Err e) holds = holds

-- what holds whatever it answers
pub always : {X E : Type 0} (P : Type 0) → P → (r : Result X E) → IfOk r (λ x. P)
always P holds (Ok x) = holds
always P holds (Err e) = tt
