-- What edits are answered.
use Rattle.std.proofs.Common.{◌≡◌, Result, sym, subst}
use Rattle.yspec.specs.edit.Editing.{EditRefusal}
use Rattle.yspec.specs.Results.{Gives}
use Rattle.yinst_path.specs.Applying.{told_by}
use Rattle.yinst_path.specs.declared.edit.EditFault.{EditFault}

-- what gives an answer gives the same one in other words
pub answers_same : {X Y : Type 0} (see : X → Y) (given : Result X EditFault) (a b : Result Y EditRefusal) → a ≡ b → Gives see told_by given b → Gives see told_by given a
answers_same {X} {Y} see given a b is h = subst (λ (r : Result Y EditRefusal). Gives see told_by given r) (sym is) h
