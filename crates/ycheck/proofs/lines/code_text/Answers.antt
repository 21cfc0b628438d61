use Rattle.std.proofs.Common.{refl}
use Rattle.std.specs.Fmt.{digits}
use Rattle.ycheck.proofs.lines.code_text.Goals as goal

pub returns-in-V1 : goal.returns-in-V1
unfolding digits
returns-in-V1 c = rw c.in-V1.is refl

pub returns-in-V2 : goal.returns-in-V2
unfolding digits
returns-in-V2 c = rw c.in-V2.is refl

pub returns-in-V3 : goal.returns-in-V3
unfolding digits
returns-in-V3 c = rw c.in-V3.is refl

pub returns-in-V4 : goal.returns-in-V4
unfolding digits
returns-in-V4 c = rw c.in-V4.is refl

pub returns-in-V5 : goal.returns-in-V5
unfolding digits
returns-in-V5 c = rw c.in-V5.is refl

pub returns-in-V6 : goal.returns-in-V6
unfolding digits
returns-in-V6 c = rw c.in-V6.is refl

pub returns-in-V7 : goal.returns-in-V7
unfolding digits
returns-in-V7 c = rw c.in-V7.is refl

pub returns-in-V8 : goal.returns-in-V8
unfolding digits
returns-in-V8 c = rw c.in-V8.is refl

pub returns-in-V9 : goal.returns-in-V9
unfolding digits
returns-in-V9 c = rw c.in-V9.is refl

pub returns-in-V10 : goal.returns-in-V10
unfolding digits
returns-in-V10 c = rw c.in-V10.is refl

pub returns-in-V11 : goal.returns-in-V11
unfolding digits
returns-in-V11 c = rw c.in-V11.is refl

pub returns-in-V12 : goal.returns-in-V12
unfolding digits
returns-in-V12 c = rw c.in-V12.is refl
