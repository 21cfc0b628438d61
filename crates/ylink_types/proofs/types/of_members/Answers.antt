use Rattle.std.proofs.Common.{Some, None, ◌∙◌, rules}
use Rattle.yspec.specs.types.Restriction.{union_type}
use Rattle.ylink_types.proofs.TypeLemmas.{made_of}
use Rattle.ylink_types.proofs.types.of_members.Goals as goal

pub returns-in-Some : goal.returns-in-Some
returns-in-Some c =
    c.judge_union.ensures ∙ made_of c.args.types.now c.in_ok-made.field-0 (Some c.in-Some.made) (search rules)
    (c.in_ok-made.ensures (Some (union_type c.args.types.now)) c.union.ensures)

pub returns-in-None : goal.returns-in-None
returns-in-None c =
    made_of c.args.types.now c.in_ok-made.field-0 None (search rules)
    (c.in_ok-made.ensures (Some (union_type c.args.types.now)) c.union.ensures)
