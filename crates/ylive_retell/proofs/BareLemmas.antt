-- What leaves the top bare.
use Rattle.std.proofs.Common.{◌≡◌, Bool, true, false, cond, List, [], ◌∷◌, Option, option_map, refl, ap, ◌∙◌}
use Rattle.yschema_model.specs.declared.node.SchemaId.{SchemaId}
use Rattle.ycheck.specs.declared.fault.FaultCode.{FaultCode}
use Rattle.ystore.specs.Held.{Told, with_play}
use Rattle.ystore_rows.specs.declared.row.Row.TheVariants.{Top}
use Rattle.ystore.specs.declared.nodes.Nodes.{Nodes}
use Rattle.ylive_marks.specs.Totals.{told_at}
use Rattle.ylive_retell.specs.Bare.{IsBare}
use Rattle.ylive_retell.specs.Telling.{told_by}
use Rattle.ylive_retell.specs.declared.account.News.{News}

pub bare_still : (before after : Nodes) → told_at after Top ≡ told_at before Top → IsBare before → IsBare after
bare_still before after same bare =
    record { judged = ap (option_map (λ t. t.judged)) same ∙ bare.judged; same = ap (option_map (λ t. t.same)) same ∙ bare.same }

pub bare_with_play : (before after : Nodes) (b : Bool) (play : List (FaultCode × SchemaId))
    → told_at after Top ≡ cond b (option_map (with_play play) (told_at before Top)) (told_at before Top) → IsBare before → IsBare after
bare_with_play before after true play is bare =
    record { judged = ap (option_map (λ t. t.judged)) is ∙ bare.judged; same = ap (option_map (λ t. t.same)) is ∙ bare.same }
bare_with_play before after false play is bare = bare_still before after is bare

-- what is told of nodes isn't told of the top
pub top_untold : (news : List News) (told : Option Told) → told_by news Top told ≡ told
top_untold [] told = refl
top_untold (n ∷ ns) told = top_untold ns told
