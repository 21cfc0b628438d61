use Rattle.std.proofs.Common.{◌≡◌, option_map}
use Rattle.std.specs.Prelude.{find, ◌&&◌}
use Rattle.yspec.specs.text.Text.{is_text}
use Rattle.yspec.specs.types.Names.{Assigned}
use Rattle.yspec.specs.types.Types.{is_numbered}
use Rattle.ytype_numbers.specs.Tables.{assigned}
use Rattle.ytype.specs.Identities.{identities_view}
use Rattle.ysay_value.specs.IdentityWords.{bare_name, called}
use Rattle.ysay_value.proofs.identities.called.Given as goal

-- the first of those that are left
abbrev pub invariant-loop-number : goal.invariant-loop-number
invariant-loop-number l = option_map (λ (a : Assigned). a.name)
    (find (λ (a : Assigned). is_numbered l.identities.taken.value.keys a.number && is_text (bare_name a.name) (bare_name l.text)) (assigned l.number-iterator))
    ≡ called (identities_view l.identities) l.text
