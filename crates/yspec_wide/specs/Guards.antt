-- What hangs on a `when` that isn't judged: it may be there, and nothing is asked of it but what holds of a node wherever it is
-- (RFC 7950, 7.21.5).
use Rattle.std.specs.Prelude.{ℕ, ◌&&◌, Bool, false, not, [], if◌then◌else◌}
use Rattle.std.specs.Option.{option_map_or}
use Rattle.yspec.specs.linking.Scopes.{statement_at}
use Rattle.yspec.specs.linking.Planned.{Planned, Plan}
use Rattle.yspec.specs.schema.Schema.{Kind, container, leaf, leaf_list, list, choice, case, Absence, allowed, key, Amount}
use Rattle.yspec_wide.specs.Language.{Language, version_of, is_yang_1}
use Rattle.yspec_wide.specs.Sources.{bears_when}
use Rattle.yspec_wide.specs.Above.{is_under}

module _ (language : Language) (plan : Plan) where
  -- whether it hangs on one, its own or that of a node above it
  abbrev pub is_guarded : Planned → Bool
  is_guarded p = is_under plan (λ q. bears_when language q.part.own) p

  -- whether the `augment` of a number is let add what must be: it bears one, which YANG 1 doesn't let it (RFC 7950, 7.17; RFC
  -- 6020, 7.15)
  abbrev pub is_let_add : ℕ → Bool
  is_let_add number = option_map_or (λ a. bears_when language a.below && not (is_yang_1 (version_of language plan.modules a.source.home)))
      (statement_at plan.modules number) false

-- ---- what isn't asked where a node hangs on one

-- It may be absent, and then no default is in use; but every entry has its keys.
abbrev pub spared_absence : Absence → Absence
spared_absence key = key
spared_absence _ = allowed

abbrev pub asked_absence : Bool → Absence → Absence
asked_absence guarded absence = if guarded then spared_absence absence else absence

-- there needn't be any
abbrev pub asked_amount : Bool → Amount → Amount
asked_amount guarded amount = record amount { min_elements = if guarded then 0 else amount.min_elements }

abbrev pub asked_kind : Bool → Kind → Kind
asked_kind guarded (container presence) = container presence
asked_kind guarded (leaf type absence) = leaf type (asked_absence guarded absence)
asked_kind guarded (leaf_list type defaults amount) = leaf_list type (if guarded then [] else defaults) (asked_amount guarded amount)
asked_kind guarded (list tuples amount) = list tuples (asked_amount guarded amount)
asked_kind guarded (choice default_case is_mandatory) = choice default_case (not guarded && is_mandatory)
asked_kind guarded case = case
