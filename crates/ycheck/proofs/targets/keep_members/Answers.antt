use Rattle.std.proofs.Common.{get_or, refl, subst, ◌∙◌, arith}
use Rattle.std.proofs.lemmas.List.{take_all}
use Rattle.yschema_model.specs.Layout.{targets_view}
use Rattle.ycheck.specs.Targets.{required_by_members, KeepsMore}
use Rattle.ycheck.proofs.KeepLemmas.{members_kept, none_kept}
use Rattle.ycheck.proofs.targets.keep_members.Goals as goal

pub loop-members-init : goal.loop-members-init
loop-members-init c = record { kept = none_kept c.args.targets.now; held = λ number v. refl }

pub loop-members-preserved : goal.loop-members-preserved
loop-members-preserved c = record {
  kept = members_kept c.args.targets.now c.loop-members.targets c.keep_each.new.targets c.args.all.now c.loop-members.members-index (get_or c.args.all.now c.loop-members.members-index _) _
      c.loop-members-test.true refl c.loop-members.invariant.kept c.in_ok-keep_each.ensures.kept;
  held = λ number v. c.in_ok-keep_each.ensures.held number v ∙ c.loop-members.invariant.held number v;
}

pub returns-clause-kept : goal.returns-clause-kept
returns-clause-kept c =
    subst (λ ms. KeepsMore c.args.targets.now c.loop-members.targets (required_by_members (targets_view ms))) (take_all c.loop-members.members-index c.args.all.now (omega arith)) c.loop-members.invariant.kept

pub returns-clause-held : goal.returns-clause-held
returns-clause-held c = c.loop-members.invariant.held
