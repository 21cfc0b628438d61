use Rattle.std.proofs.Common.{◌∙◌}
use Rattle.yschema_model.specs.View as schema_view
use Rattle.yinst_path.specs.EditView.{edit_view}
use Rattle.ystore.specs.Views.{store_of}
use Rattle.ystore.proofs.CallerLemmas.{lent_once, reads_rise}
use Rattle.ylive.proofs.LiveLemmas.{accepts, few_accepted, few_refused, holds_lent, live_accepted, live_memory, live_refused, never_fewer, refuses, tried, wants_memory}
use Rattle.ylive.proofs.live.Live.edit.Goals as goal

pub edit_in-requires : goal.edit_in-requires
edit_in-requires c = holds_lent (schema_view.view c.self.inside.schema) c.self.inside.nodes (store_of c.counted.result) c.self.inside.is_stale c.counted.ensures.store
    c.self.invariant c.if-self.false

pub invariant_of-self : goal.invariant_of-self
invariant_of-self c =
    live_accepted c.self.inside.schema c.self.inside.nodes (store_of c.counted.result) (store_of c.edit_in.new.counted) c.self.inside.is_stale (edit_view c.args.edit.now)
    c.counted.ensures.store c.self.invariant c.if-self.false c.in-Ok.applied c.in-Ok.ensures.applies

pub invariant_of-self-in-Err-Refused : goal.invariant_of-self-in-Err-Refused
invariant_of-self-in-Err-Refused c =
    live_refused c.self.inside.schema c.self.inside.nodes (store_of c.counted.result) (store_of c.edit_in.new.counted) c.self.inside.is_stale (edit_view c.args.edit.now)
    c.counted.ensures.store c.self.invariant c.if-self.false c.in-Err-Refused.code c.in-Err-Refused.doc c.in-Err-Refused.field-0 c.in-Err-Refused.field-0-is
    c.in-Err-Refused.ensures.applies

pub invariant_of-self-in-Err-Memory : goal.invariant_of-self-in-Err-Memory
invariant_of-self-in-Err-Memory c =
    live_memory c.self.inside.schema c.self.inside.nodes (store_of c.counted.result) (store_of c.edit_in.new.counted) c.self.inside.is_stale (edit_view c.args.edit.now)
    c.counted.ensures.store c.self.invariant c.if-self.false c.in-Err-Memory.field-0 c.in-Err-Memory.field-0-is c.in-Err-Memory.ensures.applies

pub returns-in-Ok-clause-edits : goal.returns-in-Ok-clause-edits
returns-in-Ok-clause-edits c =
    accepts c.self.inside.schema c.self.inside.nodes (store_of c.counted.result) (store_of c.edit_in.new.counted) c.self.inside.is_stale (edit_view c.args.edit.now)
    c.counted.ensures.store c.self.invariant c.if-self.false c.args.self.now c.self.view_is c.in-Ok.applied c.in-Ok.ensures.applies

pub returns-in-Err-Refused-clause-edits : goal.returns-in-Err-Refused-clause-edits
returns-in-Err-Refused-clause-edits c =
    refuses c.self.inside.schema c.self.inside.nodes (store_of c.counted.result) (store_of c.edit_in.new.counted) c.self.inside.is_stale (edit_view c.args.edit.now)
    c.counted.ensures.store c.self.invariant c.if-self.false c.args.self.now c.self.view_is c.in-Err-Refused.code c.in-Err-Refused.doc c.in-Err-Refused.field-0
    c.in-Err-Refused.field-0-is c.in-Err-Refused.ensures.applies

pub returns-in-Err-Memory-clause-edits : goal.returns-in-Err-Memory-clause-edits
returns-in-Err-Memory-clause-edits c =
    wants_memory c.self.inside.schema c.self.inside.nodes (store_of c.counted.result) (store_of c.edit_in.new.counted) c.self.inside.is_stale (edit_view c.args.edit.now)
    c.counted.ensures.store c.self.invariant c.if-self.false c.args.self.now c.self.view_is c.in-Err-Memory.field-0 c.in-Err-Memory.field-0-is
    c.in-Err-Memory.ensures.applies

-- the store that is lent still is the one that was
pub returns-in-Ok-clause-reads : goal.returns-in-Ok-clause-reads
returns-in-Ok-clause-reads c =
    few_accepted c.self.inside.schema c.self.inside.nodes (store_of c.counted.result) (store_of c.edit_in.new.counted) c.self.inside.is_stale (edit_view c.args.edit.now)
    c.counted.ensures.store c.self.invariant c.if-self.false c.args.self.now c.self.view_is
    (reads_rise _ c.self.inside.nodes c.edit_in.new.counted (c.edit_in.ensures.same_reference ∙ c.counted.ensures.loan)) c.in-Ok.applied c.in-Ok.ensures.reads

pub returns-in-Err-Refused-clause-reads : goal.returns-in-Err-Refused-clause-reads
returns-in-Err-Refused-clause-reads c =
    few_refused c.self.inside.schema c.self.inside.nodes (store_of c.counted.result) (store_of c.edit_in.new.counted) c.self.inside.is_stale (edit_view c.args.edit.now)
    c.counted.ensures.store c.self.invariant c.if-self.false c.args.self.now c.self.view_is
    (reads_rise _ c.self.inside.nodes c.edit_in.new.counted (c.edit_in.ensures.same_reference ∙ c.counted.ensures.loan)) c.in-Err-Refused.code c.in-Err-Refused.doc c.in-Err-Refused.field-0
    c.in-Err-Refused.field-0-is c.in-Err-Refused.ensures.reads

pub returns-in-Err-Memory-clause-reads : goal.returns-in-Err-Memory-clause-reads
returns-in-Err-Memory-clause-reads c =
    never_fewer c.self.inside.schema c.self.inside.nodes (store_of c.edit_in.new.counted) c.self.inside.is_stale c.args.self.now c.self.view_is
    (reads_rise _ c.self.inside.nodes c.edit_in.new.counted (c.edit_in.ensures.same_reference ∙ c.counted.ensures.loan))

pub returns-in-Ok-clause-lent : goal.returns-in-Ok-clause-lent
returns-in-Ok-clause-lent c = tried c.self.inside.schema c.self.inside.nodes c.self.inside.is_stale c.args.self.now _ c.self.view_is
    (lent_once _ c.self.inside.nodes c.edit_in.new.counted (c.edit_in.ensures.same_reference ∙ c.counted.ensures.loan))

pub returns-in-Err-Refused-clause-lent : goal.returns-in-Err-Refused-clause-lent
returns-in-Err-Refused-clause-lent c = tried c.self.inside.schema c.self.inside.nodes c.self.inside.is_stale c.args.self.now _ c.self.view_is
    (lent_once _ c.self.inside.nodes c.edit_in.new.counted (c.edit_in.ensures.same_reference ∙ c.counted.ensures.loan))

pub returns-in-Err-Memory-clause-lent : goal.returns-in-Err-Memory-clause-lent
returns-in-Err-Memory-clause-lent c = tried c.self.inside.schema c.self.inside.nodes c.self.inside.is_stale c.args.self.now _ c.self.view_is
    (lent_once _ c.self.inside.nodes c.edit_in.new.counted (c.edit_in.ensures.same_reference ∙ c.counted.ensures.loan))
