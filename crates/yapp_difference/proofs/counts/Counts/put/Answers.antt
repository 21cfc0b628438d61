use Rattle.yapp_difference.proofs.IndexLemmas.{put_count}
use Rattle.yapp_difference.proofs.counts.Counts.put.Goals as goal

pub returns : goal.returns
returns c = put_count c.args.key c.args.count c.args.self.now.by_key.entries c.insert.new.self.entries c.in_ok-insert.ensures.entries
