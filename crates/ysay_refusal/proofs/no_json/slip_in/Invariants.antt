use Rattle.std.proofs.Common.{◌≡◌, drop}
use Rattle.ysay_refusal.specs.NoJson.{due, said_from}
use Rattle.ysay_refusal.specs.ReachedView.{reached_view}
use Rattle.ysay_refusal.proofs.no_json.slip_in.Given as goal

-- what is said of the bytes that are left
abbrev pub invariant-loop-byte : goal.invariant-loop-byte
invariant-loop-byte l = said_from (reached_view l.reached) l.depth (drop l.byte-index l.bytes) ≡ said_from due 0 l.bytes
