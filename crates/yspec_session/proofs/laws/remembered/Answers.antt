use Rattle.yspec_session.proofs.RememberingLemmas.{changes, begins, commits, falls, marks, settles, ways, comes_back, falls_back}
use Rattle.yspec_session.proofs.laws.remembered.Goals as goal

pub returns : goal.returns
returns c = record { changed = changes; begun = begins; standing = commits; falling = λ configured. falls; marked = marks; settled = settles; ways = λ schema n k s r. ways schema n k r.later; coming_back = comes_back; falling_back = falls_back }
