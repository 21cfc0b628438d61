-- How a session ends: what is said of it on the error side, and the exit status.
use Rattle.std.specs.Prelude.{ℕ, ◌==◌, ◌&&◌, Bool, not, [], codes, if◌then◌else◌}
use Rattle.std.specs.List.{starts_with}
use Rattle.yspec.specs.text.Text.{Text}

-- why no more requests are answered
pub data Close : Type 0 where
  -- there are no more, or one asks for the end
  at_end : Close
  -- one couldn't be read
  unread : Close
  -- an answer couldn't be told whole
  untold : Close
  -- memory ran out
  short : Close
  -- there were more than can be counted
  endless : Close

abbrev pub closing_text : Bool → Close → Text
closing_text with_reasons at_end = []
closing_text with_reasons unread = codes "cannot read -\n"
closing_text with_reasons untold = if with_reasons then codes "write failed\n" else []
closing_text with_reasons short = codes "memory\n"
closing_text with_reasons endless = codes "too many lines\n"

-- whether an answer is a refusal
abbrev pub is_refusal : Text → Bool
is_refusal answer = starts_with ◌==◌ answer (codes "{\"refused\":")

-- by whether a request was refused, and by how many faults the document has at the end
abbrev pub closing_status : Close → Bool → ℕ → ℕ
closing_status at_end has_refused faults = if not has_refused && faults == 0 then 0 else 1
closing_status _ has_refused faults = 4
