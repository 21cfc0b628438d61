-- What is still to be judged of a text's characters.
use Rattle.std.specs.Prelude.{ℕ, ◌-◌, length, take, not, is_some, List, Bool, true, false, Option, Some, Result, if◌then◌else◌, nat_le, nat_lt, ◌==◌, ◌&&◌, ◌||◌}
use Rattle.std.specs.Str.{chars, is_utf8}
use Rattle.std.specs.Str.Lossy.{utf8_valid_len}
use Rattle.std.specs.Option.{option_map_or}
use Rattle.yspec.specs.Forest.{Forest}
use Rattle.yspec.specs.text.Text.{Text, begins, tab, line_feed, forbidden_line, line_behind}
use Rattle.yspec.specs.text.Scanning.{forbidden_offset}
use Rattle.yspec.specs.text.Statement.{Statement, Slip, slip, text_limit}

-- a byte of no character that isn't allowed, and no carriage return
abbrev pub is_plain : ℕ → Bool
is_plain x = (x == tab || x == line_feed) || (nat_le 32 x && nat_lt x 239)

-- the first line with a character that isn't allowed, from a line on, a carriage return standing just before or not
abbrev pub pending : Bool → ℕ → List ℕ → Option ℕ
pending true line cs = if begins line_feed cs then forbidden_line line cs else Some line
pending false line cs = forbidden_line line cs

-- the same for its place
abbrev pub pending_place : Bool → ℕ → List ℕ → Option ℕ
pending_place true place cs = if begins line_feed cs then forbidden_offset place cs else Some (place - 1)
pending_place false place cs = forbidden_offset place cs

-- a text whose length, encoding and characters a module's may have
abbrev pub is_allowed_text : Text → Bool
is_allowed_text t = not (nat_lt text_limit (length t)) && (is_utf8 t && not (is_some (forbidden_line 1 (chars t))))

-- What a text spells, if its tokens spell this: its length is judged first, then that it is UTF-8, then its characters.
abbrev pub judged : Text → Result (Forest Statement) Slip → Result (Forest Statement) Slip
judged t top = if nat_lt text_limit (length t) then slip 7 1
    else (if is_utf8 t then option_map_or (λ line. slip 2 line) (forbidden_line 1 (chars t)) top
    else slip 1 (line_behind 1 (take (utf8_valid_len t) t)))
