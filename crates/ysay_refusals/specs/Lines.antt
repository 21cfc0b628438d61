-- What is said of all for which a document is refused behind the first: a line each, and how many more there are.
use Rattle.std.specs.Prelude.{ℕ, zero, suc, ◌-◌, ◌==◌, ◌&&◌, ◌++◌, Bool, nat_le, List, [], ◌∷◌, codes, decimal, drop, take, length, if◌then◌else◌}
use Rattle.std.specs.List.{flat_map}
use Rattle.std.specs.Option.{option_map_or}
use Rattle.yspec.specs.text.Text.{Text}
use Rattle.yspec.specs.schema.Schema.{Schema}
use Rattle.yspec.specs.document.Document.{Step}
use Rattle.yspec.specs.document.Path.{path_text}
use Rattle.yspec.specs.document.Reading.{Refusal, json_of}
use Rattle.ysay_refusal.specs.Member.{due_name, near_name}
use Rattle.ysay_refusal.specs.Place.{last_step, number_after}
use Rattle.ysay_refusal.specs.Sentence.{other_member, said_at, unknown_member}
use Rattle.ysay_refusals.specs.Remarks.{Remark, of_name, of_value, all_remarks}

-- of a name below a node, or at the top
abbrev pub said_of_name : Schema → ℕ → List Step → Text → Text
said_of_name schema code place name = let parent = number_after (last_step place) in
    if code == 3 then unknown_member name (near_name schema parent name) else other_member name (due_name schema parent name)

-- `  CODE PLACE: ..`, where there is anything to say
abbrev pub said_part : Text → Text
said_part [] = []
said_part (x ∷ text) = codes ": " ++ (x ∷ text)

abbrev pub line_of : Schema → ℕ → List Step → Text → Text
line_of schema code place said =
    codes "  J" ++ (decimal code ++ (codes " " ++ (path_text schema place ++ (said_part said ++ codes "\n"))))

abbrev pub remark_line : Schema → Remark → Text
remark_line schema (of_name code place name) = line_of schema code place (said_of_name schema code place name)
remark_line schema (of_value code place d) = line_of schema code place (said_at schema code (last_step place) d)

-- so many have a line
abbrev pub most_lines : ℕ
most_lines = 100

abbrev pub more_line : ℕ → Text
more_line zero = []
more_line (suc n) = codes "  and " ++ (decimal (suc n) ++ codes " more.\n")

-- of some behind the first
abbrev pub other_lines : Schema → List Remark → Text
other_lines schema others = flat_map (remark_line schema) (take most_lines others) ++ more_line (length others - most_lines)

abbrev pub lines_behind : Schema → List Remark → Text
lines_behind schema remarks = other_lines schema (drop 1 remarks)

-- the refusals that have a place in a value of which all are looked for
abbrev pub has_others : ℕ → Bool
has_others code = nat_le 3 code && nat_le code 6

-- of bytes
abbrev pub others_in : Schema → List ℕ → Text
others_in schema bytes = option_map_or (λ d. lines_behind schema (all_remarks schema d)) (json_of bytes) []

-- of such as are refused first for this
unfoldable pub said_of_others : Schema → List ℕ → Refusal → Text
said_of_others schema bytes r = if has_others r.code then others_in schema bytes else []
