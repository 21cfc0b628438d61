-- How often a piece stands: `?`, `*`, `+`, `{n}`, `{n,}`, `{n,m}` behind a character, a class or a parenthesis (XML Schema,
-- part 2, appendix F).
use Rattle.std.specs.Prelude.{ℕ, ◌+◌, ◌-◌, ◌*◌, ◌==◌, ◌&&◌, List, [], ◌∷◌, Option, Some, None, nat_le, option_map, if◌then◌else◌}
use Rattle.yspec_patterns.specs.Sets.{Set, just, wildcard}
use Rattle.yspec_patterns.specs.Limits.{bounded}
use Rattle.yspec_patterns.specs.Escapes.{goes_on}
use Rattle.yspec_patterns.specs.Classes.{Item, sign_item, set_item}

-- how often at least, and how much more often at most
abbrev pub Times : Type 0
Times = ℕ × Option ℕ

-- what a pattern is built of
pub data Token (X : Type 0) : Type 0 where
  open_group : Token X
  close_group : Token X
  bar : Token X
  atom : X → Token X

-- a token, and how often it stands where it is said
abbrev pub Part : Type 0 → Type 0
Part X = Token X × Option Times

-- what stands outside of classes
pub data Sign : Type 0 where
  token : Token Set → Sign
  quantity : Times → Sign
  open_brace : Sign
  -- what begins no piece
  misplaced : Sign

abbrev pub sign_of_character : ℕ → Sign
sign_of_character c = if c == 40 then token open_group
    else (if c == 41 then token close_group
    else (if c == 124 then token bar
    else (if c == 46 then token (atom wildcard)
    else (if c == 63 then quantity (0, Some 1)
    else (if c == 42 then quantity (0, None)
    else (if c == 43 then quantity (1, None)
    else (if c == 123 then open_brace
    else (if c == 125 then misplaced
    else (if c == 93 then misplaced else token (atom (just c)))))))))))

abbrev pub sign_of : Item → Sign
sign_of (sign_item c) = sign_of_character c
sign_of (set_item s) = token (atom s)

-- what may stand in the braces of a quantity
pub data Mark : Type 0 where
  digit : ℕ → Mark
  comma : Mark
  close_brace : Mark
  no_mark : Mark

abbrev pub mark_of_character : ℕ → Mark
mark_of_character c = if nat_le 48 c && nat_le c 57 then digit (c - 48) else (if c == 44 then comma else (if c == 125 then close_brace else no_mark))

abbrev pub mark_of : Item → Mark
mark_of (sign_item c) = mark_of_character c
mark_of (set_item s) = no_mark

-- what was read last
pub data Counting : Type 0 where
  -- a token that may be repeated, or none
  behind : Option (Token Set) → Counting
  -- behind `{`, and how often at least
  least_due : Token Set → Counting
  least : Token Set → ℕ → Counting
  -- behind `,`, and how often at most
  most_due : Token Set → ℕ → Counting
  most : Token Set → ℕ → ℕ → Counting

abbrev pub PartStep : Type 0
PartStep = Option (Option (Part Set) × Counting)

abbrev pub repeated : Token Set → Times → PartStep
repeated t q = Some (Some (t, Some q), behind None)

-- what can be repeated: a group or a set
abbrev pub repeatable : Option (Token Set) → Option (Token Set)
repeatable (Some close_group) = Some close_group
repeatable (Some (atom s)) = Some (atom s)
repeatable _ = None

abbrev pub repeating : Option (Token Set) → Times → PartStep
repeating None q = None
repeating (Some t) q = repeated t q

abbrev pub counting : Option (Token Set) → PartStep
counting None = None
counting (Some t) = Some (None, least_due t)

abbrev pub once : Token Set → Part Set
once t = (t, None)

abbrev pub sign_step : Option (Token Set) → Sign → PartStep
sign_step before (token t) = Some (option_map once before, behind (Some t))
sign_step before (quantity q) = repeating (repeatable before) q
sign_step before open_brace = counting (repeatable before)
sign_step before misplaced = None

abbrev pub waiting : Counting → PartStep
waiting c = Some (None, c)

-- with a number that isn't too large
abbrev pub counted : (ℕ → Counting) → Option ℕ → PartStep
counted state None = None
counted state (Some n) = waiting (state n)

abbrev pub mark_step : Counting → Mark → PartStep
mark_step (least_due t) (digit d) = waiting (least t d)
mark_step (least t n) (digit d) = counted (least t) (bounded (10 * n + d))
mark_step (least t n) comma = waiting (most_due t n)
mark_step (least t n) close_brace = repeated t (n, Some 0)
mark_step (most_due t n) (digit d) = waiting (most t n d)
mark_step (most_due t n) close_brace = repeated t (n, None)
mark_step (most t n m) (digit d) = counted (most t n) (bounded (10 * m + d))
mark_step (most t n m) close_brace = if nat_le n m then repeated t (n, Some (m - n)) else None
mark_step _ _ = None

abbrev pub part_step : Counting → Item → PartStep
part_step (behind before) item = sign_step before (sign_of item)
part_step state item = mark_step state (mark_of item)

unfoldable pub parts_from : List Item → Counting → Option (List (Part Set))
parts_from [] (behind None) = Some []
parts_from [] (behind (Some t)) = Some (once t ∷ [])
parts_from [] _ = None
parts_from (item ∷ items) state = goes_on (parts_from items) (part_step state item)

abbrev pub parts_of : List Item → Option (List (Part Set))
parts_of items = parts_from items (behind None)
