-- What one field says: the masks of a field of columns, and a decimal number.
use Rattle.std.specs.Prelude.{ℕ, ◌+◌, ◌*◌, ◌<◌, min, List, [], ◌∷◌, Option, Some, None, cond, eqb}
use Rattle.fields.specs.Bytes.{mark_of}
use Rattle.fields.specs.declared.Mark.{Mark}
use Rattle.fields.specs.declared.Mark.TheVariants.{Digit, Dash, Space, Hash, Dot, Feed, Other}
use Rattle.fields.specs.declared.Columns.{Columns}

-- a field of columns, by its masks
abbrev pub cube : ℕ → ℕ → ℕ → Option Columns
cube on off dashes = Some (record { on = on; off = off; dashes = dashes })

-- a column in front of others, which move up by one bit: a `0` is a bit of `off`, a `1` one of `on`, a `-` one of `dashes`
abbrev pub column_of : Mark → Option Columns → Option Columns
column_of m None = None
column_of (Digit d) (Some c) =
    cond (eqb d 0) (cube (c.on * 2) (c.off * 2 + 1) (c.dashes * 2)) (cond (eqb d 1) (cube (c.on * 2 + 1) (c.off * 2) (c.dashes * 2)) None)
column_of Dash (Some c) = cube (c.on * 2) (c.off * 2) (c.dashes * 2 + 1)
column_of Space (Some c) = None
column_of Hash (Some c) = None
column_of Dot (Some c) = None
column_of Feed (Some c) = None
column_of Other (Some c) = None

-- the masks of a field of columns, the leftmost being bit 0
unfoldable pub cube_of : List ℕ → Option Columns
cube_of [] = cube 0 0 0
cube_of (b ∷ bs) = column_of (mark_of b) (cube_of bs)

-- what a cube of fewer than ten columns keeps to
abbrev pub Small : Option Columns → Type 0
Small (Some c) = (c.on < 512) × (c.off < 512) × (c.dashes < 512)
Small None = Unit {0}

-- a digit more at the end of a number
abbrev pub digit_of : Option ℕ → Mark → Option ℕ
digit_of None m = None
digit_of (Some v) (Digit d) = Some (v * 10 + d)
digit_of (Some v) Dash = None
digit_of (Some v) Space = None
digit_of (Some v) Hash = None
digit_of (Some v) Dot = None
digit_of (Some v) Feed = None
digit_of (Some v) Other = None

-- more digits at the end of a number
unfoldable pub digits : Option ℕ → List ℕ → Option ℕ
digits v [] = v
digits v (b ∷ bs) = digits (digit_of v (mark_of b)) bs

-- a decimal number, of any length, without leading zeros
unfoldable pub number_of : List ℕ → Option ℕ
number_of [] = None
number_of (b ∷ []) = digits (Some 0) (b ∷ [])
number_of (b ∷ c ∷ bs) = cond (eqb b 48) None (digits (Some 0) (b ∷ c ∷ bs))

-- 10^19: above every size, and above the number of rows that any text in memory has
abbrev pub most : ℕ
most = 10000000000000000000

-- a number as the code keeps it: above 10^19 as 10^19
abbrev pub keep : Option ℕ → Option ℕ
keep None = None
keep (Some v) = Some (min v most)
