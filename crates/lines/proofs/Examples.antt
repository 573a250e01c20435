-- What single lines say: the leftmost column is relay 0, comments need no blank, and fields must be apart.
use Prim.Native.Nat.{ℕ}
use mathlib.Core.Path.{◌≡◌, refl}
use mathlib.Core.List.{List, [], ◌∷◌}
use Rattle.fields.specs.Bytes.{mark_of, run, same}
use Rattle.fields.specs.Texts.{body}
use Rattle.fields.specs.Fields.{fields_from, fields_in}
use Rattle.fields.specs.Values.{cube_of, digits, number_of}
use Rattle.lines.specs.Lines.{other_key, key_of, typed_of, row_line, class_of, of_fields, line_of}
use Rattle.lines.specs.declared.Part.TheVariants.{Ins}
use Rattle.lines.specs.declared.Line.{Line}
use Rattle.lines.specs.declared.Line.TheVariants.{Empty, Sized, Row, End, Fault}

-- a line and what it says
abbrev Says : List (List ℕ × Line) → Type 0
Says [] = Unit {0}
Says (e ∷ es) = (line_of e.0 ≡ e.1) × Says es

-- `1-0 011`; `.e#x`; `.i 3#x`; `.i3`; `111110`; ` # only a comment`; `1 1` with a carriage return
pub lines_say : Says (
    (49 ∷ 45 ∷ 48 ∷ 32 ∷ 48 ∷ 49 ∷ 49 ∷ [], Row (record { on = 1; off = 4; free = 2; next = 6; unread = 0; width = 3 }))
    ∷ (46 ∷ 101 ∷ 35 ∷ 120 ∷ [], End)
    ∷ (46 ∷ 105 ∷ 32 ∷ 51 ∷ 35 ∷ 120 ∷ [], Sized Ins 3)
    ∷ (46 ∷ 105 ∷ 51 ∷ [], Fault)
    ∷ (49 ∷ 49 ∷ 49 ∷ 49 ∷ 49 ∷ 48 ∷ [], Fault)
    ∷ (32 ∷ 35 ∷ 32 ∷ 111 ∷ [], Empty)
    ∷ (49 ∷ 32 ∷ 49 ∷ 13 ∷ [], Fault)
    ∷ [])
unfolding mark_of run same body fields_from fields_in cube_of digits number_of other_key key_of typed_of row_line class_of of_fields line_of
lines_say = (refl, (refl, (refl, (refl, (refl, (refl, (refl, tt)))))))
