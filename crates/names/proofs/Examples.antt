-- The bytes of names, all 256 tried; and a name line with a comment: its names, and where each stands.
use Prim.Native.Nat.{ℕ, zero, suc}
use mathlib.Core.Path.{◌≡◌, refl}
use mathlib.Core.List.{List, [], ◌∷◌, ◌++◌}
use mathlib.Core.Bool.{true, false, cond}
use Rattle.fields.specs.Bytes.{mark_of, run, same}
use Rattle.fields.specs.Texts.{body}
use Rattle.fields.specs.Fields.{fields_from, fields_in}
use Rattle.names.specs.Names.{name_byte, all_name, name_ok, holds, good_names, names_in}
use Rattle.names.specs.Spans.{start_at, end_at, span_at, field_at, name_span}

-- the bytes below n that stand in names
abbrev name_bytes : ℕ → List ℕ
name_bytes zero = []
name_bytes (suc b) = name_bytes b ++ cond (name_byte b) (b ∷ []) []

-- so many bytes from b on
abbrev run_of : ℕ → ℕ → List ℕ
run_of b zero = []
run_of b (suc k) = b ∷ run_of (suc b) k

-- of all bytes exactly `0` to `9`, `A` to `Z`, `_` and `a` to `z`
bytes_of_names : name_bytes 256 ≡ run_of 48 10 ++ run_of 65 26 ++ 95 ∷ run_of 97 26
unfolding name_byte
bytes_of_names = refl

-- `.ilb K1  lamp_2 # K3`
abbrev line : List ℕ
line = 46 ∷ 105 ∷ 108 ∷ 98 ∷ 32 ∷ 75 ∷ 49 ∷ 32 ∷ 32 ∷ 108 ∷ 97 ∷ 109 ∷ 112 ∷ 95 ∷ 50 ∷ 32 ∷ 35 ∷ 32 ∷ 75 ∷ 51 ∷ []

-- `K1` and `lamp_2`
names_of_line : names_in line ≡ (75 ∷ 49 ∷ []) ∷ (108 ∷ 97 ∷ 109 ∷ 112 ∷ 95 ∷ 50 ∷ []) ∷ []
unfolding names_in body run mark_of fields_in fields_from
names_of_line = refl

line_is_good : good_names (names_in line) ≡ true
unfolding names_in body run mark_of fields_in fields_from good_names name_ok all_name name_byte holds same
line_is_good = refl

-- `K1` stands from 5 to 7, `lamp_2` from 9 to 15, and no third name before the comment, which starts at 16
first_span : name_span line 0 ≡ record { from = 5; to = 7 }
unfolding name_span field_at span_at start_at end_at body run mark_of
first_span = refl

second_span : name_span line 1 ≡ record { from = 9; to = 15 }
unfolding name_span field_at span_at start_at end_at body run mark_of
second_span = refl

no_third_span : name_span line 2 ≡ record { from = 16; to = 16 }
unfolding name_span field_at span_at start_at end_at body run mark_of
no_third_span = refl

-- 16 bytes are a name, 17 are none, nor is nothing, a name with a dash, or one name twice
longest_name : name_ok (run_of 97 16) ≡ true
unfolding name_ok all_name name_byte
longest_name = refl

too_long : name_ok (run_of 97 17) ≡ false
unfolding name_ok all_name name_byte
too_long = refl

empty_name : name_ok [] ≡ false
unfolding name_ok
empty_name = refl

dashed_name : name_ok (75 ∷ 45 ∷ 49 ∷ []) ≡ false
unfolding name_ok all_name name_byte
dashed_name = refl

name_twice : good_names ((75 ∷ 49 ∷ []) ∷ (75 ∷ 50 ∷ []) ∷ (75 ∷ 49 ∷ []) ∷ []) ≡ false
unfolding good_names name_ok all_name name_byte holds same
name_twice = refl
