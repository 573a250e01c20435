-- A word of three fields, of which the middle and the low one are below 1,024.
use Rattle.std.specs.Prelude.{ℕ, ◌+◌, ◌*◌, ◌/◌, ◌%◌}

-- the word of the fields a, b and c: a × 1,048,576 + b × 1,024 + c
abbrev pub word_of : ℕ → ℕ → ℕ → ℕ
word_of a b c = a * 1048576 + b * 1024 + c

abbrev pub high : ℕ → ℕ
high w = w / 1048576

abbrev pub middle : ℕ → ℕ
middle w = w / 1024 % 1024

abbrev pub low : ℕ → ℕ
low w = w % 1024
