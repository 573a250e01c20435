-- The names of a name line: the fields after its first, as tests and as what they say.
use Rattle.std.specs.Prelude.{ℕ, ◌-◌, ◌≤◌, ◌≡◌, List, [], ◌∷◌, ◌++◌, ◌⊎◌, Option, Some, None, Bool, true, false, cond, ◌&&◌, ◌||◌, eqb, leb, ltb, length, take, drop}
use Rattle.fields.specs.Bytes.{same}
use Rattle.fields.specs.Texts.{body}
use Rattle.fields.specs.Fields.{fields_in}
use Rattle.fields.specs.declared.Span.{Span}

-- a byte is one of lo to hi
abbrev pub in_range : ℕ → ℕ → ℕ → Bool
in_range lo hi b = leb lo b && leb b hi

-- a byte of a name: `0` to `9`, `A` to `Z`, `_`, `a` to `z`
unfoldable pub name_byte : ℕ → Bool
name_byte b = in_range 48 57 b || (in_range 65 90 b || (eqb b 95 || in_range 97 122 b))

-- every byte is one
unfoldable pub all_name : List ℕ → Bool
all_name [] = true
all_name (b ∷ bs) = cond (name_byte b) (all_name bs) false

-- a name: 1 to 16 letters, digits or underscores
unfoldable pub name_ok : List ℕ → Bool
name_ok w = cond (eqb (length w) 0) false (cond (ltb 16 (length w)) false (all_name w))

-- a field is among others
unfoldable pub holds : List ℕ → List (List ℕ) → Bool
holds w [] = false
holds w (v ∷ vs) = cond (same w v) true (holds w vs)

-- all are names, and no two are the same
unfoldable pub good_names : List (List ℕ) → Bool
good_names [] = true
good_names (w ∷ ws) = cond (name_ok w) (cond (holds w ws) false (good_names ws)) false

-- how many names there are, if they are good
unfoldable pub names_count : List (List ℕ) → Option ℕ
names_count ws = cond (good_names ws) (Some (length ws)) None

-- two lists of fields are equal, one by one
unfoldable pub same_fields : List (List ℕ) → List (List ℕ) → Bool
same_fields [] [] = true
same_fields [] (w ∷ ws) = false
same_fields (v ∷ vs) [] = false
same_fields (v ∷ vs) (w ∷ ws) = cond (same v w) (same_fields vs ws) false

-- all but the first
abbrev pub tail_of : List (List ℕ) → List (List ℕ)
tail_of [] = []
tail_of (w ∷ ws) = ws

-- the fields of a line after its first: the names of a name line
unfoldable pub names_in : List ℕ → List (List ℕ)
names_in s = tail_of (fields_in (body s))

-- where they stand
pub record NamesAt (line : List ℕ) (r : Span) : Type 0 where
  pub ordered : r.from ≤ r.to
  pub inside : r.to ≤ length line
  pub names : fields_in (take (r.to - r.from) (drop r.from line)) ≡ names_in line

-- ---- what the tests mean (proofs/Meaning)

-- every byte of a field is one of a name
abbrev pub OfName : List ℕ → Type 0
OfName [] = Unit {0}
OfName (b ∷ bs) = (name_byte b ≡ true) × OfName bs

-- a name: 1 to 16 bytes of a name
abbrev pub Name : List ℕ → Type 0
Name w = (1 ≤ length w) × (length w ≤ 16) × OfName w

-- a field is among others
abbrev pub Among : List ℕ → List (List ℕ) → Type 0
Among w [] = ⊥
Among w (v ∷ vs) = (w ≡ v) ⊎ Among w vs

-- names, each different from the others
abbrev pub Names : List (List ℕ) → Type 0
Names [] = Unit {0}
Names (w ∷ ws) = Name w × (Among w ws → ⊥) × Names ws

-- ---- names as they are written

-- each after one space
unfoldable pub spaced : List (List ℕ) → List ℕ
spaced [] = []
spaced (w ∷ ws) = 32 ∷ w ++ spaced ws
