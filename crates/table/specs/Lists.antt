-- Lists of words: tests over them, what a loop collects, strictly increasing lists, and what stands in one and not in another.
use Rattle.std.specs.Prelude.{ℕ, zero, suc, Bool, true, false, not, ◌&&◌, ◌||◌, cond, List, [], ◌∷◌, ◌++◌, ltb, leb, eqb, length}

-- the test f passes at some element
abbrev pub any : (ℕ → Bool) → List ℕ → Bool
any f [] = false
any f (x ∷ xs) = f x || any f xs

-- the test f passes at every element
abbrev pub all : (ℕ → Bool) → List ℕ → Bool
all f [] = true
all f (x ∷ xs) = f x && all f xs

-- x in front of xs where the test passes, else xs
abbrev pub cons_if : Bool → ℕ → List ℕ → List ℕ
cons_if true x xs = x ∷ xs
cons_if false x xs = xs

-- 1 where the test passes, else 0
abbrev pub one_if : Bool → ℕ
one_if true = 1
one_if false = 0

-- the elements at which f passes, in the order of the list
abbrev pub filter : (ℕ → Bool) → List ℕ → List ℕ
filter f [] = []
filter f (x ∷ xs) = cons_if (f x) x (filter f xs)

-- f 0, f 1, .. up to f (k - 1), one after the other: what a `for i in 0..k` collects
abbrev pub each : ℕ → (ℕ → List ℕ) → List ℕ
each zero f = []
each (suc k) f = each k f ++ f k

-- strictly increasing: each element is below all that follow it
abbrev pub increasing : List ℕ → Bool
increasing [] = true
increasing (x ∷ xs) = all (ltb x) xs && increasing xs

-- the elements of s from lo on and below hi
unfoldable pub between : ℕ → ℕ → List ℕ → List ℕ
between lo hi s = filter (λ w. leb lo w && ltb w hi) s

-- x is an element of xs
unfoldable pub has : ℕ → List ℕ → Bool
has x xs = any (eqb x) xs

-- how many elements of xs are none of ys
unfoldable pub missing : List ℕ → List ℕ → ℕ
missing ys xs = length (filter (λ x. not (has x ys)) xs)

-- no element stands twice
abbrev pub distinct : List ℕ → Bool
distinct [] = true
distinct (x ∷ xs) = not (has x xs) && distinct xs

-- x put in front of the first element that is not below it
abbrev pub insert : ℕ → List ℕ → List ℕ
insert x [] = x ∷ []
insert x (y ∷ ys) = cond (ltb y x) (y ∷ insert x ys) (x ∷ (y ∷ ys))

-- each element of xs put into the list
abbrev pub insert_all : List ℕ → List ℕ → List ℕ
insert_all [] s = s
insert_all (x ∷ xs) s = insert_all xs (insert x s)

-- every element but b
unfoldable pub remove : ℕ → List ℕ → List ℕ
remove b s = filter (λ r. not (eqb r b)) s
