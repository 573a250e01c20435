-- The book of a list of words: its members are theirs, it increases, and no list with these two properties is another. The members of the list alone decide it.
use mathlib.Core.Path.{◌≡◌, refl, sym, ap, ◌∙◌}
use mathlib.Core.Logic.{◌⊎◌, inl, inr, ⊎_elim}
use mathlib.Core.Bool.{true}
use mathlib.Core.List.Memᴰ
use mathlib.Core.List.Memᴰ.{head as here}
use mathlib.Core.List.Memᴰ.{tail as there}
use mathlib.Core.List.{List, [], ◌∷◌, ◌++◌, Memᴰ as Mem}
use Prim.Native.Nat.{ℕ, suc, ◌+◌, ◌≤◌}
use native.Mathlib.Omega.{arith}
use lib.ListN.{length}
use Rattle.table.specs.Lists.{increasing, has, filter}
use Rattle.table.proofs.Basics.{filter_e, filter_i, false_test}
use Rattle.table.proofs.Increasing.{increasing_unique, filter_increasing}
use Rattle.table.proofs.Counting.{has_e, has_i, parted}
use Rattle.prime.specs.Sheets.{sheet_of}
use Rattle.prime.proofs.Laws.{sheet_of_members}
use Rattle.book.specs.Books.{told, against, with_word, with_all, book_of, union}
use Rattle.book.proofs.Telling.{told_e, told_members, against_members, with_told, with_longer, with_few, with_e, with_i, with_increasing}

-- ---- all words of a list brought into a book

pub all_e : (ts b : List ℕ) (t : ℕ) → Mem t (with_all ts b) → Mem t ts ⊎ Mem t b
all_e [] b t m = inr m
all_e (u ∷ ts) b t m = go (with_e u (with_all ts b) t m) (all_e ts b t)
  where
    go : (t ≡ u) ⊎ Mem t (with_all ts b) → (Mem t (with_all ts b) → Mem t ts ⊎ Mem t b) → Mem t (u ∷ ts) ⊎ Mem t b
    go (inl e) rec = inl (here e)
    go (inr k) rec = ⊎_elim (λ j. inl (there j)) inr (rec k)

pub all_new : (ts b : List ℕ) (t : ℕ) → Mem t ts → Mem t (with_all ts b)
all_new [] b t m = absurd (Memᴰ.not-nil m)
all_new (u ∷ ts) b t m = with_i u (with_all ts b) t (⊎_elim inl (λ k. inr (all_new ts b t k)) (Memᴰ.cases_cons m))

pub all_old : (ts b : List ℕ) (t : ℕ) → Mem t b → Mem t (with_all ts b)
all_old [] b t m = m
all_old (u ∷ ts) b t m = with_i u (with_all ts b) t (inr (all_old ts b t m))

pub all_increasing : (ts b : List ℕ) → increasing b ≡ true → increasing (with_all ts b) ≡ true
all_increasing [] b up = up
all_increasing (u ∷ ts) b up = with_increasing u (with_all ts b) (all_increasing ts b up)

-- ---- the book of a list

pub book_from : (ts : List ℕ) (t : ℕ) → Mem t (book_of ts) → Mem t ts
unfolding book_of
book_from ts t m = ⊎_elim (λ k. k) (λ k. absurd (Memᴰ.not-nil k)) (all_e ts [] t m)

pub book_to : (ts : List ℕ) (t : ℕ) → Mem t ts → Mem t (book_of ts)
unfolding book_of
book_to ts t m = all_new ts [] t m

pub book_rises : (ts : List ℕ) → increasing (book_of ts) ≡ true
unfolding book_of
book_rises ts = all_increasing ts [] refl

-- the one increasing list with the members of ts
pub book_is : (ts b : List ℕ) → increasing b ≡ true → ((t : ℕ) → Mem t b → Mem t ts) → ((t : ℕ) → Mem t ts → Mem t b) → book_of ts ≡ b
book_is ts b up into out =
    increasing_unique (book_of ts) b (book_rises ts) up (λ t m. out t (book_from ts t m)) (λ t m. book_to ts t (into t m))

-- the members of the list alone decide its book
pub book_members : (ts us : List ℕ) → ((t : ℕ) → Mem t ts → Mem t us) → ((t : ℕ) → Mem t us → Mem t ts) → book_of ts ≡ book_of us
book_members ts us f g = book_is ts (book_of us) (book_rises us) (λ t m. g t (book_from us t m)) (λ t m. book_to us t (f t m))

-- a list in order is its own book
pub book_self : (b : List ℕ) → increasing b ≡ true → book_of b ≡ b
book_self b up = book_is b b up (λ t m. m) (λ t m. m)

pub book_none : book_of [] ≡ []
unfolding book_of
book_none = refl

-- one word more, at the front or at the end of the list
pub book_with : (t : ℕ) (ts : List ℕ) → with_word t (book_of ts) ≡ book_of (t ∷ ts)
unfolding book_of
book_with t ts = refl

pub book_more : (t : ℕ) (ts : List ℕ) → with_word t (book_of ts) ≡ book_of (ts ++ t ∷ [])
book_more t ts =
    book_with t ts ∙ book_members (t ∷ ts) (ts ++ t ∷ [])
    (λ u m. ⊎_elim (λ e. Memᴰ.append_right ts (here e)) (λ k. Memᴰ.append_left (t ∷ []) k) (Memᴰ.cases_cons m))
    (λ u m. ⊎_elim there (λ k. here (Memᴰ.eq_of_singleton k)) (Memᴰ.append_cases ts m))

-- a word that was told changes nothing
pub book_repeat : (t : ℕ) (ts : List ℕ) → told t (book_of ts) ≡ true → book_of (ts ++ t ∷ []) ≡ book_of ts
book_repeat t ts e = sym (book_more t ts) ∙ with_told t (book_of ts) e

-- the union of two is the book of both lists
pub book_union : (ts us : List ℕ) → union (book_of ts) (book_of us) ≡ book_of (ts ++ us)
unfolding union
book_union ts us =
    sym (book_is (ts ++ us) (with_all (book_of ts) (book_of us)) (all_increasing (book_of ts) (book_of us) (book_rises us))
    (λ t m. ⊎_elim (λ k. Memᴰ.append_left us (book_from ts t k)) (λ k. Memᴰ.append_right ts (book_from us t k)) (all_e (book_of ts) (book_of us) t m))
    (λ t m. ⊎_elim (λ k. all_new (book_of ts) (book_of us) t (book_to ts t k)) (λ k. all_old (book_of ts) (book_of us) t (book_to us t k)) (Memᴰ.append_cases ts m)))

-- a word is to the book what it is to the list
pub told_book : (t : ℕ) (ts : List ℕ) → told t (book_of ts) ≡ told t ts
told_book t ts = told_members t (book_of ts) ts (book_from ts) (book_to ts)

pub against_book : (t : ℕ) (ts : List ℕ) → against t (book_of ts) ≡ against t ts
against_book t ts = against_members t (book_of ts) ts (book_from ts) (book_to ts)

-- the sheet of the book is that of the list
pub book_sheet : (n : ℕ) → n ≤ 10 → (ts : List ℕ) → sheet_of n (book_of ts) ≡ sheet_of n ts
book_sheet n small ts = sheet_of_members n small (book_of ts) ts (book_from ts) (book_to ts)

-- ---- how many words it has

-- more words have no smaller book
pub book_within : (ts us : List ℕ) → ((t : ℕ) → Mem t ts → Mem t us) → length (book_of ts) ≤ length (book_of us)
book_within ts us f =
    let e = book_is ts (filter (λ t. has t ts) (book_of us)) (filter_increasing (λ t. has t ts) (book_of us) (book_rises us))
    (λ t m. has_e t ts (filter_e (λ u. has u ts) (book_of us) m).1)
    (λ t m. filter_i (λ u. has u ts) (book_to us t (f t m)) (has_i t ts m)) in
    omega (arith, ap length e, parted (λ t. has t ts) (book_of us))

-- a word that is no repeat makes it longer by one
pub book_longer : (ts : List ℕ) (w : ℕ) → (Mem w ts → ⊥) → length (book_of (ts ++ w ∷ [])) ≡ suc (length (book_of ts))
book_longer ts w f =
    ap length (sym (book_more w ts)) ∙ with_longer w (book_of ts) (false_test (told w (book_of ts)) (λ e. f (book_from ts w (told_e w (book_of ts) e))))

-- a book with a list has no more words than both
pub all_few : (ts b : List ℕ) → length (with_all ts b) ≤ length ts + length b
all_few [] b = omega arith
all_few (u ∷ ts) b = omega (arith, with_few u (with_all ts b), all_few ts b)

-- a book has no more words than the list
pub book_few : (ts : List ℕ) → length (book_of ts) ≤ length ts
unfolding book_of
book_few ts = omega (arith, all_few ts [])
