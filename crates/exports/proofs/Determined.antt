-- Any two results of a function of the face for C are equal: every slice, the numbers of the answer and the number returned. One theorem for all of them, since each is stated by `Hands`.
use mathlib.Core.Path.{◌≡◌, sym, ap, ◌∙◌}
use mathlib.Core.List.{List}
use Prim.Native.Nat.{ℕ}
use Rattle.public.specs.PublicCalls.{Call, Result}
use Rattle.public.proofs.OneResult.{one_result}
use Rattle.exports.specs.Numbers.{handed, Hands}

pub one_told : (c : Call) (slices slices' : List (List ℕ)) (answer answer' : List ℕ) (r r' : ℕ) → Hands c slices answer r → Hands c slices' answer' r' → (slices ≡ slices') × (answer ≡ answer') × (r ≡ r')
one_told c slices slices' answer answer' r r' x y =
    let e = one_result c x.result y.result x.meets y.meets in
    (x.found ∙ ap (λ (q : Result c). (handed c q).0) e ∙ sym y.found, x.stored ∙ ap (λ (q : Result c). (handed c q).1) e ∙ sym y.stored, x.told ∙ ap (λ (q : Result c). (handed c q).2) e ∙ sym y.told)
