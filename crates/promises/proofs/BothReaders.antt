-- A lookup's text is bad exactly if both readers give 11 (02, Ask 3).
use Prim.Native.Nat.{ℕ}
use mathlib.Core.Path.{◌≡◌, refl}
use mathlib.Core.List.{List}
use mathlib.Core.Logic.{◌↔◌}
use Rattle.lines.specs.declared.Kind.{Kind}
use Rattle.lines.specs.declared.Kind.TheVariants.{Recording, Sheet}
use Rattle.headers.specs.Layouts.{layout_of}
use Rattle.headers.specs.Accepted.{Accepted}
use Rattle.headers.specs.Places.{Place}
use Rattle.headers.specs.Verdicts.{judge_of}
use Rattle.headers.specs.declared.Layout.{Layout}
use Rattle.headers.specs.Verdicts.{Verdict}
use Rattle.std.specs.Prelude.{Ok, Err}
use Rattle.headers.proofs.Accepting.{good_iff_text}
use Rattle.headers.proofs.PlaceLaws.{bad_iff_place, accepted_no_place}
use Rattle.naming.specs.Answers.{BadText}
use Rattle.reading.specs.Reading.{Reads}
use Rattle.reading.specs.declared.ReadAnswer.{ReadAnswer}
use Rattle.reading.proofs.ReadLaws.{refused_11_iff_place}
use Rattle.returned.specs.Returned.{ReadsSheet}
use Rattle.returned.proofs.SheetReadLaws.{sheet_11_iff_place}

-- a text that is accepted for no n has a fault
fault_of : (lay : Layout) (t : List ℕ) → ((n : ℕ) → Accepted lay n t → ⊥) → (k : ℕ) × Place lay t k
fault_of lay t none = go (judge_of lay t) refl
  where
    go : (v : Verdict) → judge_of lay t ≡ v → (k : ℕ) × Place lay t k
    go (Ok n) e = absurd (none n ((good_iff_text lay t n).0 e))
    go (Err k) e = (k, (bad_iff_place lay t k).0 e)

module _ {t list list' words words' : List ℕ} {r s : ReadAnswer} (h : Reads t list list' r) (q : ReadsSheet t words words' s) where
  pub bad_iff_both_11 : BadText t ↔ ((r.code ≡ 11) × (s.code ≡ 11))
  bad_iff_both_11 = (
    λ b.
        let k = fault_of (layout_of Recording) t (b Recording) in
        let j = fault_of (layout_of Sheet) t (b Sheet) in
        (((refused_11_iff_place h k.0).1 k.1).0, ((sheet_11_iff_place q j.0).1 j.1).0),
    λ e kind. go e.0 e.1 kind,
  )
    where
      go : r.code ≡ 11 → s.code ≡ 11 → (kind : Kind) (n : ℕ) → Accepted (layout_of kind) n t → ⊥
      go e f Recording n x = accepted_no_place (layout_of Recording) t n r.place x ((refused_11_iff_place h r.place).0 (e, refl))
      go e f Sheet n x = accepted_no_place (layout_of Sheet) t n s.place x ((sheet_11_iff_place q s.place).0 (f, refl))
