-- What take makes of a good sheet, rule by rule: the spared rules and the heirs of the hit ones.
use mathlib.Core.Path.{◌≡◌, sym, ap, ap₂, ◌∙◌, subst}
use mathlib.Core.Logic.{◌⊎◌, inl, inr}
use mathlib.Core.Bool.{Bool, true, not, ◌&&◌}
use mathlib.Core.List.{List, Memᴰ as Mem}
use Prim.Native.Nat.{ℕ, ◌≤◌, ◌<◌}
use Rattle.panel.specs.Rules.{head, covers, narrows, Rule}
use Rattle.panel.specs.Transitions.{state, rests, spared}
use Rattle.panel.specs.Contacts.{free, candidate}
use Rattle.prime.specs.Sheets.{sheet_where, permits, take_sheet}
use Rattle.table.proofs.Basics.{and_l, and_r, and_i, either}
use Rattle.panel.proofs.Words.{narrows_e, narrows_refl, narrows_trans, narrows_antisym}
use Rattle.panel.proofs.Candidates.{added, candidate_narrows, candidate_misses, candidate_found, candidate_order}
use Rattle.prime.proofs.Least.{Good, Least, permits_e, permits_i, member_e, member_i}
use Rattle.prime.proofs.Laws.{spared_e, spared_i, hit_e}

-- a rule that does not cover the state of t is spared
pub spared_miss : (t w : ℕ) → (covers w (state t) ≡ true → ⊥) → spared t w ≡ true
spared_miss t w f = spared_i t w (λ d c. f c)

-- ---- the rules of the new sheet

-- r is a rule of the sheet s that the transition leaves alone
pub record Kept (s : List ℕ) (tr r : ℕ) : Type 0 where
  pub old : Mem r s
  pub alone : spared tr r ≡ true

-- r is an hit rule, with one more contact that disagrees with the state of t; and it narrows no kept rule
pub record Heir (n : ℕ) (s : List ℕ) (tr r : ℕ) : Type 0 where
  pub parent : ℕ
  pub relay : ℕ
  pub parent_old : Mem parent s
  pub parent_hit : spared tr parent ≡ true → ⊥
  pub relay_lt : relay < n
  pub relay_free : free relay parent ≡ true
  pub is : r ≡ candidate parent relay (state tr)
  pub clear : (k : ℕ) → Kept s tr k → narrows r k ≡ true → ⊥

-- a candidacy: an hit rule, and a relay free in it
pub record Candidacy (n : ℕ) (s : List ℕ) (tr b v : ℕ) : Type 0 where
  pub old : Mem b s
  pub struck : spared tr b ≡ true → ⊥
  pub lt : v < n
  pub free_in : free v b ≡ true

module _ (n : ℕ) (small : n ≤ 10) (s : List ℕ) (g : Good n s) (tr : ℕ) where
  -- the state of the transition
  abbrev i : ℕ
  i = state tr

  abbrev q : ℕ → Bool
  q w = permits s w && spared tr w

  -- the test that take's sheet is made of passes at whatever narrows a kept rule, and at a kept rule itself
  kept_passes : (r k : ℕ) → Kept s tr k → narrows r k ≡ true → spared tr r ≡ true → q r ≡ true
  kept_passes r k h p t = and_i (permits s r) (spared tr r) (permits_i s r h.old p) t

  -- a kept rule is in the new sheet
  pub kept_i : (r : ℕ) → Kept s tr r → Mem r (take_sheet n s tr)
  unfolding take_sheet
  kept_i r h = member_i n small q r (g.valid r h.old) (record {
    holds = kept_passes r r h (narrows_refl r) h.alone;
    smallest = λ v rv p t.
        let k = permits_e s v (and_l (permits s v) (spared tr v) t) in
        let e : k.0 ≡ r = g.anti r k.0 h.old k.1 (narrows_trans r v k.0 p k.2) in
        sym (narrows_antisym r v p (subst (λ (x : ℕ). narrows v x ≡ true) e k.2));
  })

  -- a rule of the new sheet is kept or an heir
  pub take_e : (r : ℕ) → Mem r (take_sheet n s tr) → Kept s tr r ⊎ Heir n s tr r
  unfolding take_sheet
  take_e r m = go (either (spared tr b))
    where
      rr : Rule n r
      rr = (member_e n small q r m).0

      l : Least n q r
      l = (member_e n small q r m).1

      al : spared tr r ≡ true
      al = and_r (permits s r) (spared tr r) l.holds

      b : ℕ
      b = (permits_e s r (and_l (permits s r) (spared tr r) l.holds)).0

      mb : Mem b s
      mb = (permits_e s r (and_l (permits s r) (spared tr r) l.holds)).1

      nb : narrows r b ≡ true
      nb = (permits_e s r (and_l (permits s r) (spared tr r) l.holds)).2

      rb : Rule n b
      rb = g.valid b mb

      -- whatever r narrows and is kept is r itself
      kept_is : (k : ℕ) → Kept s tr k → narrows r k ≡ true → k ≡ r
      kept_is k h p = l.smallest k (g.valid k h.old) p (kept_passes k k h (narrows_refl k) h.alone)

      go : (spared tr b ≡ true) ⊎ (spared tr b ≡ true → ⊥) → Kept s tr r ⊎ Heir n s tr r
      go (inl t) = inl (subst (λ (x : ℕ). Kept s tr x) (kept_is b (record { old = mb; alone = t }) nb) (record { old = mb; alone = t }))
      go (inr f) =
          let st = hit_e tr b f in
          let f' = candidate_found n small r b i rr rb nb st.1
          (spared_e tr r al (subst (λ (h : ℕ). rests tr h ≡ true) (sym (narrows_e r b nb).one_head) st.0)) in
          let v = f'.0 in
          let c = candidate b v i in
          let nc : narrows c b ≡ true = candidate_narrows n small b v i rb f'.1 f'.2 in
          let e : c ≡ r =
          l.smallest c (added n small b v rb f'.1 f'.2 i).is_rule f'.3
          (and_i (permits s c) (spared tr c) (permits_i s c mb nc)
          (spared_miss tr c (candidate_misses n small b v i rb f'.1 f'.2))) in
          inr (record {
            parent = b;
            relay = v;
            parent_old = mb;
            parent_hit = f;
            relay_lt = f'.1;
            relay_free = f'.2;
            is = sym e;
            clear = λ k h p.
                let ek : k ≡ r = kept_is k h p in
                let eb : b ≡ k = g.anti k b h.old mb (subst (λ (x : ℕ). narrows x b ≡ true) (sym ek) nb) in
                f (subst (λ (x : ℕ). spared tr x ≡ true) (sym eb) h.alone);
          })

  -- heirs of different parents or relays are different, and none narrows another
  pub heir_order : (b v c u : ℕ) → Candidacy n s tr b v → Candidacy n s tr c u → narrows (candidate b v i) (candidate c u i) ≡ true → (u ≡ v) × (c ≡ b)
  heir_order b v c u x y p =
      let o = candidate_order n small b v c u i
      (g.valid b x.old) x.lt x.free_in (hit_e tr b x.struck).1
      (g.valid c y.old) y.lt y.free_in (hit_e tr c y.struck).1 p in
      (o.0, g.anti b c x.old y.old o.1)

  -- a rule that the old sheet permits and that is spared narrows a kept rule, or an old rule with one more contact
  permitted : (x : ℕ) → Rule n x → q x ≡ true
      → ((k : ℕ) × Kept s tr k × (narrows x k ≡ true)) ⊎ ((c : ℕ) × (u : ℕ) × Candidacy n s tr c u × (narrows x (candidate c u i) ≡ true))
  permitted x rx t = go (either (spared tr c))
    where
      c : ℕ
      c = (permits_e s x (and_l (permits s x) (spared tr x) t)).0

      mc : Mem c s
      mc = (permits_e s x (and_l (permits s x) (spared tr x) t)).1

      nc : narrows x c ≡ true
      nc = (permits_e s x (and_l (permits s x) (spared tr x) t)).2

      go : (spared tr c ≡ true) ⊎ (spared tr c ≡ true → ⊥)
          → ((k : ℕ) × Kept s tr k × (narrows x k ≡ true)) ⊎ ((c : ℕ) × (u : ℕ) × Candidacy n s tr c u × (narrows x (candidate c u i) ≡ true))
      go (inl a) = inl (c, record { old = mc; alone = a }, nc)
      go (inr f) =
          let st = hit_e tr c f in
          let k = candidate_found n small x c i rx (g.valid c mc) nc st.1
          (spared_e tr x (and_r (permits s x) (spared tr x) t) (subst (λ (h : ℕ). rests tr h ≡ true) (sym (narrows_e x c nc).one_head) st.0)) in
          inr (c, k.0, record { old = mc; struck = f; lt = k.1; free_in = k.2 }, k.3)

  heir_least : (b v : ℕ) → Candidacy n s tr b v → ((k : ℕ) → Kept s tr k → narrows (candidate b v i) k ≡ true → ⊥) → Least n q (candidate b v i)
  heir_least b v x clear = record {
    holds = and_i (permits s (candidate b v i)) (spared tr (candidate b v i))
        (permits_i s (candidate b v i) x.old (candidate_narrows n small b v i rb x.lt x.free_in))
        (spared_miss tr (candidate b v i) (candidate_misses n small b v i rb x.lt x.free_in));
    smallest = λ y ry p t. go y p (permitted y ry t);
  }
    where
      rb : Rule n b
      rb = g.valid b x.old

      go : (y : ℕ) → narrows (candidate b v i) y ≡ true
          → ((k : ℕ) × Kept s tr k × (narrows y k ≡ true)) ⊎ ((c : ℕ) × (u : ℕ) × Candidacy n s tr c u × (narrows y (candidate c u i) ≡ true))
          → y ≡ candidate b v i
      go y p (inl k) = absurd (clear k.0 k.1 (narrows_trans (candidate b v i) y k.0 p k.2))
      go y p (inr k) =
          let c = k.0 in
          let u = k.1 in
          let o = heir_order b v c u x k.2 (narrows_trans (candidate b v i) y (candidate c u i) p k.3) in
          let e : candidate c u i ≡ candidate b v i = ap₂ (λ (a d : ℕ). candidate a d i) o.1 o.0 in
          sym (narrows_antisym (candidate b v i) y p (subst (λ (z : ℕ). narrows y z ≡ true) e k.3))

  pub candidacy_of : (r : ℕ) (w : Heir n s tr r) → Candidacy n s tr w.parent w.relay
  candidacy_of r w = record { old = w.parent_old; struck = w.parent_hit; lt = w.relay_lt; free_in = w.relay_free }

  -- an heir is in the new sheet
  pub heir_i : (r : ℕ) → Heir n s tr r → Mem r (take_sheet n s tr)
  unfolding take_sheet
  heir_i r w =
      let x = candidacy_of r w in
      let c = candidate w.parent w.relay i in
      subst (λ (z : ℕ). Mem z (sheet_where n q)) (sym w.is)
      (member_i n small q c (added n small w.parent w.relay (g.valid w.parent w.parent_old) w.relay_lt w.relay_free i).is_rule
      (heir_least w.parent w.relay x (λ k h p. w.clear k h (subst (λ (z : ℕ). narrows z k ≡ true) (sym w.is) p))))

  -- no heir is an old one, and no hit rule is in the new sheet
  pub heir_new : (r : ℕ) → Heir n s tr r → Mem r s → ⊥
  heir_new r w m =
      let rb = g.valid w.parent w.parent_old in
      let nb : narrows r w.parent ≡ true =
      subst (λ (z : ℕ). narrows z w.parent ≡ true) (sym w.is) (candidate_narrows n small w.parent w.relay i rb w.relay_lt w.relay_free) in
      let e : w.parent ≡ r = g.anti r w.parent m w.parent_old nb in
      candidate_misses n small w.parent w.relay i rb w.relay_lt w.relay_free
      (subst (λ (z : ℕ). covers z i ≡ true) (e ∙ w.is) (hit_e tr w.parent w.parent_hit).1)

  pub new_spared : (r : ℕ) → Mem r (take_sheet n s tr) → spared tr r ≡ true
  unfolding take_sheet
  new_spared r m = and_r (permits s r) (spared tr r) (member_e n small q r m).1.holds

-- ---- the words of the document 01: heads that are on stay, heads that are off get the smallest bodies that do not cover the state

spared_rests : (t w : ℕ) → rests t (head w) ≡ true → spared t w ≡ not (covers w (state t))
unfolding spared
spared_rests t w d = ap (λ (b : Bool). not (b && covers w (state t))) d

module _ (n : ℕ) (small : n ≤ 10) (s : List ℕ) (g : Good n s) (t : ℕ) where
  -- the rules of a head that is not off after t are the old ones
  pub other_heads_e : (r : ℕ) → (rests t (head r) ≡ true → ⊥) → Mem r (take_sheet n s t) → Mem r s
  other_heads_e r f m = go (take_e n small s g t r m)
    where
      go : Kept s t r ⊎ Heir n s t r → Mem r s
      go (inl k) = k.old
      go (inr w) =
          absurd (f (subst (λ (h : ℕ). rests t h ≡ true)
          (sym (ap head w.is ∙ (added n small w.parent w.relay (g.valid w.parent w.parent_old) w.relay_lt w.relay_free (state t)).one_head))
          (hit_e t w.parent w.parent_hit).0))

  pub other_heads_i : (r : ℕ) → (rests t (head r) ≡ true → ⊥) → Mem r s → Mem r (take_sheet n s t)
  other_heads_i r f m = kept_i n small s g t r (record { old = m; alone = spared_i t r (λ d c. f d) })

  -- the rules of a head that is off after t are the smallest that the old sheet permits and that do not cover the state
  pub rests_heads_e : (r : ℕ) → rests t (head r) ≡ true → Mem r (take_sheet n s t) → Rule n r × Least n (λ w. permits s w && not (covers w (state t))) r
  unfolding take_sheet
  rests_heads_e r d m =
      let k = member_e n small (λ w. permits s w && spared t w) r m in (
        k.0,
        record {
          holds = ap (λ (b : Bool). permits s r && b) (sym (spared_rests t r d)) ∙ k.1.holds;
          smallest = λ v rv p e.
              let dv : rests t (head v) ≡ true = subst (λ (h : ℕ). rests t h ≡ true) (narrows_e r v p).one_head d in
              k.1.smallest v rv p (ap (λ (b : Bool). permits s v && b) (spared_rests t v dv) ∙ e);
        },
      )

  pub rests_heads_i : (r : ℕ) → rests t (head r) ≡ true → Rule n r → Least n (λ w. permits s w && not (covers w (state t))) r → Mem r (take_sheet n s t)
  unfolding take_sheet
  rests_heads_i r d rr l =
      member_i n small (λ w. permits s w && spared t w) r rr (record {
        holds = ap (λ (b : Bool). permits s r && b) (spared_rests t r d) ∙ l.holds;
        smallest = λ v rv p e.
            let dv : rests t (head v) ≡ true = subst (λ (h : ℕ). rests t h ≡ true) (narrows_e r v p).one_head d in
            l.smallest v rv p (ap (λ (b : Bool). permits s v && b) (sym (spared_rests t v dv)) ∙ e);
      })
