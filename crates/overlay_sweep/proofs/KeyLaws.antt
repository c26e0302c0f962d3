-- Lower ends are compared by their keys, and read back from them.
-- Assumes nothing.
use Rattle.std.specs.Prelude.{None, Option, Some, IfSome}
use mathlib.Core.Bool.{Bool, true, false, cond, not, true≢false}
use mathlib.Core.List.{List, [], ◌∷◌}
use mathlib.Core.Logic.{inl, inr, ⊎_elim}
use mathlib.Core.Path.{◌≡◌, refl, sym, ap, ap₂, ◌∙◌, subst}
use Prim.Native.Nat.{ℕ, ◌+◌, ◌-◌, ◌*◌, ◌/◌, ◌%◌, ◌<◌, ◌≤◌, min}
use native.Mathlib.Decide.{dec_lt}
use native.Mathlib.Omega.{arith}
use borrow.Author.Tests.{ltb-true, ltb-false, lt-ltb, le-ltb, eq-eqb, ne_eqb}
use lib.Dec.{ltb, eqb}
use lib.IntN.{ℤ, pos, negsuc, suc_ℤ, pred_ℤ, nat_abs, ◌+ℤ◌, ◌-ℤ◌, suc-pred}
use lib.ListN.{get_or}
use lib.Signed.{◌<ℤ◌}
use Rattle.int_laws.specs.Signed.{up, dn}
use Rattle.int_laws.proofs.LinearLaws.{zarith, bal+, bal-}
use Rattle.int_laws.proofs.RangeLaws.{abs_nat, abs+, abs-}
use Rattle.grid.specs.declared.Corner.{Corner}
use Rattle.grid.specs.Grid.{corner}
use Rattle.row.specs.Rows.{span_length}
use Rattle.row_laws.specs.Feet.{ahead, span_of}
use Rattle.row_laws.proofs.FootLaws.{Ahead, ahead_true, ahead_yes, ahead-three}
use Rattle.overlay_laws.specs.Join.{leads}
use Rattle.overlay_laws.specs.Sweep.{end_at, ends_from, Numbers}
use Rattle.overlay_laws.proofs.SweepLaws.{lead_none, lead_alone, lead_both}
use Rattle.overlay_sweep.specs.Keys.{KeyFits, last_key, end_key, key_or_last, key_at, sunk, corner_of, span_between}

-- ---- a coordinate, counted from the least

no_less : (z : ℤ) → dn z ≤ up z → dn z ≡ 0
no_less (pos n) h = refl
no_less (negsuc n) h = absurd (omega arith)

lifted : (z : ℤ) → nat_abs z ≤ 32768 → nat_abs (z +ℤ pos 32768) + dn z ≡ 32768 + up z
lifted z h =
    let b = bal+ z (pos 32768) in
    let d = no_less (z +ℤ pos 32768) (omega (arith, b, h, abs_nat z)) in
    omega (arith, abs_nat (z +ℤ pos 32768), b, d)

unlifted : (z : ℤ) → nat_abs z ≤ 32768 → sunk (nat_abs (z +ℤ pos 32768)) ≡ z
unlifted z h = omega (zarith, bal- (pos (nat_abs (z +ℤ pos 32768))) (pos 32768), lifted z h)

-- ---- keys distinguish corners

end_reached : (list : List ℤ) (n i : ℕ) → Numbers list n → i < n → KeyFits (end_at list i)
end_reached list n i h l =
    (omega (arith, abs+ (get_or list (3 * (i / 2) + 1 + i % 2) (pos 0)) (pos (i % 2)), h.small (3 * (i / 2) + 1 + i % 2) (omega (arith, h.even))), omega (arith, h.small (3 * (i / 2)) (omega (arith, h.even))))

key_before : (p q : Corner) → KeyFits p → KeyFits q → Ahead p q → end_key p < end_key q
key_before p q s t (inl h) = omega (zarith, h, s.0, s.1, t.0, t.1, abs_nat p.0, abs_nat q.0, lifted p.1 s.1, lifted p.0 s.0, lifted q.1 t.1, lifted q.0 t.0)
key_before p q s t (inr h) = omega (zarith, h.0, h.1, lifted p.1 s.1, lifted p.0 s.0, lifted q.1 t.1, lifted q.0 t.0)

pub key_ahead : (p q : Corner) → KeyFits p → KeyFits q → Ahead p q → end_key p ≤ end_key q
key_ahead p q s t h = omega (arith, key_before p q s t h)

key_order : (p q : Corner) → KeyFits p → KeyFits q → ltb (end_key p) (end_key q) ≡ ahead p q
key_order p q s t = by (ahead p q) refl
  where
    by : (b : Bool) → ahead p q ≡ b → ltb (end_key p) (end_key q) ≡ ahead p q
    by true e = lt-ltb (end_key p) (end_key q) (key_before p q s t (ahead_true p q e)) ∙ sym e
    by false e = le-ltb (end_key p) (end_key q) (⊎_elim (λ h. absurd (true≢false (sym (ahead_yes p q h) ∙ e))) (⊎_elim (λ h. omega (arith, ap end_key h)) (λ h. omega (arith, key_before q p t s h))) (ahead-three p q)) ∙ sym e

pub key_last : (c : Corner) → KeyFits c → end_key c < last_key
key_last c s = omega (arith, s.0, s.1, abs_nat c.0, abs_nat c.1, lifted c.1 s.1, lifted c.0 s.0)

-- ---- a span between two keys

key_back : (c : Corner) → KeyFits c → corner_of (end_key c) ≡ c
key_back c s =
    let e : end_key c % 131072 ≡ nat_abs (c.0 +ℤ pos 32768) = omega (arith, s.0, abs_nat c.0, lifted c.0 s.0) in
    let f : end_key c / 131072 ≡ nat_abs (c.1 +ℤ pos 32768) = omega (arith, s.0, abs_nat c.0, lifted c.0 s.0) in
    ap₂ corner (ap sunk e ∙ unlifted c.0 s.0) (ap sunk f ∙ unlifted c.1 s.1)

pub span-back : (p q : Corner) → KeyFits p → KeyFits q → span_between (end_key p) (end_key q) ≡ p.1 ∷ p.0 ∷ pred_ℤ q.0 ∷ []
span-back p q s t = ap₂ (λ (u v : Corner). u.1 ∷ u.0 ∷ pred_ℤ v.0 ∷ []) (key_back p s) (key_back q t)

-- a column that is read back fits its bits
pub sunk_few : (n : ℕ) → n ≤ 131072 → nat_abs (sunk n) ≤ 262144
sunk_few n h = omega (arith, h, abs- (pos n) (pos 32768))

pub key_gap : (p q : Corner) → KeyFits p → KeyFits q → p.1 ≡ q.1 → p.0 <ℤ q.0 → end_key q - end_key p ≡ span_length (span_of p q)
key_gap p q s t r h =
    let d = no_less (q.0 -ℤ p.0) (omega (zarith, h, bal- q.0 p.0)) in
    let e : nat_abs (suc_ℤ (pred_ℤ q.0) -ℤ p.0) ≡ nat_abs (q.0 -ℤ p.0) = ap (λ (z : ℤ). nat_abs (z -ℤ p.0)) (suc-pred q.0) in
    omega (arith, d, e, abs_nat (q.0 -ℤ p.0), bal- q.0 p.0, ap (λ (z : ℤ). nat_abs (z +ℤ pos 32768)) r, lifted p.0 s.0, lifted q.0 t.0)

-- ---- which list leads

-- a number that is the lesser of two
first_least : (p q k : ℕ) → k ≡ min p q → eqb p k ≡ not (ltb q p)
first_least p q k e = by (ltb q p) refl
  where
    by : (b : Bool) → ltb q p ≡ b → eqb p k ≡ not b
    by true f = let l = ltb-true q p f in ne_eqb p k (λ h. omega (arith, e, l, h))
    by false f = let l = ltb-false q p f in eq-eqb p k (omega (arith, e, l))

key_there : (list : List ℤ) (n i : ℕ) → i < n → key_at list n i ≡ end_key (end_at list i)
key_there list n i h = ap (λ (b : Bool). cond b (end_key (end_at list i)) last_key) (lt-ltb i n h)

key_none : (list : List ℤ) (n i : ℕ) → n ≤ i → key_at list n i ≡ last_key
key_none list n i h = ap (λ (b : Bool). cond b (end_key (end_at list i)) last_key) (le-ltb i n h)

-- an end that is read has its key, and one that is not has the last
module _ (list : List ℤ) (n i : ℕ) (r : Option Corner) (there : i < n → r ≡ Some (end_at list i)) (none : n ≤ i → r ≡ None) where
  pub read_fits : Numbers list n → IfSome r KeyFits
  read_fits m = elim (dec_lt i n) [
    | yes h ↦ subst (λ (o : Option Corner). IfSome o KeyFits) (sym (there h)) (end_reached list n i m h)
    | no h ↦ subst (λ (o : Option Corner). IfSome o KeyFits) (sym (none (omega arith))) tt
  ]

  pub read_key : key_or_last r ≡ key_at list n i
  read_key = elim (dec_lt i n) [
    | yes h ↦ ap key_or_last (there h) ∙ sym (key_there list n i h)
    | no h ↦ let l : n ≤ i = omega arith in ap key_or_last (none l) ∙ sym (key_none list n i l)
  ]

pub lead_key : (a : List ℤ) (i na : ℕ) (b : List ℤ) (j nb : ℕ) → Numbers a na → Numbers b nb → i + j < na + nb → (p q k : ℕ) → p ≡ key_at a na i → q ≡ key_at b nb j → k ≡ min p q → i ≤ na → j ≤ nb
    → leads (ends_from a i (na - i)) (ends_from b j (nb - j)) ≡ eqb p k
lead_key a i na b j nb x y more p q k ep eq ek h g = by (ltb i na) (ltb j nb) refl refl
  where
    by : (u v : Bool) → ltb i na ≡ u → ltb j nb ≡ v → leads (ends_from a i (na - i)) (ends_from b j (nb - j)) ≡ eqb p k
    by true true e f =
        let l = ltb-true i na e in
        let m = ltb-true j nb f in
        lead_both a i na b j nb l m
        ∙ ap not (sym (key_order (end_at b j) (end_at a i) (end_reached b nb j y m) (end_reached a na i x l)) ∙ ap₂ ltb (sym (eq ∙ key_there b nb j m)) (sym (ep ∙ key_there a na i l)))
        ∙ sym (first_least p q k ek)
    by true false e f =
        let l = ltb-true i na e in
        let m = ltb-false j nb f in
        lead_alone a i na b j nb l m ∙ sym (eq-eqb p k (omega (arith, ek, ep, eq, key_there a na i l, key_none b nb j m, key_last (end_at a i) (end_reached a na i x l))))
    by false true e f =
        let l = ltb-false i na e in
        let m = ltb-true j nb f in
        lead_none a i na b j nb l ∙ sym (ne_eqb p k (λ z. omega (arith, z, ek, ep, eq, key_none a na i l, key_there b nb j m, key_last (end_at b j) (end_reached b nb j y m))))
    by false false e f = let l = ltb-false i na e in let m = ltb-false j nb f in absurd (omega (arith, l, m, more))

-- the end that comes next, and its key
abbrev Next : List ℤ → ℕ → List ℤ → ℕ → ℕ → Bool → Type 0
Next a i b j k t = KeyFits (cond t (end_at a i) (end_at b j)) × (k ≡ end_key (cond t (end_at a i) (end_at b j)))

pub next_key : (a : List ℤ) (i na : ℕ) (b : List ℤ) (j nb : ℕ) → Numbers a na → Numbers b nb → i + j < na + nb → (p q k : ℕ) → p ≡ key_at a na i → q ≡ key_at b nb j → k ≡ min p q
    → KeyFits (cond (eqb p k) (end_at a i) (end_at b j)) × (k ≡ end_key (cond (eqb p k) (end_at a i) (end_at b j)))
next_key a i na b j nb x y more p q k ep eq ek = by (ltb i na) (ltb j nb) refl refl
  where
    by : (u v : Bool) → ltb i na ≡ u → ltb j nb ≡ v → Next a i b j k (eqb p k)
    by true true e f =
        let l = ltb-true i na e in
        let m = ltb-true j nb f in
        subst (Next a i b j k) (sym (first_least p q k ek)) (either (ltb q p) refl l m)
      where
        either : (t : Bool) → ltb q p ≡ t → i < na → j < nb → Next a i b j k (not t)
        either true g l m = let d = ltb-true q p g in (end_reached b nb j y m, omega (arith, ek, d, eq, key_there b nb j m))
        either false g l m = let d = ltb-false q p g in (end_reached a na i x l, omega (arith, ek, d, ep, key_there a na i l))
    by true false e f =
        let l = ltb-true i na e in
        let m = ltb-false j nb f in
        let s = end_reached a na i x l in
        let w : p ≡ k = omega (arith, ek, ep, eq, key_there a na i l, key_none b nb j m, key_last (end_at a i) s) in
        subst (Next a i b j k) (sym (eq-eqb p k w)) (s, sym w ∙ ep ∙ key_there a na i l)
    by false true e f =
        let l = ltb-false i na e in
        let m = ltb-true j nb f in
        let s = end_reached b nb j y m in
        subst (Next a i b j k) (sym (ne_eqb p k (λ z. omega (arith, z, ek, ep, eq, key_none a na i l, key_there b nb j m, key_last (end_at b j) s)))) (s, omega (arith, ek, ep, eq, key_none a na i l, key_there b nb j m, key_last (end_at b j) s))
    by false false e f = let l = ltb-false i na e in let m = ltb-false j nb f in absurd (omega (arith, l, m, more))
