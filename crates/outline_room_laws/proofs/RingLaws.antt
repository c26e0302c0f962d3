-- A ring of ways that the path follows, from its first way round to it again, is the outline; and places on a ring.
-- Assumes nothing.
use mathlib.Core.Bool.{Bool, true, false, cond}
use mathlib.Core.List.{List, [], ◌∷◌}
use mathlib.Core.Logic.{◌⊎◌, inl, inr, ⊎_elim}
use mathlib.Core.Path.{◌≡◌, refl, ap, sym, ◌∙◌, subst}
use Prim.Native.Nat.{ℕ, zero, suc, ◌+◌, ◌-◌, ◌<◌}
use native.Mathlib.Decide.{dec_lt}
use native.Mathlib.Omega.{arith}
use borrow.Author.Tests.{ltb-true, ltb-false}
use lib.Dec.{ltb}
use lib.ListN.{length, get_or, take, drop, length-append, length-drop, get_or-append}
use lib.Seq.{ext_get_or, length-take-le, get_or-take, get_or-drop, get_or-append-add, get_or-append_seam}
use Rattle.area_laws.proofs.MovedLaws.{length-backward}
use Rattle.grid.specs.declared.Corner.{Corner}
use Rattle.grid.specs.Grid.{back}
use Rattle.panels.specs.Moved.{started_at, backward}
use Rattle.outline.specs.Outline.{home_of, path_from_home, OutlineIs}
use Rattle.outline.specs.Computed.{outline_of}
use Rattle.outline_laws.proofs.OrbitLaws.{after, orbit, after_suc, no_sooner}
use Rattle.outline_laws.proofs.EdgeLaws.{Way}
use Rattle.outline_laws.proofs.PathLaws.{next, dirs, path_dirs}
use Rattle.outline_laws.proofs.RoundLaws.{start, Round}
use Rattle.outline_laws.proofs.OutlineLaws.{outline_of-is, outline_round}

dirs-at : (f : Way → Way) (n k : ℕ) (x : Way) → k < n → get_or (dirs (orbit f n x)) k 0 ≡ (after f k x).1
dirs-at f zero k x h = absurd (omega arith)
dirs-at f (suc n) zero x h = refl
dirs-at f (suc n) (suc k) x h = dirs-at f n k (f x) (omega arith)

length-dirs : (f : Way → Way) (n : ℕ) (x : Way) → length (dirs (orbit f n x)) ≡ n
length-dirs f zero x = refl
length-dirs f (suc n) x = ap suc (length-dirs f n (f x))

-- the ways h 0, h 1, .. go round with the steps es
pub record Ring (c : Corner) (ds es : List ℕ) (h : ℕ → Way) : Type 0 where
  pub some : 0 < length es
  pub first : h 0 ≡ start c ds
  pub onto : (n : ℕ) → suc n < length es → next c ds (h n) ≡ h (suc n)
  pub again : (n : ℕ) → suc n ≡ length es → next c ds (h n) ≡ h 0
  pub apart : (n : ℕ) → 0 < n → n < length es → (h n).0 ≡ home_of c ds → ⊥
  pub steps : (n : ℕ) → n < length es → get_or es n 0 ≡ (h n).1

module _ (c : Corner) (ds es : List ℕ) (walks : 0 < length ds) (h : ℕ → Way) (r : Ring c ds es h) where
  ring-after : (n : ℕ) → n < length es → after (next c ds) n (start c ds) ≡ h n
  ring-after zero l = sym r.first
  ring-after (suc n) l = after_suc (next c ds) n (start c ds) ∙ ap (next c ds) (ring-after n (omega arith)) ∙ r.onto n l

  ring_again : (n : ℕ) → suc n ≡ length es → after (next c ds) (suc n) (start c ds) ≡ start c ds
  ring_again n e = after_suc (next c ds) n (start c ds) ∙ ap (next c ds) (ring-after n (omega arith)) ∙ r.again n e ∙ r.first

  ring-length : (m : ℕ) → Round c ds m → m ≡ length es
  ring-length m o = go (length es) refl
    where
      go : (n : ℕ) → length es ≡ n → m ≡ length es
      go zero e = absurd (omega (arith, r.some))
      go (suc j) e =
          elim (dec_lt m (length es)) [
            | yes l ↦ absurd (r.apart m o.some l (ap (λ (y : Way). y.0) (sym (ring-after m l) ∙ o.again)))
            | no l ↦ elim (dec_lt (length es) m) [ yes g ↦ absurd (no_sooner (next c ds) m (suc j) (start c ds) o.once (omega arith) (omega arith) (ring_again j (sym e))) | no g ↦ omega arith ]
          ]

  pub ring_outline : OutlineIs c ds es
  ring_outline =
      let o = outline_of-is c ds in
      let l : length (outline_of c ds) ≡ length es = ring-length (length (outline_of c ds)) (outline_round o walks) in
      let f = next c ds in
      let s = start c ds in
      let e : path_from_home c ds (length es) ≡ es = path_dirs c ds (length es) s ∙ ext_get_or 0 (dirs (orbit f (length es) s)) es (length-dirs f (length es) s) (λ k g. each k (omega (arith, g, length-dirs f (length es) s))) in
      subst (OutlineIs c ds) (o.path ∙ ap (path_from_home c ds) l ∙ e) o
    where
      each : (k : ℕ) → k < length es → get_or (dirs (orbit (next c ds) (length es) (start c ds))) k 0 ≡ get_or es k 0
      each k g = dirs-at (next c ds) (length es) k (start c ds) g ∙ ap (λ (y : Way). y.1) (ring-after k g) ∙ sym (r.steps k g)

-- ---- places on a ring of N

-- n places after k
abbrev pub on_ring : ℕ → ℕ → ℕ → ℕ
on_ring N k n = cond (ltb (k + n) N) (k + n) ((k + n) - N)

pub on_ring_cases : (N k n : ℕ) → k < N → n < N → ((on_ring N k n ≡ k + n) × (k + n < N)) ⊎ ((on_ring N k n + N ≡ k + n) × (on_ring N k n < N))
on_ring_cases N k n hk hn = go (ltb (k + n) N) refl
  where
    go : (b : Bool) → ltb (k + n) N ≡ b → ((on_ring N k n ≡ k + n) × (k + n < N)) ⊎ ((on_ring N k n + N ≡ k + n) × (on_ring N k n < N))
    go true e = inl (rw e, ltb-true (k + n) N e)
    go false e =
        let l = ltb-false (k + n) N e in
        let w : on_ring N k n ≡ (k + n) - N = rw e in
        inr (omega (arith, w, l), omega (arith, w, l))

-- ---- the steps of a walk from another place, and backwards

module _ (ds : List ℕ) (k : ℕ) (h : k < length ds) where
  pub length_started : length (started_at k ds) ≡ length ds
  length_started = length-append (drop k ds) (take k ds) ∙ omega (arith, length-drop k ds, length-take-le k ds (omega arith))

  pub started_at_lem : (n : ℕ) → n < length ds → get_or (started_at k ds) n 0 ≡ get_or ds (on_ring (length ds) k n) 0
  started_at_lem n l = ⊎_elim early late (on_ring_cases (length ds) k n h l)
    where
      early : (on_ring (length ds) k n ≡ k + n) × (k + n < length ds) → get_or (started_at k ds) n 0 ≡ get_or ds (on_ring (length ds) k n) 0
      early z = get_or-append (drop k ds) (take k ds) 0 n (omega (arith, length-drop k ds, z.1)) ∙ get_or-drop k ds n 0 ∙ ap (λ (i : ℕ). get_or ds i 0) (sym z.0)

      late : (on_ring (length ds) k n + length ds ≡ k + n) × (on_ring (length ds) k n < length ds) → get_or (started_at k ds) n 0 ≡ get_or ds (on_ring (length ds) k n) 0
      late z =
          let i = on_ring (length ds) k n in
          let e : n ≡ length (drop k ds) + i = omega (arith, length-drop k ds, z.0) in
          ap (λ (j : ℕ). get_or (started_at k ds) j 0) e ∙ get_or-append-add (drop k ds) (take k ds) i 0 ∙ get_or-take k ds i 0 (omega (arith, z.0, l))

pub backward-at : (es : List ℕ) (n m : ℕ) → suc (n + m) ≡ length es → get_or (backward es) n 0 ≡ back (get_or es m 0)
backward-at [] n m h = absurd (omega arith)
backward-at (e ∷ es) n zero h =
    let z : n ≡ length (backward es) = omega (arith, length-backward es) in
    ap (λ (j : ℕ). get_or (backward (e ∷ es)) j 0) z ∙ get_or-append_seam (backward es) (back e) [] 0
backward-at (e ∷ es) n (suc m) h =
    get_or-append (backward es) (back e ∷ []) 0 n (omega (arith, length-backward es)) ∙ backward-at es n m (omega arith)
