-- From the parts of the outline's call to the whole.
-- Assumes nothing.
use Rattle.std.specs.Prelude.{Err, Ok}
use Rattle.std.specs.List.{flat_map}
use Rattle.std.proofs.Common.{length-append, mul-suc}
use mathlib.Core.Bool.{Bool, true, false}
use mathlib.Core.List.{List, [], ◌∷◌, ◌++◌}
use mathlib.Core.Path.{◌≡◌, refl, ap, sym, ◌∙◌}
use Prim.Native.Nat.{ℕ, zero, suc, ◌*◌, ◌<◌, ◌≤◌}
use native.Mathlib.Omega.{arith}
use borrow.Author.Tests.{lt-ltb, le-ltb, ltb-false, not-true, not-false}
use lib.Dec.{ltb}
use lib.ListN.{length, get_or, replicate, length-replicate}
use Rattle.answer.specs.Answers.{Counted, Judged}
use Rattle.answer.specs.declared.{Refusal.TheVariants.OutlineRoom}
use Rattle.answer.specs.Limits.{most_steps}
use Rattle.answer.specs.Refusal.{when}
use Rattle.answer.specs.Listed.{counted_of, laid_if}
use Rattle.grid.specs.declared.Corner.{Corner}
use Rattle.steps.specs.Chain.{as_walk_judged}
use Rattle.steps.proofs.ChainLaws.{good_walk}
use Rattle.outline.specs.Call.{OutlineCall}
use Rattle.outline.specs.Computed.{outline_of}
use Rattle.outline_laws.proofs.OutlineLaws.{outline_of-is}
use Rattle.outline_laws.proofs.CallLaws.{judged-last}
use Rattle.outline_links.specs.Built.{Blank}
use Rattle.outline_map.specs.Ring.{Fits, FitsBy}
use Rattle.outline_path.specs.Ring.{Long, Written}
use Rattle.outline_call.specs.Traced.{Steady, MapFits, Traced}

-- ---- the store

zeros : (n l : ℕ) → ◌≡◌ {A = ℕ} (get_or (replicate n 0) l 0) 0
zeros zero l = refl
zeros (suc n) zero = refl
zeros (suc n) (suc l) = zeros n l

-- a store of n lists of k zeros, laid one after another
abbrev pub flat : ℕ → ℕ → List ℕ
flat n k = flat_map (λ x. x) (replicate n (replicate k 0))

zeros_flat : (n k l : ℕ) → ◌≡◌ {A = ℕ} (get_or (flat n k) l 0) 0
zeros_flat zero k l = refl
zeros_flat (suc n) k l = both (replicate k 0) (zeros k) l (zeros_flat n k)
  where
    both : (xs : List ℕ) → ((m : ℕ) → get_or xs m 0 ≡ 0) → (l : ℕ) → ((m : ℕ) → get_or (flat n k) m 0 ≡ 0) → ◌≡◌ {A = ℕ} (get_or (xs ++ flat n k) l 0) 0
    both [] h l g = g l
    both (x ∷ xs) h zero g = h zero
    both (x ∷ xs) h (suc l) g = both xs (λ m. h (suc m)) l g

length-flat : (n k : ℕ) → length (flat n k) ≡ k * n
length-flat zero k = omega arith
length-flat (suc n) k = length-append (replicate k 0) (flat n k) ∙ omega (arith, length-replicate {A = ℕ} k 0, length-flat n k, mul-suc k n)

-- a store of zeros is blank
pub blank_of : (chain : List ℕ) (n : ℕ) (kids links : List ℕ) → Steady chain → length chain < n → n ≤ suc most_steps → kids ≡ flat n 2 → links ≡ flat n 4 → Blank chain (replicate n 0) kids links
blank_of chain n kids links s h m ek el = record {
  digits = s.digits;
  room = omega (arith, h, length-replicate {A = ℕ} n 0);
  small = omega (arith, m, length-replicate {A = ℕ} n 0);
  pairs = omega (arith, ap length ek, length-flat n 2, length-replicate {A = ℕ} n 0);
  words = omega (arith, ap length el, length-flat n 4, length-replicate {A = ℕ} n 0);
  childless = λ l. ap (λ (x : List ℕ). get_or x l 0) ek ∙ zeros_flat n 2 l;
  linkless = λ l. ap (λ (x : List ℕ). get_or x l 0) el ∙ zeros_flat n 4 l;
}

-- a map of zeros is lent as large as it is
pub box_lent : (chain : List ℕ) (width height from : ℕ) (closed : Bool) (size : ℕ) → MapFits chain width height from closed size → MapFits chain width height from closed (length {A = ℕ} (replicate size 0)) × ((l : ℕ) → ◌≡◌ {A = ℕ} (get_or (replicate size 0) l 0) 0)
box_lent chain width height from closed size f = (record { steady = f.steady; some = f.some; box = f.box; room = omega (arith, f.room, length-replicate {A = ℕ} size 0) }, zeros size)

-- ---- the buffer is too short, or all of it is written

module _ (chain before : List ℕ) where
  by-room : (c : Corner) (j : Judged) (r : Counted) (after : List ℕ) → when (ltb (length before) (length (outline_of c chain))) OutlineRoom ≡ j → r ≡ counted_of j (length (outline_of c chain)) → after ≡ laid_if j (outline_of c chain) before → Traced c chain before r after
  by-room c j r after e a b = record {
    answer = a ∙ sym (ap (λ (k : Judged). counted_of k (length (outline_of c chain))) e);
    buffer = b ∙ sym (ap (λ (k : Judged). laid_if k (outline_of c chain) before) e);
  }

  pub traced_short : (n : ℕ) → Long chain n → length before < n → (c : Corner) → Traced c chain before (Err OutlineRoom) before
  traced_short n l h c =
      by-room c (Err OutlineRoom) (Err OutlineRoom) before (ap (λ b. when b OutlineRoom) (lt-ltb (length before) (length (outline_of c chain)) (omega (arith, l c)))) refl refl

  pub traced_written : (after : List ℕ) (n : ℕ) → Long chain n → n ≤ length before → Written chain before after → (c : Corner) → Traced c chain before (Ok n) after
  traced_written after n l h w c =
      by-room c (Ok tt) (Ok n) after (ap (λ b. when b OutlineRoom) (le-ltb (length before) (length (outline_of c chain)) (omega (arith, l c)))) (ap Ok (l c)) (w c)

  -- the same by a test of the room
  module _ (t : Bool) (f : FitsBy chain (length before) t) where
    pub traced_refused : t ≡ false → (c : Corner) → Traced c chain before (Err OutlineRoom) before
    traced_refused e c = by-room c (Err OutlineRoom) (Err OutlineRoom) before (ap (λ b. when b OutlineRoom) (not-false (ltb (length before) (length (outline_of c chain))) (sym (f c) ∙ e))) refl refl

    pub fits_of : t ≡ true → Fits chain (length before)
    fits_of e c = ltb-false (length before) (length (outline_of c chain)) (not-true (ltb (length before) (length (outline_of c chain))) (sym (f c) ∙ e))

pub traced_empty : (chain before : List ℕ) → length chain ≡ 0 → (c : Corner) → Traced c chain before (Ok 0) before
traced_empty [] before e c = traced_written [] before before 0 (λ a. refl) (omega arith) (λ a. refl) c
traced_empty (d ∷ chain) before e c = absurd (omega arith)

-- ---- the call

module _ (s : Corner) (ds : List ℕ) (e : as_walk_judged s ds ≡ Ok tt) where
  pub steady : Steady ds
  steady = let w = good_walk s ds e in record { digits = w.digits; short = w.short }

  pub call_traced : (before : List ℕ) (r : Counted) (after : List ℕ) → Traced s ds before r after → OutlineCall s ds before r after
  call_traced before r after t =
      let es = outline_of s ds in
      let j = judged-last s ds (length before) (length es) e in
      record {
        steps = es;
        outline = outline_of-is s ds;
        answer = t.answer ∙ sym (ap (λ (k : Judged). counted_of k (length es)) j);
        buffer = t.buffer ∙ sym (ap (λ (k : Judged). laid_if k es before) j);
      }
