-- An output that is made line by line.
-- Assumes nothing.
use mathlib.Core.Path.{◌≡◌, refl, sym, ap, ◌∙◌}
use mathlib.Core.Bool.{Bool, true, false}
use mathlib.Core.List.{List, [], ◌∷◌, ◌++◌, append_assoc, append-nil}
use Prim.Native.Nat.{ℕ, suc, ◌+◌, ◌<◌}
use native.Mathlib.Omega.{arith}
use lib.ListN.{length, length-append}
use lib.Dec.{eqb}
use Rattle.lists.specs.Lists.{tally}
use Rattle.line_frame.specs.Program.{output_from, feeds_in}

-- a line feed, and any other byte
pub feeds_in_feed : (b : ℕ) (s : List ℕ) → eqb b 10 ≡ true → feeds_in (b ∷ s) ≡ suc (feeds_in s)
feeds_in_feed b s e = omega (arith, ap tally e)

pub feeds_in-more : (b : ℕ) (s : List ℕ) → eqb b 10 ≡ false → feeds_in (b ∷ s) ≡ feeds_in s
feeds_in-more b s e = omega (arith, ap tally e)

pub feeds_in-append : (r s : List ℕ) → feeds_in (r ++ s) ≡ feeds_in r + feeds_in s
feeds_in-append [] s = omega arith
feeds_in-append (b ∷ r) s = omega (arith, feeds_in-append r s)

module _ (told last : List ℕ → List ℕ) where
  output_feed : (r s : List ℕ) (b : ℕ) → eqb b 10 ≡ true → output_from told last r (b ∷ s) ≡ told r ++ output_from told last [] s
  unfolding output_from
  output_feed r s b e = ap (λ (c : Bool). elim c [ true ↦ told r ++ output_from told last [] s | false ↦ output_from told last (r ++ (b ∷ [])) s ]) e

  output_more : (r s : List ℕ) (b : ℕ) → eqb b 10 ≡ false → output_from told last r (b ∷ s) ≡ output_from told last (r ++ (b ∷ [])) s
  unfolding output_from
  output_more r s b e = ap (λ (c : Bool). elim c [ true ↦ told r ++ output_from told last [] s | false ↦ output_from told last (r ++ (b ∷ [])) s ]) e

  -- bytes without a line feed belong to the line
  output_part : (r l s : List ℕ) → feeds_in l ≡ 0 → output_from told last r (l ++ s) ≡ output_from told last (r ++ l) s
  output_part r [] s h = ap (λ (x : List ℕ). output_from told last x s) (sym (append-nil r))
  output_part r (b ∷ l) s h = go (eqb b 10) refl (λ r h. output_part r l s h)
    where
      go : (c : Bool) → eqb b 10 ≡ c → ((r : List ℕ) → feeds_in l ≡ 0 → output_from told last r (l ++ s) ≡ output_from told last (r ++ l) s)
          → output_from told last r (b ∷ l ++ s) ≡ output_from told last (r ++ (b ∷ l)) s
      go true e f = absurd (omega (arith, feeds_in_feed b l e))
      go false e f = output_more r (l ++ s) b e ∙ f (r ++ (b ∷ [])) (omega (arith, feeds_in-more b l e)) ∙ ap (λ (x : List ℕ). output_from told last x s) (append_assoc r (b ∷ []) l)

  -- a line that a line feed ends, and then the output for the rest
  pub output_line : (l s : List ℕ) → feeds_in l ≡ 0 → output_from told last [] (l ++ (10 ∷ s)) ≡ told l ++ output_from told last [] s
  output_line l s h = output_part [] l (10 ∷ s) h ∙ output_feed l s 10 refl

  -- a last line that lacks it
  pub output_last : (l : List ℕ) → feeds_in l ≡ 0 → 0 < length l → output_from told last [] l ≡ last l
  unfolding output_from
  output_last [] h p = absurd (omega arith)
  output_last (b ∷ l) h p = ap (output_from told last []) (sym (append-nil (b ∷ l))) ∙ output_part [] (b ∷ l) [] h

  output_cut : (r s t : List ℕ) → output_from told last r (s ++ (10 ∷ t)) ≡ output_from told last r (s ++ (10 ∷ [])) ++ output_from told last [] t
  unfolding output_from
  output_cut r [] t = ap (λ (x : List ℕ). x ++ output_from told last [] t) (sym (append-nil (told r)))
  output_cut r (b ∷ s) t = go (eqb b 10) refl (output_cut [] s t) (output_cut (r ++ (b ∷ [])) s t)
    where
      go : (c : Bool) → eqb b 10 ≡ c → output_from told last [] (s ++ (10 ∷ t)) ≡ output_from told last [] (s ++ (10 ∷ [])) ++ output_from told last [] t
          → output_from told last (r ++ (b ∷ [])) (s ++ (10 ∷ t)) ≡ output_from told last (r ++ (b ∷ [])) (s ++ (10 ∷ [])) ++ output_from told last [] t
          → output_from told last r (b ∷ s ++ (10 ∷ t)) ≡ output_from told last r (b ∷ s ++ (10 ∷ [])) ++ output_from told last [] t
      go true e f g =
          output_feed r (s ++ (10 ∷ t)) b e
          ∙ ap (λ (x : List ℕ). told r ++ x) f
          ∙ sym (append_assoc (told r) (output_from told last [] (s ++ (10 ∷ []))) (output_from told last [] t))
          ∙ ap (λ (x : List ℕ). x ++ output_from told last [] t) (sym (output_feed r (s ++ (10 ∷ [])) b e))
      go false e f g = output_more r (s ++ (10 ∷ t)) b e ∙ g ∙ ap (λ (x : List ℕ). x ++ output_from told last [] t) (sym (output_more r (s ++ (10 ∷ [])) b e))

  -- if the first part of an input ends in a line feed, the output is that of the one and then that of the other
  pub output_parts : (s t : List ℕ) → output_from told last [] (s ++ (10 ∷ t)) ≡ output_from told last [] (s ++ (10 ∷ [])) ++ output_from told last [] t
  output_parts s t = output_cut [] s t

-- what is written for each line decides
pub output_same : (told last told' last' : List ℕ → List ℕ) → ((l : List ℕ) → told l ≡ told' l) → ((l : List ℕ) → last l ≡ last' l)
    → (r s : List ℕ) → output_from told last r s ≡ output_from told' last' r s
unfolding output_from
output_same told last told' last' f g [] [] = refl
output_same told last told' last' f g (b ∷ r) [] = g (b ∷ r)
output_same told last told' last' f g r (b ∷ s) =
    go (eqb b 10) (ap (λ (x : List ℕ). x ++ output_from told last [] s) (f r) ∙ ap (λ (x : List ℕ). told' r ++ x) (output_same told last told' last' f g [] s)) (output_same told last told' last' f g (r ++ (b ∷ [])) s)
  where
    go : (c : Bool) {w x y z : List ℕ} → w ≡ x → y ≡ z → ◌≡◌ {A = List ℕ} (elim c [ true ↦ w | false ↦ y ]) (elim c [ true ↦ x | false ↦ z ])
    go true p q = p
    go false p q = q

-- if each line is written as one of its length with as many line feeds, and those between the lines stay
module _ (g : List ℕ → List ℕ) (size : (l : List ℕ) → length (g l) ≡ length l) (feeds : (l : List ℕ) → feeds_in (g l) ≡ feeds_in l) where
  abbrev fed_line : List ℕ → List ℕ
  fed_line l = g l ++ (10 ∷ [])

  -- the output is as long as the input
  pub output_length : (r s : List ℕ) → length (output_from fed_line g r s) ≡ length r + length s
  unfolding output_from
  output_length [] [] = refl
  output_length (b ∷ r) [] = omega (arith, size (b ∷ r))
  output_length r (b ∷ s) = go (eqb b 10) refl (omega (arith, output_length [] s)) (output_length (r ++ (b ∷ [])) s)
    where
      go : (c : Bool) → eqb b 10 ≡ c → length (output_from fed_line g [] s) ≡ length s → length (output_from fed_line g (r ++ (b ∷ [])) s) ≡ length (r ++ (b ∷ [])) + length s
          → length (output_from fed_line g r (b ∷ s)) ≡ length r + suc (length s)
      go true e f h =
          ap length (output_feed fed_line g r s b e)
          ∙ omega (arith, length-append (fed_line r) (output_from fed_line g [] s), length-append (g r) (10 ∷ []), size r, f)
      go false e f h = ap length (output_more fed_line g r s b e) ∙ omega (arith, h, length-append r (b ∷ []))

  -- and has as many line feeds
  pub output_feeds : (r s : List ℕ) → feeds_in (output_from fed_line g r s) ≡ feeds_in r + feeds_in s
  unfolding output_from
  output_feeds [] [] = refl
  output_feeds (b ∷ r) [] = omega (arith, feeds (b ∷ r))
  output_feeds r (b ∷ s) = go (eqb b 10) refl (omega (arith, output_feeds [] s)) (output_feeds (r ++ (b ∷ [])) s)
    where
      go : (c : Bool) → eqb b 10 ≡ c → feeds_in (output_from fed_line g [] s) ≡ feeds_in s → feeds_in (output_from fed_line g (r ++ (b ∷ [])) s) ≡ feeds_in (r ++ (b ∷ [])) + feeds_in s
          → feeds_in (output_from fed_line g r (b ∷ s)) ≡ feeds_in r + feeds_in (b ∷ s)
      go true e f h =
          ap feeds_in (output_feed fed_line g r s b e)
          ∙ omega (arith, feeds_in-append (fed_line r) (output_from fed_line g [] s), feeds_in-append (g r) (10 ∷ []), feeds r, f, feeds_in_feed b s e)
      go false e f h = ap feeds_in (output_more fed_line g r s b e) ∙ omega (arith, h, feeds_in-append r (b ∷ []), feeds_in-more b [] e, feeds_in-more b s e)

  -- what is done with the lines of that output is done with the lines as they were written
  pub output_then : (told last : List ℕ → List ℕ) (r s : List ℕ) → feeds_in r ≡ 0 → output_from told last [] (output_from fed_line g r s) ≡ output_from (λ l. told (g l)) (λ l. last (g l)) r s
  unfolding output_from
  output_then told last [] [] h = refl
  output_then told last (b ∷ r) [] h = output_last told last (g (b ∷ r)) (feeds (b ∷ r) ∙ h) (omega (arith, size (b ∷ r)))
  output_then told last r (b ∷ s) h = go (eqb b 10) refl (output_then told last [] s refl) (λ k. output_then told last (r ++ (b ∷ [])) s k)
    where
      go : (c : Bool) → eqb b 10 ≡ c → output_from told last [] (output_from fed_line g [] s) ≡ output_from (λ l. told (g l)) (λ l. last (g l)) [] s
          → (feeds_in (r ++ (b ∷ [])) ≡ 0 → output_from told last [] (output_from fed_line g (r ++ (b ∷ [])) s) ≡ output_from (λ l. told (g l)) (λ l. last (g l)) (r ++ (b ∷ [])) s)
          → output_from told last [] (output_from fed_line g r (b ∷ s)) ≡ output_from (λ l. told (g l)) (λ l. last (g l)) r (b ∷ s)
      go true e f k =
          ap (output_from told last []) (output_feed fed_line g r s b e ∙ append_assoc (g r) (10 ∷ []) (output_from fed_line g [] s))
          ∙ output_line told last (g r) (output_from fed_line g [] s) (feeds r ∙ h)
          ∙ ap (λ (x : List ℕ). told (g r) ++ x) f
          ∙ sym (output_feed (λ l. told (g l)) (λ l. last (g l)) r s b e)
      go false e f k =
          ap (output_from told last []) (output_more fed_line g r s b e)
          ∙ k (omega (arith, h, feeds_in-append r (b ∷ []), feeds_in-more b [] e))
          ∙ sym (output_more (λ l. told (g l)) (λ l. last (g l)) r s b e)
