-- A job that passes on a line that is longer than a frame as it comes.
-- Assumes nothing.
use mathlib.Core.Path.{◌≡◌, refl, sym, ap, ◌∙◌}
use mathlib.Core.Bool.{Bool, true, false, cond}
use mathlib.Core.List.{List, [], ◌∷◌, ◌++◌, append_assoc, append-nil}
use Prim.Native.Nat.{ℕ, ◌+◌, ◌≤◌, ◌<◌}
use native.Mathlib.Omega.{arith}
use lib.ListN.{length, take, length-append, length-take}
use lib.Seq.{take_all, length-take-le}
use borrow.Author.Tests.{lt-ltb, le-ltb, ltb-true, ltb-false}
use Rattle.line_frame.specs.Sizes.{most_line, most_held}
use Rattle.line_frame.specs.Program.{last_of}
use Rattle.line_frame.specs.Begun.{line_length, has_feed, kept_of}
use Rattle.line_stream.specs.Stream.{told_of, Does, is_long, passes_on}

module _ (f : List ℕ → List ℕ) (n : ℕ) (long : (l : List ℕ) → most_line < length l → f l ≡ l) (none : f [] ≡ []) where
  kept-long : (l : List ℕ) → is_long (kept_of l) ≡ is_long l
  kept-long l = go (is_long l) refl
    where
      go : (b : Bool) → is_long l ≡ b → is_long (kept_of l) ≡ b
      go true e = lt-ltb most_line (length (kept_of l)) (omega (arith, length-take-le most_held l (ltb-true most_line (length l) e)))
      go false e = le-ltb most_line (length (kept_of l)) (omega (arith, length-take most_held l, ltb-false most_line (length l) e))

  kept-short : (l : List ℕ) → is_long l ≡ false → kept_of l ≡ l
  kept-short l e = take_all most_held l (omega (arith, ltb-false most_line (length l) e))

  longer : (h s : List ℕ) → is_long h ≡ true → is_long (h ++ s) ≡ true
  longer h s e = lt-ltb most_line (length (h ++ s)) (omega (arith, ltb-true most_line (length h) e, length-append h s))

  more : (h s r : List ℕ) → (passes_on f n).early h s ++ (passes_on f n).told (kept_of (h ++ s)) r ≡ (passes_on f n).told h (s ++ r)
  more h s r = rw (kept-long (h ++ s)) (go (is_long h) (is_long (h ++ s)) refl refl)
    where
      go : (a b : Bool) → is_long h ≡ a → is_long (h ++ s) ≡ b
          → cond a s (cond b (h ++ s) []) ++ (cond b r (f (kept_of (h ++ s) ++ r)) ++ (10 ∷ [])) ≡ cond a (s ++ r) (f (h ++ (s ++ r))) ++ (10 ∷ [])
      go true true p q = sym (append_assoc s r (10 ∷ []))
      go true false p q = let z : ◌≡◌ {A = Bool} true false = sym (longer h s p) ∙ q in absurd (let y : ◌≡◌ {A = ℕ} 0 1 = cc in omega arith)
      go false true p q =
          sym (append_assoc (h ++ s) r (10 ∷ []))
          ∙ ap (λ (l : List ℕ). l ++ (10 ∷ [])) (append_assoc h s r ∙ sym (long (h ++ (s ++ r)) (omega (arith, ltb-true most_line (length (h ++ s)) q, length-append h s, length-append h (s ++ r), length-append s r))))
      go false false p q = ap (λ (l : List ℕ). f l ++ (10 ∷ [])) (ap (λ (l : List ℕ). l ++ r) (kept-short (h ++ s) q) ∙ append_assoc h s r)

  on : (h s r : List ℕ) → (passes_on f n).early h s ++ (passes_on f n).early (kept_of (h ++ s)) r ≡ (passes_on f n).early h (s ++ r)
  on h s r = rw (kept-long (h ++ s)) (go (is_long h) (is_long (h ++ s)) refl refl)
    where
      go : (a b : Bool) → is_long h ≡ a → is_long (h ++ s) ≡ b
          → cond a s (cond b (h ++ s) []) ++ cond b r (cond (is_long (kept_of (h ++ s) ++ r)) (kept_of (h ++ s) ++ r) []) ≡ cond a (s ++ r) (cond (is_long (h ++ (s ++ r))) (h ++ (s ++ r)) [])
      go true true p q = refl
      go true false p q = let z : ◌≡◌ {A = Bool} true false = sym (longer h s p) ∙ q in absurd (let y : ◌≡◌ {A = ℕ} 0 1 = cc in omega arith)
      go false true p q = append_assoc h s r ∙ sym (ap (λ (b : Bool). cond b (h ++ (s ++ r)) []) (ap is_long (sym (append_assoc h s r)) ∙ longer (h ++ s) r q))
      go false false p q = ap (λ (l : List ℕ). cond (is_long l) l []) (ap (λ (l : List ℕ). l ++ r) (kept-short (h ++ s) q) ∙ append_assoc h s r)

  rest : (h : List ℕ) → (passes_on f n).early h [] ++ (passes_on f n).last (kept_of h) ≡ (passes_on f n).last h
  rest h = rw (append-nil h, kept-long h) (go (is_long h) refl)
    where
      go : (b : Bool) → is_long h ≡ b → cond b [] (cond b h []) ++ cond b [] (f (kept_of h)) ≡ cond b [] (f h)
      go true e = refl
      go false e = ap f (kept-short h e)

  end : (l : List ℕ) → (passes_on f n).early [] l ++ (passes_on f n).last (kept_of l) ≡ last_of f l
  end [] = none
  end (b ∷ l) = rw (kept-long (b ∷ l)) (go (is_long (b ∷ l)) refl)
    where
      go : (c : Bool) → is_long (b ∷ l) ≡ c → cond c (b ∷ l) [] ++ cond c [] (f (kept_of (b ∷ l))) ≡ f (b ∷ l)
      go true e = append-nil (b ∷ l) ∙ sym (long (b ∷ l) (ltb-true most_line (length (b ∷ l)) e))
      go false e = ap f (kept-short (b ∷ l) e)

  -- it does so if a line that is too long stays as it is
  pub passes_does : Does (passes_on f n) (λ l. f l ++ (10 ∷ [])) f
  passes_does = record { whole = λ l. refl; end = end; more = more; on = on; rest = rest }

-- how much is written if f keeps the length: at most what is held and what comes, and a line feed
module _ (f : List ℕ → List ℕ) (n : ℕ) (size : (l : List ℕ) → length (f l) ≡ length l) where
  early_most : (h r : List ℕ) → length ((passes_on f n).early h r) ≤ length h + length r
  early_most h r = go (is_long h) (is_long (h ++ r))
    where
      go : (a b : Bool) → length (cond a r (cond b (h ++ r) [])) ≤ length h + length r
      go true b = omega arith
      go false true = omega (arith, length-append h r)
      go false false = omega arith

  ended_most : (h r : List ℕ) → length ((passes_on f n).told h r) ≤ length h + length r + 1
  ended_most h r = go (is_long h)
    where
      go : (a : Bool) → length (cond a r (f (h ++ r)) ++ (10 ∷ [])) ≤ length h + length r + 1
      go true = omega (arith, length-append r (10 ∷ []))
      go false = omega (arith, length-append (f (h ++ r)) (10 ∷ []), size (h ++ r), length-append h r)

  pub passes_most : (h s : List ℕ) → length (told_of (passes_on f n) h s) ≤ length h + length s + 1
  passes_most h s = go (has_feed s)
    where
      go : (c : Bool) → length (cond c ((passes_on f n).told h (take (line_length s) s)) ((passes_on f n).early h s)) ≤ length h + length s + 1
      go true = omega (arith, ended_most h (take (line_length s) s), length-take (line_length s) s)
      go false = omega (arith, early_most h s)

  pub passes-last : (h : List ℕ) → length ((passes_on f n).last h) ≤ length h
  passes-last h = go (is_long h)
    where
      go : (a : Bool) → length (cond a [] (f h)) ≤ length h
      go true = omega arith
      go false = omega (arith, size h)
