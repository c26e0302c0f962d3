-- A job that writes something for each line when it ends.
-- Assumes nothing.
use mathlib.Core.Path.{◌≡◌, refl, sym, ap, ◌∙◌}
use mathlib.Core.Bool.{Bool, true, false, cond}
use mathlib.Core.List.{List, [], ◌∷◌, ◌++◌, append_assoc}
use Prim.Native.Nat.{ℕ, ◌≤◌}
use native.Mathlib.Omega.{arith}
use lib.ListN.{length, take}
use Rattle.line_frame.specs.Sizes.{most_held}
use Rattle.line_frame.specs.Program.{last_of}
use Rattle.line_frame.specs.Begun.{line_length, has_feed, kept_of}
use Rattle.line_stream.specs.Stream.{told_of, Does, tells_each}
use Rattle.line_stream.proofs.StreamLaws.{take-take-append}

module _ (f : List ℕ → List ℕ) (n : ℕ) (kept : (l : List ℕ) → f (kept_of l) ≡ f l) where
  last-kept : (l : List ℕ) → last_of f (kept_of l) ≡ last_of f l
  last-kept [] = refl
  last-kept (b ∷ l) = kept (b ∷ l)

  -- it does so if what is kept of a line decides
  pub each_does : Does (tells_each f n) f f
  each_does = record {
    whole = λ l. refl;
    end = last-kept;
    more = λ h s r. sym (kept (kept_of (h ++ s) ++ r)) ∙ ap f (take-take-append most_held (h ++ s) r) ∙ kept ((h ++ s) ++ r) ∙ ap f (append_assoc h s r);
    on = λ h s r. refl;
    rest = last-kept;
  }

module _ (f : List ℕ → List ℕ) (n : ℕ) (short : (l : List ℕ) → length (f l) ≤ n) where
  pub each_most : (h s : List ℕ) → length (told_of (tells_each f n) h s) ≤ n
  each_most h s = go (has_feed s)
    where
      go : (c : Bool) → length (cond c (f (h ++ take (line_length s) s)) []) ≤ n
      go true = short (h ++ take (line_length s) s)
      go false = omega arith

  pub last_most : (h : List ℕ) → length (last_of f h) ≤ n
  last_most [] = omega arith
  last_most (b ∷ h) = short (b ∷ h)
