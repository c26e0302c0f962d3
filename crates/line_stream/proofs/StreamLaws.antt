-- Input that comes in parts, whatever is written for a line.
-- Assumes nothing.
use mathlib.Core.Path.{◌≡◌, refl, sym, ap, ◌∙◌}
use mathlib.Core.Bool.{Bool, true, false, cond}
use mathlib.Core.List.{List, [], ◌∷◌, ◌++◌, append_assoc, append-nil}
use Prim.Native.Nat.{ℕ, zero, suc, ◌-◌, ◌<◌, ◌≤◌}
use native.Mathlib.Omega.{arith}
use lib.ListN.{length, take, drop, length-drop}
use lib.Seq.{take-length, take_all}
use lib.Dec.{eqb}
use borrow.Author.Tests.{ltb-true, ltb-false}
use Rattle.line_frame.specs.Sizes.{most_held}
use Rattle.line_frame.specs.Program.{output_from}
use Rattle.line_frame.specs.Begun.{line_length, has_feed, kept_of, passed_of, held_of}
use Rattle.line_stream.specs.Stream.{told_of, Job, Does, owed_from, Fed, Run, ended, fed, joined}

pub line_length_feed : (s : List ℕ) (b : ℕ) → eqb b 10 ≡ true → line_length (b ∷ s) ≡ 0
unfolding line_length
line_length_feed s b e = rw (e, line_length)

pub line_length-more : (s : List ℕ) (b : ℕ) → eqb b 10 ≡ false → line_length (b ∷ s) ≡ suc (line_length s)
unfolding line_length
line_length-more s b e = rw (e, line_length)

pub line_length_most : (s : List ℕ) → line_length s ≤ length s
unfolding line_length
line_length_most [] = omega arith
line_length_most (b ∷ s) = go (eqb b 10) (line_length_most s)
  where
    go : (c : Bool) {m n : ℕ} → m ≤ n → elim c [ true ↦ 0 | false ↦ suc m ] ≤ suc n
    go true h = omega arith
    go false h = omega arith

-- what is kept of a list and of what comes after it
pub take-take-append : (n : ℕ) (h s : List ℕ) → take n (take n h ++ s) ≡ take n (h ++ s)
take-take-append zero h s = refl
take-take-append (suc n) [] s = refl
take-take-append (suc n) (b ∷ h) s = ap (λ (l : List ℕ). b ∷ l) (take-take-append n h s)

-- the bytes from a place up to the end
pub take-rest : (s : List ℕ) (i : ℕ) → take (length s - i) (drop i s) ≡ drop i s
take-rest s i = take_all (length s - i) (drop i s) (omega (arith, length-drop i s))

-- how far a call goes
pub passed_of_most : (s : List ℕ) → passed_of s ≤ length s
passed_of_most s = go (has_feed s) refl
  where
    go : (c : Bool) → has_feed s ≡ c → cond c (suc (line_length s)) (length s) ≤ length s
    go true e = ltb-true (line_length s) (length s) e
    go false e = omega arith

pub passed_of_some : (s : List ℕ) → 0 < length s → 0 < passed_of s
passed_of_some s h = go (has_feed s)
  where
    go : (c : Bool) → 0 < cond c (suc (line_length s)) (length s)
    go true = omega arith
    go false = h

module _ (J : Job) where
  -- a line feed ends the line
  owed_feed : (h r s : List ℕ) (b : ℕ) → eqb b 10 ≡ true → owed_from J h r (b ∷ s) ≡ J.told h r ++ owed_from J [] [] s
  unfolding owed_from
  owed_feed h r s b e = ap (λ (c : Bool). elim c [ true ↦ J.told h r ++ owed_from J [] [] s | false ↦ owed_from J h (r ++ (b ∷ [])) s ]) e

  -- any other byte belongs to it
  owed_more : (h r s : List ℕ) (b : ℕ) → eqb b 10 ≡ false → owed_from J h r (b ∷ s) ≡ owed_from J h (r ++ (b ∷ [])) s
  unfolding owed_from
  owed_more h r s b e = ap (λ (c : Bool). elim c [ true ↦ J.told h r ++ owed_from J [] [] s | false ↦ owed_from J h (r ++ (b ∷ [])) s ]) e

  -- so does a part without one
  owed_part : (h r s t : List ℕ) → length s ≤ line_length s → owed_from J h r (s ++ t) ≡ owed_from J h (r ++ s) t
  owed_part h r [] t l = ap (λ (x : List ℕ). owed_from J h x t) (sym (append-nil r))
  owed_part h r (b ∷ s) t l = go (eqb b 10) refl (λ r l. owed_part h r s t l)
    where
      go : (c : Bool) → eqb b 10 ≡ c → ((r : List ℕ) → length s ≤ line_length s → owed_from J h r (s ++ t) ≡ owed_from J h (r ++ s) t) → owed_from J h r (b ∷ s ++ t) ≡ owed_from J h (r ++ (b ∷ s)) t
      go true e f = absurd (omega (arith, line_length_feed s b e))
      go false e f =
          owed_more h r (s ++ t) b e
          ∙ f (r ++ (b ∷ [])) (omega (arith, line_length-more s b e))
          ∙ ap (λ (x : List ℕ). owed_from J h x t) (append_assoc r (b ∷ []) s)

  -- a line with its line feed, and whatever comes after it
  owed_line : (h r s t : List ℕ) → line_length s < length s → owed_from J h r (take (suc (line_length s)) s ++ t) ≡ J.told h (r ++ take (line_length s) s) ++ owed_from J [] [] t
  owed_line h r [] t l = absurd (omega arith)
  owed_line h r (b ∷ s) t l = go (eqb b 10) refl (λ r l. owed_line h r s t l)
    where
      go : (c : Bool) → eqb b 10 ≡ c
          → ((r : List ℕ) → line_length s < length s → owed_from J h r (take (suc (line_length s)) s ++ t) ≡ J.told h (r ++ take (line_length s) s) ++ owed_from J [] [] t)
          → owed_from J h r (b ∷ take (line_length (b ∷ s)) s ++ t) ≡ J.told h (r ++ take (line_length (b ∷ s)) (b ∷ s)) ++ owed_from J [] [] t
      go true e f = rw (line_length_feed s b e, append-nil r) (owed_feed h r t b e)
      go false e f =
          let m = line_length-more s b e in
          rw (line_length-more s b e)
          (owed_more h r (take (suc (line_length s)) s ++ t) b e
          ∙ f (r ++ (b ∷ [])) (omega arith)
          ∙ ap (λ (l : List ℕ). J.told h l ++ owed_from J [] [] t) (append_assoc r (b ∷ []) (take (line_length s) s)))

  -- nothing passed, and one call after the other
  pub fed_nil : (h : List ℕ) → Fed J h [] [] h
  fed_nil h t = refl

  pub fed_append : (h s w h' s' w' h'' : List ℕ) → Fed J h s w h' → Fed J h' s' w' h'' → Fed J h (s ++ s') (w ++ w') h''
  fed_append h s w h' s' w' h'' f g t =
      append_assoc w w' (owed_from J h'' [] t)
      ∙ ap (λ (l : List ℕ). w ++ l) (g t)
      ∙ f (s' ++ t)
      ∙ ap (owed_from J h []) (sym (append_assoc s s' t))

-- what a job that does what it should leaves to be written
module _ (J : Job) (told last : List ℕ → List ℕ) (d : Does J told last) where
  -- of a line begun, the bytes that are kept decide
  owed_early : (h r x s : List ℕ) → J.early h r ++ owed_from J (kept_of (h ++ r)) x s ≡ owed_from J h (r ++ x) s
  unfolding owed_from
  owed_early h r x [] =
      sym (append_assoc (J.early h r) (J.early (kept_of (h ++ r)) x) (J.last (kept_of (kept_of (h ++ r) ++ x))))
      ∙ ap (λ (l : List ℕ). l ++ J.last (kept_of (kept_of (h ++ r) ++ x))) (d.on h r x)
      ∙ ap (λ (l : List ℕ). J.early h (r ++ x) ++ J.last l) (take-take-append most_held (h ++ r) x ∙ ap kept_of (append_assoc h r x))
  owed_early h r x (b ∷ s) = go (eqb b 10) refl (λ x. owed_early h r x s)
    where
      go : (c : Bool) → eqb b 10 ≡ c → ((x : List ℕ) → J.early h r ++ owed_from J (kept_of (h ++ r)) x s ≡ owed_from J h (r ++ x) s)
          → J.early h r ++ owed_from J (kept_of (h ++ r)) x (b ∷ s) ≡ owed_from J h (r ++ x) (b ∷ s)
      go true e f =
          ap (λ (l : List ℕ). J.early h r ++ l) (owed_feed J (kept_of (h ++ r)) x s b e)
          ∙ sym (append_assoc (J.early h r) (J.told (kept_of (h ++ r)) x) (owed_from J [] [] s))
          ∙ ap (λ (l : List ℕ). l ++ owed_from J [] [] s) (d.more h r x)
          ∙ sym (owed_feed J h (r ++ x) s b e)
      go false e f =
          ap (λ (l : List ℕ). J.early h r ++ l) (owed_more J (kept_of (h ++ r)) x s b e)
          ∙ f (x ++ (b ∷ []))
          ∙ ap (λ (l : List ℕ). owed_from J h l s) (sym (append_assoc r x (b ∷ [])))
          ∙ sym (owed_more J h (r ++ x) s b e)

  -- one call: what it passes, writes and holds
  pub fed_passed : (h s : List ℕ) → Fed J h (take (passed_of s) s) (told_of J h s) (held_of h s)
  fed_passed h s t = go (has_feed s) refl
    where
      go : (c : Bool) → has_feed s ≡ c
          → cond c (J.told h (take (line_length s) s)) (J.early h s) ++ owed_from J (cond c [] (kept_of (h ++ s))) [] t ≡ owed_from J h [] (take (cond c (suc (line_length s)) (length s)) s ++ t)
      go true e = sym (owed_line J h [] s t (ltb-true (line_length s) (length s) e))
      go false e =
          owed_early h s [] t
          ∙ ap (λ (l : List ℕ). owed_from J h l t) (append-nil s)
          ∙ sym (owed_part J h [] s t (ltb-false (line_length s) (length s) e))
          ∙ ap (λ (l : List ℕ). owed_from J h [] (l ++ t)) (sym (take-length s))

  -- at the end, what is written is what is owed
  run_owed : {h o : List ℕ} {ss : List (List ℕ)} → Run J h ss o → o ≡ owed_from J h [] (joined ss)
  unfolding owed_from
  run_owed {h} ended = sym (d.rest h) ∙ ap (λ (l : List ℕ). J.early h [] ++ J.last (kept_of l)) (sym (append-nil h))
  run_owed {h} (fed {ss = ss} s w h' f r) = ap (λ (l : List ℕ). w ++ l) (run_owed r) ∙ f (joined ss)

  pub owed_output : (r s : List ℕ) → owed_from J [] r s ≡ output_from told last r s
  unfolding owed_from output_from
  owed_output r [] = d.end r
  owed_output r (b ∷ s) = go (eqb b 10) (ap (λ (l : List ℕ). J.told [] r ++ l) (owed_output [] s) ∙ ap (λ (l : List ℕ). l ++ output_from told last [] s) (d.whole r)) (owed_output (r ++ (b ∷ [])) s)
    where
      go : (c : Bool) {w x y z : List ℕ} → w ≡ x → y ≡ z → ◌≡◌ {A = List ℕ} (elim c [ true ↦ w | false ↦ y ]) (elim c [ true ↦ x | false ↦ z ])
      go true p q = p
      go false p q = q

  -- whatever the parts in which an input comes, what is written is the output for the whole
  pub run_output : {o : List ℕ} {ss : List (List ℕ)} → Run J [] ss o → o ≡ output_from told last [] (joined ss)
  run_output {ss = ss} r = run_owed r ∙ owed_output [] (joined ss)
