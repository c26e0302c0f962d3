-- One more byte in each loop over a chunk, and the bytes of a piece that are kept.
-- Assumes nothing.
use mathlib.Core.Path.{◌≡◌, refl, sym, ap, ◌∙◌}
use mathlib.Core.Bool.{Bool, true, false, ◌||◌}
use mathlib.Core.List.{List, [], ◌∷◌, ◌++◌}
use Prim.Native.Nat.{ℕ, zero, suc, ◌+◌, ◌-◌, ◌<◌, ◌≤◌, min}
use native.Mathlib.Omega.{arith}
use native.Mathlib.Numerals.{add-one}
use native.Mathlib.Decide.{dec_le}
use lib.ListN.{length, take, drop, get_or, drop_of_length-le}
use lib.Seq.{drop-cons, take-append-add, take_all, drop-drop, length-take-le, length_paste_head}
use lib.Dec.{ltb, eqb}
use borrow.Author.Tests.{eq-eqb, ne_eqb, ltb-true, ltb-false, lt-ltb, le-ltb}
use borrow.Rule.Slice.PartMut.{put_mid}
use Rattle.std.proofs.lemmas.Slice.{put_mid-paste}
use Rattle.line_frame.specs.Sizes.{most_held}
use Rattle.line_fields.specs.Put.{put, Wrote}
use Rattle.line_frame.specs.Begun.{line_length, kept_of}
use Rattle.line_stream.proofs.StreamLaws.{line_length_feed, line_length-more, line_length_most}

pub line_length_here : (s : List ℕ) (i : ℕ) → i < length s → get_or s i 0 ≡ 10 → line_length (drop i s) ≡ 0
line_length_here s i h e = ap line_length (drop-cons s i 0 h) ∙ line_length_feed (drop (suc i) s) (get_or s i 0) (eq-eqb (get_or s i 0) 10 e)

pub line_length-next : (s : List ℕ) (i : ℕ) → i < length s → (get_or s i 0 ≡ 10 → ⊥) → line_length (drop i s) ≡ suc (line_length (drop (i + 1) s))
line_length-next s i h e =
    ap line_length (drop-cons s i 0 h)
    ∙ line_length-more (drop (suc i) s) (get_or s i 0) (ne_eqb (get_or s i 0) 10 e)
    ∙ ap (λ (n : ℕ). suc (line_length (drop n s))) (sym (add-one i))

pub line_length_end : (s : List ℕ) (i : ℕ) → length s ≤ i → line_length (drop i s) ≡ 0
unfolding line_length
line_length_end s i h = ap line_length (drop_of_length-le s h)

-- whether there is a line feed among the first k bytes: none of them is one, and then one byte more is looked at
pub near_none : (s : List ℕ) → false ≡ ltb (line_length s) 0
near_none s = sym (le-ltb (line_length s) 0 (omega arith))

ltb_suc : (a b : ℕ) → ltb a b ≡ ltb (suc a) (suc b)
ltb_suc a b = go (ltb a b) refl
  where
    go : (c : Bool) → ltb a b ≡ c → c ≡ ltb (suc a) (suc b)
    go true e = sym (lt-ltb (suc a) (suc b) (omega (arith, ltb-true a b e)))
    go false e = sym (le-ltb (suc a) (suc b) (omega (arith, ltb-false a b e)))

near_suc : (s : List ℕ) (k : ℕ) → k < length s → ltb (line_length s) k || eqb (get_or s k 0) 10 ≡ ltb (line_length s) (suc k)
near_suc [] k h = absurd (omega arith)
near_suc (b ∷ s) k h = go (eqb b 10) refl k h (λ m l. near_suc s m l)
  where
    go : (c : Bool) → eqb b 10 ≡ c → (k : ℕ) → k < length (b ∷ s) → ((m : ℕ) → m < length s → ltb (line_length s) m || eqb (get_or s m 0) 10 ≡ ltb (line_length s) (suc m))
        → ltb (line_length (b ∷ s)) k || eqb (get_or (b ∷ s) k 0) 10 ≡ ltb (line_length (b ∷ s)) (suc k)
    go true e zero l f = rw (line_length_feed s b e) e
    go true e (suc k) l f = rw (line_length_feed s b e, lt-ltb 0 (suc k) (omega arith), lt-ltb 0 (suc (suc k)) (omega arith)) refl
    go false e zero l f = rw (line_length-more s b e, le-ltb (suc (line_length s)) 0 (omega arith), le-ltb (suc (line_length s)) 1 (omega arith)) e
    go false e (suc k) l f =
        rw (line_length-more s b e) (ap (λ (c : Bool). c || eqb (get_or s k 0) 10) (sym (ltb_suc (line_length s) k)) ∙ f k (omega arith) ∙ ltb_suc (line_length s) (suc k))

pub near_next : (s : List ℕ) (k : ℕ) {found : Bool} → k < length s → found ≡ ltb (line_length s) k → found || eqb (get_or s k 0) 10 ≡ ltb (line_length s) (k + 1)
near_next s k h e =
    ap (λ (c : Bool). c || eqb (get_or s k 0) 10) e ∙ near_suc s k h ∙ ap (ltb (line_length s)) (sym (add-one k))

-- a line that has this many bytes more goes on after them
line_further : (s : List ℕ) (n : ℕ) → n ≤ line_length s → line_length s ≡ n + line_length (drop n s)
line_further s zero h = omega arith
line_further [] (suc n) h = absurd (omega (arith, line_length_most []))
line_further (b ∷ s) (suc n) h = go (eqb b 10) refl (λ l. line_further s n l)
  where
    go : (c : Bool) → eqb b 10 ≡ c → (n ≤ line_length s → line_length s ≡ n + line_length (drop n s)) → line_length (b ∷ s) ≡ suc n + line_length (drop (suc n) (b ∷ s))
    go true e f = absurd (omega (arith, line_length_feed s b e))
    go false e f = omega (arith, line_length-more s b e, f (omega (arith, line_length-more s b e)))

pub skip-next : (s : List ℕ) (at n : ℕ) {found : Bool} → found ≡ ltb (line_length (drop at s)) n → found ≡ false → (at + n) + line_length (drop (at + n) s) ≡ at + line_length (drop at s)
skip-next s at n e f =
    let h = ltb-false (line_length (drop at s)) n (sym e ∙ f) in
    let d : line_length (drop n (drop at s)) ≡ line_length (drop (at + n) s) = ap line_length (drop-drop n at s) in
    omega (arith, line_further (drop at s) n (omega (arith, h)), d)

-- the bytes that are kept of the held ones and of a piece
module _ (line s : List ℕ) (held m : ℕ) (hh : held ≤ most_held) (hl : length line ≡ most_held) (hm : m ≡ min (length s) (most_held - held)) where
  kept_piece : kept_of (take held line ++ s) ≡ take held line ++ take m s
  kept_piece =
      let a : length (take held line) ≡ held = length-take-le held line (omega arith) in
      let e : most_held ≡ length (take held line) + (most_held - held) = omega arith in
      ap (λ (n : ℕ). take n (take held line ++ s)) e
      ∙ take-append-add (take held line) s (most_held - held)
      ∙ ap (λ (l : List ℕ). take held line ++ l) (two (dec_le (length s) (most_held - held)))
    where
      two : Dec (length s ≤ most_held - held) → take (most_held - held) s ≡ take m s
      two (yes y) = take_all (most_held - held) s y ∙ sym (take_all m s (omega (arith, hm)))
      two (no f) =
          let e : most_held - held ≡ m = omega (arith, f, hm) in
          ap (λ (n : ℕ). take n s) e

  -- if none are held, those of the piece
  pub kept_here : held ≡ 0 → take m s ≡ kept_of (take held line ++ s)
  kept_here z = ap (λ (n : ℕ). take n line ++ take m s) (sym z) ∙ sym kept_piece

  -- k is how long the part is that is written, and ys what it holds then
  pub hold_kept : (k : ℕ) (ys : List ℕ) → k ≡ m → ys ≡ take m s → Wrote (kept_of (take held line ++ s)) 0 line (held + m) (put_mid held k line ys)
  unfolding put
  hold_kept w ys wm y =
      let k : kept_of (take held line ++ s) ≡ take held line ++ take m s = kept_piece in
      let l : length (take m s) ≡ m = length-take-le m s (omega arith) in
      let n : length (take held line ++ take m s) ≡ held + m = length_paste_head line held s m (omega arith) (omega arith) in
      let e : held + m ≡ 0 + length (take held line ++ take m s) = omega arith in
      record {
        end = e ∙ ap (λ (l : List ℕ). 0 + length l) (sym k);
        buffer =
            put_mid-paste held w line ys (take m s) m y (sym wm) (omega arith)
            ∙ ap (λ (p : List ℕ). take held line ++ p ++ drop (held + m) line) (take_all m (take m s) (omega arith))
            ∙ ap (λ (i : ℕ). take held line ++ take m s ++ drop i line) e
            ∙ ap (λ (l : List ℕ). put l 0 line) (sym k);
      }
