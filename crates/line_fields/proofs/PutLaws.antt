-- Bytes written into a buffer.
-- Assumes nothing.
use mathlib.Core.Path.{◌≡◌, sym, ap, ◌∙◌}
use mathlib.Core.List.{List, [], ◌∷◌, ◌++◌, append_assoc, append-nil}
use Prim.Native.Nat.{ℕ, suc, ◌+◌, ◌-◌, ◌<◌, ◌≤◌}
use native.Mathlib.Omega.{arith}
use native.Mathlib.Nat.{add-zero}
use native.Mathlib.Numerals.{add-one}
use lib.ListN.{length, take, drop, set, length-append, length-drop, take-append-drop}
use lib.Seq.{length-take-le, take_at, drop_at, take-set-le, set_split, drop-drop, append_snoc}
use borrow.Rule.Slice.PartMut.{put_mid}
use Rattle.line_fields.specs.Put.{put, Wrote}

pub put_nil : (at : ℕ) (buf : List ℕ) → put [] at buf ≡ buf
unfolding put
put_nil at buf = rw (add-zero at, append-nil (take at buf)) (take-append-drop at buf)

pub length-put : (f : List ℕ) (at : ℕ) (buf : List ℕ) → at + length f ≤ length buf → length (put f at buf) ≡ length buf
unfolding put
length-put f at buf h =
    let a : length (take at buf) ≡ at = length-take-le at buf (omega arith) in
    simp (length-append, length-drop) (omega arith)

-- up to the end of what was written
pub take_put : (f : List ℕ) (at : ℕ) (buf : List ℕ) → at + length f ≤ length buf → take (at + length f) (put f at buf) ≡ take at buf ++ f
unfolding put
take_put f at buf h =
    let a : length (take at buf) ≡ at = length-take-le at buf (omega arith) in
    take_at (take at buf ++ f) _ (at + length f) (length-append (take at buf) f ∙ ap (λ (n : ℕ). n + length f) a)

-- after it
pub drop-put : (f : List ℕ) (at : ℕ) (buf : List ℕ) (n : ℕ) → at + length f ≤ n → n ≤ length buf → drop n (put f at buf) ≡ drop n buf
unfolding put
drop-put f at buf n h k =
    let a : length (take at buf) ≡ at = length-take-le at buf (omega arith) in
    let l : length (take at buf ++ f) ≡ at + length f = length-append (take at buf) f ∙ ap (λ (n : ℕ). n + length f) a in
    let e : n ≡ (at + length f) + (n - (at + length f)) = omega arith in
    ap (λ (m : ℕ). drop m (put f at buf)) e
    ∙ sym (drop-drop (n - (at + length f)) (at + length f) (put f at buf))
    ∙ ap (drop (n - (at + length f))) (drop_at (take at buf ++ f) (drop (at + length f) buf) (at + length f) l)
    ∙ drop-drop (n - (at + length f)) (at + length f) buf
    ∙ ap (λ (m : ℕ). drop m buf) (sym e)

-- one piece after the other
put-append : (f g : List ℕ) (at : ℕ) (buf : List ℕ) → at + length f + length g ≤ length buf → put g (at + length f) (put f at buf) ≡ put (f ++ g) at buf
unfolding put
put-append f g at buf h =
    let e : at + length f + length g ≡ at + length (f ++ g) = omega (arith, length-append f g) in
    ap (λ (l : List ℕ). l ++ g ++ drop (at + length f + length g) (put f at buf)) (take_put f at buf (omega arith))
    ∙ ap (λ (l : List ℕ). take at buf ++ f ++ g ++ l) (drop-put f at buf (at + length f + length g) (omega arith) h)
    ∙ ap (λ (n : ℕ). take at buf ++ f ++ g ++ drop n buf) e
    ∙ ap (λ (l : List ℕ). l ++ drop (at + length (f ++ g)) buf) (append_assoc (take at buf) f g)

-- one byte
pub put_one : (b at : ℕ) (buf : List ℕ) → at < length buf → set buf at b ≡ put (b ∷ []) at buf
unfolding put
put_one b at buf h =
    set_split buf at b h
    ∙ sym (append_assoc (take at buf) (b ∷ []) (drop (suc at) buf))
    ∙ ap (λ (n : ℕ). take at buf ++ (b ∷ []) ++ drop n buf) (sym (add-one at))

-- one byte after what is to be written
pub put_last : (f : List ℕ) (b at : ℕ) (buf : List ℕ) → at + length f < length buf → put f at (set buf (at + length f) b) ≡ put (f ++ (b ∷ [])) at buf
unfolding put
put_last f b at buf h =
    let i : ℕ = at + length f in
    let e : at + length (f ++ (b ∷ [])) ≡ suc i = omega (arith, length-append f (b ∷ [])) in
    ap (λ (l : List ℕ). l ++ f ++ drop i (set buf i b)) (take-set-le at buf i b (omega arith))
    ∙ ap (λ (l : List ℕ). take at buf ++ f ++ drop i l) (set_split buf i b h)
    ∙ ap (λ (l : List ℕ). take at buf ++ f ++ l) (drop_at (take i buf) (b ∷ drop (suc i) buf) i (length-take-le i buf (omega arith)))
    ∙ sym (append_snoc (take at buf ++ f) b (drop (suc i) buf))
    ∙ ap (λ (l : List ℕ). l ++ drop (suc i) buf) (append_assoc (take at buf) f (b ∷ []))
    ∙ ap (λ (n : ℕ). take at buf ++ (f ++ (b ∷ [])) ++ drop n buf) (sym e)

-- the first byte, and then the others
pub put_first : (b : ℕ) (f : List ℕ) (at : ℕ) (buf : List ℕ) → at + suc (length f) ≤ length buf → put f (suc at) (set buf at b) ≡ put (b ∷ f) at buf
put_first b f at buf h =
    ap (λ (l : List ℕ). put f (suc at) l) (put_one b at buf (omega arith))
    ∙ ap (λ (n : ℕ). put f n (put (b ∷ []) at buf)) (sym (add-one at))
    ∙ put-append (b ∷ []) f at buf (omega arith)

pub wrote_append : {f g : List ℕ} {at m end : ℕ} {a b c : List ℕ} → Wrote f at a m b → Wrote g m b end c → at + length f + length g ≤ length a → Wrote (f ++ g) at a end c
wrote_append {f} {g} {at} {m} {end} {a} {b} {c} p q h = record {
  end = omega (arith, p.end, q.end, length-append f g);
  buffer =
      q.buffer
      ∙ ap (λ (n : ℕ). put g n b) p.end
      ∙ ap (put g (at + length f)) p.buffer
      ∙ put-append f g at a h;
}

pub wrote_nil : (at : ℕ) (a : List ℕ) → Wrote [] at a at a
wrote_nil at a = record { end = sym (add-zero at); buffer = sym (put_nil at a) }

-- a part of k bytes that is written as a whole
pub wrote_mid : (f : List ℕ) (at k : ℕ) (a : List ℕ) → length f ≡ k → Wrote f at a (at + k) (put_mid at k a f)
unfolding put
wrote_mid f at k a e = record {
  end = ap (λ (n : ℕ). at + n) (sym e);
  buffer =
      ap (λ (l : List ℕ). take at a ++ (f ++ l)) (drop-drop k at a ∙ ap (λ (n : ℕ). drop (at + n) a) (sym e))
      ∙ sym (append_assoc (take at a) f (drop (at + length f) a));
}

-- what was written at the start
pub take-put-start : (f buf : List ℕ) (n : ℕ) → n ≡ length f → n ≤ length buf → take n (put f 0 buf) ≡ f
take-put-start f buf n e h =
    let z : n ≡ 0 + length f = omega arith in
    ap (λ (m : ℕ). take m (put f 0 buf)) z ∙ take_put f 0 buf (omega arith)
