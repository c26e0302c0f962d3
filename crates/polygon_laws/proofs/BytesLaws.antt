-- Numbers as bytes, and lists that are laid down in a buffer part by part.
-- Assumes nothing.
use mathlib.Core.Path.{◌≡◌, refl, sym, ap, ap₂, ◌∙◌}
use mathlib.Core.List.{List, [], ◌∷◌, ◌++◌, append_assoc, append-nil}
use Prim.Native.Nat.{ℕ, zero, suc, ◌+◌, ◌-◌, ◌*◌, ◌/◌, ◌≤◌}
use native.Mathlib.Omega.{arith}
use lib.ListN.{length, take, drop, length-append, length-drop, take-append-drop, drop_of_length-le}
use lib.Seq.{drop-drop, take_at, drop_at, take_all, length-take-le}
use Rattle.polygon.specs.Bytes.{bytes_of}
use Rattle.polygon.specs.Polygon.{coordinate_bytes, point_bytes, points_bytes, polygon_bytes}
use Rattle.grid.specs.declared.Corner.{Corner}

-- ---- a list B laid down after A, in the part from place a on that was lent

-- the part from place a on of a buffer
pub part : (cur : List ℕ) (a : ℕ) → take (length cur - a) (drop a cur) ≡ drop a cur
part cur a = take_all (length cur - a) (drop a cur) (simp length-drop (omega arith))

pub lent-more : (l cur A B ys : List ℕ) (a b : ℕ) → length A ≡ a → cur ≡ A ++ drop a l → ys ≡ B ++ drop b (take (length cur - a) (drop a cur))
    → take a cur ++ (ys ++ drop (length cur - a) (drop a cur)) ≡ (A ++ B) ++ drop (a + b) l
lent-more l cur A B ys a b p e w =
    let f : take a cur ≡ A = ap (take a) e ∙ take_at A (drop a l) a p in
    let g : drop a cur ≡ drop a l = ap (drop a) e ∙ drop_at A (drop a l) a p in
    let h : length (drop a cur) ≡ length cur - a = length-drop a cur in
    let n : drop (length cur - a) (drop a cur) ≡ [] = drop_of_length-le (drop a cur) {i = length cur - a} (omega arith) in
    ap (λ (z : List ℕ). take a cur ++ (ys ++ z)) n
    ∙ ap (λ (z : List ℕ). take a cur ++ z) (append-nil ys)
    ∙ ap (λ (z : List ℕ). z ++ ys) f
    ∙ ap (λ (z : List ℕ). A ++ z) (w ∙ ap (λ (z : List ℕ). B ++ drop b z) (part cur a ∙ g) ∙ ap (λ (z : List ℕ). B ++ z) (drop-drop b a l))
    ∙ sym (append_assoc A B (drop (a + b) l))

-- ---- a list that is laid down part by part: what lies there up to place a, and what is left, give the whole

-- a part laid over the place a
abbrev pub over : List ℕ → ℕ → List ℕ → List ℕ
over l a B = take a l ++ B ++ drop (a + length B) l

module _ (l : List ℕ) (a : ℕ) (B : List ℕ) where
  over_head : a ≤ length l → length (take a l ++ B) ≡ a + length B
  over_head h = length-append (take a l) B ∙ ap (λ (n : ℕ). n + length B) (length-take-le a l h)

  over-take : a ≤ length l → take (a + length B) (over l a B) ≡ take a l ++ B
  over-take h = take_at (take a l ++ B) (drop (a + length B) l) (a + length B) (over_head h)

  over-drop : a ≤ length l → drop (a + length B) (over l a B) ≡ drop (a + length B) l
  over-drop h = drop_at (take a l ++ B) (drop (a + length B) l) (a + length B) (over_head h)

  over-length : a + length B ≤ length l → length (over l a B) ≡ length l
  over-length h =
      length-append (take a l ++ B) (drop (a + length B) l) ∙ sum (length (take a l ++ B)) (length (drop (a + length B) l)) (over_head (omega arith)) (length-drop (a + length B) l)
    where
      sum : (x y : ℕ) → x ≡ a + length B → y ≡ length l - (a + length B) → x + y ≡ length l
      sum x y p q = omega arith

  -- a part that was lent from the place a on
  pub over-lent : (ys : List ℕ) → a ≤ length l → ys ≡ B ++ drop (length B) (take (length l - a) (drop a l)) → take a l ++ (ys ++ drop (length l - a) (drop a l)) ≡ over l a B
  over-lent ys h w = lent-more l l (take a l) B ys a (length B) (length-take-le a l h) (sym (take-append-drop a l)) w

pub record Laying (l whole left out : List ℕ) (a : ℕ) : Type 0 where
  pub begun : whole ≡ take a out ++ left
  pub after : drop a out ≡ drop a l
  pub same : length out ≡ length l

module _ {l W : List ℕ} where
  pub laying_first : (left : List ℕ) → W ≡ left → Laying l W left l 0
  laying_first left e = record { begun = e; after = refl; same = refl }

  pub laying_more : {left out : List ℕ} {a : ℕ} (B left' out' : List ℕ) (b : ℕ) → left ≡ B ++ left' → a + length B ≤ length out → out' ≡ over out a B → b ≡ a + length B
      → Laying l W left out a → Laying l W left' out' b
  laying_more {left} {out} {a} B left' out' b e h w n p =
      let begin : a ≤ length out = omega arith in
      record {
        begun =
            p.begun
            ∙ ap (λ (z : List ℕ). take a out ++ z) e
            ∙ sym (append_assoc (take a out) B left')
            ∙ ap (λ (z : List ℕ). z ++ left') (sym (over-take out a B begin) ∙ ap₂ (λ (k : ℕ) (z : List ℕ). take k z) (sym n) (sym w));
        after =
            ap₂ (λ (k : ℕ) (z : List ℕ). drop k z) n w
            ∙ over-drop out a B begin
            ∙ sym (drop-drop (length B) a out) ∙ ap (drop (length B)) p.after ∙ drop-drop (length B) a l
            ∙ ap (λ (k : ℕ). drop k l) (sym n);
        same = ap length w ∙ over-length out a B h ∙ p.same;
      }

  pub laying_last : {left out : List ℕ} {a : ℕ} → left ≡ [] → Laying l W left out a → out ≡ W ++ drop a l
  laying_last {left} {out} {a} e p =
      sym (take-append-drop a out)
      ∙ ap₂ (λ (y z : List ℕ). y ++ z) (sym (append-nil (take a out)) ∙ ap (λ (z : List ℕ). take a out ++ z) (sym e) ∙ sym p.begun) p.after

-- ---- bytes of a number

pub length-bytes_of : (n b : ℕ) → length (bytes_of n b) ≡ n
unfolding bytes_of
length-bytes_of zero b = refl
length-bytes_of (suc n) b = ap suc (length-bytes_of n (b / 256))

-- ---- the number of bytes

pub length-point_bytes : (c : Corner) → length (point_bytes c) ≡ 16
unfolding point_bytes coordinate_bytes
length-point_bytes c =
    simp (length-append, length-bytes_of)

pub length-points_bytes : (ps : List Corner) → length (points_bytes ps) ≡ 16 * length ps
unfolding points_bytes
length-points_bytes [] = refl
length-points_bytes (c ∷ ps) =
    length-append (point_bytes c) (points_bytes ps) ∙ more (length (point_bytes c)) (length (points_bytes ps)) (length ps) (length-point_bytes c) (length-points_bytes ps)
  where
    more : (a b n : ℕ) → a ≡ 16 → b ≡ 16 * n → a + b ≡ 16 * suc n
    more a b n p q = omega arith

pub points_bytes-append : (ps qs : List Corner) → points_bytes (ps ++ qs) ≡ points_bytes ps ++ points_bytes qs
unfolding points_bytes
points_bytes-append [] qs = refl
points_bytes-append (c ∷ ps) qs = ap (λ (z : List ℕ). point_bytes c ++ z) (points_bytes-append ps qs) ∙ sym (append_assoc (point_bytes c) (points_bytes ps) (points_bytes qs))

pub points_bytes-one : (c : Corner) → points_bytes (c ∷ []) ≡ point_bytes c
unfolding points_bytes
points_bytes-one c = append-nil (point_bytes c)

pub length-polygon_bytes : (ps : List Corner) → length (polygon_bytes ps) ≡ 13 + 16 * length ps
unfolding polygon_bytes
length-polygon_bytes ps = simp (length-append, length-bytes_of, length-points_bytes)
