-- Spans are written row by row.
-- Assumes nothing.
use mathlib.Core.Path.{◌≡◌, refl, sym, ap, ap₂, ◌∙◌, subst}
use mathlib.Core.List.{List, [], ◌∷◌, ◌++◌, Memᴰ, map}
use Prim.Native.Nat.{ℕ, zero, suc, ◌+◌, ◌*◌, ◌-◌, ◌%◌, ◌<◌, ◌≤◌}
use native.Mathlib.Omega.{arith}
use native.Mathlib.Numerals.{add-one}
use lib.ListN.{length, get_or, set, length-append}
use lib.IntN.{ℤ, pos, pred_ℤ, ◌+ℤ◌, ◌-ℤ◌}
use lib.Seq.{sets}
use Rattle.grid.specs.declared.Corner.{Corner}
use Rattle.grid.specs.Grid.{corner}
use Rattle.row.specs.Rows.{span_numbers}
use Rattle.row_laws.specs.Feet.{pairs_of}
use Rattle.row_bucket_laws.specs.Buckets.{Strung, picked, rows_up, Poured, spot_at, numbers_of, in_row, Line, LineDone, LineAt, SheetAt}
use Rattle.row_bucket_laws.proofs.BucketLaws.{picked-mem}

pub sets_append : (l : List ℤ) (i : ℕ) (a b : List ℤ) → sets l i (a ++ b) ≡ sets (sets l i a) (i + length a) b
sets_append l i [] b = ap (λ (n : ℕ). sets l n b) none
  where
    none : i ≡ i + 0
    none = omega arith
sets_append l i (x ∷ a) b = sets_append (set l i x) (suc i) a b ∙ ap (λ (n : ℕ). sets (sets (set l i x) (suc i) a) n b) next
  where
    next : suc i + length a ≡ i + suc (length a)
    next = omega arith

-- an even number of places, then others
numbers-append : (f : ℕ → Corner) (a b : List ℕ) → length a % 2 ≡ 0 → numbers_of f (a ++ b) ≡ numbers_of f a ++ numbers_of f b
numbers-append f [] b h = refl
numbers-append f (p ∷ []) b h = absurd (omega (arith, h))
numbers-append f (p ∷ q ∷ a) b h = ap (λ (l : List ℤ). (f p).1 ∷ (f p).0 ∷ pred_ℤ (f q).0 ∷ l) (numbers-append f a b (omega (arith, h)))

length-numbers : (f : ℕ → Corner) (a : List ℕ) → length a % 2 ≡ 0 → 2 * length (numbers_of f a) ≡ 3 * length a
length-numbers f [] h = refl
length-numbers f (p ∷ []) h = absurd (omega (arith, h))
length-numbers f (p ∷ q ∷ a) h = omega (arith, length-numbers f a (omega (arith, h)))

two-less : (n : ℕ) → suc (suc n) % 2 ≡ 0 → n % 2 ≡ 0
two-less n h = omega arith

-- a thread's first place, and the thread after it
strung_head : (next : List ℕ) (h p : ℕ) (l : List ℕ) → Strung next h (p ∷ l) → (h ≡ suc p) × (p < length next)
strung_head next h p l s = (s.0, s.1)

strung_tail : (next : List ℕ) (h p : ℕ) (l : List ℕ) → Strung next h (p ∷ l) → Strung next (get_or next p 0) l
strung_tail next h p l s = s.2

-- a line
pub line_start : (next at : List ℕ) (b : Corner) (l : List ℕ) (before : List ℤ) (o first : ℕ) → Strung next first l → length l % 2 ≡ 0 → LineAt next at b l before o first o before
line_start next at b l before o first s e = record { rest = l; thread = s; even = e; numbers = refl; whole = refl }

-- the two places that come next can be read, and the buffer is long enough for a span
pub record Two (next : List ℕ) (p o room : ℕ) : Type 0 where
  pub first : p - 1 < length next
  pub there : 0 < get_or next (p - 1) 0
  pub second : get_or next (p - 1) 0 - 1 < length next
  pub free : o + 2 < room

module _ {next at : List ℕ} {b : Corner} {l : List ℕ} {before : List ℤ} {o p o' : ℕ} {now : List ℤ} (w : LineAt next at b l before o p o' now) where
  pub line_two : (room : ℕ) → 2 * o + 3 * length l ≤ 2 * room → 0 < p → Two next p o' room
  line_two room f h = go w.rest w.thread w.even w.numbers
    where
      go : (r : List ℕ) → Strung next p r → length r % 2 ≡ 0 → 2 * o' + 3 * length r ≡ 2 * o + 3 * length l → Two next p o' room
      go [] s e n = absurd (omega arith)
      go (x ∷ []) s e n = absurd (omega (arith, e))
      go (x ∷ y ∷ r) s e n =
          let a = strung_head next p x (y ∷ r) s in
          let d = strung_head next (get_or next x 0) y r (strung_tail next p x (y ∷ r) s) in
          let i : p - 1 ≡ x = omega (arith, a.0) in
          let k : get_or next (p - 1) 0 ≡ suc y = ap (λ (z : ℕ). get_or next z 0) i ∙ d.0 in
          record { first = omega (arith, a.1); there = omega arith; second = omega (arith, d.1); free = omega arith }

  pub line_step : (q n : ℕ) (after : List ℤ) → 0 < p → q ≡ get_or next (p - 1) 0 → n ≡ get_or next (q - 1) 0
      → after ≡ sets now o' (b.1 ∷ (b.0 +ℤ pos (get_or at (p - 1) 0)) ∷ pred_ℤ (b.0 +ℤ pos (get_or at (q - 1) 0)) ∷ []) → LineAt next at b l before o n (o' + 3) after
  line_step q n after h eq en ea = go w.rest w.thread w.even w.numbers w.whole
    where
      go : (r : List ℕ) → Strung next p r → length r % 2 ≡ 0 → 2 * o' + 3 * length r ≡ 2 * o + 3 * length l → sets now o' (numbers_of (in_row b at) r) ≡ sets before o (numbers_of (in_row b at) l) → LineAt next at b l before o n (o' + 3) after
      go [] s e k u = absurd (omega arith)
      go (x ∷ []) s e k u = absurd (omega (arith, e))
      go (x ∷ y ∷ r) s e k u =
          let a = strung_head next p x (y ∷ r) s in
          let t = strung_tail next p x (y ∷ r) s in
          let d = strung_head next (get_or next x 0) y r t in
          let i : p - 1 ≡ x = omega (arith, a.0) in
          let j : q ≡ suc y = eq ∙ ap (λ (z : ℕ). get_or next z 0) i ∙ d.0 in
          let g : q - 1 ≡ y = omega arith in
          let three : o' + 3 ≡ suc (suc (suc o')) = omega arith in
          record {
            rest = r;
            thread = subst (λ (z : ℕ). Strung next z r) (sym (en ∙ ap (λ (z : ℕ). get_or next z 0) g)) (strung_tail next (get_or next x 0) y r t);
            even = two-less (length r) e;
            numbers = omega (arith, k);
            whole =
                ap₂ (λ (z : List ℤ) (v : ℕ). sets z v (numbers_of (in_row b at) r)) (ea ∙ ap₂ (λ (z v : ℕ). sets now o' (b.1 ∷ (b.0 +ℤ pos (get_or at z 0)) ∷ pred_ℤ (b.0 +ℤ pos (get_or at v 0)) ∷ [])) i g) three
                ∙ u;
          }

  pub line_end : p ≡ 0 → (now ≡ sets before o (numbers_of (in_row b at) l)) × (2 * o' ≡ 2 * o + 3 * length l)
  line_end h = go w.rest w.thread w.numbers w.whole
    where
      go : (r : List ℕ) → Strung next p r → 2 * o' + 3 * length r ≡ 2 * o + 3 * length l → sets now o' (numbers_of (in_row b at) r) ≡ sets before o (numbers_of (in_row b at) l) → (now ≡ sets before o (numbers_of (in_row b at) l)) × (2 * o' ≡ 2 * o + 3 * length l)
      go [] s n u = (u, omega (arith, n))
      go (x ∷ r) s n u = absurd (omega (arith, (strung_head next p x r s).0))

-- all lines
numbers_ext : (f g : ℕ → Corner) (l : List ℕ) → ((q : ℕ) → Memᴰ q l → f q ≡ g q) → numbers_of f l ≡ numbers_of g l
numbers_ext f g l e = ap (λ (z : List Corner). span_numbers (pairs_of z)) (map_ext l e)
  where
    map_ext : (l : List ℕ) → ((q : ℕ) → Memᴰ q l → f q ≡ g q) → map f l ≡ map g l
    map_ext [] e = refl
    map_ext (p ∷ l) e = ap₂ (λ (x : Corner) (r : List Corner). x ∷ r) (e p (Memᴰ.head refl)) (map_ext l (λ q m. e q (Memᴰ.tail m)))

pub sheet-start : (c : Corner) (m top : ℕ) (key foot : ℕ → ℕ) (done : List ℕ) (before : List ℤ) → SheetAt c m top key foot done before 0 0 before
sheet-start c m top key foot done before = record { left = top; rows = omega arith; numbers = omega arith; whole = refl }

module _ {c : Corner} {m top : ℕ} {key foot : ℕ → ℕ} {done : List ℕ} {before : List ℤ} {h o : ℕ} {now : List ℤ} (w : SheetAt c m top key foot done before h o now) where
  pub sheet_line : (next at row : List ℕ) (room : ℕ) → h < top → top ≤ length row → Poured key foot done next at row → ((h : ℕ) → length (picked foot h done) % 2 ≡ 0) → 3 * length (rows_up foot 0 top done) ≤ 2 * room → length next ≤ length at → Line next at o room (get_or row h 0)
  sheet_line next at row room l t p e f s = record {
    list = picked foot h done;
    thread = p.rows h (omega arith);
    even = e h;
    fits = go w.left w.rows w.numbers;
    store = s;
  }
    where
      go : (k : ℕ) → h + k ≡ top → 2 * o + 3 * length (rows_up foot h k done) ≡ 3 * length (rows_up foot 0 top done) → 2 * o + 3 * length (picked foot h done) ≤ 2 * room
      go zero r n = absurd (omega arith)
      go (suc k) r n = omega (arith, n, length-append (picked foot h done) (rows_up foot (suc h) k done))

  pub sheet_step : (next at row : List ℕ) (b : Corner) (r : ℕ) (after : List ℤ) → h < top → top ≤ length row → Poured key foot done next at row → ((h : ℕ) → length (picked foot h done) % 2 ≡ 0) → b ≡ corner (c.0 -ℤ pos m) ((c.1 -ℤ pos m) +ℤ pos h) → LineDone next at b (get_or row h 0) now o r after → SheetAt c m top key foot done before (h + 1) r after
  sheet_step next at row b r after l t p e eb d = go w.left w.rows w.numbers w.whole
    where
      line : (after ≡ sets now o (numbers_of (in_row b at) (picked foot h done))) × (2 * r ≡ 2 * o + 3 * length (picked foot h done))
      line = d (picked foot h done) (p.rows h (omega arith)) (e h)

      same : numbers_of (in_row b at) (picked foot h done) ≡ numbers_of (spot_at c m key foot) (picked foot h done)
      same = numbers_ext (in_row b at) (spot_at c m key foot) (picked foot h done) at-spot
        where
          at-spot : (q : ℕ) → Memᴰ q (picked foot h done) → in_row b at q ≡ spot_at c m key foot q
          at-spot q k =
              let n = picked-mem foot h done q k in
              ap₂ corner (ap₂ (λ (z : Corner) (v : ℕ). z.0 +ℤ pos v) eb (p.columns q n.0)) (ap (λ (z : Corner). z.1) eb ∙ ap (λ (v : ℕ). (c.1 -ℤ pos m) +ℤ pos v) (sym n.1))

      go : (k : ℕ) → h + k ≡ top → 2 * o + 3 * length (rows_up foot h k done) ≡ 3 * length (rows_up foot 0 top done)
          → sets now o (numbers_of (spot_at c m key foot) (rows_up foot h k done)) ≡ sets before 0 (numbers_of (spot_at c m key foot) (rows_up foot 0 top done))
          → SheetAt c m top key foot done before (h + 1) r after
      go zero i n u = absurd (omega arith)
      go (suc k) i n u =
          let long : r ≡ o + length (numbers_of (spot_at c m key foot) (picked foot h done)) = omega (arith, line.1, length-numbers (spot_at c m key foot) (picked foot h done) (e h)) in
          subst (λ (z : ℕ). SheetAt c m top key foot done before z r after) (sym (add-one h)) (record {
            left = k;
            rows = omega arith;
            numbers = omega (arith, n, line.1, length-append (picked foot h done) (rows_up foot (suc h) k done));
            whole =
                ap₂ (λ (z : List ℤ) (v : ℕ). sets z v (numbers_of (spot_at c m key foot) (rows_up foot (suc h) k done))) (line.0 ∙ ap (sets now o) same) long
                ∙ sym (sets_append now o (numbers_of (spot_at c m key foot) (picked foot h done)) (numbers_of (spot_at c m key foot) (rows_up foot (suc h) k done)))
                ∙ ap (sets now o) (sym (numbers-append (spot_at c m key foot) (picked foot h done) (rows_up foot (suc h) k done) (e h)))
                ∙ u;
          })

  pub sheet_end : top ≤ h → now ≡ sets before 0 (numbers_of (spot_at c m key foot) (rows_up foot 0 top done))
  sheet_end l = go w.left w.rows w.whole
    where
      go : (k : ℕ) → h + k ≡ top → sets now o (numbers_of (spot_at c m key foot) (rows_up foot h k done)) ≡ sets before 0 (numbers_of (spot_at c m key foot) (rows_up foot 0 top done)) → now ≡ sets before 0 (numbers_of (spot_at c m key foot) (rows_up foot 0 top done))
      go zero i u = u
      go (suc k) i u = absurd (omega arith)
