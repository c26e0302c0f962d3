-- A table by its rows, and a store into one of them: rows of any width, each the row of a key.
-- Assumes nothing.
use mathlib.Core.Bool.{Bool, true, false, cond, true≢false}
use mathlib.Core.List.Memᴰ
use mathlib.Core.List.{List, [], ◌∷◌, ◌++◌, append-nil, append_assoc, Memᴰ}
use mathlib.Core.Logic.{⊎_elim}
use mathlib.Core.Path.{◌≡◌, refl, ap, ap₂, sym, ◌∙◌, subst}
use Prim.Native.Nat.{ℕ, zero, suc, ◌+◌, ◌-◌, ◌*◌, ◌<◌, ◌≤◌}
use native.Mathlib.Omega.{arith}
use lib.ListN.{length, length-append, length-set, length-replicate, length-drop, drop_of_length-le, get_or, set, drop, replicate, replicate-append-replicate, get_or-append}
use lib.Seq.{set-append_left, get_or-append-add, sets}
use Rattle.grid.specs.declared.Corner.{Corner}
use Rattle.grid.specs.Grid.{same, corners_from}
use Rattle.layout.specs.Table.{record_of, records_of, table_of}
use Rattle.lists.specs.Lists.{find, place, Distinct}
use Rattle.tree.specs.Nodes.{nodes_of}
use Rattle.tree_laws.specs.State.{state_of, record_by, rows_by, filled, table_by}
use Rattle.grid.proofs.CornerLaws.{same_refl, same_sound}
use Rattle.layout.proofs.WordLaws.{set-append-add}

-- the table of a walk is that of its state
records-rows : (ps l : List Corner) → records_of ps (nodes_of ps) l ≡ rows_by (record_by (state_of ps)) l
records-rows ps [] = refl
records-rows ps (a ∷ l) = ap (λ (m : List ℕ). record_of ps (nodes_of ps) a ++ m) (records-rows ps l)

pub table_state : (words : ℕ) (c : Corner) (ds : List ℕ) → table_of words c ds ≡ table_by words (state_of (corners_from c ds))
table_state words c ds = ap (filled words) (records-rows (corners_from c ds) (nodes_of (corners_from c ds)))

module _ {A : Type 0} where
  pub rows_append : (R : A → List ℕ) (l m : List A) → rows_by R (l ++ m) ≡ rows_by R l ++ rows_by R m
  rows_append R [] m = refl
  rows_append R (a ∷ l) m = ap (λ (x : List ℕ). R a ++ x) (rows_append R l m) ∙ sym (append_assoc (R a) (rows_by R l) (rows_by R m))

  pub rows_cong : (R Q : A → List ℕ) (l : List A) → ((a : A) → Memᴰ a l → R a ≡ Q a) → rows_by R l ≡ rows_by Q l
  rows_cong R Q [] h = refl
  rows_cong R Q (a ∷ l) h = ap₂ (λ (x y : List ℕ). x ++ y) (h a (Memᴰ.head refl)) (rows_cong R Q l (λ b m. h b (Memᴰ.tail m)))

  pub length-rows : {width : ℕ} (R : A → List ℕ) → ((a : A) → length (R a) ≡ width) → (l : List A) → length (rows_by R l) ≡ length l * width
  length-rows R wide [] = omega arith
  length-rows {width} R wide (a ∷ l) = omega (arith, length-append (R a) (rows_by R l), wide a, length-rows R wide l)

  -- rows of zeros
  pub rows_zero : (width : ℕ) (R : A → List ℕ) (l : List A) → ((x : A) → Memᴰ x l → R x ≡ replicate width 0) → rows_by R l ≡ replicate (length l * width) 0
  rows_zero width R [] h = let e : 0 ≡ 0 * width = omega arith in ap (λ (n : ℕ). replicate n 0) e
  rows_zero width R (x ∷ l) h =
      let e : width + length l * width ≡ suc (length l) * width = omega arith in
      ap₂ (λ (a b : List ℕ). a ++ b) (h x (Memᴰ.head refl)) (rows_zero width R l (λ y m. h y (Memᴰ.tail m)))
      ∙ replicate-append-replicate width (length l * width) 0
      ∙ ap (λ (n : ℕ). replicate n 0) e

  -- a stands once at most
  abbrev pub Once : A → List A → Type 0
  Once a ns = (l r : List A) → ns ≡ l ++ (a ∷ r) → Memᴰ a r → ⊥

  distinct_right : (l r : List A) (a : A) → Distinct (l ++ (a ∷ r)) → Memᴰ a r → ⊥
  distinct_right [] r a d m = d.0 m
  distinct_right (x ∷ l) r a d m = distinct_right l r a d.1 m

  pub once : (ns : List A) → Distinct ns → (a : A) → Once a ns
  once ns d a l r e = distinct_right l r a (subst (λ x. Distinct x) e d)

-- keys, which a test distinguishes
pub record Keys (A : Type 0) : Type 0 where
  pub test : A → A → Bool
  pub sound : (x y : A) → test x y ≡ true → x ≡ y
  pub self : (x : A) → test x x ≡ true

abbrev pub corners : Keys Corner
corners = record { test = same; sound = same_sound; self = same_refl }

module _ {A : Type 0} (K : Keys A) where
  -- rows with one of them replaced
  abbrev pub upd : (A → List ℕ) → A → List ℕ → A → List ℕ
  upd R a row x = cond (K.test x a) row (R x)

  pub upd-at : (R : A → List ℕ) (a : A) (row : List ℕ) → upd R a row a ≡ row
  upd-at R a row = rw (K.self a)

  pub upd_off : (R : A → List ℕ) (a : A) (row : List ℕ) (x : A) → (x ≡ a → ⊥) → upd R a row x ≡ R x
  upd_off R a row x f = go (K.test x a) refl
    where
      go : (b : Bool) → K.test x a ≡ b → upd R a row x ≡ R x
      go true p = absurd (f (K.sound x a p))
      go false p = rw p

  -- rows with one of them replaced are the rows Q: the new one is, and so are all others
  pub upd-is : (R Q : A → List ℕ) (a : A) (row : List ℕ) → row ≡ Q a → (x : A) → ((x ≡ a → ⊥) → R x ≡ Q x) → upd R a row x ≡ Q x
  upd-is R Q a row here x others = go (K.test x a) refl
    where
      go : (b : Bool) → K.test x a ≡ b → cond b row (R x) ≡ Q x
      go true p = here ∙ ap Q (sym (K.sound x a p))
      go false p = others (λ e. true≢false (sym (K.self a) ∙ ap (λ (y : A). K.test y a) (sym e) ∙ p))

  -- a row that was replaced once is replaced again
  upd-upd : (R : A → List ℕ) (a : A) (row new : List ℕ) (x : A) → upd (upd R a row) a new x ≡ upd R a new x
  upd-upd R a row new x = go (K.test x a)
    where
      go : (t : Bool) → cond t new (cond t row (R x)) ≡ cond t new (R x)
      go true = refl
      go false = refl

  upd_self : (R : A → List ℕ) (a x : A) → R x ≡ upd R a (R a) x
  upd_self R a x = go (K.test x a) refl
    where
      go : (b : Bool) → K.test x a ≡ b → R x ≡ upd R a (R a) x
      go true p = ap R (K.sound x a p) ∙ sym (rw p)
      go false p = sym (rw p)

  pub wide-upd : {width : ℕ} (R : A → List ℕ) → ((a : A) → length (R a) ≡ width) → (b : A) (row : List ℕ) → length row ≡ width → (a : A) → length (upd R b row a) ≡ width
  wide-upd {width} R wide b row h a = go (K.test a b)
    where
      go : (t : Bool) → length (cond t row (R a)) ≡ width
      go true = h
      go false = wide a

  -- the keys before and after the one that is found at the place 1 + u
  key_split : (ns : List A) (a : A) (u : ℕ) → find (K.test a) ns ≡ suc u → (l : List A) × (r : List A) × (ns ≡ l ++ (a ∷ r)) × (length l ≡ u) × (Memᴰ a l → ⊥)
  key_split [] a u e = absurd (omega arith)
  key_split (x ∷ ns) a u e = go (K.test a x) refl (find (K.test a) ns) refl u e (λ v h. key_split ns a v h)
    where
      go : (b : Bool) → K.test a x ≡ b → (n : ℕ) → find (K.test a) ns ≡ n → (u : ℕ) → place (K.test a x) (find (K.test a) ns) ≡ suc u
          → ((v : ℕ) → find (K.test a) ns ≡ suc v → (l : List A) × (r : List A) × (ns ≡ l ++ (a ∷ r)) × (length l ≡ v) × (Memᴰ a l → ⊥))
          → (l : List A) × (r : List A) × (x ∷ ns ≡ l ++ (a ∷ r)) × (length l ≡ u) × (Memᴰ a l → ⊥)
      go true p n q u e ih =
          let z : u ≡ 0 = let k : 1 ≡ suc u = sym (rw p) ∙ e in omega arith in
          ([], ns, ap (λ (y : A). y ∷ ns) (sym (K.sound a x p)), sym z, Memᴰ.not-nil)
      go false p zero q u e ih = absurd (let k : 0 ≡ suc u = sym (rw (p, q)) ∙ e in omega arith)
      go false p (suc n) q u e ih =
          let k : suc (suc n) ≡ suc u = sym (rw (p, q)) ∙ e in
          let h = ih n q in (
            x ∷ h.0,
            h.1,
            ap (λ (y : List A). x ∷ y) h.2,
            ap suc h.3 ∙ (omega arith),
            λ m. ⊎_elim (λ f. true≢false (sym (K.self a) ∙ ap (K.test a) f ∙ p)) h.4 (Memᴰ.cases_cons m),
          )

  module _ {width : ℕ} (R : A → List ℕ) (wide : (a : A) → length (R a) ≡ width) where
    rows_split : (ns l r : List A) (a : A) → ns ≡ l ++ (a ∷ r) → rows_by R ns ≡ rows_by R l ++ (R a ++ rows_by R r)
    rows_split ns l r a e = ap (rows_by R) e ∙ rows_append R l (a ∷ r)

    -- word w of the row before which this many stand
    word_place : (l : List A) (u w : ℕ) → length l ≡ u → u * width + w ≡ length (rows_by R l) + w
    word_place l u w e = let m : length l * width ≡ u * width = ap (λ (n : ℕ). n * width) e in omega (arith, length-rows R wide l)

    -- word w of the row of the key a
    pub row_read : (words : ℕ) (ns : List A) (a : A) (u w : ℕ) → find (K.test a) ns ≡ suc u → w < width → get_or (filled words (rows_by R ns)) (u * width + w) 0 ≡ get_or (R a) w 0
    row_read words ns a u w e h =
        let k = key_split ns a u e in
        let z : List ℕ = replicate (words - length (rows_by R ns)) 0 in
        ap (λ (j : ℕ). get_or (filled words (rows_by R ns)) j 0) (word_place k.0 u w k.3)
        ∙ ap (λ (l : List ℕ). get_or (l ++ z) (length (rows_by R k.0) + w) 0) (rows_split ns k.0 k.1 a k.2)
        ∙ ap (λ (l : List ℕ). get_or l (length (rows_by R k.0) + w) 0) (append_assoc (rows_by R k.0) (R a ++ rows_by R k.1) z ∙ ap (λ (l : List ℕ). rows_by R k.0 ++ l) (append_assoc (R a) (rows_by R k.1) z))
        ∙ get_or-append-add (rows_by R k.0) (R a ++ (rows_by R k.1 ++ z)) w 0
        ∙ get_or-append (R a) (rows_by R k.1 ++ z) 0 w (omega (arith, wide a))

    -- a row replaced, in the middle of the rows
    upd-rows : (ns l r : List A) (a : A) (row : List ℕ) → Once a ns → ns ≡ l ++ (a ∷ r) → (Memᴰ a l → ⊥) → rows_by (upd R a row) ns ≡ rows_by R l ++ (row ++ rows_by R r)
    upd-rows ns l r a row d e f =
        ap (rows_by (upd R a row)) e
        ∙ rows_append (upd R a row) l (a ∷ r)
        ∙ ap₂ (λ (x y : List ℕ). x ++ y)
        (rows_cong (upd R a row) R l (λ b m. upd_off R a row b (λ p. f (Memᴰ.cast (sym p) m))))
        (ap₂ (λ (x y : List ℕ). x ++ y) (upd-at R a row) (rows_cong (upd R a row) R r (λ b m. upd_off R a row b (λ p. d l r e (Memᴰ.cast (sym p) m)))))

    -- word w of the row of the key a is set
    pub row-set : (words : ℕ) (ns : List A) (a : A) (u w v : ℕ) → Once a ns → find (K.test a) ns ≡ suc u → w < width
        → set (filled words (rows_by R ns)) (u * width + w) v ≡ filled words (rows_by (upd R a (set (R a) w v)) ns)
    row-set words ns a u w v d e h =
        let k = key_split ns a u e in
        let l = rows_by R k.0 in
        let r = rows_by R k.1 in
        let z : List ℕ = replicate (words - length (rows_by R ns)) 0 in
        let s = rows_split ns k.0 k.1 a k.2 in
        let q = upd-rows ns k.0 k.1 a (set (R a) w v) d k.2 k.4 in
        let n : length (rows_by (upd R a (set (R a) w v)) ns) ≡ length (rows_by R ns) = ap length q ∙ length-append l (set (R a) w v ++ r) ∙ ap (λ (m : ℕ). length l + m) (length-append (set (R a) w v) r ∙ ap (λ (m : ℕ). m + length r) (length-set (R a) w v) ∙ sym (length-append (R a) r)) ∙ sym (length-append l (R a ++ r)) ∙ ap length (sym s) in
        ap (λ (j : ℕ). set (rows_by R ns ++ z) j v) (word_place k.0 u w k.3)
        ∙ ap (λ (x : List ℕ). set x (length l + w) v) (ap (λ (x : List ℕ). x ++ z) s ∙ append_assoc l (R a ++ r) z ∙ ap (λ (x : List ℕ). l ++ x) (append_assoc (R a) r z))
        ∙ set-append-add l (R a ++ (r ++ z)) w v
        ∙ ap (λ (x : List ℕ). l ++ x) (set-append_left (R a) (r ++ z) w v (omega (arith, wide a)) ∙ sym (append_assoc (set (R a) w v) r z))
        ∙ sym (append_assoc l (set (R a) w v ++ r) z)
        ∙ ap (λ (x : List ℕ). x ++ z) (sym q)
        ∙ ap (λ (m : ℕ). rows_by (upd R a (set (R a) w v)) ns ++ replicate (words - m) 0) (sym n)

    -- a row of zeros more is in the table already
    pub row_more : (words : ℕ) (ns : List A) (e : A) → (Memᴰ e ns → ⊥) → suc (length ns) * width ≤ words
        → filled words (rows_by R ns) ≡ filled words (rows_by (upd R e (replicate width 0)) (ns ++ (e ∷ [])))
    row_more words ns e f h =
        let rs = rows_by R ns in
        let z : List ℕ = replicate width 0 in
        let q : rows_by (upd R e z) (ns ++ (e ∷ [])) ≡ rs ++ z = rows_append (upd R e z) ns (e ∷ []) ∙ ap₂ (λ (x y : List ℕ). x ++ (y ++ [])) (rows_cong (upd R e z) R ns (λ b m. upd_off R e z b (λ p. f (Memᴰ.cast (sym p) m)))) (upd-at R e z) ∙ ap (λ (l : List ℕ). rs ++ l) (append-nil z) in
        let x : ℕ = 0 in
        let n : length (rs ++ z) ≡ length rs + width = length-append rs z ∙ ap (λ (m : ℕ). length rs + m) (length-replicate width x) in
        let t : words - length rs ≡ width + (words - (length rs + width)) = omega (arith, length-rows R wide ns) in
        ap (λ (m : ℕ). rs ++ replicate m 0) t
        ∙ ap (λ (x : List ℕ). rs ++ x) (sym (replicate-append-replicate width (words - (length rs + width)) 0))
        ∙ sym (append_assoc rs z (replicate (words - (length rs + width)) 0))
        ∙ ap (λ (m : ℕ). (rs ++ z) ++ replicate (words - m) 0) (sym n)
        ∙ ap (filled words) (sym q)

  pub row-set_again : {width : ℕ} (R : A → List ℕ) → ((a : A) → length (R a) ≡ width) → (words : ℕ) (ns : List A) (a : A) (row : List ℕ) (u w v : ℕ) → length row ≡ width → Once a ns → find (K.test a) ns ≡ suc u → w < width
      → set (filled words (rows_by (upd R a row) ns)) (u * width + w) v ≡ filled words (rows_by (upd R a (set row w v)) ns)
  row-set_again R wide words ns a row u w v k d e h =
      row-set (upd R a row) (wide-upd R wide a row k) words ns a u w v d e h
      ∙ ap (filled words) (rows_cong (upd (upd R a row) a (set (upd R a row a) w v)) (upd R a (set row w v)) ns (λ x m. upd-upd R a row (set (upd R a row a) w v) x ∙ ap (λ (l : List ℕ). upd R a (set l w v) x) (upd-at R a row)))

-- a row cleared word by word: f words are done
abbrev cleared : ℕ → List ℕ → List ℕ
cleared f row = replicate f 0 ++ drop f row

cleared-next : (f : ℕ) (row : List ℕ) → f < length row → set (cleared f row) f 0 ≡ cleared (suc f) row
cleared-next zero [] h = absurd (omega arith)
cleared-next zero (x ∷ row) h = refl
cleared-next (suc f) [] h = absurd (omega arith)
cleared-next (suc f) (x ∷ row) h = ap (λ (l : List ℕ). 0 ∷ l) (cleared-next f row (omega arith))

cleared-length : (f : ℕ) (row : List ℕ) → f ≤ length row → length (cleared f row) ≡ length row
cleared-length f row h = omega (arith, length-append (replicate f 0) (drop f row), let z : ℕ = 0 in length-replicate f z, length-drop f row)

cleared-all : {width : ℕ} (row : List ℕ) → length row ≡ width → cleared width row ≡ replicate width 0
cleared-all {width} row h = ap (λ (l : List ℕ). replicate width 0 ++ l) (drop_of_length-le row {i = width} (omega arith)) ∙ append-nil (replicate width 0)

module _ {A : Type 0} (K : Keys A) {width : ℕ} where
  -- a whole row cleared word by word
  sets_row : (R : A → List ℕ) → ((a : A) → length (R a) ≡ width) → (words : ℕ) (ns : List A) (a : A) (u : ℕ) → Once a ns → find (K.test a) ns ≡ suc u → (m f : ℕ) → f + m ≤ width
      → sets (filled words (rows_by (upd K R a (cleared f (R a))) ns)) (u * width + f) (replicate m 0) ≡ filled words (rows_by (upd K R a (cleared (f + m) (R a))) ns)
  sets_row R wide words ns a u d e zero f h = let z : f ≡ f + 0 = omega arith in ap (λ (k : ℕ). filled words (rows_by (upd K R a (cleared k (R a))) ns)) z
  sets_row R wide words ns a u d e (suc m) f h =
      let i : suc (u * width + f) ≡ u * width + suc f = omega arith in
      let j : suc f + m ≡ f + suc m = omega arith in
      let z : List ℕ = replicate m 0 in
      ap (λ (t : List ℕ). sets t (suc (u * width + f)) z)
      (row-set_again K R wide words ns a (cleared f (R a)) u f 0 (cleared-length f (R a) (omega (arith, wide a)) ∙ wide a) d e (omega arith)
      ∙ ap (λ (l : List ℕ). filled words (rows_by (upd K R a l) ns)) (cleared-next f (R a) (omega (arith, wide a))))
      ∙ ap (λ (k : ℕ). sets (filled words (rows_by (upd K R a (cleared (suc f) (R a))) ns)) k z) i
      ∙ sets_row R wide words ns a u d e m (suc f) (omega arith)
      ∙ ap (λ (k : ℕ). filled words (rows_by (upd K R a (cleared k (R a))) ns)) j

  pub row_clear : (R : A → List ℕ) → ((a : A) → length (R a) ≡ width) → (words : ℕ) (ns : List A) (a : A) (u : ℕ) → Once a ns → find (K.test a) ns ≡ suc u
      → sets (filled words (rows_by R ns)) (u * width) (replicate width 0) ≡ filled words (rows_by (upd K R a (replicate width 0)) ns)
  row_clear R wide words ns a u d e =
      let z : List ℕ = replicate width 0 in
      let i : u * width ≡ u * width + 0 = omega arith in
      let j : 0 + width ≡ width = omega arith in
      ap (λ (k : ℕ). sets (filled words (rows_by R ns)) k z) i
      ∙ ap (λ (t : List ℕ). sets (filled words t) (u * width + 0) z) (rows_cong R (upd K R a (R a)) ns (λ x m. upd_self K R a x))
      ∙ sets_row R wide words ns a u d e width 0 (omega arith)
      ∙ ap (λ (l : List ℕ). filled words (rows_by (upd K R a l) ns)) (ap (λ (k : ℕ). cleared k (R a)) j ∙ cleared-all (R a) (wide a))

  -- a store in each of two rows
  pub one_each : (R : A → List ℕ) → ((a : A) → length (R a) ≡ width) → (words : ℕ) (ns : List A) (a e : A) (u v w₁ x₁ w₂ x₂ : ℕ)
      → Once a ns → Once e ns → find (K.test a) ns ≡ suc u → find (K.test e) ns ≡ suc v → (e ≡ a → ⊥) → w₁ < width → w₂ < width
      → set (set (filled words (rows_by R ns)) (u * width + w₁) x₁) (v * width + w₂) x₂ ≡ filled words (rows_by (upd K (upd K R a (set (R a) w₁ x₁)) e (set (R e) w₂ x₂)) ns)
  one_each R wide words ns a e u v w₁ x₁ w₂ x₂ c d h k f i₁ i₂ =
      ap (λ (t : List ℕ). set t (v * width + w₂) x₂) (row-set K R wide words ns a u w₁ x₁ c h i₁)
      ∙ row-set K Q (wide-upd K R wide a (set (R a) w₁ x₁) (length-set (R a) w₁ x₁ ∙ wide a)) words ns e v w₂ x₂ d k i₂
      ∙ ap (λ (l : List ℕ). filled words (rows_by (upd K Q e (set l w₂ x₂)) ns)) (upd_off K R a (set (R a) w₁ x₁) e f)
    where
      Q : A → List ℕ
      Q = upd K R a (set (R a) w₁ x₁)

  -- two stores in each of two rows
  pub two-rows : (R : A → List ℕ) → ((a : A) → length (R a) ≡ width) → (words : ℕ) (ns : List A) (a e : A) (u v w₁ x₁ w₂ x₂ w₃ x₃ w₄ x₄ : ℕ)
      → Once a ns → Once e ns → find (K.test a) ns ≡ suc u → find (K.test e) ns ≡ suc v → (e ≡ a → ⊥) → w₁ < width → w₂ < width → w₃ < width → w₄ < width
      → set (set (set (set (filled words (rows_by R ns)) (u * width + w₁) x₁) (u * width + w₂) x₂) (v * width + w₃) x₃) (v * width + w₄) x₄
      ≡ filled words (rows_by (upd K (upd K R a (set (set (R a) w₁ x₁) w₂ x₂)) e (set (set (R e) w₃ x₃) w₄ x₄)) ns)
  two-rows R wide words ns a e u v w₁ x₁ w₂ x₂ w₃ x₃ w₄ x₄ c d h k f i₁ i₂ i₃ i₄ =
      ap (λ (t : List ℕ). set (set (set t (u * width + w₂) x₂) (v * width + w₃) x₃) (v * width + w₄) x₄) (row-set K R wide words ns a u w₁ x₁ c h i₁)
      ∙ ap (λ (t : List ℕ). set (set t (v * width + w₃) x₃) (v * width + w₄) x₄) (row-set_again K R wide words ns a (set (R a) w₁ x₁) u w₂ x₂ (length-set (R a) w₁ x₁ ∙ wide a) c h i₂)
      ∙ ap (λ (t : List ℕ). set t (v * width + w₄) x₄) (row-set K Q wide-Q words ns e v w₃ x₃ d k i₃)
      ∙ row-set_again K Q wide-Q words ns e (set (Q e) w₃ x₃) v w₄ x₄ (length-set (Q e) w₃ x₃ ∙ wide-Q e) d k i₄
      ∙ ap (λ (l : List ℕ). filled words (rows_by (upd K Q e (set (set l w₃ x₃) w₄ x₄)) ns)) (upd_off K R a (set (set (R a) w₁ x₁) w₂ x₂) e f)
    where
      Q : A → List ℕ
      Q = upd K R a (set (set (R a) w₁ x₁) w₂ x₂)

      wide-Q : (b : A) → length (Q b) ≡ width
      wide-Q = wide-upd K R wide a (set (set (R a) w₁ x₁) w₂ x₂) (length-set (set (R a) w₁ x₁) w₂ x₂ ∙ length-set (R a) w₁ x₁ ∙ wide a)
