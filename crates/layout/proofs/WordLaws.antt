-- What a record holds and its words: a word read, and a word set.
-- Assumes nothing.
use mathlib.Core.Bool.{cond}
use mathlib.Core.List.{List, [], ◌∷◌, ◌++◌}
use mathlib.Core.Path.{◌≡◌, refl, ap, ap₂, sym, ◌∙◌}
use Prim.Native.Nat.{ℕ, zero, suc, ◌+◌, ◌<◌, ◌≤◌}
use native.Mathlib.Omega.{arith}
use borrow.Author.Tests.{ne_eqb, eq-eqb}
use lib.Dec.{eqb}
use lib.ListN.{length, get_or, set, drop, get_or-append}
use lib.Seq.{set-append_left, get_or-append-add}
use Rattle.layout.specs.Table.{neighbour_word, link_word, edge_word, Fields, tab, shared_words, own_words, words_of}

-- f with the value x at w
abbrev pub bump : (ℕ → ℕ) → ℕ → ℕ → ℕ → ℕ
bump f w x k = cond (eqb k w) x (f k)

bump_at : (f : ℕ → ℕ) (w x : ℕ) → bump f w x w ≡ x
bump_at f w x = rw (eq-eqb w w refl)

bump_off : (f : ℕ → ℕ) (w x k : ℕ) → (k ≡ w → ⊥) → bump f w x k ≡ f k
bump_off f w x k h = rw (ne_eqb k w h)

tab_cong : (i n : ℕ) (f g : ℕ → ℕ) → ((k : ℕ) → i ≤ k → k < i + n → f k ≡ g k) → tab i n f ≡ tab i n g
tab_cong i zero f g h = refl
tab_cong i (suc n) f g h = ap₂ (λ (x : ℕ) (l : List ℕ). x ∷ l) (h i (omega arith) (omega arith)) (tab_cong (suc i) n f g (λ k p q. h k (omega arith) (omega arith)))

set-tab : (i n j : ℕ) (f : ℕ → ℕ) (x : ℕ) → j < n → set (tab i n f) j x ≡ tab i n (bump f (i + j) x)
set-tab i zero j f x h = absurd (omega arith)
set-tab i (suc n) zero f x h =
    let e : i + 0 ≡ i = omega arith in
    rw e (ap₂ (λ (y : ℕ) (l : List ℕ). y ∷ l) (sym (bump_at f i x)) (tab_cong (suc i) n f (bump f i x) (λ k p q. sym (bump_off f i x k (λ z. omega arith)))))
set-tab i (suc n) (suc j) f x h =
    let e : i + suc j ≡ suc i + j = omega arith in
    rw e (ap₂ (λ (y : ℕ) (l : List ℕ). y ∷ l) (sym (bump_off f (suc i + j) x i (λ z. omega arith))) (set-tab (suc i) n j f x (omega arith)))

get_d_tab : (i n j : ℕ) (f : ℕ → ℕ) → j < n → get_or (tab i n f) j 0 ≡ f (i + j)
get_d_tab i zero j f h = absurd (omega arith)
get_d_tab i (suc n) zero f h = ap f (omega arith)
get_d_tab i (suc n) (suc j) f h = get_d_tab (suc i) n j f (omega arith) ∙ ap f (omega arith)

pub set-append-add : (xs ys : List ℕ) (i v : ℕ) → set (xs ++ ys) (length xs + i) v ≡ xs ++ set ys i v
set-append-add [] ys i v = ap (λ (k : ℕ). set ys k v) (omega arith)
set-append-add (x ∷ xs) ys i v =
    let e : length (x ∷ xs) + i ≡ suc (length xs + i) = omega arith in
    rw e (ap (λ (l : List ℕ). x ∷ l) (set-append-add xs ys i v))

-- a child word set
abbrev pub with_child : Fields → ℕ → ℕ → Fields
with_child r w x = record { parent = r.parent; child = bump r.child w x; neighbour = r.neighbour; link = r.link; visits = r.visits; need = r.need; first = r.first; edge = r.edge }

-- a neighbour's ref and its step set
abbrev pub with_side : Fields → ℕ → ℕ → ℕ → Fields
with_side r d y s = record { parent = r.parent; child = r.child; neighbour = bump r.neighbour d y; link = bump r.link d s; visits = r.visits; need = r.need; first = r.first; edge = r.edge }

-- an edge's count set
abbrev pub with_edge : Fields → ℕ → ℕ → Fields
with_edge r d x = record { parent = r.parent; child = r.child; neighbour = r.neighbour; link = r.link; visits = r.visits; need = r.need; first = r.first; edge = bump r.edge d x }

-- four values, and a store into the one at d
set_four : (f : ℕ → ℕ) (l : List ℕ) (d x : ℕ) → d < 4 → set (tab 0 4 f ++ l) d x ≡ tab 0 4 (bump f d x) ++ l
set_four f l d x h =
    let e : 0 + d ≡ d = omega arith in
    set-append_left (tab 0 4 f) l d x (omega arith)
    ∙ ap (λ (k : List ℕ). k ++ l) (set-tab 0 4 d f x (omega arith) ∙ ap (λ (k : ℕ). tab 0 4 (bump f k x)) e)

get_four : (f : ℕ → ℕ) (l : List ℕ) (d : ℕ) → d < 4 → get_or (tab 0 4 f ++ l) d 0 ≡ f d
get_four f l d h = get_or-append (tab 0 4 f) l 0 d (omega arith) ∙ get_d_tab 0 4 d f (omega arith) ∙ ap f (omega arith)

module _ (r : Fields) where
  pub words_child : (w x : ℕ) → 0 < w → w < 10 → set (words_of r) w x ≡ words_of (with_child r w x)
  words_child zero x a b = absurd (omega arith)
  words_child (suc j) x a b =
      let e : 1 + j ≡ suc j = omega arith in
      ap (λ (l : List ℕ). r.parent ∷ l)
      (set-append_left (tab 1 9 r.child) (tab 0 4 r.neighbour ++ own_words r) j x (omega arith)
      ∙ ap (λ (l : List ℕ). l ++ (tab 0 4 r.neighbour ++ own_words r)) (set-tab 1 9 j r.child x (omega arith) ∙ ap (λ (k : ℕ). tab 1 9 (bump r.child k x)) e))

  pub words-side : (d y s : ℕ) → d < 4 → set (set (words_of r) (neighbour_word d) y) (link_word d) s ≡ words_of (with_side r d y s)
  words-side d y s h =
      let near : List ℕ = r.parent ∷ tab 1 9 r.child in
      let more : List ℕ = near ++ tab 0 4 (bump r.neighbour d y) in
      ap (λ (l : List ℕ). set l (link_word d) s) (set-append-add near (tab 0 4 r.neighbour ++ own_words r) d y ∙ ap (λ (l : List ℕ). near ++ l) (set_four r.neighbour (own_words r) d y h))
      ∙ set-append-add more (own_words r) d s
      ∙ ap (λ (l : List ℕ). more ++ l) (set_four r.link (drop 4 (own_words r)) d s h)

  -- the words before the edges' counts
  fore : List ℕ
  fore = shared_words r ++ tab 0 4 r.link ++ (r.visits ∷ r.need ∷ r.first ∷ [])

  pub words_edge : (d x : ℕ) → d < 4 → set (words_of r) (edge_word d) x ≡ words_of (with_edge r d x)
  unfolding fore
  words_edge d x h = set-append-add fore (tab 0 4 r.edge) d x ∙ ap (λ (l : List ℕ). fore ++ l) (set_four r.edge [] d x h)

  pub edge_of : (d : ℕ) → d < 4 → get_or (words_of r) (edge_word d) 0 ≡ r.edge d
  unfolding fore
  edge_of d h = get_or-append-add fore (tab 0 4 r.edge) d 0 ∙ get_four r.edge [] d h

  pub child_of : (w : ℕ) → 0 < w → w < 10 → get_or (words_of r) w 0 ≡ r.child w
  child_of zero a b = absurd (omega arith)
  child_of (suc j) a b =
      get_or-append (tab 1 9 r.child) (tab 0 4 r.neighbour ++ own_words r) 0 j (omega arith)
      ∙ get_d_tab 1 9 j r.child (omega arith)
      ∙ ap r.child (omega arith)

  pub neighbour_of : (d : ℕ) → d < 4 → get_or (words_of r) (neighbour_word d) 0 ≡ r.neighbour d
  neighbour_of d h = get_or-append-add (r.parent ∷ tab 1 9 r.child) (tab 0 4 r.neighbour ++ own_words r) d 0 ∙ get_four r.neighbour (own_words r) d h

  pub link_of_lem : (d : ℕ) → d < 4 → get_or (words_of r) (link_word d) 0 ≡ r.link d
  link_of_lem d h = get_or-append-add (shared_words r) (own_words r) d 0 ∙ get_four r.link (drop 4 (own_words r)) d h

-- records that hold the same have the same words
pub words_cong : (r q : Fields) → r.parent ≡ q.parent → ((k : ℕ) → 0 < k → k < 10 → r.child k ≡ q.child k) → ((k : ℕ) → k < 4 → r.neighbour k ≡ q.neighbour k) → ((k : ℕ) → k < 4 → r.link k ≡ q.link k)
    → r.visits ≡ q.visits → r.need ≡ q.need → r.first ≡ q.first → ((k : ℕ) → k < 4 → r.edge k ≡ q.edge k) → words_of r ≡ words_of q
words_cong r q a b c d x y z e =
    ap₂ (λ (l m : List ℕ). l ++ m)
    (ap₂ (λ (w : ℕ) (l : List ℕ). w ∷ l) a (ap₂ (λ (l m : List ℕ). l ++ m) (tab_cong 1 9 r.child q.child (λ k i j. b k i j)) (tab_cong 0 4 r.neighbour q.neighbour (λ k i j. c k j))))
    (ap₂ (λ (l m : List ℕ). l ++ m) (tab_cong 0 4 r.link q.link (λ k i j. d k j))
    (ap₂ (λ (w : ℕ) (l : List ℕ). w ∷ l) x (ap₂ (λ (w : ℕ) (l : List ℕ). w ∷ l) y (ap₂ (λ (w : ℕ) (l : List ℕ). w ∷ l) z (tab_cong 0 4 r.edge q.edge (λ k i j. e k j))))))
