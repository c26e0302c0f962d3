-- Threading a walk step by step.
-- Assumes nothing.
use mathlib.Core.Path.{◌≡◌, refl, sym, ap, ◌∙◌, subst}
use mathlib.Core.Bool.{Bool, true, false}
use mathlib.Core.List.{List, ◌∷◌}
use Prim.Native.Nat.{ℕ, suc, ◌+◌, ◌<◌, ◌≤◌}
use native.Mathlib.Omega.{arith}
use native.Mathlib.Numerals.{add-one}
use native.Mathlib.Decide.{dec_lt, ℕ_discrete}
use lib.ListN.{length, get_or, drop, set, get_or-eq_default}
use lib.Seq.{drop-cons, drop-drop, get_or-drop, get_or-set_same, get_or-set_other}
use Rattle.column_laws.specs.Columns.{col_after, row_after}
use Rattle.room_thread_laws.specs.Threads.{Stays, Leads, Double, Parted, Scattered, Laid, Laying, along_from, columns_from, rows_from}
use Rattle.room_thread_laws.proofs.ThreadLaws.{thread_none, thread_step, last_le}

tail : (l : List ℕ) (i a : ℕ) (r : List ℕ) → drop i l ≡ a ∷ r → drop (suc i) l ≡ r
tail l i a r e = ap (λ (n : ℕ). drop n l) (sym (add-one i)) ∙ sym (drop-drop 1 i l) ∙ ap (drop 1) e

first : (l : List ℕ) (i a : ℕ) (r : List ℕ) → drop i l ≡ a ∷ r → get_or l i 0 ≡ a
first l i a r e = ap (λ (n : ℕ). get_or l n 0) here ∙ sym (get_or-drop i l 0 0) ∙ ap (λ (s : List ℕ). get_or s 0 0) e
  where
    here : i ≡ i + 0
    here = omega arith

pub lay_start : (chain : List ℕ) (m : ℕ) (head next hs : List ℕ) → ((c : ℕ) → get_or head c 0 ≡ 0) → ((j : ℕ) → get_or next j 0 ≡ 0) → ((j : ℕ) → get_or hs j 0 ≡ 0) → Laying chain m m m 0 head next hs
lay_start chain m head next hs f g h = record { laid = record { threaded = thread_none (columns_from m chain) head next f; heights = λ j l. let z : ⊥ = omega arith in absurd z; nexts_end = λ j l. g j; heights_end = λ j l. h j }; columns = refl; rows = refl }

module _ (chain : List ℕ) (m x y i : ℕ) (head next hs : List ℕ) (w : Laying chain m x y i head next hs) (l : i < length chain) where
  columns_here : drop i (columns_from m chain) ≡ x ∷ columns_from (col_after x (get_or chain i 0)) (drop (suc i) chain)
  unfolding along_from
  columns_here = w.columns ∙ ap (columns_from x) (drop-cons chain i 0 l)

  rows_here : drop i (rows_from m chain) ≡ y ∷ rows_from (row_after y (get_or chain i 0)) (drop (suc i) chain)
  unfolding along_from
  rows_here = w.rows ∙ ap (rows_from y) (drop-cons chain i 0 l)

  lay_column : get_or (columns_from m chain) i 0 ≡ x
  lay_column = first (columns_from m chain) i x (columns_from (col_after x (get_or chain i 0)) (drop (suc i) chain)) columns_here

  lay_row : get_or (rows_from m chain) i 0 ≡ y
  lay_row = first (rows_from m chain) i y (rows_from (row_after y (get_or chain i 0)) (drop (suc i) chain)) rows_here

  step : x < length head → i < length next → i < length hs → Laying chain m (col_after x (get_or chain i 0)) (row_after y (get_or chain i 0)) (suc i) (set head x (suc i)) (set next i (get_or head x 0)) (set hs i y)
  step a b d = record {
    laid = record { threaded = thread_step (columns_from m chain) head next i x (sym lay_column) a b w.laid.threaded; heights = heights; nexts_end = nexts_end; heights_end = heights_end };
    columns = tail (columns_from m chain) i x (columns_from (col_after x (get_or chain i 0)) (drop (suc i) chain)) columns_here;
    rows = tail (rows_from m chain) i y (rows_from (row_after y (get_or chain i 0)) (drop (suc i) chain)) rows_here;
  }
    where
      heights : (j : ℕ) → j < suc i → get_or (set hs i y) j 0 ≡ get_or (rows_from m chain) j 0
      heights j h = go (ℕ_discrete j i)
        where
          go : Dec (j ≡ i) → get_or (set hs i y) j 0 ≡ get_or (rows_from m chain) j 0
          go (yes e) = ap (λ (n : ℕ). get_or (set hs i y) n 0) e ∙ get_or-set_same hs i y 0 d ∙ sym lay_row ∙ ap (λ (n : ℕ). get_or (rows_from m chain) n 0) (sym e)
          go (no e) = get_or-set_other hs i j y 0 e ∙ w.laid.heights j (omega arith)

      nexts_end : (j : ℕ) → suc i ≤ j → get_or (set next i (get_or head x 0)) j 0 ≡ 0
      nexts_end j h = get_or-set_other next i j (get_or head x 0) 0 (λ e. omega arith) ∙ w.laid.nexts_end j (omega arith)

      heights_end : (j : ℕ) → suc i ≤ j → get_or (set hs i y) j 0 ≡ 0
      heights_end j h = get_or-set_other hs i j y 0 (λ e. omega arith) ∙ w.laid.heights_end j (omega arith)

  pub lay_step : (x' y' : ℕ) → x' ≡ col_after x (get_or chain i 0) → y' ≡ row_after y (get_or chain i 0) → x < length head → i < length next → i < length hs → Laying chain m x' y' (i + 1) (set head x (i + 1)) (set next i (get_or head x 0)) (set hs i y)
  lay_step x' y' e f a b d =
      subst (λ (z : ℕ). Laying chain m z y' (i + 1) (set head x (i + 1)) (set next i (get_or head x 0)) (set hs i y)) (sym e)
      (subst (λ (z : ℕ). Laying chain m (col_after x (get_or chain i 0)) z (i + 1) (set head x (i + 1)) (set next i (get_or head x 0)) (set hs i y)) (sym f)
      (subst (λ (z : ℕ). Laying chain m (col_after x (get_or chain i 0)) (row_after y (get_or chain i 0)) z (set head x z) (set next i (get_or head x 0)) (set hs i y)) (sym (add-one i)) (step a b d)))

pub lay_bounds : (chain : List ℕ) (m x y i : ℕ) (head next hs : List ℕ) (room : ℕ) → Laying chain m x y i head next hs → Stays chain m room → i < length chain → (0 < x) × (x < room) × (0 < y) × (y < room)
lay_bounds chain m x y i head next hs room w s l =
    let e = lay_column chain m x y i head next hs w l in
    let f = lay_row chain m x y i head next hs w l in
    (omega (arith, e, (s.columns i l).0), omega (arith, e, (s.columns i l).1), omega (arith, f, (s.rows i l).0), omega (arith, f, (s.rows i l).1))

-- threads that are laid lead back
pub laid_leads : (chain : List ℕ) (m : ℕ) (head next hs : List ℕ) (room : ℕ) → Stays chain m room → 0 < room → length next ≤ length hs → Laid chain m (length chain) head next hs → Leads next hs room
laid_leads chain m head next hs room s r b t = record { falls = falls; heights = heights; both = b }
  where
    falls : (j : ℕ) → get_or next j 0 ≤ j
    falls j = go (dec_lt j (length chain))
      where
        go : Dec (j < length chain) → get_or next j 0 ≤ j
        go (yes l) = omega (arith, t.threaded.nexts j l, last_le (columns_from m chain) (get_or (columns_from m chain) j 0) j)
        go (no l) = omega (arith, t.nexts_end j (omega arith))

    heights : (j : ℕ) → get_or hs j 0 < room
    heights j = go (dec_lt j (length chain))
      where
        go : Dec (j < length chain) → get_or hs j 0 < room
        go (yes l) = omega (arith, t.heights j l, (s.rows j l).1)
        go (no l) = omega (arith, t.heights_end j (omega arith))

pub laid_heads : (chain : List ℕ) (m : ℕ) (head next hs : List ℕ) → length chain ≤ length next → Laid chain m (length chain) head next hs → (c : ℕ) → get_or head c 0 ≤ length next
laid_heads chain m head next hs l t c = go (dec_lt c (length head))
  where
    go : Dec (c < length head) → get_or head c 0 ≤ length next
    go (yes h) = omega (arith, t.threaded.heads c h, last_le (columns_from m chain) c (length chain))
    go (no h) = omega (arith, get_or-eq_default head 0 {n = c} (omega arith))

-- the heights that are laid are the walk's
pub laid_scattered : (chain : List ℕ) (m : ℕ) (head next hs : List ℕ) (room : ℕ) (r : Bool) → Stays chain m room → length head ≡ room → Laid chain m (length chain) head next hs → Parted head next hs r → Scattered chain m r
laid_scattered chain m head next hs room r s e t p = record { yes = λ z d. q.0 z (there d); no = λ z. back (q.1 z) }
  where
    xs : List ℕ
    xs = columns_from m chain

    ys : List ℕ
    ys = rows_from m chain

    n : ℕ
    n = length chain

    q : (r ≡ true → Double xs hs n → ⊥) × (r ≡ false → Double xs hs n)
    q = p xs n t.threaded (λ j l. omega (arith, (s.columns j l).1))

    there : Double xs ys n → Double xs hs n
    there d = record { j = d.j; k = d.k; earlier = d.earlier; within = d.within; column = d.column; height = t.heights d.j (omega (arith, d.earlier, d.within)) ∙ d.height ∙ sym (t.heights d.k d.within) }

    back : Double xs hs n → Double xs ys n
    back d = record { j = d.j; k = d.k; earlier = d.earlier; within = d.within; column = d.column; height = sym (t.heights d.j (omega (arith, d.earlier, d.within))) ∙ d.height ∙ t.heights d.k d.within }
