-- Lines numbered one part after the other.
-- Assumes nothing.
use mathlib.Core.Path.{◌≡◌, refl, sym, ap, ap₂, ◌∙◌}
use mathlib.Core.Bool.{Bool, true, false, cond}
use mathlib.Core.List.{List, [], ◌∷◌, ◌++◌, append_assoc}
use Prim.Native.Nat.{ℕ, zero, suc, ◌+◌, ◌*◌, ◌/◌, ◌%◌, ◌<◌, ◌≤◌}
use native.Mathlib.Omega.{arith}
use native.Mathlib.Nat.{add-zero}
use borrow.Author.Tests.{ne_eqb}
use lib.Dec.{eqb, ltb}
use lib.ListN.{length, length-append}
use Rattle.lists.specs.Lists.{tally}
use Rattle.line_frame.specs.Program.{feeds_in}
use Rattle.line_frame.proofs.OutputLaws.{feeds_in-append}
use Rattle.sheet.specs.Decimal.{decimal_of}
use Rattle.sheet.specs.Sizes.{most_decimals, most_cell}
use Rattle.sheet.specs.Entry.{cell_of}
use Rattle.sheet.specs.declared.Margin.{Margin}
use Rattle.sheet.specs.Sheet.{numbered_from, head_of, line_of, begins_after, page_of, margin_after}
use Rattle.sheet.proofs.SizeLaws.{length-cell_of}

next-number : (b n : ℕ) → cond (eqb b 10) (suc n) n ≡ n + tally (eqb b 10)
next-number b n = go (eqb b 10)
  where
    go : (t : Bool) → cond t (suc n) n ≡ n + tally t
    go true = omega arith
    go false = omega arith

-- the number of the line after them
pub numbered_append : (begins : Bool) (n : ℕ) (r s : List ℕ) → numbered_from begins n (r ++ s) ≡ numbered_from begins n r ++ numbered_from (begins_after begins r) (n + feeds_in r) s
unfolding numbered_from begins_after
numbered_append begins n [] s = ap (λ (m : ℕ). numbered_from begins m s) (sym (add-zero n))
numbered_append begins n (b ∷ r) s =
    let m : ℕ = cond (eqb b 10) (suc n) n in
    let e : m + feeds_in r ≡ n + feeds_in (b ∷ r) = omega (arith, next-number b n) in
    ap (λ (l : List ℕ). cond begins (cell_of n) [] ++ (b ∷ l)) (numbered_append (eqb b 10) m r s ∙ ap (λ (k : ℕ). numbered_from (eqb b 10) m r ++ numbered_from (begins_after (eqb b 10) r) k s) e)
    ∙ sym (append_assoc (cond begins (cell_of n) []) (b ∷ numbered_from (eqb b 10) m r) _)

pub begins_append : (begins : Bool) (r s : List ℕ) → begins_after begins (r ++ s) ≡ begins_after (begins_after begins r) s
unfolding begins_after
begins_append begins [] s = refl
begins_append begins (b ∷ r) s = begins_append (eqb b 10) r s

-- a cell and a byte for each byte at most
pub numbered_most : (begins : Bool) (n : ℕ) (s : List ℕ) → length (numbered_from begins n s) ≤ suc most_cell * length s
unfolding numbered_from
numbered_most begins n [] = omega arith
numbered_most begins n (b ∷ s) = go begins (numbered_from (eqb b 10) (cond (eqb b 10) (suc n) n) s) (numbered_most (eqb b 10) (cond (eqb b 10) (suc n) n) s)
  where
    go : (t : Bool) (l : List ℕ) → length l ≤ suc most_cell * length s → length (cond t (cell_of n) [] ++ (b ∷ l)) ≤ suc most_cell * suc (length s)
    go true l h = omega (arith, length-append (cell_of n) (b ∷ l), length-cell_of n)
    go false l h = omega arith

-- not more line feeds than bytes
pub feeds_most : (s : List ℕ) → feeds_in s ≤ length s
feeds_most [] = omega arith
feeds_most (b ∷ s) = go (eqb b 10) (feeds_most s)
  where
    go : (t : Bool) {m n : ℕ} → m ≤ n → tally t + m ≤ suc n
    go true h = omega arith
    go false h = omega arith

pub decimal_feeds : (k n : ℕ) → feeds_in (decimal_of k n) ≡ 0
unfolding decimal_of
decimal_feeds zero n = refl
decimal_feeds (suc k) n = go (ltb n 10) (decimal_of k (n / 10)) (n % 10) (decimal_feeds k (n / 10)) (ne_eqb (48 + n % 10) 10 (λ e. omega arith))
  where
    go : (b : Bool) (l : List ℕ) (d : ℕ) → feeds_in l ≡ 0 → eqb (48 + d) 10 ≡ false → feeds_in (cond b [] l ++ ((48 + d) ∷ [])) ≡ 0
    go true l d h e = omega (arith, ap tally e)
    go false l d h e = omega (arith, feeds_in-append l ((48 + d) ∷ []), ap tally e)

pub cell_feeds : (n : ℕ) → feeds_in (cell_of n) ≡ 0
cell_feeds n = omega (arith, feeds_in-append (decimal_of most_decimals n) (44 ∷ []), decimal_feeds most_decimals n)

-- no line is lost and none is added
pub numbered_feeds : (begins : Bool) (n : ℕ) (s : List ℕ) → feeds_in (numbered_from begins n s) ≡ feeds_in s
unfolding numbered_from
numbered_feeds begins n [] = refl
numbered_feeds begins n (b ∷ s) =
    go begins (numbered_from (eqb b 10) (cond (eqb b 10) (suc n) n) s) (numbered_feeds (eqb b 10) (cond (eqb b 10) (suc n) n) s)
  where
    go : (t : Bool) (l : List ℕ) → feeds_in l ≡ feeds_in s → feeds_in (cond t (cell_of n) [] ++ (b ∷ l)) ≡ feeds_in (b ∷ s)
    go true l h = omega (arith, feeds_in-append (cell_of n) (b ∷ l), cell_feeds n)
    go false l h = omega arith

-- the header is there once a line has a number
pub head_none : (n : ℕ) → 0 < n → head_of n ≡ []
head_none zero h = absurd (omega arith)
head_none (suc n) h = refl

line_some : (n : ℕ) → 0 < n → line_of n ≡ n
line_some zero h = absurd (omega arith)
line_some (suc n) h = refl

pub line_above : (n : ℕ) → (0 < line_of n) × (line_of n ≤ suc n)
line_above zero = (omega arith, omega arith)
line_above (suc n) = (omega arith, omega arith)

pub head_most : (n : ℕ) → length (head_of n) ≤ 58
head_most zero = omega arith
head_most (suc n) = omega arith

-- a sheet in two parts: the header comes once, and the number goes on
pub page_append : (m : Margin) (r s : List ℕ) → page_of m (r ++ s) ≡ page_of m r ++ page_of (margin_after m r) s
page_append m r s =
    let n : ℕ = line_of m.line in
    let k : 0 < n + feeds_in r = omega (arith, line_above m.line) in
    ap (λ (l : List ℕ). head_of m.line ++ l) (numbered_append m.begins n r s)
    ∙ sym (append_assoc (head_of m.line) (numbered_from m.begins n r) (numbered_from (begins_after m.begins r) (n + feeds_in r) s))
    ∙ ap₂ (λ (h : List ℕ) (i : ℕ). page_of m r ++ (h ++ numbered_from (begins_after m.begins r) i s)) (sym (head_none (n + feeds_in r) k)) (sym (line_some (n + feeds_in r) k))

pub margin_append : (m : Margin) (r s : List ℕ) → margin_after m (r ++ s) ≡ margin_after (margin_after m r) s
margin_append m r s =
    let n : ℕ = line_of m.line in
    let e : n + feeds_in (r ++ s) ≡ line_of (n + feeds_in r) + feeds_in s =
    omega (arith, feeds_in-append r s, line_some (n + feeds_in r) (omega (arith, line_above m.line)))
    in
    ap₂ {A = ℕ} {B = Bool} {C = Margin} (λ (i : ℕ) (b : Bool). record { line = i; begins = b }) e (begins_append m.begins r s)

pub page_most : (m : Margin) (s : List ℕ) → length (page_of m s) ≤ 58 + suc most_cell * length s
page_most m s =
    omega (arith, length-append (head_of m.line) (numbered_from m.begins (line_of m.line) s), head_most m.line, numbered_most m.begins (line_of m.line) s)
